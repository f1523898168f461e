use Rattle.trace_text.proofs.SpellingLemmas.{text_spelled, text_read, printed_is_read}
use Rattle.trace_text.proofs.laws.fields_are_texts.Goals as goal

pub returns : goal.returns
returns c = record { stands = λ field text. (text_spelled field text, text_read field text); printed = printed_is_read }
