use Rattle.std.proofs.Common.{◌∙◌, ap}
use Rattle.wf_core.specs.Names.{is_text}
use Rattle.chunk_backend.proofs.input.is_header_word.Goals as goal

pub returns : goal.returns
returns c = c.eq.ensures ∙ ap (is_text c.args.word.now) c.as_slice.ensures
