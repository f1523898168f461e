use Rattle.std.proofs.Common.{◌<◌, ℕ, List, length, refl, ap, sym, ◌∙◌}
use Rattle.std.proofs.lemmas.Option.{slice_get_read}
use borrow.Author.Tests.{ltb-true}
use Rattle.trace_text.specs.SoloText.{with_number}
use Rattle.run_engine.proofs.NumberLemmas.{number_more}
use Rattle.run_engine.proofs.reply_numbers.ReplyNumbers.push.Goals as goal

pub returns : goal.returns
returns c =
    let threads = c.self.inside.threads.items in
    let inside : c.args.thread < length threads = ltb-true c.args.thread (length threads) (sym c.in-Some.ensures.item.0) in
    let here = slice_get_read threads (length threads) c.args.thread c.in-Some.numbers.now refl inside c.in-Some.ensures.value in
    number_more (λ numbers. numbers.items) threads c.args.thread c.args.number c.in-Some.numbers.now c.push.new.self here c.in_ok-push.ensures.items
    ∙ ap (λ (all : List (List ℕ)). with_number all c.args.thread c.args.number) c.self.view_is
