use Rattle.std.proofs.Common.{ℕ, List, [], map, ap, ◌∙◌, arith}
use Rattle.std.proofs.lemmas.List.{take_all}
use Rattle.run_engine.proofs.reply_numbers.ReplyNumbers.new.Goals as goal

pub returns : goal.returns
returns c = c.loop.invariant ∙ ap (λ (names : List (List ℕ)). map (λ name. []) names) (take_all c.loop.index c.args.threads.now (omega (arith, c.loop-test.false)))
