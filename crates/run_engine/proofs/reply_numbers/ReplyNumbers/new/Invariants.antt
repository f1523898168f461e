use Rattle.std.proofs.Common.{◌≡◌, [], map, take}
use Rattle.run_engine.proofs.reply_numbers.ReplyNumbers.new.Given as goal

-- none for each thread so far
abbrev pub invariant-loop : goal.invariant-loop
invariant-loop l = map (λ numbers. numbers.items) l.numbers.items ≡ map (λ name. []) (take l.index l.threads)
