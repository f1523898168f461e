use Rattle.std.proofs.Common.{arith, rules}
use Rattle.file_store.proofs.NumberSetLemmas.{first-found, first-none}
use Rattle.file_store.proofs.number_set.NumberSet.first.Goals as goal

pub returns-then-word-ne0 : goal.returns-then-word-ne0
returns-then-word-ne0 c =
    rw (← c.self.view_is) (first-found c.self.inside.words c.loop-i.i c.loop-i-test.true (omega arith) (search rules) c.loop-i.invariant)

pub returns : goal.returns
returns c = rw (← c.self.view_is) (first-none c.self.inside.words (λ k h. c.loop-i.invariant k (omega arith)))
