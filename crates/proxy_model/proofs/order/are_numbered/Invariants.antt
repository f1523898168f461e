use Rattle.std.proofs.Common.{◌≡◌, ℕ, ◌<◌, get_or, count_by, take}
use Rattle.proxy_laws.specs.declared.records.Mark.{Mark}
use Rattle.proxy_laws.specs.Lists.{is_by}
use Rattle.proxy_model.proofs.order.are_numbered.Given as goal

abbrev pub invariant-loop-index : goal.invariant-loop-index
invariant-loop-index l = (n : ℕ) (d : Mark) → n < l.index → (get_or l.marks n d).seq ≡ count_by (is_by (get_or l.marks n d).sender) (take n l.marks)
