use Rattle.std.proofs.Common.{ℕ, ◌+◌, ◌-◌, ◌≤◌, List, length, set, drop, sym, ap, subst, ◌∙◌}
use Rattle.std.proofs.lemmas.List.{length-set}
use Rattle.task_ring.specs.Ring.{RingView, spare}
use Rattle.task_ring.specs.Cells.{around, Holds}
use Rattle.task_ring.proofs.CellsLemmas.{IsPopped-Holds, IsSound-Holds, items_in-from_head, same_view, spare-pop}
use Rattle.task_ring.proofs.Ring.pop.Goals as goal

pub invariant_of-self : goal.invariant_of-self
invariant_of-self g c =
    let popped = IsPopped-Holds _ _ _ _ c.self.invariant.holds c.if-self.false in
    let next = c.after-self-inside.ensures ∙ ap (λ (count : ℕ). around count (c.self.inside.head + 1)) (c.len.ensures ∙ c.self.inside.cells.ok.0) in
    rw (c.take-item.ensures.after, next) (IsSound-Holds _ _ _ _ _ popped.left c.self.invariant.least)

pub returns : goal.returns
returns g c =
    let old = c.args.self.now in
    let popped = IsPopped-Holds _ _ _ _ c.self.invariant.holds c.if-self.false in
    let next = c.after-self-inside.ensures ∙ ap (λ (count : ℕ). around count (c.self.inside.head + 1)) (c.len.ensures ∙ c.self.inside.cells.ok.0) in
    let left : Holds (set c.self.inside.cells.items c.self.inside.head c.take-item.new.self) c.after-self-inside.result c.self.inside.tail popped.rest = rw (c.take-item.ensures.after, next) popped.left in
    let taken = c.take-item.ensures.value ∙ c.index_mut.ensures.value ∙ popped.found _ in
    let split = sym (ap (λ (r : RingView g.row.T.Denot). r.items) c.self.view_is) ∙ popped.split in
    let within : length old.items ≤ old.cells - 1 = subst (λ (r : RingView g.row.T.Denot). length r.items ≤ r.cells - 1) c.self.view_is c.self.invariant.holds.one_empty in
    let rest = same_view _ (record old { items = drop 1 old.items })
    (items_in-from_head _ _ _ _ left ∙ sym (ap (λ (xs : List g.row.T.Denot). drop 1 xs) split))
    (length-set c.self.inside.cells.items _ _ ∙ ap (λ (r : RingView g.row.T.Denot). r.cells) c.self.view_is)
    (ap (λ (r : RingView g.row.T.Denot). r.first) c.self.view_is) in
    record {
      taken = rw (taken, split);
      rest = rest;
      empty = rw (taken, split) (λ none. absurd (cc), λ none. absurd (cc));
      freed = rw taken (ap spare rest ∙ spare-pop old _ _ split within);
    }
