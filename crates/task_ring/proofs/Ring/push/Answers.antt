use Rattle.std.proofs.Common.{ℕ, ◌+◌, [], ◌∷◌, ◌++◌, set, ap, ◌∙◌, arith}
use Rattle.std.proofs.lemmas.List.{length-set}
use Rattle.task_ring.specs.Ring.{RingView}
use Rattle.task_ring.specs.Cells.{around, from_head, items_in, Holds}
use Rattle.task_ring.proofs.CellsLemmas.{tail_cell, Holds-push, IsSound-Holds, items_in-from_head, same_view}
use Rattle.task_ring.proofs.Ring.push.Goals as goal

pub unreachable-requires : goal.unreachable-requires
unreachable-requires g c =
    let room = rw (← c.self.view_is) at c.requires in
    let found = tail_cell _ _ _ _ c.self.invariant.holds (omega arith) c.index_mut.result.now in
    cc (c.replace.ensures.value, c.index_mut.ensures.value, found, c.in-Some.is)

pub invariant_of-self : goal.invariant_of-self
invariant_of-self g c =
    let room = rw (← c.self.view_is) at c.requires in
    let next = c.after-self-inside.ensures ∙ ap (λ (count : ℕ). around count (c.self.inside.tail + 1)) (c.len.ensures ∙ c.self.inside.cells.ok.0) in
    rw (c.replace.ensures.after, next) (IsSound-Holds _ _ _ _ _ (Holds-push _ _ _ _ c.args.item c.self.invariant.holds (omega arith)) c.self.invariant.least)

pub returns : goal.returns
returns g c =
    let room = rw (← c.self.view_is) at c.requires in
    let next = c.after-self-inside.ensures ∙ ap (λ (count : ℕ). around count (c.self.inside.tail + 1)) (c.len.ensures ∙ c.self.inside.cells.ok.0) in
    let pushed : Holds (set c.self.inside.cells.items c.self.inside.tail c.replace.new.self) c.self.inside.head c.after-self-inside.result (items_in (from_head c.self.inside.head c.self.inside.cells.items) ++ c.args.item ∷ []) =
    rw (c.replace.ensures.after, next) (Holds-push _ _ _ _ c.args.item c.self.invariant.holds (omega arith)) in
    same_view _ _
    (items_in-from_head _ _ _ _ pushed ∙ ap (λ (r : RingView g.row.T.Denot). r.items ++ c.args.item ∷ []) c.self.view_is)
    (length-set c.self.inside.cells.items _ _ ∙ ap (λ (r : RingView g.row.T.Denot). r.cells) c.self.view_is)
    (ap (λ (r : RingView g.row.T.Denot). r.first) c.self.view_is)
