use Rattle.std.proofs.Common.{◌≡◌, ◌-◌, List, [], ◌∷◌, ◌++◌, drop, refl, sym, ap, ◌∙◌, arith}
use Rattle.task_ring.specs.Ring.{RingView}
use Rattle.task_ring.proofs.CellsLemmas.{Holds-start, IsSound-Holds, items_in-empty, items_in-from_head, length-row, length-start, moved-more, row-moved, row-all, row-empty, same_view}
use Rattle.task_ring.proofs.Ring.grow.Goals as goal

pub loop-item-preserved : goal.loop-item-preserved
loop-item-preserved g c =
    let before = c.loop-item.invariant in
    let rest = ap (λ (r : RingView g.row.T.Denot). r.items) c.pop.ensures.rest in
    record {
      moved = before.moved ++ c.in-Some.item ∷ [];
      row = row-moved _ _ before.moved c.in-Some.item c.push_reserved.ensures.items before.row;
      all = rw rest (moved-more before.moved c.loop-item.self.items _ c.in-Some.item (sym c.pop.ensures.taken ∙ c.in-Some.is) before.all);
      first = ap (λ (r : RingView g.row.T.Denot). r.first) c.pop.ensures.rest ∙ before.first;
      room = c.push_reserved.ensures.capacity ∙ before.room;
    }

pub loop-init : goal.loop-init
loop-init g c =
    let before = c.loop-item.invariant in
    let none : c.loop-item.self.items ≡ [] = c.in_default.ensures.empty.0 refl in
    let row = row-all _ before.moved _ _ (c.len-tail.result - c.len-tail.result) before.row none before.all (omega arith) in
    record {
      row = row;
      end = omega (arith, length-row c.loop-item.cells.items _ _ row, c.loop-item.cells.ok.0);
      room = before.room;
    }

pub loop-preserved : goal.loop-preserved
loop-preserved g c =
    let before = c.loop.invariant in
    record {
      row = row-empty _ _ _ _ _ c.push_reserved-in-loop.ensures.items before.row (omega arith);
      end = before.end;
      room = c.push_reserved-in-loop.ensures.capacity ∙ before.room;
    }

pub free_empty-requires : goal.free_empty-requires
free_empty-requires g c =
    let none : c.loop-item.self.items ≡ [] = c.in_default.ensures.empty.0 refl in
    let seen = ap (λ (r : RingView g.row.T.Denot). r.items) (c.self-2.view_is ∙ c.pop.ensures.rest) ∙ ap (λ (xs : List g.row.T.Denot). drop 1 xs) none in
    rw c.replace.ensures.value (items_in-empty _ _ _ _ c.self-2.invariant.holds seen)

pub invariant_of-self : goal.invariant_of-self
invariant_of-self g c =
    let last : c.loop.counter ≡ c.args.count = omega arith in
    let row = rw (← c.replace.ensures.after, last) at c.loop.invariant.row in
    IsSound-Holds _ _ _ _ _ (Holds-start _ _ _ _ row c.loop.invariant.end c.requires) c.self-2.invariant.least

pub returns-clause-ok : goal.returns-clause-ok
returns-clause-ok g c =
    let last : c.loop.counter ≡ c.args.count = omega arith in
    let row = rw (← c.replace.ensures.after, last) at c.loop.invariant.row in
    same_view _ _
    (items_in-from_head _ _ _ _ (Holds-start _ _ _ _ row c.loop.invariant.end c.requires))
    (length-start _ _ _ _ row c.loop.invariant.end c.requires)
    (ap (λ (r : RingView g.row.T.Denot). r.first) (c.self-2.view_is ∙ c.pop.ensures.rest) ∙ c.loop-item.invariant.first)
