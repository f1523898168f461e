use Rattle.std.proofs.Common.{ap, sym, subst}
use Rattle.post_core.specs.Kept.{listed}
use Rattle.post_core.specs.SendSteps.{meant_item}
use Rattle.post_core.specs.Steps.{IsActiveHere}
use Rattle.post_core.specs.Views.{owner_of}
use Rattle.post_core.proofs.OwnerEnds.{taken_is_active}
use Rattle.post_core.proofs.cancelling.cancel_at.Goals as goal

pub settle-note-requires-clause-active : goal.settle-note-requires-clause-active
settle-note-requires-clause-active g c = subst (λ u. IsActiveHere (listed (owner_of u).jobs c.args.place) c.in-Some.nth) (sym (ap (λ me. me.0) c.in-Some.ensures.job))
    (taken_is_active c.args.seat.now.me.0 c.args.place c.in-Some.nth (meant_item g.J.Meant.meaning c.in-Some.item) c.requires.empties.row c.in-Some.ensures.nth)
