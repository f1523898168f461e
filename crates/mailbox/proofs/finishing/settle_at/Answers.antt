use Rattle.std.proofs.Common.{subst}
use Rattle.post_core.specs.Kept.{listed}
use Rattle.post_core.specs.Steps.{IsActiveHere}
use Rattle.mailbox.specs.Boxes.{at_view}
use Rattle.mailbox.specs.Turns.{jobs_in}
use Rattle.mailbox.proofs.finishing.settle_at.Goals as goal

pub settle-note-requires-clause-active : goal.settle-note-requires-clause-active
settle-note-requires-clause-active g c = subst (λ a. IsActiveHere (listed (jobs_in (at_view a)) c.args.place) c.args.nth) c.in-Rest.is c.requires.active

pub settle-note-requires-in-Work-clause-active : goal.settle-note-requires-in-Work-clause-active
settle-note-requires-in-Work-clause-active g c = subst (λ a. IsActiveHere (listed (jobs_in (at_view a)) c.args.place) c.args.nth) c.in-Work.is c.requires.active
