use Rattle.std.proofs.Common.{sym, subst}
use Rattle.post_core.specs.SendParts.{post_target}
use Rattle.mailbox.specs.Boxes.{at_left, at_view}
use Rattle.mailbox.specs.Turns.{HasRun}
use Rattle.mailbox.proofs.mailbox.check_at.Goals as goal

pub returns-in-Rest-clause-ran : goal.returns-in-Rest-clause-ran
returns-in-Rest-clause-ran g c = subst (λ a. HasRun g.R.Runner.did g.R.Runner.held (post_target c.args.post.now) (at_left a) c.args.runner.now c.serve_at.new.runner (at_view a) (at_view c.serve_at.result.0)) (sym c.in-Rest.is) c.serve_at.ensures.ran

pub returns-in-Work-clause-ran : goal.returns-in-Work-clause-ran
returns-in-Work-clause-ran g c = subst (λ a. HasRun g.R.Runner.did g.R.Runner.held (post_target c.args.post.now) (at_left a) c.args.runner.now c.go_on.new.runner (at_view a) (at_view c.go_on.result.0)) (sym c.in-Work.is) c.go_on.ensures.ran
