use Rattle.std.proofs.Common.{◌≡◌, ap, sym, subst, ◌∙◌}
use Rattle.proxy_laws.specs.declared.records.Started.{Started}
use Rattle.proxy_laws.specs.declared.records.Started.TheVariants as started
use Rattle.post_core.specs.OwnerViews.{owner_view}
use Rattle.post_core.specs.SendParts.{post_places, post_target}
use Rattle.mailbox.specs.Boxes.{at_view, mailbox_view, view_in}
use Rattle.mailbox.specs.Holding.{HoldsActive}
use Rattle.mailbox.specs.Turns.{jobs_in}
use Rattle.mailbox.proofs.ClosingLemmas.{run_holds}
use Rattle.mailbox.proofs.owner_at.Mailbox.execute.Goals as goal

pub returns-clause-held : goal.returns-clause-held
returns-clause-held g c holds =
    let target = post_target c.args.post.now in
    let places = post_places c.args.post.now in
    let owner = owner_view c.in-Rest.owner in
    let before : jobs_in (mailbox_view c.args.self.now) ≡ jobs_in owner = ap (λ x. jobs_in (view_in x)) c.take_out.ensures.0 ∙ ap (λ a. jobs_in (at_view a)) c.in-Rest.is in
    let ran = c.execute_at-at.ensures.ran in
    let after = run_holds g.R.Runner.did (λ (s : Started). s ≡ started.Direct) target places ran.0 c.args.runner.now c.execute_at-at.new.runner (jobs_in owner) (jobs_in (at_view c.execute_at-at.result.0)) (g.R.Runner.held c.args.runner.now) (g.R.Runner.held c.execute_at-at.new.runner) ran.1
    (subst (λ js. HoldsActive target places js (g.R.Runner.held c.args.runner.now)) before holds) in
    subst (λ x. HoldsActive target places (jobs_in (view_in x)) (g.R.Runner.held c.execute_at-at.new.runner)) (sym c.put_back.ensures) after
