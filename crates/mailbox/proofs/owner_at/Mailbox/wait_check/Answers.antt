use Rattle.std.proofs.Common.{◌≡◌, Some, false, ap, sym, subst, ◌∙◌}
use Rattle.std.specs.Prelude.{IfOk}
use Rattle.post_core.specs.SendParts.{post_places, post_target}
use Rattle.mailbox.specs.Boxes.{is_unfinished, left_in, mailbox_view, view_in}
use Rattle.mailbox.specs.Holding.{HoldsActive}
use Rattle.mailbox.specs.Turns.{HasFoundNothing, HasRun, jobs_in}
use Rattle.mailbox.proofs.owner_at.Mailbox.wait_check.Goals as goal

pub returns : goal.returns
returns g c =
    let same = c.put_back.ensures ∙ (ap Some c.park_at-at.ensures ∙ sym c.take_out-at.ensures.0) in
    let after = c.check.ensures in
    record {
      target = after.target;
      mailbox = after.mailbox;
      ran = subst (λ x. HasRun g.R.Runner.did g.R.Runner.held (post_target c.args.post.now) (left_in x) c.args.runner.now c.check.new.runner (view_in x) (mailbox_view c.check.new.self)) same after.ran;
      held = λ holds. after.held (subst (λ x. HoldsActive (post_target c.args.post.now) (post_places c.args.post.now) (jobs_in (view_in x)) (g.R.Runner.held c.args.runner.now)) (sym same) holds);
      ok = subst (λ x. IfOk c.check.result (λ count. HasFoundNothing count (view_in x) (mailbox_view c.check.new.self) × (is_unfinished c.check.new.self ≡ false))) same after.ok;
      err = after.err;
    }
