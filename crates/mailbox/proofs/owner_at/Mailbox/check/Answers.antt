use Rattle.std.proofs.Common.{◌≡◌, Option, false, true, sym, subst}
use Rattle.std.specs.Prelude.{IfErr, IfOk}
use Rattle.post_core.specs.SendParts.{post_places, post_target}
use Rattle.mailbox.specs.declared.owner_at.At.{At}
use Rattle.mailbox.specs.Boxes.{IsIn, is_work_in, left_in, mailbox_view, view_in}
use Rattle.mailbox.specs.Turns.{HasFoundNothing, HasRun, IsStartAfter, jobs_in}
use Rattle.post_core.specs.Views.{owner_of}
use Rattle.mailbox.proofs.ClosingLemmas.{run_holds}
use Rattle.mailbox.proofs.owner_at.Mailbox.check.Goals as goal

pub returns : goal.returns
returns g c =
    let ran = subst (λ (x : Option (At g.row.J.Denot g.row.J-Meaning.Denot g.J.Meant) × Option (At g.row.J.Denot g.row.J-Meaning.Denot g.J.Meant)). HasRun g.R.Runner.did g.R.Runner.held (post_target c.args.post.now) (left_in x.0) c.args.runner.now c.check_at-at.new.runner (view_in x.0) (view_in x.1)) (λ i. (sym c.take_out-at.ensures.0 i, sym c.put_back.ensures i)) c.check_at-at.ensures.ran in
    record {
      target = c.check_at-at.ensures.target;
      mailbox = subst (IsIn c.args.post.now) (sym c.put_back.ensures) c.check_at-at.ensures.at;
      ran = ran;
      held = λ holds. run_holds g.R.Runner.did (IsStartAfter (left_in c.args.self.now.at) (owner_of (mailbox_view c.args.self.now)).got) (post_target c.args.post.now) (post_places c.args.post.now) ran.0 c.args.runner.now c.check_at-at.new.runner (jobs_in (mailbox_view c.args.self.now)) (jobs_in (view_in c.put_back.new.slot)) (g.R.Runner.held c.args.runner.now) (g.R.Runner.held c.check_at-at.new.runner) ran.1 holds;
      ok = subst (λ (x : Option (At g.row.J.Denot g.row.J-Meaning.Denot g.J.Meant) × Option (At g.row.J.Denot g.row.J-Meaning.Denot g.J.Meant)). IfOk c.check_at-at.result.1 (λ count. HasFoundNothing count (view_in x.0) (view_in x.1) × (is_work_in x.1 ≡ false))) (λ i. (sym c.take_out-at.ensures.0 i, sym c.put_back.ensures i)) c.check_at-at.ensures.ok;
      err = subst (λ x. IfErr c.check_at-at.result.1 (λ e. is_work_in x ≡ true)) (sym c.put_back.ensures) c.check_at-at.ensures.err;
    }
