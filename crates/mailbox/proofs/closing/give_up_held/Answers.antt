use Rattle.std.proofs.Common.{◌≡◌, ◌+◌, arith, ◌∙◌}
use Rattle.std.specs.Prelude.{min}
use Rattle.post_core.specs.OwnerViews.{emptied_view}
use Rattle.post_core.specs.SendParts.{post_target}
use Rattle.mailbox.specs.Deeds.{GivesUp}
use Rattle.mailbox.specs.Turns.{jobs_in}
use Rattle.mailbox.proofs.DeedLemmas.{done_more}
use Rattle.mailbox.proofs.closing.give_up_held.Goals as goal

pub loop-preserved : goal.loop-preserved
loop-preserved g c =
    let l = c.loop in
    let i = l.invariant in
    let one = c.if-not-give_up_one.ensures in
    record {
      emptied = one.emptied;
      target = one.target ∙ i.target;
      active = one.active;
      done = (
        i.done.0 + 1,
        (let before : l.held ≡ min i.done.0 18446744073709551615 = i.done.1 in omega (arith, before, c.saturating_add-held.ensures)),
        done_more g.R.Runner.did g.met.R.Runner.did_on GivesUp (post_target c.args.post.now) i.done.0 1 c.args.runner.now l.runner c.give_up_one.new.runner (jobs_in (emptied_view c.args.emptied.now)) (jobs_in (emptied_view l.emptied)) (jobs_in (emptied_view c.give_up_one.new.emptied)) (g.R.Runner.held c.args.runner.now) (g.R.Runner.held l.runner) (g.R.Runner.held c.give_up_one.new.runner) i.done.2 one.given,
      );
    }
