use Rattle.post_core.specs.OwnerViews.{exec_place, exec_view}
use Rattle.post_core.specs.SendParts.{post_target}
use Rattle.mailbox.proofs.TurnLemmas.{turn_since}
use Rattle.mailbox.proofs.running.run_next.Goals as goal

pub returns-clause-turn : goal.returns-clause-turn
returns-clause-turn g c = turn_since g.R.Runner.did g.R.Runner.held (post_target c.args.post.now) g.met.R.Runner.did_on c.args.post.now c.args.runner.now c.make_ready.new.runner c.run_first.new.runner (exec_place c.args.exec) (exec_place c.make_ready.new.exec) (exec_view c.args.exec) (exec_view c.make_ready.new.exec) c.run_first.result
    c.make_ready.ensures.none c.make_ready.ensures.same.place c.make_ready.ensures.same.view c.run_first.ensures.turn
