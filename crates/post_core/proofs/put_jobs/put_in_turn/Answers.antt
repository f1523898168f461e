use Rattle.post_core.proofs.Trying.{sent_before}
use Rattle.post_core.specs.Steps.{all_meant}
use Rattle.post_core.proofs.put_jobs.put_in_turn.Goals as goal

pub returns-clause-put : goal.returns-clause-put
returns-clause-put g c =
    let t = c.wait_for_turn.ensures.taken in
    sent_before c.args.place t.0 (all_meant g.J.Meant.meaning t.0.items) (record { mark = c.args.mark; meaning = g.J.Meant.meaning c.args.job }) c.args.seat.now.me c.wait_for_turn.new.seat.me c.put_with_turn.new.seat.me t.1 c.put_with_turn.result c.put_with_turn.ensures.put
