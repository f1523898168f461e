use Rattle.std.proofs.Common.{arith}
use Rattle.post_core.proofs.Takings.{look_closed_allowed}
use Rattle.post_core.proofs.closing_steps.look_closed.Goals as goal

pub load-requires : goal.load-requires
load-requires g c =
    let key = c.args.shared.now.key in let me = c.args.seat.now.me in (
      c.requires.table.0,
      (let a = c.requires.table.1 in omega arith),
      look_closed_allowed g.J.Meant.meaning (g.J.Meant.suits key.target) key.senders key.places c.args.shared.now.table_id.slots c.args.seat.now.id me.0 me.1 c.requires.owner.0 c.requires.owner.1,
    )
