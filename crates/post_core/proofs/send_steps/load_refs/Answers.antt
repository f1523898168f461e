use Rattle.std.proofs.Common.{arith}
use Rattle.post_core.proofs.SendAllowed.{load_allowed}
use Rattle.post_core.proofs.send_steps.load_refs.Goals as goal

pub load-requires : goal.load-requires
load-requires g c =
    let key = c.args.shared.now.key in let me = c.args.seat.now.me in (
      c.requires.table.0,
      (let a = c.requires.table.1 in omega arith),
      load_allowed g.J.Meant.meaning (g.J.Meant.suits key.target) key.senders key.places c.args.shared.now.table_id.slots c.args.seat.now.id me.0 me.1 c.requires.idle.0 c.requires.idle.1,
    )
