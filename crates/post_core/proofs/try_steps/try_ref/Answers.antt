use Rattle.std.proofs.Common.{arith}
use Rattle.post_core.proofs.Trying.{try_ref_allowed}
use Rattle.post_core.proofs.try_steps.try_ref.Goals as goal

pub compare_exchange-requires : goal.compare_exchange-requires
compare_exchange-requires g c =
    let key = c.args.shared.now.key in let me = c.args.seat.now.me in (
      c.requires.table.0,
      (let a = c.requires.table.1 in omega arith),
      try_ref_allowed g.J.Meant.meaning (g.J.Meant.suits key.target) key.senders key.places c.args.shared.now.table_id.slots c.args.seat.now.id me.0 me.1 c.args.seen c.requires.seen.0 c.requires.idle.0 c.requires.idle.1,
    )
