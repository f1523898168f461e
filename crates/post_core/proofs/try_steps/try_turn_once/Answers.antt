use Rattle.std.proofs.Common.{arith}
use Rattle.post_core.proofs.Trying.{try_turn_allowed}
use Rattle.post_core.proofs.Words.{turn_place_is}
use Rattle.post_core.proofs.try_steps.try_turn_once.Goals as goal

pub compare_exchange-requires : goal.compare_exchange-requires
compare_exchange-requires g c =
    let key = c.args.shared.now.key in let me = c.args.seat.now.me in (
      c.requires.table.0,
      (let a = c.requires.table.1 in let b = c.requires.near in omega arith),
      rw (turn_place_is c.args.place) (try_turn_allowed g.J.Meant.meaning (g.J.Meant.suits key.target) key.senders key.places c.args.shared.now.table_id.slots c.args.seat.now.id me.0 me.1 c.args.place c.requires.near c.requires.referenced.0 c.requires.referenced.1 c.requires.used),
    )
