use Rattle.std.proofs.Common.{arith}
use Rattle.post_core.proofs.Takings.{finish_allowed}
use Rattle.post_core.proofs.serving.finish_place.Goals as goal

pub compare_exchange-found-requires : goal.compare_exchange-found-requires
compare_exchange-found-requires g c =
    let key = c.args.shared.now.key in let me = c.args.seat.now.me in (
      c.requires.table.0,
      (let a = c.requires.table.1 in let b = c.requires.near in omega arith),
      finish_allowed g.J.Meant.meaning (g.J.Meant.suits key.target) key.senders key.places c.args.shared.now.table_id.slots c.args.seat.now.id me.0 me.1 c.args.place c.requires.near c.requires.owner.0 c.requires.seen c.requires.owner.1,
    )
