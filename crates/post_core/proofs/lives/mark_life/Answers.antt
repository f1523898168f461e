use Rattle.std.proofs.Common.{arith}
use Rattle.post_core.proofs.LifeAllowed.{mark_allowed}
use Rattle.post_core.proofs.Words.{place_is}
use Rattle.post_core.proofs.lives.mark_life.Goals as goal

pub store-requires : goal.store-requires
store-requires g c =
    let key = c.args.shared.now.key in let me = c.args.seat.now.me in (
      c.requires.table.0,
      (let a = c.requires.table.1 in let b = c.requires.near in omega arith),
      rw (place_is 264 c.args.place) (mark_allowed g.J.Meant.meaning (g.J.Meant.suits key.target) key.senders key.places c.args.shared.now.table_id.slots c.args.seat.now.id me.0 me.1 c.args.place c.requires.near c.requires.looks.0 c.requires.looks.1 c.requires.saw.0 c.args.life c.requires.saw.1),
    )
