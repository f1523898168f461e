use Rattle.std.proofs.Common.{arith}
use Rattle.post_core.proofs.LifeAllowed.{release_allowed}
use Rattle.post_core.proofs.Words.{place_is}
use Rattle.post_core.proofs.lives.drop_use.Goals as goal

pub fetch_sub-requires : goal.fetch_sub-requires
fetch_sub-requires g c =
    let key = c.args.shared.now.key in let me = c.args.seat.now.me in (
      c.requires.table.0,
      (let a = c.requires.table.1 in let b = c.requires.near in omega arith),
      rw (place_is 264 c.args.place) (release_allowed g.J.Meant.meaning (g.J.Meant.suits key.target) key.senders key.places c.args.shared.now.table_id.slots c.args.seat.now.id me.0 me.1 c.args.place c.requires.near c.requires.idle.0 c.requires.idle.1 c.requires.used c.requires.nowhere c.requires.other),
    )
