use Rattle.std.proofs.Common.{arith}
use Rattle.post_core.proofs.Takings.{direct_allowed}
use Rattle.post_core.proofs.serving.begin_direct.Goals as goal

pub load-note-requires : goal.load-note-requires
load-note-requires g c =
    let key = c.args.shared.now.key in let me = c.args.seat.now.me in (
      c.requires.table.0,
      (let a = c.requires.table.1 in let b = c.requires.near in omega arith),
      direct_allowed g.J.Meant.meaning (g.J.Meant.suits key.target) key.senders key.places c.args.shared.now.table_id.slots c.args.seat.now.id me.0 me.1 c.args.place c.requires.near c.requires.owner c.requires.away,
    )
