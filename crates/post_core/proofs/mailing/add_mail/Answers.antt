use Rattle.std.proofs.Common.{arith}
use Rattle.post_core.proofs.Takings.{add_allowed}
use Rattle.post_core.proofs.mailing.add_mail.Goals as goal

pub fetch_or-requires : goal.fetch_or-requires
fetch_or-requires g c =
    let key = c.args.shared.now.key in let me = c.args.seat.now.me in (
      c.requires.table.0,
      (let a = c.requires.table.1 in let b = c.requires.near in omega arith),
      add_allowed g.J.Meant.meaning (g.J.Meant.suits key.target) key.senders key.places c.args.shared.now.table_id.slots c.args.seat.now.id me.0 me.1 c.args.place c.requires.near c.requires.brings.0 c.requires.brings.1,
    )
