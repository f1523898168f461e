use Rattle.std.proofs.Common.{arith, ◌∙◌}
use Rattle.post_core.proofs.Allowed.{settle_allowed}
use Rattle.post_core.proofs.Seats.{notes}
use Rattle.post_core.proofs.Words.{place_is}
use Rattle.post_core.proofs.settle_steps.settle_as.Goals as goal

pub fetch_add-requires : goal.fetch_add-requires
fetch_add-requires g c =
    let key = c.args.shared.now.key in let me = c.args.seat.now.me in let n = c.requires.near in (
      c.requires.table.0,
      (let a = c.requires.table.1 in let b = c.requires.near.2 in omega arith),
      rw (place_is 265 c.args.place, ← n.0, ← n.1) (settle_allowed g.J.Meant.meaning (g.J.Meant.suits key.target) key.senders key.places c.args.shared.now.table_id.slots c.args.seat.now.id c.args.place me.0 me.1 c.args.nth c.args.fate c.requires.near.2 c.requires.owner.0 c.requires.owner.1 c.requires.active),
    )

pub split_seat-requires : goal.split_seat-requires
split_seat-requires g c =
    let key = c.args.shared.now.key in (
      c.fetch_add.ensures.0 ∙ c.requires.table.0,
      (let a = c.requires.table.1 in omega arith),
      notes g.J.Meant.meaning (g.J.Meant.suits key.target) key.senders key.places c.fetch_add.new.seat.id c.fetch_add.new.seat.me.0,
    )
