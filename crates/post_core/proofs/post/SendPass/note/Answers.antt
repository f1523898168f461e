use Rattle.std.proofs.Common.{arith}
use Rattle.post_core.proofs.Seats.{notes}
use Rattle.post_core.proofs.post.SendPass.note.Goals as goal

pub split_seat-note-requires : goal.split_seat-note-requires
split_seat-note-requires g c =
    let key = c.args.post.now.table.shared.key in (
      c.requires.table,
      (let a = c.args.post.now.sized.0 in omega arith),
      notes g.J.Meant.meaning (g.J.Meant.suits key.target) key.senders key.places c.args.self.hold.seat.id c.args.self.hold.seat.me.0,
    )
