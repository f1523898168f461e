use Rattle.std.proofs.Common.{arith, ap}
use Rattle.post_core.proofs.Seats.{joins}
use Rattle.post_core.proofs.post.SendPass.meet.Goals as goal

pub join_seat-requires : goal.join_seat-requires
join_seat-requires g c =
    let key = c.args.post.now.table.shared.key in (
      c.requires.table.0,
      c.requires.table.1,
      c.args.note.is_note.1,
      (let a = c.args.post.now.sized.0 in omega arith),
      joins g.J.Meant.meaning (g.J.Meant.suits key.target) key.senders key.places c.args.self.hold.seat.id c.args.note.seat.id c.args.self.hold.seat.me.0 c.args.note.seat.me.0 (ap (λ v. v.owner) c.args.note.is_note.0),
    )
