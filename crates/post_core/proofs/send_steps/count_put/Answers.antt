use Rattle.std.proofs.Common.{arith}
use Rattle.post_core.proofs.SendAllowed.{count_allowed}
use Rattle.post_core.proofs.Words.{place_is}
use Rattle.post_core.proofs.send_steps.count_put.Goals as goal

pub fetch_add-requires : goal.fetch_add-requires
fetch_add-requires g c =
    let key = c.args.shared.now.key in let me = c.args.seat.now.me in let job = c.requires.job in (
      c.requires.table.0,
      (let a = c.requires.table.1 in let b = c.requires.near in omega arith),
      rw (place_is 261 c.args.place) (count_allowed g.J.Meant.meaning (g.J.Meant.suits key.target) key.senders key.places c.args.shared.now.table_id.slots c.args.seat.now.id me.0 me.1 c.args.place c.requires.near c.requires.holding.0 job.0.mark.tag job.0 c.requires.holding.1 c.requires.room job.1 (λ i. record { sender = job.2.0 i; seq = job.2.1 i; tag = job.0.mark.tag }) job.3),
    )
