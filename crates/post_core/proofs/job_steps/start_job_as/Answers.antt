use Rattle.std.proofs.Common.{arith}
use Rattle.post_core.proofs.Allowed.{take_allowed}
use Rattle.post_core.proofs.Words.{place_is}
use Rattle.post_core.proofs.job_steps.start_job_as.Goals as goal

pub fetch_add-requires : goal.fetch_add-requires
fetch_add-requires g c =
    let key = c.args.shared.now.key in let me = c.args.seat.now.me in let n = c.requires.near in (
      c.requires.table.0,
      (let a = c.requires.table.1 in let b = c.requires.near.1 in omega arith),
      rw (place_is 262 c.args.place, ← n.0) (take_allowed g.J.Meant.meaning (g.J.Meant.suits key.target) key.senders key.places c.args.shared.now.table_id.slots c.args.seat.now.id c.args.place me.0 me.1 c.requires.near.1 c.requires.owner.0 c.requires.owner.1 c.requires.works c.requires.waits),
    )
