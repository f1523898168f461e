use Rattle.std.proofs.Common.{◌<◌, arith, sym, subst}
use Rattle.post_core.proofs.Takings.{take_notice_allowed}
use Rattle.post_core.proofs.mailing.take_notice.Goals as goal

pub fetch_and-requires : goal.fetch_and-requires
fetch_and-requires g c =
    let key = c.args.shared.now.key in let me = c.args.seat.now.me in (
      c.requires.table.0,
      (let a = c.requires.table.1 in let b = c.requires.near in omega arith),
      take_notice_allowed g.J.Meant.meaning (g.J.Meant.suits key.target) key.senders key.places c.args.shared.now.table_id.slots c.args.seat.now.id me.0 me.1 c.requires.owner.0 c.requires.owner.1 c.requires.away c.args.place c.requires.found,
    )

pub returns-clause-there : goal.returns-clause-there
returns-clause-there g c = subst (λ t. c.args.place < t.slots) (sym c.requires.table.0) (c.fetch_and.ensures.2 c.args.place c.requires.found).0

pub returns-clause-few : goal.returns-clause-few
returns-clause-few g c = (c.fetch_and.ensures.2 c.args.place c.requires.found).1
