use Rattle.std.proofs.Common.{◌≡◌, ◌∙◌, ap, arith, subst, sym}
use Rattle.mailbox.specs.Holding.{HoldsActive}
use Rattle.mailbox.specs.Turns.{jobs_in}
use Rattle.queue_tests.proofs.Fresh.{fresh_holds}
use Rattle.queue_tests.proofs.Senders.{are_all, may_all, none_cloned, none_sent}
use Rattle.queue_tests.proofs.scenes.target.Goals as goal

pub returns-clause-senders : goal.returns-clause-senders
returns-clause-senders g c = let made = c.in-Ok.ensures in may_all c.in-Ok.parts 1 c.args.senders c.args.places made.set.0 made.set.1 made.set.2 (let a = c.requires.places.0 in omega arith) made.parts made.system

pub returns-clause-passes : goal.returns-clause-passes
returns-clause-passes g c = let made = c.in-Ok.ensures in are_all c.in-Ok.parts 1 c.args.senders c.args.places made.set.0 made.set.1 made.set.2 (let a = c.requires.places.0 in omega arith) made.parts made.system

pub returns-clause-fresh : goal.returns-clause-fresh
returns-clause-fresh g c = let made = c.in-Ok.ensures in none_sent c.in-Ok.parts 1 c.args.senders c.args.places made.set.0 made.set.1 made.set.2 (let a = c.requires.places.0 in omega arith) made.parts made.system

pub returns-clause-cloned : goal.returns-clause-cloned
returns-clause-cloned g c = let made = c.in-Ok.ensures in none_cloned c.in-Ok.parts 1 c.args.senders c.args.places made.set.0 made.set.1 made.set.2 (let a = c.requires.places.0 in omega arith) made.parts made.system
