use Rattle.std.proofs.Common.{arith}
use Rattle.mailbox_tests.proofs.Senders.{are_all, may_all}
use Rattle.mailbox_tests.proofs.scenes.target.Goals as goal

pub returns-clause-senders : goal.returns-clause-senders
returns-clause-senders g c = let made = c.in-Ok.ensures in may_all c.in-Ok.made 0 c.args.senders c.args.places made.post.0 made.post.1 made.post.2 (let a = c.requires.places.0 in omega arith) made.parts made.system

pub returns-clause-passes : goal.returns-clause-passes
returns-clause-passes g c = let made = c.in-Ok.ensures in are_all c.in-Ok.made 0 c.args.senders c.args.places made.post.0 made.post.1 made.post.2 (let a = c.requires.places.0 in omega arith) made.parts made.system
