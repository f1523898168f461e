use Rattle.mailbox_tests.specs.Scenes.{MaySend}
use Rattle.mailbox_tests.proofs.sending.send_each.Given as goal

abbrev pub invariant-loop-job : goal.invariant-loop-job
invariant-loop-job g l = MaySend l.post l.pass l.place_use
