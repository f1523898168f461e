use Rattle.post_tests.specs.Scenes.{MaySend}
use Rattle.post_tests.proofs.beside.send_many.Given as goal

abbrev pub invariant-loop-job : goal.invariant-loop-job
invariant-loop-job g l = MaySend l.post l.pass l.place_use
