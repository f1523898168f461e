use Rattle.proxy_queue.specs.Sets.{set_post}
use Rattle.queue_tests.specs.Scenes.{MaySend}
use Rattle.queue_tests.proofs.threads.send_many.Given as goal

abbrev pub invariant-loop-job : goal.invariant-loop-job
invariant-loop-job g l = MaySend (set_post l.set) l.pass l.place_use
