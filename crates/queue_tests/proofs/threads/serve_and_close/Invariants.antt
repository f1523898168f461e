use Rattle.proxy_queue.specs.Sets.{set_post}
use Rattle.queue_tests.specs.Scenes.{IsBoxIdle}
use Rattle.queue_tests.proofs.threads.serve_and_close.Given as goal

abbrev pub invariant-loop : goal.invariant-loop
invariant-loop g l = IsBoxIdle (set_post l.set) l.mailbox
