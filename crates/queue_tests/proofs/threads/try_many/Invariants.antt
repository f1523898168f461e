use Rattle.post_core.specs.SendParts.{pass_view, use_place}
use Rattle.proxy_queue.specs.Sets.{set_post}
use Rattle.queue_tests.specs.Scenes.{HasSent, MaySend}
use Rattle.queue_tests.proofs.threads.try_many.Given as goal

abbrev pub invariant-loop : goal.invariant-loop
invariant-loop g l = MaySend (set_post l.set) l.pass l.place_use × HasSent (use_place l.place_use) l.put (pass_view l.pass)
