use Rattle.post_core.specs.SendParts.{pass_view, post_places, use_place}
use Rattle.proxy_queue.specs.Sets.{set_post}
use Rattle.queue_tests.proofs.PlaceUses.{created_clones}
use Rattle.queue_tests.proofs.queues.create.Goals as goal

pub returns-clause-clones : goal.returns-clause-clones
returns-clause-clones g c = let made = c.in-Made.ensures.made in created_clones (post_places (set_post c.args.set.now)) (use_place c.in-Made.place_use) (pass_view c.args.pass) (pass_view c.in-Made.pass) made.3
