use Rattle.proxy_queue.specs.Sets.{set_post}
use Rattle.queue_tests.proofs.Senders.{only_all, only_count, only_may}
use Rattle.queue_tests.proofs.scenes.one_sender.Goals as goal

pub returns-clause-sender : goal.returns-clause-sender
returns-clause-sender g c = let made = c.target-set.ensures in let post = set_post c.target-set.result.set in only_may post _ _ _ _ _ _ made.senders c.in-Some-Some.ensures.items c.in-Some-Some.ensures'.items (only_count post _ made.passes made.set.0)

pub returns-clause-passes : goal.returns-clause-passes
returns-clause-passes g c = let made = c.target-set.ensures in let post = set_post c.target-set.result.set in only_all post _ _ _ made.passes c.in-Some-Some.ensures.items (only_count post _ made.passes made.set.0)
