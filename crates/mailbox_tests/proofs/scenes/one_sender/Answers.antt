use Rattle.mailbox_tests.proofs.Senders.{only_all, only_count, only_may}
use Rattle.mailbox_tests.proofs.scenes.one_sender.Goals as goal

pub returns-clause-sender : goal.returns-clause-sender
returns-clause-sender g c = let made = c.target-post.ensures in let post = c.target-post.result.post in only_may post _ _ _ _ _ _ made.senders c.in-Some-Some.ensures.items c.in-Some-Some.ensures'.items (only_count post _ made.passes made.post.0)

pub returns-clause-pass : goal.returns-clause-pass
returns-clause-pass g c = let made = c.target-post.ensures in let post = c.target-post.result.post in only_all post _ _ _ made.passes c.in-Some-Some.ensures.items (only_count post _ made.passes made.post.0)
