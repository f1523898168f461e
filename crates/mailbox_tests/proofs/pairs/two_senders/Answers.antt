use Rattle.mailbox_tests.proofs.Senders.{two_pairs}
use Rattle.mailbox_tests.proofs.pairs.two_senders.Goals as goal

pub returns-clause-senders : goal.returns-clause-senders
returns-clause-senders g c =
    let made = c.target-post.ensures in let post = c.target-post.result.post in let last = c.take_sender-second.ensures in let first = c.take_sender-first.ensures in
    (two_pairs post _ _ _ _ _ _ _ _ _ _ made.senders made.passes made.post.0 last.pass first.pass last.place_use first.place_use).2

pub returns-clause-passes : goal.returns-clause-passes
returns-clause-passes g c =
    let made = c.target-post.ensures in let post = c.target-post.result.post in let last = c.take_sender-second.ensures in let first = c.take_sender-first.ensures in
    (two_pairs post _ _ _ _ _ _ _ _ _ _ made.senders made.passes made.post.0 last.pass first.pass last.place_use first.place_use).3
