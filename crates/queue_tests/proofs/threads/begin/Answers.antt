use Rattle.std.proofs.Common.{sym, subst}
use Rattle.proxy_queue.specs.Sets.{set_post}
use Rattle.queue_tests.specs.Beside.{AreLines}
use Rattle.queue_tests.proofs.threads.begin.Goals as goal

pub returns-clause-lines : goal.returns-clause-lines
returns-clause-lines g c =
    let post = set_post c.target-set.result.set in
    subst (λ n. AreLines post n c.lines-lines.result.items) (sym c.lines-lines.ensures.count) c.lines-lines.ensures.lines
