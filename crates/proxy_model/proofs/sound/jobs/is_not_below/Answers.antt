use Rattle.std.proofs.Common.{◌≤◌}
use Rattle.std.proofs.lemmas.Bool.{le-leb, leb-true}
use Rattle.proxy_model.proofs.Apart.{each_under}
use Rattle.proxy_model.proofs.sound.jobs.is_not_below.Goals as goal

pub returns-in-Some : goal.returns-in-Some
returns-in-Some c =
    let under = each_under c.in-Some.number (λ m. c.args.notice ≤ m) c.args.serving c.in-Some.ensures in
    (λ t. under.0 (leb-true _ _ t), λ each. le-leb _ _ (under.1 each))
