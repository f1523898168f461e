use Rattle.std.proofs.Common.{◌≤◌}
use Rattle.std.proofs.lemmas.Bool.{le-leb, leb-true}
use Rattle.proxy_model.proofs.Apart.{each_under}
use Rattle.proxy_model.proofs.worlds.World.is_phase_got.Goals as goal

pub returns-in-Some : goal.returns-in-Some
returns-in-Some c =
    let under = each_under c.in-Some.notice (λ m. m ≤ c.args.self.now.got) c.serving.result c.in-Some.ensures in
    rw (← c.serving.ensures) (λ t. under.0 (leb-true _ _ t), λ each. le-leb _ _ (under.1 each))
