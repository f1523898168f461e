use Rattle.std.proofs.Common.{ℕ, arith, refl, rules, tests}
use Rattle.std.proofs.lemmas.Iterator.{cases_from_all, YieldsList-from_range}
use Rattle.proxy_model.specs.Parts.{IsSenderSound}
use Rattle.proxy_model.specs.Shown.{world_of}
use Rattle.proxy_model.proofs.Below.{all_below}
use Rattle.proxy_model.proofs.worlds.World.are_senders_sound.Goals as goal

pub returns : goal.returns
returns c =
    let each = λ (k : ℕ). IsSenderSound (world_of c.args.self.now) k c.args.place in
    let all = cases_from_all _ _ c.all.result each (λ k. each k → ⊥) c.all.ensures.ran (YieldsList-from_range 0 _ (c.args.self.now.senders) refl (omega arith)) (λ k q is. search (rules, tests)) (λ k q is. search (rules, tests)) in
    all_below c.all.result c.args.self.now.senders each all
