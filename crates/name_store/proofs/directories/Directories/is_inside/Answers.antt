use Rattle.std.proofs.Common.{◌≡◌, ℕ, ◌+◌, ◌-◌, ◌==◌, zero, suc, false, length, ap, ◌∙◌, sym, arith}
use Rattle.name_store.specs.NameTrees.{Tree, is_inside, up}
use Rattle.name_store.proofs.directories.Directories.is_inside.Goals as goal

-- one step on the way
inside_step : (steps n : ℕ) (tree : Tree) (top here : ℕ) → steps ≡ n + 1 → (here == top) ≡ false → (here == 0) ≡ false → is_inside n tree top (up tree here) ≡ is_inside steps tree top here
inside_step zero n tree top here e not_top not_root = absurd (omega arith)
inside_step (suc steps) n tree top here e not_top not_root =
    let same : n ≡ steps = omega arith in
    rw (not_top, not_root) (ap (λ (m : ℕ). is_inside m tree top (up tree here)) same)

pub loop-preserved : goal.loop-preserved
loop-preserved c =
    let tree = c.args.self.now in
    ap (λ (here : ℕ). is_inside (length tree - (c.loop.counter + 1)) tree c.args.top here) c.up-here.ensures
    ∙ inside_step (length tree - c.loop.counter) (length tree - (c.loop.counter + 1)) tree c.args.top c.loop.here (omega (arith, ap length c.self.view_is, c.self.inside.slots.ok.0)) (sym c.if-eq.ensures) (sym c.if-eq-2.ensures)
    ∙ c.loop.invariant
