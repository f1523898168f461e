-- The numbers of cells.
use Rattle.std.proofs.Common.{◌≡◌, ℕ, ◌+◌, ◌<◌, refl, sym, ap, ap₂, ◌∙◌, arith}
use Rattle.path_walk.specs.declared.step.CellId.{CellId}
use Rattle.path_walk.specs.declared.step.CellId.TheVariants.{Names, Files, Descriptors}
use Rattle.memory_backend.specs.CellNumbers.{IsCellIn, cell_of, cells_of}

pub below : (backends : ℕ) (cell : CellId) → IsCellIn backends cell → cell_of backends cell < cells_of backends
below backends Descriptors within = omega arith
below backends (Names backend) within = omega (arith, within)
below backends (Files backend group) within = omega (arith, within.0, within.1)

pub own : (backends : ℕ) (cell other : CellId) → IsCellIn backends cell → IsCellIn backends other → cell_of backends cell ≡ cell_of backends other → cell ≡ other
own backends Descriptors Descriptors a b same = refl
own backends Descriptors (Names k) a b same = absurd (omega (arith, same))
own backends Descriptors (Files k g) a b same = absurd (omega (arith, same))
own backends (Names k) Descriptors a b same = absurd (omega (arith, same))
own backends (Names k) (Names l) a b same = let e : k ≡ l = omega (arith, same) in ap Names e
own backends (Names k) (Files l g) a b same = absurd (omega (arith, same, a))
own backends (Files k g) Descriptors a b same = absurd (omega (arith, same))
own backends (Files k g) (Names l) a b same = absurd (omega (arith, same, b))
own backends (Files k g) (Files l h) a b same =
    let first : k ≡ l = omega (arith, same, a.1, b.1) in
    let second : g ≡ h = omega (arith, same, a.1, b.1) in
    ap₂ Files first second
