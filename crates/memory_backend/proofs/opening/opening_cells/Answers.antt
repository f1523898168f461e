use Rattle.std.proofs.Common.{◌≡◌, ℕ, ◌+◌, ◌∷◌, ◌++◌, List, length, sym, ap, subst, ◌∙◌, arith}
use Rattle.std.proofs.lemmas.List.{take_all}
use Rattle.std.specs.List.{flat_map}
use Rattle.file_store.specs.DescriptorMap.{opening as descriptors_opening}
use Rattle.memory_backend.specs.declared.cell.CellContents.{CellContents}
use Rattle.memory_backend.specs.declared.cell.CellContents.TheVariants.{Descriptors}
use Rattle.memory_backend.specs.Among.{IsMapAmong}
use Rattle.memory_backend.specs.CellNumbers.{AreCellsOf}
use Rattle.memory_backend.specs.Openings.{opening_groups, opening_names, with_contents}
use Rattle.memory_backend.proofs.OpeningCells.{are_cells, length_names}
use Rattle.memory_backend.proofs.OpeningRows.{groups_on}
use Rattle.memory_backend.proofs.MapAmong.{opening_among}
use Rattle.memory_backend.proofs.opening.opening_cells.Goals as goal

pub new-requires-2 : goal.new-requires-2
new-requires-2 c = subst (IsMapAmong _) (sym c.in_ok-descriptors.ensures) (opening_among _ (omega arith))

pub loop-preserved : goal.loop-preserved
loop-preserved c =
    let backends = c.args.backends.now in
    let all = length_names backends in
    groups_on c.loop.cells.items c.push_groups.new.cells.items (1 + length backends) (length backends + 1) (Descriptors descriptors_opening ∷ opening_names backends) (opening_names backends) c.loop.counter (omega (arith, all, c.loop-test.true)) (omega arith) c.loop.invariant c.in_ok-push_groups.ensures

pub returns-clause-kinds : goal.returns-clause-kinds
returns-clause-kinds c =
    let backends = c.args.backends.now in
    let all = length_names backends in
    let whole = take_all c.loop.counter (opening_names backends) (omega (arith, all, c.loop-test.false)) in
    let rows : List CellContents → List CellContents = λ names. Descriptors descriptors_opening ∷ opening_names backends ++ flat_map (λ one. opening_groups) names in
    let is = c.loop.invariant ∙ ap (λ (names : List CellContents). with_contents (1 + length backends) (rows names)) whole in
    subst (AreCellsOf (1 + length backends)) (sym is) (are_cells backends c.requires)
