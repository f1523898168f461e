use Rattle.std.proofs.Common.{◌∙◌, ◌++◌, ℕ, List, ap, sym}
use Rattle.std.specs.List.{flat_map}
use Rattle.run_engine.specs.declared.whole_tree.PlacedLine.{PlacedLine}
use Rattle.run_engine.specs.WholeTree.{placed_text}
use Rattle.run_engine.proofs.LawLemmas.{whole_text}
use Rattle.run_engine.proofs.solo_run.push_tree.Goals as goal

pub returns : goal.returns
returns c =
    let store = c.args.store.now in
    let before : List ℕ = c.args.text.now.items in
    c.in_ok-push_lines.ensures
    ∙ ap (λ (lines : List PlacedLine). before ++ flat_map (placed_text store) lines) (c.as_slice.ensures.value ∙ c.in_ok-lines.ensures)
    ∙ ap (λ (text : List ℕ). before ++ text) (sym (whole_text store))
