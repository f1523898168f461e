-- The ends of all scripts, and the records of the cells, make one lawful run.
use Rattle.std.proofs.Common.{◌≡◌, ℕ, zero, suc, ◌<◌, List, [], ◌∷◌, length, map, sym, ap, subst, ◌∙◌}
use Rattle.std.specs.Prelude.{Vec, Some, slice_index_or}
use Rattle.std.specs.Global.{Global}
use Rattle.std.proofs.lemmas.List.{length-map}
use mathlib.Core.Option.{some, some-injective}
use lib.ListN.{get_elem?}
use Rattle.turn_cell.specs.declared.entry.CellRecord.{CellRecord}
use Rattle.turn_cell.specs.declared.turn_table.TurnPass.{TurnPass}
use Rattle.turn_cell.specs.declared.turn_table.TurnTable.{TurnTable}
use Rattle.turn_cell.specs.declared.view.Known.{Known}
use Rattle.turn_cell.specs.Passes.{ArePassesOf, pass_number, pass_own, pass_view}
use Rattle.turn_cell.specs.Records.{AreHistories}
use Rattle.turn_cell.specs.Views.{own_in}
use Rattle.turn_cell.proofs.Gathering.{at_unmap}
use Rattle.cell_runs.specs.declared.run.ThreadRun.{ThreadRun}
use Rattle.cell_runs.specs.declared.script.Script.{Script}
use Rattle.cell_runs.specs.Runs.{AreCallsMade, CellsAreLegal, IsHistory, IsLawfulRun, ScriptsKeepOrder, StampsRise, log_of}
use Rattle.cell_runs.specs.Scripts.{HaveRun, IsThreadRun, items_of, pass_in, ready_with, replies_in}
use Rattle.cell_runs.proofs.Whole.{lawful}
use Rattle.cell_runs.proofs.Bridged.{cells_keep}
use Rattle.cell_runs.proofs.Ending.{HasEnded, at_map, ended_at, many_ends, many_last}

module _ {S : Type 0} where
  -- the cell of a number, where there is one
  abbrev cell_in : S → List S → ℕ → S
  cell_in other cells c = slice_index_or cells c other

  cell_at : (other : S) (cells : List S) (c : ℕ) (cell : S) → get_elem? cells c ≡ some cell → cell_in other cells c ≡ cell
  cell_at other [] c cell at = absurd (cc)
  cell_at other (x ∷ cells) zero cell at = some-injective x cell at
  cell_at other (x ∷ cells) (suc c) cell at = cell_at other cells c cell at

module _ {S O A K T C R : Type 0} (after : S → O → S) (reply : S → O → A) (kind : S → K) (allows : K → O → A → Type 0) (table : TurnTable S O A T) (Walk : List R → C → List (Known O A) → R → Type 0)
    (scripts : List (Vec C Global)) (passes : List (TurnPass S O A)) (ends : List (Script C R (TurnPass S O A))) (replies : List (Vec R Global)) (last : List (TurnPass S O A))
    (run : HaveRun table Walk (ready_with scripts passes) ends) (gives : map replies_in ends ≡ map (λ given. Some given) replies) (leaves : map pass_in ends ≡ map (λ pass. Some pass) last)
    (same : length passes ≡ length scripts) (are : ArePassesOf table passes) where
  abbrev owns : List (List (Known O A))
  owns = map own_in (map pass_view last)

  ended : (t : ℕ) (ks : List (Known O A)) → get_elem? owns t ≡ some ks → (new : TurnPass S O A) × HasEnded table Walk scripts passes ends replies last run gives leaves t new × (pass_own new ≡ ks)
  ended t ks at =
      let (view, view_at, view_is) = at_unmap own_in (map pass_view last) t ks at in
      let (new, new_at, new_is) = at_unmap pass_view last t view view_at in
      (new, ended_at table Walk scripts passes ends replies last run gives leaves t new new_at, ap own_in new_is ∙ view_is)

  many_replies : length replies ≡ length scripts
  many_replies = sym (length-map replies (λ (v : Vec R Global). Some v)) ∙ sym (ap length gives) ∙ length-map ends replies_in ∙ many_ends table Walk scripts passes ends replies last run gives leaves same are

  keeps : ScriptsKeepOrder after reply Walk (items_of scripts) (items_of replies) owns
  keeps = record {
    count_replies = length-map replies (λ (v : Vec R Global). v.items) ∙ many_replies ∙ sym (length-map scripts (λ (v : Vec C Global). v.items));
    count_owns = length-map (map pass_view last) own_in ∙ length-map last pass_view ∙ many_last table Walk scripts passes ends replies last run gives leaves same are ∙ sym (length-map scripts (λ (v : Vec C Global). v.items));
    made = λ t cs rs ks at_cs at_rs at_ks.
        let (new, end, own_is) = ended t ks at_ks in
        let old_is : pass_number end.old ≡ t = (are.each t end.old end.old_at).1 in
        let calls_is : end.calls.items ≡ cs = some-injective end.calls.items cs (sym (at_map (λ (v : Vec C Global). v.items) scripts t end.calls end.calls_at) ∙ at_cs) in
        let given_is : end.given.items ≡ rs = some-injective end.given.items rs (sym (at_map (λ (v : Vec R Global). v.items) replies t end.given end.given_at) ∙ at_rs) in
        subst (λ (z : ℕ × List C × List R × List (Known O A)). AreCallsMade Walk z.0 1 [] z.1 z.2 z.3) (λ i. (old_is i, calls_is i, given_is i, own_is i)) end.made.made;
    rising = λ t ks at_ks. let (new, end, own_is) = ended t ks at_ks in subst StampsRise own_is end.made.rising;
  }

  module _ (openings : List S) (records : List (CellRecord S O A)) (steps : List (Known O A)) (cells : List S)
      (histories : AreHistories after reply kind allows openings (map pass_view last) records) (history : IsHistory (log_of records) (length records) steps)
      (states : cells ≡ map (λ (r : CellRecord S O A). r.state) records) (other : S) where
    legal : CellsAreLegal after reply Walk (cell_in other openings) owns (log_of records) (cell_in other cells) (length records)
    legal = cells_keep after reply kind allows Walk openings (map pass_view last) records (cell_in other openings) (cell_in other cells) histories
        (λ c s at. cell_at other openings c s at)
        (λ c r at. ap (λ (l : List S). cell_in other l c) states ∙ cell_at other (map (λ (z : CellRecord S O A). z.state) records) c r.state (at_map (λ (z : CellRecord S O A). z.state) records c r at))

    law : IsLawfulRun after reply Walk (cell_in other openings) (items_of scripts) (items_of replies) steps (cell_in other cells) (length openings)
    law = subst (λ (n : ℕ). IsLawfulRun after reply Walk (cell_in other openings) (items_of scripts) (items_of replies) steps (cell_in other cells) n) histories.count
        (lawful after reply Walk (cell_in other openings) (items_of scripts) (items_of replies) owns (log_of records) (cell_in other cells) (length records) steps keeps legal history)

    -- the run of these replies, steps and cells
    pub lawfully : (left : ThreadRun R S O A) → left.replies.items ≡ replies → left.steps.items ≡ steps → left.cells.items ≡ cells → IsThreadRun after reply Walk openings scripts left
    lawfully left replies_are steps_are cells_are = record {
      opening = cell_in other openings;
      last = cell_in other cells;
      openings = λ c cell at. cell_at other openings c cell at;
      lasts = λ c cell at. cell_at other cells c cell (ap (λ (l : List S). get_elem? l c) (sym cells_are) ∙ at);
      count = ap length (cells_are ∙ states) ∙ length-map records (λ (r : CellRecord S O A). r.state) ∙ histories.count;
      near = λ i known at. subst (λ (n : ℕ). known.cell < n) histories.count (history.from i known (ap (λ (l : List (Known O A)). get_elem? l i) (sym steps_are) ∙ at)).0;
      lawful = subst (λ (z : List (Vec R Global) × List (Known O A)). IsLawfulRun after reply Walk (cell_in other openings) (items_of scripts) (items_of z.0) z.1 (cell_in other cells) (length openings)) (λ i. (sym replies_are i, sym steps_are i)) law;
    }
