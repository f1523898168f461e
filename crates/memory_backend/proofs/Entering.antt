-- A step on a cell, as the pass that took it shows it.
use Rattle.std.proofs.Common.{◌≡◌, ℕ, ◌<◌, zero, suc, List, [], ◌∷◌, length, Result, Ok, IsErr, refl, sym, ap, subst, ◌∙◌, arith}
use Rattle.std.proofs.lemmas.List.{append-nil}
use Rattle.std.specs.declared.alloc.AllocError.{AllocError}
use mathlib.Core.Option.{some}
use lib.ListN.{get_elem?}
use Rattle.turn_cell.specs.declared.entry.Caller.{Caller}
use Rattle.turn_cell.specs.Histories.{entry_with}
use Rattle.turn_cell.specs.Passes.{AddsEntry, IsPassAt, TableId, pass_number, pass_own, pass_seen, pass_view}
use Rattle.turn_cell.specs.Views.{own_in}
use Rattle.path_walk.specs.declared.step.CellId.{CellId}
use Rattle.path_walk.specs.declared.step.CellId.TheVariants as cell
use Rattle.path_walk.specs.declared.step.StoreOp.{StoreOp}
use Rattle.path_walk.specs.declared.step.StoreOp.TheVariants.{Names as NamesOp, Files as FilesOp, Descriptors as DescriptorsOp}
use Rattle.path_walk.specs.declared.step.StoreAnswer.{StoreAnswer}
use Rattle.path_walk.specs.declared.step.StepAnswer.{StepAnswer}
use Rattle.path_walk.specs.declared.step.StepAnswer.TheVariants.{Answered}
use Rattle.path_walk.specs.Backing.{IsAnswerOf, IsCellOf}
use Rattle.path_walk.specs.Programs.{step_of}
use Rattle.memory_backend.specs.CellNumbers.{AreCellsOf, IsCellIn, cell_of, cells_of, kind_of_id}
use Rattle.memory_backend.specs.CellSteps.{PassRan, StaysOfTable, StorePass}
use Rattle.memory_backend.specs.Cells.{Cell, KindAllows, KindTakes, cell_kind}
use Rattle.memory_backend.proofs.Numbering.{below}

is_in : (backends : ℕ) (id : CellId) (op : StoreOp) → IsCellOf backends id op → IsCellIn backends id
is_in backends cell.Descriptors op fits = tt
is_in backends (cell.Names backend) (NamesOp op) fits = fits
is_in backends (cell.Names backend) (FilesOp op) fits = absurd fits
is_in backends (cell.Names backend) (DescriptorsOp op) fits = absurd fits
is_in backends (cell.Files backend group) (FilesOp op) fits = fits
is_in backends (cell.Files backend group) (NamesOp op) fits = absurd fits
is_in backends (cell.Files backend group) (DescriptorsOp op) fits = absurd fits

kind_takes : (backends : ℕ) (id : CellId) (op : StoreOp) → IsCellOf backends id op → KindTakes (kind_of_id backends id) (record { cell = id; op = op })
kind_takes backends cell.Descriptors (DescriptorsOp op) fits = (tt, fits)
kind_takes backends cell.Descriptors (NamesOp op) fits = absurd fits
kind_takes backends cell.Descriptors (FilesOp op) fits = absurd fits
kind_takes backends (cell.Names backend) (NamesOp op) fits = (tt, fits)
kind_takes backends (cell.Names backend) (FilesOp op) fits = absurd fits
kind_takes backends (cell.Names backend) (DescriptorsOp op) fits = absurd fits
kind_takes backends (cell.Files backend group) (FilesOp op) fits = (tt, fits)
kind_takes backends (cell.Files backend group) (NamesOp op) fits = absurd fits
kind_takes backends (cell.Files backend group) (DescriptorsOp op) fits = absurd fits

module _ (backends : ℕ) (openings : List Cell) (are : AreCellsOf backends openings) (number : ℕ) (id : CellId) (op : StoreOp) (is : number ≡ cell_of backends id) (fits : IsCellOf backends id op) where
  kind_at : (one : Cell) → get_elem? openings number ≡ some one → cell_kind one ≡ kind_of_id backends id
  kind_at one here = are.kinds id one (is_in backends id op fits) (sym (ap (get_elem? openings) is) ∙ here)

  -- the cell of that number takes the operation
  pub takes_it : (one : Cell) → get_elem? openings number ≡ some one → KindTakes (cell_kind one) (record { cell = id; op = op })
  takes_it one here = subst (λ (k : _). KindTakes k (record { cell = id; op = op })) (sym (kind_at one here)) (kind_takes backends id op fits)

  there : (all : List Cell) (n : ℕ) → n < length all → (one : Cell) × (get_elem? all n ≡ some one)
  there [] n low = absurd (omega (arith, low))
  there (one ∷ all) zero low = (one, refl)
  there (one ∷ all) (suc n) low = there all n (omega (arith, low))

  -- what it answers is of a form that the operation has
  pub answers_it : (answer : StoreAnswer) → ((one : Cell) → get_elem? openings number ≡ some one → KindAllows (cell_kind one) (record { cell = id; op = op }) answer) → IsAnswerOf backends op (Answered answer)
  answers_it answer told =
      let low : cell_of backends id < cells_of backends = below backends id (is_in backends id op fits) in
      let count = are.count in
      let (one, here) = there openings number (omega (arith, is, low, count)) in
      subst (λ (k : _). KindAllows k (record { cell = id; op = op }) answer) (kind_at one here) (told one here)

pub stays_of : (id : TableId) (openings : List Cell) (p q : StorePass) → IsPassAt id openings p → IsPassAt id openings q → StaysOfTable p q
stays_of id openings p q old new = λ other others is. record {
  table = new.table ∙ sym old.table ∙ is.table;
  openings_are = new.openings_are ∙ sym old.openings_are ∙ is.openings_are;
}

-- a step that found no memory added nothing
pub adds_none : (backends : ℕ) (caller : Caller) (id : CellId) (op : StoreOp) (outcome : Result StepAnswer AllocError) (p q : StorePass) → IsErr outcome → pass_view q ≡ pass_view p → pass_number q ≡ pass_number p → StaysOfTable p q → PassRan backends caller (step_of id op outcome ∷ []) p q
adds_none backends caller id op outcome p q failed same number stays = (
  [],
  ([], [], refl, failed, refl),
  ap own_in same ∙ sym (append-nil (pass_own p)),
  ap (λ (v : _). v.seen) same ∙ sym (append-nil (pass_seen p)),
  tt,
  number,
  stays,
)

-- a step that was taken added its entry
pub adds_one : (backends number stamp : ℕ) (caller : Caller) (id : CellId) (op : StoreOp) (answer : StoreAnswer) (p q : StorePass) → number ≡ cell_of backends id → IsCellOf backends id op
    → AddsEntry number (entry_with stamp (pass_number p) caller (record { cell = id; op = op }) answer) p q → pass_number q ≡ pass_number p → StaysOfTable p q → PassRan backends caller (step_of id op (Ok (Answered answer)) ∷ []) p q
adds_one backends number stamp caller id op answer p q is fits adds same stays =
    let known : _ = record { cell = number; entry = entry_with stamp (pass_number p) caller (record { cell = id; op = op }) answer } in (
      known ∷ [],
      (known ∷ [], [], refl, record { cell = is; fits = fits; runner_is = refl; caller_is = refl; op = refl; answer = refl }, refl),
      adds.own,
      adds.seen,
      (adds.later, tt),
      same,
      stays,
    )
