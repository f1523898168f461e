-- The script of one thread: its calls, made in turn, each by steps on cells.
use Rattle.std.specs.Prelude.{◌≡◌, ℕ, ◌<◌, ◌^◌, List, [], ◌∷◌, ◌++◌, length, map, Option, Some, None, Vec, slice_index_or}
use Rattle.std.specs.Global.{Global}
use mathlib.Core.Option.{some}
use lib.ListN.{get_elem?}
use Rattle.turn_cell.specs.declared.view.Known.{Known}
use Rattle.turn_cell.specs.declared.turn_table.TurnPass.{TurnPass}
use Rattle.turn_cell.specs.declared.turn_table.TurnTable.{TurnTable}
use Rattle.turn_cell.specs.Passes.{IsPassOf, pass_number, pass_own, pass_seen}
use Rattle.cell_runs.specs.declared.run.ThreadRun.{ThreadRun}
use Rattle.cell_runs.specs.declared.script.Script.{Script}
use Rattle.cell_runs.specs.declared.script.Script.TheVariants.{Ready, Ended, Stopped}
use Rattle.cell_runs.specs.Runs.{AreCallsMade, AreStepsOf, IsLawfulRun, StampsRise}

-- the stamps of the entries rise, from above those that were seen before
module _ {O A : Type 0} where
  abbrev pub RiseAfter : List (Known O A) → List (Known O A) → Type 0
  RiseAfter seen [] = Unit {0}
  RiseAfter seen (known ∷ entries) =
      ((k : ℕ) (x : Known O A) → get_elem? seen k ≡ some x → x.entry.stamp < known.entry.stamp) × RiseAfter (seen ++ known ∷ []) entries

-- a call of a thread, of that number, led from one pass to the other
module _ {S O A R : Type 0} (Walk : List (Known O A) → R → Type 0) where
  pub record IsMade (number : ℕ) (reply : R) (old new : TurnPass S O A) : Type 0 where
    pub entries : List (Known O A)
    pub own : pass_own new ≡ pass_own old ++ entries
    pub seen : pass_seen new ≡ pass_seen old ++ entries
    pub rise : RiseAfter (pass_seen old) entries
    pub of_call : AreStepsOf (pass_number old) number entries
    pub walk : Walk entries reply

module _ {S O A K C : Type 0} (table : TurnTable S O A K) where
  -- a script that is to be run, with a pass that has taken no step
  pub record IsReadyWith (calls : List C) (pass : TurnPass S O A) : Type 0 where
    pub of_table : IsPassOf table pass
    pub own : pass_own pass ≡ []
    pub seen : pass_seen pass ≡ []
    pub few : length calls < 2 ^ 32

module _ {S O A K C R : Type 0} (table : TurnTable S O A K) where
  abbrev pub IsReady : Script C R (TurnPass S O A) → Type 0
  IsReady (Ready calls pass) = IsReadyWith table calls.items pass
  IsReady (Ended replies pass) = ⊥
  IsReady Stopped = ⊥

  abbrev pub AreReady : List (Script C R (TurnPass S O A)) → Type 0
  AreReady scripts = (i : ℕ) (d : Script C R (TurnPass S O A)) → i < length scripts → IsReady (slice_index_or scripts i d)

module _ {S O A K C R : Type 0} (table : TurnTable S O A K) (Walk : List R → C → List (Known O A) → R → Type 0) where
  -- the calls of a thread, all made in turn, led from one pass to the other
  pub record HasMade (calls : List C) (replies : List R) (old new : TurnPass S O A) : Type 0 where
    pub pass : IsPassOf table new
    pub number : pass_number new ≡ pass_number old
    pub made : AreCallsMade Walk (pass_number old) 1 [] calls replies (pass_own new)
    pub rising : StampsRise (pass_own new)

  -- a script that was ready has made its calls, or was stopped
  abbrev pub HasRun : Script C R (TurnPass S O A) → Script C R (TurnPass S O A) → Type 0
  HasRun (Ready calls pass) (Ended replies new) = HasMade calls.items replies.items pass new
  HasRun (Ready calls pass) Stopped = Unit {0}
  HasRun old new = ⊥

  pub record HaveRun (old new : List (Script C R (TurnPass S O A))) : Type 0 where
    pub count : length new ≡ length old
    pub each : (i : ℕ) (d : Script C R (TurnPass S O A)) → i < length old → HasRun (slice_index_or old i d) (slice_index_or new i d)

module _ {C R P : Type 0} where
  -- each thread's calls with its pass
  abbrev pub ready_with : List (Vec C Global) → List P → List (Script C R P)
  ready_with [] passes = []
  ready_with (calls ∷ more) [] = []
  ready_with (calls ∷ more) (pass ∷ passes) = Ready calls pass ∷ ready_with more passes

  abbrev pub replies_in : Script C R P → Option (Vec R Global)
  replies_in (Ended replies pass) = Some replies
  replies_in script = None

  abbrev pub pass_in : Script C R P → Option P
  pass_in (Ended replies pass) = Some pass
  pass_in script = None

-- What a run comes to.

module _ {X : Type 0} where
  abbrev pub items_of : List (Vec X Global) → List (List X)
  items_of vectors = map (λ (v : Vec X Global). v.items) vectors

module _ {S O A C R : Type 0} (after : S → O → S) (reply : S → O → A) (Walk : List R → C → List (Known O A) → R → Type 0) where
  -- from these cells, the scripts made one lawful run
  pub record IsThreadRun (cells : List S) (scripts : List (Vec C Global)) (run : ThreadRun R S O A) : Type 0 where
    -- what is in the cell of a number, at first and in the end
    pub opening : ℕ → S
    pub last : ℕ → S
    pub openings : (c : ℕ) (cell : S) → get_elem? cells c ≡ some cell → opening c ≡ cell
    pub lasts : (c : ℕ) (cell : S) → get_elem? run.cells.items c ≡ some cell → last c ≡ cell
    pub count : length run.cells.items ≡ length cells
    -- each step is on one of them
    pub near : (i : ℕ) (known : Known O A) → get_elem? run.steps.items i ≡ some known → known.cell < length cells
    pub lawful : IsLawfulRun after reply Walk opening (items_of scripts) (items_of run.replies.items) run.steps.items last (length cells)
