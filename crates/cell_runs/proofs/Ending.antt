-- Scripts that are ready for their run, and what they leave.
use Rattle.std.proofs.Common.{◌≡◌, ℕ, zero, suc, ◌<◌, ◌^◌, List, [], ◌∷◌, length, map, Option, Some, refl, sym, ap, subst, ◌∙◌, arith}
use Rattle.std.specs.Prelude.{Vec, slice_index_or}
use Rattle.std.specs.Global.{Global}
use Rattle.std.proofs.lemmas.List.{length-map}
use mathlib.Core.Option.{some, some-injective}
use lib.ListN.{get_elem?}
use Rattle.turn_cell.specs.declared.view.Known.{Known}
use Rattle.turn_cell.specs.declared.turn_table.TurnPass.{TurnPass}
use Rattle.turn_cell.specs.declared.turn_table.TurnTable.{TurnTable}
use Rattle.turn_cell.specs.Passes.{AreFresh, ArePassesOf, IsPassOf, pass_own, pass_seen}
use Rattle.turn_cell.proofs.Frames.{at_below}
use Rattle.turn_cell.proofs.Gathering.{at_unmap}
use Rattle.cell_runs.specs.declared.script.Script.{Script}
use Rattle.cell_runs.specs.declared.script.Script.TheVariants.{Ready, Ended, Stopped}
use Rattle.cell_runs.specs.Scripts.{AreReady, HasMade, HasRun, HaveRun, pass_in, ready_with, replies_in}

module _ {X Y : Type 0} where
  pub at_map : (f : X → Y) (xs : List X) (i : ℕ) (x : X) → get_elem? xs i ≡ some x → get_elem? (map f xs) i ≡ some (f x)
  at_map f [] i x at = absurd (cc)
  at_map f (y ∷ ys) zero x at = ap (λ z. some (f z)) (some-injective y x at)
  at_map f (y ∷ ys) (suc i) x at = at_map f ys i x at

module _ {X : Type 0} where
  or_there : (xs : List X) (i : ℕ) (x d : X) → get_elem? xs i ≡ some x → slice_index_or xs i d ≡ x
  or_there [] i x d at = absurd (cc)
  or_there (y ∷ ys) zero x d at = some-injective y x at
  or_there (y ∷ ys) (suc i) x d at = or_there ys i x d at

  some_is : (x y : X) → Some x ≡ Some y → x ≡ y
  some_is x y is = cc

many_ready : {C P : Type 0} (R : Type 0) (scripts : List (Vec C Global)) (passes : List P) → length passes ≡ length scripts → length (ready_with {R = R} scripts passes) ≡ length scripts
many_ready R [] passes same = refl
many_ready R (calls ∷ more) [] same = absurd (omega (arith, same))
many_ready R (calls ∷ more) (pass ∷ passes) same = ap suc (many_ready R more passes (omega (arith, same)))

module _ {C R P : Type 0} where
  -- the script of a number, which has its calls and its pass
  ready_at : (scripts : List (Vec C Global)) (passes : List P) (i : ℕ) → i < length (ready_with {R = R} scripts passes)
      → (calls : Vec C Global) × (pass : P) × (get_elem? scripts i ≡ some calls) × (get_elem? passes i ≡ some pass) × ((d : Script C R P) → slice_index_or (ready_with scripts passes) i d ≡ Ready calls pass)
  ready_at [] passes i low = absurd (omega (arith, low))
  ready_at (calls ∷ more) [] i low = absurd (omega (arith, low))
  ready_at (calls ∷ more) (pass ∷ passes) zero low = (calls, pass, refl, refl, λ d. refl)
  ready_at (calls ∷ more) (pass ∷ passes) (suc i) low = ready_at more passes i (omega (arith, low))

  -- what ended with this pass has replies, whichever they are
  ended_with : (script : Script C R P) (pass : P) → pass_in script ≡ Some pass → (given : Vec R Global) × (script ≡ Ended given pass)
  ended_with (Ended given own) pass is = (given, ap (λ (p : P). Ended given p) (some_is own pass is))
  ended_with (Ready calls own) pass is = absurd (cc)
  ended_with Stopped pass is = absurd (cc)

module _ {S O A K C R : Type 0} (table : TurnTable S O A K) where
  ready_if : (scripts : List (Vec C Global)) (passes : List (TurnPass S O A))
      → ((k : ℕ) (p : TurnPass S O A) → get_elem? passes k ≡ some p → IsPassOf table p × (pass_own p ≡ []) × (pass_seen p ≡ []))
      → ((k : ℕ) (calls : Vec C Global) → get_elem? scripts k ≡ some calls → length calls.items < 2 ^ 32)
      → AreReady {R = R} table (ready_with scripts passes)
  ready_if [] passes fresh few i d low = absurd (omega (arith, low))
  ready_if (calls ∷ more) [] fresh few i d low = absurd (omega (arith, low))
  ready_if (calls ∷ more) (pass ∷ passes) fresh few zero d low =
      let (of_table, own, seen) = fresh zero pass refl in record { of_table = of_table; own = own; seen = seen; few = few zero calls refl }
  ready_if (calls ∷ more) (pass ∷ passes) fresh few (suc i) d low =
      ready_if more passes (λ k p at. fresh (suc k) p at) (λ k c at. few (suc k) c at) i d (omega (arith, low))

  -- with passes that were just dealt
  pub are_ready : (scripts : List (Vec C Global)) (passes : List (TurnPass S O A)) → ArePassesOf table passes → AreFresh passes
      → ((k : ℕ) (calls : Vec C Global) → get_elem? scripts k ≡ some calls → length calls.items < 2 ^ 32) → AreReady {R = R} table (ready_with scripts passes)
  are_ready scripts passes are fresh few = ready_if scripts passes (λ k p at. ((are.each k p at).0, fresh.own k p at, fresh.seen k p at)) few

module _ {S O A K C R : Type 0} (table : TurnTable S O A K) (Walk : List R → C → List (Known O A) → R → Type 0) (scripts : List (Vec C Global)) (passes : List (TurnPass S O A)) (ends : List (Script C R (TurnPass S O A)))
    (replies : List (Vec R Global)) (last : List (TurnPass S O A)) (run : HaveRun table Walk (ready_with scripts passes) ends)
    (gives : map replies_in ends ≡ map (λ given. Some given) replies) (leaves : map pass_in ends ≡ map (λ pass. Some pass) last) where
  -- what is left of a run at one thread
  pub record HasEnded (t : ℕ) (new : TurnPass S O A) : Type 0 where
    pub calls : Vec C Global
    pub given : Vec R Global
    pub old : TurnPass S O A
    pub calls_at : get_elem? scripts t ≡ some calls
    pub given_at : get_elem? replies t ≡ some given
    pub old_at : get_elem? passes t ≡ some old
    pub made : HasMade table Walk calls.items given.items old new

  pub ended_at : (t : ℕ) (new : TurnPass S O A) → get_elem? last t ≡ some new → HasEnded t new
  ended_at t new at =
      let new_at : get_elem? (map pass_in ends) t ≡ some (Some new) = ap (λ (l : List (Option (TurnPass S O A))). get_elem? l t) leaves ∙ at_map (λ (p : TurnPass S O A). Some p) last t new at in
      let (script, script_at, is) = at_unmap pass_in ends t (Some new) new_at in
      let (found, script_is) = ended_with script new is in
      let found_at : get_elem? (map replies_in ends) t ≡ some (Some found) = at_map replies_in ends t script script_at ∙ ap (λ (s : Script C R (TurnPass S O A)). some (replies_in s)) script_is in
      let (given, given_at, same) = at_unmap (λ (v : Vec R Global). Some v) replies t (Some found) (ap (λ (l : List (Option (Vec R Global))). get_elem? l t) (sym gives) ∙ found_at) in
      let count = run.count in
      let low = at_below ends t script script_at in
      let (calls, old, calls_at, old_at, ready_is) = ready_at scripts passes t (omega (arith, count, low)) in
      let ran : HasRun table Walk (slice_index_or (ready_with scripts passes) t script) (slice_index_or ends t script) = run.each t script (omega (arith, count, low)) in
      let end_is : slice_index_or ends t script ≡ Ended given new = or_there ends t script script script_at ∙ script_is ∙ ap (λ (v : Vec R Global). Ended v new) (sym (some_is given found same)) in
      record {
        calls = calls;
        given = given;
        old = old;
        calls_at = calls_at;
        given_at = given_at;
        old_at = old_at;
        made = subst (λ (z : Script C R (TurnPass S O A) × Script C R (TurnPass S O A)). HasRun table Walk z.0 z.1) (λ i. (ready_is script i, end_is i)) ran;
      }

  module _ (same : length passes ≡ length scripts) (are : ArePassesOf table passes) where
    pub many_ends : length ends ≡ length scripts
    many_ends = run.count ∙ many_ready R scripts passes same

    pub many_last : length last ≡ length scripts
    many_last = sym (length-map last (λ (p : TurnPass S O A). Some p)) ∙ sym (ap length leaves) ∙ length-map ends pass_in ∙ many_ends

    -- the passes of scripts that ended are all passes of the table
    pub given_back : ArePassesOf table last
    given_back = record {
      count = many_last ∙ sym same ∙ are.count;
      each = λ t new at. let ended = ended_at t new at in (ended.made.pass, ended.made.number ∙ (are.each t ended.old ended.old_at).1);
    }
