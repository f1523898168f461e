-- A script of a thread grows by one call.
use Rattle.std.proofs.Common.{◌≡◌, ℕ, ◌+◌, List, [], ◌∷◌, ◌++◌, length, map, sym, ap, subst, ◌∙◌}
use mathlib.Core.List.{map-append}
use Rattle.turn_cell.specs.Passes.{pass_number, pass_own, pass_seen}
use Rattle.path_walk.specs.declared.call.Reply.{Reply}
use Rattle.memory_backend.specs.CellSteps.{StoreEntry, StorePass}
use Rattle.cell_runs.specs.Runs.{AreCallsMade, AreStepsOf}
use Rattle.cell_runs.specs.Scripts.{IsMade, RiseAfter}
use Rattle.cell_runs.proofs.Making.{made_next, rise_on}
use Rattle.trace_text.specs.declared.trace_call.TraceCall.{TraceCall}
use Rattle.trace_text.specs.declared.version.Version.{Version}
use Rattle.trace_text.specs.TraceCalls.{number_in_reply}
use Rattle.thread_runs.specs.StoreRuns.{StoreWalk}

module _ (version : Version) (backends t number : ℕ) (calls : List TraceCall) (call : TraceCall) (replies more : List Reply) (reply : Reply) (old new : StorePass)
    (one : IsMade (StoreWalk version backends replies call) (number + 1) reply old new) where
  pub calls_made : AreCallsMade (StoreWalk version backends) t 1 [] calls replies (pass_own old) → pass_number old ≡ t → number ≡ length calls → more ≡ replies ++ reply ∷ []
      → AreCallsMade (StoreWalk version backends) t 1 [] (calls ++ call ∷ []) more (pass_own new)
  calls_made made same count grows =
      made_next (StoreWalk version backends) t number calls replies more (pass_own old) (pass_own new) one.entries call reply made count grows one.own
      (subst (λ (runner : ℕ). AreStepsOf runner (number + 1) one.entries) same one.of_call) one.walk

  pub entries_rise : RiseAfter [] (pass_own old) → pass_seen old ≡ pass_own old → RiseAfter [] (pass_own new)
  entries_rise rise seen = subst (RiseAfter []) (sym one.own) (rise_on [] (pass_own old) one.entries rise (subst (λ (l : List StoreEntry). RiseAfter l one.entries) seen one.rise))

  pub all_own : pass_seen old ≡ pass_own old → pass_seen new ≡ pass_own new
  all_own seen = one.seen ∙ ap (λ (l : List StoreEntry). l ++ one.entries) seen ∙ sym one.own

pub numbers_more : (numbers grown : List ℕ) (replies more : List Reply) (reply : Reply) (number : ℕ) → numbers ≡ map number_in_reply replies → grown ≡ numbers ++ number ∷ [] → number ≡ number_in_reply reply → more ≡ replies ++ reply ∷ []
    → grown ≡ map number_in_reply more
numbers_more numbers grown replies more reply number known grows is longer =
    grows ∙ (λ i. known i ++ is i ∷ []) ∙ sym (map-append number_in_reply replies (reply ∷ [])) ∙ ap (map number_in_reply) (sym longer)
