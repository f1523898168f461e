-- What a notice starts.
use Rattle.std.proofs.Common.{◌≡◌, ◌≢◌, ℕ, zero, suc, ◌+◌, ◌<◌, true, inl, inr, Option, Some, None, List, length, length-set, refl, arith, sym, ap, ◌∙◌, subst}
use Rattle.std.specs.Prelude.{◌/◌}
use Rattle.std.proofs.lemmas.Bool.{cases_lt}
use Rattle.std.proofs.lemmas.List.{get_or-set_same, get_or_past}
use Rattle.proxy_laws.specs.declared.actors.OwnerState.TheVariants as state
use Rattle.proxy_laws.specs.declared.actors.Serving.{Serving}
use Rattle.proxy_laws.specs.declared.actors.Serving.TheVariants as serving
use Rattle.proxy_laws.specs.declared.records.Started.{Started}
use Rattle.proxy_laws.specs.declared.records.Started.TheVariants as started
use Rattle.proxy_laws.specs.Lists.{start_under}
use Rattle.proxy_laws.specs.Phases.{serving_after_receive}
use Rattle.post_core.specs.declared.views.View.{View}
use Rattle.post_core.specs.MailSteps.{IsFirstNotice, words_empty}
use Rattle.post_core.specs.ServingSteps.{at_serving, place_received, serving_at}
use Rattle.post_core.specs.Views.{owner_of}
use Rattle.mailbox.specs.declared.calls.RunCall.{RunCall}
use Rattle.mailbox.specs.declared.calls.RunJob.{RunJob}
use Rattle.mailbox.specs.Deeds.{StartsAs, WasDone}
use Rattle.post_core.specs.Parts.{is_open_start, serving_of}
use Rattle.mailbox.specs.Turns.{IsStartAfter, WereRun, jobs_in, start_here}

got_not_away : (k : ℕ) → serving.Got k ≢ serving.Away
got_not_away k e = cc

not_away : (s : Started) → is_open_start s ≡ true → serving_of s ≢ serving.Away
not_away (started.Notice k) opened e = cc
not_away started.Direct opened e = cc
not_away started.Closing opened e = cc

module _ {M : Type 0} where
  words_jobs : (word : ℕ) (v : View M) → jobs_in (words_empty word v) ≡ jobs_in v
  words_jobs zero v = refl
  words_jobs (suc word) v = words_jobs word v

  words_got : (word : ℕ) (v : View M) → (owner_of (words_empty word v)).got ≡ (owner_of v).got
  words_got zero v = refl
  words_got (suc word) v = words_got word v

  pub none_jobs : (v u : View M) → u ≡ words_empty 4 v → jobs_in u ≡ jobs_in v
  none_jobs v u is = ap (λ x. jobs_in x) is ∙ words_jobs 4 v

  pub first_jobs : (p : ℕ) (v u : View M) → IsFirstNotice p v u → jobs_in u ≡ jobs_in v
  first_jobs p v u first = ap (λ x. jobs_in x) first.3 ∙ words_jobs (p / 64) v

  pub first_got : (p : ℕ) (v u : View M) → IsFirstNotice p v u → (owner_of u).got ≡ (owner_of v).got + 1
  first_got p v u first = ap (λ x. (owner_of x).got) first.3 ∙ ap (λ k. k + 1) (words_got (p / 64) v)

  inside_serving : (v : View M) (p : ℕ) (s : Serving) → serving_at p v ≡ s → s ≢ serving.Away → p < length (owner_of v).serving
  inside_serving v p s is ne = elim (cases_lt p (length (owner_of v).serving)) [
    | inl there ↦ there
    | inr past ↦ absurd (ne (sym is ∙ get_or_past (owner_of v).serving p serving.Away past))
  ]

  -- the jobs of a place that is received are started by its notice
  pub notice_starts : (u w : View M) (p k : ℕ) → (owner_of u).state ≡ state.Open → serving_at p u ≡ serving.Got k → w ≡ place_received p u → start_here p w ≡ started.Notice k
  notice_starts u w p k opened got is =
      let inside = inside_serving u p (serving.Got k) got (got_not_away k) in
      let at : serving_at p w ≡ serving.Executing k = ap (λ x. serving_at p x) is ∙ (get_or-set_same (owner_of u).serving p (serving_after_receive (serving_at p u)) serving.Away inside ∙ ap serving_after_receive got) in
      let state_is : (owner_of w).state ≡ state.Open = ap (λ x. (owner_of x).state) is ∙ opened in
      λ i. start_under (state_is i) (at i)

  -- those of a place that is executed without a notice start directly
  pub direct_starts : (u w : View M) (p : ℕ) (s : Started) → (owner_of u).state ≡ state.Open → is_open_start s ≡ true → serving_at p w ≡ serving_of s → w ≡ at_serving p serving.Direct u → start_here p w ≡ started.Direct
  direct_starts u w p s opened runs here is =
      let there = inside_serving w p (serving_of s) here (not_away s runs) in
      let long : length (owner_of w).serving ≡ length (owner_of u).serving = ap (λ x. length (owner_of x).serving) is ∙ length-set (owner_of u).serving p serving.Direct in
      let at : serving_at p w ≡ serving.Direct = ap (λ x. serving_at p x) is ∙ get_or-set_same (owner_of u).serving p serving.Direct serving.Away (omega arith) in
      let state_is : (owner_of w).state ≡ state.Open = ap (λ x. (owner_of x).state) is ∙ opened in
      λ i. start_under (state_is i) (at i)

-- a start by a notice, or by what was left
pub start_later : (left : Option Started) (got got' : ℕ) → got' ≡ got → (s : Started) → IsStartAfter None got' s → IsStartAfter left got s
start_later left got got' is s (inl e) = absurd (none_some s e) where
  none_some : (x : Started) → None ≡ Some x → ⊥
  none_some x e' = cc
start_later left got got' is s (inr k) = inr (k.0, subst (λ n. n < k.0) is k.1, k.2)

module _ {M T R : Type 0} (did : R → List (RunCall M T) → R → Type 0) (held : R → List (RunJob M)) (target : ℕ) where
  pub run_from : (P : Started → Type 0) (n : ℕ) (r r' : R) (u v w : View M) → jobs_in v ≡ jobs_in u → WereRun did held target P n r r' v w → WereRun did held target P n r r' u w
  run_from P n r r' u v w is a = subst (λ js. WasDone did (StartsAs P) target n r r' js (jobs_in w) (held r) (held r')) is a
