-- The notices under which the owner is at a place, or started its jobs.
use Rattle.std.proofs.Common.{◌≡◌, ◌≢◌, ℕ, ◌<◌, ◌↔◌, Some, List, length, refl, subst, inl, inr}
use Rattle.std.specs.Bool.{Decides, IsTrue}
use Rattle.std.specs.List.{list_any, All, HoldsAt}
use Rattle.std.proofs.lemmas.Bool.{or_cases, or_left, or_right}
use Rattle.std.proofs.lemmas.Bool.Decides.{Decides-by_or}
use Rattle.std.proofs.lemmas.List.{get_or_default}
use Rattle.proxy_laws.specs.declared.actors.Serving.{Serving}
use Rattle.proxy_laws.specs.declared.records.Job.{Job}
use Rattle.proxy_laws.specs.declared.records.Started.TheVariants as started
use Rattle.proxy_laws.specs.Lists.{active_job}
use Rattle.proxy_laws.specs.Phases.{is_under}
use Rattle.proxy_laws.specs.Starts.{is_notice}
use Rattle.proxy_laws.specs.Worlds.{WorldState}
use Rattle.proxy_model.specs.Parts.{AreApart, IsPhaseApart, IsStartApart}

-- what holds of the owner's notice holds of each that it is under
pub each_under : (n : ℕ) (Q : ℕ → Type 0) (at_place : Serving) → ((m : ℕ) → IsTrue (is_under m at_place) ↔ (Some n ≡ Some m)) → (Q n → (m : ℕ) → IsTrue (is_under m at_place) → Q m) × (((m : ℕ) → IsTrue (is_under m at_place) → Q m) → Q n)
each_under n Q at_place is = (λ q m under. let e : n ≡ m = let s = (is m).0 under in cc in subst Q e q, λ each. each n ((is n).1 refl))

-- a notice started a job of the list exactly where it started the job of some number
started_some : (k : ℕ) (jobs : List Job) → Decides (list_any (λ job. is_notice k job.started) jobs) ((n : ℕ) × (n < length jobs) × HoldsAt (λ job. IsTrue (is_notice k job.started)) jobs n)
started_some k jobs = Decides-by_or (λ job. is_notice k job.started) (λ job. IsTrue (is_notice k job.started)) (λ js. list_any (λ job. is_notice k job.started) js) (λ job. (λ e. e, λ e. e)) refl (λ job js. refl) jobs

-- no notice of p is one of q
pub apart_from_parts : (w : WorldState) (p q : ℕ) → IsPhaseApart w (w.serving p) q → All (λ job. IsStartApart w job.started q) (w.jobs p) → AreApart w p q
apart_from_parts w p q phase starts k at_p at_q = elim (or_cases _ _ at_p) [
  | inl any ↦ let some = (started_some k (w.jobs p)).0 any in
      absurd (starts some.0 (active_job started.Direct) some.1 k (some.2 (active_job started.Direct)) at_q)
  | inr under ↦ absurd (phase k under at_q)
]

pub starts_from_apart : (w : WorldState) (p q : ℕ) → p ≢ q → AreApart w p q → All (λ job. IsStartApart w job.started q) (w.jobs p)
starts_from_apart w p q ne apart n d near k is at_q =
    ne (apart k (or_left _ _ ((started_some k (w.jobs p)).1 (n, near, λ d'. subst (λ (job : Job). IsTrue (is_notice k job.started)) (get_or_default (w.jobs p) n d d' near) is))) at_q)
