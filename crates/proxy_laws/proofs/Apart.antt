-- The notices under which the owner is at a place, or started its jobs.
use Rattle.std.proofs.Common.{ℕ, ◌<◌, List, length, refl}
use Rattle.std.specs.Bool.{Decides, IsTrue}
use Rattle.std.specs.List.{list_any, HoldsAt}
use Rattle.std.proofs.lemmas.Bool.Decides.{Decides-by_or}
use Rattle.proxy_laws.specs.declared.records.Job.{Job}
use Rattle.proxy_laws.specs.Starts.{is_notice}

-- a notice started a job of the list exactly where it started the job of some number
pub started_some : (k : ℕ) (jobs : List Job) → Decides (list_any (λ job. is_notice k job.started) jobs) ((n : ℕ) × (n < length jobs) × HoldsAt (λ job. IsTrue (is_notice k job.started)) jobs n)
started_some k jobs = Decides-by_or (λ job. is_notice k job.started) (λ job. IsTrue (is_notice k job.started)) (λ js. list_any (λ job. is_notice k job.started) js) (λ job. (λ e. e, λ e. e)) refl (λ job js. refl) jobs
