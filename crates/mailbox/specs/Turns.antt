-- What comes of an owner's work at a place, and of a look at its mailbox.
use Rattle.std.specs.Prelude.{◌≡◌, ℕ, ◌+◌, ◌<◌, ◌⊎◌, Option, Some, List, [], min}
use Rattle.proxy_laws.specs.declared.records.FateMark.TheVariants as fate
use Rattle.proxy_laws.specs.declared.records.Started.{Started}
use Rattle.proxy_laws.specs.declared.records.Started.TheVariants as started
use Rattle.proxy_laws.specs.Lists.{start_under}
use Rattle.post_core.specs.declared.meant.Meant.{Ghosts}
use Rattle.post_core.specs.declared.post.Post.{Post}
use Rattle.post_core.specs.declared.views.Held.{Held}
use Rattle.post_core.specs.declared.views.View.{View}
use Rattle.post_core.specs.MailSteps.{words_empty}
use Rattle.post_core.specs.OwnerViews.{IsExecOf, IsOwnerOf, IsSeenEmptyOf, exec_place, exec_view, owner_view, seen_place, seen_view}
use Rattle.post_core.specs.ServingSteps.{place_emptied, serving_at}
use Rattle.post_core.specs.Views.{job_settled, owner_of}
use Rattle.mailbox.specs.declared.calls.RunCall.{RunCall}
use Rattle.mailbox.specs.declared.calls.RunJob.{RunJob}
use Rattle.mailbox.specs.declared.executing.Executed.{Executed}
use Rattle.mailbox.specs.declared.executing.Executed.TheVariants as executed
use Rattle.mailbox.specs.declared.runner.Ran.{Ran}
use Rattle.mailbox.specs.declared.runner.Ran.TheVariants as ran
use Rattle.mailbox.specs.declared.running.Turn.{Turn}
use Rattle.mailbox.specs.declared.running.Turn.TheVariants as turn
use Rattle.mailbox.specs.Deeds.{StartsAs, WasDone}

-- a u32 that counts so many stays at its greatest value
abbrev pub counted : ℕ → ℕ
counted n = min n 4294967295

module _ {M : Type 0} where
  -- the jobs that the owner took, by place
  abbrev pub jobs_in : View M → List (List (Held M))
  jobs_in v = (owner_of v).jobs

  -- what starts the jobs that the owner takes at p
  abbrev pub start_here : ℕ → View M → Started
  start_here p v = start_under (owner_of v).state (serving_at p v)

  -- the owner does what it did
  pub record KeepsWork (v w : View M) : Type 0 where
    pub state : (owner_of w).state ≡ (owner_of v).state
    pub serving : (owner_of w).serving ≡ (owner_of v).serving
    pub got : (owner_of w).got ≡ (owner_of v).got

  -- a job that was run is settled as finished, unless it is held
  abbrev pub view_after_run : {T : Type 0} → ℕ → ℕ → Ran T → View M → View M
  view_after_run p n (ran.Finished t) v = job_settled p n fate.Finished v
  view_after_run p n ran.Held v = v

  -- The owner has got so many notices more, and after that has found each word of the mailbox 0.
  abbrev pub HasFoundNothing : ℕ → View M → View M → Type 0
  HasFoundNothing count v w = (k : ℕ) × (before : View M) × (count ≡ counted k) × ((owner_of before).got ≡ (owner_of v).got + k) × (w ≡ words_empty 4 before)

-- a job is started by what was left in execution, or by a notice with a number above this
abbrev pub IsStartAfter : Option Started → ℕ → Started → Type 0
IsStartAfter left got s = (left ≡ Some s) ⊎ ((k : ℕ) × (got < k) × (s ≡ started.Notice k))

module _ {M T R : Type 0} (did : R → List (RunCall M T) → R → Type 0) (held : R → List (RunJob M)) (target : ℕ) where
  -- so many jobs of an open owner were run, whose starts are such
  abbrev pub WereRun : (Started → Type 0) → ℕ → R → R → View M → View M → Type 0
  WereRun P n r r' v w = WasDone did (StartsAs P) target n r r' (jobs_in v) (jobs_in w) (held r) (held r')

  -- jobs were run, which were started by what was left in execution, or by a later notice
  abbrev pub HasRun : Option Started → R → R → View M → View M → Type 0
  HasRun left r r' v w = (n : ℕ) × WereRun (IsStartAfter left (owner_of v).got) n r r' v w

  -- no job was run
  abbrev pub NoneRun : R → R → Type 0
  NoneRun r r' = did r [] r' × (held r' ≡ held r)

module _ {J M T R : Type 0} {g : Ghosts J M} (did : R → List (RunCall M T) → R → Type 0) (held : R → List (RunJob M)) (target : ℕ) where
  -- a job was taken and run; or none waits; or memory was wanting, and nothing was done
  abbrev pub IsTurn : Post J M → R → R → ℕ → View M → Turn J M g → Type 0
  IsTurn post r r' p v (turn.Ran exec) = IsExecOf post exec × (exec_place exec ≡ p) × KeepsWork v (exec_view exec) × WereRun did held target (λ s. s ≡ start_here p v) 1 r r' v (exec_view exec)
  IsTurn post r r' p v (turn.Empty seen) = IsSeenEmptyOf post seen × (seen_place seen ≡ p) × (seen_view seen ≡ place_emptied p v) × NoneRun did held target r r'
  IsTurn post r r' p v (turn.NoMemory exec) = IsExecOf post exec × (exec_place exec ≡ p) × (exec_view exec ≡ v) × NoneRun did held target r r'

  -- so many jobs were run until none waited; or memory was wanting, and the place is still in execution
  abbrev pub IsExecuted : Post J M → R → R → ℕ → View M → Executed J M g → Type 0
  IsExecuted post r r' p v (executed.Emptied owner count) = IsOwnerOf post owner × ((owner_of (owner_view owner)).got ≡ (owner_of v).got) × ((n : ℕ) × (count ≡ counted n) × WereRun did held target (λ s. s ≡ start_here p v) n r r' v (owner_view owner))
  IsExecuted post r r' p v (executed.NoMemory exec) = IsExecOf post exec × (exec_place exec ≡ p) × KeepsWork v (exec_view exec) × ((n : ℕ) × WereRun did held target (λ s. s ≡ start_here p v) n r r' v (exec_view exec))
