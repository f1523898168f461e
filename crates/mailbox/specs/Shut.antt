-- What comes of closing a target.
use Rattle.std.specs.Prelude.{◌≡◌, ℕ, Bool, true, false, None, List, [], ◌∷◌, ◌++◌, length, min}
use Rattle.post_core.specs.declared.meant.Meant.{Ghosts}
use Rattle.post_core.specs.declared.post.Post.{Post}
use Rattle.post_core.specs.declared.views.Held.{Held}
use Rattle.post_core.specs.declared.views.View.{View}
use Rattle.post_core.specs.ClosingParts.{HasEmptied}
use Rattle.post_core.specs.ClosingViews.{IsClosedOf, closed_view}
use Rattle.post_core.specs.OwnerViews.{IsEmptiedOf, emptied_view}
use Rattle.mailbox.specs.declared.calls.Deed.{Deed}
use Rattle.mailbox.specs.declared.calls.RunCall.{RunCall}
use Rattle.mailbox.specs.declared.calls.RunCall.TheVariants as call
use Rattle.mailbox.specs.declared.calls.RunJob.{RunJob}
use Rattle.mailbox.specs.declared.closing.Cancelling.{Cancelling}
use Rattle.mailbox.specs.declared.closing.Cancelling.TheVariants as cancelling
use Rattle.mailbox.specs.Deeds.{AreRight, Cancels, GivesUp, WasDone, calls_of, jobs_after_all}
use Rattle.mailbox.specs.Turns.{NoneRun, jobs_in}

-- a u64 that counts so many stays at its greatest value
abbrev pub counted_long : ℕ → ℕ
counted_long n = min n 18446744073709551615

module _ {J M T R : Type 0} {g : Ghosts J M} (did : R → List (RunCall M T) → R → Type 0) (held : R → List (RunJob M)) (target : ℕ) where
  -- a job that waited was cancelled, or none waits
  abbrev pub IsCancelling : Post J M → R → R → View M → Cancelling J M g → Type 0
  IsCancelling post r r' v (cancelling.Job closed) = IsClosedOf post closed × WasDone did Cancels target 1 r r' (jobs_in v) (jobs_in (closed_view closed)) (held r) (held r')
  IsCancelling post r r' v (cancelling.Done emptied) = IsEmptiedOf post emptied × HasEmptied (emptied_view emptied) × (jobs_in (emptied_view emptied) ≡ jobs_in v) × NoneRun did held target r r'

module _ {M T R : Type 0} (did : R → List (RunCall M T) → R → Type 0) (held : R → List (RunJob M)) (target : ℕ) where
  -- a held job was given up; or the runner, asked, held none
  abbrev pub IsGivingUp : R → R → List (List (Held M)) → List (List (Held M)) → Bool → Type 0
  IsGivingUp r r' jobs jobs' true = WasDone did GivesUp target 1 r r' jobs jobs' (held r) (held r')
  IsGivingUp r r' jobs jobs' false = did r (call.NextHeld None ∷ []) r' × (jobs' ≡ jobs) × (held r ≡ []) × (held r' ≡ [])

  -- so many held jobs were given up, and then the runner, asked, held none
  pub record WasGivenUp (n : ℕ) (r r' : R) (jobs jobs' : List (List (Held M))) : Type 0 where
    pub deeds : List (Deed M T)
    pub count : length deeds ≡ n
    pub called : did r (calls_of deeds ++ call.NextHeld None ∷ []) r'
    pub right : AreRight GivesUp target jobs deeds
    pub jobs_are : jobs' ≡ jobs_after_all deeds jobs
    pub none_held : held r' ≡ []

  -- So many jobs that waited were cancelled, and after them so many that were held, until none was. The runner was called
  -- for them alone, in this order.
  pub record WasShut (waiting given : ℕ) (r r' : R) (jobs jobs' : List (List (Held M))) : Type 0 where
    pub cancelled : List (Deed M T)
    pub given_up : List (Deed M T)
    pub cancelled_count : length cancelled ≡ waiting
    pub given_count : length given_up ≡ given
    pub called : did r (calls_of cancelled ++ (calls_of given_up ++ call.NextHeld None ∷ [])) r'
    pub cancelled_right : AreRight Cancels target jobs cancelled
    pub given_right : AreRight GivesUp target (jobs_after_all cancelled jobs) given_up
    pub jobs_are : jobs' ≡ jobs_after_all given_up (jobs_after_all cancelled jobs)
    pub none_held : held r' ≡ []
