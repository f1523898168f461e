-- What the calls of a runner say of a job.
use Rattle.std.specs.Prelude.{◌≡◌, ℕ, Option, Some, None, List, [], ◌∷◌}
use mathlib.Core.Option.{some}
use lib.ListN.{get_elem?}
use Rattle.proxy_laws.specs.declared.records.FateMark.{FateMark}
use Rattle.proxy_laws.specs.declared.records.FateMark.TheVariants as fate
use Rattle.proxy_laws.specs.declared.records.Mark.{Mark}
use Rattle.post_core.specs.declared.meant.Meant.{Ghosts}
use Rattle.post_core.specs.declared.post.SeenNote.{SeenNote}
use Rattle.post_core.specs.declared.views.Fact.TheVariants as fact
use Rattle.post_core.specs.declared.views.View.{View}
use Rattle.post_core.specs.SendParts.{note_view}
use Rattle.mailbox.specs.declared.calls.RunJob.{RunJob}
use Rattle.mailbox.specs.declared.runner.HeldTail.{HeldTail}
use Rattle.mailbox.specs.declared.runner.Ran.{Ran}
use Rattle.mailbox.specs.declared.runner.Ran.TheVariants as ran

module _ {M : Type 0} where
  abbrev pub run_job : ℕ → ℕ → ℕ → Mark → M → RunJob M
  run_job target place nth mark meaning = record { target = target; place = place; nth = nth; mark = mark; meaning = meaning }

  abbrev pub first_off : List (RunJob M) → List (RunJob M)
  first_off [] = []
  first_off (j ∷ js) = js

  -- it was seen that the job has this fate
  abbrev pub HasSeenFate : View M → RunJob M → FateMark → Type 0
  HasSeenFate v j f = (k : ℕ) × (get_elem? v.seen k ≡ some (fact.Settled j.place j.nth j.mark j.meaning f))

module _ {M T : Type 0} where
  -- the job, where it is held
  abbrev pub held_by : RunJob M → Ran T → List (RunJob M)
  held_by j (ran.Finished t) = []
  held_by j ran.Held = j ∷ []

module _ {M T : Type 0} (suits : T → RunJob M → FateMark → Type 0) where
  -- what is left to tell of a job that was run
  abbrev pub RanSuits : RunJob M → Ran T → Type 0
  RanSuits j (ran.Finished t) = suits t j fate.Finished
  RanSuits j ran.Held = Unit {0}

  -- the oldest held job is given up, if there is one
  abbrev pub NextSuits : List (RunJob M) → Option (HeldTail T) → Type 0
  NextSuits [] None = Unit {0}
  NextSuits [] (Some h) = ⊥
  NextSuits (j ∷ js) None = ⊥
  NextSuits (j ∷ js) (Some h) = (h.place ≡ j.place) × (h.nth ≡ j.nth) × suits h.tail j fate.Cancelled

-- The note has seen that a job of this target has this fate, and the tail suits the job with it.
module _ {J M T : Type 0} {g : Ghosts J M} (suits : T → RunJob M → FateMark → Type 0) where
  pub record MayTell (target place nth : ℕ) (tail : T) (fate : FateMark) (note : SeenNote J M g) : Type 0 where
    pub job : RunJob M
    pub target_is : job.target ≡ target
    pub place_is : job.place ≡ place
    pub nth_is : job.nth ≡ nth
    pub seen : HasSeenFate (note_view note) job fate
    pub suiting : suits tail job fate
