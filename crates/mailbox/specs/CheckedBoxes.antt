-- What a check of a mailbox promises.
use Rattle.std.specs.Prelude.{◌≡◌, ℕ, true, false, IfErr, IfOk, List, Result}
use Rattle.std.specs.declared.alloc.AllocError.{AllocError}
use Rattle.post_core.specs.declared.meant.Meant.{Ghosts}
use Rattle.post_core.specs.declared.post.Post.{Post}
use Rattle.post_core.specs.SendParts.{post_places, post_target}
use Rattle.mailbox.specs.declared.calls.RunCall.{RunCall}
use Rattle.mailbox.specs.declared.calls.RunJob.{RunJob}
use Rattle.mailbox.specs.declared.owner_at.Mailbox.{Mailbox}
use Rattle.mailbox.specs.Boxes.{IsMailboxOf, is_unfinished, left_start, mailbox_view}
use Rattle.mailbox.specs.Holding.{HoldsActive}
use Rattle.mailbox.specs.Turns.{HasFoundNothing, HasRun, jobs_in}

-- A mailbox of the post was checked, which led it from `old` to `new` and the runner from r to r', and gave this answer.
-- A runner is seen by its target, by what it did and by the jobs that it holds.
pub record HasChecked {J M T R : Type 0} {g : Ghosts J M} (target_of : R → ℕ) (did : R → List (RunCall M T) → R → Type 0) (held_by : R → List (RunJob M))
    (post : Post J M) (old new : Mailbox J M g) (r r' : R) (answer : Result ℕ AllocError) : Type 0 where
  pub target : target_of r' ≡ target_of r
  pub mailbox : IsMailboxOf post new
  -- what the runner was called for, and which jobs the owner took and settled so
  pub ran : HasRun did held_by (post_target post) (left_start old) r r' (mailbox_view old) (mailbox_view new)
  -- a runner that held just the active jobs still does
  pub held : HoldsActive (post_target post) (post_places post) (jobs_in (mailbox_view old)) (held_by r)
      → HoldsActive (post_target post) (post_places post) (jobs_in (mailbox_view new)) (held_by r')
  -- so many notices were got, and then none was found
  pub ok : IfOk answer (λ count. HasFoundNothing count (mailbox_view old) (mailbox_view new) × (is_unfinished new ≡ false))
  pub err : IfErr answer (λ e. is_unfinished new ≡ true)
