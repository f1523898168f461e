-- What the parts of an owner that closes its target show of its view, and what its calls come to.
use Rattle.std.specs.Prelude.{◌≡◌, ◌≢◌, ℕ, zero, suc, Option, Some, None, length}
use Rattle.proxy_laws.specs.declared.records.FateMark.TheVariants as fate
use Rattle.post_core.specs.declared.closing_owner.CancelNext.{CancelNext}
use Rattle.post_core.specs.declared.closing_owner.CancelNext.TheVariants as cancel
use Rattle.post_core.specs.declared.closing_owner.Closed.{Closed}
use Rattle.post_core.specs.declared.closing_owner.Closing.{Closing}
use Rattle.post_core.specs.declared.closing_owner.ClosingLook.{ClosingLook}
use Rattle.post_core.specs.declared.closing_owner.ClosingLook.TheVariants as look
use Rattle.post_core.specs.declared.meant.Meant.{Ghosts}
use Rattle.post_core.specs.declared.post.Post.{Post}
use Rattle.post_core.specs.declared.views.View.{View}
use Rattle.post_core.specs.ClosingParts.{HasEmptied}
use Rattle.post_core.specs.ClosingSteps.{none_left, place_cleared, some_left}
use Rattle.post_core.specs.Kept.{listed}
use Rattle.post_core.specs.MailSteps.{IsFirstNotice, words_empty}
use Rattle.post_core.specs.OwnerViews.{IsEmptiedOf, emptied_view}
use Rattle.post_core.specs.SendParts.{IsNoteOf, note_view}
use Rattle.post_core.specs.ServingSteps.{job_started}
use Rattle.post_core.specs.Views.{job_settled, noted, owner_of}

module _ {M : Type 0} where
  -- the view once nothing is left at the place that was left
  abbrev pub left_cleared : Option ℕ → View M → View M
  left_cleared None v = v
  left_cleared (Some p) v = place_cleared p v

  -- Round after round the owner has found no job at the place that was left, and has taken the next notice, whose place is
  -- left then. After so many rounds this place is left, and the view is this.
  abbrev pub AreRounds : ℕ → Option ℕ → View M → Option ℕ → View M → Type 0
  AreRounds zero left v left_after after = (left_after ≡ left) × (after ≡ v)
  AreRounds (suc n) left v left_after after = (p : Option ℕ) × (before : View M) × (next : ℕ) × AreRounds n left v p before × (left_after ≡ Some next) × IsFirstNotice next (left_cleared p before) after

module _ {J M : Type 0} {g : Ghosts J M} where
  abbrev pub closing_view : Closing J M g → View M
  closing_view closing = closing.hold.seat.me.0

  abbrev pub closed_view : Closed J M g → View M
  closed_view closed = closed.hold.seat.me.0

  -- the place whose jobs are cancelled first
  abbrev pub closing_left : Closing J M g → Option ℕ
  closing_left closing = closing.left

  abbrev pub closed_left : Closed J M g → Option ℕ
  closed_left closed = closed.left

  -- the part is of this post's table
  abbrev pub IsClosingOf : Post J M → Closing J M g → Type 0
  IsClosingOf post closing = closing.hold.seat.table_id ≡ post.table.shared.table_id

  abbrev pub IsClosedOf : Post J M → Closed J M g → Type 0
  IsClosedOf post closed = closed.hold.seat.table_id ≡ post.table.shared.table_id

  -- no reference is left, and the owner has seen that; or so many are
  abbrev pub IsClosingLook : Post J M → Option ℕ → View M → ClosingLook J M g → Type 0
  IsClosingLook post left v (look.Closed closed) = IsClosedOf post closed × (closed_left closed ≡ left) × (closed_view closed ≡ none_left v)
  IsClosingLook post left v (look.Referenced closing count) = IsClosingOf post closing × (closing_left closing ≡ left) × (count ≢ 0) × (closing_view closing ≡ some_left count v)

  -- After some rounds the first job that waited at the place that is left was taken, under the number next to those taken
  -- before, and settled as cancelled; it suits its mark. Or no job waited there, and each word of the mailbox was found 0.
  abbrev pub IsCancelNext : Post J M → Option ℕ → View M → CancelNext J M g → Type 0
  IsCancelNext post left v (cancel.Job closed place nth mark job note) = (n : ℕ) × (before : View M) × AreRounds n left v (Some place) before × IsClosedOf post closed × (closed_left closed ≡ Some place) × (nth ≡ length (listed (owner_of before).jobs place)) × g.suits post.target place mark (g.meaning job) × (closed_view closed ≡ job_settled place nth fate.Cancelled (job_started place (record { mark = mark; meaning = g.meaning job }) before)) × IsNoteOf post note × (note_view note ≡ noted (closed_view closed))
  IsCancelNext post left v (cancel.Done emptied) = (n : ℕ) × (p : Option ℕ) × (before : View M) × AreRounds n left v p before × IsEmptiedOf post emptied × (emptied_view emptied ≡ words_empty 4 (left_cleared p before)) × HasEmptied (emptied_view emptied)
