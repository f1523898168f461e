-- What the contracts of a sender's calls, and of those on notes, say of the parts that they take.
use Rattle.std.specs.Prelude.{◌≡◌, ℕ, ◌<◌, List, ◌++◌, length, slice_index}
use Rattle.proxy_laws.specs.declared.records.Mark.{Mark}
use Rattle.post_core.specs.declared.meant.Meant.{Ghosts}
use Rattle.post_core.specs.declared.post.Notice.{Notice}
use Rattle.post_core.specs.declared.post.Owing.{Owing}
use Rattle.post_core.specs.declared.post.PlaceUse.{PlaceUse}
use Rattle.post_core.specs.declared.post.Post.{Post}
use Rattle.post_core.specs.declared.post.RefPass.{RefPass}
use Rattle.post_core.specs.declared.post.SeenNote.{SeenNote}
use Rattle.post_core.specs.declared.post.SendPass.{SendPass}
use Rattle.post_core.specs.declared.send_answers.Notified.{Notified}
use Rattle.post_core.specs.declared.send_answers.Notified.TheVariants as notified
use Rattle.post_core.specs.declared.send_answers.PutAnswer.{PutAnswer}
use Rattle.post_core.specs.declared.send_answers.PutAnswer.TheVariants as put
use Rattle.post_core.specs.declared.send_answers.RefAnswer.{RefAnswer}
use Rattle.post_core.specs.declared.send_answers.RefAnswer.TheVariants as taken
use Rattle.post_core.specs.declared.views.Fact.{Fact}
use Rattle.post_core.specs.declared.views.View.{View}
use Rattle.post_core.specs.Kept.{listed}
use Rattle.post_core.specs.SendSteps.{IsNextAt, job_sent}
use Rattle.post_core.specs.Views.{pass_of}

abbrev pub use_target : {J : Type 0} → PlaceUse J → ℕ
use_target place_use = place_use.target

abbrev pub use_place : {J : Type 0} → PlaceUse J → ℕ
use_place place_use = place_use.place

-- the mark of the next job that the pass with this view puts at a place
abbrev pub next_own_mark : {M : Type 0} → ℕ → ℕ → View M → Mark
next_own_mark place tag v = record { sender = (pass_of v).number; seq = length (listed (pass_of v).own place); tag = tag }

-- the view has seen these facts too
abbrev pub with_seen : {M : Type 0} → List (Fact M) → View M → View M
with_seen seen v = record v { seen = v.seen ++ seen }

module _ {J M : Type 0} where
  -- what a post shows of its target
  abbrev pub post_target : Post J M → ℕ
  post_target post = post.target

  abbrev pub post_senders : Post J M → ℕ
  post_senders post = post.senders

  abbrev pub post_places : Post J M → ℕ
  post_places post = post.places

  abbrev pub HasPlace : Post J M → ℕ → Type 0
  HasPlace post place = place < post.places

  -- the use is of this post, for the sender of the pass with this view
  abbrev pub IsUseFor : Post J M → View M → PlaceUse J → Type 0
  IsUseFor post v place_use = (place_use.target ≡ post.target) × (place_use.sender ≡ (pass_of v).number)

  -- and the pass has a use of its place
  pub record IsUseOf (post : Post J M) (v : View M) (place_use : PlaceUse J) : Type 0 where
    pub of : IsUseFor post v place_use
    pub used : 0 < slice_index (pass_of v).uses place_use.place

module _ {J M : Type 0} {g : Ghosts J M} where
  -- what each part knows of its sender and its target
  abbrev pub pass_view : SendPass J M g → View M
  pass_view pass = pass.hold.seat.me.0

  abbrev pub ref_view : RefPass J M g → View M
  ref_view pass = pass.hold.seat.me.0

  abbrev pub owing_view : Owing J M g → View M
  owing_view owing = owing.hold.seat.me.0

  abbrev pub notice_view : Notice J M g → View M
  notice_view notice = notice.hold.seat.me.0

  abbrev pub note_view : SeenNote J M g → View M
  note_view note = note.seat.me.0

  -- the part is of this post's table
  abbrev pub IsPassOf : Post J M → SendPass J M g → Type 0
  IsPassOf post pass = pass.hold.seat.table_id ≡ post.table.shared.table_id

  abbrev pub IsRefPassOf : Post J M → RefPass J M g → Type 0
  IsRefPassOf post pass = pass.hold.seat.table_id ≡ post.table.shared.table_id

  abbrev pub IsOwingOf : Post J M → Owing J M g → Type 0
  IsOwingOf post owing = owing.hold.seat.table_id ≡ post.table.shared.table_id

  abbrev pub IsNoticeOf : Post J M → Notice J M g → Type 0
  IsNoticeOf post notice = notice.hold.seat.table_id ≡ post.table.shared.table_id

  abbrev pub IsNoteOf : Post J M → SeenNote J M g → Type 0
  IsNoteOf post note = note.seat.table_id ≡ post.table.shared.table_id

  -- the number of a pass's sender
  abbrev pub pass_sender : SendPass J M g → ℕ
  pass_sender pass = (pass_of (pass_view pass)).number

  abbrev pub owing_place : Owing J M g → ℕ
  owing_place owing = owing.place

  -- the number of the job that was put, at its place
  abbrev pub owing_nth : Owing J M g → ℕ
  owing_nth owing = owing.nth

  abbrev pub notice_place : Notice J M g → ℕ
  notice_place notice = notice.place

  -- The job was put at this place, under the pass's next mark there with this tag and under a number that is next to all
  -- that the pass had seen there. The pass keeps that mark, and has seen the number reached.
  pub record IsSent (place tag : ℕ) (meant : M) (v : View M) (owing : Owing J M g) : Type 0 where
    pub place_is : owing_place owing ≡ place
    pub next : IsNextAt place (owing_nth owing) v
    pub kept : owing_view owing ≡ job_sent place (owing_nth owing) (record { mark = next_own_mark place tag v; meaning = meant }) v

  -- What a pass with a reference comes to that is to put a job: it has put it, or it has put nothing and is as it was,
  -- and the job is handed back.
  abbrev pub IsPutFor : Post J M → (place tag : ℕ) → M → View M → Owing J M g → Type 0
  IsPutFor post place tag meant v owing = IsOwingOf post owing × IsSent place tag meant v owing

  abbrev pub IsHandedBack : Post J M → J → View M → RefPass J M g → J → Type 0
  IsHandedBack post job v pass back = IsRefPassOf post pass × (ref_view pass ≡ v) × (back ≡ job)

  abbrev pub IfHeld : RefAnswer J M g → (RefPass J M g → Type 0) → Type 0
  IfHeld (taken.Held pass) P = P pass
  IfHeld (taken.Closed pass) P = Unit {0}

  abbrev pub IfClosed : RefAnswer J M g → (SendPass J M g → Type 0) → Type 0
  IfClosed (taken.Held pass) P = Unit {0}
  IfClosed (taken.Closed pass) P = P pass

  abbrev pub IfPut : PutAnswer J M g → (Owing J M g → Type 0) → Type 0
  IfPut (put.Put owing) P = P owing
  IfPut (put.NoMemory pass job) P = Unit {0}

  abbrev pub IfNoMemory : PutAnswer J M g → (RefPass J M g → J → Type 0) → Type 0
  IfNoMemory (put.Put owing) P = Unit {0}
  IfNoMemory (put.NoMemory pass job) P = P pass job

  abbrev pub IfQuiet : Notified J M g → (RefPass J M g → Type 0) → Type 0
  IfQuiet (notified.Quiet pass) P = P pass
  IfQuiet (notified.Messenger notice) P = Unit {0}

  abbrev pub IfMessenger : Notified J M g → (Notice J M g → Type 0) → Type 0
  IfMessenger (notified.Quiet pass) P = Unit {0}
  IfMessenger (notified.Messenger notice) P = P notice
