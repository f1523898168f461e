-- What an owner's parts show of its view.
use Rattle.std.specs.Prelude.{◌-◌, Option, Some, None, length, slice_get, vec_capacity}
use Rattle.post_core.specs.declared.records.PlaceJobs.{PlaceJobs}
use Rattle.post_core.specs.declared.owner.Taken.{Taken}
use Rattle.post_core.specs.declared.owner.Taken.TheVariants as taken
use Rattle.post_core.specs.Kept.{listed}
use Rattle.post_core.specs.SendParts.{HasPlace}
use Rattle.post_core.specs.ServingSteps.{job_started, place_emptied}
use Rattle.post_core.specs.Steps.{IsActiveHere}
use Rattle.post_core.specs.Views.{owner_of}
use Rattle.std.specs.Prelude.{◌≡◌, ℕ}
use Rattle.post_core.specs.declared.owner.Noticed.{Noticed}
use Rattle.post_core.specs.declared.owner.Noticed.TheVariants as noticed
use Rattle.post_core.specs.MailSteps.{IsFirstNotice, words_empty}
use Rattle.post_core.specs.declared.meant.Meant.{Ghosts}
use Rattle.post_core.specs.declared.owner.Emptied.{Emptied}
use Rattle.post_core.specs.declared.owner.Exec.{Exec}
use Rattle.post_core.specs.declared.owner.Got.{Got}
use Rattle.post_core.specs.declared.owner.Owner.{Owner}
use Rattle.post_core.specs.declared.owner.SeenEmpty.{SeenEmpty}
use Rattle.post_core.specs.declared.post.Post.{Post}
use Rattle.post_core.specs.declared.views.View.{View}

-- how many jobs more can be kept of this place without memory
abbrev pub room_here : Option PlaceJobs → ℕ
room_here None = 0
room_here (Some place) = vec_capacity place.started - length place.started.items

module _ {J M : Type 0} {g : Ghosts J M} where
  abbrev pub owner_view : Owner J M g → View M
  owner_view owner = owner.hold.seat.me.0

  abbrev pub got_view : Got J M g → View M
  got_view got = got.hold.seat.me.0

  abbrev pub exec_view : Exec J M g → View M
  exec_view exec = exec.hold.seat.me.0

  abbrev pub seen_view : SeenEmpty J M g → View M
  seen_view seen = seen.hold.seat.me.0

  abbrev pub emptied_view : Emptied J M g → View M
  emptied_view emptied = emptied.hold.seat.me.0

  -- the part is of this post's table
  abbrev pub IsOwnerOf : Post J M → Owner J M g → Type 0
  IsOwnerOf post owner = owner.hold.seat.table_id ≡ post.table.shared.table_id

  abbrev pub IsGotOf : Post J M → Got J M g → Type 0
  IsGotOf post got = got.hold.seat.table_id ≡ post.table.shared.table_id

  abbrev pub IsExecOf : Post J M → Exec J M g → Type 0
  IsExecOf post exec = exec.hold.seat.table_id ≡ post.table.shared.table_id

  abbrev pub IsSeenEmptyOf : Post J M → SeenEmpty J M g → Type 0
  IsSeenEmptyOf post seen = seen.hold.seat.table_id ≡ post.table.shared.table_id

  abbrev pub IsEmptiedOf : Post J M → Emptied J M g → Type 0
  IsEmptiedOf post emptied = emptied.hold.seat.table_id ≡ post.table.shared.table_id

  -- the place that each is at
  abbrev pub got_place : Got J M g → ℕ
  got_place got = got.place

  abbrev pub exec_place : Exec J M g → ℕ
  exec_place exec = exec.place

  abbrev pub seen_place : SeenEmpty J M g → ℕ
  seen_place seen = seen.place

  -- The words of the mailbox were found 0 in turn, up to the first that was not, whose lowest place was got.
  abbrev pub IsNextNotice : Post J M → View M → Noticed J M g → Type 0
  IsNextNotice post v (noticed.Got got) = IsGotOf post got × HasPlace post (got_place got) × IsFirstNotice (got_place got) v (got_view got)
  IsNextNotice post v (noticed.Nothing owner) = IsOwnerOf post owner × (owner_view owner ≡ words_empty 4 v)

  -- the execution stands as it did, but perhaps for its room
  pub record IsSameExec (old new : Exec J M g) : Type 0 where
    pub table : new.hold.seat.table_id ≡ old.hold.seat.table_id
    pub place : exec_place new ≡ exec_place old
    pub view : exec_view new ≡ exec_view old

  abbrev pub exec_room : Exec J M g → ℕ
  exec_room exec = room_here (slice_get exec.hold.jobs.items exec.place)

  -- The first job that waited was taken under the number next to those taken before, suits its mark, and is active; or as
  -- many were taken as were put.
  abbrev pub IsTaken : Post J M → ℕ → View M → Taken J M g → Type 0
  IsTaken post place v (taken.Job exec nth mark job) = IsExecOf post exec × (nth ≡ length (listed (owner_of v).jobs place)) × g.suits post.target place mark (g.meaning job) × (exec_place exec ≡ place) × (exec_view exec ≡ job_started place (record { mark = mark; meaning = g.meaning job }) v) × IsActiveHere (listed (owner_of (exec_view exec)).jobs place) nth
  IsTaken post place v (taken.Empty seen) = IsSeenEmptyOf post seen × (seen_place seen ≡ place) × (seen_view seen ≡ place_emptied place v)
