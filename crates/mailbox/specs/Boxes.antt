-- What a mailbox shows of its owner.
use Rattle.std.specs.Prelude.{◌≡◌, Bool, true, false, Option, Some, None}
use Rattle.proxy_laws.specs.declared.records.Started.{Started}
use Rattle.post_core.specs.declared.meant.Meant.{Ghosts}
use Rattle.post_core.specs.declared.owner.Owner.{Owner}
use Rattle.post_core.specs.declared.post.Post.{Post}
use Rattle.post_core.specs.declared.views.View.{View}
use Rattle.post_core.specs.OwnerViews.{IsExecOf, IsOwnerOf, exec_place, exec_view, owner_view}
use Rattle.post_core.specs.SendParts.{HasPlace}
use Rattle.post_core.specs.Views.{spent_view}
use Rattle.mailbox.specs.declared.owner_at.At.{At}
use Rattle.mailbox.specs.declared.owner_at.At.TheVariants as at
use Rattle.mailbox.specs.declared.owner_at.Mailbox.{Mailbox}
use Rattle.mailbox.specs.Turns.{start_here}

module _ {J M : Type 0} {g : Ghosts J M} where
  abbrev pub at_view : At J M g → View M
  at_view (at.Rest owner) = owner_view owner
  at_view (at.Work exec) = exec_view exec

  -- the owner is of this post
  abbrev pub IsAtOf : Post J M → At J M g → Type 0
  IsAtOf post (at.Rest owner) = IsOwnerOf post owner
  IsAtOf post (at.Work exec) = IsExecOf post exec × HasPlace post (exec_place exec)

  abbrev pub is_at_work : At J M g → Bool
  is_at_work (at.Rest owner) = false
  is_at_work (at.Work exec) = true

  -- what started the execution that was left unfinished
  abbrev pub at_left : At J M g → Option Started
  at_left (at.Rest owner) = None
  at_left (at.Work exec) = Some (start_here (exec_place exec) (exec_view exec))

  abbrev pub view_in : Option (At J M g) → View M
  view_in None = spent_view
  view_in (Some at) = at_view at

  abbrev pub IsIn : Post J M → Option (At J M g) → Type 0
  IsIn post None = ⊥
  IsIn post (Some at) = IsAtOf post at

  abbrev pub is_work_in : Option (At J M g) → Bool
  is_work_in None = false
  is_work_in (Some at) = is_at_work at

  abbrev pub left_in : Option (At J M g) → Option Started
  left_in None = None
  left_in (Some at) = at_left at

  -- what the owner knows
  abbrev pub mailbox_view : Mailbox J M g → View M
  mailbox_view mailbox = view_in mailbox.at

  -- the mailbox is of this post's table
  abbrev pub IsMailboxOf : Post J M → Mailbox J M g → Type 0
  IsMailboxOf post mailbox = IsIn post mailbox.at

  -- an execution was left unfinished
  abbrev pub is_unfinished : Mailbox J M g → Bool
  is_unfinished mailbox = is_work_in mailbox.at

  -- what started it, if there is one
  abbrev pub left_start : Mailbox J M g → Option Started
  left_start mailbox = left_in mailbox.at

  -- the mailbox is this owner's, which is at rest
  abbrev pub IsRestOf : Owner J M g → Mailbox J M g → Type 0
  IsRestOf owner mailbox = mailbox.at ≡ Some (at.Rest owner)
