-- What the queues of a target show.
use Rattle.std.specs.Prelude.{◌≡◌, ℕ, false, All, map}
use Rattle.post_core.specs.declared.meant.Meant.{Ghosts}
use Rattle.post_core.specs.declared.post.Post.{Post}
use Rattle.post_core.specs.Making.{AreDealt, dealing_view}
use Rattle.post_core.specs.SendParts.{IsPassOf, pass_view}
use Rattle.mailbox.specs.Boxes.{IsMailboxOf, is_unfinished, mailbox_view}
use Rattle.proxy_queue.specs.declared.queue_set.QueueSet.{QueueSet}
use Rattle.proxy_queue.specs.declared.queue_set.SetParts.{SetParts}

-- the target's post
abbrev pub set_post : {J M : Type 0} → QueueSet J M → Post J M
set_post set = set.post

-- The mailbox and the passes are as `make` answers them.
pub record AreSetParts {J M : Type 0} {g : Ghosts J M} (senders places : ℕ) (parts : SetParts J M g) : Type 0 where
  pub mailbox : IsMailboxOf (set_post parts.set) parts.mailbox
  pub rests : is_unfinished parts.mailbox ≡ false
  pub owner : mailbox_view parts.mailbox ≡ dealing_view places senders 0
  pub tables : All (λ pass. IsPassOf (set_post parts.set) pass) parts.passes.items
  pub passes : AreDealt places (map (λ pass. pass_view pass) parts.passes.items) senders
