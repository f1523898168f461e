-- Tests on what senders and the owner are doing.
use Rattle.std.specs.Prelude.{ℕ, ◌==◌, Bool, true, false, Option, Some, None, if◌then◌else◌}
use Rattle.proxy_laws.specs.declared.actors.Actor.{Actor}
use Rattle.proxy_laws.specs.declared.actors.Look.{Look}
use Rattle.proxy_laws.specs.declared.actors.Look.TheVariants as look
use Rattle.proxy_laws.specs.declared.actors.Note.{Note}
use Rattle.proxy_laws.specs.declared.actors.Note.TheVariants as note
use Rattle.proxy_laws.specs.declared.actors.OwnerState.{OwnerState}
use Rattle.proxy_laws.specs.declared.actors.OwnerState.TheVariants as owner
use Rattle.proxy_laws.specs.declared.actors.Phase.{Phase}
use Rattle.proxy_laws.specs.declared.actors.Phase.TheVariants as phase
use Rattle.proxy_laws.specs.declared.actors.Serving.{Serving}
use Rattle.proxy_laws.specs.declared.actors.Serving.TheVariants as serving

-- the sender has no reference
abbrev pub is_idle : Phase → Bool
is_idle phase.Idle = true
is_idle _ = false

-- the sender is at the place p
abbrev pub names : ℕ → Phase → Bool
names p phase.Idle = false
names p phase.Referenced = false
names p (phase.Holding q) = q == p
names p (phase.Put q) = q == p
names p (phase.Owing q) = q == p
names p (phase.Messenger q) = q == p

-- the sender is holding or put at p, so it has the turn of p
abbrev pub has_turn_at : ℕ → Phase → Bool
has_turn_at p (phase.Holding q) = q == p
has_turn_at p (phase.Put q) = q == p
has_turn_at p _ = false

-- the sender has put a job at p, and owes a notification
abbrev pub owes_note_at : ℕ → Phase → Bool
owes_note_at p (phase.Put q) = q == p
owes_note_at p (phase.Owing q) = q == p
owes_note_at p _ = false

-- the sender has to bring a notice of p to the mailbox
abbrev pub is_messenger_at : ℕ → Phase → Bool
is_messenger_at p (phase.Messenger q) = q == p
is_messenger_at p _ = false

-- the sender has to bring a notice of some place to the mailbox
abbrev pub is_messenger : Phase → Bool
is_messenger (phase.Messenger _) = true
is_messenger _ = false

-- the sender has put a job whose notice is not yet in the mailbox
abbrev pub is_notifying : Phase → Bool
is_notifying (phase.Put _) = true
is_notifying (phase.Owing _) = true
is_notifying (phase.Messenger _) = true
is_notifying _ = false

-- where a sender with the turn of p is once it gives the turn back
abbrev pub phase_after_give : ℕ → Phase → Phase
phase_after_give p (phase.Holding q) = if q == p then phase.Referenced else phase.Holding q
phase_after_give p (phase.Put q) = if q == p then phase.Owing q else phase.Put q
phase_after_give p other = other

-- where a sender is that owed a notification at p, and found this note there
abbrev pub phase_after_swap : ℕ → Note → Phase
phase_after_swap p note.Pending = phase.Referenced
phase_after_swap p _ = phase.Messenger p

-- the owner has got the place under a notice, and has not begun to execute it
abbrev pub is_got : Serving → Bool
is_got (serving.Got _) = true
is_got _ = false

-- the owner executes the place under a notice
abbrev pub is_executing_notice : Serving → Bool
is_executing_notice (serving.Executing _) = true
is_executing_notice _ = false

-- the owner executes the place, under a notice or directly
abbrev pub is_executing : Serving → Bool
is_executing (serving.Executing _) = true
is_executing serving.Direct = true
is_executing _ = false

-- the owner has found no job waiting at the place
abbrev pub is_seen_empty : Serving → Bool
is_seen_empty serving.SeenEmpty = true
is_seen_empty _ = false

-- the owner is at the place under the notice k
abbrev pub is_under : ℕ → Serving → Bool
is_under k (serving.Got m) = m == k
is_under k (serving.Executing m) = m == k
is_under k _ = false

-- the owner is open
abbrev pub is_open : OwnerState → Bool
is_open owner.Open = true
is_open _ = false

-- the owner is closed
abbrev pub is_closed : OwnerState → Bool
is_closed owner.Closed = true
is_closed _ = false

-- the owner may take jobs of the place: it executes it, or it is closed and empties it
abbrev pub is_working : OwnerState → Serving → Bool
is_working owner.Closed (serving.Got _) = true
is_working _ at_place = is_executing at_place

-- what the owner does at a place that it had got, once it has received its note
abbrev pub serving_after_receive : Serving → Serving
serving_after_receive (serving.Got k) = serving.Executing k
serving_after_receive other = other

-- what the owner does at a place that it executed, once it has found no job there
abbrev pub serving_after_look : Serving → Serving
serving_after_look serving.Direct = serving.Away
serving_after_look _ = serving.SeenEmpty

-- a notification is announced
abbrev pub is_pending : Note → Bool
is_pending note.Pending = true
is_pending _ = false

-- the owner has received the notification
abbrev pub is_received : Note → Bool
is_received note.Received = true
is_received _ = false

-- the note after an exchange of received for none
abbrev pub note_after_exchange : Note → Note
note_after_exchange note.Received = note.None
note_after_exchange other = other

-- the sender is looking at p
abbrev pub looks_at : ℕ → Look → Bool
looks_at p look.Nowhere = false
looks_at p (look.At q) = q == p
looks_at p (look.Saw q _) = q == p

-- the sender has seen the note of the place that it is looking at
abbrev pub has_seen_note : Look → Bool
has_seen_note (look.Saw _ _) = true
has_seen_note _ = false

-- the sender is looking at p, and has seen there that the note was none
abbrev pub saw_none_at : ℕ → Look → Bool
saw_none_at p (look.Saw q note.None) = q == p
saw_none_at p _ = false

-- where a sender looks once a release has left this life at p: it looks at p where no use is left
abbrev pub look_after_release : ℕ → ℕ → Look → Look
look_after_release life p before = if life == 2 then look.At p else before

-- the life of a place that its looker leaves: free where the note seen was none, else a zombie
abbrev pub life_after_mark : Look → ℕ
life_after_mark (look.Saw _ note.None) = 0
life_after_mark _ = 1

-- the word of a turn: the number of its holders
abbrev pub turn_word : Option Actor → ℕ
turn_word None = 0
turn_word (Some _) = 1

-- the word of a note
abbrev pub note_word : Note → ℕ
note_word note.None = 0
note_word note.Pending = 1
note_word note.Received = 2
