-- Worlds that no run makes, by hand: each breaks one part of the invariant, but for the last.
use Rattle.std.specs.Prelude.{ℕ, true, Some, [], ◌∷◌}
use Rattle.proxy_laws.specs.declared.actors.Actor.TheVariants as actor
use Rattle.proxy_laws.specs.declared.actors.Look.TheVariants as look
use Rattle.proxy_laws.specs.declared.actors.Note.TheVariants as note
use Rattle.proxy_laws.specs.declared.actors.OwnerState.TheVariants as owner
use Rattle.proxy_laws.specs.declared.actors.Phase.TheVariants as phase
use Rattle.proxy_laws.specs.declared.actors.Serving.TheVariants as serving
use Rattle.proxy_laws.specs.declared.records.FateMark.TheVariants as fate
use Rattle.proxy_laws.specs.declared.records.Job.{Job}
use Rattle.proxy_laws.specs.declared.records.Mark.{Mark}
use Rattle.proxy_laws.specs.declared.records.Started.{Started}
use Rattle.proxy_laws.specs.declared.records.Started.TheVariants as started
use Rattle.proxy_laws.specs.Maps.{upd}
use Rattle.proxy_laws.specs.Sound.{Sound}
use Rattle.proxy_laws.specs.Worlds.{WorldState, opening_world}

-- a new target with two senders and two places
abbrev pub small : WorldState
small = opening_world 2 2

-- a mark of sender 0 with this seq
abbrev pub mark_of : ℕ → Mark
mark_of seq = record { sender = 0; seq = seq; tag = 0 }

abbrev pub finished_job : Started → Job
finished_job start = record { started = start; fate = Some fate.Finished }

abbrev pub cancelled_job : Started → Job
cancelled_job start = record { started = start; fate = Some fate.Cancelled }

pub record UnsoundWorlds : Type 0 where
  -- (i) a reference too many
  pub refs_miscounted : Sound (record small { refs = 2 }) → ⊥
  -- (ii) a sender at a place of which it has no use
  pub no_use : Sound (record small { refs = 2; turn = upd small.turn 1 (Some (actor.Sender 0)); phase = upd small.phase 0 (phase.Holding 1) }) → ⊥
  -- (iii) a job waits, and nobody tells of it
  pub unannounced : Sound (record small { sent = upd small.sent 0 (mark_of 0 ∷ []) }) → ⊥
  -- (iv) a note is pending, and nobody bears its notice
  pub unborne : Sound (record small { note = upd small.note 0 note.Pending }) → ⊥
  -- (iv) a notice is borne twice: by the mailbox, and by the owner that has got it
  pub borne_twice : Sound (record small { note = upd small.note 0 note.Pending; mail = upd small.mail 0 true; mail_note = note.Pending; serving = upd small.serving 0 (serving.Got 1) }) → ⊥
  -- (v) a note is received, and the owner is away
  pub received_away : Sound (record small { note = upd small.note 0 note.Received }) → ⊥
  -- (vi) a closed target with a reference
  pub closed_referenced : Sound (record small { owner = owner.Closed; phase = upd small.phase 0 phase.Referenced }) → ⊥
  -- (vii) a job of an open target was cancelled
  pub cancelled_open : Sound (record small { sent = upd small.sent 0 (mark_of 0 ∷ []); jobs = upd small.jobs 0 (cancelled_job started.Direct ∷ []) }) → ⊥
  -- (vii) one notice started jobs at two places
  pub shared_notice : Sound (record small {
    sent = λ p. mark_of 0 ∷ [];
    jobs = λ p. finished_job (started.Notice 1) ∷ [];
    got = 1;
  }) → ⊥
  -- (vii) what a closed owner took was finished
  pub closing_finished : Sound (record small {
    refs = 0;
    owner = owner.Closed;
    sent = upd small.sent 0 (mark_of 0 ∷ []);
    jobs = upd small.jobs 0 (finished_job started.Closing ∷ []);
  }) → ⊥
  -- (viii) a life with more uses than there are
  pub life_too_long : Sound (record small { life = upd small.life 0 5 }) → ⊥
  -- (viii) a sender looks at a live place
  pub live_looked_at : Sound (record small { look = upd small.look 0 (look.At 0) }) → ⊥
  -- (ix) a notice is in the mailbox, whose note is none
  pub mail_unannounced : Sound (record small { mail = upd small.mail 0 true }) → ⊥
  -- (x) a sender is holding, and the turn is free
  pub holding_without_turn : Sound (record small { refs = 2; phase = upd small.phase 0 (phase.Holding 0) }) → ⊥
  -- (x) a sender's first mark has not the seq 0
  pub mark_misnumbered : Sound (record small { sent = upd small.sent 0 (mark_of 5 ∷ []); jobs = upd small.jobs 0 (finished_job started.Direct ∷ []) }) → ⊥
  -- (xi) a notice was got, and no job was put
  pub notice_without_mark : Sound (record small { got = 1 }) → ⊥
  -- No run leads to an idle sender with a turn, but the invariant allows it.
  pub idle_with_turn : Sound (record small { turn = upd small.turn 0 (Some (actor.Sender 0)) })
