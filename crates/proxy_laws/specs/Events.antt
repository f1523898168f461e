-- The events of a world: where each is enabled, and what it changes.
use Rattle.std.specs.Prelude.{◌≡◌, ◌≢◌, ℕ, ◌+◌, ◌-◌, ◌<◌, ◌≤◌, ◌==◌, false, IsTrue, Option, Some, None, IfSome, List, [], ◌∷◌, ◌++◌, if◌then◌else◌}
use Rattle.proxy_laws.specs.declared.actors.Actor.{Actor}
use Rattle.proxy_laws.specs.declared.actors.Actor.TheVariants as actor
use Rattle.proxy_laws.specs.declared.actors.Look.TheVariants as look
use Rattle.proxy_laws.specs.declared.actors.Note.TheVariants as note
use Rattle.proxy_laws.specs.declared.actors.OwnerState.TheVariants as owner
use Rattle.proxy_laws.specs.declared.actors.Phase.TheVariants as phase
use Rattle.proxy_laws.specs.declared.actors.Serving.TheVariants as serving
use Rattle.proxy_laws.specs.declared.events.Event.{Event}
use Rattle.proxy_laws.specs.declared.events.Event.TheVariants as event
use Rattle.proxy_laws.specs.declared.records.FateMark.TheVariants as fate
use Rattle.proxy_laws.specs.Lists.{next_mark, active_job, IsActive, with_fate, start_under}
use Rattle.proxy_laws.specs.Mailbox.{mail_words, mail_after_add, mail_note_after_take}
use Rattle.proxy_laws.specs.Maps.{upd}
use Rattle.proxy_laws.specs.Phases.{is_messenger, is_got, is_working, looks_at, has_seen_note, phase_after_give, phase_after_swap, serving_after_receive, serving_after_look, note_after_exchange, life_after_mark, look_after_release, turn_word}
use Rattle.proxy_laws.specs.Worlds.{WorldState, put, taken, HasUse, IsAwayEverywhere, IsEmptied}

-- the sender that acts, if one does
abbrev pub sender_of : Actor → Option ℕ
sender_of (actor.Sender s) = Some s
sender_of actor.Owner = None

-- the sender that the event names, if it names one
abbrev pub event_sender : Event → Option ℕ
event_sender (event.LoadRefs s) = Some s
event_sender (event.AddRef s) = Some s
event_sender (event.DropRef s) = Some s
event_sender (event.TakePlace who p) = sender_of who
event_sender (event.Put s p tag) = Some s
event_sender (event.GivePlace who p) = sender_of who
event_sender (event.SwapNote s p) = Some s
event_sender (event.AddMail s) = Some s
event_sender (event.Create s p) = Some s
event_sender (event.CloneUse s p) = Some s
event_sender (event.ReleaseUse s p) = Some s
event_sender (event.Claim s p) = Some s
event_sender (event.LookNote s p) = Some s
event_sender (event.MarkLife s p) = Some s
event_sender (event.Split who) = sender_of who
event_sender (event.Join s) = Some s
event_sender _ = None

-- the place that the event names, if it names one
abbrev pub event_place : Event → Option ℕ
event_place (event.TakePlace who p) = Some p
event_place (event.Put s p tag) = Some p
event_place (event.GivePlace who p) = Some p
event_place (event.SwapNote s p) = Some p
event_place (event.TakeNotice p) = Some p
event_place (event.Receive p) = Some p
event_place (event.Direct p) = Some p
event_place (event.TakeJob p) = Some p
event_place (event.LookPlace p) = Some p
event_place (event.Finish p) = Some p
event_place (event.SettleFinished p n) = Some p
event_place (event.SettleCancelled p n) = Some p
event_place (event.ResetPlace p) = Some p
event_place (event.Create s p) = Some p
event_place (event.CloneUse s p) = Some p
event_place (event.ReleaseUse s p) = Some p
event_place (event.Claim s p) = Some p
event_place (event.LookNote s p) = Some p
event_place (event.MarkLife s p) = Some p
event_place _ = None

-- the world has the sender and the place that the event names
pub record IsThere (w : WorldState) (e : Event) : Type 0 where
  pub sender : IfSome (event_sender e) (λ s. s < w.senders)
  pub place : IfSome (event_place e) (λ p. p < w.places)

-- a sender may take the turn of p while it is referenced and has a use, the owner while it works there
abbrev pub MayTakePlace : WorldState → Actor → ℕ → Type 0
MayTakePlace w (actor.Sender s) p = (w.phase s ≡ phase.Referenced) × HasUse w s p
MayTakePlace w actor.Owner p = IsTrue (is_working w.owner (w.serving p))

-- the owner works at p with the turn
abbrev pub WorksAt : WorldState → ℕ → Type 0
WorksAt w p = IsTrue (is_working w.owner (w.serving p)) × (w.turn p ≡ Some actor.Owner)

-- the owner may look into its mailbox: it is at no place, and open or closed
abbrev pub MayLookMail : WorldState → Type 0
MayLookMail w = IsAwayEverywhere w × (w.owner ≢ owner.Closing)

-- One condition of an event; and what the word holds that it compares with a number, or `taken` with `put`,
-- 0 where it compares none.
pub record Condition : Type 1 where
  pub holds : Type 0
  pub value : ℕ

-- a condition that compares no word
abbrev pub plain : Type 0 → Condition
plain P = record { holds = P; value = 0 }

-- a condition that compares a word which holds this value
abbrev pub compares : Type 0 → ℕ → Condition
compares P value = record { holds = P; value = value }

-- The conditions of each event, in order. A part in parentheses is one condition.
abbrev pub conditions : WorldState → Event → List Condition
conditions w (event.LoadRefs s) = plain (w.phase s ≡ phase.Idle) ∷ []
conditions w (event.AddRef s) = plain (w.phase s ≡ phase.Idle) ∷ compares (1 ≤ w.refs) w.refs ∷ []
conditions w (event.DropRef s) = plain (w.phase s ≡ phase.Referenced) ∷ []
conditions w (event.TakePlace who p) = plain (MayTakePlace w who p) ∷ compares (w.turn p ≡ None) (turn_word (w.turn p)) ∷ []
conditions w (event.Put s p tag) = plain (w.phase s ≡ phase.Holding p) ∷ []
conditions w (event.GivePlace who p) = plain (w.turn p ≡ Some who) ∷ []
conditions w (event.SwapNote s p) = plain (w.phase s ≡ phase.Owing p) ∷ []
conditions w (event.AddMail s) = plain (IsTrue (is_messenger (w.phase s))) ∷ []
conditions w (event.LookMail word) = plain (MayLookMail w) ∷ plain (word < mail_words) ∷ []
conditions w (event.TakeNotice p) = plain (MayLookMail w) ∷ plain (IsTrue (w.mail p)) ∷ []
conditions w (event.Receive p) = plain (IsTrue (is_got (w.serving p))) ∷ []
conditions w (event.Direct p) = plain (IsAwayEverywhere w) ∷ []
conditions w (event.TakeJob p) = plain (WorksAt w p) ∷ compares (taken w p < put w p) (taken w p) ∷ []
conditions w (event.LookPlace p) = plain (WorksAt w p) ∷ compares (taken w p ≡ put w p) (taken w p) ∷ []
conditions w (event.Finish p) = plain ((w.serving p ≡ serving.SeenEmpty) × (w.turn p ≢ Some actor.Owner)) ∷ []
conditions w (event.SettleFinished p n) = plain (IsActive (w.jobs p) n) ∷ plain (w.owner ≡ owner.Open) ∷ []
conditions w (event.SettleCancelled p n) = plain (IsActive (w.jobs p) n) ∷ plain (w.owner ≡ owner.Closed) ∷ []
conditions w event.DropOwn = plain (w.owner ≡ owner.Open) ∷ []
conditions w event.LookClosed = plain (w.owner ≡ owner.Closing) ∷ []
conditions w (event.ResetPlace p) = plain (w.owner ≡ owner.Closed) ∷ plain (IsEmptied w p) ∷ []
conditions w (event.Create s p) = compares (w.life p ≡ 0) (w.life p) ∷ []
conditions w (event.CloneUse s p) = plain (HasUse w s p) ∷ []
conditions w (event.ReleaseUse s p) = plain (w.look s ≡ look.Nowhere) ∷ plain (HasUse w s p) ∷ plain (p ≢ 0) ∷ []
conditions w (event.Claim s p) = plain (w.look s ≡ look.Nowhere) ∷ compares (w.life p ≡ 1) (w.life p) ∷ []
conditions w (event.LookNote s p) = plain (IsTrue (looks_at p (w.look s))) ∷ []
conditions w (event.MarkLife s p) = plain (IsTrue (looks_at p (w.look s))) ∷ plain (IsTrue (has_seen_note (w.look s))) ∷ []
conditions w (event.Split who) = []
conditions w (event.Join s) = plain (w.phase s ≡ phase.Idle) ∷ []

-- each of the conditions holds
abbrev pub AllHold : List Condition → Type 0
AllHold [] = Unit {0}
AllHold (c ∷ []) = c.holds
AllHold (c ∷ d ∷ cs) = c.holds × AllHold (d ∷ cs)

-- the event may come
pub record Enabled (w : WorldState) (e : Event) : Type 0 where
  pub there : IsThere w e
  pub conditions : AllHold (conditions w e)

-- the world after the event
abbrev pub world_after : WorldState → Event → WorldState
world_after w (event.LoadRefs s) = w
world_after w (event.AddRef s) = record w { refs = w.refs + 1; phase = upd w.phase s phase.Referenced }
world_after w (event.DropRef s) = record w { refs = w.refs - 1; phase = upd w.phase s phase.Idle }
world_after w (event.TakePlace (actor.Sender s) p) = record w {
  turn = upd w.turn p (Some (actor.Sender s));
  phase = upd w.phase s (phase.Holding p);
}
world_after w (event.TakePlace actor.Owner p) = record w { turn = upd w.turn p (Some actor.Owner) }
world_after w (event.Put s p tag) = record w {
  sent = upd w.sent p (w.sent p ++ next_mark (w.sent p) s tag ∷ []);
  phase = upd w.phase s (phase.Put p);
}
world_after w (event.GivePlace (actor.Sender s) p) = record w {
  turn = upd w.turn p None;
  phase = upd w.phase s (phase_after_give p (w.phase s));
}
world_after w (event.GivePlace actor.Owner p) = record w { turn = upd w.turn p None }
world_after w (event.SwapNote s p) = record w {
  note = upd w.note p note.Pending;
  phase = upd w.phase s (phase_after_swap p (w.note p));
}
world_after w (event.AddMail s) = record w {
  mail = mail_after_add (w.phase s) w.mail;
  mail_note = note.Pending;
  phase = upd w.phase s phase.Referenced;
}
world_after w (event.LookMail word) = w
world_after w (event.TakeNotice p) = record w {
  mail = upd w.mail p false;
  mail_note = mail_note_after_take w.places (upd w.mail p false) w.mail_note;
  got = w.got + 1;
  serving = upd w.serving p (serving.Got (w.got + 1));
}
world_after w (event.Receive p) = record w {
  note = upd w.note p note.Received;
  serving = upd w.serving p (serving_after_receive (w.serving p));
}
world_after w (event.Direct p) = record w { serving = upd w.serving p serving.Direct }
world_after w (event.TakeJob p) = record w {
  jobs = upd w.jobs p (w.jobs p ++ active_job (start_under w.owner (w.serving p)) ∷ []);
}
world_after w (event.LookPlace p) = record w { serving = upd w.serving p (serving_after_look (w.serving p)) }
world_after w (event.Finish p) = record w {
  note = upd w.note p (note_after_exchange (w.note p));
  serving = upd w.serving p serving.Away;
}
world_after w (event.SettleFinished p n) = record w { jobs = upd w.jobs p (with_fate (w.jobs p) n fate.Finished) }
world_after w (event.SettleCancelled p n) = record w { jobs = upd w.jobs p (with_fate (w.jobs p) n fate.Cancelled) }
world_after w event.DropOwn = record w { refs = w.refs - 1; owner = owner.Closing }
world_after w event.LookClosed = record w { owner = if w.refs == 0 then owner.Closed else w.owner }
world_after w (event.ResetPlace p) = record w {
  note = upd w.note p note.None;
  serving = upd w.serving p serving.Away;
}
world_after w (event.Create s p) = record w {
  life = upd w.life p 3;
  uses = upd w.uses s (upd (w.uses s) p (w.uses s p + 1));
}
world_after w (event.CloneUse s p) = record w {
  life = upd w.life p (w.life p + 1);
  uses = upd w.uses s (upd (w.uses s) p (w.uses s p + 1));
}
world_after w (event.ReleaseUse s p) = record w {
  life = upd w.life p (w.life p - 1);
  uses = upd w.uses s (upd (w.uses s) p (w.uses s p - 1));
  look = upd w.look s (look_after_release (w.life p - 1) p (w.look s));
}
world_after w (event.Claim s p) = record w { life = upd w.life p 2; look = upd w.look s (look.At p) }
world_after w (event.LookNote s p) = record w { look = upd w.look s (look.Saw p (w.note p)) }
world_after w (event.MarkLife s p) = record w {
  life = upd w.life p (life_after_mark (w.look s));
  look = upd w.look s look.Nowhere;
}
world_after w (event.Split who) = w
world_after w (event.Join s) = w
