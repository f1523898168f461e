-- What the invariant promises, from its parts.
use Rattle.std.proofs.Common.{◌≡◌, ◌≢◌, ◌⊎◌, inl, inr, ℕ, zero, suc, ◌+◌, ◌<◌, false, ◌&&◌, [], ◌∷◌, refl, arith, ap, sym, subst, ◌∙◌}
use Rattle.std.specs.Prelude.{not, IsTrue}
use Rattle.std.proofs.lemmas.Bool.{cases_lt, eq-eqb}
use Rattle.std.proofs.lemmas.List.Elements.{All-cons}
use Rattle.proxy_laws.specs.declared.actors.Actor.TheVariants as actor
use Rattle.proxy_laws.specs.declared.actors.Note.{Note}
use Rattle.proxy_laws.specs.declared.actors.Note.TheVariants as note
use Rattle.proxy_laws.specs.declared.actors.OwnerState.{OwnerState}
use Rattle.proxy_laws.specs.declared.actors.OwnerState.TheVariants as owner
use Rattle.proxy_laws.specs.declared.actors.Phase.{Phase}
use Rattle.proxy_laws.specs.declared.actors.Phase.TheVariants as phase
use Rattle.proxy_laws.specs.declared.actors.Serving.{Serving}
use Rattle.proxy_laws.specs.declared.events.Event.{Event}
use Rattle.proxy_laws.specs.declared.events.Event.TheVariants as event
use Rattle.proxy_laws.specs.Events.{Enabled, world_after}
use Rattle.proxy_laws.specs.Maps.{bit, count_below}
use Rattle.proxy_laws.specs.Phases.{names, is_idle, is_executing, is_executing_notice, is_got, is_messenger_at, is_pending, is_received, owes_note_at}
use Rattle.proxy_laws.specs.Promises.{NoSenderAfterClose, NoticesFindRoom, NothingIsLost, NothingWaitsOnceEmptied, PlacesComeFree, IsShut, IsSeenTo, by_sender, by_messenger, by_mailbox, by_getting, by_executing, by_emptying, is_send}
use Rattle.proxy_laws.specs.Sound.{Sound, bearers}
use Rattle.proxy_laws.specs.Worlds.{WorldState, put, taken}
use Rattle.proxy_laws.proofs.Inductive.{event_keeps}
use Rattle.proxy_laws.proofs.Maps.{passes, fails, term_le, count_some, bit_le}
use Rattle.proxy_laws.proofs.Notifying.{messenger_of}

idle_of : (ph : Phase) → bit (not (is_idle ph)) ≡ 0 → ph ≡ phase.Idle
idle_of phase.Idle none = refl
idle_of phase.Referenced none = absurd (omega arith)
idle_of (phase.Holding q) none = absurd (omega arith)
idle_of (phase.Put q) none = absurd (omega arith)
idle_of (phase.Owing q) none = absurd (omega arith)
idle_of (phase.Messenger q) none = absurd (omega arith)

-- a closed target has no references, so its senders are idle
shut : (w : WorldState) → Sound w → w.owner ≡ owner.Closed → IsShut w
shut w o c = record {
  closed = c;
  no_reference = o.closed c;
  idle = λ s near. idle_of (w.phase s) (let none = o.closed c in let count = o.refs in let least = term_le w.senders (λ r. bit (not (is_idle (w.phase r)))) s near in omega arith);
}

-- no sender can act on a closed target
unsent : (w : WorldState) (e : Event) → IsShut w → Enabled w e → is_send e ≡ false
unsent w (event.AddRef s) h e = let some = e.conditions.1 in let none = h.no_reference in absurd (omega arith)
unsent w (event.DropRef s) h e = let idle = h.idle s e.there.sender in let is = e.conditions in absurd (cc)
unsent w (event.TakePlace (actor.Sender s) p) h e = let idle = h.idle s e.there.sender in let is = e.conditions.0.0 in absurd (cc)
unsent w (event.TakePlace actor.Owner p) h e = refl
unsent w (event.Put s p tag) h e = let idle = h.idle s e.there.sender in let is = e.conditions in absurd (cc)
unsent w (event.SwapNote s p) h e = let idle = h.idle s e.there.sender in let is = e.conditions in absurd (cc)
unsent w (event.AddMail s) h e = let idle = h.idle s e.there.sender in let of = messenger_of (w.phase s) e.conditions in let is = of.1 in absurd (cc)
unsent w _ h e = refl

-- what is closed stays so
stays_closed : (w : WorldState) (e : Event) → IsShut w → Enabled w e → (world_after w e).owner ≡ owner.Closed
stays_closed w event.DropOwn h e = let c = h.closed in let is = e.conditions in absurd (cc)
stays_closed w event.LookClosed h e = let c = h.closed in let is = e.conditions in absurd (cc)
stays_closed w (event.TakePlace (actor.Sender s) p) h e = h.closed
stays_closed w (event.TakePlace actor.Owner p) h e = h.closed
stays_closed w (event.GivePlace (actor.Sender s) p) h e = h.closed
stays_closed w (event.GivePlace actor.Owner p) h e = h.closed
stays_closed w _ h e = h.closed

pub no_sender_after_close : NoSenderAfterClose
no_sender_after_close w [] end o c led = (subst IsShut (sym led) (shut w o c), λ n d near. absurd (omega arith))
no_sender_after_close w (e ∷ events) end o c led =
    let rest = no_sender_after_close (world_after w e) events end (event_keeps e w o led.0) (stays_closed w e (shut w o c) led.0) led.1 in
    (rest.0, All-cons (λ (x : Event). is_send x ≡ false) e events (unsent w e (shut w o c) led.0) rest.1)

pub places_come_free : PlacesComeFree
places_come_free w p o place dead = record {
  none_waits = (o.lives.free p place dead).none_waits;
  no_use = λ s near. let least = term_le w.senders (λ r. w.uses r p) s near in let sum = o.lives.used p place in omega arith;
  no_notice = λ ne. let none = (o.lives.free p place dead).none_noted ne in (none, (o.borne p place).open_once ne ∙ ap (λ n. bit (is_pending n)) none);
}

-- of two numbers whose sum is not 0, one is not
some_of : (a b : ℕ) → 0 < a + b → (0 < a) ⊎ (0 < b)
some_of zero b some = inr (omega arith)
some_of (suc a) b some = inl (omega arith)

pending_of : (n : Note) → 0 < bit (is_pending n) → n ≡ note.Pending
pending_of note.None some = absurd (omega arith)
pending_of note.Pending some = refl
pending_of note.Received some = absurd (omega arith)

-- a notice of an open target's place is borne by somebody
borne_seen_to : (w : WorldState) (p : ℕ) → Sound w → p < w.places → 0 < bearers w.senders w.phase (w.mail p) (w.serving p) p → IsSeenTo w p
borne_seen_to w p o place some = elim (some_of (count_below w.senders (λ s. is_messenger_at p (w.phase s)) + bit (w.mail p)) (bit (is_got (w.serving p))) some) [
  | inl either ↦ elim (some_of (count_below w.senders (λ s. is_messenger_at p (w.phase s))) (bit (w.mail p)) either) [
    | inl bringing ↦ let one = count_some w.senders (λ s. is_messenger_at p (w.phase s)) bringing in by_messenger one.0 one.1 one.2
    | inr there ↦ let mailed = passes (w.mail p) there in by_mailbox mailed (o.mail p place mailed)
  ]
  | inr has ↦ by_getting (passes (is_got (w.serving p)) has)
]

-- a closed owner is to empty the place
closed_seen_to : (w : WorldState) (p : ℕ) → Sound w → p < w.places → w.owner ≡ owner.Closed → 0 < bit (w.mail p) + bit (is_got (w.serving p)) + bit (is_executing (w.serving p)) → IsSeenTo w p
closed_seen_to w p o place c some = elim (some_of (bit (w.mail p) + bit (is_got (w.serving p))) (bit (is_executing (w.serving p))) some) [
  | inl either ↦ elim (some_of (bit (w.mail p)) (bit (is_got (w.serving p))) either) [
    | inl there ↦ let mailed = passes (w.mail p) there in by_mailbox mailed (o.mail p place mailed)
    | inr has ↦ by_getting (passes (is_got (w.serving p)) has)
  ]
  | inr executing ↦ by_emptying c (passes (is_executing (w.serving p)) executing)
]

executing_of : (n : Note) (at_place : Serving) → 0 < bit (is_received n && is_executing_notice at_place) → (n ≡ note.Received) × IsTrue (is_executing_notice at_place)
executing_of note.Received at_place some = (refl, passes (is_executing_notice at_place) some)
executing_of note.None at_place some = absurd (omega arith)
executing_of note.Pending at_place some = absurd (omega arith)

open_seen_to : (w : WorldState) (p : ℕ) → Sound w → p < w.places → w.owner ≢ owner.Closed → taken w p < put w p → IsSeenTo w p
open_seen_to w p o place ne waits = elim (some_of (bit (is_pending (w.note p)) + count_below w.senders (λ s. owes_note_at p (w.phase s))) (bit (is_received (w.note p) && is_executing_notice (w.serving p))) (o.announced p place waits)) [
  | inl either ↦ elim (some_of (bit (is_pending (w.note p))) (count_below w.senders (λ s. owes_note_at p (w.phase s))) either) [
    | inl pending ↦ borne_seen_to w p o place (let once = (o.borne p place).open_once ne in omega arith)
    | inr owing ↦ let one = count_some w.senders (λ s. owes_note_at p (w.phase s)) owing in by_sender one.0 one.1 one.2
  ]
  | inr executing ↦ let both = executing_of (w.note p) (w.serving p) executing in by_executing both.0 both.1
]

pub nothing_is_lost : NothingIsLost
nothing_is_lost w p o place waits = by_owner w.owner refl where
  by_owner : (state : OwnerState) → w.owner ≡ state → IsSeenTo w p
  by_owner owner.Closed is = closed_seen_to w p o place is (((o.borne p place).closed is).waits waits)
  by_owner owner.Open is = open_seen_to w p o place (λ c. cc) waits
  by_owner owner.Closing is = open_seen_to w p o place (λ c. cc) waits

-- a closed owner with nothing to empty and no notice has nothing waiting
pub nothing_waits_once_emptied : NothingWaitsOnceEmptied
nothing_waits_once_emptied w p o c away unmailed place = elim (cases_lt (taken w p) (put w p)) [
  | inl waits ↦ absurd (let some = ((o.borne p place).closed c).waits waits in let here = away p place in let no_mail = ap bit (unmailed p place) in let no_got = ap (λ a. bit (is_got a)) here in let no_work = ap (λ a. bit (is_executing a)) here in omega arith)
  | inr none ↦ none
]

pub notices_find_room : NoticesFindRoom
notices_find_room w s p formed o e is = fails (w.mail p) none where
  near : s < w.senders
  near = e.there.sender

  place : p < w.places
  place = formed.phases s p near (ap (names p) is ∙ eq-eqb p p refl)

  not_closed : w.owner ≢ owner.Closed
  not_closed c = let gone = (shut w o c).idle s near in cc

  none : bit (w.mail p) ≡ 0
  none =
      let one : bit (is_messenger_at p (w.phase s)) ≡ 1 = ap (λ ph. bit (is_messenger_at p ph)) is ∙ ap bit (eq-eqb p p refl) in
      let least = term_le w.senders (λ r. bit (is_messenger_at p (w.phase r))) s near in
      let once = (o.borne p place).open_once not_closed in
      let most = bit_le (is_pending (w.note p)) in omega arith
