-- One sender goes from one phase to another: what stays of each part of the invariant.
use Rattle.std.proofs.Common.{◌≡◌, ℕ, ◌+◌, ◌<◌, ◌≤◌, Bool, Option, Some, List, arith, subst}
use Rattle.std.specs.Prelude.{not, IsTrue}
use Rattle.proxy_laws.specs.declared.actors.Actor.{Actor}
use Rattle.proxy_laws.specs.declared.actors.Actor.TheVariants as actor
use Rattle.proxy_laws.specs.declared.actors.Note.{Note}
use Rattle.proxy_laws.specs.declared.actors.OwnerState.{OwnerState}
use Rattle.proxy_laws.specs.declared.actors.Phase.{Phase}
use Rattle.proxy_laws.specs.declared.actors.Serving.{Serving}
use Rattle.proxy_laws.specs.declared.records.Job.{Job}
use Rattle.proxy_laws.specs.declared.records.Mark.{Mark}
use Rattle.proxy_laws.specs.Maps.{upd, bit, count_below}
use Rattle.proxy_laws.specs.Phases.{is_idle, names, has_turn_at, owes_note_at, is_messenger_at, is_notifying}
use Rattle.proxy_laws.specs.Sound.{Sound, RefsAreCounted, UsesAreEngaged, IsAnnounced, IsBorne, ClosedHasNone, TurnsAreHeld, NoticesAreFew}
use Rattle.proxy_laws.specs.Worlds.{WorldState}
use Rattle.proxy_laws.proofs.Maps.{upd_case, sum_upd}

module _ (senders : ℕ) (phase : ℕ → Phase) (s : ℕ) (old new : Phase) (near : s < senders) (was : phase s ≡ old) where
  -- how many pass a test changes by what the test says of the two phases
  pub count_moved : (t : Phase → Bool) → count_below senders (λ r. t (upd phase s new r)) + bit (t old) ≡ count_below senders (λ r. t (phase r)) + bit (t new)
  count_moved t = rw (← was) (sum_upd phase s new (λ ph. bit (t ph)) senders near)

  pub refs_moved : (refs refs_new : ℕ) (state : OwnerState) → refs_new + bit (not (is_idle old)) ≡ refs + bit (not (is_idle new)) → RefsAreCounted senders refs state phase → RefsAreCounted senders refs_new state (upd phase s new)
  refs_moved refs refs_new state e o = let m = count_moved (λ ph. not (is_idle ph)) in omega arith

  pub engaged_moved : (places : ℕ) (uses : ℕ → ℕ → ℕ) → ((q : ℕ) → q < places → bit (names q new) ≤ uses s q) → UsesAreEngaged senders places phase uses → UsesAreEngaged senders places (upd phase s new) uses
  engaged_moved places uses ok o r q there near_q = upd_case phase s new (λ k ph. bit (names q ph) ≤ uses k q) r (λ e. rw e (ok q near_q)) (λ ne. o r q there near_q)

  pub announced_moved : (sent : List Mark) (jobs : List Job) (n : Note) (at_place : Serving) (p : ℕ) → bit (owes_note_at p old) ≤ bit (owes_note_at p new) → IsAnnounced senders phase sent jobs n at_place p → IsAnnounced senders (upd phase s new) sent jobs n at_place p
  announced_moved sent jobs n at_place p e o waits = let m = count_moved (owes_note_at p) in let a = o waits in omega arith

  pub borne_moved : (state : OwnerState) (sent : List Mark) (jobs : List Job) (mailed : Bool) (n : Note) (at_place : Serving) (p : ℕ) → bit (is_messenger_at p old) ≡ bit (is_messenger_at p new) → IsBorne senders state phase sent jobs mailed n at_place p → IsBorne senders state (upd phase s new) sent jobs mailed n at_place p
  borne_moved state sent jobs mailed n at_place p e o = record {
    open_once = λ not_closed. let m = count_moved (is_messenger_at p) in let a = o.open_once not_closed in omega arith;
    closed = o.closed;
  }

  pub held_moved : (places : ℕ) (turn : ℕ → Option Actor) (sent : ℕ → List Mark) → ((q : ℕ) → q < places → IsTrue (has_turn_at q new) → turn q ≡ Some (actor.Sender s)) → TurnsAreHeld senders places turn sent phase → TurnsAreHeld senders places turn sent (upd phase s new)
  held_moved places turn sent ok o = record {
    held = λ r q there near_q. upd_case phase s new (λ k ph. IsTrue (has_turn_at q ph) → turn q ≡ Some (actor.Sender k)) r (λ e has. rw e (ok q near_q has)) (λ ne. o.held r q there near_q);
    numbered = o.numbered;
  }

  pub few_moved : (places got : ℕ) (mail : ℕ → Bool) (sent : ℕ → List Mark) → bit (is_notifying new) ≤ bit (is_notifying old) → NoticesAreFew senders places got mail phase sent → NoticesAreFew senders places got mail (upd phase s new) sent
  few_moved places got mail sent e o = let m = count_moved is_notifying in omega arith

-- what a sender owes and brings is the same in both phases
pub record OwesTheSame (old new : Phase) : Type 0 where
  pub owes : (q : ℕ) → bit (owes_note_at q old) ≡ bit (owes_note_at q new)
  pub brings : (q : ℕ) → bit (is_messenger_at q old) ≡ bit (is_messenger_at q new)
  pub notifies : bit (is_notifying old) ≡ bit (is_notifying new)

-- The sender goes from one phase to another that owes the same; references and turns may change with it.
pub goes : (w : WorldState) (s : ℕ) (old new : Phase) (refs_new : ℕ) (turn_new : ℕ → Option Actor) → s < w.senders → w.phase s ≡ old → OwesTheSame old new → Sound w → RefsAreCounted w.senders refs_new w.owner (upd w.phase s new) → ((q : ℕ) → q < w.places → bit (names q new) ≤ w.uses s q) → ClosedHasNone w.owner refs_new → TurnsAreHeld w.senders w.places turn_new w.sent (upd w.phase s new) → Sound (record w { refs = refs_new; turn = turn_new; phase = upd w.phase s new })
goes w s old new refs_new turn_new near was same o refs engaged closed turns = record {
  refs = refs;
  engaged = engaged_moved w.senders w.phase s old new near was w.places w.uses engaged o.engaged;
  announced = λ q at. announced_moved w.senders w.phase s old new near was (w.sent q) (w.jobs q) (w.note q) (w.serving q) q (let e = same.owes q in omega arith) (o.announced q at);
  borne = λ q at. borne_moved w.senders w.phase s old new near was w.owner (w.sent q) (w.jobs q) (w.mail q) (w.note q) (w.serving q) q (same.brings q) (o.borne q at);
  served = o.served;
  closed = closed;
  jobs = o.jobs;
  lives = o.lives;
  mail = o.mail;
  turns = turns;
  notices = few_moved w.senders w.phase s old new near was w.places w.got w.mail w.sent (let e = same.notifies in omega arith) o.notices;
}

-- the turn of p goes to t, and no sender at p is without it
pub turn_moved : (senders places : ℕ) (turn : ℕ → Option Actor) (sent : ℕ → List Mark) (phase : ℕ → Phase) (p : ℕ) (t : Option Actor) → ((r : ℕ) → r < senders → IsTrue (has_turn_at p (phase r)) → t ≡ Some (actor.Sender r)) → TurnsAreHeld senders places turn sent phase → TurnsAreHeld senders places (upd turn p t) sent phase
turn_moved senders places turn sent phase p t ok o = record {
  held = λ r q there at has. upd_case turn p t (λ k u. u ≡ Some (actor.Sender r)) q (λ same. ok r there (subst (λ k. IsTrue (has_turn_at k (phase r))) same has)) (λ ne. o.held r q there at has);
  numbered = o.numbered;
}

-- only the turn of p changes
pub turned : (w : WorldState) (p : ℕ) (t : Option Actor) → ((r : ℕ) → r < w.senders → IsTrue (has_turn_at p (w.phase r)) → t ≡ Some (actor.Sender r)) → Sound w → Sound (record w { turn = upd w.turn p t })
turned w p t ok o = record {
  refs = o.refs;
  engaged = o.engaged;
  announced = o.announced;
  borne = o.borne;
  served = o.served;
  closed = o.closed;
  jobs = o.jobs;
  lives = o.lives;
  mail = o.mail;
  turns = turn_moved w.senders w.places w.turn w.sent w.phase p t ok o.turns;
  notices = o.notices;
}
