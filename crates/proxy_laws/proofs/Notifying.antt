-- The events by which a sender notifies the owner keep a world sound.
use Rattle.std.proofs.Common.{◌≡◌, ◌≢◌, ℕ, ◌+◌, ◌<◌, ◌≤◌, ◌==◌, true, false, refl, arith, ap, sym, subst, ◌∙◌}
use Rattle.std.specs.Prelude.{not, IsTrue}
use Rattle.std.proofs.lemmas.Bool.{eq-eqb}
use Rattle.proxy_laws.specs.declared.actors.Note.{Note}
use Rattle.proxy_laws.specs.declared.actors.Note.TheVariants as note
use Rattle.proxy_laws.specs.declared.actors.OwnerState.TheVariants as owner
use Rattle.proxy_laws.specs.declared.actors.Phase.{Phase}
use Rattle.proxy_laws.specs.declared.actors.Phase.TheVariants as phase
use Rattle.proxy_laws.specs.declared.events.Event.TheVariants as event
use Rattle.proxy_laws.specs.Laws.{Keeps, NotifyingKeeps}
use Rattle.proxy_laws.specs.Mailbox.{mail_after_add}
use Rattle.proxy_laws.specs.Maps.{bit, upd}
use Rattle.proxy_laws.specs.Phases.{is_idle, names, has_turn_at, owes_note_at, is_messenger_at, is_messenger, is_notifying, is_pending, phase_after_swap}
use Rattle.proxy_laws.specs.Sound.{Sound, IsAnnounced, IsBorne, IsServed, IsQuiet, bearers}
use Rattle.proxy_laws.specs.Worlds.{WorldState}
use Rattle.proxy_laws.proofs.Living.{saw_looks, looked_unused, named_lives}
use Rattle.proxy_laws.proofs.Maps.{bit_elsewhere, upd_case, bit_le, count_set_le}
use Rattle.proxy_laws.proofs.Moved.{count_moved, refs_moved, engaged_moved, announced_moved, borne_moved, held_moved, few_moved}
use Rattle.proxy_laws.proofs.References.{has_reference}

-- where a sender is once it has swapped the note of p for pending, and found n there
pub record Swaps (p : ℕ) (n : Note) (new : Phase) : Type 0 where
  pub idle : bit (not (is_idle new)) ≡ 1
  pub there : (q : ℕ) → bit (names q new) ≤ bit (p == q)
  pub owes : (q : ℕ) → bit (owes_note_at q new) ≡ 0
  pub brings : bit (is_messenger_at p new) + bit (is_pending n) ≡ 1
  pub brings_no_other : (q : ℕ) → q ≢ p → bit (is_messenger_at q new) ≡ 0
  pub notifies : bit (is_notifying new) ≤ 1
  pub turn : (q : ℕ) → IsTrue (has_turn_at q new) → ⊥

becomes_messenger : (p : ℕ) (n : Note) → is_pending n ≡ false → Swaps p n (phase.Messenger p)
becomes_messenger p n is = record {
  idle = refl;
  there = λ q. omega arith;
  owes = λ q. refl;
  brings = rw (eq-eqb p p refl, is) refl;
  brings_no_other = λ q ne. bit_elsewhere p q ne;
  notifies = omega arith;
  turn = λ q has. cc;
}

pub swaps : (p : ℕ) (n : Note) → Swaps p n (phase_after_swap p n)
swaps p note.Pending = record {
  idle = refl;
  there = λ q. omega arith;
  owes = λ q. refl;
  brings = refl;
  brings_no_other = λ q ne. refl;
  notifies = omega arith;
  turn = λ q has. cc;
}
swaps p note.None = becomes_messenger p note.None refl
swaps p note.Received = becomes_messenger p note.Received refl

pub swap_note_keeps : (s p : ℕ) → Keeps (event.SwapNote s p)
swap_note_keeps s p w o e = record {
  refs = refs_moved w.senders w.phase s (phase.Owing p) (phase_after_swap p (w.note p)) near is w.refs w.refs w.owner (let i = to.idle in omega arith) o.refs;
  engaged = engaged_moved w.senders w.phase s (phase.Owing p) (phase_after_swap p (w.note p)) near is w.places w.uses (λ q at. let a : bit (p == q) ≤ w.uses s q = subst (λ ph. bit (names q ph) ≤ w.uses s q) is (o.engaged s q near at) in let b = to.there q in omega arith) o.engaged;
  announced = λ q at. upd_case w.note p note.Pending (λ k n. IsAnnounced w.senders (upd w.phase s (phase_after_swap p (w.note p))) (w.sent k) (w.jobs k) n (w.serving k) k) q
      (λ same waits. omega arith)
      (λ ne. announced_moved w.senders w.phase s (phase.Owing p) (phase_after_swap p (w.note p)) near is (w.sent q) (w.jobs q) (w.note q) (w.serving q) q (let zero_old = bit_elsewhere p q ne in omega arith) (o.announced q at));
  borne = λ q at. upd_case w.note p note.Pending (λ k n. IsBorne w.senders w.owner (upd w.phase s (phase_after_swap p (w.note p))) (w.sent k) (w.jobs k) (w.mail k) n (w.serving k) k) q
      (λ same. rw same (here_borne (o.borne p place)))
      (λ ne. borne_moved w.senders w.phase s (phase.Owing p) (phase_after_swap p (w.note p)) near is w.owner (w.sent q) (w.jobs q) (w.mail q) (w.note q) (w.serving q) q (sym (to.brings_no_other q ne)) (o.borne q at));
  served = λ q at. upd_case w.note p note.Pending (λ k n. IsServed w.owner n (w.serving k)) q
      (λ same. record { received = λ is. absurd (cc); none = λ not_closed is. absurd (cc) })
      (λ ne. o.served q at);
  closed = o.closed;
  jobs = o.jobs;
  lives = record {
    used = o.lives.used;
    looked = o.lives.looked;
    free = λ q at dead. upd_case w.note p note.Pending (λ k n. IsQuiet w.owner (w.sent k) (w.jobs k) n) q (λ same. let same_life = ap w.life same in absurd (omega (arith, lives))) (λ ne. o.lives.free q at dead);
    saw_none = λ t q there at saw. upd_case w.note p note.Pending (λ k n. IsQuiet w.owner (w.sent k) (w.jobs k) n) q
        (λ same. let unused = looked_unused w t q o there at (saw_looks q (w.look t) saw) in let same_life = ap w.life same in absurd (omega (arith, lives)))
        (λ ne. o.lives.saw_none t q there at saw);
    one_user = o.lives.one_user;
  };
  mail = o.mail;
  turns = held_moved w.senders w.phase s (phase.Owing p) (phase_after_swap p (w.note p)) near is w.places w.turn w.sent (λ q at has. absurd (to.turn q has)) o.turns;
  notices = few_moved w.senders w.phase s (phase.Owing p) (phase_after_swap p (w.note p)) near is w.places w.got w.mail w.sent (let n = to.notifies in omega arith) o.notices;
} where
  near : s < w.senders
  near = e.there.sender

  place : p < w.places
  place = e.there.place

  is : w.phase s ≡ phase.Owing p
  is = e.conditions

  to : Swaps p (w.note p) (phase_after_swap p (w.note p))
  to = swaps p (w.note p)

  lives : 3 ≤ w.life p
  lives = named_lives w s p o near place (ap (names p) is ∙ eq-eqb p p refl)

  here_borne : IsBorne w.senders w.owner w.phase (w.sent p) (w.jobs p) (w.mail p) (w.note p) (w.serving p) p → IsBorne w.senders w.owner (upd w.phase s (phase_after_swap p (w.note p))) (w.sent p) (w.jobs p) (w.mail p) note.Pending (w.serving p) p
  here_borne b = record {
    open_once = λ not_closed. let m = count_moved w.senders w.phase s (phase.Owing p) (phase_after_swap p (w.note p)) near is (is_messenger_at p) in let once = b.open_once not_closed in let n = to.brings in omega arith;
    closed = λ c. record { waits = (b.closed c).waits; got = (b.closed c).got; not_received = λ some is. cc };
  }

-- a messenger is that of some place
pub messenger_of : (ph : Phase) → IsTrue (is_messenger ph) → (p : ℕ) × (ph ≡ phase.Messenger p)
messenger_of (phase.Messenger p) is = (p, refl)
messenger_of phase.Idle is = absurd (cc)
messenger_of phase.Referenced is = absurd (cc)
messenger_of (phase.Holding p) is = absurd (cc)
messenger_of (phase.Put p) is = absurd (cc)
messenger_of (phase.Owing p) is = absurd (cc)

-- the messenger of p puts its notice into the mailbox
adds : (w : WorldState) (s p : ℕ) → Sound w → s < w.senders → w.phase s ≡ phase.Messenger p → Sound (record w { mail = upd w.mail p true; mail_note = note.Pending; phase = upd w.phase s phase.Referenced })
adds w s p o near is = record {
  refs = refs_moved w.senders w.phase s (phase.Messenger p) phase.Referenced near is w.refs w.refs w.owner refl o.refs;
  engaged = engaged_moved w.senders w.phase s (phase.Messenger p) phase.Referenced near is w.places w.uses (λ q at. omega arith) o.engaged;
  announced = λ q at. announced_moved w.senders w.phase s (phase.Messenger p) phase.Referenced near is (w.sent q) (w.jobs q) (w.note q) (w.serving q) q (omega arith) (o.announced q at);
  borne = λ q at. upd_case w.mail p true (λ k m. IsBorne w.senders w.owner (upd w.phase s phase.Referenced) (w.sent k) (w.jobs k) m (w.note k) (w.serving k) k) q
      (λ same. record { open_once = λ not_closed. here q at same; closed = λ c. absurd (not_closed c) })
      (λ ne. borne_moved w.senders w.phase s (phase.Messenger p) phase.Referenced near is w.owner (w.sent q) (w.jobs q) (w.mail q) (w.note q) (w.serving q) q (bit_elsewhere p q ne) (o.borne q at));
  served = o.served;
  closed = o.closed;
  jobs = o.jobs;
  lives = o.lives;
  mail = λ q at some. refl;
  turns = held_moved w.senders w.phase s (phase.Messenger p) phase.Referenced near is w.places w.turn w.sent (λ q at has. absurd (cc)) o.turns;
  notices = let m = count_moved w.senders w.phase s (phase.Messenger p) phase.Referenced near is is_notifying in let few = o.notices in let more = count_set_le w.mail p true w.places in omega arith;
} where
  some : 1 ≤ w.refs
  some = has_reference w s o near (ap is_idle is)

  not_closed : w.owner ≢ owner.Closed
  not_closed c = let none = o.closed c in let one = some in omega arith

  here : (q : ℕ) → q < w.places → q ≡ p → bearers w.senders (upd w.phase s phase.Referenced) true (w.serving q) q ≡ bit (is_pending (w.note q))
  here q at same =
      let m = count_moved w.senders w.phase s (phase.Messenger p) phase.Referenced near is (is_messenger_at q) in
      let one : bit (p == q) ≡ 1 = rw (eq-eqb p q (sym same)) refl in
      let once = (o.borne q at).open_once not_closed in
      let most = bit_le (is_pending (w.note q)) in omega arith

pub add_mail_keeps : (s : ℕ) → Keeps (event.AddMail s)
add_mail_keeps s w o e = let of = messenger_of (w.phase s) e.conditions in
    subst (λ (ph : Phase). Sound (record w { mail = mail_after_add ph w.mail; mail_note = note.Pending; phase = upd w.phase s phase.Referenced })) (sym of.1) (adds w s of.0 o e.there.sender of.1)

pub notifying_keeps : NotifyingKeeps
notifying_keeps = record { swap_note = swap_note_keeps; add_mail = add_mail_keeps }
