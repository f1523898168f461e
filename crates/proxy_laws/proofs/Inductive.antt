-- Every event keeps a world sound, so every run does.
use Rattle.std.proofs.Common.{◌≡◌, inl, ℕ, ◌+◌, ◌-◌, ◌<◌, ◌≤◌, ◌≢◌, ◌==◌, Bool, true, false, ◌&&◌, ap, [], ◌∷◌, refl, arith, sym, subst}
use Rattle.std.specs.Prelude.{nat_lt, not, if◌then◌else◌}
use Rattle.std.proofs.lemmas.Bool.{lt-ltb, ne_eqb}
use Rattle.proxy_laws.specs.declared.actors.Look.TheVariants as look
use Rattle.proxy_laws.specs.declared.actors.Phase.{Phase}
use Rattle.proxy_laws.specs.declared.actors.Phase.TheVariants as phase
use Rattle.proxy_laws.specs.declared.events.Event.{Event}
use Rattle.proxy_laws.specs.declared.events.Event.TheVariants as event
use Rattle.proxy_laws.specs.Events.{world_after}
use Rattle.proxy_laws.specs.Laws.{Keeps, OpeningIsSound, RunsKeepSound}
use Rattle.proxy_laws.specs.Maps.{bit, sum_below, count_below}
use Rattle.proxy_laws.specs.Phases.{is_idle, is_messenger_at, is_notifying, looks_at}
use Rattle.proxy_laws.specs.Sound.{Sound}
use Rattle.proxy_laws.proofs.Closing.{closing_keeps}
use Rattle.proxy_laws.proofs.Executing.{serving_keeps}
use Rattle.proxy_laws.proofs.Maps.{sum_zero, sum_ones}
use Rattle.proxy_laws.proofs.Notifying.{notifying_keeps}
use Rattle.proxy_laws.proofs.References.{references_keep}
use Rattle.proxy_laws.proofs.Using.{lives_keep}

pub event_keeps : (e : Event) → Keeps e
event_keeps (event.LoadRefs s) = references_keep.load_refs s
event_keeps (event.AddRef s) = references_keep.add_ref s
event_keeps (event.DropRef s) = references_keep.drop_ref s
event_keeps (event.TakePlace who p) = references_keep.take_place who p
event_keeps (event.Put s p tag) = references_keep.put s p tag
event_keeps (event.GivePlace who p) = references_keep.give_place who p
event_keeps (event.SwapNote s p) = notifying_keeps.swap_note s p
event_keeps (event.AddMail s) = notifying_keeps.add_mail s
event_keeps (event.LookMail word) = serving_keeps.look_mail word
event_keeps (event.TakeNotice p) = serving_keeps.take_notice p
event_keeps (event.Receive p) = serving_keeps.receive p
event_keeps (event.Direct p) = serving_keeps.direct p
event_keeps (event.TakeJob p) = serving_keeps.take_job p
event_keeps (event.LookPlace p) = serving_keeps.look_place p
event_keeps (event.Finish p) = serving_keeps.finish p
event_keeps (event.SettleFinished p n) = closing_keeps.settle_finished p n
event_keeps (event.SettleCancelled p n) = closing_keeps.settle_cancelled p n
event_keeps event.DropOwn = closing_keeps.drop_own
event_keeps event.LookClosed = closing_keeps.look_closed
event_keeps (event.ResetPlace p) = closing_keeps.reset_place p
event_keeps (event.Create s p) = lives_keep.create s p
event_keeps (event.CloneUse s p) = lives_keep.clone_use s p
event_keeps (event.ReleaseUse s p) = lives_keep.release_use s p
event_keeps (event.Claim s p) = lives_keep.claim s p
event_keeps (event.LookNote s p) = lives_keep.look_note s p
event_keeps (event.MarkLife s p) = lives_keep.mark_life s p
event_keeps (event.Split who) = references_keep.split who
event_keeps (event.Join s) = closing_keeps.join s

pub runs_keep_sound : RunsKeepSound
runs_keep_sound w [] end sound led = subst Sound (sym led) sound
runs_keep_sound w (e ∷ events) end sound led = runs_keep_sound (world_after w e) events end (event_keeps e w sound led.0) led.1

-- each sender has one use of place 0
uses_opened : (senders p : ℕ) → sum_below senders (λ s. if nat_lt s senders && (p == 0) then 1 else 0) ≡ (if p == 0 then senders + 2 else 0) - 2
uses_opened senders p = by_place (p == 0) where
  by_place : (b : Bool) → sum_below senders (λ s. if nat_lt s senders && b then 1 else 0) ≡ (if b then senders + 2 else 0) - 2
  by_place true = let all = sum_ones senders (λ s. if nat_lt s senders && true then 1 else 0) (λ s near. rw (lt-ltb s senders near) refl) in omega arith
  by_place false = sum_zero senders (λ s. if nat_lt s senders && false then 1 else 0) (λ s near. rw (lt-ltb s senders near) refl)

-- and its life says that nobody looks at it
unlooked_opened : (senders p : ℕ) → 1 ≤ senders → bit ((if p == 0 then senders + 2 else 0) == 2) ≡ 0
unlooked_opened senders p some = by_place (p == 0) where
  by_place : (b : Bool) → bit ((if b then senders + 2 else 0) == 2) ≡ 0
  by_place true = rw (ne_eqb (senders + 2) 2 (omega arith)) refl
  by_place false = refl

-- only place 0 has uses
used_opened : (senders s p : ℕ) → p ≢ 0 → 0 < (if nat_lt s senders && (p == 0) then 1 else 0) → ⊥
used_opened senders s p ne = by_tests (nat_lt s senders) (p == 0) (ne_eqb p 0 ne) where
  by_tests : (a b : Bool) → b ≡ false → 0 < (if a && b then 1 else 0) → ⊥
  by_tests true true other some = cc
  by_tests true false other some = omega arith
  by_tests false b other some = omega arith

pub opening_is_sound : OpeningIsSound
opening_is_sound senders places some = record {
  refs = let none = nobody (λ ph. not (is_idle ph)) refl in omega arith;
  engaged = λ s p near at. omega arith;
  announced = λ p at waits. absurd (omega arith);
  borne = λ p at. record { open_once = λ ne. let none = nobody (is_messenger_at p) refl in omega arith; closed = λ is. absurd (cc) };
  served = λ p at. record { received = λ is. absurd (cc); none = λ ne is. inl refl };
  closed = λ is. absurd (cc);
  jobs = record {
    taken = λ p at. omega arith;
    each = λ p at n d near. absurd (omega arith);
    in_order = λ p at i j d lt near. absurd (omega arith);
    one_place = λ p q k at_p at_q is_p is_q. absurd (cc);
    phase_got = λ p k at is. absurd (cc);
  };
  lives = record {
    used = λ p at. uses_opened senders p;
    looked = λ p at. let none = sum_zero senders (λ s. bit (looks_at p look.Nowhere)) (λ s near. refl) in let unlooked = unlooked_opened senders p some in omega arith;
    free = λ p at dead. record { none_waits = omega arith; none_noted = λ ne. refl };
    saw_none = λ s p near at saw. absurd (cc);
    one_user = λ s t p near_s near_t at ne of_s of_t. absurd (used_opened senders s p ne of_s);
  };
  mail = λ p at some. absurd (cc);
  turns = record { held = λ s p near at has. absurd (cc); numbered = λ p at n d near. absurd (omega arith) };
  notices = let none = nobody is_notifying refl in let empty = sum_zero places (λ p. 0) (λ p at. refl) in omega arith;
} where
  nobody : (t : Phase → Bool) → t phase.Idle ≡ false → count_below senders (λ s. t phase.Idle) ≡ 0
  nobody t is = sum_zero senders (λ s. bit (t phase.Idle)) (λ s near. ap bit is)
