-- A target's world names only its own senders and places, whatever comes.
use Rattle.std.proofs.Common.{◌≡◌, ℕ, ◌+◌, ◌-◌, ◌<◌, ◌==◌, Bool, true, false, cond, Option, Some, None, List, [], ◌∷◌, ◌++◌, count_by, refl, arith, ap, sym, subst, ◌∙◌}
use Rattle.std.specs.Prelude.{IsTrue, if◌then◌else◌}
use Rattle.std.proofs.lemmas.Bool.{eqb-true, eq-eqb}
use Rattle.std.proofs.lemmas.Bool.Decides.{nat_tests}
use Rattle.std.proofs.lemmas.List.Sums.{sum_by_push}
use Rattle.proxy_laws.specs.declared.actors.Actor.{Actor}
use Rattle.proxy_laws.specs.declared.actors.Actor.TheVariants as actor
use Rattle.proxy_laws.specs.declared.actors.Look.{Look}
use Rattle.proxy_laws.specs.declared.actors.Look.TheVariants as look
use Rattle.proxy_laws.specs.declared.actors.Phase.{Phase}
use Rattle.proxy_laws.specs.declared.actors.Phase.TheVariants as phase
use Rattle.proxy_laws.specs.declared.events.Event.{Event}
use Rattle.proxy_laws.specs.declared.events.Event.TheVariants as event
use Rattle.proxy_laws.specs.declared.records.Mark.{Mark}
use Rattle.proxy_laws.specs.Events.{Enabled, world_after}
use Rattle.proxy_laws.specs.Laws.{WorldsAreWellFormed}
use Rattle.proxy_laws.specs.Lists.{is_by, next_mark}
use Rattle.proxy_laws.specs.Mailbox.{mail_after_add}
use Rattle.proxy_laws.specs.Maps.{bit, upd}
use Rattle.proxy_laws.specs.Phases.{names, looks_at, phase_after_swap, phase_after_give, look_after_release}
use Rattle.proxy_laws.specs.Worlds.{WorldState, IsWellFormed}
use Rattle.proxy_laws.proofs.Maps.{upd_case, passes}
use Rattle.proxy_laws.proofs.Notifying.{messenger_of, swaps}
use Rattle.proxy_laws.proofs.References.{gives_back}

-- one sender's phase changes
phase_set : (w : WorldState) (s : ℕ) (new : Phase) → IsWellFormed w → ((p : ℕ) → IsTrue (names p new) → p < w.places) → IsWellFormed (record w { phase = upd w.phase s new })
phase_set w s new o there = record {
  phases = λ r p near. upd_case w.phase s new (λ t ph. IsTrue (names p ph) → p < w.places) r (λ same. there p) (λ ne. o.phases r p near);
  looks = o.looks;
  turns = o.turns;
  notices = o.notices;
  marks = o.marks;
}

look_set : (w : WorldState) (s : ℕ) (new : Look) → IsWellFormed w → ((p : ℕ) → IsTrue (looks_at p new) → p < w.places) → IsWellFormed (record w { look = upd w.look s new })
look_set w s new o there = record {
  phases = o.phases;
  looks = λ r p near. upd_case w.look s new (λ t l. IsTrue (looks_at p l) → p < w.places) r (λ same. there p) (λ ne. o.looks r p near);
  turns = o.turns;
  notices = o.notices;
  marks = o.marks;
}

turn_set : (w : WorldState) (p : ℕ) (new : Option Actor) → IsWellFormed w → ((s : ℕ) → new ≡ Some (actor.Sender s) → s < w.senders) → IsWellFormed (record w { turn = upd w.turn p new })
turn_set w p new o there = record {
  phases = o.phases;
  looks = o.looks;
  turns = λ q s at. upd_case w.turn p new (λ r t. t ≡ Some (actor.Sender s) → s < w.senders) q (λ same. there s) (λ ne. o.turns q s at);
  notices = o.notices;
  marks = o.marks;
}

mail_set : (w : WorldState) (new : ℕ → Bool) → IsWellFormed w → ((p : ℕ) → IsTrue (new p) → p < w.places) → IsWellFormed (record w { mail = new })
mail_set w new o there = record { phases = o.phases; looks = o.looks; turns = o.turns; notices = there; marks = o.marks }

marks_set : (w : WorldState) (p : ℕ) (new : List Mark) → IsWellFormed w → ((s : ℕ) → 0 < count_by (is_by s) new → s < w.senders) → IsWellFormed (record w { sent = upd w.sent p new })
marks_set w p new o there = record {
  phases = o.phases;
  looks = o.looks;
  turns = o.turns;
  notices = o.notices;
  marks = λ q s at. upd_case w.sent p new (λ r ms. 0 < count_by (is_by s) ms → s < w.senders) q (λ same. there s) (λ ne. o.marks q s at);
}

near_added : (senders s t old new : ℕ) → new ≡ old + (if t == s then 1 else 0) → t < senders → (0 < old → s < senders) → 0 < new → s < senders
near_added senders s t old new e near was some = grind (arith, nat_tests)

-- a phase or a look at p is at no other place
here : (places p : ℕ) → p < places → (q : ℕ) → IsTrue (p == q) → q < places
here places p near q is = subst (λ (x : ℕ). x < places) (eqb-true p q is) near

one_sender : (senders s : ℕ) → s < senders → (t : ℕ) → Some (actor.Sender s) ≡ Some (actor.Sender t) → t < senders
one_sender senders s near t same = let e : s ≡ t = cc in subst (λ (x : ℕ). x < senders) e near

gives_place : (w : WorldState) (s p : ℕ) → IsWellFormed w → s < w.senders → IsWellFormed (record w { turn = upd w.turn p None; phase = upd w.phase s (phase_after_give p (w.phase s)) })
gives_place w s p o near =
    turn_set (record w { phase = upd w.phase s (phase_after_give p (w.phase s)) }) p None
    (phase_set w s (phase_after_give p (w.phase s)) o (λ q is. let less = (gives_back p (w.phase s)).there q in let one : bit (names q (phase_after_give p (w.phase s))) ≡ 1 = rw is refl in o.phases s q near (passes (names q (w.phase s)) (omega arith))))
    (λ t is. absurd (cc))

swaps_note : (w : WorldState) (s p : ℕ) → IsWellFormed w → p < w.places → IsWellFormed (record w { phase = upd w.phase s (phase_after_swap p (w.note p)) })
swaps_note w s p o near = phase_set w s (phase_after_swap p (w.note p)) o (λ q is. let less = (swaps p (w.note p)).there q in let one : bit (names q (phase_after_swap p (w.note p))) ≡ 1 = rw is refl in here w.places p near q (passes (p == q) (omega arith)))

puts : (w : WorldState) (s p tag : ℕ) → IsWellFormed w → s < w.senders → p < w.places → IsWellFormed (record w { sent = upd w.sent p (w.sent p ++ next_mark (w.sent p) s tag ∷ []); phase = upd w.phase s (phase.Put p) })
puts w s p tag o near place =
    marks_set (record w { phase = upd w.phase s (phase.Put p) }) p (w.sent p ++ next_mark (w.sent p) s tag ∷ [])
    (phase_set w s (phase.Put p) o (here w.places p place))
    (λ t some. near_added w.senders t s (count_by (is_by t) (w.sent p)) _ (sum_by_push (λ m. cond (is_by t m) 1 0) (w.sent p) (next_mark (w.sent p) s tag)) near (o.marks p t place) some)

adds_mail : (w : WorldState) (s p : ℕ) → IsWellFormed w → s < w.senders → w.phase s ≡ phase.Messenger p → IsWellFormed (record w { mail = upd w.mail p true; phase = upd w.phase s phase.Referenced })
adds_mail w s p o near is =
    mail_set (record w { phase = upd w.phase s phase.Referenced }) (upd w.mail p true)
    (phase_set w s phase.Referenced o (λ q is. absurd (cc)))
    (λ q. upd_case w.mail p true (λ r b. IsTrue b → r < w.places) q (λ same some. rw same place) (λ ne. o.notices q))
  where
    place : p < w.places
    place = o.phases s p near (ap (names p) is ∙ eq-eqb p p refl)

released : (w : WorldState) (s p : ℕ) → IsWellFormed w → s < w.senders → p < w.places → (life : ℕ) → IsWellFormed (record w { look = upd w.look s (look_after_release life p (w.look s)) })
released w s p o near place life = by_test (life == 2) where
  by_test : (b : Bool) → IsWellFormed (record w { look = upd w.look s (cond b (look.At p) (w.look s)) })
  by_test true = look_set w s (look.At p) o (here w.places p place)
  by_test false = look_set w s (w.look s) o (λ q. o.looks s q near)

stays_well_formed : (w : WorldState) (e : Event) → IsWellFormed w → Enabled w e → IsWellFormed (world_after w e)
stays_well_formed w (event.AddRef s) o e = phase_set w s phase.Referenced o (λ p is. absurd (cc))
stays_well_formed w (event.DropRef s) o e = phase_set w s phase.Idle o (λ p is. absurd (cc))
stays_well_formed w (event.TakePlace (actor.Sender s) p) o e =
    turn_set (record w { phase = upd w.phase s (phase.Holding p) }) p (Some (actor.Sender s)) (phase_set w s (phase.Holding p) o (here w.places p e.there.place)) (one_sender w.senders s e.there.sender)
stays_well_formed w (event.TakePlace actor.Owner p) o e = turn_set w p (Some actor.Owner) o (λ s is. absurd (cc))
stays_well_formed w (event.Put s p tag) o e = puts w s p tag o e.there.sender e.there.place
stays_well_formed w (event.GivePlace (actor.Sender s) p) o e = gives_place w s p o e.there.sender
stays_well_formed w (event.GivePlace actor.Owner p) o e = turn_set w p None o (λ s is. absurd (cc))
stays_well_formed w (event.SwapNote s p) o e = swaps_note w s p o e.there.place
stays_well_formed w (event.AddMail s) o e = let of = messenger_of (w.phase s) e.conditions in
    subst (λ (ph : Phase). IsWellFormed (record w { mail = mail_after_add ph w.mail; phase = upd w.phase s phase.Referenced })) (sym of.1) (adds_mail w s of.0 o e.there.sender of.1)
stays_well_formed w (event.TakeNotice p) o e = mail_set w (upd w.mail p false) o (λ q. upd_case w.mail p false (λ r b. IsTrue b → r < w.places) q (λ same some. absurd (cc)) (λ ne. o.notices q))
stays_well_formed w (event.ReleaseUse s p) o e = released w s p o e.there.sender e.there.place (w.life p - 1)
stays_well_formed w (event.Claim s p) o e = look_set w s (look.At p) o (here w.places p e.there.place)
stays_well_formed w (event.LookNote s p) o e = look_set w s (look.Saw p (w.note p)) o (here w.places p e.there.place)
stays_well_formed w (event.MarkLife s p) o e = look_set w s look.Nowhere o (λ q is. absurd (cc))
stays_well_formed w _ o e = o

pub worlds_are_well_formed : WorldsAreWellFormed
worlds_are_well_formed = record {
  opening = λ senders places. record {
    phases = λ s p near is. absurd (cc);
    looks = λ s p near is. absurd (cc);
    turns = λ p s at is. absurd (cc);
    notices = λ p some. absurd (cc);
    marks = λ p s at some. absurd (omega arith);
  };
  kept = stays_well_formed;
}
