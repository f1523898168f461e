-- The events of references and puts keep a world sound.
use Rattle.std.proofs.Common.{◌≡◌, inl, inr, ℕ, ◌+◌, ◌-◌, ◌<◌, ◌≤◌, ◌==◌, Bool, true, false, cond, Some, None, List, [], ◌∷◌, ◌++◌, length, length-append, refl, arith, ap, sym, subst, ◌∙◌}
use Rattle.std.specs.Prelude.{not, IsTrue}
use Rattle.std.proofs.lemmas.Bool.{eqb-true, eq-eqb, ne_eqb, cases_eq, cases_lt}
use Rattle.proxy_laws.specs.declared.actors.Actor.{Actor}
use Rattle.proxy_laws.specs.declared.actors.Actor.TheVariants as actor
use Rattle.proxy_laws.specs.declared.actors.Phase.{Phase}
use Rattle.proxy_laws.specs.declared.actors.Phase.TheVariants as phase
use Rattle.proxy_laws.specs.declared.events.Event.TheVariants as event
use Rattle.proxy_laws.specs.Laws.{Keeps, ReferencesKeep}
use Rattle.proxy_laws.specs.declared.records.Mark.{Mark}
use Rattle.proxy_laws.specs.Lists.{next_mark}
use Rattle.proxy_laws.specs.Maps.{bit, upd}
use Rattle.proxy_laws.specs.Phases.{is_idle, names, has_turn_at, owes_note_at, is_notifying, phase_after_give}
use Rattle.proxy_laws.specs.Sound.{Sound, IsAnnounced, IsQuiet}
use Rattle.proxy_laws.specs.Starts.{AreNumbered}
use Rattle.proxy_laws.specs.Worlds.{WorldState}
use Rattle.std.proofs.Math.ListN.{get_or-append}
use Rattle.std.proofs.Math.Seq.{get_or-append_seam, take-append_seam}
use Rattle.std.proofs.lemmas.List.{take-append-le}
use Rattle.proxy_laws.proofs.Living.{saw_looks, looked_unused, named_lives}
use Rattle.proxy_laws.proofs.Maps.{upd_case, upd_here, sum_upd, term_le}
use Rattle.proxy_laws.proofs.Moved.{OwesTheSame, goes, count_moved, refs_moved, engaged_moved, announced_moved, borne_moved, held_moved, turn_moved, turned}

-- a sender that is not idle has a reference, so the owner is not closed
pub has_reference : (w : WorldState) (s : ℕ) → Sound w → s < w.senders → is_idle (w.phase s) ≡ false → 1 ≤ w.refs
has_reference w s o near busy = let one : bit (not (is_idle (w.phase s))) ≡ 1 = rw busy refl in let least = term_le w.senders (λ r. bit (not (is_idle (w.phase r)))) s near in let e = o.refs in omega arith

pub add_ref_keeps : (s : ℕ) → Keeps (event.AddRef s)
add_ref_keeps s w o e = let near : s < w.senders = e.there.sender in let is = e.conditions.0 in
    goes w s phase.Idle phase.Referenced (w.refs + 1) w.turn near is
    (record { owes = λ q. refl; brings = λ q. refl; notifies = refl })
    o
    (refs_moved w.senders w.phase s phase.Idle phase.Referenced near is w.refs (w.refs + 1) w.owner (omega arith) o.refs)
    (λ q at. omega arith)
    (λ c. let none = o.closed c in let some = e.conditions.1 in absurd (omega arith))
    (held_moved w.senders w.phase s phase.Idle phase.Referenced near is w.places w.turn w.sent (λ q at has. absurd (cc)) o.turns)

pub drop_ref_keeps : (s : ℕ) → Keeps (event.DropRef s)
drop_ref_keeps s w o e = let near : s < w.senders = e.there.sender in let is = e.conditions in
    let some = has_reference w s o near (ap is_idle is) in
    goes w s phase.Referenced phase.Idle (w.refs - 1) w.turn near is
    (record { owes = λ q. refl; brings = λ q. refl; notifies = refl })
    o
    (refs_moved w.senders w.phase s phase.Referenced phase.Idle near is w.refs (w.refs - 1) w.owner (omega arith) o.refs)
    (λ q at. omega arith)
    (λ c. let none = o.closed c in omega arith)
    (held_moved w.senders w.phase s phase.Referenced phase.Idle near is w.places w.turn w.sent (λ q at has. absurd (cc)) o.turns)

-- what a sender keeps and loses that gives the turn of p back
pub record GivesBack (p : ℕ) (old new : Phase) : Type 0 where
  pub same : OwesTheSame old new
  pub idle : bit (not (is_idle old)) ≡ bit (not (is_idle new))
  pub there : (q : ℕ) → bit (names q new) ≤ bit (names q old)
  pub keeps : (q : ℕ) → IsTrue (has_turn_at q new) → IsTrue (has_turn_at q old)
  pub loses : IsTrue (has_turn_at p new) → ⊥

gives_same : (p : ℕ) (ph : Phase) → (IsTrue (has_turn_at p ph) → ⊥) → GivesBack p ph ph
gives_same p ph loses = record {
  same = record { owes = λ q. refl; brings = λ q. refl; notifies = refl };
  idle = refl;
  there = λ q. omega arith;
  keeps = λ q has. has;
  loses = loses;
}

gives_holding : (p q : ℕ) (b : Bool) → (q == p) ≡ b → GivesBack p (phase.Holding q) (cond b phase.Referenced (phase.Holding q))
gives_holding p q true is = record {
  same = record { owes = λ r. refl; brings = λ r. refl; notifies = refl };
  idle = refl;
  there = λ r. omega arith;
  keeps = λ r has. absurd (cc);
  loses = λ has. cc;
}
gives_holding p q false is = gives_same p (phase.Holding q) (λ has. cc)

gives_put : (p q : ℕ) (b : Bool) → (q == p) ≡ b → GivesBack p (phase.Put q) (cond b (phase.Owing q) (phase.Put q))
gives_put p q true is = record {
  same = record { owes = λ r. refl; brings = λ r. refl; notifies = refl };
  idle = refl;
  there = λ r. omega arith;
  keeps = λ r has. absurd (cc);
  loses = λ has. cc;
}
gives_put p q false is = gives_same p (phase.Put q) (λ has. cc)

pub gives_back : (p : ℕ) (ph : Phase) → GivesBack p ph (phase_after_give p ph)
gives_back p (phase.Holding q) = gives_holding p q (q == p) refl
gives_back p (phase.Put q) = gives_put p q (q == p) refl
gives_back p phase.Idle = gives_same p phase.Idle (λ has. cc)
gives_back p phase.Referenced = gives_same p phase.Referenced (λ has. cc)
gives_back p (phase.Owing q) = gives_same p (phase.Owing q) (λ has. cc)
gives_back p (phase.Messenger q) = gives_same p (phase.Messenger q) (λ has. cc)

-- a use of p is enough for a sender that is at p
pub engages_one : (p q : ℕ) (uses : ℕ → ℕ) → 0 < uses p → bit (p == q) ≤ uses q
engages_one p q uses some = elim (cases_eq p q) [
  | inl same ↦ rw (eq-eqb p q same, ← same) (omega arith)
  | inr ne ↦ rw (ne_eqb p q ne) (omega arith)
]

sender_takes_place_keeps : (s p : ℕ) → Keeps (event.TakePlace (actor.Sender s) p)
sender_takes_place_keeps s p w o e = let near : s < w.senders = e.there.sender in let is = e.conditions.0.0 in let free = e.conditions.1 in
    goes w s phase.Referenced (phase.Holding p) w.refs (upd w.turn p (Some (actor.Sender s))) near is
    (record { owes = λ q. refl; brings = λ q. refl; notifies = refl })
    o
    (refs_moved w.senders w.phase s phase.Referenced (phase.Holding p) near is w.refs w.refs w.owner refl o.refs)
    (λ q at. engages_one p q (w.uses s) (let has = e.conditions.0.1 in omega arith))
    o.closed
    (held_moved w.senders w.phase s phase.Referenced (phase.Holding p) near is w.places (upd w.turn p (Some (actor.Sender s))) w.sent
    (λ q at has. rw (← (eqb-true p q has)) (upd_here w.turn p (Some (actor.Sender s))))
    (turn_moved w.senders w.places w.turn w.sent w.phase p (Some (actor.Sender s)) (λ r there has. let h = o.turns.held r p there e.there.place has in absurd (cc)) o.turns))

owner_takes_place_keeps : (p : ℕ) → Keeps (event.TakePlace actor.Owner p)
owner_takes_place_keeps p w o e = turned w p (Some actor.Owner) (λ r there has. let h = o.turns.held r p there e.there.place has in let free = e.conditions.1 in absurd (cc)) o

sender_gives_place_keeps : (s p : ℕ) → Keeps (event.GivePlace (actor.Sender s) p)
sender_gives_place_keeps s p w o e = let near : s < w.senders = e.there.sender in let is = e.conditions in let g = gives_back p (w.phase s) in
    goes w s (w.phase s) (phase_after_give p (w.phase s)) w.refs (upd w.turn p None) near refl g.same o
    (refs_moved w.senders w.phase s (w.phase s) (phase_after_give p (w.phase s)) near refl w.refs w.refs w.owner (let i = g.idle in omega arith) o.refs)
    (λ q at. let a = g.there q in let b = o.engaged s q near at in omega arith)
    o.closed
    (turn_moved w.senders w.places w.turn w.sent (upd w.phase s (phase_after_give p (w.phase s))) p None
    (λ r there has. absurd (upd_case w.phase s (phase_after_give p (w.phase s)) (λ k ph. k < w.senders → IsTrue (has_turn_at p ph) → ⊥) r
    (λ same in_range at. g.loses at)
    (λ ne in_range at. let h = o.turns.held r p in_range e.there.place at in ne (cc))
    there has))
    (held_moved w.senders w.phase s (w.phase s) (phase_after_give p (w.phase s)) near refl w.places w.turn w.sent (λ q at has. o.turns.held s q near at (g.keeps q has)) o.turns))

owner_gives_place_keeps : (p : ℕ) → Keeps (event.GivePlace actor.Owner p)
owner_gives_place_keeps p w o e = turned w p None (λ r there has. let h = o.turns.held r p there e.there.place has in let is = e.conditions in absurd (cc)) o

pub take_place_keeps : (who : Actor) (p : ℕ) → Keeps (event.TakePlace who p)
take_place_keeps (actor.Sender s) p = sender_takes_place_keeps s p
take_place_keeps actor.Owner p = owner_takes_place_keeps p

pub give_place_keeps : (who : Actor) (p : ℕ) → Keeps (event.GivePlace who p)
give_place_keeps (actor.Sender s) p = sender_gives_place_keeps s p
give_place_keeps actor.Owner p = owner_gives_place_keeps p

-- a mark of s more, with the number of its earlier ones
numbered_push : (marks : List Mark) (s tag : ℕ) → AreNumbered marks → AreNumbered (marks ++ next_mark marks s tag ∷ [])
numbered_push marks s tag o n d near = elim (cases_lt n (length marks)) [
  | inl before ↦ rw (get_or-append marks (next_mark marks s tag ∷ []) d n before, take-append-le n marks (next_mark marks s tag ∷ []) (omega arith)) (o n d before)
  | inr past ↦ let last : n ≡ length marks = omega (arith, length-append marks (next_mark marks s tag ∷ [])) in
      rw (last, get_or-append_seam marks (next_mark marks s tag) [] d, take-append_seam marks (next_mark marks s tag ∷ [])) refl
]

pub put_keeps : (s p tag : ℕ) → Keeps (event.Put s p tag)
put_keeps s p tag w o e = record {
  refs = refs_moved w.senders w.phase s (phase.Holding p) (phase.Put p) near is w.refs w.refs w.owner refl o.refs;
  engaged = engaged_moved w.senders w.phase s (phase.Holding p) (phase.Put p) near is w.places w.uses (λ q at. let a = o.engaged s q near at in subst (λ ph. bit (names q ph) ≤ w.uses s q) is a) o.engaged;
  announced = λ q at. upd_case w.sent p marks (λ k ms. IsAnnounced w.senders (upd w.phase s (phase.Put p)) ms (w.jobs k) (w.note k) (w.serving k) k) q
      (λ same waits. let m = count_moved w.senders w.phase s (phase.Holding p) (phase.Put p) near is (owes_note_at q) in let one : bit (p == q) ≡ 1 = rw (eq-eqb p q (sym same)) refl in omega arith)
      (λ ne. announced_moved w.senders w.phase s (phase.Holding p) (phase.Put p) near is (w.sent q) (w.jobs q) (w.note q) (w.serving q) q (omega arith) (o.announced q at));
  borne = λ q at. let b = borne_moved w.senders w.phase s (phase.Holding p) (phase.Put p) near is w.owner (w.sent q) (w.jobs q) (w.mail q) (w.note q) (w.serving q) q refl (o.borne q at) in record {
    open_once = b.open_once;
    closed = λ c. let none = o.closed c in absurd (omega (arith, some));
  };
  served = o.served;
  closed = o.closed;
  jobs = record {
    taken = λ q at. upd_case w.sent p marks (λ k ms. length (w.jobs k) ≤ length ms) q (λ same. let t = o.jobs.taken p place in rw same (omega (arith, longer))) (λ ne. o.jobs.taken q at);
    each = o.jobs.each;
    in_order = o.jobs.in_order;
    one_place = o.jobs.one_place;
    phase_got = o.jobs.phase_got;
  };
  lives = record {
    used = o.lives.used;
    looked = o.lives.looked;
    free = λ q at dead. upd_case w.sent p marks (λ k ms. IsQuiet w.owner ms (w.jobs k) (w.note k)) q (λ same. let same_life = ap w.life same in absurd (omega (arith, lives))) (λ ne. o.lives.free q at dead);
    saw_none = λ t q there at saw. upd_case w.sent p marks (λ k ms. IsQuiet w.owner ms (w.jobs k) (w.note k)) q
        (λ same. let unused = looked_unused w t q o there at (saw_looks q (w.look t) saw) in let same_life = ap w.life same in absurd (omega (arith, lives)))
        (λ ne. o.lives.saw_none t q there at saw);
    one_user = o.lives.one_user;
  };
  mail = o.mail;
  turns = record {
    held = (held_moved w.senders w.phase s (phase.Holding p) (phase.Put p) near is w.places w.turn w.sent (λ q at has. o.turns.held s q near at (subst (λ ph. IsTrue (has_turn_at q ph)) (sym is) has)) o.turns).held;
    numbered = λ q at. upd_case w.sent p marks (λ k ms. AreNumbered ms) q (λ same. numbered_push (w.sent p) s tag (o.turns.numbered p place)) (λ ne. o.turns.numbered q at);
  };
  notices = let m = count_moved w.senders w.phase s (phase.Holding p) (phase.Put p) near is is_notifying in let sum = sum_upd w.sent p marks (λ ms. length ms) w.places place in let few = o.notices in omega (arith, longer);
} where
  near : s < w.senders
  near = e.there.sender

  place : p < w.places
  place = e.there.place

  is : w.phase s ≡ phase.Holding p
  is = e.conditions

  marks : List Mark
  marks = w.sent p ++ next_mark (w.sent p) s tag ∷ []

  longer : length (w.sent p ++ next_mark (w.sent p) s tag ∷ []) ≡ length (w.sent p) + 1
  longer = length-append (w.sent p) (next_mark (w.sent p) s tag ∷ [])

  some : 1 ≤ w.refs
  some = has_reference w s o near (ap is_idle is)

  lives : 3 ≤ w.life p
  lives = named_lives w s p o near place (ap (names p) is ∙ eq-eqb p p refl)

pub references_keep : ReferencesKeep
references_keep = record {
  load_refs = λ s w o e. o;
  add_ref = add_ref_keeps;
  drop_ref = drop_ref_keeps;
  take_place = take_place_keeps;
  put = put_keeps;
  give_place = give_place_keeps;
  split = λ who w o e. o;
}
