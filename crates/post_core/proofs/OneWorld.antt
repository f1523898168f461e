-- A table shows one world: two that its rule has for one state say the same.
use Rattle.std.proofs.Common.{Bool, true, false, inl, inr, ◌≤◌, ◌==◌, if◌then◌else◌}
use Rattle.std.proofs.lemmas.Bool.{cases_lt}
use Rattle.proxy_laws.specs.Mailbox.{notices}
use Rattle.proxy_laws.specs.Maps.{bit}
use Rattle.proxy_laws.proofs.Maps.{sum_same}
use Rattle.proxy_laws.proofs.Numbers.{free_of_word, note_of_word}
use Rattle.proxy_laws.specs.Limits.{places_max}
use Rattle.post_core.specs.declared.slots.Item.{Item}
use Rattle.std.proofs.Common.{◌≡◌, ℕ, ◌<◌, Option, Some, None, List, [], ◌∷◌, length, map, get_or, refl, arith, ap, sym, subst, ◌∙◌}
use Rattle.std.specs.Prelude.{IsTrue, count_by}
use Rattle.std.proofs.lemmas.Bool.{eq-eqb}
use Rattle.std.proofs.lemmas.List.{ext_get_or, get_or-map, length-map}
use mathlib.Core.Option.{some}
use lib.ListN.{get_elem?}
use Rattle.atomic_table.specs.Table.{State}
use Rattle.task_ring.specs.Ring.{RingView}
use Rattle.proxy_laws.specs.declared.actors.Actor.{Actor}
use Rattle.proxy_laws.specs.declared.actors.Actor.TheVariants as actor
use Rattle.proxy_laws.specs.declared.actors.Note.TheVariants as note
use Rattle.proxy_laws.specs.declared.records.Mark.{Mark}
use Rattle.proxy_laws.specs.Lists.{is_by}
use Rattle.proxy_laws.specs.Phases.{has_turn_at, turn_word}
use Rattle.proxy_laws.specs.Worlds.{WorldState, SayTheSame}
use Rattle.post_core.specs.declared.views.Entry.{Entry}
use Rattle.post_core.specs.declared.views.View.{View}
use Rattle.post_core.specs.Kept.{kept_by, marks_of}
use Rattle.post_core.specs.Records.{no_mark, own_mark}
use Rattle.post_core.specs.Rule.{HasPass, OwnerFits, PassFits, Shown}
use Rattle.post_core.proofs.Ended.{counts_one}
use Rattle.post_core.proofs.Fills.{kept_right, kept_there}

module _ {J M : Type 0} (meaning : J → M) (suits : ℕ → Mark → M → Type 0) (senders places : ℕ) (s : State (RingView (Item J)) (View M)) (r r' : Shown meaning suits senders places s) where
  abbrev w : WorldState
  w = r.world

  abbrev w' : WorldState
  w' = r'.world

  near_in : (q : Shown meaning suits senders places s) (p : ℕ) → p < places → p < q.world.places
  near_in q p near = let e = q.sized.places_are in omega arith

  module _ (t : ℕ) (below : t < senders) where
    has : HasPass s.views (r.seat t) t
    has = r.there.passes t below

    one : PassFits w r.entries r.seat (r.seat t) has.pass
    one = (r.views (r.seat t) has.view has.at).passes has.place has.pass has.there

    two : PassFits w' r'.entries r'.seat (r.seat t) has.pass
    two = (r'.views (r.seat t) has.view has.at).passes has.place has.pass has.there

    same_phase : w.phase t ≡ w'.phase t
    same_phase = ap w.phase (sym has.number) ∙ (one.does.phase_is ∙ (sym two.does.phase_is ∙ ap w'.phase has.number))

    same_look : w.look t ≡ w'.look t
    same_look = ap w.look (sym has.number) ∙ (one.does.look_is ∙ (sym two.does.look_is ∙ ap w'.look has.number))

    same_uses : (p : ℕ) → p < places → w.uses t p ≡ w'.uses t p
    same_uses p near = ap (λ k. w.uses k p) (sym has.number) ∙ (one.does.uses_are p (near_in r p near) ∙ (sym (two.does.uses_are p (near_in r' p near)) ∙ ap (λ k. w'.uses k p) has.number))

    same_own : (p : ℕ) → p < places → kept_by t (r.entries p) ≡ kept_by t (r'.entries p)
    same_own p near = ap (λ k. kept_by k (r.entries p)) (sym has.number) ∙ (sym (one.owns.own_is p (near_in r p near)) ∙ (two.owns.own_is p (near_in r' p near) ∙ ap (λ k. kept_by k (r'.entries p)) has.number))

  owner_one : OwnerFits w r.entries r.there.owner.own
  owner_one = ((r.views r.chief r.there.owner.view r.there.owner.at).owner r.there.owner.own r.there.owner.is).1

  owner_two : OwnerFits w' r'.entries r.there.owner.own
  owner_two = ((r'.views r.chief r.there.owner.view r.there.owner.at).owner r.there.owner.own r.there.owner.is).1

  same_sent : (p : ℕ) → p < places → w.sent p ≡ w'.sent p
  same_sent p near = ext_get_or no_mark (w.sent p) (w'.sent p) wide (λ n inner. mark_is n inner) where
    wide : length (w.sent p) ≡ length (w'.sent p)
    wide = sym (r.words.put_is p near) ∙ r'.words.put_is p near

    mark_is : (n : ℕ) → n < length (w.sent p) → get_or (w.sent p) n no_mark ≡ get_or (w'.sent p) n no_mark
    mark_is n inner = of (r.entries p) refl where
      of : (es : List (Entry M)) → r.entries p ≡ es → get_or (w.sent p) n no_mark ≡ get_or (w'.sent p) n no_mark
      of [] is = absurd (let a = ap length (sym (r.marks p) ∙ ap marks_of is) in omega arith)
      of (e ∷ es) is =
          let long : n < length (r.entries p) = let a = ap length (r.marks p) in omega (arith, length-map (r.entries p) (λ (x : Entry M). x.mark)) in
          let t = (get_or (r.entries p) n e).mark.sender in
          let sent_is : get_or (w.sent p) n no_mark ≡ (get_or (r.entries p) n e).mark = ap (λ (ms : List Mark). get_or ms n no_mark) (sym (r.marks p)) ∙ get_or-map (λ (x : Entry M). x.mark) (r.entries p) n e no_mark long in
          let counted : 0 < count_by (is_by t) (w.sent p) = counts_one (is_by t) (w.sent p) n no_mark inner (eq-eqb (get_or (w.sent p) n no_mark).sender t (ap (λ (m : Mark). m.sender) sent_is)) in
          let below : t < senders = let a = r.formed.marks p t (near_in r p near) counted in let b = r.sized.senders_are in omega arith in
          let k = kept_there 0 t (r.entries p) n e long refl in
          let mine = kept_right 0 t (r.entries p) k.place k.mark k.at in
          let theirs = kept_right 0 t (r'.entries p) k.place k.mark (subst (λ ks. get_elem? (map own_mark ks) k.place ≡ some k.mark) (same_own t below p near) k.at) in
          let a : mine.place ≡ n = let x = mine.nth_is in let y = k.nth_is in omega arith in
          let b : theirs.place ≡ n = let x = theirs.nth_is in let y = k.nth_is in omega arith in
          let long' : n < length (r'.entries p) = let x = theirs.near in omega arith in
          let sent_is' : get_or (w'.sent p) n no_mark ≡ (get_or (r'.entries p) n e).mark = ap (λ (ms : List Mark). get_or ms n no_mark) (sym (r'.marks p)) ∙ get_or-map (λ (x : Entry M). x.mark) (r'.entries p) n e no_mark long' in
          sent_is ∙ (ap (λ i. (get_or (r.entries p) i e).mark) (sym a) ∙ (sym (mine.mark_is e) ∙ (theirs.mark_is e ∙ (ap (λ i. (get_or (r'.entries p) i e).mark) b ∙ sym sent_is'))))

  same_turn : (p : ℕ) → p < places → w.turn p ≡ w'.turn p
  same_turn p near = of (w.turn p) refl where
    of : (t : Option Actor) → w.turn p ≡ t → t ≡ w'.turn p
    of None is = sym (free_of_word (w'.turn p) (sym (r'.words.turn_is p near) ∙ (r.words.turn_is p near ∙ ap turn_word is)))
    of (Some actor.Owner) is = sym (owner_two.turns.turn_held p (owner_one.turns.turn_here p (near_in r p near) is)).1
    of (Some (actor.Sender t)) is =
        let below : t < senders = let a = r.formed.turns p t (near_in r p near) is in let b = r.sized.senders_are in omega arith in
        let h = has t below in
        let holds : IsTrue (has_turn_at p h.pass.phase) = (one t below).turns.turn_here p (near_in r p near) (is ∙ ap (λ k. Some (actor.Sender k)) (sym h.number)) in
        let holds' : IsTrue (has_turn_at p (w'.phase t)) = subst (λ ph. IsTrue (has_turn_at p ph)) (sym (two t below).does.phase_is ∙ ap w'.phase h.number) holds in
        sym (r'.sound.turns.held t p (let a = r'.sized.senders_are in omega arith) (near_in r' p near) holds')

  same_mail : (p : ℕ) → w.mail p ≡ w'.mail p
  same_mail p = elim (cases_lt p places_max) [
    | inl near ↦ same_bit (w.mail p) (w'.mail p) (sym (r.words.mail_is p near) ∙ r'.words.mail_is p near)
    | inr far ↦ unmailed r far (w.mail p) refl ∙ sym (unmailed r' far (w'.mail p) refl)
  ] where
    same_bit : (a b : Bool) → bit a ≡ bit b → a ≡ b
    same_bit true true e = refl
    same_bit true false e = absurd (omega arith)
    same_bit false true e = absurd (omega arith)
    same_bit false false e = refl

    unmailed : (q : Shown meaning suits senders places s) → places_max ≤ p → (b : Bool) → q.world.mail p ≡ b → b ≡ false
    unmailed q far true is = let near = q.formed.notices p is in let e = q.sized.places_are in let few = q.sized.few_places in absurd (omega arith)
    unmailed q far false is = refl

  same_count : notices w.places w.mail ≡ notices w'.places w'.mail
  same_count = sum_same w.places (λ p. bit (w.mail p)) (λ p. bit (w'.mail p)) (λ p at. ap bit (same_mail p)) ∙ ap (λ n. notices n w'.mail) (r.sized.places_are ∙ sym r'.sized.places_are)

  pub one_world : SayTheSame w w'
  one_world = record {
    senders = r.sized.senders_are ∙ sym r'.sized.senders_are;
    places = r.sized.places_are ∙ sym r'.sized.places_are;
    refs = sym r.words.refs_is ∙ r'.words.refs_is;
    owner = owner_one.does.state_is ∙ sym owner_two.does.state_is;
    sent = λ p at. same_sent p (there p at);
    jobs = λ p at. sym (owner_one.jobs.jobs_are p at) ∙ owner_two.jobs.jobs_are p (near_in r' p (there p at));
    note = λ p at. note_of_word (w.note p) (w'.note p) (sym (r.words.note_is p (there p at)) ∙ r'.words.note_is p (there p at));
    life = λ p at. sym (r.words.life_is p (there p at)) ∙ r'.words.life_is p (there p at);
    turn = λ p at. same_turn p (there p at);
    serving = λ p at. owner_one.does.serving_is p at ∙ sym (owner_two.does.serving_is p (near_in r' p (there p at)));
    mail = same_mail;
    mail_note = r.mail_noted ∙ (ap (λ n. if n == 0 then note.None else note.Pending) same_count ∙ sym r'.mail_noted);
    got = owner_one.does.got_is ∙ sym owner_two.does.got_is;
    phase = λ t near. same_phase t (known t near);
    look = λ t near. same_look t (known t near);
    uses = λ t p near at. same_uses t (known t near) p (there p at);
  } where
    there : (p : ℕ) → p < w.places → p < places
    there p at = let e = r.sized.places_are in omega arith

    known : (t : ℕ) → t < w.senders → t < senders
    known t near = let e = r.sized.senders_are in omega arith
