-- The owner's steps at a place, each of which is its event.
use Rattle.std.proofs.Common.{◌≡◌, ◌≢◌, ℕ, ◌+◌, ◌<◌, ◌≤◌, ◌==◌, Bool, true, false, Some, None, List, [], ◌∷◌, length, map, get_or, set, drop, refl, arith, ap, sym, subst, ◌∙◌, append-nil, length-drop, length-set}
use Rattle.std.specs.Prelude.{IsTrue}
use Rattle.std.proofs.lemmas.List.{get_or-set_same, get_or-set_other, length-map, set-get_or}
use mathlib.Core.Option.{some, some-ne-none}
use lib.ListN.{get_elem?}
use Rattle.atomic_table.specs.Table.{State, keeps, stepped}
use Rattle.task_ring.specs.Ring.{RingView}
use Rattle.proxy_laws.specs.declared.actors.Note.{Note}
use Rattle.proxy_laws.specs.declared.actors.Note.TheVariants as note
use Rattle.proxy_laws.specs.declared.actors.OwnerState.TheVariants as owner
use Rattle.proxy_laws.specs.declared.actors.Serving.{Serving}
use Rattle.proxy_laws.specs.declared.actors.Serving.TheVariants as serving
use Rattle.proxy_laws.specs.declared.events.Event.{Event}
use Rattle.proxy_laws.specs.declared.events.Event.TheVariants as event
use Rattle.proxy_laws.specs.declared.records.Mark.{Mark}
use Rattle.proxy_laws.specs.Events.{Enabled, world_after}
use Rattle.proxy_laws.specs.Maps.{upd}
use Rattle.proxy_laws.specs.Phases.{is_got, is_working, note_after_exchange, note_word, serving_after_look, serving_after_receive}
use Rattle.proxy_laws.specs.Worlds.{WorldState}
use Rattle.proxy_laws.proofs.Inductive.{event_keeps}
use Rattle.proxy_laws.proofs.Maps.{upd_case}
use Rattle.proxy_laws.proofs.WellFormed.{worlds_are_well_formed}
use Rattle.post_core.specs.declared.slots.Item.{Item}
use Rattle.post_core.specs.declared.views.Entry.{Entry}
use Rattle.post_core.specs.declared.views.OwnerView.{OwnerView}
use Rattle.post_core.specs.declared.views.View.{View}
use Rattle.post_core.specs.Kept.{listed}
use Rattle.post_core.specs.Records.{held_job}
use Rattle.post_core.specs.Rule.{IsEvent, OwnerFits, Shown, taken_in}
use Rattle.post_core.specs.ServingSteps.{at_serving, place_looked, place_received, serving_at}
use Rattle.post_core.specs.Views.{owner_of}
use Rattle.post_core.specs.Words.{WordsShow, note_at, put_at}
use Rattle.post_core.proofs.Frames.{owner_views}
use Rattle.post_core.proofs.Present.{keeps_same, there_set}
use Rattle.post_core.proofs.Sized.{sized_like}
use Rattle.post_core.proofs.Tallied.{tally_set}
use Rattle.post_core.proofs.Words.{set_note}

module _ {J M : Type 0} (meaning : J → M) (suits : ℕ → Mark → M → Type 0) (senders places : ℕ) (s : State (RingView (Item J)) (View M)) (r : Shown meaning suits senders places s) (id p : ℕ) (v : View M) (held : List (ℕ × RingView (Item J))) (at : get_elem? s.views id ≡ some v) (is_owner : v.owner ≡ Some (owner_of v)) (near : p < places) where
  abbrev w : WorldState
  w = r.world

  abbrev o : OwnerView M
  o = owner_of v

  of : OwnerFits w r.entries o
  of = ((r.views id v at).owner o is_owner).1

  inside : p < w.places
  inside = let a = r.sized.places_are in omega arith

  serving_here : w.serving p ≡ serving_at p v
  serving_here = of.does.serving_is p inside

  -- The owner comes to do something else at p, and the notes may change with it: the world shown, where the words fit.
  abbrev serves : (notes : ℕ → Note) (at_place at_place' : Serving) (v' : View M) (i x : ℕ) (e : Event) → at_place ≡ at_place' → (may : Enabled w e) → world_after w e ≡ record w { note = notes; serving = upd w.serving p at_place }
      → (o' : OwnerView M) → v'.owner ≡ Some o' → v'.passes ≡ v.passes → v'.seen ≡ v.seen → OwnerFits (record w { note = notes; serving = upd w.serving p at_place }) r.entries o'
      → WordsShow places w.refs w.turn w.sent (taken_in w) notes w.life w.mail (set s.words i x) → IsEvent meaning suits senders places s r e (stepped s i x id held v' keeps)
  serves notes at_place at_place' v' i x e same may after o' is passes seen fits words_now = let w' : WorldState = record w { note = notes; serving = upd w.serving p at_place } in (
    may,
    (
      record {
        world = w';
        entries = r.entries;
        seat = r.seat;
        chief = r.chief;
        sized = sized_like meaning suits senders places w w' refl refl (λ q t. refl) r.sized;
        sound = subst Rattle.proxy_laws.specs.Sound.Sound after (event_keeps e w r.sound may);
        formed = subst (λ (y : WorldState). Rattle.proxy_laws.specs.Worlds.IsWellFormed y) after (worlds_are_well_formed.kept w e r.formed may);
        marks = r.marks;
        suited = r.suited;
        words = words_now;
        mail_noted = r.mail_noted;
        slots = r.slots;
        views = owner_views w w' r.entries r.entries r.seat r.chief s.views r.views id v v' at (λ f so. so) [] (seen ∙ sym (append-nil v.seen)) (λ k f a. absurd (some-ne-none f (sym a))) o o' is_owner is passes
            (λ j pass f. record { near = f.near; sits = f.sits; does = f.does; turns = f.turns; owns = f.owns })
            fits;
        tally = tally_set senders places w.life s.views r.tally id v' (λ k q a. r.tally.each id v at k q (subst (λ ps. get_elem? ps k ≡ some q) passes a));
        there = there_set senders r.seat r.chief s.views r.there id v v' at (keeps_same v v' passes o' is);
      },
      sym after,
    ),
  )

  -- what the owner's view says, where it does something else at p
  fits_at : (notes : ℕ → Note) (at_place at_place' : Serving) → at_place ≡ at_place' → OwnerFits (record w { note = notes; serving = upd w.serving p at_place }) r.entries (owner_of (at_serving p at_place' v))
  fits_at notes at_place at_place' same = record {
    does = record {
      state_is = of.does.state_is;
      serving_is = λ q at_q. upd_case w.serving p at_place (λ k a. k ≡ q → a ≡ get_or (set o.serving p at_place') k serving.Away) q
          (λ here e. same ∙ (sym (get_or-set_same o.serving p at_place' serving.Away (let wide = of.does.serving_wide in let i = inside in omega arith)) ∙ ap (λ k. get_or (set o.serving p at_place') k serving.Away) (sym here)))
          (λ other e. of.does.serving_is q at_q ∙ sym (get_or-set_other o.serving p q at_place' serving.Away other))
          refl;
      serving_wide = length-set o.serving p at_place' ∙ of.does.serving_wide;
      got_is = of.does.got_is;
    };
    turns = record { turn_here = of.turns.turn_here; turn_held = of.turns.turn_held; ring_is = of.turns.ring_is };
    jobs = record { jobs_are = of.jobs.jobs_are; marks_are = of.jobs.marks_are; jobs_wide = of.jobs.jobs_wide };
    clears = record { clear = of.clears.clear; noticed = of.clears.noticed };
  }

  -- a load leaves the words
  words_same : (i : ℕ) → WordsShow places w.refs w.turn w.sent (taken_in w) w.note w.life w.mail (set s.words i (get_or s.words i 0))
  words_same i = subst (λ ws. WordsShow places w.refs w.turn w.sent (taken_in w) w.note w.life w.mail ws) (sym (set-get_or s.words i 0)) r.words

  -- Receive
  pub receives : IsTrue (is_got (serving_at p v)) → IsEvent meaning suits senders places s r (event.Receive p) (stepped s (note_at p) 2 id held (place_received p v) keeps)
  receives got = serves (upd w.note p note.Received) (serving_after_receive (w.serving p)) (serving_after_receive (serving_at p v)) (place_received p v) (note_at p) 2 (event.Receive p) (ap serving_after_receive serving_here)
      (record { there = record { sender = tt; place = inside }; conditions = subst (λ a. IsTrue (is_got a)) (sym serving_here) got })
      refl (owner_of (place_received p v)) refl refl refl
      (fits_at (upd w.note p note.Received) (serving_after_receive (w.serving p)) (serving_after_receive (serving_at p v)) (ap serving_after_receive serving_here))
      (set_note places w.refs w.turn w.sent (taken_in w) w.note w.life w.mail s.words r.sized.few_places r.words p 2 note.Received refl near)

  -- Direct
  pub begins_directly : ((q : ℕ) → get_or o.serving q serving.Away ≡ serving.Away) → IsEvent meaning suits senders places s r (event.Direct p) (stepped s (note_at p) (get_or s.words (note_at p) 0) id held (at_serving p serving.Direct v) keeps)
  begins_directly away = serves w.note serving.Direct serving.Direct (at_serving p serving.Direct v) (note_at p) (get_or s.words (note_at p) 0) (event.Direct p) refl
      (record { there = record { sender = tt; place = inside }; conditions = λ q at_q. of.does.serving_is q at_q ∙ away q })
      refl (owner_of (at_serving p serving.Direct v)) refl refl refl
      (fits_at w.note serving.Direct serving.Direct refl)
      (words_same (note_at p))

  -- LookPlace, by an owner that works at p with the turn, whose ring is empty
  module _ (turn_is : o.turn ≡ Some p) (works : IsTrue (is_working o.state (serving_at p v))) (ring_is : o.ring ≡ []) where
    long : length (listed o.jobs p) ≡ length (w.jobs p)
    long = let a = ap length (of.jobs.jobs_are p inside) in omega (arith, length-map (listed o.jobs p) held_job)

    over : length (w.sent p) ≤ length (w.jobs p)
    over = let a = ap length (sym (of.turns.ring_is p turn_is) ∙ ring_is) in let b = ap length (r.marks p) in omega (arith, length-drop (length (w.jobs p)) (r.entries p), length-map (r.entries p) (λ (x : Entry M). x.mark))

    all_taken : length (w.jobs p) ≡ length (w.sent p)
    all_taken = let a = over in let b = r.sound.jobs.taken p inside in omega arith

    pub found_is : get_or s.words (put_at p) 0 ≡ length (listed o.jobs p)
    found_is = r.words.put_is p near ∙ (sym all_taken ∙ sym long)

    fits_looked : OwnerFits (record w { serving = upd w.serving p (serving_after_look (w.serving p)) }) r.entries (owner_of (place_looked p v))
    fits_looked = let f = fits_at w.note (serving_after_look (w.serving p)) (serving_after_look (serving_at p v)) (ap serving_after_look serving_here) in record {
      does = record { state_is = f.does.state_is; serving_is = f.does.serving_is; serving_wide = f.does.serving_wide; got_is = f.does.got_is };
      turns = record { turn_here = f.turns.turn_here; turn_held = f.turns.turn_held; ring_is = f.turns.ring_is };
      jobs = record { jobs_are = f.jobs.jobs_are; marks_are = f.jobs.marks_are; jobs_wide = f.jobs.jobs_wide };
      clears = record { clear = f.clears.clear; noticed = f.clears.noticed };
    }

    pub looks_place : IsEvent meaning suits senders places s r (event.LookPlace p) (stepped s (put_at p) (get_or s.words (put_at p) 0) id held (place_looked p v) keeps)
    looks_place = serves w.note (serving_after_look (w.serving p)) (serving_after_look (serving_at p v)) (place_looked p v) (put_at p) (get_or s.words (put_at p) 0) (event.LookPlace p) (ap serving_after_look serving_here)
        (record { there = record { sender = tt; place = inside }; conditions = (((λ i. is_working (of.does.state_is i) (serving_here i)) ∙ works, (of.turns.turn_held p turn_is).1), all_taken) })
        refl (owner_of (place_looked p v)) refl refl refl
        fits_looked
        (words_same (put_at p))

    -- ResetPlace, by a closed owner
    pub resets_place : o.state ≡ owner.Closed → IsEvent meaning suits senders places s r (event.ResetPlace p) (stepped s (note_at p) 0 id held (at_serving p serving.Away v) keeps)
    resets_place closed = serves (upd w.note p note.None) serving.Away serving.Away (at_serving p serving.Away v) (note_at p) 0 (event.ResetPlace p) refl
        (record { there = record { sender = tt; place = inside }; conditions = (of.does.state_is ∙ closed, (of.does.state_is ∙ closed, not_away, over)) })
        refl (owner_of (at_serving p serving.Away v)) refl refl refl
        (fits_at (upd w.note p note.None) serving.Away serving.Away refl)
        (set_note places w.refs w.turn w.sent (taken_in w) w.note w.life w.mail s.words r.sized.few_places r.words p 0 note.None refl near)
      where
        not_away : w.serving p ≢ serving.Away
        not_away is = let b : false ≡ true = (λ i. is_working (sym closed i) ((sym is ∙ serving_here) i)) ∙ works in cc

  -- Finish, where the exchange won or not
  module _ (seen : serving_at p v ≡ serving.SeenEmpty) (no_turn : o.turn ≡ None) where
    may_finish : Enabled w (event.Finish p)
    may_finish = record {
      there = record { sender = tt; place = inside };
      conditions = (serving_here ∙ seen, λ is. let held_turn = of.turns.turn_here p inside is in let none = no_turn in cc);
    }

    -- the note is received exactly where its word is 2
    after_word : (n : Note) → note_word (note_after_exchange n) ≡ Rattle.std.proofs.Common.cond (note_word n == 2) 0 (note_word n)
    after_word note.None = refl
    after_word note.Pending = refl
    after_word note.Received = refl

    pub finishes : (x : ℕ) → x ≡ Rattle.std.proofs.Common.cond (get_or s.words (note_at p) 0 == 2) 0 (get_or s.words (note_at p) 0) → IsEvent meaning suits senders places s r (event.Finish p) (stepped s (note_at p) x id held (at_serving p serving.Away v) keeps)
    finishes x is = serves (upd w.note p (note_after_exchange (w.note p))) serving.Away serving.Away (at_serving p serving.Away v) (note_at p) x (event.Finish p) refl may_finish
        refl (owner_of (at_serving p serving.Away v)) refl refl refl
        (fits_at (upd w.note p (note_after_exchange (w.note p))) serving.Away serving.Away refl)
        (set_note places w.refs w.turn w.sent (taken_in w) w.note w.life w.mail s.words r.sized.few_places r.words p x (note_after_exchange (w.note p))
        (is ∙ (ap (λ n. Rattle.std.proofs.Common.cond (n == 2) 0 n) (r.words.note_is p near) ∙ sym (after_word (w.note p)))) near)
