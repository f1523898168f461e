-- The steps of a send that does not wait: what the table asks of each.
use Rattle.post_core.specs.declared.slots.Item.{Item}
use Rattle.task_ring.specs.Ring.{RingView}
use Rattle.std.proofs.Common.{◌≡◌, ◌≢◌, ℕ, ◌+◌, ◌<◌, ◌≤◌, ◌==◌, Option, Some, None, List, [], ◌∷◌, ◌++◌, get_or, set, slice_index, refl, arith, ap, sym, subst, ◌∙◌, append-nil}
use Rattle.std.specs.Prelude.{IfOk, Result, Ok, Err}
use Rattle.std.proofs.lemmas.List.{set-get_or}
use mathlib.Core.Logic.{dite}
use mathlib.Core.Option.{none, some, some-ne-none}
use native.Mathlib.Decide.{ℕ_discrete}
use prog.Atomic.{either}
use lib.ListN.{get_elem?}
use Rattle.atomic_table.specs.Table.{Act, Allows, Me, State, Valid, carried_after, keeps, step, stepped, takes}
use Rattle.atomic_table.proofs.Lists.{exchanged}
use Rattle.proxy_laws.specs.declared.actors.Actor.{Actor}
use Rattle.proxy_laws.specs.declared.actors.Phase.{Phase}
use Rattle.proxy_laws.specs.declared.actors.Phase.TheVariants as phase
use Rattle.proxy_laws.specs.declared.events.Event.TheVariants as event
use Rattle.proxy_laws.specs.declared.records.Mark.{Mark}
use Rattle.proxy_laws.specs.declared.records.OwnMark.{OwnMark}
use Rattle.proxy_laws.specs.Events.{Enabled}
use Rattle.proxy_laws.specs.Phases.{turn_word}
use Rattle.proxy_laws.specs.Worlds.{WorldState}
use Rattle.proxy_laws.proofs.Numbers.{free_of_word}
use Rattle.post_core.specs.declared.views.Entry.{Entry}
use Rattle.post_core.specs.declared.views.Exchange.{Exchange}
use Rattle.post_core.specs.declared.views.Fact.{Fact}
use Rattle.post_core.specs.declared.views.Fact.TheVariants as fact
use Rattle.post_core.specs.declared.views.PassView.{PassView}
use Rattle.post_core.specs.declared.views.View.{View}
use Rattle.post_core.specs.Parts.{IsPass}
use Rattle.post_core.specs.Rule.{IsSo, PassFits, Shown, taken_in}
use Rattle.post_core.specs.SendSteps.{IsNextAt, job_sent, none_seen, place_given, place_taken}
use Rattle.post_core.specs.Steps.{all_meant}
use Rattle.post_core.specs.TryLaws.{MissesRef, MissesTurn}
use Rattle.post_core.specs.TrySteps.{exchange_failed, tried_ref, tried_turn}
use Rattle.post_core.specs.Views.{IsPassView, at_phase, pass_of}
use Rattle.post_core.specs.Words.{WordsShow, refs_at, turn_at}
use Rattle.post_core.proofs.Frames.{pass_views}
use Rattle.post_core.proofs.Members.{one_at}
use Rattle.post_core.proofs.Present.{keeps_one, there_set}
use Rattle.post_core.proofs.SendRefs.{adds_ref, not_seen_closed}
use Rattle.post_core.proofs.SendTurns.{takes_turn}
use Rattle.post_core.proofs.Tallied.{Lives, tally_set}

-- a turn's word that is not 0 is 1
one_of_word : (turn : Option Actor) (n : ℕ) → n ≡ turn_word turn → n ≢ 0 → n ≡ 1
one_of_word None n is ne = absurd (ne is)
one_of_word (Some a) n is ne = is

-- a seat that has just taken a turn has it from what it is once the turn is given back
pub turn_again : {J M : Type 0} (p : ℕ) (ring : RingView (Item J)) (meant : List (Entry M)) (m m' : Me (RingView (Item J)) (View M)) → m.1 ≡ [] → m' ≡ (place_taken p meant m.0, (p, ring) ∷ m.1) → m' ≡ (place_taken p meant (place_given p m'.0), (p, ring) ∷ [])
turn_again {J} {M} p ring meant m m' bare is = let here : m' ≡ (place_taken p meant m.0, (p, ring) ∷ []) = is ∙ ap (λ (held : List (ℕ × RingView (Item J))). (place_taken p meant m.0, (p, ring) ∷ held)) bare in
    subst (λ (x : Me (RingView (Item J)) (View M)). x ≡ (place_taken p meant (place_given p x.0), (p, ring) ∷ [])) (sym here) refl

-- what was sent after a turn was taken was sent by the pass as it was before
pub sent_before : {J M E : Type 0} (p : ℕ) (ring : RingView (Item J)) (meant : List (Entry M)) (e : Entry M) (m m' last : Me (RingView (Item J)) (View M)) → m' ≡ (place_taken p meant m.0, (p, ring) ∷ m.1) → (result : Result ℕ E)
    → IfOk result (λ nth. IsNextAt p nth m'.0 × (last ≡ (job_sent p nth e m'.0, []))) → IfOk result (λ nth. IsNextAt p nth m.0 × (last ≡ (job_sent p nth e m.0, [])))
sent_before {J} {M} p ring meant e m m' last is (Ok nth) h = let k = subst (λ (x : Me (RingView (Item J)) (View M)). IsNextAt p nth x.0 × (last ≡ (job_sent p nth e x.0, []))) is h in (record { own = k.0.own; seen = k.0.seen }, k.1)
sent_before p ring meant e m m' last is (Err back) h = h

-- a pass that keeps an exchange is what it was
pub failed_pass : {M : Type 0} (sender word expected value : ℕ) (ph : Phase) (own : List (List OwnMark)) (v : View M) → IsPass sender ph own v → IsPass sender ph own (exchange_failed word expected value v)
failed_pass sender word expected value ph own v o = record { view = (refl, o.view.1); number = o.number; phase_is = o.phase_is; own_is = o.own_is; no_ring = o.no_ring; no_look = o.no_look }

module _ {J M : Type 0} (meaning : J → M) (suits : ℕ → Mark → M → Type 0) (senders places : ℕ) (s : State (RingView (Item J)) (View M)) (r : Shown meaning suits senders places s) (id : ℕ) (v : View M) (held : List (ℕ × RingView (Item J))) (at : get_elem? s.views id ≡ some v) (is_pass : IsPassView v) where
  abbrev w : WorldState
  w = r.world

  abbrev pass : PassView M
  pass = pass_of v

  first : get_elem? v.passes 0 ≡ some pass
  first = subst (λ ps. get_elem? ps 0 ≡ some pass) (sym is_pass.0) refl

  fits : PassFits w r.entries r.seat id pass
  fits = (r.views id v at).passes 0 pass first

  lives : Lives senders places w.life s.views r.tally pass
  lives = r.tally.each id v at 0 pass first

  -- a step that changes no word, after which the pass keeps an exchange and may have seen more
  module _ (i x : ℕ) (is : x ≡ slice_index s.words i) (kept : Option Exchange) where
    abbrev to : PassView M
    to = record pass { last_failed = kept }

    to_fits : PassFits w r.entries r.seat id to
    to_fits = record {
      near = fits.near;
      sits = fits.sits;
      does = record { phase_is = fits.does.phase_is; look_is = fits.does.look_is; uses_are = fits.does.uses_are; uses_wide = fits.does.uses_wide; few_uses = fits.does.few_uses; few_clones = fits.does.few_clones };
      turns = record { turn_here = fits.turns.turn_here; ring_is = fits.turns.ring_is };
      owns = record { own_is = fits.owns.own_is; own_wide = fits.owns.own_wide };
    }

    pub keeps_exchange : (v' : View M) → v'.passes ≡ to ∷ [] → v'.owner ≡ v.owner → (more : List (Fact M)) → v'.seen ≡ v.seen ++ more → ((k : ℕ) (f : Fact M) → get_elem? more k ≡ some f → IsSo w.places w.refs r.entries w.jobs f)
        → (r' : Shown meaning suits senders places (stepped s i x id held v' keeps)) × (r'.world ≡ w)
    keeps_exchange v' passes_are owner_is more seen_is news = (
      record {
        world = w;
        entries = r.entries;
        seat = r.seat;
        chief = r.chief;
        sized = r.sized;
        sound = r.sound;
        formed = r.formed;
        marks = r.marks;
        suited = r.suited;
        words = subst (λ ws. WordsShow places w.refs w.turn w.sent (taken_in w) w.note w.life w.mail ws) (sym (ap (λ k. set s.words i k) is ∙ set-get_or s.words i 0)) r.words;
        mail_noted = r.mail_noted;
        slots = r.slots;
        views = pass_views w w r.entries r.entries r.seat r.chief s.views r.views id v v' at (λ f so. so) more seen_is news pass to is_pass.0 passes_are owner_is (λ j q ne f. f) to_fits (λ o f. f);
        tally = tally_set senders places w.life s.views r.tally id v' (λ k q a. subst (Lives senders places w.life s.views r.tally) (one_at to k q (subst (λ ps. get_elem? ps k ≡ some q) passes_are a)) (record { created_are = lives.created_are; freed_are = lives.freed_are; created_wide = lives.created_wide; freed_wide = lives.freed_wide; found = lives.found }));
        there = there_set senders r.seat r.chief s.views r.there id v v' at (keeps_one v v' pass to is_pass.0 passes_are refl owner_is);
      },
      refl,
    )

  -- the exchange of the references, which found none
  pub misses_none : (loaded : ℕ) → slice_index s.words refs_at ≡ 0 → (r' : Shown meaning suits senders places (stepped s refs_at (slice_index s.words refs_at) id held (none_seen (exchange_failed refs_at loaded 0 v)) keeps)) × (r'.world ≡ w)
  misses_none loaded found = keeps_exchange refs_at (slice_index s.words refs_at) refl (Some (record { word = refs_at; expected = loaded; value = 0 })) (none_seen (exchange_failed refs_at loaded 0 v)) refl refl (fact.NoReferences ∷ []) refl
      (λ k f f_at. subst (λ (x : Fact M). IsSo w.places w.refs r.entries w.jobs x) (one_at fact.NoReferences k f f_at) (sym r.words.refs_is ∙ found))

  -- an exchange that found this value
  pub misses : (i expected value : ℕ) → (r' : Shown meaning suits senders places (stepped s i (slice_index s.words i) id held (exchange_failed i expected value v) keeps)) × (r'.world ≡ w)
  misses i expected value = keeps_exchange i (slice_index s.words i) refl (Some (record { word = i; expected = expected; value = value })) (exchange_failed i expected value v) refl refl [] (sym (append-nil v.seen)) (λ k f a. absurd (some-ne-none f (sym a)))

  pub may_load : pass.phase ≡ phase.Idle → Enabled w (event.LoadRefs pass.number)
  may_load idle = record { there = record { sender = fits.near; place = tt }; conditions = fits.does.phase_is ∙ idle }

module _ {J M : Type 0} (meaning : J → M) (suits : ℕ → Mark → M → Type 0) (senders places : ℕ) (slots id : ℕ) (v : View M) (held : List (ℕ × RingView (Item J))) where
  pub try_ref_allowed : (seen : ℕ) → 1 ≤ seen → IsPassView v → (pass_of v).phase ≡ phase.Idle → Allows (Shown meaning suits senders places) slots id (v, held) refs_at (λ n. either (n == seen) (seen + 1) n) (tried_ref (step slots refs_at seen (seen + 1) none) (v, held))
  try_ref_allowed seen some_seen is idle s r wide at small =
      exchanged (slice_index s.words refs_at) seen (seen + 1)
      (λ y. (x : View M) × (a : Act (RingView (Item J))) × Valid s.homes held a × Shown meaning suits senders places (stepped s refs_at y id held x a) × tried_ref (step slots refs_at seen (seen + 1) none) (v, held) (slice_index s.words refs_at) (x, carried_after held a))
      (λ hit. let some_left : 1 ≤ r.world.refs = (let a = r.words.refs_is in omega arith) in (
        at_phase phase.Referenced v,
        keeps,
        tt,
        (adds_ref meaning suits senders places s r id v held at is idle some_left (seen + 1) (ap (λ n. n + 1) (sym hit ∙ r.words.refs_is))).1.0,
        ((λ e. (not_seen_closed meaning suits senders places s r id v held at is some_left, refl)), (λ ne. absurd (ne hit)), (λ ne. absurd (ne hit))),
      ))
      (λ miss. dite (ℕ_discrete (slice_index s.words refs_at) 0)
      (λ none_left. (
        none_seen (exchange_failed refs_at seen 0 v),
        keeps,
        tt,
        (misses_none meaning suits senders places s r id v held at is seen none_left).0,
        ((λ e. absurd (miss e)), (λ ne zero_found. refl), (λ ne some_found. absurd (some_found none_left))),
      ))
      (λ some_left. (
        exchange_failed refs_at seen (slice_index s.words refs_at) v,
        keeps,
        tt,
        (misses meaning suits senders places s r id v held at is refs_at seen (slice_index s.words refs_at)).0,
        ((λ e. absurd (miss e)), (λ ne zero_found. absurd (some_left zero_found)), (λ ne some_found. refl)),
      )))

  pub try_turn_allowed : (p : ℕ) → p < places → IsPassView v → (pass_of v).phase ≡ phase.Referenced → 0 < get_or (pass_of v).uses p 0 → Allows (Shown meaning suits senders places) slots id (v, held) (turn_at p) (λ n. either (n == 0) 1 n) (tried_turn meaning p (step slots (turn_at p) 0 1 none) (v, held))
  try_turn_allowed p near is referenced used s r wide at small =
      exchanged (slice_index s.words (turn_at p)) 0 1
      (λ y. (x : View M) × (a : Act (RingView (Item J))) × Valid s.homes held a × Shown meaning suits senders places (stepped s (turn_at p) y id held x a) × tried_turn meaning p (step slots (turn_at p) 0 1 none) (v, held) (slice_index s.words (turn_at p)) (x, carried_after held a))
      (λ hit. let free = free_of_word (r.world.turn p) (sym (r.words.turn_is p near) ∙ hit) in let h = r.slots.ring_is p near free in (
        place_taken p (all_meant meaning h.0.items) v,
        takes p h.0,
        h.1,
        (takes_turn meaning suits senders places s r id p v held at is near referenced used free).1.0,
        ((λ e. (h.0, refl)), (λ ne. absurd (ne hit))),
      ))
      (λ miss. (
        exchange_failed (turn_at p) 0 1 v,
        keeps,
        tt,
        (misses meaning suits senders places s r id v held at is (turn_at p) 0 1).0,
        ((λ e. absurd (miss e)), (λ ne. (one_of_word (r.world.turn p) (slice_index s.words (turn_at p)) (r.words.turn_is p near) ne, refl))),
      ))

module _ {J M : Type 0} (meaning : J → M) (suits : ℕ → Mark → M → Type 0) where
  pub ref_is_missed : MissesRef meaning suits
  ref_is_missed senders places s r id v held at is loaded idle = (
    (λ none_left. (may_load meaning suits senders places s r id v held at is idle, misses_none meaning suits senders places s r id v held at is loaded none_left)),
    (λ some_left. (may_load meaning suits senders places s r id v held at is idle, misses meaning suits senders places s r id v held at is refs_at loaded (slice_index s.words refs_at))),
  )

  pub turn_is_missed : MissesTurn meaning suits
  turn_is_missed senders places s r id v held at is p near taken = misses meaning suits senders places s r id v held at is (turn_at p) 0 1
