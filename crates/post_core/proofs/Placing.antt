-- The step by which a sender creates a place is its event, and where it fails the pass has found the place not free.
use Rattle.post_core.specs.declared.slots.Item.{Item}
use Rattle.task_ring.specs.Ring.{RingView}
use Rattle.std.proofs.Common.{◌≡◌, ◌≢◌, ℕ, ◌+◌, ◌<◌, ◌≤◌, ◌==◌, List, [], ◌∷◌, length, get_or, set, refl, arith, ap, sym, subst, ◌∙◌, ⊎_elim, append-nil, length-set}
use Rattle.std.specs.Prelude.{not, slice_index}
use Rattle.std.proofs.lemmas.Bool.{eq-eqb, ne_eqb}
use Rattle.std.proofs.lemmas.List.{get_or-set_same, get_or-set_other, set-get_or}
use mathlib.Core.Logic.{dite}
use mathlib.Core.Option.{some, some-ne-none}
use native.Mathlib.Decide.{ℕ_discrete}
use lib.ListN.{get_elem?}
use prog.Atomic.{either}
use Rattle.atomic_table.specs.Table.{Allows, Me, State, Step, keeps, step, stepped}
use Rattle.atomic_table.proofs.Lists.{exchanged}
use Rattle.proxy_laws.specs.declared.events.Event.TheVariants as event
use Rattle.proxy_laws.specs.declared.records.Mark.{Mark}
use Rattle.proxy_laws.specs.Events.{Enabled, world_after}
use Rattle.proxy_laws.specs.Maps.{bit, sum_below, upd}
use Rattle.proxy_laws.specs.Worlds.{WorldState}
use Rattle.proxy_laws.proofs.Inductive.{event_keeps}
use Rattle.proxy_laws.proofs.Maps.{sum_upd, term_le, upd_case, upd_here, upd_else}
use Rattle.proxy_laws.proofs.WellFormed.{worlds_are_well_formed}
use Rattle.post_core.specs.declared.views.Finding.{Finding}
use Rattle.post_core.specs.declared.views.PassView.{PassView}
use Rattle.post_core.specs.declared.views.View.{View}
use Rattle.post_core.specs.Rule.{IsEvent, PassFits, PassLives, Shown, Tally, taken_in}
use Rattle.post_core.specs.Views.{IsPassView, pass_of, place_created, place_found}
use Rattle.post_core.specs.Words.{WordsShow, life_at}
use Rattle.post_core.proofs.Frames.{pass_views}
use Rattle.post_core.proofs.Members.{at_end, one_at}
use Rattle.post_core.proofs.Present.{keeps_one, there_set}
use Rattle.post_core.proofs.Tallied.{Lives, tally_set}
use Rattle.post_core.proofs.Words.{set_life}

-- the list of a pass, once one number is one more, against the function that it shows
raised : (n p : ℕ) (f : ℕ → ℕ) (xs : List ℕ) → length xs ≡ n → p < n → ((q : ℕ) → q < n → f q ≡ get_or xs q 0) → (q : ℕ) → q < n → upd f p (f p + 1) q ≡ get_or (set xs p (get_or xs p 0 + 1)) q 0
raised n p f xs wide near each q below = upd_case f p (f p + 1) (λ k x. x ≡ get_or (set xs p (get_or xs p 0 + 1)) k 0) q
    (λ same. subst (λ k. f p + 1 ≡ get_or (set xs p (get_or xs p 0 + 1)) k 0) (sym same) (ap (λ x. x + 1) (each p near) ∙ sym (get_or-set_same xs p (get_or xs p 0 + 1) 0 (omega arith))))
    (λ ne. each q below ∙ sym (get_or-set_other xs p q (get_or xs p 0 + 1) 0 ne))

module _ {J M : Type 0} (meaning : J → M) (suits : ℕ → Mark → M → Type 0) (senders places : ℕ) (s : State (RingView (Item J)) (View M)) (r : Shown meaning suits senders places s) (id p : ℕ) (v : View M) (held : List (ℕ × RingView (Item J))) (at : get_elem? s.views id ≡ some v) (is_pass : IsPassView v) (near : p < places) (other : p ≢ 0) where
  abbrev w : WorldState
  w = r.world

  abbrev pass : PassView M
  pass = pass_of v

  abbrev t : ℕ
  t = pass.number

  first : get_elem? v.passes 0 ≡ some pass
  first = subst (λ ps. get_elem? ps 0 ≡ some pass) (sym is_pass.0) refl

  fits : PassFits w r.entries r.seat id pass
  fits = (r.views id v at).passes 0 pass first

  lives : Lives senders places w.life s.views r.tally pass
  lives = r.tally.each id v at 0 pass first

  there : t < senders
  there = let a = fits.near in let b = r.sized.senders_are in omega arith

  module _ (free : w.life p ≡ 0) where
    may : Enabled w (event.Create t p)
    may = record { there = record { sender = fits.near; place = let a = r.sized.places_are in omega arith }; conditions = free }

    abbrev w' : WorldState
    w' = world_after w (event.Create t p)

    abbrev pass' : PassView M
    pass' = pass_of (place_created p v)

    abbrev row : ℕ → ℕ
    row = upd (r.tally.created t) p (r.tally.created t p + 1)

    abbrev created' : ℕ → ℕ → ℕ
    created' = upd r.tally.created t row

    -- how often each place was created
    total' : (q : ℕ) → sum_below senders (λ k. created' k q) ≡ sum_below senders (λ k. r.tally.created k q) + bit (p == q)
    total' q = let a = sum_upd r.tally.created t row (λ u. u q) senders there in dite (ℕ_discrete q p)
        (λ same. let b : row q ≡ r.tally.created t q + 1 = ap row same ∙ (upd_here (r.tally.created t) p (r.tally.created t p + 1) ∙ ap (λ k. r.tally.created t k + 1) (sym same)) in let c : bit (p == q) ≡ 1 = ap bit (eq-eqb p q (sym same)) in omega arith)
        (λ ne. let b : row q ≡ r.tally.created t q = upd_else (r.tally.created t) p (r.tally.created t p + 1) q ne in let c : bit (p == q) ≡ 0 = ap bit (ne_eqb p q (λ e. ne (sym e))) in omega arith)

    -- no sender has a use of a free place
    unused : get_or pass.uses p 0 ≡ 0
    unused = let inside : p < w.places = (let a = r.sized.places_are in omega arith) in let a = r.sound.lives.used p inside in let b = term_le w.senders (λ k. w.uses k p) t fits.near in let c = fits.does.uses_are p inside in omega arith

    own : PassFits w' r.entries r.seat id pass'
    own = record {
      near = fits.near;
      sits = fits.sits;
      does = record {
        phase_is = fits.does.phase_is;
        look_is = fits.does.look_is;
        uses_are = λ q below. ap (λ f. f q) (upd_here w.uses t (upd (w.uses t) p (w.uses t p + 1))) ∙ raised w.places p (w.uses t) pass.uses fits.does.uses_wide (let a = r.sized.places_are in omega arith) fits.does.uses_are q below;
        uses_wide = length-set pass.uses p _ ∙ fits.does.uses_wide;
        few_uses = λ q below. dite (ℕ_discrete q p)
            (λ same. let a : get_or (set pass.uses p (get_or pass.uses p 0 + 1)) q 0 ≡ get_or pass.uses p 0 + 1 = ap (λ k. get_or (set pass.uses p (get_or pass.uses p 0 + 1)) k 0) same ∙ get_or-set_same pass.uses p (get_or pass.uses p 0 + 1) 0 (let z = fits.does.uses_wide in let y = r.sized.places_are in omega arith) in let b = unused in omega arith)
            (λ ne. let a = get_or-set_other pass.uses p q (get_or pass.uses p 0 + 1) 0 ne in let b = fits.does.few_uses q below in omega arith);
        few_clones = fits.does.few_clones;
      };
      turns = record { turn_here = fits.turns.turn_here; ring_is = fits.turns.ring_is };
      owns = record { own_is = fits.owns.own_is; own_wide = fits.owns.own_wide };
    }

    tally' : Tally senders places w'.life (set s.views id (place_created p v))
    tally' = record {
      created = created';
      freed = r.tally.freed;
      balanced = λ q below ne. let a = total' q in let b = r.tally.balanced q below ne in upd_case w.life p 3 (λ k x. sum_below senders (λ i. created' i q) ≡ sum_below senders (λ i. r.tally.freed i q) + bit (not (x == 0))) q
          (λ same. let c : bit (p == q) ≡ 1 = ap bit (eq-eqb p q (sym same)) in let d : bit (not (w.life q == 0)) ≡ 0 = ap (λ x. bit (not (x == 0))) (ap w.life same ∙ free) in omega arith)
          (λ differ. let c : bit (p == q) ≡ 0 = ap bit (ne_eqb p q (λ e. differ (sym e))) in omega arith);
      each = λ j x is k q a. ⊎_elim
          (λ h. mine q k (subst (λ (y : View M). get_elem? y.passes k ≡ some q) (sym h.1) a))
          (λ h. let g = r.tally.each j x h.1 k q a in let f = (r.views j x h.1).passes k q a in
          let ne : q.number ≢ t = λ e. h.0 (sym f.sits ∙ (ap r.seat e ∙ fits.sits)) in record {
            created_are = λ i below. ap (λ f. f i) (upd_else r.tally.created t row q.number ne) ∙ g.created_are i below;
            freed_are = g.freed_are;
            created_wide = g.created_wide;
            freed_wide = g.freed_wide;
            found = λ i y y_at. let b = g.found i y y_at in (b.0, let c = b.1 in let d = total' y.place in omega arith);
          })
          (Rattle.atomic_table.proofs.Lists.at_set s.views id j (place_created p v) x is);
    } where
      mine : (q : PassView M) (k : ℕ) → get_elem? (pass' ∷ []) k ≡ some q → PassLives places created' r.tally.freed (λ i. sum_below senders (λ m. created' m i)) q
      mine q k a = subst (PassLives places created' r.tally.freed (λ i. sum_below senders (λ m. created' m i))) (one_at pass' k q a) (record {
        created_are = λ i below. ap (λ f. f i) (upd_here r.tally.created t row) ∙ raised places p (r.tally.created t) pass.created lives.created_wide near lives.created_are i below;
        freed_are = lives.freed_are;
        created_wide = length-set pass.created p _ ∙ lives.created_wide;
        freed_wide = lives.freed_wide;
        found = λ i y y_at. let b = lives.found i y y_at in (
          b.0,
          let c = b.1 in let d = total' y.place in dite (ℕ_discrete y.place p)
              (λ same. let e : get_or pass'.created y.place 0 ≡ get_or pass.created y.place 0 + 1 = ap (λ m. get_or pass'.created m 0) same ∙ (get_or-set_same pass.created p (get_or pass.created p 0 + 1) 0 (let z = lives.created_wide in omega arith) ∙ ap (λ m. get_or pass.created m 0 + 1) (sym same)) in let g : bit (p == y.place) ≡ 1 = ap bit (eq-eqb p y.place (sym same)) in omega arith)
              (λ ne. let e : get_or pass'.created y.place 0 ≡ get_or pass.created y.place 0 = get_or-set_other pass.created p y.place (get_or pass.created p 0 + 1) 0 ne in omega arith),
        );
      })

    pub one_use : get_or pass'.uses p 0 ≡ 1
    one_use = get_or-set_same pass.uses p (get_or pass.uses p 0 + 1) 0 (let a = fits.does.uses_wide in let b = r.sized.places_are in omega arith) ∙ ap (λ k. k + 1) unused

    pub creates : IsEvent meaning suits senders places s r (event.Create t p) (stepped s (life_at p) 3 id held (place_created p v) keeps)
    creates = (
      may,
      (
        record {
          world = w';
          entries = r.entries;
          seat = r.seat;
          chief = r.chief;
          sized = record { places_are = r.sized.places_are; senders_are = r.sized.senders_are; some_place = r.sized.some_place; few_places = r.sized.few_places; few_senders = r.sized.few_senders; few_marks = r.sized.few_marks };
          sound = event_keeps (event.Create t p) w r.sound may;
          formed = worlds_are_well_formed.kept w (event.Create t p) r.formed may;
          marks = r.marks;
          suited = r.suited;
          words = set_life places w.refs w.turn w.sent (taken_in w) w.note w.life w.mail s.words r.sized.few_places r.words p 3 3 refl near;
          mail_noted = r.mail_noted;
          slots = r.slots;
          views = pass_views w w' r.entries r.entries r.seat r.chief s.views r.views id v (place_created p v) at (λ f so. so) [] (sym (append-nil v.seen)) (λ k f a. absurd (some-ne-none f (sym a))) pass pass' is_pass.0 refl refl
              (λ j q ne f. record { near = f.near; sits = f.sits; does = record { phase_is = f.does.phase_is; look_is = f.does.look_is; uses_are = λ i below. ap (λ u. u i) (upd_else w.uses t (upd (w.uses t) p (w.uses t p + 1)) q.number ne) ∙ f.does.uses_are i below; uses_wide = f.does.uses_wide; few_uses = f.does.few_uses; few_clones = f.does.few_clones }; turns = f.turns; owns = f.owns })
              own
              (λ o f. record { does = f.does; turns = f.turns; jobs = f.jobs; clears = f.clears });
          tally = tally';
          there = there_set senders r.seat r.chief s.views r.there id v (place_created p v) at (keeps_one v (place_created p v) pass pass' is_pass.0 refl refl refl);
        },
        refl,
      ),
    )

  -- where it is not free, the pass has found that
  module _ (taken : w.life p ≢ 0) where
    abbrev found_pass : PassView M
    found_pass = pass_of (place_found p v)

    same_words : (x : ℕ) → x ≡ slice_index s.words (life_at p) → set s.words (life_at p) x ≡ s.words
    same_words x is = ap (λ k. set s.words (life_at p) k) is ∙ set-get_or s.words (life_at p) 0

    mine : Lives senders places w.life s.views r.tally found_pass
    mine = record {
      created_are = lives.created_are;
      freed_are = lives.freed_are;
      created_wide = lives.created_wide;
      freed_wide = lives.freed_wide;
      found = λ i y y_at. ⊎_elim
          (λ h. lives.found i y h.1)
          (λ h. subst (λ (z : Finding). (z.place < places) × (1 + z.freed + get_or pass.created z.place 0 ≤ z.created + sum_below senders (λ k. r.tally.created k z.place))) h.1 (
            near,
            let a = r.tally.balanced p near other in let b = term_le senders (λ k. r.tally.freed k p) t there in let c = lives.freed_are p near in
                let d : bit (not (w.life p == 0)) ≡ 1 = ap (λ x. bit (not x)) (ne_eqb (w.life p) 0 taken) in omega arith,
          ))
          (at_end pass.full (record { place = p; created = get_or pass.created p 0; freed = get_or pass.freed p 0 }) y i y_at);
    }

    pub finds : (x : ℕ) → x ≡ slice_index s.words (life_at p) → Shown meaning suits senders places (stepped s (life_at p) x id held (place_found p v) keeps)
    finds x is = record {
      world = w;
      entries = r.entries;
      seat = r.seat;
      chief = r.chief;
      sized = r.sized;
      sound = r.sound;
      formed = r.formed;
      marks = r.marks;
      suited = r.suited;
      words = subst (λ ws. WordsShow places w.refs w.turn w.sent (taken_in w) w.note w.life w.mail ws) (sym (same_words x is)) r.words;
      mail_noted = r.mail_noted;
      slots = r.slots;
      views = pass_views w w r.entries r.entries r.seat r.chief s.views r.views id v (place_found p v) at (λ f so. so) [] (sym (append-nil v.seen)) (λ k f a. absurd (some-ne-none f (sym a))) pass found_pass is_pass.0 refl refl
          (λ j q ne f. f)
          (record {
            near = fits.near;
            sits = fits.sits;
            does = record { phase_is = fits.does.phase_is; look_is = fits.does.look_is; uses_are = fits.does.uses_are; uses_wide = fits.does.uses_wide; few_uses = fits.does.few_uses; few_clones = fits.does.few_clones };
            turns = record { turn_here = fits.turns.turn_here; ring_is = fits.turns.ring_is };
            owns = record { own_is = fits.owns.own_is; own_wide = fits.owns.own_wide };
          })
          (λ o f. f);
      tally = tally_set senders places w.life s.views r.tally id (place_found p v) (λ k q a. subst (Lives senders places w.life s.views r.tally) (one_at found_pass k q a) mine);
      there = there_set senders r.seat r.chief s.views r.there id v (place_found p v) at (keeps_one v (place_found p v) pass found_pass is_pass.0 refl refl refl);
    }

module _ {J M : Type 0} (meaning : J → M) (suits : ℕ → Mark → M → Type 0) (senders places : ℕ) (slots id p : ℕ) (v : View M) (held : List (ℕ × RingView (Item J))) where
  -- what the exchange tells
  abbrev pub CreateTells : ℕ → Me (RingView (Item J)) (View M) → Type 0
  CreateTells found m' = (found ≡ 0 → (m' ≡ (place_created p v, held)) × (slice_index (pass_of (place_created p v)).uses p ≡ 1)) × (found ≢ 0 → m' ≡ (place_found p v, held))

  pub create_allowed : p < places → p ≢ 0 → IsPassView v → Allows (Shown meaning suits senders places) slots id (v, held) (life_at p) (λ n. either (n == 0) 3 n) CreateTells
  create_allowed near other is s r wide at small =
      exchanged (slice_index s.words (life_at p)) 0 3
      (λ y. (x : View M) × (a : Rattle.atomic_table.specs.Table.Act (RingView (Item J))) × Rattle.atomic_table.specs.Table.Valid s.homes held a × Shown meaning suits senders places (stepped s (life_at p) y id held x a) × CreateTells (slice_index s.words (life_at p)) (x, Rattle.atomic_table.specs.Table.carried_after held a))
      (λ hit. (place_created p v, keeps, tt, (creates meaning suits senders places s r id p v held at is near other (sym (r.words.life_is p near) ∙ hit)).1.0, ((λ e. (refl, one_use meaning suits senders places s r id p v held at is near other (sym (r.words.life_is p near) ∙ hit))), (λ ne. absurd (ne hit)))))
      (λ miss. (place_found p v, keeps, tt, finds meaning suits senders places s r id p v held at is near other (λ e. miss (r.words.life_is p near ∙ e)) (slice_index s.words (life_at p)) refl, ((λ e. absurd (miss e)), (λ ne. refl))))
