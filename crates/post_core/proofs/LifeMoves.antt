-- A step of a pass that changes lives, uses and looks alone.
use Rattle.post_core.specs.declared.slots.Item.{Item}
use Rattle.task_ring.specs.Ring.{RingView}
use Rattle.std.proofs.Common.{◌≡◌, ◌≢◌, ℕ, zero, suc, ◌+◌, ◌*◌, ◌<◌, ◌≤◌, ◌==◌, List, [], ◌∷◌, length, get_or, set, refl, arith, ap, sym, subst, ◌∙◌, ⊎_elim, append-nil, length-set}
use Rattle.std.specs.Prelude.{not}
use Rattle.std.proofs.lemmas.Bool.{eq-eqb, ne_eqb}
use Rattle.std.proofs.lemmas.List.{get_or-set_same, get_or-set_other}
use mathlib.Core.Logic.{dite}
use mathlib.Core.Option.{some, some-ne-none}
use native.Mathlib.Decide.{ℕ_discrete}
use lib.ListN.{get_elem?}
use Rattle.atomic_table.specs.Table.{State, keeps, stepped}
use Rattle.atomic_table.proofs.Lists.{at_set}
use Rattle.proxy_laws.specs.declared.actors.Look.{Look}
use Rattle.proxy_laws.specs.declared.records.Mark.{Mark}
use Rattle.proxy_laws.specs.Maps.{bit, sum_below, upd}
use Rattle.proxy_laws.specs.Sound.{Sound}
use Rattle.proxy_laws.specs.Worlds.{WorldState, IsWellFormed}
use Rattle.proxy_laws.proofs.Maps.{sum_upd, sum_zero, upd_case, upd_here, upd_else}
use Rattle.post_core.specs.declared.views.PassView.{PassView}
use Rattle.post_core.specs.declared.views.View.{View}
use Rattle.post_core.specs.LifeSteps.{freed_after}
use Rattle.post_core.specs.Rule.{PassDoes, PassFits, PassLives, Shown, Tally, taken_in}
use Rattle.post_core.specs.Views.{IsPassView, pass_of, with_pass}
use Rattle.post_core.specs.Words.{WordsShow}
use Rattle.post_core.proofs.Frames.{pass_views}
use Rattle.post_core.proofs.Members.{one_at}
use Rattle.post_core.proofs.Present.{keeps_one, there_set}
use Rattle.post_core.proofs.Tallied.{Lives, tally_set}

-- a list that shows a function still shows it once both have a new number at p
pub renumbered : (n p y z : ℕ) (f : ℕ → ℕ) (xs : List ℕ) → y ≡ z → length xs ≡ n → p < n → ((q : ℕ) → q < n → f q ≡ get_or xs q 0) → (q : ℕ) → q < n → upd f p y q ≡ get_or (set xs p z) q 0
renumbered n p y z f xs is wide near each q below = upd_case f p y (λ k x. x ≡ get_or (set xs p z) k 0) q
    (λ same. subst (λ k. y ≡ get_or (set xs p z) k 0) (sym same) (is ∙ sym (get_or-set_same xs p z 0 (omega arith))))
    (λ ne. each q below ∙ sym (get_or-set_other xs p q z 0 ne))

-- what holds of the new number and of the old ones holds of the list
pub renumbered_all : (P : ℕ → Type 0) (n p z : ℕ) (xs : List ℕ) → length xs ≡ n → p < n → P z → ((q : ℕ) → q < n → P (get_or xs q 0)) → (q : ℕ) → q < n → P (get_or (set xs p z) q 0)
renumbered_all P n p z xs wide near here each q below = dite (ℕ_discrete q p)
    (λ same. subst P (sym (ap (λ k. get_or (set xs p z) k 0) same ∙ get_or-set_same xs p z 0 (omega arith))) here)
    (λ ne. subst P (sym (get_or-set_other xs p q z 0 ne)) (each q below))

live : (n : ℕ) → n ≢ 0 → bit (not (n == 0)) ≡ 1
live n ne = ap (λ b. bit (not b)) (ne_eqb n 0 ne)

module _ {J M : Type 0} (meaning : J → M) (suits : ℕ → Mark → M → Type 0) (senders places : ℕ) (s : State (RingView (Item J)) (View M)) (r : Shown meaning suits senders places s) (id : ℕ) (v : View M) (held : List (ℕ × RingView (Item J))) (at : get_elem? s.views id ≡ some v) (is_pass : IsPassView v) where
  abbrev w : WorldState
  w = r.world

  abbrev pass : PassView M
  pass = pass_of v

  abbrev t : ℕ
  t = pass.number

  first : get_elem? v.passes 0 ≡ some pass
  first = subst (λ ps. get_elem? ps 0 ≡ some pass) (sym is_pass.0) refl

  pub pass_fits : PassFits w r.entries r.seat id pass
  pass_fits = (r.views id v at).passes 0 pass first

  abbrev fits : PassFits w r.entries r.seat id pass
  fits = pass_fits

  lives : Lives senders places w.life s.views r.tally pass
  lives = r.tally.each id v at 0 pass first

  -- the new world, and the new view of the pass
  module _ (life' : ℕ → ℕ) (uses' : ℕ → ℕ → ℕ) (look' : ℕ → Look) (us : List ℕ) (cl : ℕ) (lk : Look) (tr fr : List ℕ) where
    abbrev w' : WorldState
    w' = record w { life = life'; uses = uses'; look = look' }

    abbrev pass' : PassView M
    pass' = record pass { uses = us; clones = cl; look = lk; tried = tr; freed = fr }

    abbrev v' : View M
    v' = with_pass v pass'

    pub moves : (i x : ℕ) → Sound w' → IsWellFormed w' → WordsShow places w.refs w.turn w.sent (taken_in w) w.note life' w.mail (set s.words i x) → PassDoes w.places w.phase look' uses' pass' → ((q : ℕ) → q ≢ t → look' q ≡ w.look q) → ((q : ℕ) → q ≢ t → uses' q ≡ w.uses q)
        → Tally senders places life' (set s.views id v') → (r' : Shown meaning suits senders places (stepped s i x id held v' keeps)) × (r'.world ≡ w')
    moves i x sound formed words does looks users tally = (
      record {
        world = w';
        entries = r.entries;
        seat = r.seat;
        chief = r.chief;
        sized = record { places_are = r.sized.places_are; senders_are = r.sized.senders_are; some_place = r.sized.some_place; few_places = r.sized.few_places; few_senders = r.sized.few_senders; few_marks = r.sized.few_marks };
        sound = sound;
        formed = formed;
        marks = r.marks;
        suited = r.suited;
        words = words;
        mail_noted = r.mail_noted;
        slots = r.slots;
        views = pass_views w w' r.entries r.entries r.seat r.chief s.views r.views id v v' at (λ f so. so) [] (sym (append-nil v.seen)) (λ k f a. absurd (some-ne-none f (sym a))) pass pass' is_pass.0 refl refl
            (λ j q ne f. record {
              near = f.near;
              sits = f.sits;
              does = record { phase_is = f.does.phase_is; look_is = looks q.number ne ∙ f.does.look_is; uses_are = λ i' below. ap (λ u. u i') (users q.number ne) ∙ f.does.uses_are i' below; uses_wide = f.does.uses_wide; few_uses = f.does.few_uses; few_clones = f.does.few_clones };
              turns = f.turns;
              owns = f.owns;
            })
            (record {
              near = fits.near;
              sits = fits.sits;
              does = does;
              turns = record { turn_here = fits.turns.turn_here; ring_is = fits.turns.ring_is };
              owns = record { own_is = fits.owns.own_is; own_wide = fits.owns.own_wide };
            })
            (λ o f. record { does = f.does; turns = f.turns; jobs = f.jobs; clears = f.clears });
        tally = tally;
        there = there_set senders r.seat r.chief s.views r.there id v v' at (keeps_one v v' pass pass' is_pass.0 refl refl refl);
      },
      refl,
    )

  -- the tally where each place is live or not as it was
  module _ (us : List ℕ) (cl : ℕ) (lk : Look) (tr : List ℕ) where
    abbrev same_freed : PassView M
    same_freed = record pass { uses = us; clones = cl; look = lk; tried = tr }

    pub tally_same : (life' : ℕ → ℕ) → ((q : ℕ) → bit (not (life' q == 0)) ≡ bit (not (w.life q == 0))) → Tally senders places life' (set s.views id (with_pass v same_freed))
    tally_same life' same = let o = tally_set senders places w.life s.views r.tally id (with_pass v same_freed) (λ k q a. subst (Lives senders places w.life s.views r.tally) (one_at same_freed k q a) (record { created_are = lives.created_are; freed_are = lives.freed_are; created_wide = lives.created_wide; freed_wide = lives.freed_wide; found = lives.found })) in record {
      created = o.created;
      freed = o.freed;
      balanced = λ q below ne. o.balanced q below ne ∙ ap (λ b. sum_below senders (λ k. r.tally.freed k q) + b) (sym (same q));
      each = o.each;
    }

  pub still_live : (p l : ℕ) → l ≢ 0 → w.life p ≢ 0 → (q : ℕ) → bit (not (upd w.life p l q == 0)) ≡ bit (not (w.life q == 0))
  still_live p l now was q = upd_case w.life p l (λ k y. bit (not (y == 0)) ≡ bit (not (w.life k == 0))) q (λ same. live l now ∙ sym (ap (λ k. bit (not (w.life k == 0))) same ∙ live (w.life p) was)) (λ ne. refl)

  -- the tally where the pass sets p free
  module _ (p : ℕ) (near : p < places) (was : w.life p ≢ 0) (lk : Look) where
    abbrev row : ℕ → ℕ
    row = upd (r.tally.freed t) p (r.tally.freed t p + 1)

    abbrev freed' : ℕ → ℕ → ℕ
    freed' = upd r.tally.freed t row

    abbrev freer : PassView M
    freer = record pass { look = lk; freed = set pass.freed p (get_or pass.freed p 0 + 1) }

    there : t < senders
    there = let a = fits.near in let b = r.sized.senders_are in omega arith

    total' : (q : ℕ) → sum_below senders (λ k. freed' k q) ≡ sum_below senders (λ k. r.tally.freed k q) + bit (p == q)
    total' q = let a = sum_upd r.tally.freed t row (λ u. u q) senders there in dite (ℕ_discrete q p)
        (λ same. let b : row q ≡ r.tally.freed t q + 1 = ap row same ∙ (upd_here (r.tally.freed t) p (r.tally.freed t p + 1) ∙ ap (λ k. r.tally.freed t k + 1) (sym same)) in let c : bit (p == q) ≡ 1 = ap bit (eq-eqb p q (sym same)) in omega arith)
        (λ ne. let b : row q ≡ r.tally.freed t q = upd_else (r.tally.freed t) p (r.tally.freed t p + 1) q ne in let c : bit (p == q) ≡ 0 = ap bit (ne_eqb p q (λ e. ne (sym e))) in omega arith)

    abbrev Freely : PassView M → Type 0
    Freely q = PassLives places r.tally.created freed' (λ i. sum_below senders (λ m. r.tally.created m i)) q

    pub tally_freed : Tally senders places (upd w.life p 0) (set s.views id (with_pass v freer))
    tally_freed = record {
      created = r.tally.created;
      freed = freed';
      balanced = λ q below ne. let a = total' q in let b = r.tally.balanced q below ne in upd_case w.life p 0 (λ k x. sum_below senders (λ i. r.tally.created i q) ≡ sum_below senders (λ i. freed' i q) + bit (not (x == 0))) q
          (λ same. let c : bit (p == q) ≡ 1 = ap bit (eq-eqb p q (sym same)) in let d : bit (not (w.life q == 0)) ≡ 1 = ap (λ k. bit (not (w.life k == 0))) same ∙ live (w.life p) was in omega arith)
          (λ differ. let c : bit (p == q) ≡ 0 = ap bit (ne_eqb p q (λ e. differ (sym e))) in omega arith);
      each = λ j x is k q a. ⊎_elim
          (λ h. mine q k (subst (λ (y : View M). get_elem? y.passes k ≡ some q) (sym h.1) a))
          (λ h. let g = r.tally.each j x h.1 k q a in let f = (r.views j x h.1).passes k q a in
          let ne : q.number ≢ t = λ e. h.0 (sym f.sits ∙ (ap r.seat e ∙ fits.sits)) in record {
            created_are = g.created_are;
            freed_are = λ i below. ap (λ f. f i) (upd_else r.tally.freed t row q.number ne) ∙ g.freed_are i below;
            created_wide = g.created_wide;
            freed_wide = g.freed_wide;
            found = g.found;
          })
          (at_set s.views id j (with_pass v freer) x is);
    } where
      mine : (q : PassView M) (k : ℕ) → get_elem? (freer ∷ []) k ≡ some q → Freely q
      mine q k a = subst Freely (one_at freer k q a) (record {
        created_are = lives.created_are;
        freed_are = λ i below. ap (λ f. f i) (upd_here r.tally.freed t row) ∙ renumbered places p (r.tally.freed t p + 1) (get_or pass.freed p 0 + 1) (r.tally.freed t) pass.freed (ap (λ k. k + 1) (lives.freed_are p near)) lives.freed_wide near lives.freed_are i below;
        created_wide = lives.created_wide;
        freed_wide = length-set pass.freed p _ ∙ lives.freed_wide;
        found = lives.found;
      })

    -- the tally where the pass marks p, as a zombie or free
    pub tally_marked : (l : ℕ) → Tally senders places (upd w.life p l) (set s.views id (with_pass v (record pass { look = lk; freed = freed_after l p pass.freed })))
    tally_marked zero = tally_freed
    tally_marked (suc l) = tally_same pass.uses pass.clones lk pass.tried (upd w.life p (suc l)) (still_live p (suc l) (λ e. omega arith) was)

  -- what bounds a life: each sender has few uses
  few_of : (p : ℕ) → p < w.places → (k : ℕ) → k < w.senders → w.uses k p ≤ 4294967297
  few_of p inside k near = let h = r.there.passes k (let a = r.sized.senders_are in omega arith) in let f = (r.views (r.seat k) h.view h.at).passes h.place h.pass h.there in
      subst (λ m. w.uses m p ≤ 4294967297) h.number (let a = f.does.uses_are p inside in let b = f.does.few_uses p inside in let c = f.does.few_clones in omega arith)

  sum_few : (n : ℕ) (f : ℕ → ℕ) → ((k : ℕ) → k < n → f k ≤ 4294967297) → sum_below n f ≤ 4294967297 * n
  sum_few zero f each = omega arith
  sum_few (suc n) f each = let a = sum_few n f (λ k near. each k (omega arith)) in let b = each n (omega arith) in omega arith

  pub life_bound : (p : ℕ) → p < w.places → w.life p ≤ 274877906944 + 66
  life_bound p inside = let a = r.sound.lives.used p inside in let b = sum_few w.senders (λ k. w.uses k p) (few_of p inside) in let c = r.sized.senders_are in let d = r.sized.few_senders in omega arith

  -- the life of a place other than 0 that a pass uses tells how many uses the pass has
  pub own_life : (p : ℕ) → p < w.places → p ≢ 0 → 0 < w.uses t p → w.life p ≡ 2 + w.uses t p
  own_life p inside other used =
      let a = sum_upd (λ k. w.uses k p) t 0 (λ x. x) w.senders fits.near in
      let b = sum_zero w.senders (upd (λ k. w.uses k p) t 0) (λ k near. upd_case (λ m. w.uses m p) t 0 (λ m x. m ≡ k → x ≡ 0) k (λ same e. refl) (λ ne e. none k near ne) refl) in
      let c = r.sound.lives.used p inside in omega arith
    where
      none : (k : ℕ) → k < w.senders → k ≢ t → w.uses k p ≡ 0
      none k near ne = dite (ℕ_discrete (w.uses k p) 0) (λ e. e) (λ some_use. absurd (ne (r.sound.lives.one_user k t p near fits.near inside other (omega arith) used)))
