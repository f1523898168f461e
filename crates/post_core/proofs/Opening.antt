-- The table as it is made shows the opening world, and its passes get seats of their own.
use Rattle.std.proofs.Common.{◌≡◌, ◌≢◌, ◌⊎◌, ℕ, zero, suc, ◌+◌, ◌-◌, ◌*◌, ◌<◌, ◌≤◌, ◌==◌, Bool, true, false, Option, Some, None, List, [], ◌∷◌, ◌++◌, length, map, get_or, set, take, drop, replicate, refl, arith, ap, sym, subst, ◌∙◌, inl, inr, ⊎_elim, if◌then◌else◌, length-set}
use Rattle.std.specs.Prelude.{nat_lt, ◌&&◌, not}
use Rattle.std.proofs.lemmas.Bool.{ne_eqb}
use Rattle.std.proofs.lemmas.List.{get_or-set_same, get_or-set_other, get_or-replicate, length-map, length-replicate}
use mathlib.Core.Logic.{dite}
use mathlib.Core.Option.{some, some-injective, some-ne-none}
use native.Mathlib.Decide.{ℕ_discrete}
use lib.ListN.{get_elem?}
use Rattle.atomic_table.specs.Table.{Splits, opening}
use Rattle.atomic_table.proofs.Lists.{at_map, at_set}
use Rattle.task_ring.specs.Ring.{RingView}
use Rattle.proxy_laws.specs.declared.actors.Serving.TheVariants as serving
use Rattle.proxy_laws.specs.declared.records.Mark.{Mark}
use Rattle.proxy_laws.specs.Worlds.{opening_world}
use Rattle.proxy_laws.specs.Maps.{upd}
use Rattle.proxy_laws.proofs.Inductive.{opening_is_sound}
use Rattle.proxy_laws.specs.Maps.{bit, sum_below}
use Rattle.proxy_laws.proofs.Maps.{sum_zero, upd_here, upd_else}
use Rattle.proxy_laws.proofs.WellFormed.{worlds_are_well_formed}
use Rattle.post_core.specs.declared.slots.Item.{Item}
use Rattle.post_core.specs.declared.views.OwnerView.{OwnerView}
use Rattle.post_core.specs.declared.views.PassView.{PassView}
use Rattle.post_core.specs.declared.views.View.{View}
use Rattle.post_core.specs.Rule.{Fits, OwnerFits, PassFits, PassLives, Shown}
use Rattle.post_core.specs.Views.{dealt, first_dealt, first_uses, first_view, fresh_owner, fresh_pass, fresh_passes}
use Rattle.post_core.specs.Words.{WordsShow}
use Rattle.post_core.proofs.Members.{at_end}
use Rattle.post_core.proofs.Seats.{reseated}
use Rattle.post_core.proofs.Present.{there_dealt}
use Rattle.post_core.proofs.Tallied.{tally_end, tally_set}

module _ {X : Type 0} where
  at_drop : (xs : List X) (k : ℕ) (x : X) → get_elem? (drop 1 xs) k ≡ some x → get_elem? xs (suc k) ≡ some x
  at_drop [] k x at = absurd (some-ne-none x (sym at))
  at_drop (y ∷ xs) k x at = at

  at_take : (xs : List X) (k : ℕ) (x : X) → get_elem? (take 1 xs) k ≡ some x → (k ≡ 0) × (get_elem? xs 0 ≡ some x)
  at_take [] k x at = absurd (some-ne-none x (sym at))
  at_take (y ∷ xs) zero x at = (refl, at)
  at_take (y ∷ xs) (suc k) x at = absurd (some-ne-none x (sym at))

  -- each member of a list of one value
  replicated : (n : ℕ) (x : X) (k : ℕ) (d : X) → d ≡ x → get_or (replicate n x) k d ≡ x
  replicated n x k d is = dite (native.Mathlib.Decide.dec_lt k n)
      (λ near. get_or-replicate n k x d near)
      (λ far. Rattle.std.proofs.lemmas.List.get_or_past (replicate n x) k d (omega (arith, length-replicate n x)) ∙ is)

one_most : (b : Bool) → (if b then 1 else 0) ≤ 1
one_most true = omega arith
one_most false = omega arith

uses_are : (places p : ℕ) → 0 < places → p < places → get_or (first_uses places) p 0 ≡ (if p == 0 then 1 else 0)
uses_are zero p some_place near = absurd (omega arith)
uses_are (suc n) zero some_place near = refl
uses_are (suc n) (suc p) some_place near = get_or-replicate n p 0 0 (omega arith) ∙ sym (ap (λ b. if b then 1 else 0) (ne_eqb (suc p) 0 (λ e. omega arith)))

module _ {M : Type 0} where
  fresh_at : (places s n k : ℕ) (pass : PassView M) → get_elem? (fresh_passes places s n) k ≡ some pass → (k < n) × (fresh_pass places (s + k) ≡ pass)
  fresh_at places s zero k pass at = absurd (some-ne-none pass (sym at))
  fresh_at places s (suc n) zero pass at = (omega arith, ap (fresh_pass places) (let e : s + 0 ≡ s = omega arith in e) ∙ some-injective (fresh_pass places s) pass at)
  fresh_at places s (suc n) (suc k) pass at = let h = fresh_at places (suc s) n k pass at in (let a = h.0 in omega arith, ap (fresh_pass places) (let e : s + suc k ≡ suc s + k = omega arith in e) ∙ h.1)

  fresh_there : (places s n k : ℕ) → k < n → get_elem? (fresh_passes {M = M} places s n) k ≡ some (fresh_pass places (s + k))
  fresh_there places s zero k near = absurd (omega arith)
  fresh_there places s (suc n) zero near = ap (λ i. some (fresh_pass places i)) (let e : s ≡ s + 0 = omega arith in e)
  fresh_there places s (suc n) (suc k) near = fresh_there places (suc s) n k (omega arith) ∙ ap (λ i. some (fresh_pass places i)) (let e : suc s + k ≡ s + suc k = omega arith in e)

  module _ (senders places : ℕ) (some_sender : 1 ≤ senders) (some_place : 0 < places) where
    fresh_fits : (k : ℕ) → k < senders → PassFits {M = M} (opening_world senders places) (λ p. []) (λ t. 0) 0 (fresh_pass places k)
    fresh_fits k near = record {
      near = near;
      sits = refl;
      does = record {
        phase_is = refl;
        look_is = refl;
        uses_are = λ p inside. ap (λ b. if b && (p == 0) then 1 else 0) (let t : nat_lt k senders ≡ true = search (Rattle.std.proofs.Common.rules) in t) ∙ sym (uses_are places p some_place inside);
        uses_wide = wide places some_place;
        few_uses = λ p inside. let a = uses_are places p some_place inside in let b = one_most (p == 0) in omega arith;
        few_clones = omega arith;
      };
      turns = record {
        turn_here = λ p inside is. absurd (cc);
        ring_is = λ p inside has. absurd (cc);
      };
      owns = record { own_is = λ p inside. get_or-replicate places p [] [] inside; own_wide = length-replicate places [] };
    } where
      wide : (n : ℕ) → 0 < n → length (first_uses n) ≡ n
      wide zero some_n = absurd (omega arith)
      wide (suc n) some_n = omega (arith, length-replicate {A = ℕ} n 0)

    owner_fits : OwnerFits {M = M} (opening_world senders places) (λ p. []) (fresh_owner places)
    owner_fits = record {
      does = record {
        state_is = refl;
        serving_is = λ p inside. sym (get_or-replicate places p serving.Away serving.Away inside);
        serving_wide = length-replicate places serving.Away;
        got_is = refl;
      };
      turns = record {
        turn_here = λ p inside is. absurd (cc);
        turn_held = λ p is. absurd (cc);
        ring_is = λ p is. absurd (cc);
      };
      jobs = record {
        jobs_are = λ p inside. ap (map Rattle.post_core.specs.Records.held_job) (get_or-replicate places p [] [] inside);
        marks_are = λ p inside. subst (λ hs. map Rattle.post_core.specs.Records.held_entry hs ≡ take (length hs) []) (sym (get_or-replicate places p [] [] inside)) refl;
        jobs_wide = length-replicate places [];
      };
      clears = record { clear = λ word is. absurd (let none = replicated 4 false word false refl in cc); noticed = λ p is. absurd (cc) };
    }

    first_fits : Fits {M = M} (opening_world senders places) (λ p. []) (λ t. 0) 0 0 (first_view senders places)
    first_fits = record {
      passes = λ k pass at. let h = fresh_at places 0 senders k pass at in subst (PassFits (opening_world senders places) (λ p. []) (λ t. 0) 0) (ap (fresh_pass places) (let e : k ≡ 0 + k = omega arith in e) ∙ h.1) (fresh_fits k h.0);
      apart = λ k m a b a_at b_at same. let x = ap (λ (v : PassView M). v.number) (fresh_at places 0 senders k a a_at).1 in let y = ap (λ (v : PassView M). v.number) (fresh_at places 0 senders m b b_at).1 in omega arith;
      owner = λ o is. (refl, subst (OwnerFits (opening_world senders places) (λ p. [])) (same (fresh_owner places) o is) owner_fits);
      seen = λ k f at. absurd (some-ne-none f (sym at));
    } where
      same : (a b : OwnerView M) → Some a ≡ Some b → a ≡ b
      same a b is = cc

    module _ {J : Type 0} (meaning : J → M) (suits : ℕ → Mark → M → Type 0) (few_senders : senders ≤ 64) (few_places : places ≤ 256) (words : List ℕ) (shelves : List (RingView (Item J)))
        (words_are : WordsShow places 1 (opening_world senders places).turn (opening_world senders places).sent (λ p. 0) (opening_world senders places).note (opening_world senders places).life (opening_world senders places).mail words)
        (wide : length shelves ≡ places)
        (rings : (p : ℕ) → p < places → (ring : RingView (Item J)) × (get_elem? shelves p ≡ some ring) × (ring.items ≡ [])) where
      pub opens : Shown meaning suits senders places (opening words shelves (first_view senders places))
      opens = record {
        world = opening_world senders places;
        entries = λ p. [];
        seat = λ t. 0;
        chief = 0;
        sized = record { places_are = refl; senders_are = refl; some_place = some_place; few_places = few_places; few_senders = few_senders; few_marks = λ p t. omega arith };
        sound = opening_is_sound senders places some_sender;
        formed = worlds_are_well_formed.opening senders places;
        marks = λ p. refl;
        suited = λ p n e at. absurd (some-ne-none e (sym at));
        words = words_are;
        mail_noted = let none = sum_zero places (λ p. bit false) (λ p at. refl) in rw none refl;
        slots = record {
          wide = length-map shelves some ∙ wide;
          ring_is = λ p near free. let h = rings p near in (h.0, at_map some shelves p h.0 h.1, ap (map (Rattle.post_core.specs.Rule.meant meaning suits senders places)) h.2);
        };
        there = record {
          passes = λ t near. record { view = first_view senders places; at = refl; place = t; pass = fresh_pass places t; there = fresh_there places 0 senders t near ∙ ap (λ i. some (fresh_pass places i)) (let e : 0 + t ≡ t = omega arith in e); number = refl };
          owner = record { view = first_view senders places; at = refl; own = fresh_owner places; is = refl };
        };
        tally = record {
          created = λ t p. 0;
          freed = λ t p. 0;
          balanced = λ p near ne. let a = sum_zero senders (λ t. 0) (λ t below. refl) in let free : bit (not ((if p == 0 then senders + 2 else 0) == 0)) ≡ 0 = ap (λ b. bit (not ((if b then senders + 2 else 0) == 0))) (ne_eqb p 0 ne) in omega arith;
          each = λ j v at k pass a. let h = one_at (first_view senders places) j v at in
              let q = fresh_at places 0 senders k pass (subst (λ (u : View M). get_elem? u.passes k ≡ some pass) (sym h.1) a) in
              subst (PassLives places (λ t p. 0) (λ t p. 0) (λ p. sum_below senders (λ t. 0))) q.1 (record {
                created_are = λ p near. sym (get_or-replicate places p 0 0 near);
                freed_are = λ p near. sym (get_or-replicate places p 0 0 near);
                created_wide = length-replicate {A = ℕ} places 0;
                freed_wide = length-replicate {A = ℕ} places 0;
                found = λ i x x_at. absurd (some-ne-none x (sym x_at));
              });
        };
        views = λ j v at. let h = one_at (first_view senders places) j v at in subst (λ i. Fits (opening_world senders places) (λ p. []) (λ t. 0) 0 i v) (sym h.0) (subst (Fits (opening_world senders places) (λ p. []) (λ t. 0) 0 0) h.1 first_fits);
      } where
        one_at : (a : View M) (k : ℕ) (b : View M) → get_elem? (a ∷ []) k ≡ some b → (k ≡ 0) × (a ≡ b)
        one_at a zero b e = (refl, some-injective a b e)
        one_at a (suc k) b e = absurd (some-ne-none b (sym e))

  -- the first pass of a seat gets a seat of its own
  module _ {J : Type 0} (meaning : J → M) (suits : ℕ → Mark → M → Type 0) (senders places : ℕ) where
    pub deals : (id : ℕ) (v : View M) (pass : PassView M) → get_elem? v.passes 0 ≡ some pass → Splits (Shown meaning suits senders places) id v (dealt v) (first_dealt v)
    deals id v pass first s r at = record {
      world = r.world;
      entries = r.entries;
      seat = seat;
      chief = r.chief;
      sized = r.sized;
      sound = r.sound;
      formed = r.formed;
      marks = r.marks;
      suited = r.suited;
      words = r.words;
      mail_noted = r.mail_noted;
      slots = r.slots;
      views = λ j x is. ⊎_elim
          (λ h. ⊎_elim
          (λ h'. subst (Fits r.world r.entries seat r.chief j) h'.1 (subst (λ i. Fits r.world r.entries seat r.chief i (dealt v)) (sym h'.0) left))
          (λ h'. let f = r.views j x h'.1 in record {
            passes = λ k q a. let g = f.passes k q a in reseated r.world r.entries r.seat seat j j q (upd_else r.seat pass.number (length s.views) q.number (λ e. h'.0 (sym g.sits ∙ (ap r.seat e ∙ mine.sits))) ∙ g.sits) g;
            apart = f.apart;
            owner = f.owner;
            seen = f.seen;
          })
          (at_set s.views id j (dealt v) x h.1))
          (λ h. subst (Fits r.world r.entries seat r.chief j) h.1 (right j (h.0 ∙ length-set s.views id (dealt v))))
          (at_end (set s.views id (dealt v)) (first_dealt v) x j is);
      tally = tally_end senders places r.world.life (set s.views id (dealt v)) (tally_set senders places r.world.life s.views r.tally id (dealt v) (λ k q a. r.tally.each id v at (suc k) q (at_drop v.passes k q a))) (first_dealt v) (λ k q a. r.tally.each id v at 0 q (at_take v.passes k q a).1);
      there = there_dealt senders r.seat r.chief s.views r.there id v (dealt v) (first_dealt v) at pass.number pass (took v.passes first) refl (λ k q a ne. dropped v.passes k q a (λ e. ne (ap (λ (x : PassView M). x.number) (some-injective q pass (sym a ∙ (ap (get_elem? v.passes) e ∙ first)))))) refl;
    } where
      took : (xs : List (PassView M)) → get_elem? xs 0 ≡ some pass → get_elem? (take 1 xs) 0 ≡ some pass
      took [] e = e
      took (y ∷ xs) e = e

      dropped : (xs : List (PassView M)) (k : ℕ) (q : PassView M) → get_elem? xs k ≡ some q → k ≢ 0 → (m : ℕ) × (get_elem? (drop 1 xs) m ≡ some q)
      dropped [] k q a ne = absurd (some-ne-none q (sym a))
      dropped (y ∷ xs) zero q a ne = absurd (ne refl)
      dropped (y ∷ xs) (suc k) q a ne = (k, a)

      seat : ℕ → ℕ
      seat = upd r.seat pass.number (length s.views)

      old : Fits r.world r.entries r.seat r.chief id v
      old = r.views id v at

      mine : PassFits r.world r.entries r.seat id pass
      mine = old.passes 0 pass first

      left : Fits r.world r.entries seat r.chief id (dealt v)
      left = record {
        passes = λ k q a. let a' = at_drop v.passes k q a in let g = old.passes (suc k) q a' in
            reseated r.world r.entries r.seat seat id id q (upd_else r.seat pass.number (length s.views) q.number (λ e. let same = old.apart (suc k) 0 q pass a' first e in omega arith) ∙ g.sits) g;
        apart = λ k m a b a_at b_at same. let e = old.apart (suc k) (suc m) a b (at_drop v.passes k a a_at) (at_drop v.passes m b b_at) same in omega arith;
        owner = old.owner;
        seen = old.seen;
      }

      right : (j : ℕ) → j ≡ length s.views → Fits r.world r.entries seat r.chief j (first_dealt v)
      right j last = record {
        passes = λ k q a. let h = at_take v.passes k q a in let is : pass ≡ q = some-injective pass q (sym first ∙ h.1) in
            subst (PassFits r.world r.entries seat j) is (reseated r.world r.entries r.seat seat id j pass (upd_here r.seat pass.number (length s.views) ∙ sym last) mine);
        apart = λ k m a b a_at b_at same. (at_take v.passes k a a_at).0 ∙ sym (at_take v.passes m b b_at).0;
        owner = λ o is. absurd (cc);
        seen = λ k f a. absurd (some-ne-none f (sym a));
      }
