-- What a step leaves as it was.
use Rattle.post_core.specs.declared.slots.Item.{Item}
use Rattle.task_ring.specs.Ring.{RingView}
use Rattle.std.proofs.Common.{◌≡◌, ◌≢◌, ℕ, zero, suc, ◌-◌, ◌<◌, Option, Some, None, List, [], ◌∷◌, ◌++◌, length, set, drop, refl, ap, sym, subst, ◌∙◌, ⊎_elim}
use Rattle.std.specs.Prelude.{IsTrue}
use Rattle.std.proofs.lemmas.List.{get_or-set_same, get_or-set_other}
use mathlib.Core.Option.{some, some-injective, some-ne-none}
use lib.ListN.{get_elem?}
use Rattle.atomic_table.proofs.Lists.{at_set}
use Rattle.proxy_laws.specs.declared.actors.Actor.{Actor}
use Rattle.proxy_laws.specs.declared.records.Mark.{Mark}
use Rattle.proxy_laws.specs.Phases.{has_turn_at}
use Rattle.proxy_laws.specs.Worlds.{WorldState}
use Rattle.post_core.specs.declared.views.Entry.{Entry}
use Rattle.post_core.specs.declared.views.Fact.{Fact}
use Rattle.post_core.specs.declared.views.OwnerView.{OwnerView}
use Rattle.post_core.specs.declared.views.PassView.{PassView}
use Rattle.post_core.specs.declared.views.View.{View}
use Rattle.post_core.specs.Kept.{listed}
use Rattle.post_core.specs.Rule.{Fits, IsSo, OwnerFits, OwnerTurns, PassFits, PassTurns, SlotsHold}
use Rattle.post_core.proofs.Members.{at_append}

module _ {X : Type 0} (xs : List (List X)) (p : ℕ) (x : List X) where
  pub listed_here : p < length xs → listed (set xs p x) p ≡ x
  listed_here near = get_or-set_same xs p x [] near

  pub listed_else : (q : ℕ) → q ≢ p → listed (set xs p x) q ≡ listed xs q
  listed_else q ne = get_or-set_other xs p q x [] ne

-- A step changes the view v of the seat id to v'. What each other view says has to stay so.
module _ {M : Type 0} (w w' : WorldState) (entries entries' : ℕ → List (Entry M)) (seat : ℕ → ℕ) (chief : ℕ) (views : List (View M)) (fits : (j : ℕ) (x : View M) → get_elem? views j ≡ some x → Fits w entries seat chief j x) (id : ℕ) (v v' : View M) (at : get_elem? views id ≡ some v)
    (facts : (f : Fact M) → IsSo w.places w.refs entries w.jobs f → IsSo w'.places w'.refs entries' w'.jobs f) (more : List (Fact M)) (seen_is : v'.seen ≡ v.seen ++ more) (news : (k : ℕ) (f : Fact M) → get_elem? more k ≡ some f → IsSo w'.places w'.refs entries' w'.jobs f) where
  seen_after : (k : ℕ) (f : Fact M) → get_elem? v'.seen k ≡ some f → IsSo w'.places w'.refs entries' w'.jobs f
  seen_after k f is = ⊎_elim
      (λ h. facts f ((fits id v at).seen k f h.1))
      (λ h. news (k - length v.seen) f h.1)
      (at_append v.seen more k f (subst (λ fs. get_elem? fs k ≡ some f) seen_is is))

  -- a step of the owner
  pub owner_views : (o o' : OwnerView M) → v.owner ≡ Some o → v'.owner ≡ Some o' → v'.passes ≡ v.passes
      → ((j : ℕ) (pass : PassView M) → PassFits w entries seat j pass → PassFits w' entries' seat j pass) → OwnerFits w' entries' o'
      → (j : ℕ) (x : View M) → get_elem? (set views id v') j ≡ some x → Fits w' entries' seat chief j x
  owner_views o o' is is' same others own j x there = ⊎_elim
      (λ h. subst (λ y. Fits w' entries' seat chief j y) h.1 (subst (λ i. Fits w' entries' seat chief i v') (sym h.0) (record {
        passes = λ k pass a. others id pass ((fits id v at).passes k pass (subst (λ ps. get_elem? ps k ≡ some pass) same a));
        apart = λ k m a b a_at b_at. (fits id v at).apart k m a b (subst (λ ps. get_elem? ps k ≡ some a) same a_at) (subst (λ ps. get_elem? ps m ≡ some b) same b_at);
        owner = λ z z_is. (((fits id v at).owner o is).0, subst (OwnerFits w' entries') (some_same o' z (sym is' ∙ z_is)) own);
        seen = seen_after;
      })))
      (λ h. let f = fits j x h.1 in record {
        passes = λ k pass a. others j pass (f.passes k pass a);
        apart = f.apart;
        owner = λ z z_is. absurd (h.0 (sym (f.owner z z_is).0 ∙ ((fits id v at).owner o is).0));
        seen = λ k y y_at. facts y (f.seen k y y_at);
      })
      (at_set views id j v' x there) where
        some_same : {X : Type 0} (x y : X) → Some x ≡ Some y → x ≡ y
        some_same x y e = cc

  -- a step of a pass
  pub pass_views : (pass pass' : PassView M) → v.passes ≡ pass ∷ [] → v'.passes ≡ pass' ∷ [] → v'.owner ≡ v.owner
      → ((j : ℕ) (q : PassView M) → q.number ≢ pass.number → PassFits w entries seat j q → PassFits w' entries' seat j q) → PassFits w' entries' seat id pass'
      → ((o : OwnerView M) → OwnerFits w entries o → OwnerFits w' entries' o)
      → (j : ℕ) (x : View M) → get_elem? (set views id v') j ≡ some x → Fits w' entries' seat chief j x
  pass_views pass pass' is is' same others own owners j x there = ⊎_elim
      (λ h. subst (λ y. Fits w' entries' seat chief j y) h.1 (subst (λ i. Fits w' entries' seat chief i v') (sym h.0) (record {
        passes = λ k q a. subst (PassFits w' entries' seat id) (one_at pass' k q (subst (λ ps. get_elem? ps k ≡ some q) is' a)).1 own;
        apart = λ k m a b a_at b_at e. (one_at pass' k a (subst (λ ps. get_elem? ps k ≡ some a) is' a_at)).0 ∙ sym (one_at pass' m b (subst (λ ps. get_elem? ps m ≡ some b) is' b_at)).0;
        owner = λ z z_is. let f = (fits id v at).owner z (sym same ∙ z_is) in (f.0, owners z f.1);
        seen = seen_after;
      })))
      (λ h. let f = fits j x h.1 in record {
        passes = λ k q a. let g = f.passes k q a in others j q (λ e. h.0 (sym g.sits ∙ (ap seat e ∙ mine.sits))) g;
        apart = f.apart;
        owner = λ z z_is. let g = f.owner z z_is in (g.0, owners z g.1);
        seen = λ k y y_at. facts y (f.seen k y y_at);
      })
      (at_set views id j v' x there) where
        one_at : (a : PassView M) (k : ℕ) (b : PassView M) → get_elem? (a ∷ []) k ≡ some b → (k ≡ 0) × (a ≡ b)
        one_at a zero b e = (refl, some-injective a b e)
        one_at a (suc k) b e = absurd (some-ne-none b (sym e))

        mine : PassFits w entries seat id pass
        mine = (fits id v at).passes 0 pass (subst (λ ps. get_elem? ps 0 ≡ some pass) (sym is) refl)

-- Other numbers of jobs taken, where no ring is at home or held
module _ {M : Type 0} (n : ℕ) (turn : ℕ → Option Actor) (taken taken' : ℕ → ℕ) (entries : ℕ → List (Entry M)) where
  pub slots_taken : {J : Type 0} (meaning : J → M) (suits : ℕ → Mark → M → Type 0) (senders : ℕ) (homes : List (mathlib.Core.Option.Option (RingView (Item J)))) → ((q : ℕ) → q < n → turn q ≡ None → taken' q ≡ taken q)
      → SlotsHold meaning suits senders n turn taken entries homes → SlotsHold meaning suits senders n turn taken' entries homes
  slots_taken meaning suits senders homes same o = record {
    wide = o.wide;
    ring_is = λ q near free. let h = o.ring_is q near free in (h.0, h.1, h.2 ∙ ap (λ k. drop k (entries q)) (sym (same q near free)));
  }

  pub pass_taken : (v : PassView M) → ((q : ℕ) → q < n → IsTrue (has_turn_at q v.phase) → taken' q ≡ taken q) → PassTurns n turn taken entries v → PassTurns n turn taken' entries v
  pass_taken v same o = record {
    turn_here = o.turn_here;
    ring_is = λ q near has. o.ring_is q near has ∙ ap (λ k. drop k (entries q)) (sym (same q near has));
  }

  pub owner_taken : (v : OwnerView M) → ((q : ℕ) → q < n → taken' q ≡ taken q) → OwnerTurns n turn taken entries v → OwnerTurns n turn taken' entries v
  owner_taken v same o = record {
    turn_here = o.turn_here;
    turn_held = o.turn_held;
    ring_is = λ q is. o.ring_is q is ∙ ap (λ k. drop k (entries q)) (sym (same q (o.turn_held q is).0));
  }
