-- Each sender keeps its pass, and the owner its view, whatever step comes.
use Rattle.std.proofs.Common.{◌≡◌, ◌≢◌, ℕ, Some, None, List, [], ◌∷◌, ◌++◌, length, set, refl, ap, sym, subst, ◌∙◌, length-set}
use mathlib.Core.Logic.{dite}
use mathlib.Core.Option.{some, some-injective}
use native.Mathlib.Decide.{ℕ_discrete}
use lib.ListN.{get_elem?}
use Rattle.atomic_table.proofs.Lists.{at_last, at_longer, set_else, set_here}
use Rattle.proxy_laws.specs.Maps.{upd}
use Rattle.proxy_laws.proofs.Maps.{upd_here, upd_else}
use Rattle.post_core.specs.declared.views.OwnerView.{OwnerView}
use Rattle.post_core.specs.declared.views.PassView.{PassView}
use Rattle.post_core.specs.declared.views.View.{View}
use Rattle.post_core.specs.Rule.{AreThere}
use Rattle.post_core.specs.Views.{either_owner, joined}
use Rattle.post_core.proofs.Members.{at_near}

-- a view still has a pass of each sender of which the other had one, and the owner if that had it
pub record Keeps {M : Type 0} (v v' : View M) : Type 0 where
  pub passes : (k : ℕ) (pass : PassView M) → get_elem? v.passes k ≡ some pass → (m : ℕ) × (pass' : PassView M) × (get_elem? v'.passes m ≡ some pass') × (pass'.number ≡ pass.number)
  pub owner : (o : OwnerView M) → v.owner ≡ Some o → (o' : OwnerView M) × (v'.owner ≡ Some o')

pub keeps_same : {M : Type 0} (v v' : View M) → v'.passes ≡ v.passes → (o : OwnerView M) → v'.owner ≡ Some o → Keeps v v'
keeps_same v v' same o is = record { passes = λ k pass at. (k, pass, subst (λ ps. get_elem? ps k ≡ some pass) (sym same) at, refl); owner = λ x x_is. (o, is) }

pub keeps_one : {M : Type 0} (v v' : View M) (a a' : PassView M) → v.passes ≡ a ∷ [] → v'.passes ≡ a' ∷ [] → a'.number ≡ a.number → v'.owner ≡ v.owner → Keeps v v'
keeps_one v v' a a' is is' number same = record {
  passes = λ k pass at. (0, a', subst (λ ps. get_elem? ps 0 ≡ some a') (sym is') refl, number ∙ ap (λ (x : PassView _). x.number) (Rattle.post_core.proofs.Members.one_at a k pass (subst (λ ps. get_elem? ps k ≡ some pass) is at)));
  owner = λ o o_is. (o, same ∙ o_is);
}

module _ {M : Type 0} (senders : ℕ) (seat : ℕ → ℕ) (chief : ℕ) (views : List (View M)) (o : AreThere senders seat chief views) where
  -- a step of the seat id
  pub there_set : (id : ℕ) (v v' : View M) → get_elem? views id ≡ some v → Keeps v v' → AreThere senders seat chief (set views id v')
  there_set id v v' at keeps = record {
    passes = λ t near. let h = o.passes t near in dite (ℕ_discrete (seat t) id)
        (λ same. let is : h.view ≡ v = some_same h.view v (sym h.at ∙ (ap (get_elem? views) same ∙ at)) in
        let k = keeps.passes h.place h.pass (subst (λ (u : View M). get_elem? u.passes h.place ≡ some h.pass) is h.there) in
        record { view = v'; at = ap (get_elem? (set views id v')) same ∙ set_here views id v' (at_near views id v at); place = k.0; pass = k.1; there = k.2; number = k.3 ∙ h.number })
        (λ ne. record { view = h.view; at = set_else views id (seat t) v' ne ∙ h.at; place = h.place; pass = h.pass; there = h.there; number = h.number });
    owner = let h = o.owner in dite (ℕ_discrete chief id)
        (λ same. let is : h.view ≡ v = some_same h.view v (sym h.at ∙ (ap (get_elem? views) same ∙ at)) in
        let k = keeps.owner h.own (ap (λ (u : View M). u.owner) (sym is) ∙ h.is) in
        record { view = v'; at = ap (get_elem? (set views id v')) same ∙ set_here views id v' (at_near views id v at); own = k.0; is = k.1 })
        (λ ne. record { view = h.view; at = set_else views id chief v' ne ∙ h.at; own = h.own; is = h.is });
  } where
    some_same : (x y : View M) → some x ≡ some y → x ≡ y
    some_same x y e = some-injective x y e

  -- a seat comes that has no pass
  pub there_end : (v : View M) → AreThere senders seat chief (views ++ v ∷ [])
  there_end v = record {
    passes = λ t near. let h = o.passes t near in record { view = h.view; at = at_longer views (v ∷ []) (seat t) h.view h.at; place = h.place; pass = h.pass; there = h.there; number = h.number };
    owner = let h = o.owner in record { view = h.view; at = at_longer views (v ∷ []) chief h.view h.at; own = h.own; is = h.is };
  }

-- the pass of sender t goes from the seat id to a new one
module _ {M : Type 0} (senders : ℕ) (seat : ℕ → ℕ) (chief : ℕ) (views : List (View M)) (o : AreThere senders seat chief views) (id : ℕ) (v left right : View M) (at : get_elem? views id ≡ some v) (t : ℕ) (a : PassView M) (first : get_elem? right.passes 0 ≡ some a) (number : a.number ≡ t)
    (others : (k : ℕ) (pass : PassView M) → get_elem? v.passes k ≡ some pass → pass.number ≢ t → (m : ℕ) × (get_elem? left.passes m ≡ some pass)) (owner_same : left.owner ≡ v.owner) where
  pub there_dealt : AreThere senders (upd seat t (length views)) chief (set views id left ++ right ∷ [])
  there_dealt = record {
    passes = λ u near. dite (ℕ_discrete u t)
        (λ same. record { view = right; at = ap (get_elem? (set views id left ++ right ∷ [])) (ap (upd seat t (length views)) same ∙ upd_here seat t (length views)) ∙ at_last (set views id left) right (length views) (length-set views id left); place = 0; pass = a; there = first; number = number ∙ sym same })
        (λ ne. let h = o.passes u near in let here : upd seat t (length views) u ≡ seat u = upd_else seat t (length views) u ne in dite (ℕ_discrete (seat u) id)
        (λ is. let same : h.view ≡ v = some-injective h.view v (sym h.at ∙ (ap (get_elem? views) is ∙ at)) in
        let k = others h.place h.pass (subst (λ (x : View M). get_elem? x.passes h.place ≡ some h.pass) same h.there) (λ e. ne (sym h.number ∙ e)) in
        record { view = left; at = ap (get_elem? (set views id left ++ right ∷ [])) (here ∙ is) ∙ at_longer (set views id left) (right ∷ []) id left (set_here views id left (at_near views id v at)); place = k.0; pass = h.pass; there = k.1; number = h.number })
        (λ differ. record { view = h.view; at = ap (get_elem? (set views id left ++ right ∷ [])) here ∙ at_longer (set views id left) (right ∷ []) (seat u) h.view (set_else views id (seat u) left differ ∙ h.at); place = h.place; pass = h.pass; there = h.there; number = h.number }));
    owner = let h = o.owner in dite (ℕ_discrete chief id)
        (λ is. let same : h.view ≡ v = some-injective h.view v (sym h.at ∙ (ap (get_elem? views) is ∙ at)) in
        record { view = left; at = ap (get_elem? (set views id left ++ right ∷ [])) is ∙ at_longer (set views id left) (right ∷ []) id left (set_here views id left (at_near views id v at)); own = h.own; is = owner_same ∙ (ap (λ (x : View M). x.owner) (sym same) ∙ h.is) })
        (λ differ. record { view = h.view; at = at_longer (set views id left) (right ∷ []) chief h.view (set_else views id chief left differ ∙ h.at); own = h.own; is = h.is });
  }

-- the passes of the seat `other` go to the seat id
module _ {M : Type 0} (senders : ℕ) (seat seat' : ℕ → ℕ) (chief : ℕ) (views : List (View M)) (o : AreThere senders seat chief views) (id other : ℕ) (v u spent : View M) (ne : other ≢ id) (at : get_elem? views id ≡ some v) (at' : get_elem? views other ≡ some u) (none : u.owner ≡ None)
    (to_id : (t : ℕ) → seat t ≡ other → seat' t ≡ id) (to_same : (t : ℕ) → seat t ≢ other → seat' t ≡ seat t) where
  abbrev all : List (View M)
  all = set (set views id (joined v u)) other spent

  at_id : get_elem? all id ≡ some (joined v u)
  at_id = set_else (set views id (joined v u)) other id spent (λ e. ne (sym e)) ∙ set_here views id (joined v u) (at_near views id v at)

  pub there_joined : AreThere senders seat' chief all
  there_joined = record {
    passes = λ t near. let h = o.passes t near in dite (ℕ_discrete (seat t) other)
        (λ is. let same : h.view ≡ u = some-injective h.view u (sym h.at ∙ (ap (get_elem? views) is ∙ at')) in
        let k = Rattle.post_core.proofs.Folded.at_right v.passes u.passes h.place h.pass (subst (λ (x : View M). get_elem? x.passes h.place ≡ some h.pass) same h.there) in
        record { view = joined v u; at = ap (get_elem? all) (to_id t is) ∙ at_id; place = k.0; pass = h.pass; there = k.1; number = h.number })
        (λ differ. dite (ℕ_discrete (seat t) id)
        (λ is. let same : h.view ≡ v = some-injective h.view v (sym h.at ∙ (ap (get_elem? views) is ∙ at)) in
        record { view = joined v u; at = ap (get_elem? all) (to_same t differ ∙ is) ∙ at_id; place = h.place; pass = h.pass; there = Rattle.post_core.proofs.Folded.at_left v.passes u.passes h.place h.pass (subst (λ (x : View M). get_elem? x.passes h.place ≡ some h.pass) same h.there); number = h.number })
        (λ far. record { view = h.view; at = ap (get_elem? all) (to_same t differ) ∙ (set_else (set views id (joined v u)) other (seat t) spent differ ∙ (set_else views id (seat t) (joined v u) far ∙ h.at)); place = h.place; pass = h.pass; there = h.there; number = h.number }));
    owner = let h = o.owner in dite (ℕ_discrete chief other)
        (λ is. let same : h.view ≡ u = some-injective h.view u (sym h.at ∙ (ap (get_elem? views) is ∙ at')) in
        absurd (let e : None ≡ Some h.own = sym none ∙ (ap (λ (x : View M). x.owner) (sym same) ∙ h.is) in cc))
        (λ differ. dite (ℕ_discrete chief id)
        (λ is. let same : h.view ≡ v = some-injective h.view v (sym h.at ∙ (ap (get_elem? views) is ∙ at)) in
        record { view = joined v u; at = ap (get_elem? all) is ∙ at_id; own = h.own; is = ap (λ x. either_owner x u.owner) (ap (λ (x : View M). x.owner) (sym same) ∙ h.is) })
        (λ far. record { view = h.view; at = set_else (set views id (joined v u)) other chief spent differ ∙ (set_else views id chief (joined v u) far ∙ h.at); own = h.own; is = h.is }));
  }
