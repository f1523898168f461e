-- The passes of a target's senders and their uses, as they are made and as they send.
use Rattle.std.proofs.Common.{◌≡◌, ℕ, zero, suc, ◌<◌, List, [], ◌∷◌, ◌++◌, length, map, get_or, take, drop, refl, arith, ap, sym, subst, ◌∙◌, length-append}
use Rattle.std.specs.Prelude.{All, slice_index}
use Rattle.std.proofs.Math.ListN.{get_or-append}
use Rattle.std.proofs.Math.Seq.{get_or-append_seam}
use Rattle.std.proofs.lemmas.List.{get_or-map, length-map}
use mathlib.Core.Logic.{dite}
use native.Mathlib.Decide.{ℕ_discrete}
use Rattle.post_core.specs.declared.meant.Meant.{Ghosts}
use Rattle.post_core.specs.declared.post.PlaceUse.{PlaceUse}
use Rattle.post_core.specs.declared.post.Post.{Post}
use Rattle.post_core.specs.declared.post.SendPass.{SendPass}
use Rattle.post_core.specs.declared.views.Kept.{Kept}
use Rattle.post_core.specs.declared.views.View.{View}
use Rattle.post_core.specs.Ending.{AreEach}
use Rattle.post_core.specs.Making.{fresh_view, system_uses}
use Rattle.post_core.specs.SendParts.{IsPassOf, pass_sender, pass_view, post_places, post_senders, post_target}
use Rattle.post_core.specs.Views.{first_uses, pass_of}
use Rattle.proxy_queue.specs.declared.queue_set.SetParts.{SetParts}
use Rattle.proxy_queue.specs.Sets.{AreSetParts, set_post}
use Rattle.queue_tests.proofs.Fresh.{none_listed}
use Rattle.queue_tests.specs.Scenes.{AreAllPasses, HasClonedNone, HasSentNone, KeepsUses, MayAllSend, MayPut, MaySend}

module _ {J M : Type 0} where
  -- a use is good as long as the pass keeps its uses
  pub still_may : (post : Post J M) (v w : View M) (u : PlaceUse J) → KeepsUses v w → MayPut post v u → MayPut post w u
  still_may post v w u same may = (
    may.0,
    record {
      of = (may.1.of.0, may.1.of.1 ∙ sym same.0);
      used = subst (λ l. 0 < slice_index l u.place) (sym same.1) may.1.used;
    },
  )

  module _ {g : Ghosts J M} (post : Post J M) where
    pub append_all : (ps : List (SendPass J M g)) (us : List (PlaceUse J)) (p : SendPass J M g) (u : PlaceUse J) → MayAllSend post ps us → MaySend post p u → MayAllSend post (ps ++ p ∷ []) (us ++ u ∷ [])
    append_all [] [] p u all may = (may, tt)
    append_all [] (x ∷ us) p u all may = absurd all
    append_all (q ∷ ps) [] p u all may = absurd all
    append_all (q ∷ ps) (x ∷ us) p u all may = (all.0, append_all ps us p u all.1 may)

    pub split_all : (ps : List (SendPass J M g)) (p : SendPass J M g) (us : List (PlaceUse J)) → MayAllSend post (ps ++ p ∷ []) us
        → (u : PlaceUse J) × MayAllSend post ps (take (length ps) us) × (drop (length ps) us ≡ u ∷ []) × MaySend post p u
    split_all [] p [] all = absurd all
    split_all [] p (u ∷ []) all = (u, tt, refl, all.0)
    split_all [] p (u ∷ x ∷ us) all = absurd all.1
    split_all (q ∷ ps) p [] all = absurd all
    split_all (q ∷ ps) p (x ∷ us) all = let rest = split_all ps p us all.1 in (rest.0, (all.0, rest.1), rest.2, rest.3)

    pub numbers_same : (ps qs : List (SendPass J M g)) (us : List (PlaceUse J)) → MayAllSend post ps us → MayAllSend post qs us → map (λ pass. pass_sender pass) ps ≡ map (λ pass. pass_sender pass) qs
    numbers_same [] [] us a b = refl
    numbers_same [] (q ∷ qs) [] a b = absurd b
    numbers_same [] (q ∷ qs) (u ∷ us) a b = absurd a
    numbers_same (p ∷ ps) [] [] a b = absurd a
    numbers_same (p ∷ ps) [] (u ∷ us) a b = absurd b
    numbers_same (p ∷ ps) (q ∷ qs) [] a b = absurd a
    numbers_same (p ∷ ps) (q ∷ qs) (u ∷ us) a b = let rest = numbers_same ps qs us a.1 b.1 in λ i. (sym a.0.1.1.of.1 ∙ b.0.1.1.of.1) i ∷ rest i

    pub all_of : (ps : List (SendPass J M g)) (us : List (PlaceUse J)) → MayAllSend post ps us → All (λ pass. IsPassOf post pass) ps
    all_of [] us a k d near = absurd (omega arith)
    all_of (p ∷ ps) [] a k d near = absurd a
    all_of (p ∷ ps) (u ∷ us) a zero d near = a.0.0
    all_of (p ∷ ps) (u ∷ us) a (suc k) d near = all_of ps us a.1 k d (omega arith)

    -- passes that sent are still all passes
    pub all_still : (ps qs : List (SendPass J M g)) (us : List (PlaceUse J)) → MayAllSend post ps us → MayAllSend post qs us → AreAllPasses post ps → AreAllPasses post qs
    all_still ps qs us a b all = (all_of qs us b, subst (AreEach (post_senders post)) (numbers_same ps qs us a b) all.1)

    pub all_by_each : (ps : List (SendPass J M g)) (us : List (PlaceUse J)) → length ps ≡ length us → ((k : ℕ) (d : SendPass J M g) (e : PlaceUse J) → k < length ps → MaySend post (get_or ps k d) (get_or us k e)) → MayAllSend post ps us
    all_by_each [] [] same each = tt
    all_by_each [] (u ∷ us) same each = absurd (omega arith)
    all_by_each (p ∷ ps) [] same each = absurd (omega arith)
    all_by_each (p ∷ ps) (u ∷ us) same each = (each 0 p u (omega arith), all_by_each ps us (omega arith) (λ k d e near. each (suc k) d e (omega arith)))

    -- of one sender there is one pass and one use
    pub only_count : (ps : List (SendPass J M g)) → AreAllPasses post ps → post_senders post ≡ 1 → length ps ≡ 1
    only_count ps all one = sym (length-map ps (λ pass. pass_sender pass)) ∙ (all.1.0 ∙ one)

    pub only_may : (xs ps : List (SendPass J M g)) (ys us : List (PlaceUse J)) (p : SendPass J M g) (u : PlaceUse J) → MayAllSend post xs ys → xs ≡ ps ++ p ∷ [] → ys ≡ us ++ u ∷ [] → length xs ≡ 1 → MaySend post p u
    only_may xs [] ys us p u all xs_are ys_are one = at us (subst (λ (x : List (SendPass J M g) × List (PlaceUse J)). MayAllSend post x.0 x.1) (λ i. (xs_are i, ys_are i)) all) where
      at : (vs : List (PlaceUse J)) → MayAllSend post (p ∷ []) (vs ++ u ∷ []) → MaySend post p u
      at [] may = may.0
      at (v ∷ []) may = absurd may.1
      at (v ∷ w ∷ vs) may = absurd may.1
    only_may xs (q ∷ ps) ys us p u all xs_are ys_are one = absurd (let long = ap length xs_are in omega (arith, length-append ps (p ∷ [])))

    pub only_all : (xs ps : List (SendPass J M g)) (p : SendPass J M g) → AreAllPasses post xs → xs ≡ ps ++ p ∷ [] → length xs ≡ 1 → AreAllPasses post (p ∷ [])
    only_all xs [] p all xs_are one = subst (AreAllPasses post) xs_are all
    only_all xs (q ∷ ps) p all xs_are one = absurd (let long = ap length xs_are in omega (arith, length-append ps (p ∷ [])))

module _ (J : Type 0) (target : ℕ) where
  system_count : (n : ℕ) → length (system_uses {J = J} target n) ≡ n
  system_count zero = refl
  system_count (suc n) = let before = system_count n in omega (arith, length-append (system_uses {J = J} target n) (record { target = target; place = 0; sender = n; marker = record {} } ∷ []))

  system_at : (n k : ℕ) (e : PlaceUse J) → k < n → get_or (system_uses {J = J} target n) k e ≡ record { target = target; place = 0; sender = k; marker = record {} }
  system_at zero k e near = absurd (omega arith)
  system_at (suc n) k e near = dite (ℕ_discrete k n)
      (λ last. ap (λ i. get_or (system_uses target n ++ record { target = target; place = 0; sender = n; marker = record {} } ∷ []) i e) (last ∙ sym (system_count n))
      ∙ (get_or-append_seam (system_uses target n) (record { target = target; place = 0; sender = n; marker = record {} }) [] e
      ∙ ap (λ s. record { target = target; place = 0; sender = s; marker = record {} }) (sym last)))
      (λ before. get_or-append (system_uses target n) (record { target = target; place = 0; sender = n; marker = record {} } ∷ []) e k (let count = system_count n in omega arith) ∙ system_at n k e (omega arith))

some_use : (places : ℕ) → 0 < places → 0 < slice_index (first_uses places) 0
some_use zero near = absurd (omega arith)
some_use (suc n) near = omega arith

none_there : (M : Type 0) (places k : ℕ) → HasSentNone {M = M} (fresh_view places k)
none_there M places k p = let none = ap length (none_listed {X = Kept M} places p) in omega arith

-- the parts of a target as they are made
module _ {J M : Type 0} {g : Ghosts J M} (made : SetParts J M g) (target senders places : ℕ) (target_is : post_target (set_post made.set) ≡ target) (senders_are : post_senders (set_post made.set) ≡ senders) (places_are : post_places (set_post made.set) ≡ places) (some_place : 0 < places)
    (parts : AreSetParts senders places made) (system_is : made.system.items ≡ system_uses target senders) where
  count : length made.passes.items ≡ senders
  count = sym (length-map made.passes.items (λ pass. pass_view pass)) ∙ parts.passes.count

  view_at : (k : ℕ) (d : SendPass J M g) → k < length made.passes.items → pass_view (get_or made.passes.items k d) ≡ fresh_view places k
  view_at k d near = sym (get_or-map (λ pass. pass_view pass) made.passes.items k d (pass_view d) near) ∙ parts.passes.fresh k (pass_view d) (let n = count in omega arith)

  may_at : (k : ℕ) (d : SendPass J M g) (e : PlaceUse J) → k < length made.passes.items → MaySend (set_post made.set) (get_or made.passes.items k d) (get_or made.system.items k e)
  may_at k d e near = (
    parts.tables k d near,
    subst (λ (x : View M × PlaceUse J). MayPut (set_post made.set) x.0 x.1) (λ i. (sym (view_at k d near) i, sym (ap (λ us. get_or us k e) system_is ∙ system_at J target senders k e (let n = count in omega arith)) i))
        ((let p = places_are in omega arith), record { of = (sym target_is, refl); used = some_use places some_place }),
  )

  pub may_all : MayAllSend (set_post made.set) made.passes.items made.system.items
  may_all = all_by_each (set_post made.set) made.passes.items made.system.items (count ∙ (sym (system_count J target senders) ∙ ap length (sym system_is))) may_at

  pub are_all : AreAllPasses (set_post made.set) made.passes.items
  are_all = (
    parts.tables,
    (length-map made.passes.items (λ pass. pass_sender pass) ∙ (count ∙ sym senders_are), λ k near. number k (let s = senders_are in let n = count in omega arith)),
  ) where
    number : (k : ℕ) → k < length made.passes.items → get_or (map (λ pass. pass_sender pass) made.passes.items) k 0 ≡ k
    number k near = at made.passes.items k near (λ d. view_at k d near) where
      at : (ps : List (SendPass J M g)) (m : ℕ) → m < length ps → ((d : SendPass J M g) → pass_view (get_or ps m d) ≡ fresh_view places k) → get_or (map (λ pass. pass_sender pass) ps) m 0 ≡ k
      at [] m inside is = absurd (omega arith)
      at (p ∷ ps) zero inside is = ap (λ v. (pass_of v).number) (is p)
      at (p ∷ ps) (suc m) inside is = at ps m (omega arith) is

  -- no pass has put a job, or cloned a use
  pub none_sent : All (λ pass. HasSentNone (pass_view pass)) made.passes.items
  none_sent k d near = subst (λ (v : View M). HasSentNone v) (sym (view_at k d near)) (none_there M places k)

  pub none_cloned : All (λ pass. HasClonedNone (pass_view pass)) made.passes.items
  none_cloned k d near = ap (λ v. (pass_of v).clones) (view_at k d near)
