-- A put from the turn on: the job is pushed, counted, and the turn given back.
use Rattle.std.proofs.Common.{◌≡◌, ℕ, ◌+◌, ◌<◌, Some, None, List, [], ◌∷◌, ◌++◌, if◌then◌else◌, length, map, get_or, set, refl, ap, sym, subst, ◌∙◌}
use Rattle.std.specs.Prelude.{IsTrue, slice_set}
use Rattle.std.proofs.lemmas.Bool.{eq-eqb}
use Rattle.std.proofs.lemmas.List.{length-map, map-append, map-set, get_or-map as row_of}
use Rattle.std.proofs.Math.ListN.{get_or-map}
use Rattle.std.proofs.Math.Seq.{map-set_same}
use Rattle.atomic_table.specs.Table.{Me, rest}
use Rattle.task_ring.specs.Ring.{RingView}
use Rattle.proxy_laws.specs.declared.actors.Phase.{Phase}
use Rattle.proxy_laws.specs.declared.actors.Phase.TheVariants as phase
use Rattle.proxy_laws.specs.declared.records.OwnMark.{OwnMark}
use Rattle.proxy_laws.specs.Phases.{has_turn_at, phase_after_give}
use Rattle.post_core.specs.declared.slots.Item.{Item}
use Rattle.post_core.specs.declared.views.Entry.{Entry}
use Rattle.post_core.specs.declared.views.Fact.TheVariants as fact
use Rattle.post_core.specs.declared.views.View.{View}
use Rattle.post_core.specs.Kept.{kept, listed}
use Rattle.post_core.specs.Parts.{IsPass}
use Rattle.post_core.specs.Records.{own_mark}
use Rattle.post_core.specs.SendSteps.{IsNextAt, job_sent, last_pushed, meant_item, place_given, place_taken}
use Rattle.post_core.specs.Steps.{all_meant}
use Rattle.post_core.specs.Views.{IsPassView, job_put, pass_of}

pub last_after : {X : Type 0} (xs : List X) (x : X) → last_pushed (xs ++ x ∷ []) ≡ Some x
last_after [] x = refl
last_after (y ∷ []) x = refl
last_after (y ∷ z ∷ zs) x = last_after (z ∷ zs) x

abbrev first_ring : {J : Type 0} → RingView (Item J) → List (ℕ × RingView (Item J)) → RingView (Item J)
first_ring other [] = other
first_ring other (slot ∷ slots) = slot.1

module _ {J M : Type 0} (meaning : J → M) (p : ℕ) (item : Item J) (v : View M) where
  -- the seat has the turn of p, and the job is last in its ring but not yet counted
  pub record IsPushed (m : Me (RingView (Item J)) (View M)) : Type 0 where
    pub ring : List (Entry M)
    pub grown : RingView (Item J)
    pub is : m ≡ (place_taken p ring v, (p, grown) ∷ [])
    pub last : last_pushed grown.items ≡ Some item
    pub meant : all_meant meaning grown.items ≡ ring ++ meant_item meaning item ∷ []

  same_ring : (x y : RingView (Item J)) (held : List (ℕ × RingView (Item J))) → (p, x) ∷ held ≡ (p, y) ∷ [] → x ≡ y
  same_ring x y held e = ap (first_ring x) e

  -- it was pushed where the turn had just been taken
  pub pushes : (m m' : Me (RingView (Item J)) (View M)) (ring : RingView (Item J)) (held : List (ℕ × RingView (Item J))) → m ≡ (place_taken p (all_meant meaning ring.items) v, (p, ring) ∷ held)
      → (before grown : RingView (Item J)) → m.1 ≡ (p, before) ∷ [] → grown.items ≡ before.items ++ item ∷ [] → m' ≡ (m.0, (p, grown) ∷ []) → IsPushed m'
  pushes m m' ring held m_is before grown at grown_is m'_is = let same = same_ring ring before held (sym (ap (λ x. x.1) m_is) ∙ at) in record {
    ring = all_meant meaning ring.items;
    grown = grown;
    is = m'_is ∙ ap (λ (x : Me (RingView (Item J)) (View M)). (x.0, (p, grown) ∷ [])) m_is;
    last = ap last_pushed grown_is ∙ last_after before.items item;
    meant = ap (all_meant meaning) grown_is ∙ (map-append (meant_item meaning) before.items (item ∷ []) ∙ ap (λ (x : RingView (Item J)). all_meant meaning x.items ++ meant_item meaning item ∷ []) (sym same));
  }

  -- once it is counted under the number n
  module _ (n : ℕ) (m m' : Me (RingView (Item J)) (View M)) (o : IsPushed m) (counted : m' ≡ (job_put p n (meant_item meaning item) m.0, m.1)) (none : v.owner ≡ None) where
    counted_is : m' ≡ (job_put p n (meant_item meaning item) (place_taken p o.ring v), (p, o.grown) ∷ [])
    counted_is = counted ∙ ap (λ (x : Me (RingView (Item J)) (View M)). (job_put p n (meant_item meaning item) x.0, x.1)) o.is

    pub has_turn : IsPassView m'.0 × IsTrue (has_turn_at p (pass_of m'.0).phase)
    has_turn = subst (λ (x : Me (RingView (Item J)) (View M)). IsPassView x.0 × IsTrue (has_turn_at p (pass_of x.0).phase)) (sym counted_is) ((refl, none), eq-eqb p p refl)

    pub holds_ring : (x : RingView (Item J)) × (m'.1 ≡ (p, x) ∷ rest m'.1) × (all_meant meaning x.items ≡ (pass_of m'.0).ring)
    holds_ring = subst (λ (y : Me (RingView (Item J)) (View M)). (x : RingView (Item J)) × (y.1 ≡ (p, x) ∷ rest y.1) × (all_meant meaning x.items ≡ (pass_of y.0).ring)) (sym counted_is) (o.grown, refl, o.meant)

    -- and the turn is given back
    pub sent_is : (last : Me (RingView (Item J)) (View M)) → last ≡ (place_given p m'.0, rest m'.1) → last ≡ (job_sent p n (meant_item meaning item) v, [])
    sent_is last is = is ∙ (ap (λ (x : Me (RingView (Item J)) (View M)). (place_given p x.0, rest x.1)) counted_is ∙ (λ i. (
      record v {
        passes = record (pass_of v) { phase = owing i; own = slice_set (pass_of v).own p (listed (pass_of v).own p ++ kept n (meant_item meaning item) ∷ []); ring = [] } ∷ [];
        seen = v.seen ++ fact.Reached p (n + 1) ∷ [];
      },
      [],
    ))) where
      owing : phase_after_give p (phase.Put p) ≡ phase.Owing p
      owing = ap (λ b. if b then phase.Owing p else phase.Put p) (eq-eqb p p refl)

  pub next_before : (n : ℕ) (m : Me (RingView (Item J)) (View M)) (o : IsPushed m) → IsNextAt p n m.0 → IsNextAt p n v
  next_before n m o next = let here = subst (λ (x : Me (RingView (Item J)) (View M)). IsNextAt p n x.0) o.is next in record { own = here.own; seen = here.seen }

-- what the run-time lists of marks say, each of which is a row with its items
module _ {M K : Type 0} (items : K → List OwnMark) (rows : List K) (p : ℕ) (near : p < length rows) (sender : ℕ) (ph : Phase) (v : View M) (o : IsPass sender ph (map items rows) v) (d : K) where
  row_is : items (get_or rows p d) ≡ map own_mark (listed (pass_of v).own p)
  row_is = sym (row_of items rows p d [] near) ∙ (ap (λ (ks : List (List OwnMark)). listed ks p) (sym o.own_is) ∙ get_or-map (λ ks. map own_mark ks) (pass_of v).own p [])

  -- a row has as many marks as the pass keeps
  pub row_count : length (items (get_or rows p d)) ≡ length (listed (pass_of v).own p)
  row_count = ap length row_is ∙ length-map (listed (pass_of v).own p) own_mark

  -- a row with the mark of a job that was put
  pub sent_pass : (row : K) (n : ℕ) (e : Entry M) → items row ≡ items (get_or rows p d) ++ own_mark (kept n e) ∷ [] → IsPass sender (phase.Owing p) (map items (set rows p row)) (job_sent p n e v)
  sent_pass row n e is = record {
    view = (refl, o.view.1);
    number = o.number;
    phase_is = refl;
    own_is = map-set (λ ks. map own_mark ks) (pass_of v).own p (listed (pass_of v).own p ++ kept n e ∷ []) ∙ (ap (set (map (λ ks. map own_mark ks) (pass_of v).own) p) (map-append own_mark (listed (pass_of v).own p) (kept n e ∷ []))
        ∙ ((λ i. set (o.own_is i) p ((sym row_is) i ++ own_mark (kept n e) ∷ [])) ∙ (ap (set (map items rows) p) (sym is) ∙ sym (map-set items rows p row))));
    no_ring = refl;
    no_look = o.no_look;
  }

  -- a row that has the same items
  pub same_rows : (row : K) → items row ≡ items (get_or rows p d) → map items (set rows p row) ≡ map items rows
  same_rows row is = map-set_same items rows p row d is
