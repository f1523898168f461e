-- Ways up a tree.
use Rattle.std.proofs.Common.{◌≡◌, ◌≢◌, ℕ, ◌<◌, ◌≤◌, ◌+◌, ◌-◌, ◌==◌, zero, suc, Bool, true, false, if◌then◌else◌, ◌⊎◌, inl, inr, length, Option, None, Some, refl, sym, ap, ◌∙◌, arith}
use Rattle.std.proofs.lemmas.Bool.{cases_lt}
use Rattle.std.proofs.lemmas.Bool.Decides.{nat_tests}
use Rattle.name_store.specs.NameTrees.{Tree, Listing, parent_or_root, dir_at, is_inside, up}
use Rattle.name_store.specs.Sound.{parent_of, parent_at, climb}
use Rattle.name_store.proofs.Changes.{same_id, dir_within}

pub is_same : (a b : ℕ) → a ≡ b → (a == b) ≡ true
is_same a b e = grind (arith, nat_tests)

pub is_other : (a b : ℕ) → a ≢ b → (a == b) ≡ false
is_other a b ne = grind (arith, nat_tests)

-- `last` in the place of `size`
abbrev placed : ℕ → ℕ → ℕ → ℕ
placed size last x = if x == size then last else x

placed_is : (size last x : ℕ) → ((x ≡ size) × (placed size last x ≡ last)) ⊎ ((x ≢ size) × (placed size last x ≡ x))
placed_is size last x =
    elim (same_id x size) [
      | inl e ↦ inl (e, ap (λ (b : Bool). if b then last else x) (is_same x size e))
      | inr ne ↦ inr (ne, ap (λ (b : Bool). if b then last else x) (is_other x size ne))
    ]

-- so many numbers that differ are not all below a smaller one
pub pigeon : (size last : ℕ) (f : ℕ → ℕ) → ((k : ℕ) → k ≤ last → f k < size) → ((j k : ℕ) → j ≤ last → k ≤ last → f j ≡ f k → j ≡ k) → last < size
pigeon zero last f within apart = let h : f 0 < 0 = within 0 (omega arith) in absurd (omega arith)
pigeon (suc size) zero f within apart = omega arith
pigeon (suc size) (suc last) f within apart =
    let fewer : last < size = pigeon size last (λ k. placed size (f (suc last)) (f k)) g_within g_apart in
    omega arith
  where
    g_within : (k : ℕ) → k ≤ last → placed size (f (suc last)) (f k) < size
    g_within k h =
        let here : f k < suc size = within k (omega arith) in
        let top : f (suc last) < suc size = within (suc last) (omega arith) in
        elim (placed_is size (f (suc last)) (f k)) [
          | inl p ↦
              let ne : f (suc last) ≢ size = λ e. let same : k ≡ suc last = apart k (suc last) (omega arith) (omega arith) (p.0 ∙ sym e) in omega arith in
              let is = p.1 in omega arith
          | inr p ↦ let is = p.1 in let ne = p.0 in omega arith
        ]

    g_apart : (j k : ℕ) → j ≤ last → k ≤ last → placed size (f (suc last)) (f j) ≡ placed size (f (suc last)) (f k) → j ≡ k
    g_apart j k hj hk e =
        elim (placed_is size (f (suc last)) (f j)) [
          | inl p ↦ elim (placed_is size (f (suc last)) (f k)) [
            | inl q ↦ apart j k (omega arith) (omega arith) (p.0 ∙ sym q.0)
            | inr q ↦ let same : suc last ≡ k = apart (suc last) k (omega arith) (omega arith) (sym p.1 ∙ e ∙ q.1) in absurd (omega arith)
          ]
          | inr p ↦ elim (placed_is size (f (suc last)) (f k)) [
            | inl q ↦ let same : j ≡ suc last = apart j (suc last) (omega arith) (omega arith) (sym p.1 ∙ e ∙ q.1) in absurd (omega arith)
            | inr q ↦ apart j k (omega arith) (omega arith) (sym p.1 ∙ e ∙ q.1)
          ]
        ]

parent_or_root_is : (directory : Option Listing) (parent : ℕ) → parent_of directory ≡ Some parent → parent_or_root directory ≡ parent
parent_or_root_is None parent h = cc
parent_or_root_is (Some directory) parent h = cc

-- the parent of one that is there
pub up_is : (tree : Tree) (id parent : ℕ) → parent_at tree id ≡ Some parent → up tree id ≡ parent
up_is tree id parent h = parent_or_root_is (dir_at tree id) parent h

some_within : (tree : Tree) (id parent : ℕ) (directory : Option Listing) → dir_at tree id ≡ directory → parent_of directory ≡ Some parent → id < length tree
some_within tree id parent None e h = cc
some_within tree id parent (Some directory) e h = dir_within tree id directory e

pub parent_within : (tree : Tree) (id parent : ℕ) → parent_at tree id ≡ Some parent → id < length tree
parent_within tree id parent h = some_within tree id parent (dir_at tree id) refl h

-- some steps, and then some more
pub climb_on : (tree : Tree) (first all more id : ℕ) → all ≡ first + more → climb tree all id ≡ climb tree more (climb tree first id)
climb_on tree zero all more id e =
    let same : all ≡ more = omega arith in
    ap (λ (n : ℕ). climb tree n id) same
climb_on tree (suc first) zero more id e = absurd (omega arith)
climb_on tree (suc first) (suc all) more id e = climb_on tree first all more (up tree id) (omega arith)

-- the root stays the root
pub climb_root : (tree : Tree) (steps : ℕ) → up tree 0 ≡ 0 → climb tree steps 0 ≡ 0
climb_root tree zero root = refl
climb_root tree (suc steps) root = ap (λ (id : ℕ). climb tree steps id) root ∙ climb_root tree steps root

pub reached : (tree : Tree) (few many id : ℕ) → up tree 0 ≡ 0 → few ≤ many → climb tree few id ≡ 0 → climb tree many id ≡ 0
reached tree few many id root le h =
    climb_on tree few many (many - few) id (omega arith)
    ∙ ap (λ (i : ℕ). climb tree (many - few) i) h
    ∙ climb_root tree (many - few) root

-- the first time that the root is reached
pub record First (tree : Tree) (id : ℕ) : Type 0 where
  pub steps : ℕ
  pub there : climb tree steps id ≡ 0
  pub before : (k : ℕ) → k < steps → climb tree k id ≢ 0

pub first : (tree : Tree) (steps id : ℕ) → climb tree steps id ≡ 0 → First tree id
first tree zero id h = record { steps = 0; there = h; before = λ k lt. absurd (omega arith) }
first tree (suc steps) id h =
    elim (same_id id 0) [
      | inl e ↦ record { steps = 0; there = e; before = λ k lt. absurd (omega arith) }
      | inr ne ↦
          let next = first tree steps (up tree id) h in
          record { steps = suc next.steps; there = next.there; before = λ k lt. later next ne k lt }
    ]
  where
    later : (next : First tree (up tree id)) → id ≢ 0 → (k : ℕ) → k < suc next.steps → climb tree k id ≢ 0
    later next ne zero lt = ne
    later next ne (suc k) lt = next.before k (omega arith)

-- parents are there
abbrev pub HasParents : Tree → Type 0
HasParents tree = (id parent : ℕ) → parent_at tree id ≡ Some parent → (next : ℕ) × (parent_at tree parent ≡ Some next)

pub climb_there : (tree : Tree) → HasParents tree → (steps id parent : ℕ) → parent_at tree id ≡ Some parent → (next : ℕ) × (parent_at tree (climb tree steps id) ≡ Some next)
climb_there tree there zero id parent h = (parent, h)
climb_there tree there (suc steps) id parent h =
    let (next, is) = there id parent h in
    climb_there tree there steps (up tree id) next (ap (parent_at tree) (up_is tree id parent h) ∙ is)

module _ (tree : Tree) (id : ℕ) (way : First tree id) where
  -- no directory is met twice on the way to the root
  pub apart_before : (j k : ℕ) → j < k → k ≤ way.steps → climb tree j id ≡ climb tree k id → ⊥
  apart_before j k lt le e =
      let again : climb tree (j + (way.steps - k)) id ≡ 0 =
      climb_on tree j (j + (way.steps - k)) (way.steps - k) id refl
      ∙ ap (λ (i : ℕ). climb tree (way.steps - k) i) e
      ∙ sym (climb_on tree k way.steps (way.steps - k) id (omega arith))
      ∙ way.there in
      way.before (j + (way.steps - k)) (omega arith) again

  one_place : (j k : ℕ) → j ≤ way.steps → k ≤ way.steps → climb tree j id ≡ climb tree k id → j ≡ k
  one_place j k hj hk e =
      elim (same_id j k) [
        | inl same ↦ same
        | inr ne ↦ elim (cases_lt j k) [
          | inl lt ↦ absurd (apart_before j k lt hk e)
          | inr ge ↦ absurd (apart_before k j (omega arith) hj (sym e))
        ]
      ]

-- the root is reached in fewer steps than there are ids
pub few_steps : (tree : Tree) (id parent : ℕ) (way : First tree id) → HasParents tree → parent_at tree id ≡ Some parent → way.steps < length tree
few_steps tree id parent way there h =
    pigeon (length tree) way.steps (λ k. climb tree k id)
    (λ k le. (let (next, is) = climb_there tree there k id parent h in parent_within tree (climb tree k id) next is))
    (one_place tree id way)

-- where the root is reached at all, it is reached within as many steps as there are ids
pub reaches_root : (tree : Tree) (id parent steps : ℕ) → up tree 0 ≡ 0 → HasParents tree → parent_at tree id ≡ Some parent → climb tree steps id ≡ 0 → climb tree (length tree) id ≡ 0
reaches_root tree id parent steps root there h reaches =
    let way = first tree steps id reaches in
    let few : way.steps < length tree = few_steps tree id parent way there h in
    reached tree way.steps (length tree) id root (omega arith) way.there

-- ways up through directories that have the same parents
pub climb_same : (old new : Tree) (On : ℕ → Type 0) → ((id : ℕ) → On id → On (up old id)) → ((id : ℕ) → On id → up new id ≡ up old id) → (steps id : ℕ) → On id → climb new steps id ≡ climb old steps id
climb_same old new On on same zero id h = refl
climb_same old new On on same (suc steps) id h =
    ap (λ (i : ℕ). climb new steps i) (same id h) ∙ climb_same old new On on same steps (up old id) (on id h)

pub inside_here : (tree : Tree) (top steps id : ℕ) → id ≡ top → is_inside (suc steps) tree top id ≡ true
inside_here tree top steps id e = rw (is_same id top e) refl

pub inside_up : (tree : Tree) (top steps id : ℕ) → id ≢ top → id ≢ 0 → is_inside (suc steps) tree top id ≡ is_inside steps tree top (up tree id)
inside_up tree top steps id ne some = rw (is_other id top ne, is_other id 0 some) refl

outside_few : (tree : Tree) (top steps id : ℕ) → top ≢ 0 → up tree 0 ≡ 0 → is_inside steps tree top id ≡ false → (k : ℕ) → k < steps → climb tree k id ≢ top
outside_few tree top zero id some root out k lt = absurd (omega arith)
outside_few tree top (suc steps) id some root out zero lt = λ e. (let clash : true ≡ false = sym (inside_here tree top steps id e) ∙ out in cc)
outside_few tree top (suc steps) id some root out (suc k) lt =
    elim (same_id id 0) [
      | inl e ↦ λ met. some (sym met ∙ ap (λ (i : ℕ). climb tree (suc k) i) e ∙ climb_root tree (suc k) root)
      | inr ne ↦
          let not_here : id ≢ top = λ e. (let clash : true ≡ false = sym (inside_here tree top steps id e) ∙ out in cc) in
          outside_few tree top steps (up tree id) some root (sym (inside_up tree top steps id not_here ne) ∙ out) k (omega arith)
    ]

-- what is not inside a directory does not meet it on its way up
pub outside : (tree : Tree) (top id : ℕ) → top ≢ 0 → up tree 0 ≡ 0 → climb tree (length tree) id ≡ 0 → is_inside (length tree) tree top id ≡ false → (k : ℕ) → climb tree k id ≢ top
outside tree top id some root reaches out k =
    elim (cases_lt k (length tree)) [
      | inl lt ↦ outside_few tree top (length tree) id some root out k lt
      | inr ge ↦ λ met. some (sym met ∙ reached tree (length tree) k id root ge reaches)
    ]
