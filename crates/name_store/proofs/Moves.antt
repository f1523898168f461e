-- A sound tree stays sound where an entry is moved.
use Rattle.std.proofs.Common.{◌≡◌, ◌≢◌, ℕ, ◌<◌, zero, suc, ◌⊎◌, inl, inr, List, length, Option, None, Some, refl, sym, ap, ◌∙◌, arith}
use Rattle.name_store.specs.declared.operation.Node.{Node}
use Rattle.name_store.specs.declared.operation.Node.TheVariants.{Dir}
use Rattle.name_store.specs.NameTrees.{Tree, dir_in, dir_of, up}
use Rattle.name_store.specs.Sound.{AreApart, node_at, parent_at, id_of, climb, IsSound}
use Rattle.name_store.proofs.Changes.{Ordered, same_place}
use Rattle.name_store.proofs.Climbs.{climb_same, reaches_root, up_is}
use Rattle.name_store.proofs.Edits.{Edit, edited, entry, live, parents_there, root_up}
use Rattle.name_store.proofs.Transitions.{some, same_some, none_some, is_dir}

-- the entry `name` of `from` is moved to the place `to`, `other`, where `over` is. Where it is a directory, that has
-- `to` as its parent then, and was not met on the way up from there; where `over` is one, that is empty and no more.
pub record Moves (old new : Tree) (from : ℕ) (name : List ℕ) (to : ℕ) (other : List ℕ) (node : Node) (over : Option Node) : Type 0 where
  pub stood : node_at old from name ≡ Some node
  pub stood_over : node_at old to other ≡ over
  pub not_same : AreApart from name to other
  pub there : (parent : ℕ) × (parent_at old to ≡ Some parent)
  pub at : node_at new to other ≡ Some node
  pub gone : node_at new from name ≡ None
  pub apart : (id : ℕ) (n : List ℕ) → AreApart from name id n → AreApart to other id n → node_at new id n ≡ node_at old id n
  pub size : length new ≡ length old
  pub outside : (id : ℕ) → dir_of node ≡ Some id → (k : ℕ) → climb old k to ≢ id
  pub empty : (id : ℕ) → dir_in over ≡ Some id → (n : List ℕ) → node_at old id n ≡ None
  pub child : (id : ℕ) → dir_of node ≡ Some id → parent_at new id ≡ Some to
  pub freed : (id : ℕ) → dir_in over ≡ Some id → parent_at new id ≡ None
  pub others : (id : ℕ) → (dir_of node ≡ Some id → ⊥) → (dir_in over ≡ Some id → ⊥) → parent_at new id ≡ parent_at old id
  pub names : (id : ℕ) → Ordered new id

pub is_dir_in : (over : Option Node) (id : ℕ) → dir_in over ≡ Some id → over ≡ Some (Dir id)
is_dir_in None id e = cc
is_dir_in (Some node) id e = ap (λ (n : Node). some n) (is_dir node id e)

module _ (old new : Tree) (from : ℕ) (name : List ℕ) (to : ℕ) (other : List ℕ) (node : Node) (over : Option Node) (sound : IsSound old) (m : Moves old new from name to other node over) where
  abbrev Kept : ℕ → List ℕ → Type 0
  Kept id n = AreApart from name id n × AreApart to other id n

  moved_here : (id : ℕ) → dir_of node ≡ Some id → node_at old from name ≡ Some (Dir id)
  moved_here id e = m.stood ∙ ap (λ (n : Node). some n) (is_dir node id e)

  freed_here : (id : ℕ) → dir_in over ≡ Some id → node_at old to other ≡ Some (Dir id)
  freed_here id e = m.stood_over ∙ is_dir_in over id e

  stands : (id : ℕ) (n : List ℕ) (there : Node) → node_at new id n ≡ Some there → ((node_at old id n ≡ Some there) × Kept id n) ⊎ ((id ≡ to) × (n ≡ other) × (some node ≡ Some there))
  stands id n there h =
      elim (same_place to other id n) [
        | inl e ↦ inr (e.0, e.1, sym m.at ∙ ap (λ (i : ℕ). node_at new i other) (sym e.0) ∙ ap (λ (x : List ℕ). node_at new id x) (sym e.1) ∙ h)
        | inr a ↦ elim (same_place from name id n) [
          | inl e ↦ absurd (none_some (node_at new from name) there m.gone (ap (λ (i : ℕ). node_at new i name) (sym e.0) ∙ ap (λ (x : List ℕ). node_at new id x) (sym e.1) ∙ h))
          | inr b ↦ inl (sym (m.apart id n b a) ∙ h, (b, a))
        ]
      ]

  at_from : (id : ℕ) (n : List ℕ) → id ≡ from → n ≡ name → node_at old id n ≡ Some node
  at_from id n e f = ap (λ (i : ℕ). node_at old i n) e ∙ ap (λ (x : List ℕ). node_at old from x) f ∙ m.stood

  at_to : (id : ℕ) (n : List ℕ) → id ≡ to → n ≡ other → node_at old id n ≡ over
  at_to id n e f = ap (λ (i : ℕ). node_at old i n) e ∙ ap (λ (x : List ℕ). node_at old to x) f ∙ m.stood_over

  -- the entry of a directory that is neither moved nor freed is kept
  kept_entry : (id : ℕ) → (dir_of node ≡ Some id → ⊥) → (dir_in over ≡ Some id → ⊥) → (p : ℕ) (n : List ℕ) → node_at old p n ≡ Some (Dir id) → Kept p n
  kept_entry id no_child no_freed p n is = (
    λ e f. no_child (let same : some node ≡ Some (Dir id) = sym (at_from p n e f) ∙ is in let one : node ≡ Dir id = cc in ap dir_of one),
    λ e f. no_freed (ap dir_in (sym (at_to p n e f) ∙ is)),
  )

  moved_parents : (id parent : ℕ) → parent_at new id ≡ Some parent → ((parent_at old id ≡ Some parent) × ((p : ℕ) (n : List ℕ) → node_at old p n ≡ Some (Dir id) → Kept p n)) ⊎ ((some node ≡ Some (Dir id)) × (parent ≡ to))
  moved_parents id parent h =
      elim (same_some (dir_of node) id) [
        | inl e ↦ inr (ap (λ (n : Node). some n) (is_dir node id e), (let same : some to ≡ Some parent = sym (m.child id e) ∙ h in let one : parent ≡ to = cc in one))
        | inr no_child ↦ elim (same_some (dir_in over) id) [
          | inl e ↦ absurd (none_some (parent_at new id) parent (m.freed id e) h)
          | inr no_freed ↦ inl (sym (m.others id no_child no_freed) ∙ h, kept_entry id no_child no_freed)
        ]
      ]

  not_moved : (id p : ℕ) (n : List ℕ) → node_at old p n ≡ Some (Dir id) → Kept p n → dir_of node ≡ Some id → ⊥
  not_moved id p n is k e = (let one = sound.once id p from n name (Dir id) (Dir id) is (moved_here id e) refl refl in k.0 one.0 one.1)

  not_freed : (id p : ℕ) (n : List ℕ) → node_at old p n ≡ Some (Dir id) → Kept p n → dir_in over ≡ Some id → ⊥
  not_freed id p n is k e = (let one = sound.once id p to n other (Dir id) (Dir id) is (freed_here id e) refl refl in k.1 one.0 one.1)

  unwrap : (here : Node) → some node ≡ Some here → node ≡ here
  unwrap here e = cc

  moved_links : (id : ℕ) → id < length old → parent_at old id ≡ None → parent_at new id ≡ None
  moved_links id lt h =
      elim (same_some (dir_of node) id) [
        | inl e ↦ absurd (none_some (parent_at old id) from h (sound.child from id name (moved_here id e)).1)
        | inr no_child ↦ elim (same_some (dir_in over) id) [
          | inl e ↦ m.freed id e
          | inr no_freed ↦ m.others id no_child no_freed ∙ h
        ]
      ]

  moved_edit : Edit old new Kept to other (Some node)
  moved_edit = record {
    size = (let e = m.size in omega arith);
    stands = stands;
    kept = λ id n there h k. m.apart id n k.0 k.1 ∙ h;
    put = λ there e. m.at ∙ e;
    fresh = λ here there id p n e i h k j.
        (let one = sound.once id p from n name there node h m.stood j (ap id_of (unwrap here e) ∙ i) in k.0 one.0 one.1);
    parents = moved_parents;
    same_parent = λ id p n h k. m.others id (not_moved id p n h k) (not_freed id p n h k);
    put_parent = λ id e.
        (let child : dir_of node ≡ Some id = ap dir_of (unwrap (Dir id) e) in
        ((sound.child from id name (moved_here id child)).0, m.child id child));
    links = moved_links;
    put_link = λ id text e.
        (let (lt, none) = sound.link from id name text (m.stood ∙ e) in
        (let size = m.size in omega arith, moved_links id lt none));
    root = m.others 0 (λ e. (sound.child from 0 name (moved_here 0 e)).0 refl) (λ e. (sound.child to 0 other (freed_here 0 e)).0 refl) ∙ sound.root;
    names = m.names;
  }

  -- the directories of the new tree
  abbrev Is : ℕ → Type 0
  Is id = (parent : ℕ) × (parent_at new id ≡ Some parent)

  new_there : (id parent : ℕ) → parent_at new id ≡ Some parent → (next : ℕ) × (parent_at new parent ≡ Some next)
  new_there = parents_there new moved_edit.root (entry old new Kept to other (Some node) sound moved_edit)

  -- a directory that is not moved has the same parent
  stays_parent : (id parent : ℕ) → (dir_of node ≡ Some id → ⊥) → parent_at new id ≡ Some parent → parent_at old id ≡ Some parent
  stays_parent id parent no_child h =
      elim (moved_parents id parent h) [
        | inl p ↦ p.0
        | inr p ↦ absurd (no_child (ap dir_of (unwrap (Dir id) p.0)))
      ]

  stays_up : (id : ℕ) → (dir_of node ≡ Some id → ⊥) → Is id → up new id ≡ up old id
  stays_up id no_child (parent, h) = up_is new id parent h ∙ sym (up_is old id parent (stays_parent id parent no_child h))

  -- directories whose way up was without the moved one
  abbrev Beside : ℕ → Type 0
  Beside id = Is id × ((top : ℕ) → dir_of node ≡ Some top → (k : ℕ) → climb old k id ≢ top)

  beside_up : (id : ℕ) → Beside id → Beside (up old id)
  beside_up id ((parent, h), beside) =
      let no_child : dir_of node ≡ Some id → ⊥ = λ e. beside id e 0 refl in
      let (next, is) = new_there id parent h in
      ((next, ap (parent_at new) (up_is old id parent (stays_parent id parent no_child h)) ∙ is), λ top e k. beside top e (suc k))

  beside_same : (id : ℕ) → Beside id → up new id ≡ up old id
  beside_same id (is, beside) = stays_up id (λ e. beside id e 0 refl) is

  -- the new place is one of them
  target_rooted : climb new (length old) to ≡ 0
  target_rooted =
      climb_same old new Beside beside_up beside_same (length old) to (live new to other node m.at, m.outside)
      ∙ (let (parent, h) = m.there in sound.rooted to parent h)

  abbrev Reaches : ℕ → Type 0
  Reaches id = (steps : ℕ) × (climb new steps id ≡ 0)

  ends : (steps id : ℕ) → Is id → climb old steps id ≡ 0 → Reaches id
  ends zero id is h = (0, h)
  ends (suc steps) id (parent, here) h =
      elim (same_some (dir_of node) id) [
        | inl e ↦ (suc (length old), ap (climb new (length old)) (up_is new id to (m.child id e)) ∙ target_rooted)
        | inr no_child ↦
            let same : up new id ≡ up old id = stays_up id no_child (parent, here) in
            let (next, is) = new_there id parent here in
            let above : parent_at new (up old id) ≡ Some next = ap (parent_at new) (sym same ∙ up_is new id parent here) ∙ is in
            let (more, reaches) = ends steps (up old id) (next, above) h in
            (suc more, ap (climb new more) same ∙ reaches)
      ]

  -- a directory that is there still was there
  was : (id parent : ℕ) → parent_at new id ≡ Some parent → (p : ℕ) × (parent_at old id ≡ Some p)
  was id parent h =
      elim (same_some (dir_of node) id) [
        | inl e ↦ (from, (sound.child from id name (moved_here id e)).1)
        | inr no_child ↦ (parent, stays_parent id parent no_child h)
      ]

  moved_rooted : (id parent : ℕ) → parent_at new id ≡ Some parent → climb new (length new) id ≡ 0
  moved_rooted id parent h =
      let (p, is) = was id parent h in
      let (steps, reaches) = ends (length old) id (parent, h) (sound.rooted id p is) in
      reaches_root new id parent steps (root_up new moved_edit.root) new_there h reaches

  pub moves : IsSound new
  moves = edited old new Kept to other (Some node) sound moved_edit moved_rooted
