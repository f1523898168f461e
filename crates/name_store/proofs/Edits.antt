-- A sound tree stays sound where entries are taken out and one is put in.
use Rattle.std.proofs.Common.{◌≡◌, ◌≢◌, ℕ, ◌<◌, ◌≤◌, ◌⊎◌, inl, inr, List, length, Option, None, Some, refl, sym, ap, ◌∙◌, arith}
use Rattle.name_store.specs.declared.operation.Node.{Node}
use Rattle.name_store.specs.declared.operation.Node.TheVariants.{Dir, Link}
use Rattle.name_store.specs.NameTrees.{Tree, Listing, dir_at, up}
use Rattle.name_store.specs.Sound.{node_in, node_at, parent_of, parent_at, id_of, climb, IsSound}
use Rattle.name_store.proofs.Changes.{same_id, Ordered}
use Rattle.name_store.proofs.Climbs.{HasParents, up_is}

-- The entries at the places that are `Kept` stay, the others go, and `node`, where it is one, comes to a place.
pub record Edit (old new : Tree) (Kept : ℕ → List ℕ → Type 0) (place : ℕ) (name : List ℕ) (node : Option Node) : Type 0 where
  pub size : length old ≤ length new
  -- what stands in the new tree was kept or put, and the other way round
  pub stands : (id : ℕ) (other : List ℕ) (there : Node) → node_at new id other ≡ Some there → ((node_at old id other ≡ Some there) × Kept id other) ⊎ ((id ≡ place) × (other ≡ name) × (node ≡ Some there))
  pub kept : (id : ℕ) (other : List ℕ) (there : Node) → node_at old id other ≡ Some there → Kept id other → node_at new id other ≡ Some there
  pub put : (there : Node) → node ≡ Some there → node_at new place name ≡ Some there
  -- the id of what was put stands nowhere else
  pub fresh : (here there : Node) (id place : ℕ) (other : List ℕ) → node ≡ Some here → id_of here ≡ Some id → node_at old place other ≡ Some there → Kept place other → id_of there ≡ Some id → ⊥
  -- a directory of the new tree has the parent that it had, and its entry was kept, or it was put
  pub parents : (id parent : ℕ) → parent_at new id ≡ Some parent → ((parent_at old id ≡ Some parent) × ((place : ℕ) (other : List ℕ) → node_at old place other ≡ Some (Dir id) → Kept place other)) ⊎ ((node ≡ Some (Dir id)) × (parent ≡ place))
  pub same_parent : (id place : ℕ) (other : List ℕ) → node_at old place other ≡ Some (Dir id) → Kept place other → parent_at new id ≡ parent_at old id
  pub put_parent : (id : ℕ) → node ≡ Some (Dir id) → (id ≢ 0) × (parent_at new id ≡ Some place)
  -- the ids of links are no directories'
  pub links : (id : ℕ) → id < length old → parent_at old id ≡ None → parent_at new id ≡ None
  pub put_link : (id : ℕ) (text : List ℕ) → node ≡ Some (Link id text) → (id < length new) × (parent_at new id ≡ None)
  pub root : parent_at new 0 ≡ Some 0
  pub names : (id : ℕ) → Ordered new id

live_in : (directory : Option Listing) (name : List ℕ) (node : Node) → node_in directory name ≡ Some node → (parent : ℕ) × (parent_of directory ≡ Some parent)
live_in None name node h = cc
live_in (Some directory) name node h = (directory.parent, refl)

-- a directory in which something stands is there
pub live : (tree : Tree) (id : ℕ) (name : List ℕ) (node : Node) → node_at tree id name ≡ Some node → (parent : ℕ) × (parent_at tree id ≡ Some parent)
live tree id name node h = live_in (dir_at tree id) name node h

-- where the root is its own parent, and each other directory has an entry in its parent, parents are there
pub parents_there : (tree : Tree) → parent_at tree 0 ≡ Some 0 → ((id parent : ℕ) → parent_at tree id ≡ Some parent → id ≢ 0 → (n : List ℕ) × (node_at tree parent n ≡ Some (Dir id))) → HasParents tree
parents_there tree root entry id parent h =
    elim (same_id id 0) [
      | inl e ↦
          let at_root : parent_at tree id ≡ Some 0 = ap (parent_at tree) e ∙ root in
          let top : parent ≡ 0 = cc in
          (0, ap (parent_at tree) top ∙ root)
      | inr ne ↦ (let (n, is) = entry id parent h ne in live tree parent n (Dir id) is)
    ]

pub sound_parents : (tree : Tree) → IsSound tree → HasParents tree
sound_parents tree sound = parents_there tree sound.root sound.entry

-- the root is its own parent
pub root_up : (tree : Tree) → parent_at tree 0 ≡ Some 0 → up tree 0 ≡ 0
root_up tree root = up_is tree 0 0 root

module _ (old new : Tree) (Kept : ℕ → List ℕ → Type 0) (place : ℕ) (name : List ℕ) (node : Option Node) (sound : IsSound old) (edit : Edit old new Kept place name node) where
  pub entry : (id parent : ℕ) → parent_at new id ≡ Some parent → id ≢ 0 → (n : List ℕ) × (node_at new parent n ≡ Some (Dir id))
  entry id parent h some =
      elim (edit.parents id parent h) [
        | inl p ↦ (let (n, is) = sound.entry id parent p.0 some in (n, edit.kept parent n (Dir id) is (p.1 parent n is)))
        | inr p ↦ (name, ap (λ (i : ℕ). node_at new i name) p.1 ∙ edit.put (Dir id) p.0)
      ]

  child_of : (id child : ℕ) (other : List ℕ) → node_at new id other ≡ Some (Dir child) → (child ≢ 0) × (parent_at new child ≡ Some id)
  child_of id child other h =
      elim (edit.stands id other (Dir child) h) [
        | inl p ↦ (let (some, is) = sound.child id child other p.0 in (some, edit.same_parent child id other p.0 p.1 ∙ is))
        | inr p ↦ (let (some, is) = edit.put_parent child p.2 in (some, is ∙ ap (λ (i : ℕ). let o : Option ℕ = Some i in o) (sym p.0)))
      ]

  link_of : (id link : ℕ) (other text : List ℕ) → node_at new id other ≡ Some (Link link text) → (link < length new) × (parent_at new link ≡ None)
  link_of id link other text h =
      elim (edit.stands id other (Link link text) h) [
        | inl p ↦ (let (lt, none) = sound.link id link other text p.0 in (let size = edit.size in omega arith, edit.links link lt none))
        | inr p ↦ edit.put_link link text p.2
      ]

  once : (id first second : ℕ) (n other : List ℕ) (here twin : Node) → node_at new first n ≡ Some here → node_at new second other ≡ Some twin → id_of here ≡ Some id → id_of twin ≡ Some id → (first ≡ second) × (n ≡ other)
  once id first second n other here twin h k i j =
      elim (edit.stands first n here h) [
        | inl p ↦ elim (edit.stands second other twin k) [
          | inl q ↦ sound.once id first second n other here twin p.0 q.0 i j
          | inr q ↦ absurd (edit.fresh twin here id first n q.2 j p.0 p.1 i)
        ]
        | inr p ↦ elim (edit.stands second other twin k) [
          | inl q ↦ absurd (edit.fresh here twin id second other p.2 i q.0 q.1 j)
          | inr q ↦ (p.0 ∙ sym q.0, p.1 ∙ sym q.1)
        ]
      ]

  pub edited : ((id parent : ℕ) → parent_at new id ≡ Some parent → climb new (length new) id ≡ 0) → IsSound new
  edited rooted = record {
    root = edit.root;
    rooted = rooted;
    entry = entry;
    child = child_of;
    link = link_of;
    once = once;
    names = edit.names;
  }
