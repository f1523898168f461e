-- What the changes of a tree leave at each id and each name.
use Rattle.std.proofs.Common.{◌≡◌, ◌≢◌, ℕ, ◌<◌, ◌≤◌, ◌+◌, zero, suc, ◌⊎◌, inl, inr, List, [], ◌∷◌, ◌++◌, length, Option, None, Some, option_map, slice_get, slice_set, refl, sym, ap, ◌∙◌, arith, length-append, length-set}
use Rattle.std.specs.Map.{keys_of}
use Rattle.std.specs.List.Sorted.{IsStrictlySortedBy}
use Rattle.name_store.specs.declared.operation.Node.{Node}
use Rattle.name_store.specs.NameTrees.{Tree, Listing, byte_order, in_slot, dir_at, entry_at, with_change_at, with_entry_at, without_entry_at, with_parent_at, without_directory, with_entry, without_entry, with_parent}
use Rattle.name_store.specs.Sound.{AreApart, node_in, node_at, parent_of, parent_at}
use Rattle.name_store.proofs.Entries.{same_name, apart_names, entered_here, entered_other, removed_here, removed_other}

-- two numbers are one, or apart
pub same_id : (a b : ℕ) → (a ≡ b) ⊎ (a ≢ b)
same_id zero zero = inl refl
same_id zero (suc b) = inr (λ e. omega (arith, e))
same_id (suc a) zero = inr (λ e. omega (arith, e))
same_id (suc a) (suc b) = elim (same_id a b) [ inl e ↦ inl (ap suc e) | inr ne ↦ inr (λ e. ne (omega (arith, e))) ]

-- two places are one, or apart
pub same_place : (id : ℕ) (name : List ℕ) (first : ℕ) (other : List ℕ) → ((first ≡ id) × (other ≡ name)) ⊎ AreApart id name first other
same_place id name first other =
    elim (same_id first id) [
      | inl e ↦ elim (same_name other name) [
        | inl f ↦ inl (e, f)
        | inr ne ↦ inr (λ e f. apart_names other name ne f)
      ]
      | inr ne ↦ inr (λ e f. ne e)
    ]

get_set_same : (tree : Tree) (id : ℕ) (slot new : Option Listing) → slice_get tree id ≡ Some slot → slice_get (slice_set tree id new) id ≡ Some new
get_set_same [] id slot new h = cc
get_set_same (first ∷ tree) zero slot new h = refl
get_set_same (first ∷ tree) (suc id) slot new h = get_set_same tree id slot new h

get_set_other : (tree : Tree) (id other : ℕ) (new : Option Listing) → other ≢ id → slice_get (slice_set tree id new) other ≡ slice_get tree other
get_set_other [] id other new ne = refl
get_set_other (first ∷ tree) zero zero new ne = absurd (ne refl)
get_set_other (first ∷ tree) zero (suc other) new ne = refl
get_set_other (first ∷ tree) (suc id) zero new ne = refl
get_set_other (first ∷ tree) (suc id) (suc other) new ne = get_set_other tree id other new (λ e. ne (ap suc e))

-- the slot of a directory that is there
slot_of : (slot : Option (Option Listing)) (directory : Listing) → in_slot slot ≡ Some directory → slot ≡ Some (Some directory)
slot_of None directory h = cc
slot_of (Some slot) directory h = ap (λ (s : Option Listing). let o : Option (Option Listing) = Some s in o) h

-- a directory that is there has an id that was given
get_within : (tree : Tree) (id : ℕ) (slot : Option Listing) → slice_get tree id ≡ Some slot → id < length tree
get_within [] id slot h = cc
get_within (first ∷ tree) zero slot h = omega arith
get_within (first ∷ tree) (suc id) slot h = let k = get_within tree id slot h in omega arith

pub dir_within : (tree : Tree) (id : ℕ) (directory : Listing) → dir_at tree id ≡ Some directory → id < length tree
dir_within tree id directory h = get_within tree id (Some directory) (slot_of (slice_get tree id) directory h)

pub length_put : (tree : Tree) (id : ℕ) (change : Listing → Listing) (directory : Option Listing) → length (with_change_at tree id change directory) ≡ length tree
length_put tree id change None = refl
length_put tree id change (Some directory) = length-set tree id (Some (change directory))

-- a directory that was changed, and the others
pub put_same : (tree : Tree) (id : ℕ) (change : Listing → Listing) (directory : Option Listing) → dir_at tree id ≡ directory → dir_at (with_change_at tree id change directory) id ≡ option_map change directory
put_same tree id change None h = h
put_same tree id change (Some directory) h = ap in_slot (get_set_same tree id (Some directory) (Some (change directory)) (slot_of (slice_get tree id) directory h))

put_other : (tree : Tree) (id other : ℕ) (change : Listing → Listing) (directory : Option Listing) → other ≢ id → dir_at (with_change_at tree id change directory) other ≡ dir_at tree other
put_other tree id other change None ne = refl
put_other tree id other change (Some directory) ne = ap in_slot (get_set_other tree id other (Some (change directory)) ne)

-- directory `id`, which is `old`, was changed so
pub record Changes (before after : Tree) (id : ℕ) (change : Listing → Listing) : Type 0 where
  pub size : length after ≡ length before
  pub here : dir_at after id ≡ option_map change (dir_at before id)
  pub others : (other : ℕ) → other ≢ id → dir_at after other ≡ dir_at before other

pub put_changes : (tree : Tree) (id : ℕ) (change : Listing → Listing) → Changes tree (with_change_at tree id change (dir_at tree id)) id change
put_changes tree id change = record {
  size = length_put tree id change (dir_at tree id);
  here = put_same tree id change (dir_at tree id) refl;
  others = λ other ne. put_other tree id other change (dir_at tree id) ne;
}

-- where a change leaves a directory's parent, parents stay
same_parent_in : (change : Listing → Listing) (directory : Option Listing) → ((d : Listing) → (change d).parent ≡ d.parent) → parent_of (option_map change directory) ≡ parent_of directory
same_parent_in change None h = refl
same_parent_in change (Some directory) h = ap (λ (p : ℕ). let o : Option ℕ = Some p in o) (h directory)

same_parents : (before after : Tree) (id : ℕ) (change : Listing → Listing) → Changes before after id change → ((d : Listing) → (change d).parent ≡ d.parent) → (other : ℕ) → parent_at after other ≡ parent_at before other
same_parents before after id change c h other =
    elim (same_id other id) [
      | inl e ↦ ap (parent_at after) e ∙ ap parent_of c.here ∙ same_parent_in change (dir_at before id) h ∙ ap (parent_at before) (sym e)
      | inr ne ↦ ap parent_of (c.others other ne)
    ]

-- where it leaves what stands under a name, that stays
pub same_node_in : (change : Listing → Listing) (directory : Option Listing) (name : List ℕ) → ((d : Listing) → entry_at (change d) name ≡ entry_at d name) → node_in (option_map change directory) name ≡ node_in directory name
same_node_in change None name h = refl
same_node_in change (Some directory) name h = h directory

pub entered_parents : (tree : Tree) (id : ℕ) (name : List ℕ) (node : Node) (other : ℕ) → parent_at (with_entry_at tree id name node) other ≡ parent_at tree other
entered_parents tree id name node other = same_parents tree _ id (λ d. with_entry d name node) (put_changes tree id (λ d. with_entry d name node)) (λ d. refl) other

pub entered_size : (tree : Tree) (id : ℕ) (name : List ℕ) (node : Node) → length (with_entry_at tree id name node) ≡ length tree
entered_size tree id name node = length_put tree id (λ d. with_entry d name node) (dir_at tree id)

there_in : (directory : Option Listing) (parent : ℕ) (name : List ℕ) (node : Node) → parent_of directory ≡ Some parent → node_in (option_map (λ d. with_entry d name node) directory) name ≡ Some node
there_in None parent name node h = cc
there_in (Some directory) parent name node h = entered_here directory.entries name node

pub entered_at : (tree : Tree) (id parent : ℕ) (name : List ℕ) (node : Node) → parent_at tree id ≡ Some parent → node_at (with_entry_at tree id name node) id name ≡ Some node
entered_at tree id parent name node h =
    ap (λ (d : Option Listing). node_in d name) (put_changes tree id (λ d. with_entry d name node)).here
    ∙ there_in (dir_at tree id) parent name node h

pub entered_apart : (tree : Tree) (id : ℕ) (name : List ℕ) (node : Node) (first : ℕ) (other : List ℕ) → AreApart id name first other → node_at (with_entry_at tree id name node) first other ≡ node_at tree first other
entered_apart tree id name node first other apart =
    let c = put_changes tree id (λ d. with_entry d name node) in
    elim (same_id first id) [
      | inl e ↦
          ap (λ (i : ℕ). node_at (with_entry_at tree id name node) i other) e
          ∙ ap (λ (d : Option Listing). node_in d other) c.here
          ∙ same_node_in (λ d. with_entry d name node) (dir_at tree id) other (λ d. entered_other d.entries name other node (apart e))
          ∙ ap (λ (i : ℕ). node_at tree i other) (sym e)
      | inr ne ↦ ap (λ (d : Option Listing). node_in d other) (c.others first ne)
    ]

pub unlinked_parents : (tree : Tree) (id : ℕ) (name : List ℕ) (other : ℕ) → parent_at (without_entry_at tree id name) other ≡ parent_at tree other
unlinked_parents tree id name other = same_parents tree _ id (λ d. without_entry d name) (put_changes tree id (λ d. without_entry d name)) (λ d. refl) other

pub unlinked_size : (tree : Tree) (id : ℕ) (name : List ℕ) → length (without_entry_at tree id name) ≡ length tree
unlinked_size tree id name = length_put tree id (λ d. without_entry d name) (dir_at tree id)

gone_in : (directory : Option Listing) (name : List ℕ) → ((d : Listing) → directory ≡ Some d → IsStrictlySortedBy byte_order (keys_of d.entries)) → node_in (option_map (λ d. without_entry d name) directory) name ≡ None
gone_in None name sorted = refl
gone_in (Some directory) name sorted = removed_here directory.entries name (sorted directory refl)

-- the names of a directory are in order
abbrev pub Ordered : Tree → ℕ → Type 0
Ordered tree id = (directory : Listing) → dir_at tree id ≡ Some directory → IsStrictlySortedBy byte_order (keys_of directory.entries)

pub unlinked_at : (tree : Tree) (id : ℕ) (name : List ℕ) → Ordered tree id → node_at (without_entry_at tree id name) id name ≡ None
unlinked_at tree id name sorted =
    ap (λ (d : Option Listing). node_in d name) (put_changes tree id (λ d. without_entry d name)).here
    ∙ gone_in (dir_at tree id) name sorted

pub unlinked_apart : (tree : Tree) (id : ℕ) (name : List ℕ) (first : ℕ) (other : List ℕ) → AreApart id name first other → node_at (without_entry_at tree id name) first other ≡ node_at tree first other
unlinked_apart tree id name first other apart =
    let c = put_changes tree id (λ d. without_entry d name) in
    elim (same_id first id) [
      | inl e ↦
          ap (λ (i : ℕ). node_at (without_entry_at tree id name) i other) e
          ∙ ap (λ (d : Option Listing). node_in d other) c.here
          ∙ same_node_in (λ d. without_entry d name) (dir_at tree id) other (λ d. removed_other d.entries name other (apart e))
          ∙ ap (λ (i : ℕ). node_at tree i other) (sym e)
      | inr ne ↦ ap (λ (d : Option Listing). node_in d other) (c.others first ne)
    ]

pub parent_set_nodes : (tree : Tree) (id : Option ℕ) (parent first : ℕ) (other : List ℕ) → node_at (with_parent_at tree id parent) first other ≡ node_at tree first other
parent_set_nodes tree None parent first other = refl
parent_set_nodes tree (Some id) parent first other =
    let c = put_changes tree id (λ d. with_parent d parent) in
    elim (same_id first id) [
      | inl e ↦
          ap (λ (i : ℕ). node_at (with_parent_at tree (Some id) parent) i other) e
          ∙ ap (λ (d : Option Listing). node_in d other) c.here
          ∙ same_node_in (λ d. with_parent d parent) (dir_at tree id) other (λ d. refl)
          ∙ ap (λ (i : ℕ). node_at tree i other) (sym e)
      | inr ne ↦ ap (λ (d : Option Listing). node_in d other) (c.others first ne)
    ]

parent_set_in : (directory : Option Listing) (old parent : ℕ) → parent_of directory ≡ Some old → parent_of (option_map (λ d. with_parent d parent) directory) ≡ Some parent
parent_set_in None old parent h = cc
parent_set_in (Some directory) old parent h = refl

pub parent_set_at : (tree : Tree) (id old parent : ℕ) → parent_at tree id ≡ Some old → parent_at (with_parent_at tree (Some id) parent) id ≡ Some parent
parent_set_at tree id old parent h = ap parent_of (put_changes tree id (λ d. with_parent d parent)).here ∙ parent_set_in (dir_at tree id) old parent h

pub parent_set_others : (tree : Tree) (id : Option ℕ) (parent other : ℕ) → (id ≡ Some other → ⊥) → parent_at (with_parent_at tree id parent) other ≡ parent_at tree other
parent_set_others tree None parent other ne = refl
parent_set_others tree (Some id) parent other ne = ap parent_of ((put_changes tree id (λ d. with_parent d parent)).others other (λ e. ne (ap (λ (i : ℕ). let o : Option ℕ = Some i in o) (sym e))))

pub parent_set_size : (tree : Tree) (id : Option ℕ) (parent : ℕ) → length (with_parent_at tree id parent) ≡ length tree
parent_set_size tree None parent = refl
parent_set_size tree (Some id) parent = length_put tree id (λ d. with_parent d parent) (dir_at tree id)

pub freed_size : (tree : Tree) (id : Option ℕ) → length (without_directory tree id) ≡ length tree
freed_size tree None = refl
freed_size tree (Some id) = length-set tree id None

pub freed_others : (tree : Tree) (id : Option ℕ) (other : ℕ) → (id ≡ Some other → ⊥) → dir_at (without_directory tree id) other ≡ dir_at tree other
freed_others tree None other ne = refl
freed_others tree (Some id) other ne = ap in_slot (get_set_other tree id other None (λ e. ne (ap (λ (i : ℕ). let o : Option ℕ = Some i in o) (sym e))))

freed_slot : (tree : Tree) (id : ℕ) → dir_at (slice_set tree id None) id ≡ None
freed_slot [] id = refl
freed_slot (first ∷ tree) zero = refl
freed_slot (first ∷ tree) (suc id) = freed_slot tree id

pub freed_at : (tree : Tree) (id other : ℕ) → other ≡ id → dir_at (without_directory tree (Some id)) other ≡ None
freed_at tree id other e = ap (dir_at (without_directory tree (Some id))) e ∙ freed_slot tree id

-- one id more
pub more_at : (tree : Tree) (slot : Option Listing) → dir_at (tree ++ slot ∷ []) (length tree) ≡ slot
more_at [] slot = refl
more_at (first ∷ tree) slot = more_at tree slot

pub past : (tree : Tree) (id : ℕ) → length tree ≤ id → dir_at tree id ≡ None
past [] id h = refl
past (first ∷ tree) zero h = absurd (omega arith)
past (first ∷ tree) (suc id) h = past tree id (omega arith)

pub more_size : (tree : Tree) (slot : Option Listing) → length (tree ++ slot ∷ []) ≡ length tree + 1
more_size tree slot = length-append tree (slot ∷ [])

pub more_none : (tree : Tree) (id : ℕ) → dir_at (tree ++ None ∷ []) id ≡ dir_at tree id
more_none [] zero = refl
more_none [] (suc id) = refl
more_none (first ∷ tree) zero = refl
more_none (first ∷ tree) (suc id) = more_none tree id

pub more_others : (tree : Tree) (slot : Option Listing) (id : ℕ) → id ≢ length tree → dir_at (tree ++ slot ∷ []) id ≡ dir_at tree id
more_others [] slot zero ne = absurd (ne refl)
more_others [] slot (suc id) ne = refl
more_others (first ∷ tree) slot zero ne = refl
more_others (first ∷ tree) slot (suc id) ne = more_others tree slot id (λ e. ne (ap suc e))
