-- The directories that a change needs are there.
use Rattle.std.proofs.Common.{◌≡◌, ℕ, ◌<◌, zero, suc, List, [], ◌∷◌, ◌++◌, length, inl, inr, Option, None, Some, IsSome, option_map, refl, sym, ap, subst, ◌∙◌, arith}
use Rattle.name_store.specs.declared.operation.Node.{Node}
use Rattle.name_store.specs.NameTrees.{Tree, Listing, dir_at, dir_in, entry_at, with_entry_at, without_entry_at, with_parent_at, with_parent}
use Rattle.name_store.specs.Presence.{IsThere}
use Rattle.name_store.specs.Sound.{IsSound, node_in, node_at, parent_of, parent_at}
use Rattle.name_store.proofs.Changes.{entered_parents, unlinked_parents, put_changes, same_id}
use Rattle.name_store.proofs.Moves.{is_dir_in}

of_parent_in : (directory : Option Listing) (parent : ℕ) → parent_of directory ≡ Some parent → IsSome directory
of_parent_in None parent h = cc
of_parent_in (Some directory) parent h = refl

has_parent : (directory : Option Listing) → IsSome directory → IsSome (parent_of directory)
has_parent None there = cc
has_parent (Some directory) there = refl

of_parent : (directory : Option Listing) → IsSome (parent_of directory) → IsSome directory
of_parent None there = cc
of_parent (Some directory) there = refl

-- where a directory's parent stays, the directory stays
stays : (before after : Tree) (id : ℕ) → parent_at after id ≡ parent_at before id → IsSome (dir_at before id) → IsSome (dir_at after id)
stays before after id same there = of_parent (dir_at after id) (subst IsSome (sym same) (has_parent (dir_at before id) there))

of_slot : (change : Listing → Listing) (old new : Option Listing) → new ≡ option_map change old → IsSome old → IsSome new
of_slot change None new is there = cc
of_slot change (Some directory) new is there = subst IsSome (sym is) refl

pub stays_entered : (tree : Tree) (id : ℕ) (name : List ℕ) (node : Node) (other : ℕ) → IsSome (dir_at tree other) → IsSome (dir_at (with_entry_at tree id name node) other)
stays_entered tree id name node other there = stays tree (with_entry_at tree id name node) other (entered_parents tree id name node other) there

parent_stays : (tree : Tree) (id : Option ℕ) (parent other : ℕ) → IsSome (dir_at tree other) → IsSome (dir_at (with_parent_at tree id parent) other)
parent_stays tree None parent other there = there
parent_stays tree (Some id) parent other there =
    elim (same_id other id) [
      | inl e ↦ of_slot (λ d. with_parent d parent) (dir_at tree id) (dir_at (with_parent_at tree (Some id) parent) other) (ap (λ (i : ℕ). dir_at (with_parent_at tree (Some id) parent) i) e ∙ (put_changes tree id (λ d. with_parent d parent)).here) (subst (λ (i : ℕ). IsSome (dir_at tree i)) e there)
      | inr ne ↦ subst IsSome (sym ((put_changes tree id (λ d. with_parent d parent)).others other ne)) there
    ]

pub stays_unlinked : (tree : Tree) (id : ℕ) (name : List ℕ) (other : ℕ) → IsSome (dir_at tree other) → IsSome (dir_at (without_entry_at tree id name) other)
stays_unlinked tree id name other there = stays tree (without_entry_at tree id name) other (unlinked_parents tree id name other) there

-- the id of a directory that is there was given
pub within : (tree : Tree) (id : ℕ) → IsSome (dir_at tree id) → id < length tree
within [] id there = cc
within (slot ∷ tree) zero there = omega arith
within (slot ∷ tree) (suc id) there =
    let rest : id < length tree = within tree id there in
    omega (arith, rest)

-- the node that a directory of the tree has under a name
stood : (tree : Tree) (id : ℕ) (directory : Listing) (name : List ℕ) (found : Option Node) → dir_at tree id ≡ Some directory → found ≡ entry_at directory name → node_at tree id name ≡ found
stood tree id directory name found here is = ap (λ (d : Option Listing). node_in d name) here ∙ sym is

node_is_there : (tree : Tree) (id : ℕ) (name : List ℕ) (found : Option Node) (given : Option ℕ) → IsSound tree → node_at tree id name ≡ found → given ≡ dir_in found → IsThere tree given
node_is_there tree id name found None sound here is = tt
node_is_there tree id name found (Some child) sound here is = of_parent_in (dir_at tree child) id (sound.child id child name (here ∙ is_dir_in found child (sym is))).1

-- the directory that an entry of a sound tree is, is there
pub entry_is_there : (tree : Tree) (id : ℕ) (directory : Listing) (name : List ℕ) (found : Option Node) (given : Option ℕ) → IsSound tree → Some directory ≡ dir_at tree id → found ≡ entry_at directory name → given ≡ dir_in found → IsThere tree given
entry_is_there tree id directory name found given sound here is e = node_is_there tree id name found given sound (stood tree id directory name found (sym here) is) e

-- what is there stays while an entry moves
pub child_stays : (tree : Tree) (to : ℕ) (new_name : List ℕ) (node : Node) (from : ℕ) (name : List ℕ) (given : Option ℕ) → IsThere tree given → IsThere (without_entry_at (with_entry_at tree to new_name node) from name) given
child_stays tree to new_name node from name None there = tt
child_stays tree to new_name node from name (Some id) there = stays_unlinked (with_entry_at tree to new_name node) from name id (stays_entered tree to new_name node id there)

pub over_stays : (tree : Tree) (child : Option ℕ) (parent : ℕ) (given : Option ℕ) → IsThere tree given → IsThere (with_parent_at tree child parent) given
over_stays tree child parent None there = tt
over_stays tree child parent (Some id) there = parent_stays tree child parent id there
