-- The lines of a sound tree name each entry once.
use Rattle.std.proofs.Common.{◌≡◌, ◌≢◌, ℕ, ◌+◌, zero, suc, Bool, cond, inl, inr, List, [], ◌∷◌, ◌++◌, map, count_by, Option, None, Some, refl, sym, ap, ◌∙◌, arith}
use Rattle.std.proofs.lemmas.List.Sums.{sum_by-append}
use Rattle.std.proofs.lemmas.Map.Keys.{sorted_tail}
use Rattle.std.specs.List.{flat_map, AllByRecursion}
use Rattle.std.specs.List.Sorted.{IsStrictlySortedBy}
use Rattle.std.specs.Map.{keys_of}
use Rattle.name_store.specs.declared.operation.Node.{Node}
use Rattle.name_store.specs.declared.operation.Node.TheVariants.{Dir, Link, File, Mount}
use Rattle.name_store.specs.declared.tree_line.TreeLine.{TreeLine}
use Rattle.name_store.specs.NameTrees.{Tree, Listing, byte_order, dir_at}
use Rattle.name_store.specs.Sound.{node_in, node_at, IsSound}
use Rattle.name_store.specs.TreeLines.{below_node, entries_in, entry_lines, line_of, lines_below}
use Rattle.name_store.specs.Visits.{Visit, entry_visits, line_at, visits_below, visits_under}
use Rattle.name_store.proofs.Entries.{Entries, at, at_first, at_later, at_other, same_name, apart_names}

-- the lines are those of the visits

map_append : {A B : Type 0} (f : A → B) (xs ys : List A) → map f (xs ++ ys) ≡ map f xs ++ map f ys
map_append f [] ys = refl
map_append f (x ∷ xs) ys = ap (λ rest. f x ∷ rest) (map_append f xs ys)

under_lines : (below : ℕ → List Visit) (lines : ℕ → List TreeLine) → ((id : ℕ) → lines id ≡ map line_at (below id)) → (node : Node) → below_node lines node ≡ map line_at (visits_under below node)
under_lines below lines h (Dir id) = h id
under_lines below lines h (Link id text) = refl
under_lines below lines h (File file) = refl
under_lines below lines h (Mount backend) = refl

entries_lines : (below : ℕ → List Visit) (lines : ℕ → List TreeLine) → ((id : ℕ) → lines id ≡ map line_at (below id)) → (depth id : ℕ) (entries : Entries) → flat_map (entry_lines lines depth) entries ≡ map line_at (flat_map (entry_visits below depth id) entries)
entries_lines below lines h depth id [] = refl
entries_lines below lines h depth id ((name, node) ∷ entries) =
    ap (λ rest. line_of depth name node ∷ (rest ++ flat_map (entry_lines lines depth) entries)) (under_lines below lines h node)
    ∙ ap (λ rest. line_of depth name node ∷ (map line_at (visits_under below node) ++ rest)) (entries_lines below lines h depth id entries)
    ∙ ap (λ rest. line_of depth name node ∷ rest) (sym (map_append line_at (visits_under below node) (flat_map (entry_visits below depth id) entries)))

pub lines_of_visits : (levels : ℕ) (tree : Tree) (depth id : ℕ) → lines_below levels tree depth id ≡ map line_at (visits_below levels tree depth id)
lines_of_visits zero tree depth id = refl
lines_of_visits (suc levels) tree depth id =
    entries_lines (visits_below levels tree (depth + 1)) (lines_below levels tree (depth + 1)) (λ child. lines_of_visits levels tree (depth + 1) child) (depth + 1) id (entries_in (dir_at tree id))

-- each visit is of an entry

under_stand : (P : Visit → Type 0) (below : ℕ → List Visit) → ((id : ℕ) → AllByRecursion P (below id)) → (node : Node) → AllByRecursion P (visits_under below node)
under_stand P below h (Dir id) = h id
under_stand P below h (Link id text) = tt
under_stand P below h (File file) = tt
under_stand P below h (Mount backend) = tt

all_append : (P : Visit → Type 0) (xs ys : List Visit) → AllByRecursion P xs → AllByRecursion P ys → AllByRecursion P (xs ++ ys)
all_append P [] ys h k = k
all_append P (x ∷ xs) ys h k = (h.0, all_append P xs ys h.1 k)

abbrev Stands : Tree → Visit → Type 0
Stands tree visit = node_at tree visit.id visit.name ≡ Some visit.node

entries_stand : (tree : Tree) (below : ℕ → List Visit) → ((id : ℕ) → AllByRecursion (Stands tree) (below id)) → (depth id : ℕ) (entries : Entries) → IsStrictlySortedBy byte_order (keys_of entries) → ((name : List ℕ) (node : Node) → at name entries ≡ Some node → node_at tree id name ≡ Some node) → AllByRecursion (Stands tree) (flat_map (entry_visits below depth id) entries)
entries_stand tree below h depth id [] sorted stands = tt
entries_stand tree below h depth id ((name, node) ∷ entries) sorted stands = (
  stands name node (at_first (name, node) entries),
  all_append (Stands tree) (visits_under below node) (flat_map (entry_visits below depth id) entries) (under_stand (Stands tree) below h node)
      (entries_stand tree below h depth id entries (sorted_tail byte_order name (keys_of entries) sorted) (λ other there e. stands other there (at_later (name, node) entries other there sorted e).1)),
)

visits_in_stand : (tree : Tree) (below : ℕ → List Visit) → ((id : ℕ) → AllByRecursion (Stands tree) (below id)) → (depth id : ℕ) (directory : Option Listing) → dir_at tree id ≡ directory → ((d : Listing) → directory ≡ Some d → IsStrictlySortedBy byte_order (keys_of d.entries)) → AllByRecursion (Stands tree) (flat_map (entry_visits below depth id) (entries_in directory))
visits_in_stand tree below h depth id None there sorted = tt
visits_in_stand tree below h depth id (Some directory) there sorted =
    entries_stand tree below h depth id directory.entries (sorted directory refl) (λ name node e. ap (λ (d : Option Listing). node_in d name) there ∙ e)

pub visits_stand : (levels : ℕ) (tree : Tree) (depth id : ℕ) → IsSound tree → AllByRecursion (Stands tree) (visits_below levels tree depth id)
visits_stand zero tree depth id sound = tt
visits_stand (suc levels) tree depth id sound =
    visits_in_stand tree (visits_below levels tree (depth + 1)) (λ child. visits_stand levels tree (depth + 1) child sound) (depth + 1) id (dir_at tree id) refl (λ d e. sound.names id d e)

-- each entry has one visit

pub count-append : (p : Visit → Bool) (xs ys : List Visit) → count_by p (xs ++ ys) ≡ count_by p xs + count_by p ys
count-append p xs ys = sum_by-append (λ x. cond (p x) 1 0) xs ys

-- no entry of these has a visit that passes
pub counts_none : (p : Visit → Bool) (f : List ℕ × Node → List Visit) (entries : Entries) → IsStrictlySortedBy byte_order (keys_of entries) → ((name : List ℕ) (node : Node) → at name entries ≡ Some node → count_by p (f (name, node)) ≡ 0) → count_by p (flat_map f entries) ≡ 0
counts_none p f [] sorted none = refl
counts_none p f (entry ∷ entries) sorted none =
    let here : count_by p (f entry) ≡ 0 = none entry.0 entry.1 (at_first entry entries) in
    let rest : count_by p (flat_map f entries) ≡ 0 = counts_none p f entries (sorted_tail byte_order entry.0 (keys_of entries) sorted) (λ name node h. none name node (at_later entry entries name node sorted h).1) in
    let both = count-append p (f entry) (flat_map f entries) in
    omega arith

-- one of them has one, and the others have none
pub counts_one : (p : Visit → Bool) (f : List ℕ × Node → List Visit) (entries : Entries) (name : List ℕ) (node : Node) → IsStrictlySortedBy byte_order (keys_of entries) → at name entries ≡ Some node → count_by p (f (name, node)) ≡ 1 → ((other : List ℕ) (there : Node) → at other entries ≡ Some there → other ≢ name → count_by p (f (other, there)) ≡ 0) → count_by p (flat_map f entries) ≡ 1
counts_one p f [] name node sorted stands one none = cc
counts_one p f (entry ∷ entries) name node sorted stands one none =
    let both = count-append p (f entry) (flat_map f entries) in
    elim (same_name name entry.0) [
      | inl e ↦
          let found : Some node ≡ Some entry.1 = sym stands ∙ ap (λ (n : List ℕ). at n (entry ∷ entries)) e ∙ at_first entry entries in
          let same : node ≡ entry.1 = cc in
          let here : count_by p (f entry) ≡ 1 = sym (ap (λ (n : List ℕ). count_by p (f (n, node))) e ∙ ap (λ (x : Node). count_by p (f (entry.0, x))) same) ∙ one in
          let rest : count_by p (flat_map f entries) ≡ 0 = counts_none p f entries (sorted_tail byte_order entry.0 (keys_of entries) sorted)
          (λ other there h. (let later = at_later entry entries other there sorted h in none other there later.1 (λ same_other. later.0 (same_other ∙ e)))) in
          omega arith
      | inr ne ↦
          let here : count_by p (f entry) ≡ 0 = none entry.0 entry.1 (at_first entry entries) (λ e. apart_names name entry.0 ne (sym e)) in
          let rest : count_by p (flat_map f entries) ≡ 1 = counts_one p f entries name node (sorted_tail byte_order entry.0 (keys_of entries) sorted) (at_other entry entries name node (apart_names name entry.0 ne) stands) one
          (λ other there h differs. none other there (at_later entry entries other there sorted h).1 differs) in
          omega arith
    ]
