-- The lines that are still to come while directories are open, one in another.
use Rattle.std.proofs.Common.{◌≡◌, ℕ, ◌+◌, ◌-◌, ◌*◌, ◌<◌, ◌≤◌, zero, suc, List, [], ◌∷◌, ◌++◌, length, Option, None, Some, option_map, refl, sym, ap, ◌∙◌, arith, length-append}
use Rattle.std.proofs.lemmas.List.{append-nil, append_assoc}
use Rattle.std.specs.List.{flat_map}
use Rattle.std.specs.Option.{option_to_list}
use Rattle.name_store.specs.declared.operation.Node.{Node}
use Rattle.name_store.specs.declared.operation.Node.TheVariants.{Dir, Link, File, Mount}
use Rattle.name_store.specs.declared.tree_line.TreeLine.{TreeLine}
use Rattle.name_store.specs.NameTrees.{Tree, Listing, dir_at, dir_of}
use Rattle.name_store.specs.TreeLines.{below_node, entries_in, entry_lines, line_of, lines_below}
use Rattle.name_store.proofs.Entries.{Entries}

-- the lines of entries that are left of a directory at `depth`
abbrev pub left_lines : Tree → ℕ → Entries → List TreeLine
left_lines tree depth entries = flat_map (entry_lines (lines_below (length tree - (depth + 1)) tree (depth + 1)) (depth + 1)) entries

-- the lines of what is left of directories that stand in one another, from `depth` on; those of the deepest come first
pub pending : Tree → ℕ → List Entries → List TreeLine
pending tree depth [] = []
pending tree depth (entries ∷ deeper) = pending tree (depth + 1) deeper ++ left_lines tree depth entries

pending_last : (tree : Tree) (depth at : ℕ) (way : List Entries) (entries : Entries) → at ≡ depth + length way → pending tree depth (way ++ entries ∷ []) ≡ left_lines tree at entries ++ pending tree depth way
unfolding pending
pending_last tree depth at [] entries e =
    let here : depth ≡ at = omega arith in
    ap (λ (d : ℕ). left_lines tree d entries) here ∙ sym (append-nil (left_lines tree at entries))
pending_last tree depth at (first ∷ way) entries e =
    ap (λ ls. ls ++ left_lines tree depth first) (pending_last tree (depth + 1) at way entries (omega arith))
    ∙ append_assoc (left_lines tree at entries) (pending tree (depth + 1) way) (left_lines tree depth first)

-- the lines below a directory at `depth` are those of all its entries
all_left : (tree : Tree) (depth levels id : ℕ) → levels ≡ length tree - depth → depth < length tree → lines_below levels tree depth id ≡ left_lines tree depth (entries_in (dir_at tree id))
all_left tree depth zero id e lt = absurd (omega arith)
all_left tree depth (suc levels) id e lt =
    let less : levels ≡ length tree - (depth + 1) = omega arith in
    ap (λ (n : ℕ). flat_map (entry_lines (lines_below n tree (depth + 1)) (depth + 1)) (entries_in (dir_at tree id))) less

opened_in : (tree : Tree) (way : List Entries) (directory : Option Listing) → pending tree 0 (way ++ option_to_list (option_map (λ d. d.entries) directory)) ≡ left_lines tree (length way) (entries_in directory) ++ pending tree 0 way
opened_in tree way None = ap (pending tree 0) (append-nil way)
opened_in tree way (Some directory) = pending_last tree 0 (length way) way directory.entries (omega arith)

pub opened_length : (way : List Entries) (directory : Option Listing) → length (way ++ option_to_list (option_map (λ d. d.entries) directory)) ≤ length way + 1
opened_length way None = let size = ap (λ (es : List Entries). length es) (append-nil way) in omega arith
opened_length way (Some directory) = let size = length-append way (directory.entries ∷ []) in omega arith

-- the first directory is opened
pub begins : (tree : Tree) (way : List Entries) → way ≡ option_to_list (option_map (λ d. d.entries) (dir_at tree 0)) → (pending tree 0 way ≡ lines_below (length tree) tree 0 0) × (length way ≤ length tree)
unfolding pending
begins [] way is = (ap (pending [] 0) is, (let size = ap (λ (es : List Entries). length es) is in omega arith))
begins (first ∷ tree) way is = (
  ap (pending (first ∷ tree) 0) is
      ∙ opened_in (first ∷ tree) [] (dir_at (first ∷ tree) 0)
      ∙ append-nil _
      ∙ sym (all_left (first ∷ tree) 0 (length (first ∷ tree)) 0 (omega arith) (omega arith)),
  (let one = opened_length [] (dir_at (first ∷ tree) 0) in let size = ap (λ (es : List Entries). length es) is in omega arith),
)

-- what is below a node is what is below the directory that it is
below_dir : (below : ℕ → List TreeLine) (node : Node) (child : ℕ) → dir_of node ≡ Some child → below_node below node ≡ below child
below_dir below (Dir id) child e = let same : id ≡ child = cc in ap below same
below_dir below (Link link text) child e = cc
below_dir below (File file) child e = cc
below_dir below (Mount backend) child e = cc

pub below_none : (below : ℕ → List TreeLine) (node : Node) → dir_of node ≡ None → below_node below node ≡ []
below_none below (Dir id) e = cc
below_none below (Link link text) e = refl
below_none below (File file) e = refl
below_none below (Mount backend) e = refl

-- no line is so deep
pub too_deep : (tree : Tree) (depth : ℕ) (node : Node) → length tree ≤ depth → below_node (lines_below (length tree - depth) tree depth) node ≡ []
too_deep tree depth (Dir id) le =
    let none : length tree - depth ≡ 0 = omega arith in
    ap (λ (n : ℕ). lines_below n tree depth id) none
too_deep tree depth (Link link text) le = refl
too_deep tree depth (File file) le = refl
too_deep tree depth (Mount backend) le = refl

-- the loop's turn: lines are added, and the way changes, but not what they come to, and it ends
pub record Turn (tree : Tree) (way after : List Entries) (lines more : List TreeLine) : Type 0 where
  pub same : more ++ pending tree 0 after ≡ lines ++ pending tree 0 way
  pub within : length way ≤ length tree → length after ≤ length tree
  pub fewer : 2 * length (pending tree 0 after) + length after < 2 * length (pending tree 0 way) + length way

-- the deepest directory's entries are taken off the way
module _ (tree : Tree) (way less : List Entries) (entries : Entries) (lines : List TreeLine) (was : way ≡ less ++ entries ∷ []) where
  way_length : length way ≡ length less + 1
  way_length = ap (λ (es : List Entries). length es) was ∙ length-append less (entries ∷ [])

  -- nothing is left of them
  pub closes : entries ≡ [] → Turn tree way less lines lines
  closes none =
      let size = way_length in
      let left : pending tree 0 way ≡ pending tree 0 less =
      ap (pending tree 0) (was ∙ ap (λ (es : Entries). less ++ es ∷ []) none) ∙ pending_last tree 0 (length less) less [] (omega arith) in
      let count = ap (λ (ls : List TreeLine). length ls) left in
      record { same = ap (λ ls. lines ++ ls) (sym left); within = λ h. omega (arith, size, h); fewer = omega (arith, size, count) }

  -- the first of them is listed, and the others are put back
  module _ (back : List Entries) (rest : Entries) (name : List ℕ) (node : Node) (depth : ℕ) (more : List TreeLine) (first : entries ≡ (name, node) ∷ rest) (put : back ≡ less ++ rest ∷ []) (deep : depth ≡ length back) (added : more ≡ lines ++ line_of depth name node ∷ []) where
    back_length : length back ≡ length less + 1
    back_length = ap (λ (es : List Entries). length es) put ∙ length-append less (rest ∷ [])

    -- the next line is that of the first entry, and then come those below it
    next_line : pending tree 0 way ≡ line_of depth name node ∷ (below_node (lines_below (length tree - depth) tree depth) node ++ pending tree 0 back)
    next_line =
        let here : depth ≡ length less + 1 = let size = back_length in omega (arith, deep) in
        ap (pending tree 0) (was ∙ ap (λ (es : Entries). less ++ es ∷ []) first)
        ∙ pending_last tree 0 (length less) less ((name, node) ∷ rest) (omega arith)
        ∙ ap (λ (d : ℕ). line_of d name node ∷ ((below_node (lines_below (length tree - d) tree d) node ++ left_lines tree (length less) rest) ++ pending tree 0 less)) (sym here)
        ∙ ap (λ ls. line_of depth name node ∷ ls) (append_assoc (below_node (lines_below (length tree - depth) tree depth) node) (left_lines tree (length less) rest) (pending tree 0 less))
        ∙ ap (λ ls. line_of depth name node ∷ (below_node (lines_below (length tree - depth) tree depth) node ++ ls)) (sym (pending_last tree 0 (length less) less rest (omega arith)) ∙ ap (pending tree 0) (sym put))

    turns : (after : List Entries) → pending tree 0 way ≡ line_of depth name node ∷ pending tree 0 after → length after ≤ length back + 1 → (length way ≤ length tree → length after ≤ length tree) → Turn tree way after lines more
    turns after line one within =
        let size = way_length in
        let same = back_length in
        let count = ap (λ (ls : List TreeLine). length ls) line in
        record {
          same = ap (λ ls. ls ++ pending tree 0 after) added ∙ append_assoc lines (line_of depth name node ∷ []) (pending tree 0 after) ∙ ap (λ ls. lines ++ ls) (sym line);
          within = within;
          fewer = omega (arith, one, size, same, count);
        }

    -- nothing is below it
    pub stays : below_node (lines_below (length tree - depth) tree depth) node ≡ [] → Turn tree way back lines more
    stays none =
        turns back (next_line ∙ ap (λ ls. line_of depth name node ∷ (ls ++ pending tree 0 back)) none) (omega arith)
        (λ h. (let size = way_length in let same = back_length in omega (arith, size, same, h)))

    -- it is a directory, which is opened
    pub goes : (child : ℕ) (after : List Entries) → dir_of node ≡ Some child → depth < length tree → after ≡ back ++ option_to_list (option_map (λ d. d.entries) (dir_at tree child)) → Turn tree way after lines more
    goes child after is lt opened =
        let one : length after ≤ length back + 1 = let longer = opened_length back (dir_at tree child) in let size = ap (λ (es : List Entries). length es) opened in omega (arith, longer, size) in
        turns after
        (next_line
        ∙ ap (λ ls. line_of depth name node ∷ (ls ++ pending tree 0 back)) (
        below_dir (lines_below (length tree - depth) tree depth) node child is
        ∙ all_left tree depth (length tree - depth) child refl lt
        ∙ ap (λ (d : ℕ). left_lines tree d (entries_in (dir_at tree child))) deep)
        ∙ ap (λ ls. line_of depth name node ∷ ls) (sym (opened_in tree back (dir_at tree child)) ∙ ap (pending tree 0) (sym opened)))
        one (λ h. omega (arith, one, deep, lt))

-- nothing is left on the way
pub ends : (tree : Tree) (way : List Entries) (lines all : List TreeLine) → length way ≡ 0 → lines ++ pending tree 0 way ≡ all → lines ≡ all
unfolding pending
ends tree [] lines all none h = sym (append-nil lines) ∙ h
ends tree (entries ∷ way) lines all none h = absurd (omega arith)
