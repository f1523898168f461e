-- Each entry of a sound tree is visited once.
use Rattle.std.proofs.Common.{◌≡◌, ◌≢◌, ℕ, ◌+◌, ◌-◌, ◌<◌, ◌==◌, ◌&&◌, nat_eq, zero, suc, Bool, true, false, cond, inl, inr, List, [], ◌∷◌, length, count_by, codes, Option, None, Some, refl, sym, ap, ◌∙◌, arith, zero-add}
use Rattle.std.proofs.lemmas.Bool.{cases_lt}
use Rattle.std.proofs.lemmas.Bool.Decides.{nat_tests}
use Rattle.std.proofs.lemmas.List.Elements.{All-from_recursion}
use Rattle.std.specs.Cmp.Lexicographic.{pointwise, nat_list_eq_equiv}
use Rattle.std.specs.List.{flat_map}
use Rattle.name_store.specs.declared.operation.Node.{Node}
use Rattle.name_store.specs.declared.operation.Node.TheVariants.{Dir, Link, File, Mount}
use Rattle.name_store.specs.declared.tree_line.TreeLine.TheVariants.{Dir as DirLine}
use Rattle.name_store.specs.NameTrees.{Tree, Listing, dir_at, up}
use Rattle.name_store.specs.Sound.{node_in, node_at, parent_at, climb, IsSound}
use Rattle.name_store.specs.TreeLines.{entries_in}
use Rattle.name_store.specs.Visits.{LinesAreEntries, Visit, entry_visits, is_visit_of, visits, visits_below, visits_under}
use Rattle.name_store.proofs.Entries.{at}
use Rattle.name_store.proofs.Changes.{same_id}
use Rattle.name_store.proofs.Climbs.{apart_before, climb_on, climb_there, few_steps, first, is_other, is_same, reached, up_is}
use Rattle.name_store.proofs.Edits.{live, root_up, sound_parents}
use Rattle.name_store.proofs.Printed.{count-append, counts_none, counts_one, lines_of_visits, visits_stand}

pub both_true : (a b : Bool) → a && b ≡ true → (a ≡ true) × (b ≡ true)
both_true true b h = (refl, h)
both_true false b h = cc

same_byte : (a b : ℕ) → nat_eq a b ≡ true → a ≡ b
same_byte a b h = grind (arith, nat_tests)

-- names that are told the same are one
pub same_bytes : (first second : List ℕ) → pointwise nat_eq first second ≡ true → first ≡ second
same_bytes [] [] h = refl
same_bytes [] (b ∷ second) h = cc
same_bytes (a ∷ first) [] h = cc
same_bytes (a ∷ first) (b ∷ second) h =
    let (one, rest) = both_true (nat_eq a b) (pointwise nat_eq first second) h in
    ap (λ (x : ℕ). x ∷ first) (same_byte a b one) ∙ ap (λ (xs : List ℕ). b ∷ xs) (same_bytes first second rest)

other_bytes : (first second : List ℕ) (b : Bool) → pointwise nat_eq first second ≡ b → first ≢ second → b ≡ false
other_bytes first second true h ne = absurd (ne (same_bytes first second h))
other_bytes first second false h ne = refl

and_false : (a b : Bool) → b ≡ false → a && b ≡ false
and_false true b h = h
and_false false b h = refl

count_cons : (p : Visit → Bool) (visit : Visit) (rest : List Visit) → count_by p (visit ∷ rest) ≡ cond (p visit) 1 0 + count_by p rest
count_cons p visit rest =
    count-append p (visit ∷ []) rest
    ∙ ap (λ (m : ℕ). m + count_by p rest) (let one : count_by p (visit ∷ []) ≡ cond (p visit) 1 0 = zero-add (cond (p visit) 1 0) in one)

module _ (tree : Tree) (sound : IsSound tree) where
  -- a step at the end of a way
  climb_up : (k id : ℕ) → climb tree (suc k) id ≡ up tree (climb tree k id)
  climb_up k id = climb_on tree k (suc k) 1 id (omega arith)

  -- what is in a directory is not above it
  no_cycle : (child id : ℕ) → parent_at tree child ≡ Some id → child ≢ 0 → (k : ℕ) → climb tree k id ≡ child → ⊥
  no_cycle child id h some k met =
      let way = first tree (length tree) child (sound.rooted child id h) in
      let again : climb tree (suc k) child ≡ child = ap (climb tree k) (up_is tree child id h) ∙ met in
      elim (cases_lt way.steps (suc k)) [
        | inl lt ↦ some (sym again ∙ reached tree way.steps (suc k) child (root_up tree sound.root) (omega arith) way.there)
        | inr le ↦ apart_before tree child way 0 (suc k) (omega arith) le (sym again)
      ]

module _ (tree : Tree) (sound : IsSound tree) (target : ℕ) (name : List ℕ) where
  abbrev passes : Visit → Bool
  passes = is_visit_of target name

  abbrev count : List Visit → ℕ
  count vs = count_by passes vs

  -- a visit in another directory does not pass, nor one of another name
  other_dir : (depth id : ℕ) (n : List ℕ) (node : Node) → id ≢ target → passes (record { depth = depth; id = id; name = n; node = node }) ≡ false
  other_dir depth id n node ne = ap (λ (b : Bool). b && pointwise nat_eq n name) (is_other id target ne)

  other_name : (depth id : ℕ) (n : List ℕ) (node : Node) → n ≢ name → passes (record { depth = depth; id = id; name = n; node = node }) ≡ false
  other_name depth id n node ne = and_false (id == target) (pointwise nat_eq n name) (other_bytes n name (pointwise nat_eq n name) refl ne)

  the_one : (depth id : ℕ) (n : List ℕ) (node : Node) → id ≡ target → n ≡ name → passes (record { depth = depth; id = id; name = n; node = node }) ≡ true
  the_one depth id n node e f =
      ap (λ (b : Bool). b && pointwise nat_eq n name) (is_same id target e)
      ∙ ap (λ (x : List ℕ). pointwise nat_eq x name) f
      ∙ nat_list_eq_equiv.refl name

  -- the count of an entry's visits: its own, and those under it
  counted : (below : ℕ → List Visit) (depth id : ℕ) (n : List ℕ) (node : Node) (own : Bool) (under : ℕ) → passes (record { depth = depth; id = id; name = n; node = node }) ≡ own → count (visits_under below node) ≡ under → count (entry_visits below depth id (n, node)) ≡ cond own 1 0 + under
  counted below depth id n node own under e f =
      count_cons passes (record { depth = depth; id = id; name = n; node = node }) (visits_under below node)
      ∙ ap (λ (b : Bool). cond b 1 0 + count (visits_under below node)) e
      ∙ ap (λ (m : ℕ). cond own 1 0 + m) f

  -- nothing is counted under a node whose directory counts nothing
  none_under : (below : ℕ → List Visit) (node : Node) → ((child : ℕ) → node ≡ Dir child → count (below child) ≡ 0) → count (visits_under below node) ≡ 0
  none_under below (Dir child) h = h child refl
  none_under below (Link link text) h = refl
  none_under below (File file) h = refl
  none_under below (Mount backend) h = refl

  in_directory : (id : ℕ) (directory : Listing) (n : List ℕ) (node : Node) → dir_at tree id ≡ Some directory → at n directory.entries ≡ Some node → node_at tree id n ≡ Some node
  in_directory id directory n node there h = ap (λ (d : Option Listing). node_in d n) there ∙ h

  -- the entries of a directory, each with what is below it
  abbrev all_in : ℕ → ℕ → ℕ → Option Listing → List Visit
  all_in levels depth id directory = flat_map (entry_visits (visits_below levels tree (depth + 1)) (depth + 1) id) (entries_in directory)

  -- where the target is not below a directory, nothing is counted there
  none_in : (levels depth id : ℕ) (directory : Option Listing) → dir_at tree id ≡ directory → ((k : ℕ) → climb tree k target ≢ id) → ((child : ℕ) → ((k : ℕ) → climb tree k target ≢ child) → count (visits_below levels tree (depth + 1) child) ≡ 0) → count (all_in levels depth id directory) ≡ 0
  none_in levels depth id None there apart on = refl
  none_in levels depth id (Some directory) there apart on =
      counts_none passes (entry_visits (visits_below levels tree (depth + 1)) (depth + 1) id) directory.entries (sound.names id directory there)
      (λ n node h. counted (visits_below levels tree (depth + 1)) (depth + 1) id n node false 0 (other_dir (depth + 1) id n node (λ e. apart 0 (sym e)))
      (none_under (visits_below levels tree (depth + 1)) node (λ child e.
      on child (λ k met.
      (let is_child = sound.child id child n (in_directory id directory n node there h ∙ ap (λ (x : Node). let o : Option Node = Some x in o) e) in
      apart (suc k) (climb_up tree sound k target ∙ ap (up tree) met ∙ up_is tree child id is_child.1))))))

  count_none : (levels depth id : ℕ) → ((k : ℕ) → climb tree k target ≢ id) → count (visits_below levels tree depth id) ≡ 0
  count_none zero depth id apart = refl
  count_none (suc levels) depth id apart = none_in levels depth id (dir_at tree id) refl apart (λ child h. count_none levels (depth + 1) child h)

  module _ (node : Node) (stands : node_at tree target name ≡ Some node) where
    -- nothing of the target's directory is below what stands in it
    none_inside : (levels depth : ℕ) (n : List ℕ) (there : Node) → node_at tree target n ≡ Some there → count (visits_under (visits_below levels tree depth) there) ≡ 0
    none_inside levels depth n there h = none_under (visits_below levels tree depth) there (λ child e.
        (let is_child = sound.child target child n (h ∙ ap (λ (x : Node). let o : Option Node = Some x in o) e) in
        count_none levels depth child (λ k met. no_cycle tree sound child target is_child.1 is_child.0 k met)))

    at_target : (levels depth id : ℕ) (directory : Option Listing) → id ≡ target → dir_at tree id ≡ directory → count (flat_map (entry_visits (visits_below levels tree (depth + 1)) (depth + 1) id) (entries_in directory)) ≡ 1
    at_target levels depth id None e there =
        (let clash : None ≡ Some node = sym (ap (λ (d : Option Listing). node_in d name) there) ∙ ap (λ (i : ℕ). node_at tree i name) e ∙ stands in cc)
    at_target levels depth id (Some directory) e there =
        counts_one passes (entry_visits (visits_below levels tree (depth + 1)) (depth + 1) id) directory.entries name node (sound.names id directory there)
        (sym (ap (λ (d : Option Listing). node_in d name) there) ∙ ap (λ (i : ℕ). node_at tree i name) e ∙ stands)
        (counted (visits_below levels tree (depth + 1)) (depth + 1) id name node true 0 (the_one (depth + 1) id name node e refl) (none_inside levels (depth + 1) name node stands))
        (λ n other h ne. counted (visits_below levels tree (depth + 1)) (depth + 1) id n other false 0 (other_name (depth + 1) id n other ne)
        (none_inside levels (depth + 1) n other (ap (λ (i : ℕ). node_at tree i n) (sym e) ∙ in_directory id directory n other there h)))

    -- the way from the target up, seen from above
    module _ (k id : ℕ) (reaches : climb tree (suc k) target ≡ id) (before : (j : ℕ) → j < suc k → climb tree j target ≢ id) where
      abbrev step : ℕ
      step = climb tree k target

      step_up : up tree step ≡ id
      step_up = sym (climb_up tree sound k target) ∙ reaches

      step_not_root : step ≢ 0
      step_not_root e = before k (omega arith) (e ∙ sym (ap (up tree) e ∙ root_up tree sound.root) ∙ step_up)

      step_parent : parent_at tree step ≡ Some id
      step_parent =
          let (parent, h) = live tree target name node stands in
          let (above, is) = climb_there tree (sound_parents tree sound) k target parent h in
          is ∙ ap (λ (i : ℕ). let o : Option ℕ = Some i in o) (sym (up_is tree step above is) ∙ step_up)

      -- the target is below no other child of that directory
      beside : (child : ℕ) → parent_at tree child ≡ Some id → child ≢ 0 → child ≢ step → (j : ℕ) → climb tree j target ≢ child
      beside child is_child some ne j met =
          elim (cases_lt j k) [
            | inl lt ↦ before (suc j) (omega arith) (climb_up tree sound j target ∙ ap (up tree) met ∙ up_is tree child id is_child)
            | inr ge ↦ elim (same_id j k) [
              | inl e ↦ ne (sym met ∙ ap (λ (i : ℕ). climb tree i target) e)
              | inr apart ↦
                  let more : ℕ = j - (k + 1) in
                  let on : climb tree j target ≡ climb tree more (climb tree (suc k) target) = climb_on tree (suc k) j more target (omega arith) in
                  no_cycle tree sound child id is_child some more (ap (climb tree more) (sym reaches) ∙ sym on ∙ met)
            ]
          ]

      -- where it is below one child, it is counted there alone
      one_in : (levels depth : ℕ) (directory : Option Listing) → dir_at tree id ≡ directory → count (visits_below levels tree (depth + 1) step) ≡ 1 → count (all_in levels depth id directory) ≡ 1
      one_in levels depth None there one =
          (let (n, h) = sound.entry step id step_parent step_not_root in
          let clash : None ≡ Some (Dir step) = sym (ap (λ (d : Option Listing). node_in d n) there) ∙ h in cc)
      one_in levels depth (Some directory) there one =
          (let (n, h) = sound.entry step id step_parent step_not_root in
          let not_here : id ≢ target = λ e. before 0 (omega arith) (sym e) in
          counts_one passes (entry_visits (visits_below levels tree (depth + 1)) (depth + 1) id) directory.entries n (Dir step) (sound.names id directory there)
          (sym (ap (λ (d : Option Listing). node_in d n) there) ∙ h)
          (counted (visits_below levels tree (depth + 1)) (depth + 1) id n (Dir step) false 1 (other_dir (depth + 1) id n (Dir step) not_here) one)
          (λ other there_node is ne. counted (visits_below levels tree (depth + 1)) (depth + 1) id other there_node false 0 (other_dir (depth + 1) id other there_node not_here)
          (none_under (visits_below levels tree (depth + 1)) there_node (λ child e.
          (let stands_there : node_at tree id other ≡ Some (Dir child) = in_directory id directory other there_node there is ∙ ap (λ (x : Node). let o : Option Node = Some x in o) e in
          let is_child = sound.child id child other stands_there in
          count_none levels (depth + 1) child (beside child is_child.1 is_child.0
          (λ same. ne (sound.once child id id other n (Dir child) (Dir step) stands_there h refl (ap (λ (i : ℕ). let o : Option ℕ = Some i in o) (sym same))).1)))))))

    count_one : (levels k depth id : ℕ) → k < levels → climb tree k target ≡ id → ((j : ℕ) → j < k → climb tree j target ≢ id) → count (visits_below levels tree depth id) ≡ 1
    count_one zero k depth id lt reaches before = absurd (omega arith)
    count_one (suc levels) zero depth id lt reaches before = at_target levels depth id (dir_at tree id) (sym reaches) refl
    count_one (suc levels) (suc k) depth id lt reaches before =
        one_in k id reaches before levels depth (dir_at tree id) refl
        (count_one levels k (depth + 1) (climb tree k target) (omega arith) refl
        (λ j less met. before (suc j) (omega arith) (climb_up tree sound j target ∙ ap (up tree) met ∙ step_up k id reaches before)))

    -- over the whole tree the entry is counted once
    counted_once : count (visits tree) ≡ 1
    counted_once =
        let (parent, h) = live tree target name node stands in
        let way = first tree (length tree) target (sound.rooted target parent h) in
        count_one (length tree) way.steps 0 0 (few_steps tree target parent way (sound_parents tree sound) h) way.there way.before

pub lines_are_entries : (tree : Tree) → IsSound tree → LinesAreEntries tree
lines_are_entries tree sound = record {
  lines = ap (λ rest. DirLine 0 (codes "/") ∷ rest) (lines_of_visits (length tree) tree 0 0);
  stand = All-from_recursion _ (visits tree) (visits_stand (length tree) tree 0 0 sound);
  once = λ id name node h. counted_once tree sound id name node h;
}
