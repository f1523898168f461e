-- The draws, the order of the error words, and the counts of a summary.
use Rattle.std.proofs.Common.{◌≡◌, ℕ, ◌+◌, cond, List, [], ◌∷◌, ◌++◌, length, map, drop, count_by, sum_by, refl, sym, ◌∙◌, ap, arith}
use Rattle.std.specs.List.{flat_map, zip}
use Rattle.std.proofs.lemmas.Grind.{flat_map-append}
use Rattle.std.proofs.lemmas.List.Sums.{sum_by-cons}
use Rattle.wf_core.specs.declared.errno.Errno.{Errno}
use Rattle.wf_core.specs.declared.errno.Errno.TheVariants.{Enoent, Eexist, Enotdir, Eisdir, Enotempty, Einval, Eloop, Enametoolong, Ebadf, Emfile, Efbig, Enospc, Ebusy, Exdev, Eoverflow, Ecanceled, Enxio, Enotsup, Eagain}
use Rattle.name_store.specs.declared.tree_line.TreeLine.{TreeLine}
use Rattle.name_store.specs.declared.tree_line.TreeLine.TheVariants.{Dir as DirLine, Link as LinkLine, File as FileLine, Mount as MountLine}
use Rattle.name_store.specs.TreeLines.{tree_lines}
use Rattle.path_walk.specs.Store.{Store, names_at}
use Rattle.path_walk.specs.declared.call.Reply.{Reply}
use Rattle.path_walk.specs.declared.call.Reply.TheVariants.{Done, Dir, File, Link, Text, Names, Fd, Bytes, Count, At, Fault}
use Rattle.trace_text.specs.declared.trace.CallLine.{CallLine}
use Rattle.trace_text.specs.SoloText.{Between, after_call_line, backend_line_text, line_text, mounted_text, opening_of_run, replies_text, store_text}
use Rattle.run_engine.specs.Generated.{state_after}
use Rattle.run_engine.specs.Summary.{errors_in_order, is_fault_reply, is_ok_reply, replies_to}
use Rattle.run_engine.specs.WholeTree.{lines_from, mounted_lines, mount_of, placed, placed_text, whole_tree}
use Rattle.run_engine.specs.Laws.{CountsSumUp, FirstDraws, SummariesCountTheSoloText, line_of_reply}

pub draws_are : FirstDraws
unfolding state_after
draws_are = (refl, refl)

-- Each reply counts once.

module _ {A : Type 0} where
  sum_two : (f g : A → ℕ) (xs : List A) → sum_by (λ x. f x + g x) xs ≡ sum_by f xs + sum_by g xs
  sum_two f g [] = refl
  sum_two f g (x ∷ xs) =
      let both = sum_by-cons (λ (y : A). f y + g y) x xs in
      let first = sum_by-cons f x xs in
      let second = sum_by-cons g x xs in
      let rest = sum_two f g xs in
      omega arith

  same_sums : (f g : A → ℕ) → ((x : A) → f x ≡ g x) → (xs : List A) → sum_by f xs ≡ sum_by g xs
  same_sums f g same [] = refl
  same_sums f g same (x ∷ xs) =
      let first = sum_by-cons f x xs in
      let second = sum_by-cons g x xs in
      let here = same x in
      let rest = same_sums f g same xs in
      omega arith

counted_once : (reply : Reply) → cond (is_ok_reply reply) 1 0 + sum_by (λ error. cond (is_fault_reply error reply) 1 0) errors_in_order ≡ 1
unfolding errors_in_order
counted_once Done = refl
counted_once Dir = refl
counted_once (File size) = refl
counted_once (Link size) = refl
counted_once (Text text) = refl
counted_once (Names names) = refl
counted_once (Fd number) = refl
counted_once (Bytes bytes) = refl
counted_once (Count count) = refl
counted_once (At offset) = refl
counted_once (Fault Enoent) = refl
counted_once (Fault Eexist) = refl
counted_once (Fault Enotdir) = refl
counted_once (Fault Eisdir) = refl
counted_once (Fault Enotempty) = refl
counted_once (Fault Einval) = refl
counted_once (Fault Eloop) = refl
counted_once (Fault Enametoolong) = refl
counted_once (Fault Ebadf) = refl
counted_once (Fault Emfile) = refl
counted_once (Fault Efbig) = refl
counted_once (Fault Enospc) = refl
counted_once (Fault Ebusy) = refl
counted_once (Fault Exdev) = refl
counted_once (Fault Eoverflow) = refl
counted_once (Fault Ecanceled) = refl
counted_once (Fault Enxio) = refl
counted_once (Fault Enotsup) = refl
counted_once (Fault Eagain) = refl

none : (errors : List Errno) → sum_by (λ error. count_by (is_fault_reply error) []) errors ≡ 0
none [] = refl
none (error ∷ errors) =
    let first = sum_by-cons (λ (e : Errno). count_by (is_fault_reply e) []) error errors in
    let rest = none errors in
    omega arith

total : (ok ok_one ok_rest faults both faults_one faults_rest length length_rest : ℕ) → ok ≡ ok_one + ok_rest → faults ≡ both → both ≡ faults_one + faults_rest → ok_one + faults_one ≡ 1
    → ok_rest + faults_rest ≡ length_rest → length ≡ length_rest + 1 → ok + faults ≡ length
total ok ok_one ok_rest faults both faults_one faults_rest length length_rest a b c d e f = omega arith

pub sums : CountsSumUp
sums [] =
    let no_fault = none errors_in_order in
    omega arith
sums (reply ∷ replies) =
    let one_fault = λ (error : Errno). cond (is_fault_reply error reply) 1 0 in
    let more_faults = λ (error : Errno). count_by (is_fault_reply error) replies in
    total (count_by is_ok_reply (reply ∷ replies)) (cond (is_ok_reply reply) 1 0) (count_by is_ok_reply replies)
    (sum_by (λ error. count_by (is_fault_reply error) (reply ∷ replies)) errors_in_order) (sum_by (λ error. one_fault error + more_faults error) errors_in_order)
    (sum_by one_fault errors_in_order) (sum_by more_faults errors_in_order) (length (reply ∷ replies)) (length replies)
    (sum_by-cons (λ (r : Reply). cond (is_ok_reply r) 1 0) reply replies)
    (same_sums (λ error. count_by (is_fault_reply error) (reply ∷ replies)) (λ error. one_fault error + more_faults error) (λ error. sum_by-cons (λ (r : Reply). cond (is_fault_reply error r) 1 0) reply replies) errors_in_order)
    (sum_two one_fault more_faults errors_in_order)
    (counted_once reply)
    (sums replies)
    (omega arith)

-- The solo text.

replies_have_lines : (threads : List (List ℕ)) (between : Between) (lines : List CallLine) → replies_text threads between lines ≡ flat_map (line_of_reply threads) (zip lines (replies_to between lines))
replies_have_lines threads between [] = refl
replies_have_lines threads between (line ∷ lines) = rw (replies_have_lines threads (after_call_line between line) lines) refl

mapped : (store : Store) (backend depth : ℕ) (lines : List TreeLine) → flat_map (backend_line_text store backend depth) lines ≡ flat_map (placed_text store) (map (placed backend depth) lines)
mapped store backend depth [] = refl
mapped store backend depth (line ∷ lines) = ap (λ (rest : List ℕ). backend_line_text store backend depth line ++ rest) (mapped store backend depth lines)

mounted_has_lines : (store : Store) (line : TreeLine) → mounted_text store line ≡ flat_map (placed_text store) (mounted_lines store (mount_of line))
mounted_has_lines store (DirLine depth name) = refl
mounted_has_lines store (LinkLine depth name text) = refl
mounted_has_lines store (FileLine depth name file) = refl
mounted_has_lines store (MountLine depth name backend) = mapped store backend depth (drop 1 (tree_lines (names_at store backend)))

tree_has_lines : (store : Store) (lines : List TreeLine) → flat_map (line_text store) lines ≡ flat_map (placed_text store) (flat_map (lines_from store) lines)
tree_has_lines store [] = refl
tree_has_lines store (line ∷ lines) =
    ap (λ (text : List ℕ). (backend_line_text store 0 0 line ++ text) ++ flat_map (line_text store) lines) (mounted_has_lines store line)
    ∙ ap (λ (rest : List ℕ). (backend_line_text store 0 0 line ++ flat_map (placed_text store) (mounted_lines store (mount_of line))) ++ rest) (tree_has_lines store lines)
    ∙ sym (flat_map-append (placed_text store) (lines_from store line) (flat_map (lines_from store) lines))

pub whole_text : (store : Store) → store_text store ≡ flat_map (placed_text store) (whole_tree store)
whole_text store = tree_has_lines store (tree_lines (names_at store 0))

pub counts_the_solo_text : SummariesCountTheSoloText
counts_the_solo_text trace = rw (replies_have_lines trace.threads (opening_of_run trace) trace.calls, whole_text) refl
