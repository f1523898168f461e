-- Which mounts an answer names.
use Rattle.std.proofs.Common.{◌≡◌, ℕ, List, Option, None, Some, Result, Ok, Err, IfOk, refl, sym, ap, subst}
use Rattle.std.specs.declared.alloc.AllocError.{AllocError}
use Rattle.name_store.specs.declared.operation.Node.{Node}
use Rattle.name_store.specs.declared.operation.Node.TheVariants.{Dir, Link, File, Mount}
use Rattle.name_store.specs.declared.operation.NameOp.{NameOp}
use Rattle.name_store.specs.declared.operation.NameOp.TheVariants as op
use Rattle.name_store.specs.declared.operation.NameAnswer.{NameAnswer}
use Rattle.name_store.specs.declared.operation.NameAnswer.TheVariants.{Gone, Absent, Found, MadeDir, MadeLink, Taken, Done, RemovedFile, RemovedLink, Same, Over, Moved, Names, Fault}
use Rattle.name_store.specs.Forms.{IsForm}
use Rattle.name_store.specs.NameTrees.{Tree, Listing, NamesOutcome, dir_at, entry_at, nstep, unless_gone, look_answer_at, addfile_outcome_at}
use Rattle.name_store.specs.Sound.{node_at, node_in}
use Rattle.path_walk.specs.Backing.{IsNodeAmong, NamesAmong}
use Rattle.memory_backend.specs.Among.{MountsAmong}

module _ (backends : ℕ) (tree : Tree) (among : MountsAmong backends tree) where
  node_among : (id : ℕ) (name : List ℕ) (node : Node) → node_at tree id name ≡ Some node → IsNodeAmong backends node
  node_among id name (Dir child) here = tt
  node_among id name (Link link text) here = tt
  node_among id name (File file) here = tt
  node_among id name (Mount backend) here = among id name backend here

  looked : (id : ℕ) (name : List ℕ) (found : Option Node) → node_at tree id name ≡ found → NamesAmong backends (look_answer_at found)
  looked id name None here = tt
  looked id name (Some node) here = node_among id name node here

  added : (id : ℕ) (name : List ℕ) (file : ℕ) (found : Option Node) → node_at tree id name ≡ found → NamesAmong backends (addfile_outcome_at tree id name file found).answer
  added id name file None here = tt
  added id name file (Some node) here = node_among id name node here

  in_directory : (id : ℕ) (directory : Option Listing) (outcome : Listing → NamesOutcome) → dir_at tree id ≡ directory → ((d : Listing) → dir_at tree id ≡ Some d → NamesAmong backends (outcome d).answer) → NamesAmong backends (unless_gone tree directory outcome).answer
  in_directory id None outcome here each = tt
  in_directory id (Some d) outcome here each = each d here

  entry_here : (id : ℕ) (d : Listing) (name : List ℕ) → dir_at tree id ≡ Some d → node_at tree id name ≡ entry_at d name
  entry_here id d name here = ap (λ (o : Option Listing). node_in o name) here

  -- an answer of another form names no node
  no_node : (op : NameOp) (answer : NameAnswer) → IsForm op answer → ((node : Node) → answer ≡ Found node → IsNodeAmong backends node) → ((node : Node) → answer ≡ Taken node → IsNodeAmong backends node) → NamesAmong backends answer
  no_node op (Found node) form found taken = found node refl
  no_node op (Taken node) form found taken = taken node refl
  no_node op Gone form found taken = tt
  no_node op Absent form found taken = tt
  no_node op (MadeDir id) form found taken = tt
  no_node op (MadeLink id) form found taken = tt
  no_node op Done form found taken = tt
  no_node op (RemovedFile file) form found taken = tt
  no_node op RemovedLink form found taken = tt
  no_node op Same form found taken = tt
  no_node op (Over file) form found taken = tt
  no_node op Moved form found taken = tt
  no_node op (Names names) form found taken = tt
  no_node op (Fault error) form found taken = tt

  -- an operation whose form has no node
  plain : (op : NameOp) (answer : NameAnswer) → IsForm op answer → ((node : Node) → IsForm op (Found node) → ⊥) → ((node : Node) → IsForm op (Taken node) → ⊥) → NamesAmong backends answer
  plain op answer form not_found not_taken = no_node op answer form (λ node e. absurd (not_found node (subst (IsForm op) e form))) (λ node e. absurd (not_taken node (subst (IsForm op) e form)))

  pub answer_among : (op : NameOp) → IsForm op (nstep tree op).answer → NamesAmong backends (nstep tree op).answer
  answer_among (op.Look id name) form = in_directory id (dir_at tree id) _ refl (λ d here. looked id name (entry_at d name) (entry_here id d name here))
  answer_among (op.Parent id) form = in_directory id (dir_at tree id) _ refl (λ d here. tt)
  answer_among (op.Makedir id name) form = plain (op.Makedir id name) _ form (λ node f. f) (λ node f. f)
  answer_among (op.Addlink id name text) form = plain (op.Addlink id name text) _ form (λ node f. f) (λ node f. f)
  answer_among (op.Addfile id name file) form = in_directory id (dir_at tree id) _ refl (λ d here. added id name file (entry_at d name) (entry_here id d name here))
  answer_among (op.Remfile id name slash) form = plain (op.Remfile id name slash) _ form (λ node f. f) (λ node f. f)
  answer_among (op.Remdir id name) form = plain (op.Remdir id name) _ form (λ node f. f) (λ node f. f)
  answer_among (op.Move from name to new_name slash) form = plain (op.Move from name to new_name slash) _ form (λ node f. f) (λ node f. f)
  answer_among (op.List id start) form = plain (op.List id start) _ form (λ node f. f) (λ node f. f)

  pub told_among : (new : Tree) (op : NameOp) (r : Result NameAnswer AllocError) → IfOk r (λ answer. nstep tree op ≡ record { tree = new; answer = answer }) → IfOk r (IsForm op) → IfOk r (NamesAmong backends)
  told_among new op (Ok answer) told form =
      let same : (nstep tree op).answer ≡ answer = ap (λ (o : NamesOutcome). o.answer) told in
      subst (NamesAmong backends) same (answer_among op (subst (IsForm op) (sym same) form))
  told_among new op (Err error) told form = tt
