-- What each operation answers has a form that it has.
use Rattle.std.proofs.Common.{◌≡◌, ℕ, ◌≤◌, Bool, true, false, if◌then◌else◌, List, length, take, drop, Option, None, Some, Result, Ok, Err, IfOk, subst, arith, length-take}
use Rattle.std.specs.declared.alloc.AllocError.{AllocError}
use Rattle.std.specs.Map.{keys_of}
use Rattle.wf_core.specs.Limits.{list_max}
use Rattle.wf_core.specs.declared.errno.Errno.{Errno}
use Rattle.name_store.specs.declared.operation.Node.{Node}
use Rattle.name_store.specs.declared.operation.Node.TheVariants.{Dir, Link, File, Mount}
use Rattle.name_store.specs.declared.operation.NameOp.TheVariants.{Move, List as ListOp}
use Rattle.name_store.specs.declared.operation.NameAnswer.{NameAnswer}
use Rattle.name_store.specs.NameTrees.{Tree, NamesOutcome, dir_at, entry_at, is_inside, is_empty, is_same_entry, outcome_of, move_answer, move_fault, mount_fault, nstep, after_move, move_outcome_at, over_fault, unless_refused}
use Rattle.name_store.specs.Forms.{IsForm, MoveFault}
use Rattle.name_store.proofs.Outcomes.{in_allowed, in_apart, in_there}

length_take_le : (n : ℕ) {A : Type 0} (xs : List A) → length (take n xs) ≤ n
length_take_le n xs = omega (arith, length-take n xs)

-- an outcome of a `move`
abbrev Moves : NamesOutcome → Type 0
Moves outcome = (from : ℕ) (name : List ℕ) (to : ℕ) (other : List ℕ) (slash : Bool) → IsForm (Move from name to other slash) outcome.answer

abbrev IsMoveFault : Option Errno → Type 0
IsMoveFault None = Unit {0}
IsMoveFault (Some error) = MoveFault error

unless_moves : (fault : Option Errno) (tree : Tree) (outcome : NamesOutcome) → IsMoveFault fault → Moves outcome → Moves (unless_refused fault tree outcome)
unless_moves fault tree outcome f h = in_allowed Moves tree fault outcome (λ error is from name to new_name slash. subst IsMoveFault is f) (λ none. h)

chosen : (fault : Errno) (b : Bool) → MoveFault fault → IsMoveFault (if b then Some fault else None)
chosen fault true f = f
chosen fault false f = tt

is_move_fault : (tree : Tree) (node : Node) (to : ℕ) (slash : Bool) → IsMoveFault (move_fault tree node to slash)
is_move_fault tree (Mount backend) to slash = tt
is_move_fault tree (File file) to slash = chosen _ slash tt
is_move_fault tree (Link id text) to slash = chosen _ slash tt
is_move_fault tree (Dir id) to slash = chosen _ (is_inside (length tree) tree id to) tt

is_mount_fault : (over : Option Node) → IsMoveFault (mount_fault over)
is_mount_fault None = tt
is_mount_fault (Some (Dir id)) = tt
is_mount_fault (Some (Link id text)) = tt
is_mount_fault (Some (File file)) = tt
is_mount_fault (Some (Mount backend)) = tt

chosen_not : (fault : Errno) (b : Bool) → MoveFault fault → IsMoveFault (if b then None else Some fault)
chosen_not fault true f = tt
chosen_not fault false f = f

is_over_fault : (tree : Tree) (node : Node) (over : Option Node) → IsMoveFault (over_fault tree node over)
is_over_fault tree node None = tt
is_over_fault tree (Dir id) (Some (Dir other)) = chosen_not _ (is_empty (dir_at tree other)) tt
is_over_fault tree (Dir id) (Some (Link other text)) = tt
is_over_fault tree (Dir id) (Some (File file)) = tt
is_over_fault tree (Dir id) (Some (Mount backend)) = tt
is_over_fault tree (Link id text) (Some (Dir other)) = tt
is_over_fault tree (Link id text) (Some (Link other words)) = tt
is_over_fault tree (Link id text) (Some (File file)) = tt
is_over_fault tree (Link id text) (Some (Mount backend)) = tt
is_over_fault tree (File file) (Some (Dir other)) = tt
is_over_fault tree (File file) (Some (Link other text)) = tt
is_over_fault tree (File file) (Some (File older)) = tt
is_over_fault tree (File file) (Some (Mount backend)) = tt
is_over_fault tree (Mount backend) (Some (Dir other)) = tt
is_over_fault tree (Mount backend) (Some (Link other text)) = tt
is_over_fault tree (Mount backend) (Some (File file)) = tt
is_over_fault tree (Mount backend) (Some (Mount older)) = tt

answer_moves : (tree : Tree) (over : Option Node) → Moves (outcome_of tree (move_answer over))
answer_moves tree None = λ from name to other slash. tt
answer_moves tree (Some (Dir id)) = λ from name to other slash. tt
answer_moves tree (Some (Link id text)) = λ from name to other slash. tt
answer_moves tree (Some (File file)) = λ from name to other slash. tt
answer_moves tree (Some (Mount backend)) = λ from name to other slash. tt

node_moves : (tree : Tree) (from : ℕ) (name : List ℕ) (to : ℕ) (other : List ℕ) (slash : Bool) (node over : Option Node) → Moves (move_outcome_at tree from name to other slash node over)
node_moves tree from name to other slash None over = λ f n t o s. tt
node_moves tree from name to other slash (Some node) over =
    unless_moves (move_fault tree node to slash) tree _ (is_move_fault tree node to slash)
    (unless_moves (mount_fault over) tree _ (is_mount_fault over)
    (in_apart Moves tree (is_same_entry from name to other) _ (λ one f n t o s. tt) (λ differ.
    unless_moves (over_fault tree node over) tree _ (is_over_fault tree node over)
    (answer_moves (after_move tree from name to other node over) over))))

-- the answer of a `move` is one of its
pub move_form : (old new : Tree) (from : ℕ) (name : List ℕ) (to : ℕ) (new_name : List ℕ) (slash : Bool) (r : Result NameAnswer AllocError) → IfOk r (λ answer. nstep old (Move from name to new_name slash) ≡ record { tree = new; answer = answer }) → IfOk r (IsForm (Move from name to new_name slash))
move_form old new from name to new_name slash (Err error) h = tt
move_form old new from name to new_name slash (Ok answer) h =
    subst (λ (o : NamesOutcome). IsForm (Move from name to new_name slash) o.answer) h
    (in_there Moves old (dir_at old from) _ (λ f n t o s. tt) (λ source here.
    in_there Moves old (dir_at old to) _ (λ f n t o s. tt) (λ target there.
    node_moves old from name to new_name slash (entry_at source name) (entry_at target new_name)))
    from name to new_name slash)

listed_form : (tree : Tree) (id start : ℕ) → IsForm (ListOp id start) (nstep tree (ListOp id start)).answer
listed_form tree id start =
    in_there (λ outcome. IsForm (ListOp id start) outcome.answer) tree (dir_at tree id) _ tt (λ there is.
    length_take_le list_max (drop start (keys_of there.entries)))

-- a list has at most as many names as it may
pub list_form : (tree : Tree) (id start : ℕ) (r : Result NameAnswer AllocError) → IfOk r (λ answer. nstep tree (ListOp id start) ≡ outcome_of tree answer) → IfOk r (IsForm (ListOp id start))
list_form tree id start (Err error) h = tt
list_form tree id start (Ok answer) h = subst (λ (o : NamesOutcome). IsForm (ListOp id start) o.answer) h (listed_form tree id start)
