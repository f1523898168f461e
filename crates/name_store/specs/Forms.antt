-- The forms of answer that each operation has.
use Rattle.std.specs.Prelude.{◌≡◌, ◌≤◌, ◌∷◌, length}
use Rattle.wf_core.specs.Limits.{list_max}
use Rattle.wf_core.specs.declared.errno.Errno.{Errno}
use Rattle.wf_core.specs.declared.errno.Errno.TheVariants.{Enoent, Eexist, Enotdir, Eisdir, Enotempty, Einval, Ebusy}
use Rattle.name_store.specs.declared.operation.Node.{Node}
use Rattle.name_store.specs.declared.operation.Node.TheVariants.{Dir, Link}
use Rattle.name_store.specs.declared.operation.NameOp.{NameOp}
use Rattle.name_store.specs.declared.operation.NameOp.TheVariants.{Look, Parent, Makedir, Addlink, Addfile, Remfile, Remdir, Move, List as ListOp}
use Rattle.name_store.specs.declared.operation.NameAnswer.{NameAnswer}
use Rattle.name_store.specs.declared.operation.NameAnswer.TheVariants.{Gone, Absent, Found, MadeDir, MadeLink, Taken, Done, RemovedFile, RemovedLink, Same, Over, Moved, Names, Fault}

-- the errors that an operation answers
abbrev pub RemfileFault : Errno → Type 0
RemfileFault Enoent = Unit {0}
RemfileFault Eisdir = Unit {0}
RemfileFault Enotdir = Unit {0}
RemfileFault error = ⊥

abbrev pub RemdirFault : Errno → Type 0
RemdirFault Enoent = Unit {0}
RemdirFault Ebusy = Unit {0}
RemdirFault Enotdir = Unit {0}
RemdirFault Enotempty = Unit {0}
RemdirFault error = ⊥

abbrev pub MoveFault : Errno → Type 0
MoveFault Enoent = Unit {0}
MoveFault Ebusy = Unit {0}
MoveFault Enotdir = Unit {0}
MoveFault Einval = Unit {0}
MoveFault Eisdir = Unit {0}
MoveFault Enotempty = Unit {0}
MoveFault error = ⊥

abbrev pub IsDir : Node → Type 0
IsDir (Dir id) = Unit {0}
IsDir node = ⊥

abbrev pub IsForm : NameOp → NameAnswer → Type 0
IsForm op Gone = Unit {0}
IsForm (Look id name) Absent = Unit {0}
IsForm (Look id name) (Found node) = Unit {0}
IsForm (Parent id) (Found node) = IsDir node
IsForm (Makedir id name) (MadeDir made) = Unit {0}
IsForm (Makedir id name) (Fault error) = error ≡ Eexist
IsForm (Addlink id name text) (MadeLink made) = Unit {0}
IsForm (Addlink id name text) (Fault error) = error ≡ Eexist
IsForm (Addfile id name file) (Taken node) = Unit {0}
IsForm (Addfile id name file) Done = Unit {0}
IsForm (Remfile id name slash) (RemovedFile file) = Unit {0}
IsForm (Remfile id name slash) RemovedLink = Unit {0}
IsForm (Remfile id name slash) (Fault error) = RemfileFault error
IsForm (Remdir id name) Done = Unit {0}
IsForm (Remdir id name) (Fault error) = RemdirFault error
IsForm (Move from name to new_name slash) Same = Unit {0}
IsForm (Move from name to new_name slash) (Over file) = Unit {0}
IsForm (Move from name to new_name slash) Moved = Unit {0}
IsForm (Move from name to new_name slash) (Fault error) = MoveFault error
IsForm (ListOp id start) (Names names) = length names ≤ list_max
IsForm op answer = ⊥

-- the operations that take no memory but for the text of their answer
abbrev pub IsSpare : NameOp → Type 0
IsSpare (Look id name) = Unit {0}
IsSpare (Parent id) = Unit {0}
IsSpare (Remfile id name slash) = Unit {0}
IsSpare (Remdir id name) = Unit {0}
IsSpare (ListOp id start) = Unit {0}
IsSpare op = ⊥

-- the node has no text
abbrev pub IsPlain : Node → Type 0
IsPlain (Link id text) = ⊥
IsPlain node = Unit {0}

-- the answer has no text: no link's and no name
abbrev pub HasNoText : NameAnswer → Type 0
HasNoText (Found node) = IsPlain node
HasNoText (Names (name ∷ names)) = ⊥
HasNoText answer = Unit {0}
