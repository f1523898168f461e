-- What the backends of a store owe to a call.
use Rattle.std.specs.Prelude.{ℕ, ◌<◌}
use Rattle.wf_core.specs.Limits.{group_count}
use Rattle.name_store.specs.declared.operation.Node.{Node}
use Rattle.name_store.specs.declared.operation.Node.TheVariants.{Mount}
use Rattle.name_store.specs.declared.operation.NameAnswer.{NameAnswer}
use Rattle.name_store.specs.declared.operation.NameAnswer.TheVariants.{Found, Taken}
use Rattle.name_store.specs.Forms.{IsForm}
use Rattle.file_store.specs.FileForms.{IsForm as IsFileForm}
use Rattle.file_store.specs.declared.descriptor_operation.FdOp.{FdOp}
use Rattle.file_store.specs.declared.descriptor_operation.FdOp.TheVariants as fd
use Rattle.file_store.specs.declared.descriptor_operation.FdAnswer.{FdAnswer}
use Rattle.file_store.specs.declared.descriptor_operation.FdAnswer.TheVariants as fd_answer
use Rattle.file_store.specs.DescriptorMap.{IsForm as IsFdForm}
use Rattle.path_walk.specs.declared.step.CellId.{CellId}
use Rattle.path_walk.specs.declared.step.CellId.TheVariants.{Names as NamesCell, Files as FilesCell, Descriptors as DescriptorsCell}
use Rattle.path_walk.specs.declared.step.StoreOp.{StoreOp}
use Rattle.path_walk.specs.declared.step.StoreOp.TheVariants.{Names as NamesOp, Files as FilesOp, Descriptors as DescriptorsOp}
use Rattle.path_walk.specs.declared.step.StoreAnswer.TheVariants.{Names as NamesAnswer, Files as FilesAnswer, Descriptors as DescriptorsAnswer}
use Rattle.path_walk.specs.declared.step.StepAnswer.{StepAnswer}
use Rattle.path_walk.specs.declared.step.StepAnswer.TheVariants.{Answered, Cancelled, Closed}

-- the descriptors are to name something of one of so many backends, or the current directory is to be of one
abbrev pub IsFdOpAmong : ℕ → FdOp → Type 0
IsFdOpAmong backends (fd.FillFile number backend description) = backend < backends
IsFdOpAmong backends (fd.FillDir number backend directory) = backend < backends
IsFdOpAmong backends (fd.Setcwd backend directory) = backend < backends
IsFdOpAmong backends op = Unit {0}

-- the operation is one of the cell, and the cell's backend is one of so many
abbrev pub IsCellOf : ℕ → CellId → StoreOp → Type 0
IsCellOf backends (NamesCell backend) (NamesOp op) = backend < backends
IsCellOf backends (FilesCell backend group) (FilesOp op) = (backend < backends) × (group < group_count)
IsCellOf backends DescriptorsCell (DescriptorsOp op) = IsFdOpAmong backends op
IsCellOf backends cell op = ⊥

-- a mount is of one of so many backends
abbrev pub IsNodeAmong : ℕ → Node → Type 0
IsNodeAmong backends (Mount backend) = backend < backends
IsNodeAmong backends node = Unit {0}

abbrev pub NamesAmong : ℕ → NameAnswer → Type 0
NamesAmong backends (Found node) = IsNodeAmong backends node
NamesAmong backends (Taken node) = IsNodeAmong backends node
NamesAmong backends answer = Unit {0}

-- what a descriptor names, or named last, and the current directory are of one of so many backends
abbrev pub DescriptorsAmong : ℕ → FdAnswer → Type 0
DescriptorsAmong backends (fd_answer.File backend description) = backend < backends
DescriptorsAmong backends (fd_answer.Dir backend directory) = backend < backends
DescriptorsAmong backends (fd_answer.Last backend description) = backend < backends
DescriptorsAmong backends (fd_answer.FdLast number backend description) = backend < backends
DescriptorsAmong backends answer = Unit {0}

-- the answer has a form that the operation has, and names no other than so many backends
abbrev pub IsAnswerOf : ℕ → StoreOp → StepAnswer → Type 0
IsAnswerOf backends (NamesOp op) (Answered (NamesAnswer answer)) = IsForm op answer × NamesAmong backends answer
IsAnswerOf backends (FilesOp op) (Answered (FilesAnswer answer)) = IsFileForm op answer
IsAnswerOf backends (DescriptorsOp op) (Answered (DescriptorsAnswer answer)) = IsFdForm op answer × DescriptorsAmong backends answer
IsAnswerOf backends op Cancelled = Unit {0}
IsAnswerOf backends op Closed = Unit {0}
IsAnswerOf backends op answer = ⊥
