-- A cell of a store: the names of a backend, one group of its files, or the descriptors. What a step makes of it.
use Rattle.std.specs.Prelude.{ℕ}
use Rattle.name_store.specs.declared.operation.NameAnswer.TheVariants.{Gone}
use Rattle.name_store.specs.Forms.{IsForm}
use Rattle.name_store.specs.NameTrees.{nstep}
use Rattle.name_store.specs.Sound.{IsSound}
use Rattle.file_store.specs.FileForms.{IsForm as IsFileForm}
use Rattle.file_store.specs.FileGroups.{fstep}
use Rattle.file_store.specs.DescriptorMap.{IsForm as IsFdForm, dstep}
use Rattle.path_walk.specs.declared.step.StoreOp.{StoreOp}
use Rattle.path_walk.specs.declared.step.StoreOp.TheVariants.{Names as NamesOp, Files as FilesOp, Descriptors as DescriptorsOp}
use Rattle.path_walk.specs.declared.step.StoreAnswer.{StoreAnswer}
use Rattle.path_walk.specs.declared.step.StoreAnswer.TheVariants.{Names as NamesAnswer, Files as FilesAnswer, Descriptors as DescriptorsAnswer}
use Rattle.path_walk.specs.declared.step.StepAnswer.TheVariants.{Answered}
use Rattle.path_walk.specs.Backing.{IsAnswerOf, IsCellOf}
use Rattle.memory_backend.specs.declared.cell.CellContents.{CellContents}
use Rattle.memory_backend.specs.declared.cell.CellContents.TheVariants.{Descriptors, Names, Files}
use Rattle.memory_backend.specs.declared.cell.CellKind.{CellKind}
use Rattle.memory_backend.specs.declared.cell.CellOp.{CellOp}
use Rattle.memory_backend.specs.declared.cell.CellPart.{CellPart}
use Rattle.memory_backend.specs.declared.cell.CellPart.TheVariants.{OfDescriptors, OfNames, OfFiles}
use Rattle.memory_backend.specs.Among.{MountsAmong, IsMapAmong}

-- a cell, seen as what it holds and how many backends its store has, the root's among them
pub record Cell : Type 0 where
  pub backends : ℕ
  pub contents : CellContents

-- the contents that an operation leaves. An operation of another part changes nothing
abbrev pub contents_after : CellContents → StoreOp → CellContents
contents_after (Descriptors map) (DescriptorsOp op) = Descriptors (dstep map op).map
contents_after (Names tree) (NamesOp op) = Names (nstep tree op).tree
contents_after (Files group) (FilesOp op) = Files (fstep group op).group
contents_after contents op = contents

-- what the operation answers. An operation of another part finds nothing
abbrev pub contents_reply : CellContents → StoreOp → StoreAnswer
contents_reply (Descriptors map) (DescriptorsOp op) = DescriptorsAnswer (dstep map op).answer
contents_reply (Names tree) (NamesOp op) = NamesAnswer (nstep tree op).answer
contents_reply (Files group) (FilesOp op) = FilesAnswer (fstep group op).answer
contents_reply contents op = NamesAnswer Gone

abbrev pub cell_after : Cell → CellOp → Cell
cell_after cell op = record cell { contents = contents_after cell.contents op.op }

abbrev pub cell_reply : Cell → CellOp → StoreAnswer
cell_reply cell op = contents_reply cell.contents op.op

abbrev pub part_of : CellContents → CellPart
part_of (Descriptors map) = OfDescriptors
part_of (Names tree) = OfNames
part_of (Files group) = OfFiles

abbrev pub cell_kind : Cell → CellKind
cell_kind cell = record { backends = cell.backends; part = part_of cell.contents }

-- the operation is one of that part
abbrev pub IsOpOf : CellPart → StoreOp → Type 0
IsOpOf OfDescriptors (DescriptorsOp op) = Unit {0}
IsOpOf OfNames (NamesOp op) = Unit {0}
IsOpOf OfFiles (FilesOp op) = Unit {0}
IsOpOf part op = ⊥

-- the answer has a form that the operation has
abbrev pub HasForm : StoreOp → StoreAnswer → Type 0
HasForm (DescriptorsOp op) (DescriptorsAnswer answer) = IsFdForm op answer
HasForm (NamesOp op) (NamesAnswer answer) = IsForm op answer
HasForm (FilesOp op) (FilesAnswer answer) = IsFileForm op answer
HasForm op answer = ⊥

-- a cell of this kind takes the operations of its part that name one of its backends
abbrev pub KindTakes : CellKind → CellOp → Type 0
KindTakes kind op = IsOpOf kind.part op.op × IsCellOf kind.backends op.cell op.op

-- the answer has a form that the operation has, and names one of the backends
abbrev pub KindAllows : CellKind → CellOp → StoreAnswer → Type 0
KindAllows kind op answer = IsAnswerOf kind.backends op.op (Answered answer)

-- what the contents name is of one of so many backends
abbrev pub IsWithin : ℕ → CellContents → Type 0
IsWithin backends (Descriptors map) = IsMapAmong backends map
IsWithin backends (Names tree) = IsSound tree × MountsAmong backends tree
IsWithin backends (Files group) = Unit {0}
