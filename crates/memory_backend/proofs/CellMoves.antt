-- A step on a cell names no other backends than those of its store, neither in what it leaves nor in what it answers.
use Rattle.std.proofs.Common.{◌≡◌, ℕ, Result, Ok, Err, IfOk, OnErr, OnOk, sym, ap, subst, ◌∙◌}
use Rattle.std.specs.declared.alloc.AllocError.{AllocError}
use Rattle.turn_cell.specs.declared.cell_state.Pair.{Pair}
use Rattle.name_store.specs.Forms.{IsForm}
use Rattle.name_store.proofs.Soundness.{step_sound}
use Rattle.path_walk.specs.declared.step.CellId.{CellId}
use Rattle.path_walk.specs.declared.step.CellId.TheVariants as cell
use Rattle.path_walk.specs.declared.step.StoreOp.{StoreOp}
use Rattle.path_walk.specs.declared.step.StoreOp.TheVariants.{Names as NamesOp, Files as FilesOp, Descriptors as DescriptorsOp}
use Rattle.path_walk.specs.declared.step.StoreAnswer.{StoreAnswer}
use Rattle.path_walk.specs.Backing.{IsCellOf}
use Rattle.memory_backend.specs.declared.cell.CellContents.{CellContents}
use Rattle.memory_backend.specs.declared.cell.CellContents.TheVariants.{Descriptors, Names, Files}
use Rattle.memory_backend.specs.declared.cell.CellOp.{CellOp}
use Rattle.memory_backend.specs.Cells.{Cell, HasForm, IsOpOf, IsWithin, KindAllows, KindTakes, cell_kind, cell_reply, contents_after, contents_reply, part_of}
use Rattle.memory_backend.proofs.MountedNames.{mounts_after_step}
use Rattle.memory_backend.proofs.NodesAmong.{answer_among}
use Rattle.memory_backend.proofs.MapAmong.{step_keeps}

pub within_after : (backends : ℕ) (contents : CellContents) (id : CellId) (op : StoreOp) → IsWithin backends contents → IsCellOf backends id op → IsWithin backends (contents_after contents op)
within_after backends (Descriptors map) cell.Descriptors (DescriptorsOp op) within fits = (step_keeps backends map within op fits).map
within_after backends (Descriptors map) (cell.Names backend) (DescriptorsOp op) within fits = absurd fits
within_after backends (Descriptors map) (cell.Files backend group) (DescriptorsOp op) within fits = absurd fits
within_after backends (Descriptors map) id (NamesOp op) within fits = within
within_after backends (Descriptors map) id (FilesOp op) within fits = within
within_after backends (Names tree) id (NamesOp op) within fits = (step_sound tree op within.0, mounts_after_step backends tree op within.0 within.1)
within_after backends (Names tree) id (DescriptorsOp op) within fits = within
within_after backends (Names tree) id (FilesOp op) within fits = within
within_after backends (Files group) id (FilesOp op) within fits = tt
within_after backends (Files group) id (NamesOp op) within fits = within
within_after backends (Files group) id (DescriptorsOp op) within fits = within

pub allowed : (old : Cell) (op : CellOp) → IsWithin old.backends old.contents → KindTakes (cell_kind old) op → HasForm op.op (contents_reply old.contents op.op) → KindAllows (cell_kind old) op (cell_reply old op)
allowed old op within takes form = allowed_by old.backends old.contents op.cell op.op within takes.0 takes.1 form where
  allowed_by : (backends : ℕ) (contents : CellContents) (id : CellId) (op : StoreOp) → IsWithin backends contents → IsOpOf (part_of contents) op → IsCellOf backends id op → HasForm op (contents_reply contents op) → KindAllows (record { backends = backends; part = part_of contents }) (record { cell = id; op = op }) (contents_reply contents op)
  allowed_by backends (Descriptors map) cell.Descriptors (DescriptorsOp op) within is fits form = (form, (step_keeps backends map within op fits).answer)
  allowed_by backends (Descriptors map) (cell.Names backend) (DescriptorsOp op) within is fits form = absurd fits
  allowed_by backends (Descriptors map) (cell.Files backend group) (DescriptorsOp op) within is fits form = absurd fits
  allowed_by backends (Descriptors map) id (NamesOp op) within is fits form = absurd is
  allowed_by backends (Descriptors map) id (FilesOp op) within is fits form = absurd is
  allowed_by backends (Names tree) id (NamesOp op) within is fits form = (form, answer_among backends tree within.1 op form)
  allowed_by backends (Names tree) id (DescriptorsOp op) within is fits form = absurd is
  allowed_by backends (Names tree) id (FilesOp op) within is fits form = absurd is
  allowed_by backends (Files group) id (FilesOp op) within is fits form = form
  allowed_by backends (Files group) id (NamesOp op) within is fits form = absurd is
  allowed_by backends (Files group) id (DescriptorsOp op) within is fits form = absurd is

-- the same of a step in code, which may have found no memory. The cell is as its fields show it
pub stays_within : (inside old : Cell) (op : CellOp) (new : CellContents) (result : Result (Pair StoreAnswer) AllocError) → inside ≡ old → IsWithin inside.backends inside.contents → KindTakes (cell_kind old) op
    → OnOk result (new ≡ contents_after inside.contents op.op) → OnErr result (new ≡ inside.contents) → IsWithin inside.backends new
stays_within inside old op new (Ok pair) is within takes ok err =
    subst (IsWithin inside.backends) (sym ok) (within_after inside.backends inside.contents op.cell op.op within (subst (λ (c : Cell). KindTakes (cell_kind c) op) (sym is) takes).1)
stays_within inside old op new (Err error) is within takes ok err = subst (IsWithin inside.backends) (sym err) within

pub told_allowed : (inside old : Cell) (op : CellOp) (result : Result (Pair StoreAnswer) AllocError) → inside ≡ old → IsWithin inside.backends inside.contents → KindTakes (cell_kind old) op
    → IfOk result (λ pair. pair.given ≡ contents_reply inside.contents op.op) → IfOk result (λ pair. HasForm op.op pair.given) → IfOk result (λ pair. KindAllows (cell_kind old) op pair.given)
told_allowed inside old op (Ok pair) is within takes given form =
    subst (λ (c : Cell). KindAllows (cell_kind c) op pair.given) is
    (subst (KindAllows (cell_kind inside) op) (sym given)
    (allowed inside op within (subst (λ (c : Cell). KindTakes (cell_kind c) op) (sym is) takes) (subst (HasForm op.op) given form)))
told_allowed inside old op (Err error) is within takes given form = tt
