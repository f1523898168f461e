-- What each operation may answer, and which take no memory.
use Rattle.std.specs.Prelude.{◌≡◌, ◌⊎◌, ℕ, ◌≤◌, min, List, [], length}
use Rattle.wf_core.specs.Limits.{file_max, offset_max, read_max}
use Rattle.wf_core.specs.declared.errno.Errno.TheVariants.{Ebadf, Einval, Efbig, Enospc, Eoverflow}
use Rattle.file_store.specs.declared.file_operation.FileOp.{FileOp}
use Rattle.file_store.specs.declared.file_operation.FileOp.TheVariants as op
use Rattle.file_store.specs.declared.file_operation.FileAnswer.{FileAnswer}
use Rattle.file_store.specs.declared.file_operation.FileAnswer.TheVariants as answer

-- bytes that were read are as many as were asked for at most, and `read_max` at most
abbrev pub AreOfRead : ℕ → List ℕ → Type 0
AreOfRead count bytes = (length bytes ≤ count) × (length bytes ≤ read_max)

-- the forms of answer that each operation has
abbrev pub IsForm : FileOp → FileAnswer → Type 0
IsForm (op.Make mode) (answer.File file id) = Unit {0}
IsForm (op.Make mode) _ = ⊥
IsForm (op.Attach file mode truncate) answer.Gone = Unit {0}
IsForm (op.Attach file mode truncate) (answer.Desc id) = Unit {0}
IsForm (op.Attach file mode truncate) _ = ⊥
IsForm (op.Sizeof file) answer.Gone = Unit {0}
IsForm (op.Sizeof file) (answer.Size size) = size ≤ file_max
IsForm (op.Sizeof file) _ = ⊥
IsForm (op.Unlinked file) answer.Done = Unit {0}
IsForm (op.Unlinked file) _ = ⊥
IsForm (op.Release id) answer.Done = Unit {0}
IsForm (op.Release id) (answer.Fault error) = error ≡ Ebadf
IsForm (op.Release id) _ = ⊥
IsForm (op.Read id count) (answer.Bytes bytes) = AreOfRead count bytes
IsForm (op.Read id count) (answer.Fault error) = error ≡ Ebadf
IsForm (op.Read id count) _ = ⊥
IsForm (op.Readat id count offset) (answer.Bytes bytes) = AreOfRead count bytes
IsForm (op.Readat id count offset) (answer.Fault error) = (error ≡ Ebadf) ⊎ (error ≡ Einval)
IsForm (op.Readat id count offset) _ = ⊥
IsForm (op.Write id bytes) (answer.Count count) = count ≡ length bytes
IsForm (op.Write id bytes) (answer.Fault error) = (error ≡ Ebadf) ⊎ ((error ≡ Efbig) ⊎ (error ≡ Enospc))
IsForm (op.Write id bytes) _ = ⊥
IsForm (op.Writeat id bytes offset) (answer.Count count) = count ≡ length bytes
IsForm (op.Writeat id bytes offset) (answer.Fault error) = (error ≡ Ebadf) ⊎ ((error ≡ Einval) ⊎ ((error ≡ Efbig) ⊎ (error ≡ Enospc)))
IsForm (op.Writeat id bytes offset) _ = ⊥
IsForm (op.Seek id offset whence) (answer.At at) = at ≤ offset_max
IsForm (op.Seek id offset whence) (answer.Fault error) = (error ≡ Ebadf) ⊎ ((error ≡ Einval) ⊎ (error ≡ Eoverflow))
IsForm (op.Seek id offset whence) _ = ⊥
IsForm (op.Cut id size) answer.Done = Unit {0}
IsForm (op.Cut id size) (answer.Fault error) = (error ≡ Ebadf) ⊎ ((error ≡ Einval) ⊎ ((error ≡ Efbig) ⊎ (error ≡ Enospc)))
IsForm (op.Cut id size) _ = ⊥
IsForm (op.Size id) (answer.Size size) = size ≤ file_max
IsForm (op.Size id) (answer.Fault error) = error ≡ Ebadf
IsForm (op.Size id) _ = ⊥

-- it takes no memory
abbrev pub IsSpare : FileOp → Type 0
IsSpare (op.Sizeof file) = Unit {0}
IsSpare (op.Unlinked file) = Unit {0}
IsSpare (op.Release id) = Unit {0}
IsSpare (op.Seek id offset whence) = Unit {0}
IsSpare (op.Cut id size) = Unit {0}
IsSpare (op.Size id) = Unit {0}
IsSpare _ = ⊥

-- the bytes that an answer has
abbrev pub bytes_in : FileAnswer → List ℕ
bytes_in (answer.Bytes bytes) = bytes
bytes_in _ = []

-- how many those are at most
abbrev pub answer_bytes_max : FileOp → ℕ
answer_bytes_max (op.Read id count) = min count read_max
answer_bytes_max (op.Readat id count offset) = min count read_max
answer_bytes_max _ = 0
