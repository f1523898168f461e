-- How many bytes an answer has.
use Rattle.std.proofs.Common.{ℕ, ◌≤◌, List, length, arith}
use Rattle.file_store.specs.declared.file_operation.FileOp.{FileOp}
use Rattle.file_store.specs.declared.file_operation.FileOp.TheVariants as op
use Rattle.file_store.specs.declared.file_operation.FileAnswer.{FileAnswer}
use Rattle.file_store.specs.declared.file_operation.FileAnswer.TheVariants as answer
use Rattle.file_store.specs.FileForms.{IsForm, answer_bytes_max, bytes_in}

none_fit : (most : ℕ) → 0 ≤ most
none_fit most = omega arith

of_read : (operation : FileOp) (bytes : List ℕ) → IsForm operation (answer.Bytes bytes) → length bytes ≤ answer_bytes_max operation
of_read (op.Read id count) bytes form = let (few, small) = form in omega (arith, few, small)
of_read (op.Readat id count offset) bytes form = let (few, small) = form in omega (arith, few, small)
of_read (op.Make mode) bytes form = absurd form
of_read (op.Attach file mode truncate) bytes form = absurd form
of_read (op.Sizeof file) bytes form = absurd form
of_read (op.Unlinked file) bytes form = absurd form
of_read (op.Release id) bytes form = absurd form
of_read (op.Write id written) bytes form = absurd form
of_read (op.Writeat id written offset) bytes form = absurd form
of_read (op.Seek id offset whence) bytes form = absurd form
of_read (op.Cut id size) bytes form = absurd form
of_read (op.Size id) bytes form = absurd form

pub bytes_fit : (operation : FileOp) (given : FileAnswer) → IsForm operation given → length (bytes_in given) ≤ answer_bytes_max operation
bytes_fit operation (answer.Bytes bytes) form = of_read operation bytes form
bytes_fit operation (answer.File file id) form = none_fit (answer_bytes_max operation)
bytes_fit operation answer.Gone form = none_fit (answer_bytes_max operation)
bytes_fit operation (answer.Desc id) form = none_fit (answer_bytes_max operation)
bytes_fit operation (answer.Size size) form = none_fit (answer_bytes_max operation)
bytes_fit operation answer.Done form = none_fit (answer_bytes_max operation)
bytes_fit operation (answer.Count count) form = none_fit (answer_bytes_max operation)
bytes_fit operation (answer.At offset) form = none_fit (answer_bytes_max operation)
bytes_fit operation (answer.Fault error) form = none_fit (answer_bytes_max operation)
