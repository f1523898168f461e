-- The calls that name what they are on by a descriptor, as plans: POSIX.1-2017, XSH close(), dup(), dup2(), read(),
-- pread(), write(), pwrite(), lseek(), ftruncate(), fstat() and fchdir(). A row marked (own) is this project's own.
use Rattle.std.specs.Prelude.{ℕ, Some, Result, Ok, Err}
use Rattle.wf_core.specs.declared.errno.Errno.{Errno}
use Rattle.wf_core.specs.declared.errno.Errno.TheVariants.{Ebadf, Einval, Eisdir}
use Rattle.file_store.specs.declared.descriptor_operation.FdOp.{FdOp}
use Rattle.file_store.specs.declared.descriptor_operation.FdOp.TheVariants.{Look, Setcwd}
use Rattle.file_store.specs.declared.descriptor_operation.FdAnswer.TheVariants as fd_answer
use Rattle.file_store.specs.declared.file_operation.FileOp.{FileOp}
use Rattle.file_store.specs.declared.file_operation.FileOp.TheVariants as file_op
use Rattle.path_walk.specs.declared.descriptor_call.DataCall.{DataCall}
use Rattle.path_walk.specs.declared.descriptor_call.DataCall.TheVariants as on_file
use Rattle.path_walk.specs.declared.step.CellId.TheVariants.{Descriptors as DescriptorsCell}
use Rattle.path_walk.specs.declared.step.StoreOp.TheVariants.{Files as FilesOp, Descriptors as DescriptorsOp}
use Rattle.path_walk.specs.declared.step.StoreAnswer.TheVariants.{Descriptors as DescriptorsAnswer}
use Rattle.path_walk.specs.declared.step.StepAnswer.{StepAnswer}
use Rattle.path_walk.specs.declared.step.StepAnswer.TheVariants.{Answered}
use Rattle.path_walk.specs.declared.route.Spot.{Spot}
use Rattle.path_walk.specs.declared.call.Base.TheVariants.{Fd}
use Rattle.path_walk.specs.declared.call.Reply.{Reply}
use Rattle.path_walk.specs.declared.call.Reply.TheVariants as reply
use Rattle.path_walk.specs.Plans.{Plan, replies, steps, fails, cell_of_id, reply_to, fault_in, from_base, unless_told}

-- A call on the file of a descriptor.

-- its step on the file group
abbrev pub op_of_data : DataCall → ℕ → FileOp
op_of_data (on_file.Read count) description = file_op.Read description count
op_of_data (on_file.Pread count offset) description = file_op.Readat description count offset
op_of_data (on_file.Write bytes) description = file_op.Write description bytes
op_of_data (on_file.Pwrite bytes offset) description = file_op.Writeat description bytes offset
op_of_data (on_file.Seek offset whence) description = file_op.Seek description offset whence
op_of_data (on_file.Ftruncate size) description = file_op.Cut description size
op_of_data on_file.Fstat description = file_op.Size description

-- what it replies of a directory's descriptor, which is open to read: `seek` and `ftruncate` are (own)
abbrev pub reply_of_directory : DataCall → Reply
reply_of_directory (on_file.Read count) = reply.Fault Eisdir
reply_of_directory (on_file.Pread count offset) = reply.Fault Eisdir
reply_of_directory (on_file.Write bytes) = reply.Fault Ebadf
reply_of_directory (on_file.Pwrite bytes offset) = reply.Fault Ebadf
reply_of_directory (on_file.Seek offset whence) = reply.Fault Einval
reply_of_directory (on_file.Ftruncate size) = reply.Fault Einval
reply_of_directory on_file.Fstat = reply.Dir

-- by what the number names
abbrev pub data_step_plan : DataCall → StepAnswer → Plan
data_step_plan call (Answered (DescriptorsAnswer (fd_answer.File backend description))) = steps (cell_of_id backend description) (FilesOp (op_of_data call description)) (λ given. replies (reply_to given))
data_step_plan call (Answered (DescriptorsAnswer (fd_answer.Dir backend directory))) = replies (reply_of_directory call)
data_step_plan call given = replies (reply_to given)

abbrev pub data_plan : ℕ → DataCall → Plan
data_plan number call = steps DescriptorsCell (DescriptorsOp (Look number)) (data_step_plan call)

-- `close`, `dup` and `dup2`.

-- a description that has lost its last number is released
abbrev pub releases : ℕ → ℕ → Reply → Plan
releases backend description given = steps (cell_of_id backend description) (FilesOp (file_op.Release description)) (λ told. replies (unless_told (fault_in told) given))

abbrev pub number_plan : StepAnswer → Plan
number_plan (Answered (DescriptorsAnswer (fd_answer.Last backend description))) = releases backend description reply.Done
number_plan (Answered (DescriptorsAnswer (fd_answer.FdLast number backend description))) = releases backend description (reply.Fd number)
number_plan given = replies (reply_to given)

abbrev pub changes_numbers : FdOp → Plan
changes_numbers op = steps DescriptorsCell (DescriptorsOp op) number_plan

-- The current directory.

-- that directory becomes the current one
abbrev pub enters : Result Spot Errno → Plan
enters (Ok there) = steps DescriptorsCell (DescriptorsOp (Setcwd there.backend there.directory)) (λ given. replies (reply_to given))
enters (Err error) = fails error

-- `fchdir`
abbrev pub enters_number : ℕ → Plan
enters_number number = from_base (Some (Fd number)) enters
