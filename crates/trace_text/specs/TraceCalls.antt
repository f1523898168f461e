-- The file call that a call of a trace is, once the replies to the calls before it are known.
use Rattle.std.specs.Prelude.{ℕ, zero, suc, List, slice_get, unwrap_or}
use Rattle.path_walk.specs.declared.call.Base.{Base}
use Rattle.path_walk.specs.declared.call.Base.TheVariants as base
use Rattle.path_walk.specs.declared.call.Call.{Call}
use Rattle.path_walk.specs.declared.call.Call.TheVariants as call
use Rattle.path_walk.specs.declared.call.Reply.{Reply}
use Rattle.path_walk.specs.declared.call.Reply.TheVariants.{Fd}
use Rattle.trace_text.specs.declared.trace_call.Descriptor.{Descriptor}
use Rattle.trace_text.specs.declared.trace_call.Descriptor.TheVariants.{Number, ReplyOf}
use Rattle.path_walk.specs.declared.descriptor_call.DataCall.{DataCall}
use Rattle.path_walk.specs.declared.descriptor_call.DataCall.TheVariants.{Read, Pread, Write, Pwrite, Seek, Ftruncate, Fstat}
use Rattle.trace_text.specs.declared.trace_call.TraceBase.{TraceBase}
use Rattle.trace_text.specs.declared.trace_call.TraceBase.TheVariants.{Cwd, Fd as FdBase}
use Rattle.trace_text.specs.declared.trace_call.AtCall.{AtCall}
use Rattle.trace_text.specs.declared.trace_call.AtCall.TheVariants.{Openat, Mkdirat, Rmdirat, Unlinkat, Fstatat, Renameat}
use Rattle.trace_text.specs.declared.trace_call.TraceCall.{TraceCall}
use Rattle.trace_text.specs.declared.trace_call.TraceCall.TheVariants.{Mkdir, Rmdir, Unlink, Symlink, Rename, Readlink, Stat, Lstat, List as ListCall, Open, Close, Dup, Dup2, Data, Chdir, Fchdir, At}

-- the number for a reply that has none: a call that failed. No descriptor has it
abbrev pub no_number : ℕ
no_number = 4294967295

-- the descriptor's number in a reply
abbrev pub number_in_reply : Reply → ℕ
number_in_reply (Fd number) = number
number_in_reply reply = no_number

-- the number in the reply to call `call` of a thread, counted from 1, where these are those of its calls so far
abbrev pub number_of_call : List ℕ → ℕ → ℕ
number_of_call numbers zero = no_number
number_of_call numbers (suc before) = unwrap_or (slice_get numbers before) no_number

abbrev pub number_of : List ℕ → Descriptor → ℕ
number_of numbers (Number number) = number
number_of numbers (ReplyOf call) = number_of_call numbers call

abbrev pub base_of : List ℕ → TraceBase → Base
base_of numbers Cwd = base.Cwd
base_of numbers (FdBase descriptor) = base.Fd (number_of numbers descriptor)

-- the call on the descriptor of that number
abbrev pub data_call_on : ℕ → DataCall → Call
data_call_on number (Read count) = call.Read number count
data_call_on number (Pread count offset) = call.Pread number count offset
data_call_on number (Write bytes) = call.Write number bytes
data_call_on number (Pwrite bytes offset) = call.Pwrite number bytes offset
data_call_on number (Seek offset whence) = call.Seek number offset whence
data_call_on number (Ftruncate size) = call.Ftruncate number size
data_call_on number Fstat = call.Fstat number

abbrev pub call_at : List ℕ → AtCall → Call
call_at numbers (Openat base path flags) = call.Openat (base_of numbers base) path flags
call_at numbers (Mkdirat base path) = call.Mkdirat (base_of numbers base) path
call_at numbers (Rmdirat base path) = call.Rmdirat (base_of numbers base) path
call_at numbers (Unlinkat base path) = call.Unlinkat (base_of numbers base) path
call_at numbers (Fstatat base path) = call.Fstatat (base_of numbers base) path
call_at numbers (Renameat base path new_base new) = call.Renameat (base_of numbers base) path (base_of numbers new_base) new

-- the file call, by the numbers in the replies to the thread's calls so far
abbrev pub file_call : List ℕ → TraceCall → Call
file_call numbers (Mkdir path) = call.Mkdir path
file_call numbers (Rmdir path) = call.Rmdir path
file_call numbers (Unlink path) = call.Unlink path
file_call numbers (Symlink text path) = call.Symlink text path
file_call numbers (Rename from to) = call.Rename from to
file_call numbers (Readlink path) = call.Readlink path
file_call numbers (Stat path) = call.Stat path
file_call numbers (Lstat path) = call.Lstat path
file_call numbers (ListCall path start) = call.List path start
file_call numbers (Open path flags) = call.Open path flags
file_call numbers (Close descriptor) = call.Close (number_of numbers descriptor)
file_call numbers (Dup descriptor) = call.Dup (number_of numbers descriptor)
file_call numbers (Dup2 descriptor target) = call.Dup2 (number_of numbers descriptor) (number_of numbers target)
file_call numbers (Data descriptor data_call) = data_call_on (number_of numbers descriptor) data_call
file_call numbers (Chdir path) = call.Chdir path
file_call numbers (Fchdir descriptor) = call.Fchdir (number_of numbers descriptor)
file_call numbers (At call) = call_at numbers call
