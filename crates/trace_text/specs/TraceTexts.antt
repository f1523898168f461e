-- How a trace is printed.
use Rattle.std.specs.Prelude.{ℕ, if◌then◌else◌, Bool, List, [], ◌∷◌, ◌++◌, codes}
use Rattle.std.specs.List.{flat_map, join_with_byte}
use Rattle.std.specs.Fmt.{decimal, signed_decimal}
use Rattle.file_store.specs.declared.file_operation.Access.{Access}
use Rattle.file_store.specs.declared.file_operation.Access.TheVariants as access
use Rattle.file_store.specs.declared.file_operation.Whence.{Whence}
use Rattle.file_store.specs.declared.file_operation.Whence.TheVariants as whence
use Rattle.path_walk.specs.declared.open_request.OpenFlags.{OpenFlags}
use Rattle.trace_text.specs.declared.trace.BackendLine.{BackendLine}
use Rattle.trace_text.specs.declared.trace.CallLine.{CallLine}
use Rattle.trace_text.specs.declared.trace_call.Descriptor.{Descriptor}
use Rattle.trace_text.specs.declared.trace_call.Descriptor.TheVariants.{Number, ReplyOf}
use Rattle.path_walk.specs.declared.descriptor_call.DataCall.{DataCall}
use Rattle.path_walk.specs.declared.descriptor_call.DataCall.TheVariants.{Read, Pread, Write, Pwrite, Seek, Ftruncate, Fstat}
use Rattle.trace_text.specs.declared.trace_call.TraceBase.{TraceBase}
use Rattle.trace_text.specs.declared.trace_call.TraceBase.TheVariants.{Cwd, Fd}
use Rattle.trace_text.specs.declared.trace_call.AtCall.{AtCall}
use Rattle.trace_text.specs.declared.trace_call.AtCall.TheVariants.{Openat, Mkdirat, Rmdirat, Unlinkat, Fstatat, Renameat}
use Rattle.trace_text.specs.declared.trace_call.TraceCall.{TraceCall}
use Rattle.trace_text.specs.declared.trace_call.TraceCall.TheVariants.{Mkdir, Rmdir, Unlink, Symlink, Rename, Readlink, Stat, Lstat, List as ListCall, Open, Close, Dup, Dup2, Data, Chdir, Fchdir, At}
use Rattle.trace_text.specs.Fields.{text_field}
use Rattle.trace_text.specs.Grammar.{kind_word}
use Rattle.trace_text.specs.Traces.{Traced, thread_name}
use Rattle.trace_text.specs.Versions.{header}

abbrev pub descriptor_field : Descriptor → List ℕ
descriptor_field (Number number) = decimal number
descriptor_field (ReplyOf call) = 64 ∷ decimal call

abbrev pub base_field : TraceBase → List ℕ
base_field Cwd = codes "cwd"
base_field (Fd descriptor) = descriptor_field descriptor

abbrev pub whence_field : Whence → List ℕ
whence_field whence.Set = codes "set"
whence_field whence.Cur = codes "cur"
whence_field whence.End = codes "end"

abbrev pub access_field : Access → List ℕ
access_field access.Read = codes "r"
access_field access.Write = codes "w"
access_field access.ReadWrite = codes "rw"

abbrev pub flag_text : Bool → List ℕ → List ℕ
flag_text there text = if there then text else []

-- an access, and the flags in the order of the format
abbrev pub flags_field : OpenFlags → List ℕ
flags_field flags =
    access_field flags.access ++ flag_text flags.creat (codes ",creat") ++ flag_text flags.excl (codes ",excl") ++ flag_text flags.trunc (codes ",trunc")
    ++ flag_text flags.append (codes ",append") ++ flag_text flags.directory (codes ",directory") ++ flag_text flags.nofollow (codes ",nofollow")

-- a call's word and its fields

abbrev pub data_fields : List ℕ → DataCall → List (List ℕ)
data_fields descriptor (Read count) = codes "read" ∷ descriptor ∷ decimal count ∷ []
data_fields descriptor (Pread count offset) = codes "pread" ∷ descriptor ∷ decimal count ∷ signed_decimal offset ∷ []
data_fields descriptor (Write bytes) = codes "write" ∷ descriptor ∷ text_field bytes ∷ []
data_fields descriptor (Pwrite bytes offset) = codes "pwrite" ∷ descriptor ∷ text_field bytes ∷ signed_decimal offset ∷ []
data_fields descriptor (Seek offset whence) = codes "seek" ∷ descriptor ∷ signed_decimal offset ∷ whence_field whence ∷ []
data_fields descriptor (Ftruncate size) = codes "ftruncate" ∷ descriptor ∷ signed_decimal size ∷ []
data_fields descriptor Fstat = codes "fstat" ∷ descriptor ∷ []

abbrev pub at_fields : AtCall → List (List ℕ)
at_fields (Openat base path flags) = codes "openat" ∷ base_field base ∷ text_field path ∷ flags_field flags ∷ []
at_fields (Mkdirat base path) = codes "mkdirat" ∷ base_field base ∷ text_field path ∷ []
at_fields (Rmdirat base path) = codes "rmdirat" ∷ base_field base ∷ text_field path ∷ []
at_fields (Unlinkat base path) = codes "unlinkat" ∷ base_field base ∷ text_field path ∷ []
at_fields (Fstatat base path) = codes "fstatat" ∷ base_field base ∷ text_field path ∷ []
at_fields (Renameat base path new_base new) = codes "renameat" ∷ base_field base ∷ text_field path ∷ base_field new_base ∷ text_field new ∷ []

abbrev pub call_fields : TraceCall → List (List ℕ)
call_fields (Mkdir path) = codes "mkdir" ∷ text_field path ∷ []
call_fields (Rmdir path) = codes "rmdir" ∷ text_field path ∷ []
call_fields (Unlink path) = codes "unlink" ∷ text_field path ∷ []
call_fields (Symlink text path) = codes "symlink" ∷ text_field text ∷ text_field path ∷ []
call_fields (Rename from to) = codes "rename" ∷ text_field from ∷ text_field to ∷ []
call_fields (Readlink path) = codes "readlink" ∷ text_field path ∷ []
call_fields (Stat path) = codes "stat" ∷ text_field path ∷ []
call_fields (Lstat path) = codes "lstat" ∷ text_field path ∷ []
call_fields (ListCall path start) = codes "list" ∷ text_field path ∷ decimal start ∷ []
call_fields (Open path flags) = codes "open" ∷ text_field path ∷ flags_field flags ∷ []
call_fields (Close descriptor) = codes "close" ∷ descriptor_field descriptor ∷ []
call_fields (Dup descriptor) = codes "dup" ∷ descriptor_field descriptor ∷ []
call_fields (Dup2 descriptor target) = codes "dup2" ∷ descriptor_field descriptor ∷ descriptor_field target ∷ []
call_fields (Data descriptor call) = data_fields (descriptor_field descriptor) call
call_fields (Chdir path) = codes "chdir" ∷ text_field path ∷ []
call_fields (Fchdir descriptor) = codes "fchdir" ∷ descriptor_field descriptor ∷ []
call_fields (At call) = at_fields call

abbrev pub call_text : TraceCall → List ℕ
call_text call = join_with_byte 32 (call_fields call)

-- The lines, each without its byte 10.

abbrev pub thread_line : List ℕ → List ℕ
thread_line name = codes "thread " ++ name

abbrev pub backend_text : BackendLine → List ℕ
backend_text backend = codes "backend " ++ backend.name ++ codes " " ++ kind_word backend.proxied

abbrev pub call_line : List (List ℕ) → CallLine → List ℕ
call_line threads line = thread_name threads line.thread ++ codes ": " ++ call_text line.call

abbrev pub ended : List ℕ → List ℕ
ended line = line ++ 10 ∷ []

-- line 1, the threads, the backends, and the calls in their order
abbrev pub text_of_trace : Traced → List ℕ
text_of_trace trace =
    ended (header trace.version)
    ++ flat_map (λ name. ended (thread_line name)) trace.threads
    ++ flat_map (λ backend. ended (backend_text backend)) trace.backends
    ++ flat_map (λ line. ended (call_line trace.threads line)) trace.calls
