-- What a call does, as a plan: which paths it walks, what it asks for, and what it replies.
use Rattle.std.specs.Prelude.{ℕ, ◌%◌, List, Option, None, Some, Result, Ok, Err, unwrap_or}
use Rattle.wf_core.specs.Limits.{group_count}
use Rattle.wf_core.specs.declared.errno.Errno.{Errno}
use Rattle.wf_core.specs.declared.errno.Errno.TheVariants.{Enoent, Enotdir, Ecanceled, Enxio}
use Rattle.name_store.specs.declared.operation.NameAnswer.{NameAnswer}
use Rattle.name_store.specs.declared.operation.NameAnswer.TheVariants as answer
use Rattle.file_store.specs.declared.file_operation.FileAnswer.{FileAnswer}
use Rattle.file_store.specs.declared.file_operation.FileAnswer.TheVariants as file_answer
use Rattle.file_store.specs.declared.descriptor_operation.FdOp.{FdOp}
use Rattle.file_store.specs.declared.descriptor_operation.FdOp.TheVariants as fd
use Rattle.file_store.specs.declared.descriptor_operation.FdAnswer.{FdAnswer}
use Rattle.file_store.specs.declared.descriptor_operation.FdAnswer.TheVariants as fd_answer
use Rattle.path_walk.specs.declared.route.Manner.{Manner}
use Rattle.path_walk.specs.declared.route.Manner.TheVariants.{OnWay}
use Rattle.path_walk.specs.declared.route.Spot.{Spot}
use Rattle.path_walk.specs.declared.route.Station.{Station}
use Rattle.path_walk.specs.declared.route.End.{End}
use Rattle.path_walk.specs.declared.route.Route.{Route}
use Rattle.path_walk.specs.declared.step.CellId.{CellId}
use Rattle.path_walk.specs.declared.step.CellId.TheVariants.{Files as FilesCell, Descriptors as DescriptorsCell}
use Rattle.path_walk.specs.declared.step.StoreOp.{StoreOp}
use Rattle.path_walk.specs.declared.step.StoreOp.TheVariants.{Descriptors as DescriptorsOp}
use Rattle.path_walk.specs.declared.step.StoreAnswer.TheVariants.{Names as NamesAnswer, Files as FilesAnswer, Descriptors as DescriptorsAnswer}
use Rattle.path_walk.specs.declared.step.StepAnswer.{StepAnswer}
use Rattle.path_walk.specs.declared.step.StepAnswer.TheVariants.{Answered, Cancelled, Closed}
use Rattle.path_walk.specs.declared.call.Base.{Base}
use Rattle.path_walk.specs.declared.call.Base.TheVariants.{Cwd, Fd}
use Rattle.path_walk.specs.declared.call.Reply.{Reply}
use Rattle.path_walk.specs.declared.call.Reply.TheVariants as reply
use Rattle.path_walk.specs.Paths.{parts_of, last_of, front_of, slash_of, path_fault}
use Rattle.path_walk.specs.PathMeaning.{resolve, root_of, start_in}
use Rattle.path_walk.specs.Store.{Store, cstep}
use Rattle.path_walk.specs.Programs.{Program, finished, asks, CallOutcome, replied}
use Rattle.path_walk.specs.Walk.{walk}

-- a plan replies, asks for a step, or walks along a route from where it stands and goes on from its end
pub data Plan : Type 0 where
  replies : Reply → Plan
  steps : CellId → StoreOp → (StepAnswer → Plan) → Plan
  walks : Station → Route → (Result End Errno → Plan) → Plan

-- the steps of a plan
abbrev pub program_of : Plan → Program
program_of (replies given) = finished given
program_of (steps cell op next) = asks cell op (λ answer. program_of (next answer))
program_of (walks from route next) = walk from.names route.parts route.manner route.slash from.links from.spot (λ end. program_of (next end))

-- a plan at once, over a store that nobody else changes
abbrev pub at_once : Store → Plan → CallOutcome
at_once store (replies given) = replied store given
at_once store (steps cell op next) = let stepped = cstep store cell op in at_once stepped.store (next (Answered stepped.answer))
at_once store (walks from route next) = at_once store (next (resolve store from.names route.parts route.manner route.slash from.links from.spot))

abbrev pub fails : Errno → Plan
fails error = replies (reply.Fault error)

-- the first refusal, or else the plan
abbrev pub unless_fault : Option Errno → Plan → Plan
unless_fault (Some error) plan = fails error
unless_fault None plan = plan

abbrev pub on_ok : {A : Type 0} → Result A Errno → (A → Plan) → Plan
on_ok (Ok x) next = next x
on_ok (Err error) next = fails error

abbrev pub ok_unless : {A : Type 0} → Option Errno → A → Result A Errno
ok_unless (Some error) x = Err error
ok_unless None x = Ok x

-- Routes.

-- along the whole path
abbrev pub whole_route : Manner → List ℕ → Result Route Errno
whole_route manner path = ok_unless (path_fault path) (record { parts = parts_of path; last = None; manner = manner; slash = slash_of path })

-- along the path before its last component
abbrev pub parent_route : List ℕ → Result Route Errno
parent_route path = ok_unless (path_fault path) (record { parts = front_of (parts_of path); last = last_of (parts_of path); manner = OnWay; slash = slash_of path })

-- Last steps.

-- the cell of a file or a description
abbrev pub cell_of_id : ℕ → ℕ → CellId
cell_of_id backend id = FilesCell backend (id % group_count)

-- what a call replies to the answer to its last step
abbrev pub reply_to_names : NameAnswer → Reply
reply_to_names (answer.Names names) = reply.Names names
reply_to_names (answer.Fault error) = reply.Fault error
reply_to_names answer.Gone = reply.Fault Enoent
reply_to_names given = reply.Done

abbrev pub reply_to_files : FileAnswer → Reply
reply_to_files (file_answer.Size size) = reply.File size
reply_to_files (file_answer.Bytes bytes) = reply.Bytes bytes
reply_to_files (file_answer.Count count) = reply.Count count
reply_to_files (file_answer.At offset) = reply.At offset
reply_to_files (file_answer.Fault error) = reply.Fault error
reply_to_files file_answer.Gone = reply.Fault Enoent
reply_to_files given = reply.Done

abbrev pub reply_to_descriptors : FdAnswer → Reply
reply_to_descriptors (fd_answer.Fd number) = reply.Fd number
reply_to_descriptors (fd_answer.Fault error) = reply.Fault error
reply_to_descriptors given = reply.Done

abbrev pub reply_to : StepAnswer → Reply
reply_to (Answered (NamesAnswer given)) = reply_to_names given
reply_to (Answered (FilesAnswer given)) = reply_to_files given
reply_to (Answered (DescriptorsAnswer given)) = reply_to_descriptors given
reply_to Cancelled = reply.Fault Ecanceled
reply_to Closed = reply.Fault Enxio

-- the error that an answer tells, where it tells one
abbrev pub fault_in : StepAnswer → Option Errno
fault_in (Answered (NamesAnswer (answer.Fault error))) = Some error
fault_in (Answered (NamesAnswer answer.Gone)) = Some Enoent
fault_in (Answered (FilesAnswer (file_answer.Fault error))) = Some error
fault_in (Answered (FilesAnswer file_answer.Gone)) = Some Enoent
fault_in (Answered (DescriptorsAnswer (fd_answer.Fault error))) = Some error
fault_in (Answered given) = None
fault_in Cancelled = Some Ecanceled
fault_in Closed = Some Enxio

-- that reply, unless the answer tells an error
abbrev pub unless_told : Option Errno → Reply → Reply
unless_told (Some error) given = reply.Fault error
unless_told None given = given

-- Starts.

-- the step that tells which directory is the base
abbrev pub op_of_base : Base → FdOp
op_of_base Cwd = fd.Cwd
op_of_base (Fd number) = fd.Look number

-- the directory that its answer names; what else a number names is none
abbrev pub spot_in : StepAnswer → Result Spot Errno
spot_in (Answered (DescriptorsAnswer (fd_answer.Dir backend directory))) = Ok (record { backend = backend; directory = directory })
spot_in given = Err (unwrap_or (fault_in given) Enotdir)

-- from the directory that is the base, after the step that tells it, or from the root, without one
abbrev pub from_base : Option Base → (Result Spot Errno → Plan) → Plan
from_base None next = next (Ok (root_of 0))
from_base (Some base) next = steps DescriptorsCell (DescriptorsOp (op_of_base base)) (λ given. next (spot_in given))

abbrev pub walks_in : Route → (Result End Errno → Plan) → Result Spot Errno → Plan
walks_in route next (Ok spot) = walks (start_in spot) route next
walks_in route next (Err error) = next (Err error)

-- along a route from there. A start that is not there ends the walk
abbrev pub walks_from : Option Base → Route → (Result End Errno → Plan) → Plan
walks_from base route next = from_base base (walks_in route next)
