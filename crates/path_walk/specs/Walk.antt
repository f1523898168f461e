-- A walk along a path as a program: pathname resolution (POSIX.1-2017, XBD 4.13) one step after another, with what
-- each answer says.
use Rattle.std.specs.Prelude.{ℕ, ◌==◌, zero, suc, if◌then◌else◌, Bool, List, [], ◌∷◌, Option, None, Some, Result, Ok, Err}
use Rattle.wf_core.specs.declared.errno.Errno.{Errno}
use Rattle.wf_core.specs.declared.errno.Errno.TheVariants.{Enoent, Enametoolong, Ecanceled, Enxio}
use Rattle.name_store.specs.declared.operation.Node.{Node}
use Rattle.name_store.specs.declared.operation.NameOp.TheVariants.{Look, Parent}
use Rattle.name_store.specs.declared.operation.NameAnswer.TheVariants.{Found, Absent}
use Rattle.path_walk.specs.declared.part.Part.{Part}
use Rattle.path_walk.specs.declared.part.Part.TheVariants.{Here, Up, Down, TooLong}
use Rattle.path_walk.specs.declared.route.Manner.{Manner}
use Rattle.path_walk.specs.declared.route.Spot.{Spot}
use Rattle.path_walk.specs.declared.route.End.{End}
use Rattle.path_walk.specs.declared.route.End.TheVariants.{Directory}
use Rattle.path_walk.specs.declared.step.CellId.TheVariants.{Names as NamesCell}
use Rattle.path_walk.specs.declared.step.StoreOp.TheVariants.{Names as NamesOp}
use Rattle.path_walk.specs.declared.step.StoreAnswer.TheVariants.{Names as NamesAnswer}
use Rattle.path_walk.specs.declared.step.StepAnswer.{StepAnswer}
use Rattle.path_walk.specs.declared.step.StepAnswer.TheVariants.{Answered, Cancelled, Closed}
use Rattle.path_walk.specs.PathMeaning.{Way, Course, ends, goes, course, station, root_of}
use Rattle.path_walk.specs.Programs.{Program, asks}

-- what stands under a name, by the answer; a directory that is gone is ENOENT
abbrev pub node_in : StepAnswer → Result (Option Node) Errno
node_in (Answered (NamesAnswer (Found node))) = Ok (Some node)
node_in (Answered (NamesAnswer Absent)) = Ok None
node_in (Answered answer) = Err Enoent
node_in Cancelled = Err Ecanceled
node_in Closed = Err Enxio

abbrev pub course_on : Manner → Result (Option Node) Errno → List Part → Bool → ℕ → Spot → Course
course_on manner (Ok node) rest slash links here = course manner node rest slash links here
course_on manner (Err error) rest slash links here = ends (Err error)

abbrev pub program_on : Course → (Way → Program) → (Result End Errno → Program) → Program
program_on (ends end) next over = over end
program_on (goes w) next over = next w

-- the walk along the parts from a directory, with so many names that may still be taken and so many links
abbrev pub walk : ℕ → List Part → Manner → Bool → ℕ → Spot → (Result End Errno → Program) → Program
walk names [] manner slash links here over = over (Ok (Directory (station names links here)))
walk names (Here ∷ rest) manner slash links here over = walk names rest manner slash links here over
walk names (TooLong ∷ rest) manner slash links here over = over (Err Enametoolong)
walk zero (Up ∷ rest) manner slash links here over = over (Err Enametoolong)
walk (suc names) (Up ∷ rest) manner slash links here over =
    if here.directory == 0 then walk names rest manner slash links (root_of 0) over
    else asks (NamesCell here.backend) (NamesOp (Parent here.directory)) (λ answer.
    program_on (course_on manner (node_in answer) rest slash links here) (λ w. walk names w.rest manner w.slash w.links w.spot over) over)
walk zero (Down name ∷ rest) manner slash links here over = over (Err Enametoolong)
walk (suc names) (Down name ∷ rest) manner slash links here over =
    asks (NamesCell here.backend) (NamesOp (Look here.directory name)) (λ answer.
    program_on (course_on manner (node_in answer) rest slash links here) (λ w. walk names w.rest manner w.slash w.links w.spot over) over)
