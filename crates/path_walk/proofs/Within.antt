-- How many steps a call may take.
use Rattle.std.proofs.Common.{◌≡◌, refl, ℕ, ◌+◌, ◌≤◌, ◌==◌, zero, suc, Bool, true, false, if◌then◌else◌, List, [], ◌∷◌, Option, None, Some, Result, Ok, Err, arith}
use Rattle.wf_core.specs.Limits.{path_names_max, symloop_max, call_steps_max}
use Rattle.wf_core.specs.declared.errno.Errno.{Errno}
use Rattle.wf_core.specs.declared.errno.Errno.TheVariants.{Enametoolong}
use Rattle.name_store.specs.declared.operation.Node.{Node}
use Rattle.name_store.specs.declared.operation.Node.TheVariants.{Dir, Link, File as FileNode, Mount}
use Rattle.file_store.specs.declared.descriptor_operation.FdOp.TheVariants as fd
use Rattle.path_walk.specs.declared.part.Part.{Part}
use Rattle.path_walk.specs.declared.part.Part.TheVariants.{Here, Up, Down, TooLong}
use Rattle.path_walk.specs.declared.route.Manner.{Manner}
use Rattle.path_walk.specs.declared.route.Manner.TheVariants.{OnWay, Follows, Stays}
use Rattle.path_walk.specs.declared.route.End.TheVariants.{Directory}
use Rattle.path_walk.specs.declared.route.Spot.{Spot}
use Rattle.path_walk.specs.declared.route.End.{End}
use Rattle.path_walk.specs.declared.step.CellId.{CellId}
use Rattle.path_walk.specs.declared.step.StoreOp.{StoreOp}
use Rattle.path_walk.specs.declared.step.StepAnswer.{StepAnswer}
use Rattle.path_walk.specs.declared.call.Call.{Call}
use Rattle.path_walk.specs.PathMeaning.{Way, Course, ends, goes, station, root_of, course_through, course_at_file, course_at_link, is_followed}
use Rattle.path_walk.specs.Programs.{Program, finished, asks, IsWithin}
use Rattle.path_walk.specs.Walk.{program_on, walk, course_on, node_in}
use Rattle.path_walk.specs.Plans.{Plan, replies, steps, cell_of_id, program_of, reply_to}
use Rattle.path_walk.specs.Calls.{plan_after, unlinked_by, last_step}
use Rattle.path_walk.specs.DescriptorCalls.{changes_numbers, data_plan, enters, enters_number}
use Rattle.path_walk.specs.OpenPlan.{opens}
use Rattle.path_walk.specs.Posix.{program}
use Rattle.file_store.specs.declared.file_operation.FileOp.TheVariants.{Sizeof}
use Rattle.path_walk.specs.declared.step.StoreOp.TheVariants.{Files as FilesOp}
use Rattle.path_walk.proofs.Plans.{Holds, any_end, each_call}
use Rattle.path_walk.proofs.Grows.{NodeIs, FoundIs, Grows, names_left, uses_so, changes_so, walks_so, sets_so, enters_number_so, opens_so}

within_more : (p : Program) (few most : ℕ) → few ≤ most → IsWithin few p → IsWithin most p
within_more (finished given) few most le h = tt
within_more (asks cell op next) zero most le h = absurd h
within_more (asks cell op next) (suc few) zero le h = absurd (omega (arith, le))
within_more (asks cell op next) (suc few) (suc most) le h = λ answer. within_more (next answer) few most (omega (arith, le)) (h answer)

-- a course ends at no directory
abbrev CourseLeft : Course → Type 0
CourseLeft (ends end) = names_left end ≡ 0
CourseLeft (goes w) = Unit {0}

through_left : (links : ℕ) (text : List ℕ) (rest : List Part) (slash : Bool) (here : Spot) → CourseLeft (course_through links text rest slash here)
through_left zero text rest slash here = refl
through_left (suc links) text rest slash here = tt

file_left : (manner : Manner) (slash : Bool) (here : Spot) (file : ℕ) → CourseLeft (course_at_file manner slash here file)
file_left OnWay slash here file = refl
file_left Follows true here file = refl
file_left Follows false here file = refl
file_left Stays true here file = refl
file_left Stays false here file = refl

link_left : (follow : Bool) (text : List ℕ) (slash : Bool) (links : ℕ) (here : Spot) → CourseLeft (course_at_link follow text slash links here)
link_left true text slash links here = through_left links text [] slash here
link_left false text slash links here = refl

course_left : (manner : Manner) (found : Result (Option Node) Errno) (rest : List Part) (slash : Bool) (links : ℕ) (here : Spot) → CourseLeft (course_on manner found rest slash links here)
course_left manner (Err error) rest slash links here = refl
course_left manner (Ok None) rest slash links here = refl
course_left manner (Ok (Some (Dir id))) rest slash links here = tt
course_left manner (Ok (Some (Mount backend))) rest slash links here = tt
course_left manner (Ok (Some (FileNode file))) [] slash links here = file_left manner slash here file
course_left manner (Ok (Some (FileNode file))) (part ∷ rest) slash links here = refl
course_left manner (Ok (Some (Link id text))) [] slash links here = link_left (is_followed manner slash) text slash links here
course_left manner (Ok (Some (Link id text))) (part ∷ rest) slash links here = through_left links text (part ∷ rest) slash here

course_within : (few most : ℕ) (c : Course) (next : Way → Program) (over : Result End Errno → Program) → few ≤ most → CourseLeft c → ((w : Way) → IsWithin most (next w)) → ((end : Result End Errno) → IsWithin (names_left end + few) (over end)) → IsWithin most (program_on c next over)
course_within few most (ends end) next over le left on stop = within_more _ (names_left end + few) most (omega (arith, le, left)) (stop end)
course_within few most (goes w) next over le left on stop = on w

-- `..` takes no step in the root
up_within : (most : ℕ) (is_root : Bool) (rooted : Program) (cell : CellId) (op : StoreOp) (next : StepAnswer → Program) → IsWithin (suc most) rooted → ((answer : StepAnswer) → IsWithin most (next answer)) → IsWithin (suc most) (if is_root then rooted else asks cell op next)
up_within most true rooted cell op next h k = h
up_within most false rooted cell op next h k = k

walk_within : (names : ℕ) (parts : List Part) (manner : Manner) (slash : Bool) (links : ℕ) (here : Spot) (over : Result End Errno → Program) (few most : ℕ) → names + few ≤ most → ((end : Result End Errno) → IsWithin (names_left end + few) (over end)) → IsWithin most (walk names parts manner slash links here over)
walk_within names [] manner slash links here over few most le h = within_more _ (names + few) most le (h (Ok (Directory (station names links here))))
walk_within names (Here ∷ rest) manner slash links here over few most le h = walk_within names rest manner slash links here over few most le h
walk_within names (TooLong ∷ rest) manner slash links here over few most le h = within_more _ (0 + few) most (omega (arith, le)) (h (Err Enametoolong))
walk_within zero (Up ∷ rest) manner slash links here over few most le h = within_more _ (0 + few) most (omega (arith, le)) (h (Err Enametoolong))
walk_within zero (Down name ∷ rest) manner slash links here over few most le h = within_more _ (0 + few) most (omega (arith, le)) (h (Err Enametoolong))
walk_within (suc names) (Up ∷ rest) manner slash links here over few zero le h = absurd (omega (arith, le))
walk_within (suc names) (Up ∷ rest) manner slash links here over few (suc most) le h =
    up_within most (here.directory == 0) _ _ _ _ (walk_within names rest manner slash links (root_of 0) over few (suc most) (omega (arith, le)) h)
    (λ answer. course_within few most (course_on manner (node_in answer) rest slash links here) _ over (omega (arith, le)) (course_left manner (node_in answer) rest slash links here) (λ w. walk_within names w.rest manner w.slash w.links w.spot over few most (omega (arith, le)) h) h)
walk_within (suc names) (Down name ∷ rest) manner slash links here over few zero le h = absurd (omega (arith, le))
walk_within (suc names) (Down name ∷ rest) manner slash links here over few (suc most) le h =
    λ answer. course_within few most (course_on manner (node_in answer) rest slash links here) _ over (omega (arith, le)) (course_left manner (node_in answer) rest slash links here) (λ w. walk_within names w.rest manner w.slash w.links w.spot over few most (omega (arith, le)) h) h

after_within : (backend : ℕ) (given : StepAnswer) (file : Option ℕ) → IsWithin 1 (program_of (plan_after backend given file))
after_within backend given None = tt
after_within backend given (Some file) = λ answer. tt

-- how many steps a plan with so many walks may take
abbrev steps_of : ℕ → ℕ
steps_of zero = 2
steps_of (suc count) = suc (path_names_max + steps_of count)

at_least : (count : ℕ) → 2 ≤ steps_of count
at_least zero = omega arith
at_least (suc count) = let h = at_least count in omega (arith, h)

-- the same of calls on files, whatever the answers
abbrev Within : ℕ → Plan → Type 0
Within most p = IsWithin most (program_of p)

abbrev Anywhere : ℕ → Type 0
Anywhere backend = Unit {0}

abbrev Anything : StoreOp → StepAnswer → Type 0
Anything op given = Unit {0}

any_found : (found : Result (Option Node) Errno) → FoundIs Anywhere found
any_found (Err error) = tt
any_found (Ok None) = tt
any_found (Ok (Some (Dir id))) = tt
any_found (Ok (Some (Mount backend))) = tt
any_found (Ok (Some (FileNode file))) = tt
any_found (Ok (Some (Link id text))) = tt

any_node : (node : Node) → NodeIs Anywhere node
any_node (Dir id) = tt
any_node (Mount backend) = tt
any_node (FileNode file) = tt
any_node (Link id text) = tt

within_grows : Grows Within Anywhere Anything
within_grows = record {
  over = λ most given. tt;
  more = λ few most p le h. within_more (program_of p) few most le h;
  on_names = λ few backend op next there each given. each given tt;
  on_files = λ few backend id op next there each given. each given tt;
  on_numbers = λ few op next fill each given. each given tt;
  along = λ few from route next there each. walk_within from.names route.parts route.manner route.slash from.links from.spot (λ end. program_of (next end)) few (from.names + few) (omega arith) (λ end. each end (any_end end));
  root = tt;
  found = λ op given told. any_found (node_in given);
  taken = λ op node told. any_node node;
  named = λ op backend description told. tt;
  named_dir = λ op backend directory told. tt;
  last = λ op backend description told. tt;
  fd_last = λ op number backend description told. tt;
}

within_holds : Holds (λ count p. IsWithin (steps_of count) (program_of p)) (λ backend. Unit {0})
within_holds = record {
  over = λ count given. tt;
  size = λ count backend file there. within_more (program_of (steps (cell_of_id backend file) (FilesOp (Sizeof file)) (λ given. replies (reply_to given)))) 1 (steps_of count) (let h = at_least count in omega (arith, h)) (λ answer. tt);
  last = λ count backend op there. within_more (program_of (last_step backend op)) 2 (steps_of count) (at_least count) (λ given. after_within backend given (unlinked_by given));
  along = λ count base route next each. walks_so Within Anywhere Anything within_grows (steps_of count) base route next (λ end there. within_more (program_of (next end)) (steps_of count) (names_left end + steps_of count) (omega arith) (each end there));
  sets = λ count there so. within_more (program_of (enters (Ok there))) 1 (steps_of count) (let h = at_least count in omega (arith, h)) (sets_so Within Anywhere Anything within_grows there so);
  enters_numbers = λ number. within_more (program_of (enters_number number)) 2 (steps_of 2) (omega arith) (enters_number_so Within Anywhere Anything within_grows number);
  uses_files = λ number purpose. within_more (program_of (data_plan number purpose)) 2 (steps_of 2) (omega arith) (uses_so Within Anywhere Anything within_grows number purpose);
  takes_numbers = λ number. within_more (program_of (changes_numbers (fd.Take number))) 2 (steps_of 2) (omega arith) (changes_so Within Anywhere Anything within_grows (fd.Take number) tt);
  copies_numbers = λ number. within_more (program_of (changes_numbers (fd.Copy number))) 2 (steps_of 2) (omega arith) (changes_so Within Anywhere Anything within_grows (fd.Copy number) tt);
  copies_onto = λ number target. within_more (program_of (changes_numbers (fd.Copyto number target))) 2 (steps_of 2) (omega arith) (changes_so Within Anywhere Anything within_grows (fd.Copyto number target) tt);
  opens_paths = λ at flags. within_more (program_of (opens at flags)) 425 (steps_of 2) (omega arith) (opens_so Within Anywhere Anything within_grows at flags);
}

pub calls_end : (version : ℕ) (c : Call) → IsWithin call_steps_max (program version c)
calls_end version c = within_more (program version c) (steps_of 2) call_steps_max (omega arith) (each_call (λ count p. IsWithin (steps_of count) (program_of p)) (λ backend. Unit {0}) within_holds version c)
