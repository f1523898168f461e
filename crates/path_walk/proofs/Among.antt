-- A call asks only backends that are there.
use Rattle.std.proofs.Common.{ℕ, ◌%◌, ◌<◌, ◌==◌, zero, suc, Bool, true, false, if◌then◌else◌, List, [], ◌∷◌, Option, None, Some, Result, Ok, Err, arith}
use Rattle.wf_core.specs.Limits.{group_count}
use Rattle.path_walk.specs.Paths.{is_absolute}
use Rattle.wf_core.specs.declared.errno.Errno.{Errno}
use Rattle.name_store.specs.declared.operation.Node.{Node}
use Rattle.name_store.specs.declared.operation.Node.TheVariants.{Dir, Link, File as FileNode, Mount}
use Rattle.name_store.specs.declared.operation.NameOp.{NameOp}
use Rattle.name_store.specs.declared.operation.NameOp.TheVariants.{Look, Parent}
use Rattle.name_store.specs.declared.operation.NameAnswer.TheVariants.{Found, Absent}
use Rattle.file_store.specs.declared.descriptor_operation.FdOp.{FdOp}
use Rattle.file_store.specs.declared.descriptor_operation.FdOp.TheVariants as fd
use Rattle.path_walk.specs.declared.part.Part.{Part}
use Rattle.path_walk.specs.declared.part.Part.TheVariants.{Here, Up, Down, TooLong}
use Rattle.path_walk.specs.declared.route.Manner.{Manner}
use Rattle.path_walk.specs.declared.route.Manner.TheVariants.{OnWay, Follows, Stays}
use Rattle.path_walk.specs.declared.route.Spot.{Spot}
use Rattle.path_walk.specs.declared.route.End.{End}
use Rattle.path_walk.specs.declared.step.CellId.{CellId}
use Rattle.path_walk.specs.declared.step.StoreOp.{StoreOp}
use Rattle.path_walk.specs.declared.step.StoreOp.TheVariants.{Names as NamesOp}
use Rattle.path_walk.specs.declared.step.StoreAnswer.TheVariants.{Names as NamesAnswer, Files as FilesAnswer, Descriptors as DescriptorsAnswer}
use Rattle.path_walk.specs.declared.step.StepAnswer.{StepAnswer}
use Rattle.path_walk.specs.declared.step.StepAnswer.TheVariants.{Answered, Cancelled, Closed}
use Rattle.path_walk.specs.declared.call.Call.{Call}
use Rattle.path_walk.specs.Backing.{IsFdOpAmong, IsNodeAmong, IsAnswerOf}
use Rattle.path_walk.specs.PathMeaning.{Way, Course, ends, goes, root_of, start_of, course_through, course_at_file, course_at_link, is_followed}
use Rattle.path_walk.specs.Programs.{Program, asks, StaysAmong}
use Rattle.path_walk.specs.Walk.{program_on, walk, course_on, node_in}
use Rattle.path_walk.specs.Plans.{Plan, program_of}
use Rattle.path_walk.specs.Calls.{plan_after, unlinked_by}
use Rattle.path_walk.specs.Posix.{program}
use Rattle.path_walk.proofs.Plans.{EndIs, Holds, each_call}
use Rattle.path_walk.proofs.Grows.{NodeIs, FoundIs, FillIs, Grows, uses_so, changes_so, walks_so, sets_so, enters_number_so, opens_so}

-- of so many backends, the walk's end, its course, or what was found names only those
abbrev EndAmong : ℕ → Result End Errno → Type 0
EndAmong backends = EndIs (λ backend. backend < backends)

abbrev CourseAmong : ℕ → Course → Type 0
CourseAmong backends (ends end) = EndAmong backends end
CourseAmong backends (goes w) = w.spot.backend < backends

abbrev FoundAmong : ℕ → Result (Option Node) Errno → Type 0
FoundAmong backends = FoundIs (λ backend. backend < backends)

node_among : (backends : ℕ) (node : Node) → IsNodeAmong backends node → NodeIs (λ backend. backend < backends) node
node_among backends (Dir id) h = tt
node_among backends (Mount backend) h = h
node_among backends (FileNode file) h = tt
node_among backends (Link id text) h = tt

root_is_there : (backends backend : ℕ) → backend < backends → 0 < backends
root_is_there backends backend h = omega (arith, h)

start_among : (backends : ℕ) (text : List ℕ) (here : Spot) → here.backend < backends → (start_of text here).backend < backends
start_among backends text here h = by_slash (is_absolute text)
  where
    by_slash : (slash : Bool) → (if slash then root_of 0 else here).backend < backends
    by_slash true = root_is_there backends here.backend h
    by_slash false = h

through_among : (backends links : ℕ) (text : List ℕ) (rest : List Part) (slash : Bool) (here : Spot) → here.backend < backends → CourseAmong backends (course_through links text rest slash here)
through_among backends zero text rest slash here h = tt
through_among backends (suc links) text [] slash here h = start_among backends text here h
through_among backends (suc links) text (part ∷ rest) slash here h = start_among backends text here h

file_among : (backends : ℕ) (manner : Manner) (slash : Bool) (here : Spot) (file : ℕ) → here.backend < backends → CourseAmong backends (course_at_file manner slash here file)
file_among backends OnWay slash here file h = tt
file_among backends Follows true here file h = tt
file_among backends Follows false here file h = h
file_among backends Stays true here file h = tt
file_among backends Stays false here file h = h

link_among : (backends : ℕ) (follow : Bool) (text : List ℕ) (slash : Bool) (links : ℕ) (here : Spot) → here.backend < backends → CourseAmong backends (course_at_link follow text slash links here)
link_among backends true text slash links here h = through_among backends links text [] slash here h
link_among backends false text slash links here h = tt

course_among : (backends : ℕ) (manner : Manner) (found : Result (Option Node) Errno) (rest : List Part) (slash : Bool) (links : ℕ) (here : Spot) → here.backend < backends → FoundAmong backends found → CourseAmong backends (course_on manner found rest slash links here)
course_among backends manner (Err error) rest slash links here h f = tt
course_among backends manner (Ok None) rest slash links here h f = tt
course_among backends manner (Ok (Some (Dir id))) rest slash links here h f = h
course_among backends manner (Ok (Some (Mount backend))) rest slash links here h f = f
course_among backends manner (Ok (Some (FileNode file))) [] slash links here h f = file_among backends manner slash here file h
course_among backends manner (Ok (Some (FileNode file))) (part ∷ rest) slash links here h f = tt
course_among backends manner (Ok (Some (Link id text))) [] slash links here h f = link_among backends (is_followed manner slash) text slash links here h
course_among backends manner (Ok (Some (Link id text))) (part ∷ rest) slash links here h f = through_among backends links text (part ∷ rest) slash here h

found_among : (backends : ℕ) (op : NameOp) (answer : StepAnswer) → IsAnswerOf backends (NamesOp op) answer → FoundAmong backends (node_in answer)
found_among backends op (Answered (NamesAnswer (Found node))) h = node_among backends node h.1
found_among backends op (Answered (NamesAnswer Absent)) h = tt
found_among backends op (Answered (NamesAnswer answer)) h = tt
found_among backends op (Answered (FilesAnswer answer)) h = tt
found_among backends op (Answered (DescriptorsAnswer answer)) h = tt
found_among backends op Cancelled h = tt
found_among backends op Closed h = tt

on_course_among : (backends : ℕ) (c : Course) (next : Way → Program) (over : Result End Errno → Program) → CourseAmong backends c → ((w : Way) → w.spot.backend < backends → StaysAmong backends (next w)) → ((end : Result End Errno) → EndAmong backends end → StaysAmong backends (over end)) → StaysAmong backends (program_on c next over)
on_course_among backends (ends end) next over h on stop = stop end h
on_course_among backends (goes w) next over h on stop = on w h

-- `..` takes no step in the root
up_among : (backends : ℕ) (is_root : Bool) (rooted : Program) (cell : CellId) (op : StoreOp) (next : StepAnswer → Program) → StaysAmong backends rooted → StaysAmong backends (asks cell op next) → StaysAmong backends (if is_root then rooted else asks cell op next)
up_among backends true rooted cell op next h k = h
up_among backends false rooted cell op next h k = k

walk_among : (backends names : ℕ) (parts : List Part) (manner : Manner) (slash : Bool) (links : ℕ) (here : Spot) (over : Result End Errno → Program) → here.backend < backends → ((end : Result End Errno) → EndAmong backends end → StaysAmong backends (over end)) → StaysAmong backends (walk names parts manner slash links here over)
walk_among backends names [] manner slash links here over h stop = stop _ h
walk_among backends names (Here ∷ rest) manner slash links here over h stop = walk_among backends names rest manner slash links here over h stop
walk_among backends names (TooLong ∷ rest) manner slash links here over h stop = stop _ tt
walk_among backends zero (Up ∷ rest) manner slash links here over h stop = stop _ tt
walk_among backends zero (Down name ∷ rest) manner slash links here over h stop = stop _ tt
walk_among backends (suc names) (Up ∷ rest) manner slash links here over h stop =
    up_among backends (here.directory == 0) _ _ _ _ (walk_among backends names rest manner slash links (root_of 0) over (root_is_there backends here.backend h) stop)
    (h, λ answer form. on_course_among backends (course_on manner (node_in answer) rest slash links here) _ over (course_among backends manner (node_in answer) rest slash links here h (found_among backends (Parent here.directory) answer form)) (λ w there. walk_among backends names w.rest manner w.slash w.links w.spot over there stop) stop)
walk_among backends (suc names) (Down name ∷ rest) manner slash links here over h stop =
    (h, λ answer form. on_course_among backends (course_on manner (node_in answer) rest slash links here) _ over (course_among backends manner (node_in answer) rest slash links here h (found_among backends (Look here.directory name) answer form)) (λ w there. walk_among backends names w.rest manner w.slash w.links w.spot over there stop) stop)

rest_is_group : (file : ℕ) → file % group_count < group_count
rest_is_group file = omega arith

after_among : (backends backend : ℕ) (given : StepAnswer) (file : Option ℕ) → backend < backends → StaysAmong backends (program_of (plan_after backend given file))
after_among backends backend given None h = tt
after_among backends backend given (Some file) h = ((h, rest_is_group file), λ answer form. tt)

-- the same of calls on files
abbrev Among : ℕ → ℕ → Plan → Type 0
Among backends most p = StaysAmong backends (program_of p)

fill_among : (backends : ℕ) (op : FdOp) → FillIs (λ backend. backend < backends) op → IsFdOpAmong backends op
fill_among backends fd.Reserve h = tt
fill_among backends (fd.FillFile number backend description) h = h
fill_among backends (fd.FillDir number backend directory) h = h
fill_among backends (fd.Drop number) h = tt
fill_among backends (fd.Look number) h = tt
fill_among backends (fd.Copy number) h = tt
fill_among backends (fd.Copyto number target) h = tt
fill_among backends (fd.Take number) h = tt
fill_among backends fd.Cwd h = tt
fill_among backends (fd.Setcwd backend directory) h = h

among_grows : (backends : ℕ) → 0 < backends → Grows (Among backends) (λ backend. backend < backends) (IsAnswerOf backends)
among_grows backends root = record {
  over = λ most given. tt;
  more = λ few most p le h. h;
  on_names = λ few backend op next there each. (there, each);
  on_files = λ few backend id op next there each. ((there, rest_is_group id), each);
  on_numbers = λ few op next fill each. (fill_among backends op fill, each);
  along = λ few from route next there each. walk_among backends from.names route.parts route.manner route.slash from.links from.spot (λ end. program_of (next end)) there each;
  root = root;
  found = λ op given told. found_among backends op given told;
  taken = λ op node told. node_among backends node told.1;
  named = λ op backend description told. told.1;
  named_dir = λ op backend directory told. told.1;
  last = λ op backend description told. told.1;
  fd_last = λ op number backend description told. told.1;
}

among_holds : (backends : ℕ) → 0 < backends → Holds (λ count p. StaysAmong backends (program_of p)) (λ backend. backend < backends)
among_holds backends root = record {
  over = λ count given. tt;
  size = λ count backend file there. ((there, rest_is_group file), λ answer form. tt);
  last = λ count backend op there. (there, λ given form. after_among backends backend given (unlinked_by given) there);
  along = λ count base route next each. walks_so (Among backends) (λ backend. backend < backends) (IsAnswerOf backends) (among_grows backends root) 0 base route next each;
  sets = λ count there so. sets_so (Among backends) (λ backend. backend < backends) (IsAnswerOf backends) (among_grows backends root) there so;
  enters_numbers = λ number. enters_number_so (Among backends) (λ backend. backend < backends) (IsAnswerOf backends) (among_grows backends root) number;
  uses_files = λ number purpose. uses_so (Among backends) (λ backend. backend < backends) (IsAnswerOf backends) (among_grows backends root) number purpose;
  takes_numbers = λ number. changes_so (Among backends) (λ backend. backend < backends) (IsAnswerOf backends) (among_grows backends root) (fd.Take number) tt;
  copies_numbers = λ number. changes_so (Among backends) (λ backend. backend < backends) (IsAnswerOf backends) (among_grows backends root) (fd.Copy number) tt;
  copies_onto = λ number target. changes_so (Among backends) (λ backend. backend < backends) (IsAnswerOf backends) (among_grows backends root) (fd.Copyto number target) tt;
  opens_paths = λ at flags. opens_so (Among backends) (λ backend. backend < backends) (IsAnswerOf backends) (among_grows backends root) at flags;
}

pub calls_stay_among : (version backends : ℕ) (c : Call) → 0 < backends → StaysAmong backends (program version c)
calls_stay_among version backends c root = each_call (λ count p. StaysAmong backends (program_of p)) (λ backend. backend < backends) (among_holds backends root) version c
