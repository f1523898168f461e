-- A walk over a store that stands still ends where the path leads, and a call's steps are the call at once.
use Rattle.std.proofs.Common.{◌≡◌, ℕ, ◌==◌, zero, suc, Bool, true, false, if◌then◌else◌, List, [], ◌∷◌, Option, None, Some, Result, Ok, slice_set, slice_get, unwrap_or, refl, ap, ◌∙◌}
use Rattle.wf_core.specs.declared.errno.Errno.{Errno}
use Rattle.name_store.specs.declared.operation.Node.{Node}
use Rattle.name_store.specs.declared.operation.NameOp.{NameOp}
use Rattle.name_store.specs.declared.operation.NameOp.TheVariants.{Look, Parent}
use Rattle.name_store.specs.declared.operation.NameAnswer.{NameAnswer}
use Rattle.name_store.specs.NameTrees.{Tree, Listing, dir_at, entry_at, nstep, look_answer, look_answer_at, parent_answer, unless_gone, outcome_of}
use Rattle.path_walk.specs.declared.part.Part.{Part}
use Rattle.path_walk.specs.declared.part.Part.TheVariants.{Here, Up, Down, TooLong}
use Rattle.path_walk.specs.declared.route.Manner.{Manner}
use Rattle.path_walk.specs.declared.route.Spot.{Spot}
use Rattle.path_walk.specs.declared.route.End.{End}
use Rattle.path_walk.specs.declared.step.CellId.TheVariants.{Names as NamesCell}
use Rattle.path_walk.specs.declared.step.StoreOp.TheVariants.{Names as NamesOp}
use Rattle.path_walk.specs.declared.step.StoreAnswer.TheVariants.{Names as NamesAnswer}
use Rattle.path_walk.specs.declared.step.StepAnswer.{StepAnswer}
use Rattle.path_walk.specs.declared.step.StepAnswer.TheVariants.{Answered}
use Rattle.path_walk.specs.declared.call.Call.{Call}
use Rattle.path_walk.specs.Store.{Store, Backend, names_at, with_names, cstep}
use Rattle.path_walk.specs.PathMeaning.{Way, way, Course, ends, goes, course, end_of_course, on_found, entry_in, parent_in, root_of, spot_beside, resolve}
use Rattle.path_walk.specs.Programs.{Program, asks, run}
use Rattle.path_walk.specs.Walk.{node_in, course_on, program_on, walk}
use Rattle.path_walk.specs.Plans.{Plan, replies, steps, walks, program_of, at_once}
use Rattle.path_walk.specs.Calls.{plan}
use Rattle.path_walk.specs.Posix.{posix, program}

-- putting back what is there changes nothing
pub put_back : {X : Type 0} (xs : List X) (n : ℕ) (d : X) → slice_set xs n (unwrap_or (slice_get xs n) d) ≡ xs
put_back [] zero d = refl
put_back [] (suc n) d = refl
put_back (x ∷ xs) zero d = refl
put_back (x ∷ xs) (suc n) d = ap (λ (rest : List _). x ∷ rest) (put_back xs n d)

pub same_names : (store : Store) (backend : ℕ) → with_names store backend (names_at store backend) ≡ store
same_names store backend = ap (λ (backends : List Backend). let s : Store = record store { backends = backends } in s) (put_back store.backends backend _)

-- what only asks leaves the names as they were, also where the directory is gone
gone_or_same : (tree : Tree) (directory : Option Listing) (answer_of : Listing → NameAnswer) → (unless_gone tree directory (λ d. outcome_of tree (answer_of d))).tree ≡ tree
gone_or_same tree None answer_of = refl
gone_or_same tree (Some directory) answer_of = refl

-- a step that leaves the names as they were
names_asked : (store : Store) (backend : ℕ) (op : NameOp) (next : StepAnswer → Program) → (nstep (names_at store backend) op).tree ≡ names_at store backend → run (asks (NamesCell backend) (NamesOp op) next) store ≡ run (next (Answered (NamesAnswer (nstep (names_at store backend) op).answer))) store
names_asked store backend op next h =
    ap (λ (s : Store). run (next (Answered (NamesAnswer (nstep (names_at store backend) op).answer))) s) (ap (with_names store backend) h ∙ same_names store backend)

-- from any way on, a walk leads where the way leads
abbrev Leads : Store → (Way → Result End Errno) → (Way → Program) → (Result End Errno → Program) → Type 0
Leads store resolves programs over = (w : Way) → run (programs w) store ≡ run (over (resolves w)) store

course_leads : (store : Store) (c : Course) (resolves : Way → Result End Errno) (programs : Way → Program) (over : Result End Errno → Program) → Leads store resolves programs over → run (program_on c programs over) store ≡ run (over (end_of_course c resolves)) store
course_leads store (ends end) resolves programs over on = refl
course_leads store (goes w) resolves programs over on = on w

module _ (store : Store) (manner : Manner) (rest : List Part) (slash : Bool) (links : ℕ) (here : Spot) (resolves : Way → Result End Errno) (programs : Way → Program) (over : Result End Errno → Program) (on : Leads store resolves programs over) where
  abbrev goes_on : Result (Option Node) Errno → Program
  goes_on found = program_on (course_on manner found rest slash links here) programs over

  node_leads : (node : Option Node) → run (goes_on (node_in (Answered (NamesAnswer (look_answer_at node))))) store ≡ run (over (end_of_course (course manner node rest slash links here) resolves)) store
  node_leads None = course_leads store (course manner None rest slash links here) resolves programs over on
  node_leads (Some node) = course_leads store (course manner (Some node) rest slash links here) resolves programs over on

  look_leads : (tree : Tree) (directory : Option Listing) (name : List ℕ) → run (goes_on (node_in (Answered (NamesAnswer (unless_gone tree directory (λ d. outcome_of tree (look_answer d name))).answer)))) store ≡ run (over (on_found (entry_in directory name) (λ node. end_of_course (course manner node rest slash links here) resolves))) store
  look_leads tree None name = refl
  look_leads tree (Some directory) name = node_leads (entry_at directory name)

  parent_leads : (tree : Tree) (directory : Option Listing) → run (goes_on (node_in (Answered (NamesAnswer (unless_gone tree directory (λ d. outcome_of tree (parent_answer d))).answer)))) store ≡ run (over (on_found (parent_in directory here) (λ there. resolves (way rest slash links there)))) store
  parent_leads tree None = refl
  parent_leads tree (Some directory) = on (way rest slash links (spot_beside here directory.parent))

  up_leads : (is_root : Bool) → run (if is_root then programs (way rest slash links (root_of 0)) else asks (NamesCell here.backend) (NamesOp (Parent here.directory)) (λ answer. goes_on (node_in answer))) store ≡ run (over (on_found (if is_root then Ok (root_of 0) else parent_in (dir_at (names_at store here.backend) here.directory) here) (λ there. resolves (way rest slash links there)))) store
  up_leads true = on (way rest slash links (root_of 0))
  up_leads false =
      names_asked store here.backend (Parent here.directory) (λ answer. goes_on (node_in answer)) (gone_or_same _ _ _)
      ∙ parent_leads (names_at store here.backend) (dir_at (names_at store here.backend) here.directory)

pub walks_lead : (store : Store) (names : ℕ) (parts : List Part) (manner : Manner) (slash : Bool) (links : ℕ) (here : Spot) (over : Result End Errno → Program) → run (walk names parts manner slash links here over) store ≡ run (over (resolve store names parts manner slash links here)) store
walks_lead store names [] manner slash links here over = refl
walks_lead store names (Here ∷ rest) manner slash links here over = walks_lead store names rest manner slash links here over
walks_lead store names (TooLong ∷ rest) manner slash links here over = refl
walks_lead store zero (Up ∷ rest) manner slash links here over = refl
walks_lead store (suc names) (Up ∷ rest) manner slash links here over =
    up_leads store manner rest slash links here (λ w. resolve store names w.rest manner w.slash w.links w.spot) (λ w. walk names w.rest manner w.slash w.links w.spot over) over (λ w. walks_lead store names w.rest manner w.slash w.links w.spot over) (here.directory == 0)
walks_lead store zero (Down name ∷ rest) manner slash links here over = refl
walks_lead store (suc names) (Down name ∷ rest) manner slash links here over =
    names_asked store here.backend (Look here.directory name) (λ answer. program_on (course_on manner (node_in answer) rest slash links here) (λ w. walk names w.rest manner w.slash w.links w.spot over) over) (gone_or_same _ _ _)
    ∙ look_leads store manner rest slash links here (λ w. resolve store names w.rest manner w.slash w.links w.spot) (λ w. walk names w.rest manner w.slash w.links w.spot over) over (λ w. walks_lead store names w.rest manner w.slash w.links w.spot over) (names_at store here.backend) (dir_at (names_at store here.backend) here.directory) name

-- whatever the plan
plans_run : (p : Plan) (store : Store) → run (program_of p) store ≡ at_once store p
plans_run (replies given) store = refl
plans_run (steps cell op next) store = plans_run (next (Answered (cstep store cell op).answer)) (cstep store cell op).store
plans_run (walks from route next) store =
    walks_lead store from.names route.parts route.manner route.slash from.links from.spot (λ end. program_of (next end))
    ∙ plans_run (next (resolve store from.names route.parts route.manner route.slash from.links from.spot)) store

pub steps_are_the_call : (version : ℕ) (store : Store) (call : Call) → run (program version call) store ≡ posix version store call
steps_are_the_call version store call = plans_run (plan version call) store
