-- A call that is under way.
use Rattle.std.proofs.Common.{◌≡◌, ◌+◌, ◌-◌, ◌≤◌, ◌<◌, ℕ, suc, List, [], ◌∷◌, ◌++◌, length, Option, None, Some, Result, Ok, Err, refl, sym, ap, subst, ◌∙◌, append_assoc, append-nil, length-append, arith, MatchResult, IsErr}
use Rattle.std.specs.declared.alloc.AllocError.{AllocError}
use Rattle.wf_core.specs.Limits.{call_steps_max}
use Rattle.path_walk.specs.declared.step.CellId.{CellId}
use Rattle.path_walk.specs.declared.step.StoreOp.{StoreOp}
use Rattle.path_walk.specs.declared.step.StoreAnswer.{StoreAnswer}
use Rattle.path_walk.specs.declared.step.StepAnswer.{StepAnswer}
use Rattle.path_walk.specs.declared.step.StepAnswer.TheVariants.{Answered, Cancelled, Closed}
use Rattle.path_walk.specs.declared.call.Call.{Call}
use Rattle.path_walk.specs.declared.call.Reply.{Reply}
use Rattle.path_walk.specs.declared.call.Need.{Need}
use Rattle.path_walk.specs.declared.call.Need.TheVariants.{Step as StepNeed, Done as DoneNeed}
use Rattle.path_walk.specs.declared.trail.Stage.{Stage}
use Rattle.path_walk.specs.declared.trail.Stage.TheVariants.{Start}
use Rattle.path_walk.specs.Store.{Store, Stepped, cstep}
use Rattle.path_walk.specs.Backing.{IsCellOf, IsAnswerOf}
use Rattle.path_walk.specs.Programs.{Program, finished, asks, Step, step_of, Takes, Begins, IsWithin, StaysAmong, run, replied}
use Rattle.path_walk.specs.Calls.{act_of}
use Rattle.path_walk.specs.Posix.{Walk, program}
use Rattle.path_walk.specs.Alone.{StepsAlone, CallsAlone}
use Rattle.path_walk.specs.Machine.{Expects, Shows, resumed}
use Rattle.path_walk.proofs.Leads.{steps_are_the_call}
use Rattle.path_walk.proofs.Within.{calls_end}
use Rattle.path_walk.proofs.Among.{calls_stay_among}

-- where the store was told, it is told still, and the two are so related
abbrev pub Tells : Option Store → Option Store → (Store → Store → Type 0) → Type 0
Tells None new P = Unit {0}
Tells (Some old) None P = ⊥
Tells (Some old) (Some new) P = P old new

-- after so many steps the call goes on as the machine does
pub record Along {B : Type 0} (ran : B → List Step → B → Type 0) (told : B → Option Store) (version backends count : ℕ) (call : Call) (first now : B) (stage : Stage) (answer : Option StepAnswer) : Type 0 where
  pub steps : List Step
  pub so_far : ran first steps now
  pub many : length steps ≤ count
  pub within : IsWithin (call_steps_max - count) (resumed stage answer)
  pub among : StaysAmong backends (resumed stage answer)
  pub expects : Expects stage answer
  pub takes : (rest : List Step) (reply : Reply) → Takes (resumed stage answer) rest reply → Takes (program version call) (steps ++ rest) reply
  pub begins : (rest : List Step) → Begins (resumed stage answer) rest → Begins (program version call) (steps ++ rest)
  pub alone : Tells (told first) (told now) (λ s t. run (program version call) s ≡ run (resumed stage answer) t)

same_step : (cell other : CellId) (op asked : StoreOp) (outcome : Result StepAnswer AllocError) → cell ≡ other → op ≡ asked → step_of cell op outcome ≡ step_of other asked outcome
same_step cell other op asked outcome e f = ap (λ c. step_of c op outcome) e ∙ ap (λ o. step_of other o outcome) f

shows_takes : (cell : CellId) (op : StoreOp) (p : Program) (stage : Stage) (answer : StepAnswer) (rest : List Step) (reply : Reply) → Shows (StepNeed cell op) p stage → Takes (resumed stage (Some answer)) rest reply → Takes p (step_of cell op (Ok answer) ∷ rest) reply
shows_takes cell op (finished given) stage answer rest reply h t = absurd h
shows_takes cell op (asks other asked next) stage answer rest reply h t = (answer, same_step cell other op asked (Ok answer) h.0 h.1, subst (λ q. Takes q rest reply) (sym (h.2 answer).0) t)

shows_begins : (cell : CellId) (op : StoreOp) (p : Program) (stage : Stage) (answer : StepAnswer) (rest : List Step) → Shows (StepNeed cell op) p stage → Begins (resumed stage (Some answer)) rest → Begins p (step_of cell op (Ok answer) ∷ rest)
shows_begins cell op (finished given) stage answer rest h t = absurd h
shows_begins cell op (asks other asked next) stage answer [] h t = (Ok answer, same_step cell other op asked (Ok answer) h.0 h.1)
shows_begins cell op (asks other asked next) stage answer (step ∷ rest) h t = (answer, same_step cell other op asked (Ok answer) h.0 h.1, subst (λ q. Begins q (step ∷ rest)) (sym (h.2 answer).0) t)

shows_refused : (cell : CellId) (op : StoreOp) (p : Program) (stage : Stage) (error : AllocError) → Shows (StepNeed cell op) p stage → Begins p (step_of cell op (Err error) ∷ [])
shows_refused cell op (finished given) stage error h = absurd h
shows_refused cell op (asks other asked next) stage error h = (Err error, same_step cell other op asked (Err error) h.0 h.1)

shows_done : (reply : Reply) (p : Program) (stage : Stage) → Shows (DoneNeed reply) p stage → Takes p [] reply
shows_done reply (finished given) stage h = h
shows_done reply (asks cell op next) stage h = absurd h

shows_expects : (cell : CellId) (op : StoreOp) (p : Program) (stage : Stage) (answer : StepAnswer) → Shows (StepNeed cell op) p stage → Expects stage (Some answer)
shows_expects cell op (finished given) stage answer h = absurd h
shows_expects cell op (asks other asked next) stage answer h = (h.2 answer).1

-- one step fewer is left
shows_within : (few most : ℕ) (cell : CellId) (op : StoreOp) (p : Program) (stage : Stage) (answer : StepAnswer) → Shows (StepNeed cell op) p stage → most ≡ suc few → IsWithin most p → IsWithin few (resumed stage (Some answer))
shows_within few most cell op (finished given) stage answer h e w = absurd h
shows_within few most cell op (asks other asked next) stage answer h e w = subst (λ q. IsWithin few q) (h.2 answer).0 (subst (λ n. IsWithin n (asks other asked next)) e w answer)

-- no step is left
shows_none : (cell : CellId) (op : StoreOp) (p : Program) (stage : Stage) (most : ℕ) → Shows (StepNeed cell op) p stage → most ≡ 0 → IsWithin most p → ⊥
shows_none cell op (finished given) stage most h e w = absurd h
shows_none cell op (asks other asked next) stage most h e w = absurd (subst (λ n. IsWithin n (asks other asked next)) e w)

shows_cell : (backends : ℕ) (cell : CellId) (op : StoreOp) (p : Program) (stage : Stage) → Shows (StepNeed cell op) p stage → StaysAmong backends p → IsCellOf backends cell op
shows_cell backends cell op (finished given) stage h among = absurd h
shows_cell backends cell op (asks other asked next) stage h among = subst (λ c. IsCellOf backends c op) (sym h.0) (subst (λ o. IsCellOf backends other o) (sym h.1) among.0)

shows_among : (backends : ℕ) (cell : CellId) (op : StoreOp) (p : Program) (stage : Stage) (answer : StepAnswer) → Shows (StepNeed cell op) p stage → StaysAmong backends p → IsAnswerOf backends op answer → StaysAmong backends (resumed stage (Some answer))
shows_among backends cell op (finished given) stage answer h among form = absurd h
shows_among backends cell op (asks other asked next) stage answer h among form = subst (λ q. StaysAmong backends q) (h.2 answer).0 (among.1 answer (subst (λ o. IsAnswerOf backends o answer) h.1 form))

begins_none : (p : Program) → Begins p []
begins_none (finished given) = tt
begins_none (asks cell op next) = tt

-- a step of the definition is a step of the program
shows_run : (cell : CellId) (op : StoreOp) (p : Program) (stage : Stage) (answer : StoreAnswer) (old new : Store) → Shows (StepNeed cell op) p stage → cstep old cell op ≡ record { store = new; answer = answer } → run p old ≡ run (resumed stage (Some (Answered answer))) new
shows_run cell op (finished given) stage answer old new h e = absurd h
shows_run cell op (asks other asked next) stage answer old new h e =
    let here : cstep old other asked ≡ record { store = new; answer = answer } = ap (λ c. cstep old c asked) (sym h.0) ∙ ap (λ o. cstep old cell o) (sym h.1) ∙ e in
    ap (λ (s : Stepped). run (next (Answered s.answer)) s.store) here ∙ ap (λ q. run q new) (h.2 (Answered answer)).0

tells_on : (first now new : Option Store) (cell : CellId) (op : StoreOp) (answer : StepAnswer) (whole p : Program) (stage : Stage) → Shows (StepNeed cell op) p stage → Tells first now (λ s t. run whole s ≡ run p t) → StepsAlone now cell op (Ok answer) new → Tells first new (λ s t. run whole s ≡ run (resumed stage (Some answer)) t)
tells_on None now new cell op answer whole p stage h t k = tt
tells_on (Some s) None new cell op answer whole p stage h t k = absurd t
tells_on (Some s) (Some t) None cell op answer whole p stage h e k = absurd k
tells_on (Some s) (Some t) (Some u) cell op (Answered answer) whole p stage h e k = e ∙ shows_run cell op p stage answer t u h k
tells_on (Some s) (Some t) (Some u) cell op Cancelled whole p stage h e k = absurd k
tells_on (Some s) (Some t) (Some u) cell op Closed whole p stage h e k = absurd k

-- the step that is asked for is on a cell that is there
pub along_cell : {B : Type 0} (ran : B → List Step → B → Type 0) (told : B → Option Store) (version backends count : ℕ) (call : Call) (first now : B) (stage next : Stage) (given : Option StepAnswer) (cell : CellId) (op : StoreOp) → Along ran told version backends count call first now stage given → Shows (StepNeed cell op) (resumed stage given) next → IsCellOf backends cell op
along_cell ran told version backends count call first now stage next given cell op along shows = shows_cell backends cell op (resumed stage given) next shows along.among

-- the call goes on over one more step
pub along_step : {B : Type 0} (ran : B → List Step → B → Type 0) (told : B → Option Store) (ran_on : (a b c : B) (s t : List Step) → ran a s b → ran b t c → ran a (s ++ t) c) (version backends count : ℕ) (call : Call) (first now new : B) (stage next : Stage) (given : Option StepAnswer) (answer : StepAnswer) (cell : CellId) (op : StoreOp) → Along ran told version backends count call first now stage given → count < call_steps_max → Shows (StepNeed cell op) (resumed stage given) next → IsAnswerOf backends op answer → ran now (step_of cell op (Ok answer) ∷ []) new → StepsAlone (told now) cell op (Ok answer) (told new) → Along ran told version backends (count + 1) call first new next (Some answer)
along_step ran told ran_on version backends count call first now new stage next given answer cell op along below shows form one alone =
    let step = step_of cell op (Ok answer) in
    record {
      steps = along.steps ++ step ∷ [];
      so_far = ran_on first now new along.steps (step ∷ []) along.so_far one;
      many = (let h = along.many in omega (arith, length-append along.steps (step ∷ []), h));
      within = shows_within (call_steps_max - (count + 1)) (call_steps_max - count) cell op (resumed stage given) next answer shows (omega (arith, below)) along.within;
      among = shows_among backends cell op (resumed stage given) next answer shows along.among form;
      expects = shows_expects cell op (resumed stage given) next answer shows;
      takes = λ rest reply t. subst (λ steps. Takes (program version call) steps reply) (sym (append_assoc along.steps (step ∷ []) rest)) (along.takes (step ∷ rest) reply (shows_takes cell op (resumed stage given) next answer rest reply shows t));
      begins = λ rest t. subst (λ steps. Begins (program version call) steps) (sym (append_assoc along.steps (step ∷ []) rest)) (along.begins (step ∷ rest) (shows_begins cell op (resumed stage given) next answer rest shows t));
      alone = tells_on (told first) (told now) (told new) cell op answer (program version call) (resumed stage given) next shows along.alone alone;
    }

tells_start : (p : Program) (told : Option Store) → Tells told told (λ s t. run p s ≡ run p t)
tells_start p None = tt
tells_start p (Some store) = refl

-- nothing was done yet
pub along_start : {B : Type 0} (ran : B → List Step → B → Type 0) (told : B → Option Store) (ran_none : (b : B) → ran b [] b) (version backends : ℕ) (call : Call) (first : B) (stage : Stage) → 0 < backends → stage ≡ Start (act_of version call) → Along ran told version backends 0 call first first stage None
along_start ran told ran_none version backends call first stage root e = subst (λ s. Along ran told version backends 0 call first first s None) (sym e)
    (record {
      steps = [];
      so_far = ran_none first;
      many = omega arith;
      within = calls_end version call;
      among = calls_stay_among version backends call root;
      expects = tt;
      takes = λ rest reply t. t;
      begins = λ rest t. t;
      alone = tells_start (program version call) (told first);
    })

on_err : (r : Result Reply AllocError) (P : Reply → Type 0) (Q : Type 0) → IsErr r → Q → MatchResult r P (λ _. Q)
on_err (Ok reply) P Q h q = cc
on_err (Err error) P Q h q = q

-- the machine found no memory: the steps so far are a beginning
pub stopped : {B : Type 0} (ran : B → List Step → B → Type 0) (told : B → Option Store) (version backends count : ℕ) (call : Call) (first now : B) (stage : Stage) (given : Option StepAnswer) (r : Result Reply AllocError) → IsErr r → count ≤ call_steps_max → Along ran told version backends count call first now stage given → (steps : List Step) × ran first steps now × (length steps ≤ call_steps_max) × MatchResult r (λ reply. Walk version call steps reply) (λ _. Begins (program version call) steps)
stopped ran told version backends count call first now stage given r e below along = (
  along.steps,
  along.so_far,
  (let h = along.many in omega (arith, h, below)),
  on_err r _ _ e (subst (λ steps. Begins (program version call) steps) (append-nil along.steps) (along.begins [] (begins_none _))),
)

-- a step found no memory: it is the last of a beginning
pub refused : {B : Type 0} (ran : B → List Step → B → Type 0) (told : B → Option Store) (ran_on : (a b c : B) (s t : List Step) → ran a s b → ran b t c → ran a (s ++ t) c) (version backends count : ℕ) (call : Call) (first now new : B) (stage next : Stage) (given : Option StepAnswer) (need : Need) (error : AllocError) (cell : CellId) (op : StoreOp) (r : Result Reply AllocError) → IsErr r → Along ran told version backends count call first now stage given → count < call_steps_max → need ≡ StepNeed cell op → Shows need (resumed stage given) next → ran now (step_of cell op (Err error) ∷ []) new → (steps : List Step) × ran first steps new × (length steps ≤ call_steps_max) × MatchResult r (λ reply. Walk version call steps reply) (λ _. Begins (program version call) steps)
refused ran told ran_on version backends count call first now new stage next given need error cell op r e along below is shows one =
    let step = step_of cell op (Err error) in (
      along.steps ++ step ∷ [],
      ran_on first now new along.steps (step ∷ []) along.so_far one,
      (let h = along.many in omega (arith, length-append along.steps (step ∷ []), h, below)),
      on_err r _ _ e (along.begins (step ∷ []) (shows_refused cell op (resumed stage given) next error (subst (λ n. Shows n (resumed stage given) next) is shows))),
    )

-- the machine is over: the steps are the call's, and the reply is theirs
pub ended : {B : Type 0} (ran : B → List Step → B → Type 0) (told : B → Option Store) (version backends count : ℕ) (call : Call) (first now : B) (stage next : Stage) (given : Option StepAnswer) (need : Need) (reply : Reply) → Along ran told version backends count call first now stage given → count ≤ call_steps_max → need ≡ DoneNeed reply → Shows need (resumed stage given) next → (steps : List Step) × ran first steps now × (length steps ≤ call_steps_max) × Walk version call steps reply
ended ran told version backends count call first now stage next given need reply along below is shows = (
  along.steps,
  along.so_far,
  (let h = along.many in omega (arith, h, below)),
  subst (λ steps. Takes (program version call) steps reply) (append-nil along.steps) (along.takes [] reply (shows_done reply (resumed stage given) next (subst (λ n. Shows n (resumed stage given) next) is shows))),
)

-- after the most steps that a call takes it is over
pub along_over : {B : Type 0} (ran : B → List Step → B → Type 0) (told : B → Option Store) (version backends count : ℕ) (call : Call) (first now : B) (stage next : Stage) (given : Option StepAnswer) (need : Need) (cell : CellId) (op : StoreOp) → Along ran told version backends count call first now stage given → call_steps_max ≤ count → need ≡ StepNeed cell op → Shows need (resumed stage given) next → ⊥
along_over ran told version backends count call first now stage next given need cell op along above is shows =
    shows_none cell op (resumed stage given) next (call_steps_max - count) (subst (λ n. Shows n (resumed stage given) next) is shows) (omega (arith, above)) along.within

run_done : (reply : Reply) (p : Program) (stage : Stage) (store : Store) → Shows (DoneNeed reply) p stage → run p store ≡ record { store = store; reply = reply }
run_done reply (finished given) stage store h = ap (λ (r : Reply). replied store r) (sym h)
run_done reply (asks cell op next) stage store h = absurd h

-- and over a store that was told, the call was the call at once
pub ended_alone : (version : ℕ) (first now : Option Store) (call : Call) (p : Program) (next : Stage) (need : Need) (reply : Reply) → Tells first now (λ s t. run (program version call) s ≡ run p t) → need ≡ DoneNeed reply → Shows need p next → CallsAlone version first call reply now
ended_alone version None now call p next need reply h is shows = tt
ended_alone version (Some s) None call p next need reply h is shows = absurd h
ended_alone version (Some s) (Some t) call p next need reply h is shows = sym (steps_are_the_call version s call) ∙ h ∙ run_done reply p next t (subst (λ n. Shows n p next) is shows)
