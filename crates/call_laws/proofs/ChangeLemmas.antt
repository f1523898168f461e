-- A change that was done, and which entry it was done to.
use Rattle.path_walk.specs.Programs.{CallOutcome}
use Rattle.path_walk.specs.declared.call.Base.TheVariants.{Cwd}
use Rattle.std.proofs.Common.{◌≡◌, ℕ, ◌-◌, ◌<◌, zero, suc, List, [], ◌∷◌, ◌++◌, length, take_all, take-suc, Option, None, Some, Result, Ok, Err, refl, sym, ap, subst, ◌∙◌, arith, Bool, true, false, if◌then◌else◌, ◌==◌, ◌||◌}
use Rattle.std.proofs.lemmas.Option.{slice_get_within, get_or_from_slice_get}
use Rattle.wf_core.specs.Limits.{path_names_max, symloop_max}
use Rattle.wf_core.specs.declared.errno.Errno.{Errno}
use Rattle.path_walk.specs.declared.part.Part.{Part}
use Rattle.path_walk.specs.declared.part.Part.TheVariants.{Here, Up, Down, TooLong}
use Rattle.path_walk.specs.declared.route.Manner.{Manner}
use Rattle.path_walk.specs.declared.route.Manner.TheVariants.{OnWay}
use Rattle.path_walk.specs.declared.route.Spot.{Spot}
use Rattle.path_walk.specs.declared.route.Station.{Station}
use Rattle.path_walk.specs.declared.route.Route.{Route}
use Rattle.path_walk.specs.declared.route.End.{End}
use Rattle.path_walk.specs.declared.route.End.TheVariants.{Directory, File, LinkText}
use Rattle.path_walk.specs.declared.goal.Change.{Change}
use Rattle.path_walk.specs.declared.goal.LastFaults.{LastFaults}
use Rattle.path_walk.specs.declared.call.Reply.TheVariants.{Done}
use Rattle.path_walk.specs.Store.{Store}
use Rattle.path_walk.specs.Paths.{parts_of, last_of, front_of, slash_of, path_fault, is_absolute}
use Rattle.path_walk.specs.PathMeaning.{course, end_of_course, root_of, resolve, station}
use Rattle.path_walk.specs.Plans.{Plan, on_ok, ok_unless, unless_fault, at_once, parent_route, whole_route, walks_from}
use Rattle.path_walk.specs.Calls.{last_fault, last_step, parent_of, parent_plan, name_of, faults_of, slash_fault, op_of, change_plan, changes, path_at}
use Rattle.call_laws.specs.Entries.{NamesEntry, node_of, path_end, prefix_end, path_spot, current_spot}
use Rattle.call_laws.specs.PathLaws.{LeadsOn}
use Rattle.call_laws.proofs.Leading.{leads_on, resolve_down, Extends, leads_still, spot_still}

pub on_ok_done : {A : Type 0} (store : Store) (r : Result A Errno) (next : A → Plan) → (at_once store (on_ok r next)).reply ≡ Done → (x : A) × (r ≡ Ok x) × ((at_once store (next x)).reply ≡ Done)
on_ok_done store (Ok x) next h = (x, refl, h)
on_ok_done store (Err error) next h = cc

pub unless_done : (store : Store) (fault : Option Errno) (p : Plan) → (at_once store (unless_fault fault p)).reply ≡ Done → (fault ≡ None) × ((at_once store p).reply ≡ Done)
unless_done store (Some error) p h = cc
unless_done store None p h = (refl, h)

spot_done : (store : Store) (fault : Option Errno) (spot : Spot) (next : Spot → Plan) → (at_once store (on_ok (ok_unless fault spot) next)).reply ≡ Done → (fault ≡ None) × ((at_once store (next spot)).reply ≡ Done)
spot_done store (Some error) spot next h = cc
spot_done store None spot next h = (refl, h)

pub parent_done : (store : Store) (last : Option Part) (next : Spot → Plan) (end : Result End Errno) → (at_once store (parent_plan last next end)).reply ≡ Done → (there : Station) × (end ≡ Ok (Directory there)) × (last_fault last there.names ≡ None) × ((at_once store (next there.spot)).reply ≡ Done)
parent_done store last next (Err error) h = cc
parent_done store last next (Ok (Directory there)) h = let (fault, k) = spot_done store (last_fault last there.names) there.spot next h in (there, refl, fault, k)
parent_done store last next (Ok (File backend file)) h = cc
parent_done store last next (Ok (LinkText text)) h = cc

pub name_there : (faults : LastFaults) (last : Option Part) (name : List ℕ) → name_of faults last ≡ Ok name → last ≡ Some (Down name)
name_there faults None name h = cc
name_there faults (Some Here) name h = cc
name_there faults (Some Up) name h = cc
name_there faults (Some TooLong) name h = cc
name_there faults (Some (Down other)) name h = cc

pub left_there : (name : List ℕ) (left : ℕ) → last_fault (Some (Down name)) left ≡ None → (less : ℕ) × (left ≡ suc less)
left_there name zero h = cc
left_there name (suc less) h = (less, refl)

pub route_there : (fault : Option Errno) (given route : Route) → ok_unless fault given ≡ Ok route → (fault ≡ None) × (route ≡ given)
route_there (Some error) given route h = cc
route_there None given route h = (refl, cc)

abbrev pub parent_route_of : List ℕ → Route
parent_route_of path = record { parts = front_of (parts_of path); last = last_of (parts_of path); manner = OnWay; slash = slash_of path }

-- a path of a call that names no base is walked from where it starts
pub walks_at : (version : ℕ) (store : Store) (path : List ℕ) (route : Route) (next : Result End Errno → Plan) → at_once store (walks_from (path_at version Cwd path).base route next) ≡ at_once store (next (resolve store path_names_max route.parts route.manner route.slash symloop_max (path_spot version store path)))
walks_at version store path route next = by_start (version == 1 || is_absolute path) where
  by_start : (rooted : Bool) → at_once store (walks_from (if rooted then None else Some Cwd) route next) ≡ at_once store (next (resolve store path_names_max route.parts route.manner route.slash symloop_max (if rooted then root_of 0 else current_spot store)))
  by_start true = refl
  by_start false = refl

-- the prefix of a path was walked, and what follows was done
pub prefix_done : (version : ℕ) (store : Store) (path : List ℕ) (faults : LastFaults) (next : Route → Spot → Plan) (named : Route → Spot → List ℕ → Plan) → ((route : Route) (spot : Spot) → next route spot ≡ on_ok (name_of faults route.last) (named route spot)) → (at_once store (on_ok (parent_route path) (λ route. walks_from (path_at version Cwd path).base route (parent_plan route.last (next route))))).reply ≡ Done → (here : Spot) × (name : List ℕ) × NamesEntry version store path here name × ((at_once store (named (parent_route_of path) here name)).reply ≡ Done)
prefix_done version store path faults next named each h =
    let (route, is_route, walked) = on_ok_done store (parent_route path) (λ route. walks_from (path_at version Cwd path).base route (parent_plan route.last (next route))) h in
    let (fault, same) = route_there (path_fault path) (parent_route_of path) route is_route in
    let at_end = sym (ap (λ (o : CallOutcome). o.reply) (walks_at version store path (parent_route_of path) (parent_plan (last_of (parts_of path)) (next (parent_route_of path))))) ∙ subst (λ (r : Route). (at_once store (walks_from (path_at version Cwd path).base r (parent_plan r.last (next r)))).reply ≡ Done) same walked in
    let (there, end, some, on) = parent_done store (last_of (parts_of path)) (next (parent_route_of path)) (prefix_end version store path) at_end in
    let (name, is_name, done) = on_ok_done store (name_of faults (last_of (parts_of path))) (named (parent_route_of path) there.spot) (subst (λ (p : Plan). (at_once store p).reply ≡ Done) (each (parent_route_of path) there.spot) on) in
    let last = name_there faults (last_of (parts_of path)) name is_name in
    let (less, suc_less) = left_there name there.names (subst (λ (l : Option Part). last_fault l there.names ≡ None) last some) in
    (there.spot, name, record { walked = fault; last = last; left = less; links = there.links; prefix = end ∙ ap (λ (n : ℕ). let r : Result End Errno = Ok (Directory (station n there.links there.spot)) in r) suc_less }, done)

pub change_done : (version : ℕ) (store : Store) (change : Change) (path : List ℕ) → (at_once store (changes change (path_at version Cwd path))).reply ≡ Done → (here : Spot) × (name : List ℕ) × NamesEntry version store path here name × (slash_fault change (slash_of path) ≡ None)
change_done version store change path h =
    let (here, name, names, done) = prefix_done version store path (faults_of change) (λ route. change_plan change route.last route.slash) (λ route spot name. unless_fault (slash_fault change route.slash) (last_step spot.backend (op_of change spot.directory name route.slash))) (λ route spot. refl) h in
    (here, name, names, (unless_done store (slash_fault change (slash_of path)) _ done).0)

-- a change comes to the entry that its path names
pub change_reached : (version : ℕ) (store : Store) (change : Change) (path : List ℕ) (here : Spot) (name : List ℕ) → NamesEntry version store path here name → at_once store (changes change (path_at version Cwd path)) ≡ at_once store (unless_fault (slash_fault change (slash_of path)) (last_step here.backend (op_of change here.directory name (slash_of path))))
change_reached version store change path here name names =
    ap (λ (fault : Option Errno). at_once store (on_ok (ok_unless fault (parent_route_of path)) (λ route. walks_from (path_at version Cwd path).base route (parent_plan route.last (change_plan change route.last route.slash))))) names.walked
    ∙ walks_at version store path (parent_route_of path) (parent_plan (last_of (parts_of path)) (change_plan change (last_of (parts_of path)) (slash_of path)))
    ∙ ap (λ (end : Result End Errno). at_once store (parent_plan (last_of (parts_of path)) (change_plan change (last_of (parts_of path)) (slash_of path)) end)) names.prefix
    ∙ ap (λ (last : Option Part). at_once store (on_ok (parent_of last (Directory (station (suc names.left) names.links here))) (change_plan change last (slash_of path)))) names.last

-- a change of the entry that a path names is its last step
pub change_at : (version : ℕ) (store : Store) (change : Change) (path : List ℕ) (here : Spot) (name : List ℕ) → NamesEntry version store path here name → slash_fault change (slash_of path) ≡ None → at_once store (changes change (path_at version Cwd path)) ≡ at_once store (last_step here.backend (op_of change here.directory name (slash_of path)))
change_at version store change path here name names slash =
    change_reached version store change path here name names
    ∙ ap (λ (fault : Option Errno). at_once store (unless_fault fault (last_step here.backend (op_of change here.directory name (slash_of path))))) slash

-- a call along the whole path, from its end
pub whole_at : (version : ℕ) (store : Store) (manner : Manner) (path : List ℕ) (next : Result End Errno → Plan) → path_fault path ≡ None → at_once store (on_ok (whole_route manner path) (λ route. walks_from (path_at version Cwd path).base route next)) ≡ at_once store (next (path_end version store manner path))
whole_at version store manner path next walked =
    ap (λ (fault : Option Errno). at_once store (on_ok (ok_unless fault (record { parts = parts_of path; last = None; manner = manner; slash = slash_of path })) (λ route. walks_from (path_at version Cwd path).base route next))) walked
    ∙ walks_at version store path (record { parts = parts_of path; last = None; manner = manner; slash = slash_of path }) next

-- parts that have a last are those before it and the last
pub last_ends : (parts : List Part) (last : Part) → last_of parts ≡ Some last → parts ≡ front_of parts ++ last ∷ []
last_ends parts last h =
    let within : length parts - 1 < length parts = slice_get_within parts (length parts - 1) last h in
    sym (take_all (suc (length parts - 1)) parts (omega arith))
    ∙ take-suc parts (length parts - 1) last within
    ∙ ap (λ (part : Part). front_of parts ++ part ∷ []) (get_or_from_slice_get parts (length parts - 1) last last h)

-- a path goes on from the end of its prefix
pub path_continues : (version : ℕ) (store : Store) (manner : Manner) (path : List ℕ) (last : Part) → last_of (parts_of path) ≡ Some last → LeadsOn store last [] manner (slash_of path) (prefix_end version store path) (path_end version store manner path)
path_continues version store manner path last is =
    subst (λ (parts : List Part). LeadsOn store last [] manner (slash_of path) (prefix_end version store path) (resolve store path_names_max parts manner (slash_of path) symloop_max (path_spot version store path))) (sym (last_ends (parts_of path) last is))
    (leads_on store last [] manner (slash_of path) path_names_max (front_of (parts_of path)) (slash_of path) symloop_max (path_spot version store path))

-- the end of a path that names an entry, from what is there
pub entry_end : (version : ℕ) (store : Store) (manner : Manner) (path : List ℕ) (here : Spot) (name : List ℕ) (names : NamesEntry version store path here name) → path_end version store manner path ≡ end_of_course (course manner (node_of store here name) [] (slash_of path) names.links here) (λ w. resolve store names.left w.rest manner w.slash w.links w.spot)
entry_end version store manner path here name names =
    subst (λ (end : Result End Errno). LeadsOn store (Down name) [] manner (slash_of path) end (path_end version store manner path)) names.prefix (path_continues version store manner path (Down name) names.last)
    ∙ resolve_down store names.left name [] manner (slash_of path) names.links here

-- a path whose prefix fails fails so
pub prefix_fails : (version : ℕ) (store : Store) (manner : Manner) (path : List ℕ) (last : Part) (error : Errno) → last_of (parts_of path) ≡ Some last → prefix_end version store path ≡ Err error → path_end version store manner path ≡ Err error
prefix_fails version store manner path last error is fails =
    subst (λ (end : Result End Errno). LeadsOn store last [] manner (slash_of path) end (path_end version store manner path)) fails (path_continues version store manner path last is)

-- in a store that has grown, a path names the entry that it named
pub names_still : (version : ℕ) (earlier later : Store) (path : List ℕ) (here : Spot) (name : List ℕ) → Extends earlier later → NamesEntry version earlier path here name → NamesEntry version later path here name
names_still version earlier later path here name more names = record {
  walked = names.walked;
  last = names.last;
  left = names.left;
  links = names.links;
  prefix =
      ap (λ (start : Spot). resolve later path_names_max (front_of (parts_of path)) OnWay (slash_of path) symloop_max start) (spot_still version earlier later path more.current)
      ∙ leads_still earlier later more path_names_max (front_of (parts_of path)) OnWay (slash_of path) symloop_max (path_spot version earlier path) (Directory (station (suc names.left) names.links here)) names.prefix;
}
