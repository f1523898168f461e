-- An `open` of a path that leads to a directory, links followed.
use Rattle.std.proofs.Common.{arith, ◌≡◌, ℕ, ◌-◌, ◌<◌, ◌||◌, zero, suc, Bool, true, false, if◌then◌else◌, List, [], ◌∷◌, ◌++◌, length, Option, None, Some, Result, Ok, Err, refl, sym, ap, subst, ◌∙◌, slice_get}
use Rattle.wf_core.specs.Limits.{path_names_max, symloop_max}
use Rattle.wf_core.specs.declared.errno.Errno.{Errno}
use Rattle.wf_core.specs.declared.errno.Errno.TheVariants.{Eloop, Enotdir}
use Rattle.name_store.specs.declared.operation.Node.{Node}
use Rattle.name_store.specs.declared.operation.Node.TheVariants.{Dir, Link, File as FileNode, Mount}
use Rattle.name_store.specs.NameTrees.{Listing, entry_at}
use Rattle.file_store.specs.declared.descriptor_operation.Slot.TheVariants as slot
use Rattle.file_store.specs.declared.descriptor_operation.FdOp.TheVariants.{FillDir, Reserve}
use Rattle.file_store.specs.DescriptorMap.{lowest_free, place_outcome, with_slot}
use Rattle.path_walk.specs.declared.part.Part.{Part}
use Rattle.path_walk.specs.declared.part.Part.TheVariants.{Here, Up, Down, TooLong}
use Rattle.path_walk.specs.declared.route.Manner.TheVariants.{Follows, OnWay}
use Rattle.path_walk.specs.declared.route.Spot.{Spot}
use Rattle.path_walk.specs.declared.route.Station.{Station}
use Rattle.path_walk.specs.declared.route.End.{End}
use Rattle.path_walk.specs.declared.route.End.TheVariants.{Directory, File, LinkText}
use Rattle.path_walk.specs.declared.open_request.OpenFlags.{OpenFlags}
use Rattle.path_walk.specs.declared.open_request.OpenRequest.{OpenRequest}
use Rattle.path_walk.specs.declared.open_request.OpenRoute.{OpenRoute}
use Rattle.path_walk.specs.declared.step.CellId.TheVariants.{Descriptors as DescriptorsCell}
use Rattle.path_walk.specs.declared.step.StoreOp.TheVariants.{Descriptors as DescriptorsOp}
use Rattle.path_walk.specs.declared.step.StepAnswer.TheVariants.{Answered}
use Rattle.path_walk.specs.declared.step.StoreAnswer.TheVariants.{Descriptors as DescriptorsAnswer}
use Rattle.path_walk.specs.declared.call.Base.TheVariants.{Cwd}
use Rattle.path_walk.specs.declared.call.Call.TheVariants.{Open}
use Rattle.path_walk.specs.declared.call.Reply.TheVariants.{Fd, Fault}
use Rattle.path_walk.specs.Paths.{front_of, last_of, name_in, parts_before, parts_of, path_fault, slash_of}
use Rattle.path_walk.specs.PathMeaning.{course, end_of_course, entry_in, on_found, resolve, root_of, spot_beside, start_in, start_of, station}
use Rattle.path_walk.specs.Plans.{Plan, at_once, ok_unless, steps, unless_fault}
use Rattle.path_walk.specs.Calls.{path_at}
use Rattle.path_walk.specs.OpenPlan.{directory_fault, drops, fills, flags_fault, follows, found_plan, link_fault, looked_plan, looks, open_end, open_walks_max, opens_along, opens_by, opens_directory, open_route, request_of, reserved_plan, route_to, unless_drops}
use Rattle.path_walk.specs.Posix.{posix}
use Rattle.path_walk.specs.Programs.{CallOutcome, replied}
use Rattle.path_walk.specs.Store.{Store}
use Rattle.call_laws.specs.Entries.{directory_at, path_end, path_spot}
use Rattle.call_laws.specs.PathLaws.{LeadsOn}
use Rattle.call_laws.specs.OpenLaws.{OpensDirectory, OpensFindDirectories}
use Rattle.call_laws.proofs.ChangeLemmas.{last_ends}
use Rattle.call_laws.proofs.Leading.{leads_on}
use Rattle.call_laws.proofs.OpenErrors.{held, lowest_is_free}
use Rattle.call_laws.proofs.OpenLemmas.{filled, looked, starts}
use Rattle.call_laws.proofs.ApartLemmas.{walks_alike}

-- the directory of an end that is one
abbrev spot_at : Result End Errno → Spot
spot_at (Ok (Directory there)) = there.spot
spot_at end = root_of 0

-- where the plan replies a number, it has that number name the directory
abbrev Finds : Store → ℕ → Plan → Spot → Type 0
Finds store reserved p spot = (number : ℕ) → (at_once store p).reply ≡ Fd number → at_once store p ≡ at_once store (fills reserved (FillDir reserved spot.backend spot.directory))

drops_find : (store : Store) (reserved : ℕ) (error : Errno) (spot : Spot) → Finds store reserved (drops reserved error) spot
drops_find store reserved error spot number e = let clash : Fault error ≡ Fd number = e in cc

unless_finds : (store : Store) (reserved : ℕ) (fault : Option Errno) (p : Plan) (spot : Spot) → Finds store reserved p spot → Finds store reserved (unless_drops reserved fault p) spot
unless_finds store reserved (Some error) p spot h = drops_find store reserved error spot
unless_finds store reserved None p spot h = h

directory_finds : (store : Store) (request : OpenRequest) (spot : Spot) → Finds store request.number (opens_directory request spot) spot
directory_finds store request spot = unless_finds store request.number (directory_fault request.flags) (fills request.number (FillDir request.number spot.backend spot.directory)) spot (λ number e. refl)

-- the same plan by another way
same_finds : (store : Store) (reserved : ℕ) (first second : Plan) (spot : Spot) → at_once store first ≡ at_once store second → Finds store reserved second spot → Finds store reserved first spot
same_finds store reserved first second spot same h number e = same ∙ h number (sym (ap (λ (o : CallOutcome). o.reply) same) ∙ e)

-- A last component that is no name is walked alike, whatever follows.

get_some : {X : Type 0} (xs : List X) (i : ℕ) → i < length xs → slice_get xs i ≡ None → ⊥
get_some [] i within h = absurd (omega (arith, within))
get_some (x ∷ xs) zero within h = cc
get_some (x ∷ xs) (suc i) within h = get_some xs i (omega (arith, within)) h

none_last : (parts : List Part) → last_of parts ≡ None → parts ≡ []
none_last [] h = refl
none_last (part ∷ parts) h = absurd (get_some (part ∷ parts) (length (part ∷ parts) - 1) (omega arith) h)

module _ (store : Store) where
  last_alike : (names : ℕ) (part : Part) (first second : Bool) (links : ℕ) (here : Spot) → name_in (Some part) ≡ None → resolve store names (part ∷ []) OnWay first links here ≡ resolve store names (part ∷ []) Follows second links here
  last_alike names Here first second links here none = refl
  last_alike names TooLong first second links here none = refl
  last_alike zero Up first second links here none = refl
  last_alike (suc names) Up first second links here none = refl
  last_alike names (Down name) first second links here none = cc

  ends_alike : (part : Part) (first second : Bool) (prefix whole other : Result End Errno) → name_in (Some part) ≡ None → LeadsOn store part [] OnWay first prefix whole → LeadsOn store part [] Follows second prefix other → whole ≡ other
  ends_alike part first second (Err error) whole other none here there = here ∙ sym there
  ends_alike part first second (Ok (Directory at)) whole other none here there = here ∙ last_alike at.names part first second at.links at.spot none ∙ sym there
  ends_alike part first second (Ok (File backend file)) whole other none here there = absurd here
  ends_alike part first second (Ok (LinkText text)) whole other none here there = absurd here

  wholes_alike : (names : ℕ) (parts : List Part) (first second : Bool) (links : ℕ) (here : Spot) (last : Option Part) → last_of parts ≡ last → name_in last ≡ None → resolve store names parts OnWay first links here ≡ resolve store names parts Follows second links here
  wholes_alike names parts first second links here None is none = subst (λ (ps : List Part). resolve store names ps OnWay first links here ≡ resolve store names ps Follows second links here) (sym (none_last parts is)) refl
  wholes_alike names parts first second links here (Some part) is none =
      subst (λ (ps : List Part). resolve store names ps OnWay first links here ≡ resolve store names ps Follows second links here) (sym (last_ends parts part is))
      (ends_alike part first second (resolve store names (front_of parts) OnWay first links here) _ _ none
      (leads_on store part [] OnWay first names (front_of parts) first links here)
      (leads_on store part [] Follows second names (front_of parts) first links here))

-- At the last name.

module _ (store : Store) (follow : OpenRequest → Station → OpenRoute → Plan) (on : (request : OpenRequest) (from : Station) (path : List ℕ) (there : Station) → resolve store from.names (parts_of path) Follows request.slash from.links from.spot ≡ Ok (Directory there) → Finds store request.number (follow request from (route_to path)) there.spot) where
  file_is_none : (slash : Bool) (backend file : ℕ) (error : Errno) (there : Station) → (if slash then Err error else Ok (File backend file)) ≡ Ok (Directory there) → ⊥
  file_is_none true backend file error there h = cc
  file_is_none false backend file error there h = cc

  node_finds : (request : OpenRequest) (names links : ℕ) (here : Spot) (node : Node) (there : Station) → end_of_course (course Follows (Some node) [] request.slash links here) (λ w. resolve store names w.rest Follows w.slash w.links w.spot) ≡ Ok (Directory there) → Finds store request.number (found_plan follow request (station names links here) node) there.spot
  node_finds request names links here (Dir id) there h = subst (Finds store request.number (opens_directory request (spot_beside here id))) (ap spot_at h) (directory_finds store request (spot_beside here id))
  node_finds request names links here (Mount backend) there h = subst (Finds store request.number (opens_directory request (root_of backend))) (ap spot_at h) (directory_finds store request (root_of backend))
  node_finds request names links here (FileNode file) there h = absurd (file_is_none request.slash here.backend file Enotdir there h)
  node_finds request names zero here (Link id text) there h = cc
  node_finds request names (suc links) here (Link id text) there h =
      unless_finds store request.number (link_fault request.flags request.slash) (follows follow (suc links) request names here text) there.spot
      (on (record request { slash = request.slash || slash_of text }) (station names links (start_of text here)) text there h)

  name_finds : (request : OpenRequest) (names links : ℕ) (here : Spot) (name : List ℕ) (there : Station) (node : Option Node) → end_of_course (course Follows node [] request.slash links here) (λ w. resolve store names w.rest Follows w.slash w.links w.spot) ≡ Ok (Directory there) → Finds store request.number (looked_plan follow request (station names links here) name (Ok node)) there.spot
  name_finds request names links here name there None h = cc
  name_finds request names links here name there (Some node) h = node_finds request names links here node there h

  entry_finds : (request : OpenRequest) (names links : ℕ) (here : Spot) (name : List ℕ) (there : Station) (directory : Option Listing) → directory_at store here ≡ directory → on_found (entry_in directory name) (λ node. end_of_course (course Follows node [] request.slash links here) (λ w. resolve store names w.rest Follows w.slash w.links w.spot)) ≡ Ok (Directory there) → Finds store request.number (looks follow request (suc names) links here name) there.spot
  entry_finds request names links here name there None is h = cc
  entry_finds request names links here name there (Some directory) is h =
      same_finds store request.number (looks follow request (suc names) links here name) (looked_plan follow request (station names links here) name (Ok (entry_at directory name))) there.spot
      (looked store follow request names links here name directory is)
      (name_finds request names links here name there (entry_at directory name) h)

  looks_find : (request : OpenRequest) (names links : ℕ) (here : Spot) (name : List ℕ) (there : Station) → resolve store names (Down name ∷ []) Follows request.slash links here ≡ Ok (Directory there) → Finds store request.number (looks follow request names links here name) there.spot
  looks_find request zero links here name there h = cc
  looks_find request (suc names) links here name there h = entry_finds request names links here name there (directory_at store here) refl h

  -- after the prefix of a path whose last component is a name
  prefix_finds : (request : OpenRequest) (name : List ℕ) (prefix whole : Result End Errno) (there : Station) → LeadsOn store (Down name) [] Follows request.slash prefix whole → whole ≡ Ok (Directory there) → Finds store request.number (open_end follow request (Some name) prefix) there.spot
  prefix_finds request name (Err error) whole there leads h = let clash : Err error ≡ Ok (Directory there) = sym leads ∙ h in cc
  prefix_finds request name (Ok (Directory here)) whole there leads h = looks_find request here.names here.links here.spot name there (sym leads ∙ h)
  prefix_finds request name (Ok (File backend file)) whole there leads h = absurd leads
  prefix_finds request name (Ok (LinkText text)) whole there leads h = absurd leads

  -- after all of a path whose last component is none
  whole_finds : (request : OpenRequest) (end : Result End Errno) (there : Station) → end ≡ Ok (Directory there) → Finds store request.number (open_end follow request None end) there.spot
  whole_finds request end there h = same_finds store request.number (open_end follow request None end) (opens_directory request there.spot) there.spot (ap (λ (e : Result End Errno). at_once store (open_end follow request None e)) h) (directory_finds store request there.spot)

  last_finds : (request : OpenRequest) (from : Station) (path : List ℕ) (there : Station) → resolve store from.names (parts_of path) Follows request.slash from.links from.spot ≡ Ok (Directory there) → (last : Option Part) → last_of (parts_of path) ≡ last → Finds store request.number (open_end follow request (name_in last) (resolve store from.names (parts_before last (parts_of path)) OnWay (slash_of path) from.links from.spot)) there.spot
  last_finds request from path there h (Some (Down name)) is =
      prefix_finds request name (resolve store from.names (front_of (parts_of path)) OnWay (slash_of path) from.links from.spot) (resolve store from.names (front_of (parts_of path) ++ Down name ∷ []) Follows request.slash from.links from.spot) there
      (leads_on store (Down name) [] Follows request.slash from.names (front_of (parts_of path)) (slash_of path) from.links from.spot)
      (sym (ap (λ (parts : List Part). resolve store from.names parts Follows request.slash from.links from.spot) (last_ends (parts_of path) (Down name) is)) ∙ h)
  last_finds request from path there h (Some Here) is = whole_finds request _ there (wholes_alike store from.names (parts_of path) (slash_of path) request.slash from.links from.spot (Some Here) is refl ∙ h)
  last_finds request from path there h (Some Up) is = whole_finds request _ there (wholes_alike store from.names (parts_of path) (slash_of path) request.slash from.links from.spot (Some Up) is refl ∙ h)
  last_finds request from path there h (Some TooLong) is = whole_finds request _ there (wholes_alike store from.names (parts_of path) (slash_of path) request.slash from.links from.spot (Some TooLong) is refl ∙ h)
  last_finds request from path there h None is = whole_finds request _ there (wholes_alike store from.names (parts_of path) (slash_of path) request.slash from.links from.spot None is refl ∙ h)

-- Along a path.

along_finds : (walks_left : ℕ) (store : Store) (request : OpenRequest) (from : Station) (path : List ℕ) (there : Station) → resolve store from.names (parts_of path) Follows request.slash from.links from.spot ≡ Ok (Directory there) → Finds store request.number (opens_along walks_left request from (route_to path)) there.spot
unfolding opens_along
along_finds zero store request from path there h = drops_find store request.number Eloop there.spot
along_finds (suc walks_left) store request from path there h = last_finds store (opens_along walks_left) (along_finds walks_left store) request from path there h (last_of (parts_of path)) refl

-- The call.

-- what such an `open` has come to
pub record Found (version : ℕ) (store : Store) (path : List ℕ) (flags : OpenFlags) (number : ℕ) (spot : Spot) : Type 0 where
  pub walked : path_fault path ≡ None
  pub lowest : lowest_free store.descriptors ≡ Some number
  pub opens : OpensDirectory version store path flags number spot.backend spot.directory

module _ (version : ℕ) (store : Store) (path : List ℕ) (flags : OpenFlags) (number : ℕ) (there : Station) (leads : path_end version store Follows path ≡ Ok (Directory there)) where
  abbrev Comes : CallOutcome → Type 0
  Comes outcome = outcome.reply ≡ Fd number → (path_fault path ≡ None) × (lowest_free store.descriptors ≡ Some number) × (outcome ≡ replied (record store { descriptors = with_slot store.descriptors number (slot.Dir there.spot.backend there.spot.directory) }) (Fd number))

  by_walk : (reserved : ℕ) → lowest_free store.descriptors ≡ Some reserved → path_fault path ≡ None → Comes (at_once (held store reserved) (opens_along open_walks_max (request_of reserved flags (slash_of path)) (start_in (path_spot version store path)) (route_to path)))
  by_walk reserved lowest walked e =
      let request = request_of reserved flags (slash_of path) in
      let from = start_in (path_spot version store path) in
      let found = along_finds open_walks_max (held store reserved) request from path there (walks_alike (held store reserved).descriptors store path_names_max (parts_of path) Follows (slash_of path) symloop_max (path_spot version store path) ∙ leads) number e in
      let is = found ∙ filled store reserved (lowest_is_free store.descriptors reserved lowest) (held store reserved) (slot.Dir there.spot.backend there.spot.directory) refl in
      let same : reserved ≡ number = (let replies : Fd reserved ≡ Fd number = sym (ap (λ (o : CallOutcome). o.reply) is) ∙ e in cc) in
      (walked, lowest ∙ ap (λ (n : ℕ). Some n) same, is ∙ ap (λ (n : ℕ). replied (record store { descriptors = with_slot store.descriptors n (slot.Dir there.spot.backend there.spot.directory) }) (Fd n)) same)

  by_path : (reserved : ℕ) → lowest_free store.descriptors ≡ Some reserved → (fault : Option Errno) → path_fault path ≡ fault → Comes (at_once (held store reserved) (opens_by reserved flags (path_at version Cwd path).base (ok_unless fault (route_to path))))
  by_path reserved lowest (Some error) is = λ e. let clash : Fault error ≡ Fd number = e in cc
  by_path reserved lowest None is = subst Comes (sym (starts version (held store reserved) path (request_of reserved flags (slash_of path)) (route_to path))) (by_walk reserved lowest is)

  by_place : (free : Option ℕ) → lowest_free store.descriptors ≡ free → Comes (at_once (record store { descriptors = (place_outcome store.descriptors slot.Reserved free).map }) (reserved_plan flags (path_at version Cwd path).base (open_route path) (Answered (DescriptorsAnswer (place_outcome store.descriptors slot.Reserved free).answer))))
  by_place None is = λ e. cc
  by_place (Some reserved) is = by_path reserved is (path_fault path) refl

  by_fault : (fault : Option Errno) → Comes (at_once store (unless_fault fault (steps DescriptorsCell (DescriptorsOp Reserve) (reserved_plan flags (path_at version Cwd path).base (open_route path)))))
  by_fault (Some error) = λ e. let clash : Fault error ≡ Fd number = e in cc
  by_fault None = by_place (lowest_free store.descriptors) refl

  pub found_directory : (posix version store (Open path flags)).reply ≡ Fd number → Found version store path flags number there.spot
  found_directory e = let (walked, lowest, is) = by_fault (flags_fault flags) e in record { walked = walked; lowest = lowest; opens = is }

pub opens_find_directories : OpensFindDirectories
opens_find_directories version store path flags number there replied leads = (found_directory version store path flags number there leads replied).opens
