-- What `open` comes to at an entry.
use Rattle.path_walk.specs.Calls.{path_at}
use Rattle.path_walk.specs.declared.call.Base.TheVariants.{Cwd}
use Rattle.std.proofs.Common.{◌≡◌, ℕ, ◌%◌, zero, suc, Bool, true, if◌then◌else◌, List, [], ◌∷◌, Option, None, Some, Result, Ok, slice_get, slice_set, unwrap_or, refl, ap, ◌∙◌, ◌==◌, false, ◌||◌}
use Rattle.wf_core.specs.Limits.{group_count, path_names_max, symloop_max}
use Rattle.wf_core.specs.declared.errno.Errno.{Errno}
use Rattle.name_store.specs.declared.operation.Node.{Node}
use Rattle.name_store.specs.declared.operation.Node.TheVariants.{File as FileNode}
use Rattle.name_store.specs.declared.operation.NameOp.TheVariants.{Addfile}
use Rattle.name_store.specs.declared.operation.NameAnswer.{NameAnswer}
use Rattle.name_store.specs.declared.operation.NameAnswer.TheVariants as answer
use Rattle.name_store.specs.NameTrees.{Tree, Listing, NamesOutcome, dir_at, entry_at, nstep, look_answer, look_answer_at, unless_gone, addfile_outcome, addfile_outcome_at, with_entry_at, outcome_of as names_outcome}
use Rattle.file_store.specs.declared.descriptor_operation.Slot.{Slot}
use Rattle.file_store.specs.declared.descriptor_operation.Slot.TheVariants as slot
use Rattle.file_store.specs.declared.descriptor_operation.FdOp.TheVariants.{FillDir, Reserve}
use Rattle.file_store.specs.DescriptorMap.{with_slot, DescriptorsOutcome, Map, slot_at, lowest_free, place_outcome, fill_outcome}
use Rattle.file_store.specs.declared.file.File.{File}
use Rattle.file_store.specs.declared.file_operation.Mode.{Mode}
use Rattle.file_store.specs.declared.file_operation.FileOp.TheVariants.{Make, Attach}
use Rattle.file_store.specs.declared.file_operation.FileAnswer.TheVariants as file_answer
use Rattle.file_store.specs.FileGroups.{Group, FilesOutcome, attach_outcome, file_at, files_after_truncation, fstep, with_description, with_files, outcome_of as files_outcome}
use Rattle.path_walk.specs.declared.part.Part.{Part}
use Rattle.path_walk.specs.declared.route.Manner.TheVariants.{OnWay}
use Rattle.path_walk.specs.declared.route.Spot.{Spot}
use Rattle.path_walk.specs.declared.route.Station.{Station}
use Rattle.path_walk.specs.declared.route.End.{End}
use Rattle.path_walk.specs.declared.route.End.TheVariants.{Directory}
use Rattle.path_walk.specs.declared.open_request.OpenFlags.{OpenFlags}
use Rattle.path_walk.specs.declared.open_request.OpenRequest.{OpenRequest}
use Rattle.path_walk.specs.declared.open_request.OpenRoute.{OpenRoute}
use Rattle.path_walk.specs.declared.step.CellId.TheVariants.{Descriptors as DescriptorsCell}
use Rattle.path_walk.specs.declared.step.StoreOp.TheVariants.{Files as FilesOp, Descriptors as DescriptorsOp}
use Rattle.path_walk.specs.declared.step.StoreAnswer.TheVariants.{Names as NamesAnswer, Files as FilesAnswer, Descriptors as DescriptorsAnswer}
use Rattle.path_walk.specs.declared.step.StepAnswer.TheVariants.{Answered}
use Rattle.path_walk.specs.declared.call.Reply.TheVariants as reply
use Rattle.path_walk.specs.Store.{Store, group_at, names_at, with_group, with_names}
use Rattle.path_walk.specs.Paths.{parts_of, front_of, slash_of, path_fault, parts_before, name_in, is_absolute}
use Rattle.path_walk.specs.PathMeaning.{station, resolve, root_of, start_in}
use Rattle.path_walk.specs.Programs.{CallOutcome, replied}
use Rattle.path_walk.specs.Walk.{node_in}
use Rattle.path_walk.specs.Plans.{Plan, replies, steps, at_once, cell_of_id, fault_in, ok_unless, unless_fault, from_base}
use Rattle.path_walk.specs.OpenPlan.{flags_fault, directory_fault, file_fault, mode_of, open_route, route_to, unless_drops, fills, opens_directory, attached_plan, opens_file, added_plan, makes, looked_plan, looks, open_end, open_walks_max, opens_along, request_of, opens_by, reserved_plan, opens, opens_in}
use Rattle.call_laws.specs.Entries.{NamesEntry, directory_at, path_spot, current_spot}
use Rattle.call_laws.specs.OpenLaws.{ReachesEntry, with_opened}
use Rattle.path_walk.proofs.Leads.{same_names}
use Rattle.call_laws.proofs.StoreLemmas.{names_grouped}
use Rattle.call_laws.proofs.Leading.{Extends, leads_still}
use Rattle.call_laws.proofs.OpenErrors.{held, set_here}

-- what was put where something else was put before
set_twice : {X : Type 0} (xs : List X) (i : ℕ) (first second : X) → slice_set (slice_set xs i first) i second ≡ slice_set xs i second
set_twice [] i first second = refl
set_twice (x ∷ xs) zero first second = refl
set_twice (x ∷ xs) (suc i) first second = ap (λ (rest : List _). x ∷ rest) (set_twice xs i first second)

-- The way to the name.

pub reserves : (version : ℕ) (store : Store) (path : List ℕ) (flags : OpenFlags) (number : ℕ) → flags_fault flags ≡ None → lowest_free store.descriptors ≡ Some number → path_fault path ≡ None → at_once store (opens (path_at version Cwd path) flags) ≡ at_once (held store number) (from_base (path_at version Cwd path).base (opens_in (request_of number flags (slash_of path)) (route_to path)))
reserves version store path flags number together lowest walked =
    ap (λ (fault : Option Errno). at_once store (unless_fault fault (steps DescriptorsCell (DescriptorsOp Reserve) (reserved_plan flags (path_at version Cwd path).base (open_route path))))) together
    ∙ ap (λ (free : Option ℕ). at_once (record store { descriptors = (place_outcome store.descriptors slot.Reserved free).map }) (reserved_plan flags (path_at version Cwd path).base (open_route path) (Answered (DescriptorsAnswer (place_outcome store.descriptors slot.Reserved free).answer)))) lowest
    ∙ ap (λ (fault : Option Errno). at_once (held store number) (opens_by number flags (path_at version Cwd path).base (ok_unless fault (route_to path)))) walked

pub starts : (version : ℕ) (s : Store) (path : List ℕ) (request : OpenRequest) (route : OpenRoute) → at_once s (from_base (path_at version Cwd path).base (opens_in request route)) ≡ at_once s (opens_along open_walks_max request (start_in (path_spot version s path)) route)
starts version s path request route = by_start (version == 1 || is_absolute path) where
  by_start : (rooted : Bool) → at_once s (from_base (if rooted then None else Some Cwd) (opens_in request route)) ≡ at_once s (opens_along open_walks_max request (start_in (if rooted then root_of 0 else current_spot s)) route)
  by_start true = refl
  by_start false = refl

pub to_name : (version : ℕ) (s : Store) (request : OpenRequest) (path : List ℕ) (here : Spot) (name : List ℕ) (names : NamesEntry version s path here name) → at_once s (opens_along open_walks_max request (start_in (path_spot version s path)) (route_to path)) ≡ at_once s (looks (opens_along symloop_max) request (suc names.left) names.links here name)
unfolding opens_along
to_name version s request path here name names =
    ap (λ (last : Option Part). at_once s (open_end (opens_along symloop_max) request (name_in last) (resolve s path_names_max (parts_before last (parts_of path)) OnWay (slash_of path) symloop_max (path_spot version s path)))) names.last
    ∙ ap (λ (end : Result End Errno). at_once s (open_end (opens_along symloop_max) request (Some name) end)) names.prefix

found_in : (node : Option Node) → node_in (Answered (NamesAnswer (look_answer_at node))) ≡ Ok node
found_in None = refl
found_in (Some node) = refl

pub looked : (s : Store) (follow : OpenRequest → Station → OpenRoute → Plan) (request : OpenRequest) (names links : ℕ) (here : Spot) (name : List ℕ) (directory : Listing) → directory_at s here ≡ Some directory → at_once s (looks follow request (suc names) links here name) ≡ at_once s (looked_plan follow request (station names links here) name (Ok (entry_at directory name)))
looked s follow request names links here name directory is =
    let tree : Tree = names_at s here.backend in
    let next : NameAnswer → Plan = λ a. looked_plan follow request (station names links here) name (node_in (Answered (NamesAnswer a))) in
    ap (λ (d : Option Listing). let o : NamesOutcome = unless_gone tree d (λ d. names_outcome tree (look_answer d name)) in at_once (with_names s here.backend o.tree) (next o.answer)) is
    ∙ ap (λ (left : Store). at_once left (next (look_answer directory name))) (same_names s here.backend)
    ∙ ap (λ (found : Result (Option Node) Errno). at_once s (looked_plan follow request (station names links here) name found)) (found_in (entry_at directory name))

-- what stands there is opened, or nothing is there
pub at_entry : (version : ℕ) (store : Store) (path : List ℕ) (flags : OpenFlags) (number : ℕ) (here : Spot) (name : List ℕ) (stood : Option Node) (reached : ReachesEntry version store path flags number here name stood) → at_once store (opens (path_at version Cwd path) flags) ≡ at_once (held store number) (looked_plan (opens_along symloop_max) (request_of number flags (slash_of path)) (station reached.entry.left reached.entry.links here) name (Ok stood))
at_entry version store path flags number here name stood reached =
    let same : Extends store (held store number) = record { entries = λ there other n e. e; parents = λ there parent e. e; current = refl } in
    let still : NamesEntry version (held store number) path here name = record {
      walked = reached.entry.walked;
      last = reached.entry.last;
      left = reached.entry.left;
      links = reached.entry.links;
      prefix = leads_still store (held store number) same path_names_max (front_of (parts_of path)) OnWay (slash_of path) symloop_max (path_spot version store path) (Directory (station (suc reached.entry.left) reached.entry.links here)) reached.entry.prefix;
    } in
    reserves version store path flags number reached.together reached.lowest reached.entry.walked
    ∙ starts version (held store number) path (request_of number flags (slash_of path)) (route_to path)
    ∙ to_name version (held store number) (request_of number flags (slash_of path)) path here name still
    ∙ looked (held store number) (opens_along symloop_max) (request_of number flags (slash_of path)) reached.entry.left reached.entry.links here name reached.directory reached.there
    ∙ ap (λ (found : Option Node). at_once (held store number) (looked_plan (opens_along symloop_max) (request_of number flags (slash_of path)) (station reached.entry.left reached.entry.links here) name (Ok found))) reached.stands

-- A reserved number is filled.

module _ (store : Store) (number : ℕ) (free : slice_get store.descriptors.slots number ≡ Some slot.Free) where
  reserved_here : slot_at (with_slot store.descriptors number slot.Reserved) number ≡ slot.Reserved
  reserved_here = ap (λ (found : Option Slot). unwrap_or found slot.Free) (set_here store.descriptors.slots number slot.Free slot.Reserved free)

  -- the number is filled, whatever was done to the backends meanwhile
  abbrev after_fill : Store → Slot → CallOutcome
  after_fill left new =
      let o : DescriptorsOutcome = fill_outcome left.descriptors number new (slot_at left.descriptors number) in
      at_once (record left { descriptors = o.map }) (unless_drops number (fault_in (Answered (DescriptorsAnswer o.answer))) (replies (reply.Fd number)))

  abbrev opened_as : Store → Slot → CallOutcome
  opened_as left new = replied (record left { descriptors = with_slot store.descriptors number new }) (reply.Fd number)

  pub filled : (left : Store) (new : Slot) → left.descriptors ≡ with_slot store.descriptors number slot.Reserved → after_fill left new ≡ opened_as left new
  filled left new is =
      ap (λ (old : Slot). let o : DescriptorsOutcome = fill_outcome left.descriptors number new old in at_once (record left { descriptors = o.map }) (unless_drops number (fault_in (Answered (DescriptorsAnswer o.answer))) (replies (reply.Fd number)))) (ap (λ (m : Map). slot_at m number) is ∙ reserved_here)
      ∙ ap (λ (m : Map). let left : Store = record left { descriptors = m } in replied left (reply.Fd number)) (ap (λ (m : Map). with_slot m number new) is ∙ ap (λ (slots : List Slot). let m : Map = record { slots = slots; current = store.descriptors.current } in m) (set_twice store.descriptors.slots number slot.Reserved new))

  pub directory_opened : (request : OpenRequest) → request.number ≡ number → (there : Spot) → directory_fault request.flags ≡ None → at_once (held store number) (opens_directory request there) ≡ opened_as store (slot.Dir there.backend there.directory)
  directory_opened request is there fault =
      ap (λ (f : Option Errno). at_once (held store number) (unless_drops request.number f (fills request.number (FillDir request.number there.backend there.directory)))) fault
      ∙ ap (λ (n : ℕ). at_once (held store number) (fills n (FillDir n there.backend there.directory))) is
      ∙ filled (held store number) (slot.Dir there.backend there.directory) refl

-- A file that is there.

module _ (group : Group) (file : ℕ) (mode : Mode) (was : File) (there : file_at group file ≡ Some was) (linked : was.linked ≡ true) where
  abbrev pub attached : Bool → Group
  attached truncate = with_description (with_files group (files_after_truncation group.files file was truncate)) file mode

  pub attach_is : (truncate : Bool) → fstep group (Attach file mode truncate) ≡ record { group = attached truncate; answer = file_answer.Desc group.descriptions.next }
  attach_is truncate =
      ap (attach_outcome group file mode truncate) there
      ∙ ap (λ (is_linked : Bool). let o : FilesOutcome = if is_linked then record { group = attached truncate; answer = file_answer.Desc group.descriptions.next } else files_outcome group file_answer.Gone in o) linked

pub file_opened : (store : Store) (flags : OpenFlags) (number : ℕ) (slash : Bool) (backend file : ℕ) (was : File) → slice_get store.descriptors.slots number ≡ Some slot.Free → file_fault flags slash ≡ None → file_at (group_at store backend (file % group_count)) file ≡ Some was → was.linked ≡ true → (let group = group_at store backend (file % group_count) in at_once (held store number) (opens_file (request_of number flags slash) backend file) ≡ replied (with_opened store backend (file % group_count) (with_description (with_files group (files_after_truncation group.files file was flags.trunc)) file (mode_of flags)) number group.descriptions.next) (reply.Fd number))
file_opened store flags number slash backend file was free fault there linked =
    let group : Group = group_at store backend (file % group_count) in
    let request : OpenRequest = request_of number flags slash in
    ap (λ (f : Option Errno). at_once (held store number) (unless_drops number f (steps (cell_of_id backend file) (FilesOp (Attach file (mode_of flags) flags.trunc)) (attached_plan number backend)))) fault
    ∙ ap (λ (o : FilesOutcome). at_once (with_group (held store number) backend (file % group_count) o.group) (attached_plan number backend (Answered (FilesAnswer o.answer)))) (attach_is group file (mode_of flags) was there linked flags.trunc)
    ∙ filled store number free (with_group (held store number) backend (file % group_count) (attached group file (mode_of flags) was there linked flags.trunc)) (slot.File backend group.descriptions.next) refl

-- A file that is made.

pub added_is : (tree : Tree) (id : ℕ) (name : List ℕ) (file : ℕ) (directory : Listing) → dir_at tree id ≡ Some directory → entry_at directory name ≡ None → nstep tree (Addfile id name file) ≡ names_outcome (with_entry_at tree id name (FileNode file)) answer.Done
added_is tree id name file directory is absent =
    ap (λ (d : Option Listing). unless_gone tree d (addfile_outcome tree id name file)) is
    ∙ ap (addfile_outcome_at tree id name file) absent

pub file_made : (store : Store) (follow : OpenRequest → Station → OpenRoute → Plan) (flags : OpenFlags) (number : ℕ) (slash : Bool) (here : Station) (name : List ℕ) (directory : Listing) → slice_get store.descriptors.slots number ≡ Some slot.Free → directory_at store here.spot ≡ Some directory → entry_at directory name ≡ None → (let group = group_at store here.spot.backend (number % group_count) in at_once (held store number) (makes follow (request_of number flags slash) here name) ≡ replied (with_names (with_opened store here.spot.backend (number % group_count) (fstep group (Make (mode_of flags))).group number group.descriptions.next) here.spot.backend (with_entry_at (names_at store here.spot.backend) here.spot.directory name (FileNode group.files.next))) (reply.Fd number))
file_made store follow flags number slash here name directory free is absent =
    let backend : ℕ = here.spot.backend in
    let id : ℕ = here.spot.directory in
    let group : Group = group_at store backend (number % group_count) in
    let request : OpenRequest = request_of number flags slash in
    let file : ℕ = group.files.next in
    let left : Store = with_group (held store number) backend (number % group_count) (fstep group (Make (mode_of flags))).group in
    let next : NamesOutcome → CallOutcome = λ o. at_once (with_names left backend o.tree) (added_plan follow request here file group.descriptions.next (Answered (NamesAnswer o.answer))) in
    ap (λ (tree : Tree). next (nstep tree (Addfile id name file))) (names_grouped (held store number) backend (number % group_count) (fstep group (Make (mode_of flags))).group backend)
    ∙ ap next (added_is (names_at store backend) id name file directory is absent)
    ∙ filled store number free (with_names left backend (with_entry_at (names_at store backend) id name (FileNode file))) (slot.File backend group.descriptions.next) refl
