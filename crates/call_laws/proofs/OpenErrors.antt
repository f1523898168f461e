-- An `open` that replies an error leaves the store as it was, with its number free again.
use Rattle.file_store.specs.declared.descriptor_operation.FdOp.TheVariants as fd
use Rattle.call_laws.specs.Entries.{current_spot}
use Rattle.path_walk.specs.declared.call.Base.{Base}
use Rattle.path_walk.specs.declared.call.Base.TheVariants.{Cwd, Fd}
use Rattle.path_walk.specs.declared.act.PathAt.{PathAt}
use Rattle.std.proofs.Common.{arith, ◌≡◌, ℕ, ◌%◌, zero, suc, Bool, true, false, if◌then◌else◌, List, [], ◌∷◌, Option, None, Some, Result, Ok, Err, slice_get, slice_set, unwrap_or, get_or, length, ◌<◌, refl, sym, ap, subst, ◌∙◌}
use Rattle.std.proofs.lemmas.List.Quantifiers.{position-Some}
use Rattle.wf_core.specs.Limits.{group_count}
use Rattle.wf_core.specs.declared.errno.Errno.{Errno}
use Rattle.wf_core.specs.declared.errno.Errno.TheVariants.{Enoent, Eloop, Enotdir, Enametoolong}
use Rattle.name_store.specs.declared.operation.Node.{Node}
use Rattle.name_store.specs.declared.operation.Node.TheVariants.{Dir, Link, File as FileNode, Mount}
use Rattle.name_store.specs.NameTrees.{Tree, Listing, NamesOutcome, dir_at, entry_at, look_answer, look_answer_at, unless_gone, addfile_outcome, addfile_outcome_at, outcome_of as names_outcome}
use Rattle.file_store.specs.declared.descriptor_operation.Slot.{Slot}
use Rattle.file_store.specs.declared.descriptor_operation.Slot.TheVariants as slot
use Rattle.file_store.specs.declared.descriptor_operation.FdOp.TheVariants.{FillFile, FillDir, Reserve}
use Rattle.file_store.specs.DescriptorMap.{with_slot, Map, slot_at, is_free, lowest_free, place_outcome, fill_outcome, dstep}
use Rattle.file_store.specs.declared.file.File.{File as FileRow}
use Rattle.file_store.specs.declared.file_operation.FileOp.TheVariants.{Make}
use Rattle.file_store.specs.declared.file_operation.FileAnswer.TheVariants as file_answer
use Rattle.file_store.specs.FileGroups.{Group, FilesOutcome, attach_outcome, file_at, fstep, outcome_of as files_outcome}
use Rattle.path_walk.specs.declared.route.Spot.{Spot}
use Rattle.path_walk.specs.declared.route.Station.{Station}
use Rattle.path_walk.specs.declared.route.End.{End}
use Rattle.path_walk.specs.declared.route.End.TheVariants.{Directory, File, LinkText}
use Rattle.path_walk.specs.declared.open_request.OpenFlags.{OpenFlags}
use Rattle.path_walk.specs.declared.open_request.OpenRequest.{OpenRequest}
use Rattle.path_walk.specs.declared.open_request.OpenRoute.{OpenRoute}
use Rattle.path_walk.specs.declared.step.CellId.TheVariants.{Descriptors as DescriptorsCell}
use Rattle.path_walk.specs.declared.step.StoreOp.TheVariants.{Descriptors as DescriptorsOp}
use Rattle.path_walk.specs.declared.step.StoreAnswer.TheVariants.{Names as NamesAnswer, Files as FilesAnswer, Descriptors as DescriptorsAnswer}
use Rattle.path_walk.specs.declared.step.StepAnswer.TheVariants.{Answered}
use Rattle.path_walk.specs.declared.call.Reply.TheVariants as reply
use Rattle.path_walk.specs.Store.{Store, group_at, names_at, with_group, with_names}
use Rattle.path_walk.specs.PathMeaning.{station, resolve, root_of, spot_beside, start_of, start_in}
use Rattle.path_walk.specs.Programs.{CallOutcome}
use Rattle.path_walk.specs.Walk.{node_in}
use Rattle.path_walk.specs.Plans.{Plan, replies, steps, at_once, fault_in, unless_fault, from_base, spot_in}
use Rattle.path_walk.specs.OpenPlan.{flags_fault, directory_fault, file_fault, link_fault, absent_fault, mode_of, open_route, route_to, drops, unless_drops, fills, opens_directory, attached_plan, opens_file, follows, found_plan, added_plan, makes, looked_plan, looks, open_end, open_walks_max, opens_along, request_of, opens_by, reserved_plan, opens, opens_in}
use Rattle.path_walk.proofs.Leads.{same_names}
use Rattle.call_laws.proofs.StoreLemmas.{names_grouped, same_group}
use Rattle.call_laws.proofs.FileErrors.{Same}

-- A reserved number.

pub set_here : {X : Type 0} (xs : List X) (i : ℕ) (old new : X) → slice_get xs i ≡ Some old → slice_get (slice_set xs i new) i ≡ Some new
set_here [] i old new h = cc
set_here (x ∷ xs) zero old new h = refl
set_here (x ∷ xs) (suc i) old new h = set_here xs i old new h

-- what was there and is put back
pub set_back : {X : Type 0} (xs : List X) (i : ℕ) (old new : X) → slice_get xs i ≡ Some old → slice_set (slice_set xs i new) i old ≡ xs
set_back [] i old new h = refl
set_back (x ∷ xs) zero old new h = let is : x ≡ old = cc in ap (λ (y : _). y ∷ xs) (sym is)
set_back (x ∷ xs) (suc i) old new h = ap (λ (rest : List _). x ∷ rest) (set_back xs i old new h)

is_free_slot : (s : Slot) → is_free s ≡ true → s ≡ slot.Free
is_free_slot slot.Free h = refl
is_free_slot slot.Reserved h = cc
is_free_slot (slot.File backend description) h = cc
is_free_slot (slot.Dir backend directory) h = cc

get_within : (map : List Slot) (i : ℕ) → i < length map → slice_get map i ≡ Some (get_or map i slot.Free)
get_within [] i h = absurd (omega (arith, h))
get_within (x ∷ map) zero h = refl
get_within (x ∷ map) (suc i) h = get_within map i (omega (arith, h))

pub lowest_is_free : (map : Map) (number : ℕ) → lowest_free map ≡ Some number → slice_get map.slots number ≡ Some slot.Free
lowest_is_free map number h =
    let found = position-Some is_free map.slots number slot.Free h in
    get_within map.slots number found.0 ∙ ap (λ (s : Slot). Some s) (is_free_slot (get_or map.slots number slot.Free) found.1)

-- the store in which a number is reserved
abbrev pub held : Store → ℕ → Store
held base number = record base { descriptors = with_slot base.descriptors number slot.Reserved }

-- with that number reserved, a plan that replies an error leaves the store as it was before
abbrev Back : Store → ℕ → Plan → Type 0
Back base number p = Same base (at_once (held base number) p)

-- what was opened is filled in, whatever the number was
filled_never : (store : Store) (number : ℕ) (new old : Slot) (error : Errno) → (at_once (record store { descriptors = (fill_outcome store.descriptors number new old).map }) (unless_drops number (fault_in (Answered (DescriptorsAnswer (fill_outcome store.descriptors number new old).answer))) (replies (reply.Fd number)))).reply ≡ reply.Fault error → ⊥
filled_never store number new slot.Free error e = cc
filled_never store number new slot.Reserved error e = cc
filled_never store number new (slot.File backend description) error e = cc
filled_never store number new (slot.Dir backend directory) error e = cc

fills_file_never : (store : Store) (number backend description : ℕ) (error : Errno) → (at_once store (fills number (FillFile number backend description))).reply ≡ reply.Fault error → ⊥
fills_file_never store number backend description error e = filled_never store number (slot.File backend description) (slot_at store.descriptors number) error e

fills_dir_never : (store : Store) (number backend directory : ℕ) (error : Errno) → (at_once store (fills number (FillDir number backend directory))).reply ≡ reply.Fault error → ⊥
fills_dir_never store number backend directory error e = filled_never store number (slot.Dir backend directory) (slot_at store.descriptors number) error e

module _ (base : Store) (number : ℕ) (free : slice_get base.descriptors.slots number ≡ Some slot.Free) where
  pub drops_back : (error : Errno) → (at_once (held base number) (drops number error)).store ≡ base
  drops_back error =
      let map : Map = with_slot base.descriptors number slot.Reserved in
      ap (λ (named : Slot). let s : Store = record (held base number) { descriptors = (fill_outcome map number slot.Free named).map } in s) (ap (λ (found : Option Slot). unwrap_or found slot.Free) (set_here base.descriptors.slots number slot.Free slot.Reserved free))
      ∙ ap (λ (m : Map). let s : Store = record base { descriptors = m } in s) (ap (λ (slots : List Slot). let m : Map = record { slots = slots; current = base.descriptors.current } in m) (set_back base.descriptors.slots number slot.Free slot.Reserved free))

  dropped : (error : Errno) → Back base number (drops number error)
  dropped error given e = drops_back error

  unless_back : (fault : Option Errno) (p : Plan) → Back base number p → Back base number (unless_drops number fault p)
  unless_back (Some error) p h = dropped error
  unless_back None p h = h

  fills_dir_back : (backend directory : ℕ) → Back base number (fills number (FillDir number backend directory))
  fills_dir_back backend directory error e = absurd (fills_dir_never (held base number) number backend directory error e)

  -- a step on files that has changed nothing, and a failure
  pub files_back : (backend group : ℕ) (error : Errno) → Same base (at_once (with_group (held base number) backend group (group_at (held base number) backend group)) (drops number error))
  files_back backend group error given e = ap (λ (s : Store). (at_once s (drops number error)).store) (same_group (held base number) backend group) ∙ drops_back error

  attach_if : (backend group : ℕ) (linked : Bool) (after : Group) (description : ℕ) → Same base (let outcome : FilesOutcome = if linked then record { group = after; answer = file_answer.Desc description } else files_outcome (group_at (held base number) backend group) file_answer.Gone in at_once (with_group (held base number) backend group outcome.group) (attached_plan number backend (Answered (FilesAnswer outcome.answer))))
  attach_if backend group true after description error e = absurd (fills_file_never (with_group (held base number) backend group after) number backend description error e)
  attach_if backend group false after description error e = files_back backend group Enoent error e

  attach_back : (backend group file : ℕ) (flags : OpenFlags) (found : Option FileRow) → Same base (let outcome : FilesOutcome = attach_outcome (group_at (held base number) backend group) file (mode_of flags) flags.trunc found in at_once (with_group (held base number) backend group outcome.group) (attached_plan number backend (Answered (FilesAnswer outcome.answer))))
  attach_back backend group file flags None error e = files_back backend group Enoent error e
  attach_back backend group file flags (Some row) error e = attach_if backend group row.linked _ _ error e

  -- the names were only asked
  asked_back : (backend : ℕ) (p : Plan) → Back base number p → Same base (at_once (with_names (held base number) backend (names_at (held base number) backend)) p)
  asked_back backend p h = subst (λ (s : Store). Same base (at_once s p)) (sym (same_names (held base number) backend)) h

directory_back : (base : Store) (request : OpenRequest) → slice_get base.descriptors.slots request.number ≡ Some slot.Free → (there : Spot) → Back base request.number (opens_directory request there)
directory_back base request free there = unless_back base request.number free (directory_fault request.flags) _ (fills_dir_back base request.number free there.backend there.directory)

file_back : (base : Store) (request : OpenRequest) → slice_get base.descriptors.slots request.number ≡ Some slot.Free → (backend file : ℕ) → Back base request.number (opens_file request backend file)
file_back base request free backend file =
    unless_back base request.number free (file_fault request.flags request.slash) _
    (attach_back base request.number free backend (file % group_count) file request.flags (file_at (group_at (held base request.number) backend (file % group_count)) file))

-- The last name.

some_is : {X : Type 0} (x y : X) → Some x ≡ Some y → x ≡ y
some_is x y e = cc

module _ (base : Store) (follow : OpenRequest → Station → OpenRoute → Plan) (on : (request : OpenRequest) (from : Station) (route : OpenRoute) → slice_get base.descriptors.slots request.number ≡ Some slot.Free → Back base request.number (follow request from route)) where
  follows_back : (links : ℕ) (request : OpenRequest) → slice_get base.descriptors.slots request.number ≡ Some slot.Free → (names : ℕ) (here : Spot) (text : List ℕ) → Back base request.number (follows follow links request names here text)
  follows_back zero request free names here text = dropped base request.number free Eloop
  follows_back (suc links) request free names here text = on _ (station names links (start_of text here)) (route_to text) free

  found_back : (request : OpenRequest) → slice_get base.descriptors.slots request.number ≡ Some slot.Free → (here : Station) (node : Node) → Back base request.number (found_plan follow request here node)
  found_back request free here (Dir id) = directory_back base request free (spot_beside here.spot id)
  found_back request free here (Mount backend) = directory_back base request free (root_of backend)
  found_back request free here (FileNode file) = file_back base request free here.spot.backend file
  found_back request free here (Link id text) = unless_back base request.number free (link_fault request.flags request.slash) _ (follows_back here.links request free here.names here.spot text)

  -- a name that is not there is added, and the call does not fail
  module _ (store : Store) (tree : Tree) (request : OpenRequest) (here : Station) (name : List ℕ) (file description : ℕ) (error : Errno) where
    abbrev after_adding : NamesOutcome → CallOutcome
    after_adding outcome = at_once (with_names store here.spot.backend outcome.tree) (added_plan follow request here file description (Answered (NamesAnswer outcome.answer)))

    entry_never : (node : Option Node) → node ≡ None → (after_adding (addfile_outcome_at tree here.spot.directory name file node)).reply ≡ reply.Fault error → ⊥
    entry_never None is e = fills_file_never _ request.number here.spot.backend description error e
    entry_never (Some node) is e = cc

    adding_never : (found : Option Listing) (directory : Listing) → found ≡ Some directory → entry_at directory name ≡ None → (after_adding (unless_gone tree found (addfile_outcome tree here.spot.directory name file))).reply ≡ reply.Fault error → ⊥
    adding_never None directory is absent e = cc
    adding_never (Some other) directory is absent e = entry_never (entry_at other name) (ap (λ (d : Listing). entry_at d name) (some_is other directory is) ∙ absent) e

  makes_back : (request : OpenRequest) (here : Station) (name : List ℕ) (directory : Listing) → dir_at (names_at base here.spot.backend) here.spot.directory ≡ Some directory → entry_at directory name ≡ None → Back base request.number (makes follow request here name)
  makes_back request here name directory is absent error e =
      let before : Store = held base request.number in
      let number : ℕ = request.number % group_count in
      let group : Group = group_at before here.spot.backend number in
      let after : Group = (fstep group (Make (mode_of request.flags))).group in
      let store : Store = with_group before here.spot.backend number after in
      let tree : Tree = names_at store here.spot.backend in
      let same : tree ≡ names_at base here.spot.backend = names_grouped before here.spot.backend number after here.spot.backend in
      absurd (adding_never store tree request here name group.files.next group.descriptions.next error (dir_at tree here.spot.directory) directory (ap (λ (t : Tree). dir_at t here.spot.directory) same ∙ is) absent e)

  module _ (request : OpenRequest) (free : slice_get base.descriptors.slots request.number ≡ Some slot.Free) (here : Station) (name : List ℕ) where
    abbrev after_looking : NamesOutcome → CallOutcome
    after_looking outcome = at_once (with_names (held base request.number) here.spot.backend outcome.tree) (looked_plan follow request here name (node_in (Answered (NamesAnswer outcome.answer))))

    node_back : (directory : Listing) (node : Option Node) → dir_at (names_at base here.spot.backend) here.spot.directory ≡ Some directory → entry_at directory name ≡ node → Same base (after_looking (names_outcome (names_at base here.spot.backend) (look_answer_at node)))
    node_back directory None is absent = asked_back base request.number free here.spot.backend (unless_drops request.number (absent_fault request.flags request.slash) (makes follow request here name)) (unless_back base request.number free (absent_fault request.flags request.slash) (makes follow request here name) (makes_back request here name directory is absent))
    node_back directory (Some node) is there = asked_back base request.number free here.spot.backend (found_plan follow request here node) (found_back request free here node)

    look_back : (found : Option Listing) → dir_at (names_at base here.spot.backend) here.spot.directory ≡ found → Same base (after_looking (unless_gone (names_at base here.spot.backend) found (λ directory. names_outcome (names_at base here.spot.backend) (look_answer directory name))))
    look_back None is = asked_back base request.number free here.spot.backend (drops request.number Enoent) (dropped base request.number free Enoent)
    look_back (Some directory) is = node_back directory (entry_at directory name) is refl

  looks_back : (request : OpenRequest) → slice_get base.descriptors.slots request.number ≡ Some slot.Free → (names links : ℕ) (here : Spot) (name : List ℕ) → Back base request.number (looks follow request names links here name)
  looks_back request free zero links here name = dropped base request.number free Enametoolong
  looks_back request free (suc names) links here name = look_back request free (station names links here) name (dir_at (names_at base here.backend) here.directory) refl

  end_back : (request : OpenRequest) → slice_get base.descriptors.slots request.number ≡ Some slot.Free → (name : Option (List ℕ)) (end : Result End Errno) → Back base request.number (open_end follow request name end)
  end_back request free name (Err error) = dropped base request.number free error
  end_back request free None (Ok (Directory there)) = directory_back base request free there.spot
  end_back request free (Some name) (Ok (Directory there)) = looks_back request free there.names there.links there.spot name
  end_back request free name (Ok (File backend file)) = dropped base request.number free Enotdir
  end_back request free name (Ok (LinkText text)) = dropped base request.number free Enotdir

along_back : (walks_left : ℕ) (base : Store) (request : OpenRequest) (from : Station) (route : OpenRoute) → slice_get base.descriptors.slots request.number ≡ Some slot.Free → Back base request.number (opens_along walks_left request from route)
unfolding opens_along
along_back zero base request from route free = dropped base request.number free Eloop
along_back (suc walks_left) base request from route free =
    end_back base (opens_along walks_left) (along_back walks_left base) request free route.name
    (resolve (held base request.number) from.names route.route.parts route.route.manner route.route.slash from.links from.spot)

-- The call.

in_back : (base : Store) (request : OpenRequest) (route : OpenRoute) → slice_get base.descriptors.slots request.number ≡ Some slot.Free → (start : Result Spot Errno) → Back base request.number (opens_in request route start)
in_back base request route free (Ok spot) = along_back open_walks_max base request (start_in spot) route free
in_back base request route free (Err error) = dropped base request.number free error

from_back : (base : Store) (number : ℕ) (origin : Option Base) (next : Result Spot Errno → Plan) → ((start : Result Spot Errno) → Back base number (next start)) → Back base number (from_base origin next)
from_back base number None next each = each (Ok (root_of 0))
from_back base number (Some Cwd) next each = each (Ok (current_spot base))
from_back base number (Some (Fd given)) next each = each (spot_in (Answered (DescriptorsAnswer (dstep (held base number).descriptors (fd.Look given)).answer)))

by_back : (base : Store) (number : ℕ) → slice_get base.descriptors.slots number ≡ Some slot.Free → (flags : OpenFlags) (origin : Option Base) (route : Result OpenRoute Errno) → Back base number (opens_by number flags origin route)
by_back base number free flags origin (Err error) = dropped base number free error
by_back base number free flags origin (Ok route) = from_back base number origin (opens_in (request_of number flags route.route.slash) route) (in_back base (request_of number flags route.route.slash) route free)

reserved_same : (store : Store) (flags : OpenFlags) (origin : Option Base) (route : Result OpenRoute Errno) (free : Option ℕ) → lowest_free store.descriptors ≡ free → Same store (at_once (record store { descriptors = (place_outcome store.descriptors slot.Reserved free).map }) (reserved_plan flags origin route (Answered (DescriptorsAnswer (place_outcome store.descriptors slot.Reserved free).answer))))
reserved_same store flags origin route None is error e = refl
reserved_same store flags origin route (Some number) is error e = by_back store number (lowest_is_free store.descriptors number is) flags origin route error e

opens_if : (store : Store) (at : PathAt) (flags : OpenFlags) (fault : Option Errno) → Same store (at_once store (unless_fault fault (steps DescriptorsCell (DescriptorsOp Reserve) (reserved_plan flags at.base (open_route at.path)))))
opens_if store at flags (Some given) error e = refl
opens_if store at flags None error e = reserved_same store flags at.base (open_route at.path) (lowest_free store.descriptors) refl error e

pub opens_same : (store : Store) (at : PathAt) (flags : OpenFlags) → Same store (at_once store (opens at flags))
opens_same store at flags = opens_if store at flags (flags_fault flags)
