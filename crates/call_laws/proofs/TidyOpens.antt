-- An `open` at once leaves a tidy store tidy.
use Rattle.file_store.specs.declared.descriptor_operation.FdOp.TheVariants as fd
use Rattle.call_laws.specs.Entries.{current_spot}
use Rattle.path_walk.specs.declared.call.Base.{Base}
use Rattle.path_walk.specs.declared.call.Base.TheVariants.{Cwd, Fd}
use Rattle.path_walk.specs.declared.act.PathAt.{PathAt}
use Rattle.std.proofs.Common.{arith, ◌≡◌, ℕ, ◌%◌, zero, suc, Bool, true, false, if◌then◌else◌, List, Option, None, Some, is_some, Result, Ok, Err, slice_get, unwrap_or, refl, sym, ap, subst, ◌∙◌}
use Rattle.wf_core.specs.Limits.{group_count}
use Rattle.wf_core.specs.declared.errno.Errno.{Errno}
use Rattle.wf_core.specs.declared.errno.Errno.TheVariants.{Enoent, Eloop, Enotdir, Enametoolong}
use Rattle.name_store.specs.declared.operation.Node.{Node}
use Rattle.name_store.specs.declared.operation.Node.TheVariants.{Dir, Link, File as FileNode, Mount}
use Rattle.name_store.specs.NameTrees.{Listing, NamesOutcome, dir_at, entry_at, look_answer, look_answer_at, unless_gone, outcome_of as names_outcome}
use Rattle.file_store.specs.declared.descriptor_operation.Slot.{Slot}
use Rattle.file_store.specs.declared.descriptor_operation.Slot.TheVariants as slot
use Rattle.file_store.specs.declared.descriptor_operation.FdOp.TheVariants.{FillDir}
use Rattle.file_store.specs.DescriptorMap.{lowest_free, place_outcome, dstep}
use Rattle.file_store.specs.declared.file.File.{File as FileRow}
use Rattle.file_store.specs.declared.file_operation.FileOp.TheVariants.{Make}
use Rattle.file_store.specs.declared.file_operation.FileAnswer.TheVariants as file_answer
use Rattle.file_store.specs.FileGroups.{Group, FilesOutcome, attach_outcome, file_at, files_after_truncation, fstep, with_description, with_files, outcome_of as files_outcome}
use Rattle.file_store.proofs.TableChanges.{added_here, added_other, next_is_none}
use Rattle.path_walk.specs.declared.route.Spot.{Spot}
use Rattle.path_walk.specs.declared.route.Station.{Station}
use Rattle.path_walk.specs.declared.route.End.{End}
use Rattle.path_walk.specs.declared.route.End.TheVariants.{Directory, File, LinkText}
use Rattle.path_walk.specs.declared.open_request.OpenFlags.{OpenFlags}
use Rattle.path_walk.specs.declared.open_request.OpenRequest.{OpenRequest}
use Rattle.path_walk.specs.declared.open_request.OpenRoute.{OpenRoute}
use Rattle.path_walk.specs.declared.step.CellId.TheVariants.{Descriptors as DescriptorsCell}
use Rattle.path_walk.specs.declared.step.StoreOp.TheVariants.{Descriptors as DescriptorsOp}
use Rattle.path_walk.specs.declared.step.StoreAnswer.TheVariants.{Names as NamesAnswer, Files as FilesAnswer, Descriptors as DescriptorsAnswer}
use Rattle.path_walk.specs.declared.step.StepAnswer.TheVariants.{Answered}
use Rattle.file_store.specs.declared.descriptor_operation.FdOp.TheVariants.{Reserve}
use Rattle.path_walk.specs.Store.{Store, group_at, names_at, with_group, with_names}
use Rattle.path_walk.specs.PathMeaning.{resolve, root_of, spot_beside, start_of, station, start_in}
use Rattle.path_walk.specs.Programs.{CallOutcome}
use Rattle.path_walk.specs.Walk.{node_in}
use Rattle.path_walk.specs.Plans.{Plan, steps, at_once, unless_fault, from_base, spot_in}
use Rattle.path_walk.specs.OpenPlan.{absent_fault, attached_plan, directory_fault, drops, file_fault, fills, flags_fault, follows, found_plan, link_fault, looked_plan, looks, makes, mode_of, open_end, open_route, open_walks_max, opens, opens_along, opens_by, opens_directory, opens_file, request_of, reserved_plan, route_to, unless_drops, opens_in}
use Rattle.path_walk.proofs.Leads.{same_names}
use Rattle.call_laws.specs.RunLaws.{IsSoundStore, IsTidy}
use Rattle.call_laws.proofs.StoreLemmas.{backend_there}
use Rattle.call_laws.proofs.GroupLemmas.{backend_of_file}
use Rattle.call_laws.proofs.SoundStores.{group_found}
use Rattle.call_laws.proofs.OpenErrors.{drops_back, files_back, held, lowest_is_free}
use Rattle.call_laws.proofs.OpenLemmas.{file_made, filled}
use Rattle.call_laws.proofs.TidyLemmas.{tidy_names, tidy_slot}
use Rattle.call_laws.proofs.TidyChanges.{tidy_opened}

-- with that number reserved, the plan leaves a tidy store
record Left (base : Store) (number : ℕ) (p : Plan) : Type 0 where
  left : IsTidy (at_once (held base number) p).store

module _ (base : Store) (sound : IsSoundStore base) (tidy : IsTidy base) where
  module _ (number : ℕ) (free : slice_get base.descriptors.slots number ≡ Some slot.Free) where
    drops_left : (error : Errno) → Left base number (drops number error)
    drops_left error = record { left = subst IsTidy (sym (drops_back base number free error)) tidy }

    unless_left : (fault : Option Errno) (p : Plan) → Left base number p → Left base number (unless_drops number fault p)
    unless_left (Some error) p h = drops_left error
    unless_left None p h = h

    fills_directory_left : (backend directory : ℕ) → Left base number (fills number (FillDir number backend directory))
    fills_directory_left backend directory = record {
      left = subst IsTidy (sym (ap (λ (o : CallOutcome). o.store) (filled base number free (held base number) (slot.Dir backend directory) refl)))
          (tidy_slot base number (slot.Dir backend directory) (λ e. cc) (λ b d e. cc) (λ b d e. let was : slot.Free ≡ slot.File b d = sym (ap (λ (found : Option Slot). unwrap_or found slot.Free) free) ∙ e in cc) tidy);
    }

    attached_left : (backend place file : ℕ) (flags : OpenFlags) (row : FileRow) (linked : Bool) → place ≡ file % group_count → file_at (group_at base backend place) file ≡ Some row → (let o : FilesOutcome = if linked then record { group = with_description (with_files (group_at base backend place) (files_after_truncation (group_at base backend place).files file row flags.trunc)) file (mode_of flags); answer = file_answer.Desc (group_at base backend place).descriptions.next } else files_outcome (group_at base backend place) file_answer.Gone in IsTidy (at_once (with_group (held base number) backend place o.group) (attached_plan number backend (Answered (FilesAnswer o.answer)))).store)
    attached_left backend place file flags row false is there = subst IsTidy (sym (files_back base number free backend place Enoent Enoent refl)) tidy
    attached_left backend place file flags row true is there =
        let group : Group = group_at base backend place in
        let after : Group = with_description (with_files group (files_after_truncation group.files file row flags.trunc)) file (mode_of flags) in
        let (old, found) = backend_of_file base backend place file row there in
        let (group_is, group_sound, is_number) = group_found base backend place old sound found (omega (arith, is)) in
        subst IsTidy (sym (ap (λ (o : CallOutcome). o.store) (filled base number free (with_group (held base number) backend place after) (slot.File backend group.descriptions.next) refl)))
        (tidy_opened base backend place after number group.descriptions.next tidy free group_is (group_sound.description_ids.next ∙ is_number) (next_is_none group.descriptions _ group_sound.description_ids) (ap is_some (added_here group.descriptions _)) (λ q apart. added_other group.descriptions q _ apart))

    attach_left : (backend place file : ℕ) (flags : OpenFlags) (found : Option FileRow) → place ≡ file % group_count → file_at (group_at base backend place) file ≡ found → (let o : FilesOutcome = attach_outcome (group_at base backend place) file (mode_of flags) flags.trunc found in IsTidy (at_once (with_group (held base number) backend place o.group) (attached_plan number backend (Answered (FilesAnswer o.answer)))).store)
    attach_left backend place file flags None is there = subst IsTidy (sym (files_back base number free backend place Enoent Enoent refl)) tidy
    attach_left backend place file flags (Some row) is there = attached_left backend place file flags row row.linked is there

    -- the names were only asked
    asked_left : (backend : ℕ) (p : Plan) → Left base number p → IsTidy (at_once (with_names (held base number) backend (names_at (held base number) backend)) p).store
    asked_left backend p h = subst (λ (s : Store). IsTidy (at_once s p).store) (sym (same_names (held base number) backend)) h.left

  directory_left : (request : OpenRequest) → slice_get base.descriptors.slots request.number ≡ Some slot.Free → (there : Spot) → Left base request.number (opens_directory request there)
  directory_left request free there = unless_left request.number free (directory_fault request.flags) (fills request.number (FillDir request.number there.backend there.directory)) (fills_directory_left request.number free there.backend there.directory)

  file_left : (request : OpenRequest) → slice_get base.descriptors.slots request.number ≡ Some slot.Free → (backend file : ℕ) → Left base request.number (opens_file request backend file)
  file_left request free backend file =
      unless_left request.number free (file_fault request.flags request.slash) _
      (record { left = attach_left request.number free backend (file % group_count) file request.flags (file_at (group_at base backend (file % group_count)) file) refl refl })

  module _ (follow : OpenRequest → Station → OpenRoute → Plan) (on : (request : OpenRequest) (from : Station) (route : OpenRoute) → slice_get base.descriptors.slots request.number ≡ Some slot.Free → Left base request.number (follow request from route)) where
    follows_left : (links : ℕ) (request : OpenRequest) → slice_get base.descriptors.slots request.number ≡ Some slot.Free → (names : ℕ) (here : Spot) (text : List ℕ) → Left base request.number (follows follow links request names here text)
    follows_left zero request free names here text = drops_left request.number free Eloop
    follows_left (suc links) request free names here text = on _ (station names links (start_of text here)) (route_to text) free

    found_left : (request : OpenRequest) → slice_get base.descriptors.slots request.number ≡ Some slot.Free → (here : Station) (node : Node) → Left base request.number (found_plan follow request here node)
    found_left request free here (Dir id) = directory_left request free (spot_beside here.spot id)
    found_left request free here (Mount backend) = directory_left request free (root_of backend)
    found_left request free here (FileNode file) = file_left request free here.spot.backend file
    found_left request free here (Link id text) = unless_left request.number free (link_fault request.flags request.slash) _ (follows_left here.links request free here.names here.spot text)

    makes_left : (request : OpenRequest) → slice_get base.descriptors.slots request.number ≡ Some slot.Free → (here : Station) (name : List ℕ) (directory : Listing) → dir_at (names_at base here.spot.backend) here.spot.directory ≡ Some directory → entry_at directory name ≡ None → Left base request.number (makes follow request here name)
    makes_left request free here name directory is absent =
        let backend : ℕ = here.spot.backend in
        let place : ℕ = request.number % group_count in
        let group : Group = group_at base backend place in
        let after : Group = (fstep group (Make (mode_of request.flags))).group in
        let (old, found) = backend_there (slice_get base.backends backend) here.spot.directory directory is in
        let (group_is, group_sound, is_number) = group_found base backend place old sound found (omega arith) in
        record {
          left = subst IsTidy (sym (ap (λ (o : CallOutcome). o.store) (file_made base follow request.flags request.number request.slash here name directory free is absent)))
              (tidy_names _ backend _ (tidy_opened base backend place after request.number group.descriptions.next tidy free group_is (group_sound.description_ids.next ∙ is_number) (next_is_none group.descriptions _ group_sound.description_ids) (ap is_some (added_here group.descriptions _)) (λ q apart. added_other group.descriptions q _ apart)));
        }

    module _ (request : OpenRequest) (free : slice_get base.descriptors.slots request.number ≡ Some slot.Free) (here : Station) (name : List ℕ) where
      abbrev after_looking : NamesOutcome → Store
      after_looking outcome = (at_once (with_names (held base request.number) here.spot.backend outcome.tree) (looked_plan follow request here name (node_in (Answered (NamesAnswer outcome.answer))))).store

      node_left : (directory : Listing) (node : Option Node) → dir_at (names_at base here.spot.backend) here.spot.directory ≡ Some directory → entry_at directory name ≡ node → IsTidy (after_looking (names_outcome (names_at base here.spot.backend) (look_answer_at node)))
      node_left directory None is absent = asked_left request.number free here.spot.backend (unless_drops request.number (absent_fault request.flags request.slash) (makes follow request here name)) (unless_left request.number free (absent_fault request.flags request.slash) (makes follow request here name) (makes_left request free here name directory is absent))
      node_left directory (Some node) is there = asked_left request.number free here.spot.backend (found_plan follow request here node) (found_left request free here node)

      look_left : (found : Option Listing) → dir_at (names_at base here.spot.backend) here.spot.directory ≡ found → IsTidy (after_looking (unless_gone (names_at base here.spot.backend) found (λ directory. names_outcome (names_at base here.spot.backend) (look_answer directory name))))
      look_left None is = asked_left request.number free here.spot.backend (drops request.number Enoent) (drops_left request.number free Enoent)
      look_left (Some directory) is = node_left directory (entry_at directory name) is refl

    looks_left : (request : OpenRequest) → slice_get base.descriptors.slots request.number ≡ Some slot.Free → (names links : ℕ) (here : Spot) (name : List ℕ) → Left base request.number (looks follow request names links here name)
    looks_left request free zero links here name = drops_left request.number free Enametoolong
    looks_left request free (suc names) links here name = record { left = look_left request free (station names links here) name (dir_at (names_at base here.backend) here.directory) refl }

    end_left : (request : OpenRequest) → slice_get base.descriptors.slots request.number ≡ Some slot.Free → (name : Option (List ℕ)) (end : Result End Errno) → Left base request.number (open_end follow request name end)
    end_left request free name (Err error) = drops_left request.number free error
    end_left request free None (Ok (Directory there)) = directory_left request free there.spot
    end_left request free (Some name) (Ok (Directory there)) = looks_left request free there.names there.links there.spot name
    end_left request free name (Ok (File backend file)) = drops_left request.number free Enotdir
    end_left request free name (Ok (LinkText text)) = drops_left request.number free Enotdir

along_left : (walks_left : ℕ) (base : Store) → IsSoundStore base → IsTidy base → (request : OpenRequest) (from : Station) (route : OpenRoute) → slice_get base.descriptors.slots request.number ≡ Some slot.Free → Left base request.number (opens_along walks_left request from route)
unfolding opens_along
along_left zero base sound tidy request from route free = drops_left base sound tidy request.number free Eloop
along_left (suc walks_left) base sound tidy request from route free = record { left = (end_left base sound tidy (opens_along walks_left) (along_left walks_left base sound tidy) request free route.name (resolve (held base request.number) from.names route.route.parts route.route.manner route.route.slash from.links from.spot)).left }

in_left : (base : Store) → IsSoundStore base → IsTidy base → (request : OpenRequest) (route : OpenRoute) → slice_get base.descriptors.slots request.number ≡ Some slot.Free → (start : Result Spot Errno) → Left base request.number (opens_in request route start)
in_left base sound tidy request route free (Ok spot) = along_left open_walks_max base sound tidy request (start_in spot) route free
in_left base sound tidy request route free (Err error) = drops_left base sound tidy request.number free error

from_left : (base : Store) (number : ℕ) (origin : Option Base) (next : Result Spot Errno → Plan) → ((start : Result Spot Errno) → Left base number (next start)) → Left base number (from_base origin next)
from_left base number None next each = each (Ok (root_of 0))
from_left base number (Some Cwd) next each = record { left = (each (Ok (current_spot base))).left }
from_left base number (Some (Fd given)) next each = record { left = (each (spot_in (Answered (DescriptorsAnswer (dstep (held base number).descriptors (fd.Look given)).answer)))).left }

by_left : (base : Store) → IsSoundStore base → IsTidy base → (number : ℕ) → slice_get base.descriptors.slots number ≡ Some slot.Free → (flags : OpenFlags) (origin : Option Base) (route : Result OpenRoute Errno) → Left base number (opens_by number flags origin route)
by_left base sound tidy number free flags origin (Err error) = drops_left base sound tidy number free error
by_left base sound tidy number free flags origin (Ok route) = from_left base number origin (opens_in (request_of number flags route.route.slash) route) (in_left base sound tidy (request_of number flags route.route.slash) route free)

reserved_left : (store : Store) → IsSoundStore store → IsTidy store → (flags : OpenFlags) (origin : Option Base) (route : Result OpenRoute Errno) (free : Option ℕ) → lowest_free store.descriptors ≡ free → IsTidy (at_once (record store { descriptors = (place_outcome store.descriptors slot.Reserved free).map }) (reserved_plan flags origin route (Answered (DescriptorsAnswer (place_outcome store.descriptors slot.Reserved free).answer)))).store
reserved_left store sound tidy flags origin route None is = tidy
reserved_left store sound tidy flags origin route (Some number) is = (by_left store sound tidy number (lowest_is_free store.descriptors number is) flags origin route).left

open_if : (store : Store) → IsSoundStore store → IsTidy store → (at : PathAt) (flags : OpenFlags) (fault : Option Errno) → IsTidy (at_once store (unless_fault fault (steps DescriptorsCell (DescriptorsOp Reserve) (reserved_plan flags at.base (open_route at.path))))).store
open_if store sound tidy at flags (Some given) = tidy
open_if store sound tidy at flags None = reserved_left store sound tidy flags at.base (open_route at.path) (lowest_free store.descriptors) refl

pub opens_leave_tidy : (store : Store) → IsSoundStore store → IsTidy store → (at : PathAt) (flags : OpenFlags) → IsTidy (at_once store (opens at flags)).store
opens_leave_tidy store sound tidy at flags = open_if store sound tidy at flags (flags_fault flags)
