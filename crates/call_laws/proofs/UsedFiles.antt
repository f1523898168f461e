-- Files stay named along whole calls.
use Rattle.path_walk.specs.declared.call.Base.{Base}
use Rattle.path_walk.specs.declared.call.Base.TheVariants.{Fd}
use Rattle.path_walk.specs.declared.act.PathAt.{PathAt}
use Rattle.std.proofs.Common.{arith, ◌≡◌, ◌≢◌, ◌⊎◌, inl, inr, ℕ, ◌%◌, ◌<◌, zero, suc, true, List, [], ◌∷◌, Option, None, Some, is_some, Result, Ok, Err, slice_get, unwrap_or, refl, sym, ap, subst, ◌∙◌}
use Rattle.wf_core.specs.Limits.{group_count}
use Rattle.wf_core.specs.declared.errno.Errno.{Errno}
use Rattle.wf_core.specs.declared.errno.Errno.TheVariants.{Enoent, Eloop, Enotdir, Enametoolong}
use Rattle.name_store.specs.declared.operation.Node.{Node}
use Rattle.name_store.specs.declared.operation.Node.TheVariants.{Dir, Link, File as FileNode, Mount}
use Rattle.name_store.specs.declared.operation.NameOp.{NameOp}
use Rattle.name_store.specs.declared.operation.NameOp.TheVariants.{Addfile, Look}
use Rattle.name_store.specs.declared.operation.NameAnswer.{NameAnswer}
use Rattle.name_store.specs.declared.operation.NameAnswer.TheVariants as answer
use Rattle.name_store.specs.NameTrees.{Tree, Listing, look_answer, NamesOutcome, addfile_outcome, addfile_outcome_at, dir_at, entry_at, nstep, unless_gone}
use Rattle.name_store.specs.Sound.{IsSound, node_at}
use Rattle.name_store.proofs.Changes.{same_id}
use Rattle.name_store.proofs.EntryLemmas.{addfile_enters}
use Rattle.file_store.specs.declared.descriptor_operation.FdOp.{FdOp}
use Rattle.file_store.specs.declared.descriptor_operation.FdOp.TheVariants as fd
use Rattle.file_store.specs.declared.descriptor_operation.FdAnswer.TheVariants as fd_answer
use Rattle.file_store.specs.declared.file.File.{File}
use Rattle.file_store.specs.declared.file_operation.FileOp.{FileOp}
use Rattle.file_store.specs.declared.file_operation.FileOp.TheVariants as op
use Rattle.file_store.specs.FileGroups.{Group, empty_file, file_at, fstep, opening}
use Rattle.file_store.specs.Sound.{IsSound as IsSoundGroup}
use Rattle.file_store.proofs.Soundness.{opening_sound}
use Rattle.file_store.proofs.TableChanges.{added_other}
use Rattle.path_walk.specs.declared.descriptor_call.DataCall.{DataCall}
use Rattle.path_walk.specs.declared.descriptor_call.DataCall.TheVariants as on_file
use Rattle.path_walk.specs.declared.route.Spot.{Spot}
use Rattle.path_walk.specs.declared.route.Station.{Station}
use Rattle.path_walk.specs.declared.route.Route.{Route}
use Rattle.path_walk.specs.declared.route.End.{End}
use Rattle.path_walk.specs.declared.route.End.TheVariants.{Directory, File as FileEnd, LinkText}
use Rattle.path_walk.specs.declared.open_request.OpenFlags.{OpenFlags}
use Rattle.path_walk.specs.declared.open_request.OpenRequest.{OpenRequest}
use Rattle.path_walk.specs.declared.open_request.OpenRoute.{OpenRoute}
use Rattle.path_walk.specs.declared.step.CellId.TheVariants.{Names as NamesCell, Files as FilesCell, Descriptors as DescriptorsCell}
use Rattle.path_walk.specs.declared.step.StoreOp.TheVariants.{Names as NamesOp, Files as FilesOp, Descriptors as DescriptorsOp}
use Rattle.path_walk.specs.declared.step.StoreAnswer.TheVariants.{Names as NamesAnswer, Files as FilesAnswer, Descriptors as DescriptorsAnswer}
use Rattle.path_walk.specs.declared.step.StepAnswer.{StepAnswer}
use Rattle.path_walk.specs.declared.step.StepAnswer.TheVariants.{Answered, Cancelled, Closed}
use Rattle.path_walk.specs.declared.call.Call.{Call}
use Rattle.path_walk.specs.declared.call.Reply.{Reply}
use Rattle.path_walk.specs.declared.call.Reply.TheVariants as reply
use Rattle.path_walk.specs.Store.{Backend, Store, cstep, group_at, names_at, with_group, with_names}
use Rattle.path_walk.specs.PathMeaning.{resolve, root_of, spot_beside, start_of, station, start_in}
use Rattle.path_walk.specs.Walk.{node_in}
use Rattle.path_walk.specs.Plans.{Plan, replies, steps, walks, at_once, cell_of_id, fails, fault_in, unless_fault, from_base, op_of_base, spot_in, walks_in}
use Rattle.path_walk.specs.DescriptorCalls.{number_plan, op_of_data, releases, data_step_plan, enters}
use Rattle.path_walk.specs.OpenPlan.{absent_fault, added_plan, attached_by, attached_plan, description_in, directory_fault, drops, file_fault, fills, flags_fault, follows, found_plan, link_fault, looked_plan, looks, makes, meant_plan, mode_of, open_end, open_route, open_walks_max, opens_along, opens_by, opens_directory, opens_file, request_of, reserved_plan, route_to, unless_drops, unlinked_plan, unmakes, opens_in}
use Rattle.path_walk.specs.Calls.{last_step, plan_after, unlinked_by}
use Rattle.path_walk.specs.Posix.{posix}
use Rattle.path_walk.proofs.Plans.{Holds, any_end, each_call}
use Rattle.path_walk.proofs.Leads.{same_names}
use Rattle.call_laws.specs.RunLaws.{FilesAreUsed, IsSoundStore, opening_store, store_after}
use Rattle.call_laws.proofs.StoreLemmas.{backend_there, names_grouped, names_here, names_other, no_backend}
use Rattle.call_laws.proofs.GroupLemmas.{backend_of_file, group_set, groups_named}
use Rattle.call_laws.proofs.NamedFiles.{IsNamed, IsNoMake, WasLinked, named_after, told_unlinked, was_linked}
use Rattle.call_laws.proofs.SoundStores.{call_stays_sound, group_found, opening_is_sound, runs_are_sound, step_stays_sound}
use Rattle.call_laws.proofs.TakenLemmas.{asked_or, directory_of}
use Rattle.call_laws.proofs.TidyLemmas.{group_either}

-- each linked file is named, but for that one of that backend
record NamedBut (store : Store) (backend : ℕ) (lost : Option ℕ) : Type 0 where
  each : (b g q : ℕ) (file : File) → g < group_count → file_at (group_at store b g) q ≡ Some file → file.linked ≡ true → IsNamed (names_at store b) q ⊎ ((b ≡ backend) × (lost ≡ Some q))

abbrev AreNamed : Store → Type 0
AreNamed store = NamedBut store 0 None

all_named : (store : Store) (backend : ℕ) → NamedBut store backend None → AreNamed store
all_named store backend h = record {
  each = λ b g q file low at linked. elim (h.each b g q file low at linked) as (λ _. IsNamed (names_at store b) q ⊎ ((b ≡ 0) × (None ≡ Some q))) [
    | inl named ↦ inl named
    | inr (e, f) ↦ let impossible : None ≡ Some q = f in cc
  ];
}

group_is_sound : (store : Store) (b g : ℕ) → IsSoundStore store → g < group_count → IsSoundGroup (group_at store b g)
group_is_sound store b g sound low = by_backend (slice_get store.backends b) refl where
  by_backend : (found : Option Backend) → slice_get store.backends b ≡ found → IsSoundGroup (group_at store b g)
  by_backend (Some old) is = (group_found store b g old sound is low).1
  by_backend None is = subst IsSoundGroup (sym (ap (λ (o : Option Backend). unwrap_or (slice_get (unwrap_or o no_backend).groups g) (opening g)) is)) (opening_sound g)

-- A group changes.

group_keeps : (store : Store) (backend : ℕ) (lost : Option ℕ) (b g : ℕ) (new : Group) → (g < group_count → WasLinked (group_at store b g) new) → NamedBut store backend lost → NamedBut (with_group store b g new) backend lost
group_keeps store backend lost b g new was h = record {
  each = λ b' g' q file low at linked.
      subst (λ (t : Tree). IsNamed t q ⊎ ((b' ≡ backend) × (lost ≡ Some q))) (sym (names_grouped store b g new b'))
      (group_either store b g new b' g' (λ (gr : Group). file_at gr q ≡ Some file → IsNamed (names_at store b') q ⊎ ((b' ≡ backend) × (lost ≡ Some q)))
      (λ e f k. let (old, there, was_so) = (was (subst (λ (n : ℕ). n < group_count) f low)).was q file k linked in
      h.each b' g' q old low (ap (λ (n : ℕ). file_at (group_at store n g') q) e ∙ ap (λ (n : ℕ). file_at (group_at store b n) q) f ∙ there) was_so)
      (λ k. h.each b' g' q file low k linked) at);
}

files_keep : (store : Store) (backend : ℕ) (lost : Option ℕ) (b g : ℕ) (o : FileOp) → IsNoMake o → IsSoundStore store → NamedBut store backend lost → NamedBut (with_group store b g (fstep (group_at store b g) o).group) backend lost
files_keep store backend lost b g o none_made sound h = group_keeps store backend lost b g _ (λ low. was_linked (group_at store b g) (group_is_sound store b g sound low) o none_made) h

-- the lost file is told as unlinked
unlinks : (store : Store) (backend file : ℕ) → IsSoundStore store → NamedBut store backend (Some file) → AreNamed (with_group store backend (file % group_count) (fstep (group_at store backend (file % group_count)) (op.Unlinked file)).group)
unlinks store backend file sound h =
    let place : ℕ = file % group_count in
    let left : Group = (fstep (group_at store backend place) (op.Unlinked file)).group in
    let after : Store = with_group store backend place left in
    let kept = files_keep store backend (Some file) backend place (op.Unlinked file) tt sound h in
    record {
      each = λ b g q row low at linked. elim (kept.each b g q row low at linked) as (λ _. IsNamed (names_at after b) q ⊎ ((b ≡ 0) × (None ≡ Some q))) [
        | inl named ↦ inl named
        | inr (e, f) ↦ absurd (gone left b g q row low at linked e f)
      ];
    }
  where
    place : ℕ
    place = file % group_count

    low_place : place < group_count
    low_place = omega arith

    here : (b g q : ℕ) (row : File) → g < group_count → b ≡ backend → q ≡ file → file_at (group_at store b g) q ≡ Some row → g ≡ place
    here b g q row low e f at =
        let (old, there) = backend_of_file store b g q row at in
        let (group_is, group_sound, is_number) = group_found store b g old sound there low in
        let ids = group_sound.file_ids.given q (ap is_some at) in
        sym is_number ∙ sym ids.1 ∙ ap (λ (n : ℕ). n % group_count) f

    left_is : Group
    left_is = (fstep (group_at store backend place) (op.Unlinked file)).group

    gone : (left : Group) (b g q : ℕ) (row : File) → g < group_count → file_at (group_at (with_group store backend place left_is) b g) q ≡ Some row → row.linked ≡ true → b ≡ backend → Some file ≡ Some q → ⊥
    gone left b g q row low at linked e f =
        let same : q ≡ file = cc in
        let was = group_either store backend place left_is b g (λ (gr : Group). file_at gr q ≡ Some row → (w : File) × (file_at (group_at store b g) q ≡ Some w))
        (λ p r k. let (old, there, l) = (was_linked (group_at store backend place) (group_is_sound store backend place sound low_place) (op.Unlinked file) tt).was q row k linked in (old, ap (λ (n : ℕ). file_at (group_at store n g) q) p ∙ ap (λ (n : ℕ). file_at (group_at store backend n) q) r ∙ there))
        (λ k. (row, k)) at in
        let g_is : g ≡ place = here b g q was.0 low e same was.1 in
        let before : file_at (group_at store backend place) file ≡ Some was.0 = sym (ap (λ (n : ℕ). file_at (group_at store n place) file) e) ∙ sym (ap (λ (n : ℕ). file_at (group_at store b n) file) g_is) ∙ sym (ap (file_at (group_at store b g)) same) ∙ was.1 in
        let (old, there) = backend_of_file store backend place file was.0 before in
        let (group_is, group_sound, is_number) = group_found store backend place old sound there low_place in
        let set = group_set store backend place left_is (group_at store backend place) group_is in
        let after : Store = with_group store backend place left_is in
        told_unlinked (group_at store backend place) (group_is_sound store backend place sound low_place) file row (ap (λ (gr : Group). file_at gr file) (sym set) ∙ sym (ap (λ (n : ℕ). file_at (group_at after n place) file) e) ∙ sym (ap (λ (n : ℕ). file_at (group_at after b n) file) g_is) ∙ sym (ap (file_at (group_at after b g)) same) ∙ at) linked

-- Names change.

tree_sound : (store : Store) (b id : ℕ) (directory : Listing) → IsSoundStore store → dir_at (names_at store b) id ≡ Some directory → IsSound (names_at store b)
tree_sound store b id directory sound there =
    let (old, found) = backend_there (slice_get store.backends b) id directory there in
    subst (λ (x : Backend). IsSound x.names) (sym (ap (λ (o : Option Backend). unwrap_or o no_backend) found)) (sound b old found).names

-- by one operation on a tree: what has lost its entry is told
names_keep : (store : Store) (backend : ℕ) (lost : Option ℕ) (o : NameOp) → ((q : ℕ) → unlinked_by (Answered (NamesAnswer (nstep (names_at store backend) o).answer)) ≡ Some q → lost ≡ Some q) → IsSoundStore store → NamedBut store backend lost → NamedBut (with_names store backend (nstep (names_at store backend) o).tree) backend lost
names_keep store backend lost o told sound h = record {
  each = λ b g q row low at linked. elim (h.each b g q row low (ap (λ (gr : Group). file_at gr q) (sym (groups_named store backend (nstep (names_at store backend) o).tree b g)) ∙ at) linked) as (λ _. IsNamed (names_at after b) q ⊎ ((b ≡ backend) × (lost ≡ Some q))) [
    | inl named ↦ by_backend b q named (same_id b backend)
    | inr gone ↦ inr gone
  ];
}
  where
    tree : Tree
    tree = names_at store backend

    after : Store
    after = with_names store backend (nstep (names_at store backend) o).tree

    by_backend : (b q : ℕ) → IsNamed (names_at store b) q → (b ≡ backend) ⊎ (b ≢ backend) → IsNamed (names_at after b) q ⊎ ((b ≡ backend) × (lost ≡ Some q))
    by_backend b q named (inr ne) = inl (subst (λ (t : Tree). IsNamed t q) (sym (names_other store backend b (nstep tree o).tree ne)) named)
    by_backend b q (id, name, is) (inl e) =
        let stands : node_at tree id name ≡ Some (FileNode q) = ap (λ (n : ℕ). node_at (names_at store n) id name) (sym e) ∙ is in
        let (directory, there) = directory_of (dir_at tree id) name (FileNode q) stands in
        let at : names_at after b ≡ (nstep tree o).tree = ap (names_at after) e ∙ names_here store backend (nstep tree o).tree id directory there in
        elim (named_after tree o q (tree_sound store backend id directory sound there) (id, name, stands)) as (λ _. IsNamed (names_at after b) q ⊎ ((b ≡ backend) × (lost ≡ Some q))) [
          | inl new ↦ inl (subst (λ (t : Tree). IsNamed t q) (sym at) new)
          | inr gone ↦ inr (e, told q gone)
        ]

-- Plans.

record KeepsNamed (p : Plan) : Type 0 where
  keeps : (store : Store) → IsSoundStore store → AreNamed store → AreNamed (at_once store p).store

reply_keeps : (given : Reply) → KeepsNamed (replies given)
reply_keeps given = record { keeps = λ store sound named. named }

numbers_keep : (o : FdOp) (next : StepAnswer → Plan) → ((told : StepAnswer) → KeepsNamed (next told)) → KeepsNamed (steps DescriptorsCell (DescriptorsOp o) next)
numbers_keep o next each_told = record { keeps = λ store sound named. let stepped = cstep store DescriptorsCell (DescriptorsOp o) in (each_told (Answered stepped.answer)).keeps stepped.store sound (record { each = named.each }) }

files_step_keeps : (b id : ℕ) (o : FileOp) (next : StepAnswer → Plan) → IsNoMake o → ((told : StepAnswer) → KeepsNamed (next told)) → KeepsNamed (steps (cell_of_id b id) (FilesOp o) next)
files_step_keeps b id o next none_made each_told = record { keeps = λ store sound named. let stepped = cstep store (cell_of_id b id) (FilesOp o) in (each_told (Answered stepped.answer)).keeps stepped.store (step_stays_sound store (cell_of_id b id) (FilesOp o) sound) (files_keep store 0 None b (id % group_count) o none_made sound named) }

look_keeps : (b directory : ℕ) (name : List ℕ) (next : StepAnswer → Plan) → ((told : StepAnswer) → KeepsNamed (next told)) → KeepsNamed (steps (NamesCell b) (NamesOp (Look directory name)) next)
look_keeps b directory name next each_told = record {
  keeps = λ store sound named. let stepped = cstep store (NamesCell b) (NamesOp (Look directory name)) in
      let same : stepped.store ≡ store = ap (with_names store b) (asked_or (names_at store b) (dir_at (names_at store b) directory) (λ d. look_answer d name)) ∙ same_names store b in
      (each_told (Answered stepped.answer)).keeps stepped.store (step_stays_sound store (NamesCell b) (NamesOp (Look directory name)) sound) (subst AreNamed (sym same) named);
}

walks_keep : (from : Station) (route : Route) (next : Result End Errno → Plan) → ((end : Result End Errno) → KeepsNamed (next end)) → KeepsNamed (walks from route next)
walks_keep from route next each_end = record { keeps = λ store sound named. (each_end (resolve store from.names route.parts route.manner route.slash from.links from.spot)).keeps store sound named }

-- Names.

after_keeps : (store : Store) (backend : ℕ) (told : StepAnswer) (lost : Option ℕ) → IsSoundStore store → NamedBut store backend lost → AreNamed (at_once store (plan_after backend told lost)).store
after_keeps store backend told None sound h = all_named store backend h
after_keeps store backend told (Some file) sound h = unlinks store backend file sound h

weaken : (store : Store) (backend : ℕ) (lost : Option ℕ) → AreNamed store → NamedBut store backend lost
weaken store backend lost h = record {
  each = λ b g q row low at linked. elim (h.each b g q row low at linked) as (λ _. IsNamed (names_at store b) q ⊎ ((b ≡ backend) × (lost ≡ Some q))) [
    | inl named ↦ inl named
    | inr (e, f) ↦ let impossible : None ≡ Some q = f in cc
  ];
}

last_keeps : (backend : ℕ) (o : NameOp) → KeepsNamed (last_step backend o)
last_keeps backend o = record {
  keeps = λ store sound named.
      let outcome = nstep (names_at store backend) o in
      let told : StepAnswer = Answered (NamesAnswer outcome.answer) in
      after_keeps (with_names store backend outcome.tree) backend told (unlinked_by told) (step_stays_sound store (NamesCell backend) (NamesOp o) sound) (names_keep store backend (unlinked_by told) o (λ q e. e) sound (weaken store backend (unlinked_by told) named));
}

-- Numbers.

releases_keep : (b d : ℕ) (given : Reply) → KeepsNamed (releases b d given)
releases_keep b d given = files_step_keeps b d (op.Release d) _ tt (λ told. reply_keeps _)

number_keeps : (told : StepAnswer) → KeepsNamed (number_plan told)
number_keeps (Answered (NamesAnswer given)) = reply_keeps _
number_keeps (Answered (FilesAnswer given)) = reply_keeps _
number_keeps (Answered (DescriptorsAnswer (fd_answer.Fd given))) = reply_keeps _
number_keeps (Answered (DescriptorsAnswer (fd_answer.File home named))) = reply_keeps _
number_keeps (Answered (DescriptorsAnswer (fd_answer.Dir home named))) = reply_keeps _
number_keeps (Answered (DescriptorsAnswer fd_answer.Done)) = reply_keeps _
number_keeps (Answered (DescriptorsAnswer (fd_answer.Last home named))) = releases_keep home named _
number_keeps (Answered (DescriptorsAnswer (fd_answer.FdLast given home named))) = releases_keep home named _
number_keeps (Answered (DescriptorsAnswer (fd_answer.Fault error))) = reply_keeps _
number_keeps Cancelled = reply_keeps _
number_keeps Closed = reply_keeps _

no_make : (purpose : DataCall) (d : ℕ) → IsNoMake (op_of_data purpose d)
no_make (on_file.Read count) d = tt
no_make (on_file.Pread count offset) d = tt
no_make (on_file.Write bytes) d = tt
no_make (on_file.Pwrite bytes offset) d = tt
no_make (on_file.Seek offset whence) d = tt
no_make (on_file.Ftruncate size) d = tt
no_make on_file.Fstat d = tt

use_keeps : (purpose : DataCall) (told : StepAnswer) → KeepsNamed (data_step_plan purpose told)
use_keeps purpose (Answered (NamesAnswer given)) = reply_keeps _
use_keeps purpose (Answered (FilesAnswer given)) = reply_keeps _
use_keeps purpose (Answered (DescriptorsAnswer (fd_answer.Fd given))) = reply_keeps _
use_keeps purpose (Answered (DescriptorsAnswer (fd_answer.File home named))) = files_step_keeps home named (op_of_data purpose named) _ (no_make purpose named) (λ told. reply_keeps _)
use_keeps purpose (Answered (DescriptorsAnswer (fd_answer.Dir home named))) = reply_keeps _
use_keeps purpose (Answered (DescriptorsAnswer fd_answer.Done)) = reply_keeps _
use_keeps purpose (Answered (DescriptorsAnswer (fd_answer.Last home named))) = reply_keeps _
use_keeps purpose (Answered (DescriptorsAnswer (fd_answer.FdLast given home named))) = reply_keeps _
use_keeps purpose (Answered (DescriptorsAnswer (fd_answer.Fault error))) = reply_keeps _
use_keeps purpose Cancelled = reply_keeps _
use_keeps purpose Closed = reply_keeps _

-- `open`.

drops_keep : (number : ℕ) (error : Errno) → KeepsNamed (drops number error)
drops_keep number error = numbers_keep (fd.Drop number) (λ told. fails error) (λ told. reply_keeps _)

unless_keep : (number : ℕ) (fault : Option Errno) (p : Plan) → KeepsNamed p → KeepsNamed (unless_drops number fault p)
unless_keep number (Some error) p h = drops_keep number error
unless_keep number None p h = h

fills_keep : (number : ℕ) (o : FdOp) → KeepsNamed (fills number o)
fills_keep number o = numbers_keep o (λ told. unless_drops number (fault_in told) (replies (reply.Fd number))) (λ told. unless_keep number (fault_in told) (replies (reply.Fd number)) (reply_keeps _))

attached_keeps : (number backend : ℕ) (told : StepAnswer) (found : Option ℕ) → KeepsNamed (attached_by number backend told found)
attached_keeps number backend told None = drops_keep number _
attached_keeps number backend told (Some d) = fills_keep number _

directory_keeps : (request : OpenRequest) (there : Spot) → KeepsNamed (opens_directory request there)
directory_keeps request there = unless_keep request.number (directory_fault request.flags) (fills request.number (fd.FillDir request.number there.backend there.directory)) (fills_keep request.number _)

file_keeps : (request : OpenRequest) (backend file : ℕ) → KeepsNamed (opens_file request backend file)
file_keeps request backend file = unless_keep request.number (file_fault request.flags request.slash) _ (files_step_keeps backend file (op.Attach file (mode_of request.flags) request.flags.trunc) (attached_plan request.number backend) tt (λ told. attached_keeps request.number backend told (description_in told)))

module _ (follow : OpenRequest → Station → OpenRoute → Plan) (on : (request : OpenRequest) (from : Station) (route : OpenRoute) → KeepsNamed (follow request from route)) where
  follows_keep : (links : ℕ) (request : OpenRequest) (names : ℕ) (here : Spot) (text : List ℕ) → KeepsNamed (follows follow links request names here text)
  follows_keep zero request names here text = drops_keep request.number Eloop
  follows_keep (suc links) request names here text = on _ (station names links (start_of text here)) (route_to text)

  found_keeps : (request : OpenRequest) (here : Station) (node : Node) → KeepsNamed (found_plan follow request here node)
  found_keeps request here (Dir id) = directory_keeps request (spot_beside here.spot id)
  found_keeps request here (Mount backend) = directory_keeps request (root_of backend)
  found_keeps request here (FileNode file) = file_keeps request here.spot.backend file
  found_keeps request here (Link id text) = unless_keep request.number (link_fault request.flags request.slash) _ (follows_keep here.links request here.names here.spot text)

  meant_keeps : (request : OpenRequest) (here : Station) (found : Result Node Errno) → KeepsNamed (meant_plan follow request here found)
  meant_keeps request here (Ok node) = found_keeps request here node
  meant_keeps request here (Err error) = drops_keep request.number error

  unlinked_keeps : (request : OpenRequest) (here : Station) (description : ℕ) (found : Result Node Errno) (told : StepAnswer) → KeepsNamed (unlinked_plan follow request here description found told)
  unlinked_keeps request here description found told = unless_keep request.number (fault_in told) _ (files_step_keeps here.spot.backend description (op.Release description) _ tt (λ freed. unless_keep request.number (fault_in freed) _ (meant_keeps request here found)))

  module _ (request : OpenRequest) (here : Station) (name : List ℕ) (store : Store) (sound : IsSoundStore store) (named : AreNamed store) where
    abbrev backend : ℕ
    backend = here.spot.backend

    abbrev place : ℕ
    place = request.number % group_count

    abbrev group : Group
    group = group_at store backend place

    abbrev file : ℕ
    file = group.files.next

    abbrev made : Store
    made = with_group store backend place (fstep group (op.Make (mode_of request.flags))).group

    abbrev adding : NameOp
    adding = Addfile here.spot.directory name file

    abbrev outcome : NamesOutcome
    outcome = nstep (names_at made backend) adding

    abbrev added : Store
    added = with_names made backend outcome.tree

    made_sound : IsSoundStore made
    made_sound = step_stays_sound store (FilesCell backend place) (FilesOp (op.Make (mode_of request.flags))) sound

    added_sound : IsSoundStore added
    added_sound = step_stays_sound made (NamesCell backend) (NamesOp adding) made_sound

    old_named : (b g q : ℕ) (row : File) → g < group_count → file_at (group_at store b g) q ≡ Some row → row.linked ≡ true → IsNamed (names_at store b) q ⊎ ((b ≡ backend) × (Some file ≡ Some q))
    old_named b g q row low at linked = elim (named.each b g q row low at linked) as (λ _. IsNamed (names_at store b) q ⊎ ((b ≡ backend) × (Some file ≡ Some q))) [
      | inl is ↦ inl is
      | inr (e, f) ↦ let impossible : None ≡ Some q = f in cc
    ]

    new_named : (b g q : ℕ) (row : File) → g < group_count → b ≡ backend → g ≡ place → file_at (fstep group (op.Make (mode_of request.flags))).group q ≡ Some row → row.linked ≡ true → IsNamed (names_at store b) q ⊎ ((b ≡ backend) × (Some file ≡ Some q))
    new_named b g q row low e f at linked = elim (same_id q file) as (λ _. IsNamed (names_at store b) q ⊎ ((b ≡ backend) × (Some file ≡ Some q))) [
      | inl is ↦ inr (e, ap (λ (n : ℕ). Some n) (sym is))
      | inr ne ↦ old_named b g q row low (ap (λ (n : ℕ). file_at (group_at store n g) q) e ∙ ap (λ (n : ℕ). file_at (group_at store backend n) q) f ∙ sym (added_other group.files q empty_file ne) ∙ at) linked
    ]

    made_but : NamedBut made backend (Some file)
    made_but = record {
      each = λ b g q row low at linked.
          subst (λ (t : Tree). IsNamed t q ⊎ ((b ≡ backend) × (Some file ≡ Some q))) (sym (names_grouped store backend place (fstep group (op.Make (mode_of request.flags))).group b))
          (group_either store backend place (fstep group (op.Make (mode_of request.flags))).group b g (λ (gr : Group). file_at gr q ≡ Some row → IsNamed (names_at store b) q ⊎ ((b ≡ backend) × (Some file ≡ Some q))) (λ e f k. new_named b g q row low e f k linked) (λ k. old_named b g q row low k linked) at);
    }

    abbrev AddsAs : NameAnswer → Type 0
    AddsAs a = (a ≡ answer.Done) ⊎ ((a ≡ answer.Gone) ⊎ ((node : Node) × (a ≡ answer.Taken node)))

    entry_adds : (tree : Tree) (entry : Option Node) → AddsAs (addfile_outcome_at tree here.spot.directory name file entry).answer
    entry_adds tree None = inl refl
    entry_adds tree (Some node) = inr (inr (node, refl))

    adds : (tree : Tree) (found : Option Listing) → AddsAs (unless_gone tree found (addfile_outcome tree here.spot.directory name file)).answer
    adds tree None = inr (inl refl)
    adds tree (Some directory) = entry_adds tree (entry_at directory name)

    none_lost : (a : NameAnswer) → AddsAs a → (q : ℕ) → unlinked_by (Answered (NamesAnswer a)) ≡ Some q → Some file ≡ Some q
    none_lost a (inl e) q f = let clash : None ≡ Some q = sym (ap (λ (x : NameAnswer). unlinked_by (Answered (NamesAnswer x))) e) ∙ f in cc
    none_lost a (inr (inl e)) q f = let clash : None ≡ Some q = sym (ap (λ (x : NameAnswer). unlinked_by (Answered (NamesAnswer x))) e) ∙ f in cc
    none_lost a (inr (inr (node, e))) q f = let clash : None ≡ Some q = sym (ap (λ (x : NameAnswer). unlinked_by (Answered (NamesAnswer x))) e) ∙ f in cc

    added_but : NamedBut added backend (Some file)
    added_but = names_keep made backend (Some file) adding (none_lost outcome.answer (adds (names_at made backend) (dir_at (names_at made backend) here.spot.directory))) made_sound made_but

    -- the file has its entry
    directory_there : (tree : Tree) (found : Option Listing) → (unless_gone tree found (addfile_outcome tree here.spot.directory name file)).answer ≡ answer.Done → (directory : Listing) × (found ≡ Some directory)
    directory_there tree None h = cc
    directory_there tree (Some directory) h = (directory, refl)

    entered : outcome.answer ≡ answer.Done → IsNamed (names_at added backend) file
    entered done =
        let (directory, there) = directory_there (names_at made backend) (dir_at (names_at made backend) here.spot.directory) done in
        let at : names_at added backend ≡ outcome.tree = names_here made backend outcome.tree here.spot.directory directory there in
        (here.spot.directory, name, ap (λ (t : Tree). node_at t here.spot.directory name) at ∙ (addfile_enters (names_at made backend) here.spot.directory name file (tree_sound made backend here.spot.directory directory made_sound there) done).entry.stands)

    all_entered : outcome.answer ≡ answer.Done → AreNamed added
    all_entered done = all_named added backend (record {
      each = λ b g q row low at linked. elim (added_but.each b g q row low at linked) as (λ _. IsNamed (names_at added b) q ⊎ ((b ≡ backend) × (None ≡ Some q))) [
        | inl is ↦ inl is
        | inr (e, f) ↦ inl (is_file b q e f (entered done))
      ];
    })
      where
        is_file : (b q : ℕ) → b ≡ backend → Some file ≡ Some q → IsNamed (names_at added backend) file → IsNamed (names_at added b) q
        is_file b q e f is = let same : file ≡ q = cc in subst (λ (n : ℕ). IsNamed (names_at added b) n) same (subst (λ (n : ℕ). IsNamed (names_at added n) file) (sym e) is)

    abbrev told_of : NameAnswer → Plan
    told_of a = added_plan follow request here file group.descriptions.next (Answered (NamesAnswer a))

    unmade : (found : Result Node Errno) → AreNamed (at_once added (unmakes follow request here file group.descriptions.next found)).store
    unmade found =
        let stepped = cstep added (cell_of_id backend file) (FilesOp (op.Unlinked file)) in
        (unlinked_keeps request here group.descriptions.next found (Answered stepped.answer)).keeps stepped.store (step_stays_sound added (cell_of_id backend file) (FilesOp (op.Unlinked file)) added_sound) (unlinks added backend file added_sound added_but)

    added_keeps : AddsAs outcome.answer → AreNamed (at_once added (told_of outcome.answer)).store
    added_keeps (inl e) = subst (λ (a : NameAnswer). AreNamed (at_once added (told_of a)).store) (sym e) ((fills_keep request.number (fd.FillFile request.number backend group.descriptions.next)).keeps added added_sound (all_entered e))
    added_keeps (inr (inl e)) = subst (λ (a : NameAnswer). AreNamed (at_once added (told_of a)).store) (sym e) (unmade (Err Enoent))
    added_keeps (inr (inr (node, e))) = subst (λ (a : NameAnswer). AreNamed (at_once added (told_of a)).store) (sym e) (unmade (Ok node))

    made_keeps : AreNamed (at_once store (makes follow request here name)).store
    made_keeps = added_keeps (adds (names_at made backend) (dir_at (names_at made backend) here.spot.directory))

  looked_keeps : (request : OpenRequest) (here : Station) (name : List ℕ) (found : Result (Option Node) Errno) → KeepsNamed (looked_plan follow request here name found)
  looked_keeps request here name (Err error) = drops_keep request.number error
  looked_keeps request here name (Ok None) = unless_keep request.number (absent_fault request.flags request.slash) (makes follow request here name) (record { keeps = λ store sound named. made_keeps request here name store sound named })
  looked_keeps request here name (Ok (Some node)) = found_keeps request here node

  looks_keep : (request : OpenRequest) (names links : ℕ) (here : Spot) (name : List ℕ) → KeepsNamed (looks follow request names links here name)
  looks_keep request zero links here name = drops_keep request.number Enametoolong
  looks_keep request (suc names) links here name = look_keeps here.backend here.directory name (λ told. looked_plan follow request (station names links here) name (node_in told)) (λ told. looked_keeps request (station names links here) name (node_in told))

  end_keeps : (request : OpenRequest) (name : Option (List ℕ)) (end : Result End Errno) → KeepsNamed (open_end follow request name end)
  end_keeps request name (Err error) = drops_keep request.number error
  end_keeps request None (Ok (Directory there)) = directory_keeps request there.spot
  end_keeps request (Some name) (Ok (Directory there)) = looks_keep request there.names there.links there.spot name
  end_keeps request name (Ok (FileEnd from at)) = drops_keep request.number Enotdir
  end_keeps request name (Ok (LinkText text)) = drops_keep request.number Enotdir

along_keeps : (walks_left : ℕ) (request : OpenRequest) (from : Station) (route : OpenRoute) → KeepsNamed (opens_along walks_left request from route)
unfolding opens_along
along_keeps zero request from route = drops_keep request.number Eloop
along_keeps (suc walks_left) request from route = walks_keep from route.route (open_end (opens_along walks_left) request route.name) (λ end. end_keeps (opens_along walks_left) (along_keeps walks_left) request route.name end)

from_keeps : (origin : Option Base) (next : Result Spot Errno → Plan) → ((start : Result Spot Errno) → KeepsNamed (next start)) → KeepsNamed (from_base origin next)
from_keeps None next each = each (Ok (root_of 0))
from_keeps (Some base) next each = numbers_keep (op_of_base base) _ (λ told. each (spot_in told))

walks_in_keep : (route : Route) (next : Result End Errno → Plan) → ((end : Result End Errno) → KeepsNamed (next end)) → (start : Result Spot Errno) → KeepsNamed (walks_in route next start)
walks_in_keep route next each (Ok spot) = walks_keep (start_in spot) route next each
walks_in_keep route next each (Err error) = each (Err error)

enters_keep : (start : Result Spot Errno) → KeepsNamed (enters start)
enters_keep (Ok there) = numbers_keep (fd.Setcwd there.backend there.directory) _ (λ told. reply_keeps _)
enters_keep (Err error) = reply_keeps _

in_keeps : (request : OpenRequest) (route : OpenRoute) (start : Result Spot Errno) → KeepsNamed (opens_in request route start)
in_keeps request route (Ok spot) = along_keeps open_walks_max request (start_in spot) route
in_keeps request route (Err error) = drops_keep request.number error

by_keeps : (number : ℕ) (flags : OpenFlags) (origin : Option Base) (route : Result OpenRoute Errno) → KeepsNamed (opens_by number flags origin route)
by_keeps number flags origin (Err error) = drops_keep number error
by_keeps number flags origin (Ok route) = from_keeps origin (opens_in (request_of number flags route.route.slash) route) (in_keeps (request_of number flags route.route.slash) route)

reserved_keeps : (flags : OpenFlags) (origin : Option Base) (route : Result OpenRoute Errno) (told : StepAnswer) → KeepsNamed (reserved_plan flags origin route told)
reserved_keeps flags origin route (Answered (NamesAnswer given)) = reply_keeps _
reserved_keeps flags origin route (Answered (FilesAnswer given)) = reply_keeps _
reserved_keeps flags origin route (Answered (DescriptorsAnswer (fd_answer.Fd given))) = by_keeps given flags origin route
reserved_keeps flags origin route (Answered (DescriptorsAnswer (fd_answer.File home named))) = reply_keeps _
reserved_keeps flags origin route (Answered (DescriptorsAnswer (fd_answer.Dir home named))) = reply_keeps _
reserved_keeps flags origin route (Answered (DescriptorsAnswer fd_answer.Done)) = reply_keeps _
reserved_keeps flags origin route (Answered (DescriptorsAnswer (fd_answer.Last home named))) = reply_keeps _
reserved_keeps flags origin route (Answered (DescriptorsAnswer (fd_answer.FdLast given home named))) = reply_keeps _
reserved_keeps flags origin route (Answered (DescriptorsAnswer (fd_answer.Fault error))) = reply_keeps _
reserved_keeps flags origin route Cancelled = reply_keeps _
reserved_keeps flags origin route Closed = reply_keeps _

opens_keep : (at : PathAt) (flags : OpenFlags) (fault : Option Errno) → KeepsNamed (unless_fault fault (steps DescriptorsCell (DescriptorsOp fd.Reserve) (reserved_plan flags at.base (open_route at.path))))
opens_keep at flags (Some error) = reply_keeps _
opens_keep at flags None = numbers_keep fd.Reserve (reserved_plan flags at.base (open_route at.path)) (λ told. reserved_keeps flags at.base (open_route at.path) told)

-- Calls.

abbrev IsKept : ℕ → Plan → Type 0
IsKept count p = KeepsNamed p

kept_holds : Holds IsKept (λ backend. Unit {0})
kept_holds = record {
  over = λ count given. reply_keeps given;
  size = λ count backend file so. files_step_keeps backend file (op.Sizeof file) _ tt (λ told. reply_keeps _);
  last = λ count backend o so. last_keeps backend o;
  uses_files = λ number purpose. numbers_keep (fd.Look number) (data_step_plan purpose) (λ told. use_keeps purpose told);
  takes_numbers = λ number. numbers_keep (fd.Take number) number_plan (λ told. number_keeps told);
  copies_numbers = λ number. numbers_keep (fd.Copy number) number_plan (λ told. number_keeps told);
  copies_onto = λ number target. numbers_keep (fd.Copyto number target) number_plan (λ told. number_keeps told);
  opens_paths = λ at flags. opens_keep at flags (flags_fault flags);
  along = λ count origin route next each_end. from_keeps origin (walks_in route next) (walks_in_keep route next (λ end. each_end end (any_end end)));
  sets = λ count there so. enters_keep (Ok there);
  enters_numbers = λ number. from_keeps (Some (Fd number)) enters enters_keep;
}

named_from : (version : ℕ) (calls : List Call) (store : Store) → IsSoundStore store → AreNamed store → AreNamed (store_after version store calls)
named_from version [] store sound named = named
named_from version (c ∷ calls) store sound named = named_from version calls (posix version store c).store (call_stays_sound version store c sound) ((each_call IsKept (λ backend. Unit {0}) kept_holds version c).keeps store sound named)

-- at first there is no file
no_file : (mounts : List (List (List ℕ × ℕ))) (b g q : ℕ) (row : File) → g < group_count → file_at (group_at (opening_store mounts) b g) q ≡ Some row → ⊥
no_file [] b g q row low at = cc
no_file (one ∷ mounts) zero zero q row low at = cc
no_file (one ∷ mounts) zero (suc zero) q row low at = cc
no_file (one ∷ mounts) zero (suc (suc zero)) q row low at = cc
no_file (one ∷ mounts) zero (suc (suc (suc zero))) q row low at = cc
no_file (one ∷ mounts) zero (suc (suc (suc (suc g)))) q row low at = absurd (omega (arith, low))
no_file (one ∷ mounts) (suc b) g q row low at = no_file mounts b g q row low at

pub files_are_used : FilesAreUsed
files_are_used version mounts calls backend group id file low at =
    let store : Store = store_after version (opening_store mounts) calls in
    let sound : IsSoundStore store = runs_are_sound version mounts calls in
    let named : AreNamed store = named_from version calls (opening_store mounts) (opening_is_sound mounts) (record { each = λ b g q row low at linked. absurd (no_file mounts b g q row low at) }) in
    record {
      named = λ linked. elim (named.each backend group id file low at linked) as (λ _. IsNamed (names_at store backend) id) [
        | inl is ↦ is
        | inr (e, f) ↦ let impossible : None ≡ Some id = f in cc
      ];
      opened = λ unlinked. (group_is_sound store backend group sound low).is_used id file at unlinked;
    }
