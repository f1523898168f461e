-- What is there after an `open`.
use Rattle.std.proofs.Common.{◌≡◌, ℕ, ◌%◌, ◌&&◌, not, Bool, true, false, if◌then◌else◌, List, Option, None, Some, slice_get, unwrap_or, refl, sym, ap, subst, ◌∙◌}
use Rattle.wf_core.specs.Limits.{group_count, symloop_max}
use Rattle.wf_core.specs.declared.errno.Errno.{Errno}
use Rattle.wf_core.specs.declared.errno.Errno.TheVariants.{Enoent}
use Rattle.name_store.specs.declared.operation.Node.TheVariants.{Dir, File as FileNode, Mount}
use Rattle.name_store.specs.NameTrees.{Tree, NamesOutcome, dir_at, with_entry_at}
use Rattle.name_store.specs.Sound.{IsSound}
use Rattle.name_store.specs.EntryLaws.{LeafMade}
use Rattle.name_store.proofs.EntryLemmas.{addfile_enters}
use Rattle.file_store.specs.declared.descriptor_operation.Slot.{Slot}
use Rattle.file_store.specs.declared.descriptor_operation.Slot.TheVariants as slot
use Rattle.file_store.specs.DescriptorMap.{with_slot, slot_at}
use Rattle.file_store.specs.declared.file.File.{File}
use Rattle.file_store.specs.declared.file_operation.FileOp.TheVariants.{Make}
use Rattle.file_store.specs.FileGroups.{Group, FilesOutcome, description_at, empty_file, file_at, fstep}
use Rattle.file_store.specs.WriteLaws.{Resizes}
use Rattle.file_store.proofs.TableChanges.{added_here, added_other, next_is_none}
use Rattle.file_store.proofs.WriteLawLemmas.{cuts_keep_the_rest as group_cuts}
use Rattle.path_walk.specs.declared.route.Spot.{Spot}
use Rattle.path_walk.specs.declared.open_request.OpenFlags.{OpenFlags}
use Rattle.path_walk.specs.declared.call.Call.TheVariants.{Open}
use Rattle.path_walk.specs.declared.call.Reply.TheVariants as reply
use Rattle.path_walk.specs.Store.{Store, group_at, names_at, with_names}
use Rattle.path_walk.specs.Paths.{slash_of}
use Rattle.path_walk.specs.PathMeaning.{root_of, spot_beside, station}
use Rattle.path_walk.specs.Programs.{CallOutcome, replied}
use Rattle.path_walk.specs.Plans.{at_once}
use Rattle.path_walk.specs.OpenPlan.{absent_fault, directory_fault, file_fault, makes, mode_of, opens_along, request_of, unless_drops}
use Rattle.path_walk.specs.Posix.{posix}
use Rattle.call_laws.specs.OpenLaws.{FileMade, FileOpened, HasGroup, OpensDirectory, OpensFile, OpensFind, OpensMakeFiles, OpensNew, ReachesEntry, description_of, with_opened}
use Rattle.call_laws.proofs.StoreLemmas.{names_grouped, names_here}
use Rattle.call_laws.proofs.GroupLemmas.{group_set, groups_named}
use Rattle.call_laws.proofs.OpenErrors.{held, lowest_is_free, set_here}
use Rattle.call_laws.proofs.OpenLemmas.{added_is, at_entry, attach_is, attached, directory_opened, file_made, file_opened}

-- the number names what it was filled with
number_names : (store : Store) (number : ℕ) (new : Slot) → slice_get store.descriptors.slots number ≡ Some slot.Free → slot_at (with_slot store.descriptors number new) number ≡ new
number_names store number new free = ap (λ (found : Option Slot). unwrap_or found slot.Free) (set_here store.descriptors.slots number slot.Free new free)

module _ (version : ℕ) (store : Store) (path : List ℕ) (flags : OpenFlags) (number : ℕ) (here : Spot) (name : List ℕ) where
  module _ (file : ℕ) (was : File) (reached : ReachesEntry version store path flags number here name (Some (FileNode file))) (fault : file_fault flags (slash_of path) ≡ None) (has : HasGroup store here.backend (file % group_count)) (there : file_at (group_at store here.backend (file % group_count)) file ≡ Some was) (linked : was.linked ≡ true) where
    abbrev backend : ℕ
    backend = here.backend

    abbrev place : ℕ
    place = file % group_count

    abbrev group : Group
    group = group_at store backend place

    abbrev after : Bool → Group
    after = attached group file (mode_of flags) was there linked

    abbrev left : Store
    left = with_opened store backend place (after flags.trunc) number group.descriptions.next

    free : slice_get store.descriptors.slots number ≡ Some slot.Free
    free = lowest_is_free store.descriptors number reached.lowest

    opens_it : posix version store (Open path flags) ≡ replied left (reply.Fd number)
    opens_it =
        at_entry version store path flags number here name (Some (FileNode file)) reached
        ∙ file_opened store flags number (slash_of path) backend file was free fault there linked

    group_is : group_at left backend place ≡ after flags.trunc
    group_is = group_set store backend place (after flags.trunc) group has.there

    emptied : flags.trunc ≡ true → (now : File) × Resizes group (group_at left backend place) file was now 0
    emptied is =
        let same = attach_is group file (mode_of flags) was there linked true in
        let (now, r) = group_cuts.truncation group file (mode_of flags) group.descriptions.next was there (ap (λ (o : FilesOutcome). o.answer) same) in
        (now, subst (λ (g : Group). Resizes group g file was now 0) (ap (λ (o : FilesOutcome). o.group) same ∙ ap after (sym is) ∙ sym group_is) r)

    is_opened : FileOpened store left backend number flags file place was
    is_opened = record {
      opened = record {
        id = group.descriptions.next;
        named = number_names store number (slot.File backend group.descriptions.next) free;
        of_group = has.sound.description_ids.next ∙ has.is;
        there = ap (λ (g : Group). description_at g group.descriptions.next) group_is ∙ added_here group.descriptions (description_of file flags);
      };
      emptied = emptied;
      kept = λ is. ap (λ (g : Group). g.files) group_is ∙ ap (λ (t : Bool). (after t).files) is;
      descriptions = λ other apart. ap (λ (g : Group). description_at g other) group_is ∙ added_other group.descriptions other (description_of file flags) apart;
      elsewhere = ap (λ (g : Group). with_opened store backend place g number group.descriptions.next) (sym group_is);
    }

    opens_file_there : OpensFile version store path flags number backend file was
    opens_file_there = record {
      reply = ap (λ (o : CallOutcome). o.reply) opens_it;
      opened = subst (λ (s : Store). FileOpened store s backend number flags file place was) (sym (ap (λ (o : CallOutcome). o.store) opens_it)) is_opened;
    }

  opens_directory_there : (id : ℕ) → ReachesEntry version store path flags number here name (Some (Dir id)) → directory_fault flags ≡ None → OpensDirectory version store path flags number here.backend id
  opens_directory_there id reached fault =
      at_entry version store path flags number here name (Some (Dir id)) reached
      ∙ directory_opened store number (lowest_is_free store.descriptors number reached.lowest) (request_of number flags (slash_of path)) refl (spot_beside here id) fault

  opens_mount : (backend : ℕ) → ReachesEntry version store path flags number here name (Some (Mount backend)) → directory_fault flags ≡ None → OpensDirectory version store path flags number backend 0
  opens_mount backend reached fault =
      at_entry version store path flags number here name (Some (Mount backend)) reached
      ∙ directory_opened store number (lowest_is_free store.descriptors number reached.lowest) (request_of number flags (slash_of path)) refl (root_of backend) fault

pub opens_find : OpensFind
opens_find = record {
  file = λ version store path flags number here name file was reached fault has there linked. opens_file_there version store path flags number here name file was reached fault has there linked;
  directory = opens_directory_there;
  mount = opens_mount;
}

-- A file that was made.

module _ (version : ℕ) (store : Store) (path : List ℕ) (flags : OpenFlags) (number : ℕ) (here : Spot) (name : List ℕ) (reached : ReachesEntry version store path flags number here name None) (creat : flags.creat ≡ true) (slash : slash_of path ≡ false) (has : HasGroup store here.backend (number % group_count)) where
  abbrev of_backend : ℕ
  of_backend = here.backend

  abbrev in_group : ℕ
  in_group = number % group_count

  abbrev before : Group
  before = group_at store of_backend in_group

  abbrev made : Group
  made = (fstep before (Make (mode_of flags))).group

  abbrev tree : Tree
  tree = names_at store of_backend

  abbrev entered : Tree
  entered = with_entry_at tree here.directory name (FileNode before.files.next)

  abbrev opened_store : Store
  opened_store = with_opened store of_backend in_group made number before.descriptions.next

  abbrev new : Store
  new = with_names opened_store of_backend entered

  is_free : slice_get store.descriptors.slots number ≡ Some slot.Free
  is_free = lowest_is_free store.descriptors number reached.lowest

  no_fault : absent_fault flags (slash_of path) ≡ None
  no_fault =
      ap (λ (b : Bool). let f : Option Errno = if b && not (slash_of path) then None else Some Enoent in f) creat
      ∙ ap (λ (b : Bool). let f : Option Errno = if not b then None else Some Enoent in f) slash

  makes_it : posix version store (Open path flags) ≡ replied new (reply.Fd number)
  makes_it =
      at_entry version store path flags number here name None reached
      ∙ ap (λ (f : Option Errno). at_once (held store number) (unless_drops number f (makes (opens_along symloop_max) (request_of number flags (slash_of path)) (station reached.entry.left reached.entry.links here) name))) no_fault
      ∙ file_made store (opens_along symloop_max) flags number (slash_of path) (station reached.entry.left reached.entry.links here) name reached.directory is_free reached.there reached.stands

  made_is : group_at new of_backend in_group ≡ made
  made_is = groups_named opened_store of_backend entered of_backend in_group ∙ group_set store of_backend in_group made before has.there

  names_are : names_at new of_backend ≡ entered
  names_are = names_here opened_store of_backend entered here.directory reached.directory (ap (λ (t : Tree). dir_at t here.directory) (names_grouped store of_backend in_group made of_backend) ∙ reached.there)

  enters : IsSound tree → LeafMade tree (names_at new of_backend) here.directory name (FileNode before.files.next)
  enters sound =
      let added = added_is tree here.directory name before.files.next reached.directory reached.there reached.stands in
      subst (λ (t : Tree). LeafMade tree t here.directory name (FileNode before.files.next)) (ap (λ (o : NamesOutcome). o.tree) added ∙ sym names_are) (addfile_enters tree here.directory name before.files.next sound (ap (λ (o : NamesOutcome). o.answer) added))

  is_made : FileMade store new here name number flags in_group
  is_made = record {
    file = before.files.next;
    absent = next_is_none before.files _ has.sound.file_ids;
    empty = ap (λ (g : Group). file_at g before.files.next) made_is ∙ added_here before.files empty_file;
    files = λ other apart. ap (λ (g : Group). file_at g other) made_is ∙ added_other before.files other empty_file apart;
    opened = record {
      id = before.descriptions.next;
      named = number_names store number (slot.File of_backend before.descriptions.next) is_free;
      of_group = has.sound.description_ids.next ∙ has.is;
      there = ap (λ (g : Group). description_at g before.descriptions.next) made_is ∙ added_here before.descriptions (description_of before.files.next flags);
    };
    descriptions = λ other apart. ap (λ (g : Group). description_at g other) made_is ∙ added_other before.descriptions other (description_of before.files.next flags) apart;
    entry = enters;
    elsewhere =
        ap (λ (g : Group). with_names (with_opened store of_backend in_group g number before.descriptions.next) of_backend entered) (sym made_is)
        ∙ ap (λ (t : Tree). with_names (with_opened store of_backend in_group (group_at new of_backend in_group) number before.descriptions.next) of_backend t) (sym names_are);
  }

  opens_new : OpensNew version store path flags number here name
  opens_new = record {
    reply = ap (λ (o : CallOutcome). o.reply) makes_it;
    made = subst (λ (s : Store). FileMade store s here name number flags in_group) (sym (ap (λ (o : CallOutcome). o.store) makes_it)) is_made;
  }

pub opens_make_files : OpensMakeFiles
opens_make_files version store path flags number here name reached creat slash has = opens_new version store path flags number here name reached creat slash has
