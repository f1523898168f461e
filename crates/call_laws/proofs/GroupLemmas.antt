-- A call by a descriptor is its step on the group of the description.
use Rattle.std.proofs.Common.{◌≡◌, ℕ, zero, suc, Bool, true, false, List, [], ◌∷◌, Option, None, Some, slice_get, slice_set, unwrap_or, refl, ap, subst, ◌∙◌}
use Rattle.name_store.specs.NameTrees.{Tree}
use Rattle.file_store.specs.declared.descriptor_operation.Slot.{Slot}
use Rattle.file_store.specs.DescriptorMap.{look_answer}
use Rattle.file_store.specs.declared.file.File.{File}
use Rattle.file_store.specs.declared.file.Description.{Description}
use Rattle.file_store.specs.declared.file_operation.FileAnswer.{FileAnswer}
use Rattle.file_store.specs.declared.file_operation.FileAnswer.TheVariants as answer
use Rattle.file_store.specs.FileGroups.{Group, FilesOutcome, description_at, file_at, fstep, on_open, open_file_at, open_file_of, open_file_with, opening}
use Rattle.path_walk.specs.declared.descriptor_call.DataCall.{DataCall}
use Rattle.path_walk.specs.declared.step.StoreAnswer.TheVariants.{Descriptors as DescriptorsAnswer}
use Rattle.path_walk.specs.declared.step.StepAnswer.TheVariants.{Answered}
use Rattle.path_walk.specs.Store.{Store, Backend, backend_at, group_at, with_group, with_names}
use Rattle.path_walk.specs.Programs.{CallOutcome}
use Rattle.path_walk.specs.Plans.{at_once, reply_to_files}
use Rattle.path_walk.specs.DescriptorCalls.{op_of_data, data_step_plan, data_plan}
use Rattle.call_laws.specs.FileLaws.{IsOpenOn}
use Rattle.call_laws.proofs.StoreLemmas.{no_backend, set_here}

-- a group of which something is there is there itself
group_there : (found : Option Group) (number id : ℕ) (d : Description) → description_at (unwrap_or found (opening number)) id ≡ Some d → (group : Group) × (found ≡ Some group)
group_there None number id d h = cc
group_there (Some group) number id d h = (group, refl)

backend_with : (found : Option Backend) (number : ℕ) (group : Group) → slice_get (unwrap_or found no_backend).groups number ≡ Some group → (backend : Backend) × (found ≡ Some backend)
backend_with None number group h = cc
backend_with (Some backend) number group h = (backend, refl)

-- a backend of which a description is there
pub backend_of : (store : Store) (backend number id : ℕ) (d : Description) → description_at (group_at store backend number) id ≡ Some d → (old : Backend) × (slice_get store.backends backend ≡ Some old)
backend_of store backend number id d h =
    let (group, is) = group_there (slice_get (backend_at store backend).groups number) number id d h in
    backend_with (slice_get store.backends backend) number group is

file_there : (found : Option Group) (number id : ℕ) (file : File) → file_at (unwrap_or found (opening number)) id ≡ Some file → (group : Group) × (found ≡ Some group)
file_there None number id file h = cc
file_there (Some group) number id file h = (group, refl)

-- or a file
pub backend_of_file : (store : Store) (backend number id : ℕ) (file : File) → file_at (group_at store backend number) id ≡ Some file → (old : Backend) × (slice_get store.backends backend ≡ Some old)
backend_of_file store backend number id file h =
    let (group, is) = file_there (slice_get (backend_at store backend).groups number) number id file h in
    backend_with (slice_get store.backends backend) number group is

pub group_set : (store : Store) (backend number : ℕ) (new old : Group) → slice_get (backend_at store backend).groups number ≡ Some old → group_at (with_group store backend number new) backend number ≡ new
group_set store backend number new old is =
    let (there, there_is) = backend_with (slice_get store.backends backend) number old is in
    ap (λ (o : Option Backend). unwrap_or (slice_get (unwrap_or o no_backend).groups number) (opening number)) (set_here store.backends backend there (record (backend_at store backend) { groups = slice_set (backend_at store backend).groups number new }) there_is)
    ∙ ap (λ (o : Option Group). unwrap_or o (opening number)) (set_here (backend_at store backend).groups number old new is)

pub group_here : (store : Store) (backend number : ℕ) (new : Group) (id : ℕ) (d : Description) → description_at (group_at store backend number) id ≡ Some d → group_at (with_group store backend number new) backend number ≡ new
group_here store backend number new id d h =
    let (group, is) = group_there (slice_get (backend_at store backend).groups number) number id d h in
    group_set store backend number new group is

-- names have no part in groups
named_groups : (backends : List Backend) (backend : ℕ) (tree : Tree) (other : ℕ) → (unwrap_or (slice_get (slice_set backends backend (record (unwrap_or (slice_get backends backend) no_backend) { names = tree })) other) no_backend).groups ≡ (unwrap_or (slice_get backends other) no_backend).groups
named_groups [] backend tree other = refl
named_groups (x ∷ backends) zero tree zero = refl
named_groups (x ∷ backends) zero tree (suc other) = refl
named_groups (x ∷ backends) (suc backend) tree zero = refl
named_groups (x ∷ backends) (suc backend) tree (suc other) = named_groups backends backend tree other

pub groups_named : (store : Store) (backend : ℕ) (tree : Tree) (other number : ℕ) → group_at (with_names store backend tree) other number ≡ group_at store other number
groups_named store backend tree other number = ap (λ (groups : List Group). unwrap_or (slice_get groups number) (opening number)) (named_groups store.backends backend tree other)

-- what a call comes to by its step on a group
abbrev pub after_use : Store → ℕ → ℕ → FilesOutcome → CallOutcome
after_use store backend group outcome = record { store = with_group store backend group outcome.group; reply = reply_to_files outcome.answer }

pub opened_use : (store : Store) (number : ℕ) (purpose : DataCall) (backend group : ℕ) (d : Description) (opened : IsOpenOn store number backend group d) → at_once store (data_plan number purpose) ≡ after_use store backend group (fstep (group_at store backend group) (op_of_data purpose opened.id))
opened_use store number purpose backend group d opened =
    ap (λ (s : Slot). at_once store (data_step_plan purpose (Answered (DescriptorsAnswer (look_answer s))))) opened.named
    ∙ ap (λ (n : ℕ). after_use store backend n (fstep (group_at store backend n) (op_of_data purpose opened.id))) opened.of_group

abbrev pub is_fault : FileAnswer → Bool
is_fault (answer.Fault error) = true
is_fault given = false

-- what was done by a description was done to a file that is there
pub file_found : (group : Group) (id : ℕ) (d : Description) (done : Description → File → FilesOutcome) → description_at group id ≡ Some d → is_fault (on_open group done (open_file_at group id)).answer ≡ false → (file : File) × (open_file_at group id ≡ Some (d, file)) × (file_at group d.file ≡ Some file)
file_found group id d done there ok = by_file (file_at group d.file) refl (subst (λ (o : Option (Description × File)). is_fault (on_open group done o).answer ≡ false) with_file ok) where
  with_file : open_file_at group id ≡ open_file_with (file_at group d.file) d
  with_file = ap (open_file_of group) there

  by_file : (found : Option File) → file_at group d.file ≡ found → is_fault (on_open group done (open_file_with found d)).answer ≡ false → (file : File) × (open_file_at group id ≡ Some (d, file)) × (file_at group d.file ≡ Some file)
  by_file None is ok = cc
  by_file (Some file) is ok = (file, with_file ∙ ap (λ (o : Option File). open_file_with o d) is, is)
