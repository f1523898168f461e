-- The backends of a store stay sound.
use Rattle.std.proofs.Common.{arith, ◌≡◌, ◌⊎◌, inl, inr, ℕ, ◌<◌, zero, suc, List, [], ◌∷◌, map, Option, Some, slice_get, slice_set, unwrap_or, refl, sym, ap, subst, ◌∙◌}
use Rattle.wf_core.specs.Limits.{group_count}
use Rattle.name_store.specs.declared.operation.NameOp.{NameOp}
use Rattle.name_store.specs.NameTrees.{Tree, nstep}
use Rattle.name_store.specs.Sound.{IsSound}
use Rattle.name_store.proofs.Changes.{same_id}
use Rattle.name_store.proofs.Soundness.{opening_sound as names_opening_sound, step_sound as names_step_sound}
use Rattle.file_store.specs.declared.file_operation.FileOp.{FileOp}
use Rattle.file_store.specs.FileGroups.{Group, fstep, opening}
use Rattle.file_store.specs.Sound.{IsSound as IsSoundGroup, number_of}
use Rattle.file_store.proofs.Soundness.{opening_sound as group_opening_sound, step_sound as group_step_sound}
use Rattle.file_store.proofs.StepLaws.{ids_are_new}
use Rattle.path_walk.specs.declared.step.CellId.{CellId}
use Rattle.path_walk.specs.declared.step.CellId.TheVariants.{Names as NamesCell, Files as FilesCell, Descriptors as DescriptorsCell}
use Rattle.path_walk.specs.declared.step.StoreOp.{StoreOp}
use Rattle.path_walk.specs.declared.step.StoreOp.TheVariants.{Names as NamesOp, Files as FilesOp, Descriptors as DescriptorsOp}
use Rattle.path_walk.specs.declared.step.StepAnswer.TheVariants.{Answered}
use Rattle.path_walk.specs.declared.call.Call.{Call}
use Rattle.path_walk.specs.Store.{Backend, Store, backend_at, cstep, group_at, names_at, with_backend, with_group, with_names, opening_backend}
use Rattle.path_walk.specs.PathMeaning.{resolve}
use Rattle.path_walk.specs.Plans.{Plan, replies, steps, walks, at_once}
use Rattle.path_walk.specs.Calls.{plan}
use Rattle.path_walk.specs.Posix.{posix}
use Rattle.call_laws.specs.RunLaws.{IsSoundBackend, IsSoundStore, RunsAreSound, opening_store, store_after}
use Rattle.call_laws.proofs.StoreLemmas.{no_backend, set_here, set_other}

-- what stands in a list after a change is what was put there, or stood there before
set_from : {X : Type 0} (xs : List X) (i j : ℕ) (new x : X) → slice_get (slice_set xs i new) j ≡ Some x → ((old : X) × (slice_get xs i ≡ Some old) × (x ≡ new)) ⊎ (slice_get xs j ≡ Some x)
set_from [] i j new x h = inr h
set_from (y ∷ xs) zero zero new x h = inl (y, refl, cc)
set_from (y ∷ xs) zero (suc j) new x h = inr h
set_from (y ∷ xs) (suc i) zero new x h = inr h
set_from (y ∷ xs) (suc i) (suc j) new x h = set_from xs i j new x h

backend_sound : (store : Store) (number : ℕ) (new : Backend) → IsSoundStore store → ((old : Backend) → slice_get store.backends number ≡ Some old → IsSoundBackend new) → IsSoundStore (with_backend store number new)
backend_sound store number new sound each other backend is = elim (set_from store.backends number other new backend is) as (λ _. IsSoundBackend backend) [
  | inl (old, there, same) ↦ subst IsSoundBackend (sym same) (each old there)
  | inr before ↦ sound other backend before
]

pub names_sound : (store : Store) (number : ℕ) (tree : Tree) → IsSoundStore store → ((old : Backend) → slice_get store.backends number ≡ Some old → IsSound tree) → IsSoundStore (with_names store number tree)
names_sound store number tree sound each = backend_sound store number (record (backend_at store number) { names = tree }) sound (λ old there. let was = sound number old there in record {
  names = each old there;
  groups = subst (λ (b : Backend). (g : ℕ) → g < group_count → (group : Group) × (slice_get b.groups g ≡ Some group) × IsSoundGroup group × (number_of group ≡ g)) (sym (ap (λ (o : Option Backend). unwrap_or o no_backend) there)) was.groups;
})

abbrev SoundAt : List Group → ℕ → Type 0
SoundAt groups number = (group : Group) × (slice_get groups number ≡ Some group) × IsSoundGroup group × (number_of group ≡ number)

-- a group with a sound one in its place
grouped : (groups : List Group) (number : ℕ) (new : Group) → (number < group_count → IsSoundGroup new × (number_of new ≡ number)) → ((g : ℕ) → g < group_count → SoundAt groups g) → (g : ℕ) → g < group_count → SoundAt (slice_set groups number new) g
grouped groups number new sound each g low = elim (same_id g number) as (λ _. SoundAt (slice_set groups number new) g) [
  | inl e ↦
      let (old, there, was, was_number) = each g low in
      let (is_sound, is) = sound (subst (λ (n : ℕ). n < group_count) e low) in
      (new, ap (slice_get (slice_set groups number new)) e ∙ set_here groups number old new (ap (slice_get groups) (sym e) ∙ there), is_sound, is ∙ sym e)
  | inr ne ↦ let (old, there, was, was_number) = each g low in (old, set_other groups number g new ne ∙ there, was, was_number)
]

pub group_sound : (store : Store) (number g : ℕ) (new : Group) → IsSoundStore store → ((old : Backend) → slice_get store.backends number ≡ Some old → g < group_count → IsSoundGroup new × (number_of new ≡ g)) → IsSoundStore (with_group store number g new)
group_sound store number g new sound each = backend_sound store number (record (backend_at store number) { groups = slice_set (backend_at store number).groups g new }) sound (λ old there.
    let at : backend_at store number ≡ old = ap (λ (o : Option Backend). unwrap_or o no_backend) there in
    let was : IsSoundBackend (backend_at store number) = subst IsSoundBackend (sym at) (sound number old there) in
    record { names = was.names; groups = grouped (backend_at store number).groups g new (each old there) was.groups })

-- Steps.

-- a group that is there
pub group_found : (store : Store) (number g : ℕ) (old : Backend) → IsSoundStore store → slice_get store.backends number ≡ Some old → g < group_count → (slice_get (backend_at store number).groups g ≡ Some (group_at store number g)) × IsSoundGroup (group_at store number g) × (number_of (group_at store number g) ≡ g)
group_found store number g old sound there low =
    let at : backend_at store number ≡ old = ap (λ (o : Option Backend). unwrap_or o no_backend) there in
    let (group, is, is_sound, is_number) = (sound number old there).groups g low in
    let found : slice_get (backend_at store number).groups g ≡ Some group = ap (λ (b : Backend). slice_get b.groups g) at ∙ is in
    let same : group_at store number g ≡ group = ap (λ (o : Option Group). unwrap_or o (opening g)) found in
    (found ∙ ap (λ (x : Group). Some x) (sym same), subst IsSoundGroup (sym same) is_sound, ap number_of same ∙ is_number)

files_sound : (store : Store) (number g : ℕ) (op : FileOp) → IsSoundStore store → IsSoundStore (with_group store number g (fstep (group_at store number g) op).group)
files_sound store number g op sound = group_sound store number g _ sound (λ old there low.
    let (found, is_sound, is_number) = group_found store number g old sound there low in
    (group_step_sound (group_at store number g) op is_sound, ids_are_new.number (group_at store number g) op ∙ is_number))

trees_sound : (store : Store) (number : ℕ) (op : NameOp) → IsSoundStore store → IsSoundStore (with_names store number (nstep (names_at store number) op).tree)
trees_sound store number op sound = names_sound store number _ sound (λ old there.
    let at : backend_at store number ≡ old = ap (λ (o : Option Backend). unwrap_or o no_backend) there in
    names_step_sound (names_at store number) op (subst (λ (b : Backend). IsSound b.names) (sym at) (sound number old there).names))

pub step_stays_sound : (store : Store) (cell : CellId) (op : StoreOp) → IsSoundStore store → IsSoundStore (cstep store cell op).store
step_stays_sound store (NamesCell number) (NamesOp op) sound = trees_sound store number op sound
step_stays_sound store (NamesCell number) (FilesOp op) sound = sound
step_stays_sound store (NamesCell number) (DescriptorsOp op) sound = sound
step_stays_sound store (FilesCell number g) (FilesOp op) sound = files_sound store number g op sound
step_stays_sound store (FilesCell number g) (NamesOp op) sound = sound
step_stays_sound store (FilesCell number g) (DescriptorsOp op) sound = sound
step_stays_sound store DescriptorsCell (DescriptorsOp op) sound = sound
step_stays_sound store DescriptorsCell (NamesOp op) sound = sound
step_stays_sound store DescriptorsCell (FilesOp op) sound = sound

plan_stays_sound : (p : Plan) (store : Store) → IsSoundStore store → IsSoundStore (at_once store p).store
plan_stays_sound (replies given) store sound = sound
plan_stays_sound (steps cell op next) store sound = plan_stays_sound (next (Answered (cstep store cell op).answer)) (cstep store cell op).store (step_stays_sound store cell op sound)
plan_stays_sound (walks from route next) store sound = plan_stays_sound (next (resolve store from.names route.parts route.manner route.slash from.links from.spot)) store sound

pub call_stays_sound : (version : ℕ) (store : Store) (c : Call) → IsSoundStore store → IsSoundStore (posix version store c).store
call_stays_sound version store c sound = plan_stays_sound (plan version c) store sound

-- Runs.

opening_groups : (g : ℕ) → g < group_count → SoundAt (opening 0 ∷ opening 1 ∷ opening 2 ∷ opening 3 ∷ []) g
opening_groups zero low = (opening 0, refl, group_opening_sound 0, refl)
opening_groups (suc zero) low = (opening 1, refl, group_opening_sound 1, refl)
opening_groups (suc (suc zero)) low = (opening 2, refl, group_opening_sound 2, refl)
opening_groups (suc (suc (suc zero))) low = (opening 3, refl, group_opening_sound 3, refl)
opening_groups (suc (suc (suc (suc g)))) low = absurd (omega (arith, low))

pub opening_is_sound : (mounts : List (List (List ℕ × ℕ))) (number : ℕ) (backend : Backend) → slice_get (map opening_backend mounts) number ≡ Some backend → IsSoundBackend backend
opening_is_sound [] number backend h = cc
opening_is_sound (one ∷ mounts) zero backend h = let same : opening_backend one ≡ backend = cc in subst IsSoundBackend same (record { names = names_opening_sound one; groups = opening_groups })
opening_is_sound (one ∷ mounts) (suc number) backend h = opening_is_sound mounts number backend h

runs_from : (version : ℕ) (calls : List Call) (store : Store) → IsSoundStore store → IsSoundStore (store_after version store calls)
runs_from version [] store sound = sound
runs_from version (c ∷ calls) store sound = runs_from version calls (posix version store c).store (call_stays_sound version store c sound)

pub runs_are_sound : RunsAreSound
runs_are_sound version mounts calls = runs_from version calls (opening_store mounts) (opening_is_sound mounts)
