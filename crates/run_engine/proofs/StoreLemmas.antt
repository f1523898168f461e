-- What a step leaves of the store of one run.
use Rattle.std.proofs.Common.{◌≡◌, ℕ, ◌<◌, zero, suc, inl, inr, ◌⊎◌, List, [], ◌∷◌, length, Option, Some, Result, Ok, Err, IfOk, OnErr, slice_get, slice_set, get_or, unwrap_or, refl, sym, ap, subst, ◌∙◌, arith, length-set}
use Rattle.std.proofs.lemmas.Option.{slice_get_read}
use Rattle.std.specs.declared.alloc.AllocError.{AllocError}
use Rattle.name_store.specs.declared.operation.NameOp.{NameOp}
use Rattle.name_store.specs.declared.operation.NameAnswer.{NameAnswer}
use Rattle.name_store.specs.NameTrees.{Tree, nstep}
use Rattle.name_store.specs.Sound.{IsSound}
use Rattle.file_store.specs.declared.file_operation.FileOp.{FileOp}
use Rattle.file_store.specs.declared.file_operation.FileAnswer.{FileAnswer}
use Rattle.file_store.specs.FileGroups.{Group, fstep, opening as group_opening}
use Rattle.file_store.specs.declared.descriptor_operation.FdOp.{FdOp}
use Rattle.file_store.specs.declared.descriptor_operation.FdAnswer.{FdAnswer}
use Rattle.file_store.specs.DescriptorMap.{Map, DescriptorsOutcome, dstep}
use Rattle.path_walk.specs.declared.step.StoreAnswer.TheVariants.{Names as NamesAnswer, Files as FilesAnswer, Descriptors as DescriptorsAnswer}
use Rattle.path_walk.specs.Store.{Backend, Store, Stepped, backend_at, with_backend}
use Rattle.path_walk.specs.Backing.{IsFdOpAmong, DescriptorsAmong}
use Rattle.run_engine.specs.RunStores.{IsBackend, IsRunStore, IsNamesStep, IsFilesStep, IsDescriptorsStep, backends_of}
use Rattle.memory_backend.specs.Among.{IsMapAmong}
use Rattle.memory_backend.proofs.MountedNames.{mounts_kept}
use Rattle.memory_backend.proofs.MapAmong.{Keeps, step_keeps}

-- a backend that is there
at_there : (store : Store) (number : ℕ) (backend : Backend) → slice_get store.backends number ≡ Some backend → backend_at store number ≡ backend
at_there store number backend here = ap (λ (b : Option Backend). unwrap_or b (record { names = []; groups = [] })) here

abbrev some : {X : Type 0} → X → Option X
some x = Some x

-- an item that was read at a place
pub read_at : {X : Type 0} (xs now : List X) (place given : ℕ) (old found : X) → xs ≡ now → place ≡ given → given < length now → old ≡ found → found ≡ get_or xs place found → slice_get xs place ≡ Some old
read_at xs now place given old found same at within is read =
    let inside : place < length xs = subst (λ (l : List _). place < length l) (sym same) (subst (λ (n : ℕ). n < length now) (sym at) within) in
    slice_get_read xs (length xs) place found refl inside read ∙ ap some (sym is)

-- the root's backend is there
pub all_backends : (store : Store) → IsRunStore store → backends_of store ≡ length store.backends
all_backends store is =
    let root : 0 < length store.backends = is.root in
    omega (arith, root)

-- what is there after one item was set
set_cases : {X : Type 0} (xs : List X) (place other : ℕ) (x y : X) → slice_get (slice_set xs place x) other ≡ Some y → (y ≡ x) ⊎ (slice_get xs other ≡ Some y)
set_cases [] place other x y here = cc
set_cases (first ∷ xs) zero zero x y here = inl (cc)
set_cases (first ∷ xs) zero (suc other) x y here = inr here
set_cases (first ∷ xs) (suc place) zero x y here = inr here
set_cases (first ∷ xs) (suc place) (suc other) x y here = set_cases xs place other x y here

-- the store in which one backend was changed
pub with_changed : (store : Store) (number : ℕ) (new : Backend) → IsRunStore store → IsBackend (length store.backends) new → IsRunStore (with_backend store number new)
with_changed store number new is fits = record {
  root = subst (λ (n : ℕ). 0 < n) (sym (length-set store.backends number new)) is.root;
  each = λ other backend here.
      subst (λ (n : ℕ). IsBackend n backend) (sym (length-set store.backends number new))
      (elim (set_cases store.backends number other new backend here) [
        | inl same ↦ subst (IsBackend (length store.backends)) (sym same) fits
        | inr there ↦ is.each other backend there
      ]);
  descriptors = subst (λ (n : ℕ). IsMapAmong n store.descriptors) (sym (length-set store.backends number new)) is.descriptors;
}

-- the store in which the descriptors were changed
pub with_slots : (store : Store) (new : Map) → IsRunStore store → IsMapAmong (length store.backends) new → IsRunStore (record store { descriptors = new })
with_slots store new is among = record { root = is.root; each = is.each; descriptors = among }

pub names_fit : (backends : ℕ) (old : Backend) (new : Tree) (op : NameOp) (r : Result NameAnswer AllocError) → IsBackend backends old → IfOk r (λ answer. nstep old.names op ≡ record { tree = new; answer = answer }) → OnErr r (new ≡ old.names) → IsSound new → IsBackend backends (record { names = new; groups = old.groups })
names_fit backends old new op r is told left sound = record {
  groups = is.groups;
  sound = sound;
  mounts = mounts_kept backends old.names new op r is.sound is.mounts told left;
}

pub files_fit : (backends : ℕ) (old : Backend) (group : ℕ) (new : Group) → IsBackend backends old → IsBackend backends (record { names = old.names; groups = slice_set old.groups group new })
files_fit backends old group new is = record {
  groups = length-set old.groups group new ∙ is.groups;
  sound = is.sound;
  mounts = is.mounts;
}

-- a step on the names of a backend is the definition's
pub names_told : (store : Store) (number : ℕ) (old : Backend) (new : Tree) (op : NameOp) (r : Result NameAnswer AllocError) → slice_get store.backends number ≡ Some old → IfOk r (λ answer. nstep old.names op ≡ record { tree = new; answer = answer }) → IfOk r (IsNamesStep store number op (with_backend store number (record { names = new; groups = old.groups })))
names_told store number old new op (Ok answer) here told =
    ap (λ (b : Backend). let s : Stepped = record { store = with_backend store number (record b { names = (nstep b.names op).tree }); answer = NamesAnswer (nstep b.names op).answer } in s) (at_there store number old here)
    ∙ ap (λ (o : _). let s : Stepped = record { store = with_backend store number (record old { names = o.tree }); answer = NamesAnswer o.answer } in s) told
names_told store number old new op (Err error) here told = tt

-- a step on a group of files of a backend is the definition's
pub files_told : (store : Store) (number group : ℕ) (old : Backend) (files new : Group) (op : FileOp) (r : Result FileAnswer AllocError) → slice_get store.backends number ≡ Some old → slice_get old.groups group ≡ Some files → IfOk r (λ answer. fstep files op ≡ record { group = new; answer = answer }) → IfOk r (IsFilesStep store number group op (with_backend store number (record { names = old.names; groups = slice_set old.groups group new })))
files_told store number group old files new op (Ok answer) here there told =
    ap (λ (b : Backend). let s : Stepped = record { store = with_backend store number (record b { groups = slice_set b.groups group (fstep (unwrap_or (slice_get b.groups group) (group_opening group)) op).group }); answer = FilesAnswer (fstep (unwrap_or (slice_get b.groups group) (group_opening group)) op).answer } in s) (at_there store number old here)
    ∙ ap (λ (g : Option Group). let s : Stepped = record { store = with_backend store number (record old { groups = slice_set old.groups group (fstep (unwrap_or g (group_opening group)) op).group }); answer = FilesAnswer (fstep (unwrap_or g (group_opening group)) op).answer } in s) there
    ∙ ap (λ (o : _). let s : Stepped = record { store = with_backend store number (record old { groups = slice_set old.groups group o.group }); answer = FilesAnswer o.answer } in s) told
files_told store number group old files new op (Err error) here there told = tt

-- a step on the descriptors is the definition's, and keeps to the backends
pub slots_fit : (store : Store) (new : Map) (op : FdOp) (answer : FdAnswer) → IsRunStore store → IsFdOpAmong (length store.backends) op → dstep store.descriptors op ≡ record { map = new; answer = answer } → IsMapAmong (length store.backends) new × DescriptorsAmong (length store.backends) answer
slots_fit store new op answer is fits told =
    let keeps = subst (Keeps (length store.backends)) told (step_keeps (length store.backends) store.descriptors is.descriptors op fits) in
    (keeps.map, keeps.answer)

pub slots_told : (store : Store) (new : Map) (op : FdOp) (answer : FdAnswer) → dstep store.descriptors op ≡ record { map = new; answer = answer } → IsDescriptorsStep store op (record store { descriptors = new }) answer
slots_told store new op answer told = ap (λ (o : DescriptorsOutcome). let s : Stepped = record { store = record store { descriptors = o.map }; answer = DescriptorsAnswer o.answer } in s) told
