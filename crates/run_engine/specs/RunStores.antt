-- The store of one run, and what a step leaves of it.
use Rattle.std.specs.Prelude.{◌≡◌, ℕ, ◌<◌, max, true, List, length, Some, slice_get}
use Rattle.std.specs.List.{list_all}
use Rattle.wf_core.specs.Limits.{backends_max, group_count}
use Rattle.wf_core.specs.Names.{is_name}
use Rattle.name_store.specs.declared.operation.NameOp.{NameOp}
use Rattle.name_store.specs.declared.operation.NameAnswer.{NameAnswer}
use Rattle.name_store.specs.Sound.{IsSound}
use Rattle.file_store.specs.declared.file_operation.FileOp.{FileOp}
use Rattle.file_store.specs.declared.file_operation.FileAnswer.{FileAnswer}
use Rattle.file_store.specs.declared.descriptor_operation.FdOp.{FdOp}
use Rattle.file_store.specs.declared.descriptor_operation.FdAnswer.{FdAnswer}
use Rattle.path_walk.specs.declared.step.StoreAnswer.TheVariants.{Names as NamesAnswer, Files as FilesAnswer, Descriptors as DescriptorsAnswer}
use Rattle.path_walk.specs.Store.{Backend, Store, names_step, files_step, descriptors_step}
use Rattle.memory_backend.specs.Among.{IsMapAmong, MountsAmong}
use Rattle.trace_text.specs.declared.trace.BackendLine.{BackendLine}

-- how many backends there are: the root's is always there
abbrev pub backends_of : Store → ℕ
backends_of store = max 1 (length store.backends)

-- a backend has all its groups of files, and its names, which are sound, mount no other than so many
pub record IsBackend (backends : ℕ) (backend : Backend) : Type 0 where
  pub groups : length backend.groups ≡ group_count
  pub sound : IsSound backend.names
  pub mounts : MountsAmong backends backend.names

pub record IsRunStore (store : Store) : Type 0 where
  -- the root's backend is there
  pub root : 0 < length store.backends
  pub each : (number : ℕ) (backend : Backend) → slice_get store.backends number ≡ Some backend → IsBackend (length store.backends) backend
  -- what the numbers name, and the current directory, is of a backend that is there
  pub descriptors : IsMapAmong (length store.backends) store.descriptors

-- a step of that kind led from one store to another, and answered so
abbrev pub IsNamesStep : Store → ℕ → NameOp → Store → NameAnswer → Type 0
IsNamesStep old backend op new answer = names_step old backend op ≡ record { store = new; answer = NamesAnswer answer }

abbrev pub IsFilesStep : Store → ℕ → ℕ → FileOp → Store → FileAnswer → Type 0
IsFilesStep old backend group op new answer = files_step old backend group op ≡ record { store = new; answer = FilesAnswer answer }

abbrev pub IsDescriptorsStep : Store → FdOp → Store → FdAnswer → Type 0
IsDescriptorsStep old op new answer = descriptors_step old op ≡ record { store = new; answer = DescriptorsAnswer answer }

-- the backends of a trace: few enough for their numbers, and each is named as a directory may be
pub record AreMountable (lines : List BackendLine) : Type 0 where
  pub few : length lines < backends_max
  pub names : list_all (λ (line : BackendLine). is_name line.name) lines ≡ true
