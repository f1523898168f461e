-- The store before the first call.
use Rattle.std.proofs.Common.{◌≡◌, ℕ, ◌+◌, ◌<◌, ◌≤◌, zero, suc, List, [], ◌∷◌, ◌++◌, length, map, take, Some, slice_get, get_or, refl, sym, ap, subst, ◌∙◌, arith}
use Rattle.name_store.proofs.Soundness.{opening_sound}
use Rattle.path_walk.specs.Store.{Backend, opening_backend}
use Rattle.trace_text.specs.declared.trace.BackendLine.{BackendLine}
use Rattle.trace_text.specs.SoloText.{mounts_from, opening_store}
use Rattle.memory_backend.proofs.MountedNames.{AreBelow, opening_among}
use Rattle.memory_backend.proofs.MapAmong.{opening_among as opening_map_among}
use Rattle.run_engine.specs.RunStores.{IsBackend, IsRunStore}

opening_fits : (backends : ℕ) (mounts : List (List ℕ × ℕ)) → AreBelow backends mounts → IsBackend backends (opening_backend mounts)
opening_fits backends mounts below = record {
  groups = refl;
  sound = opening_sound mounts;
  mounts = opening_among backends mounts below;
}

mounts_below : (backends number : ℕ) (lines : List BackendLine) → number + length lines ≤ backends → AreBelow backends (mounts_from number lines)
mounts_below backends number [] fits = tt
mounts_below backends number (line ∷ lines) fits =
    let fits_more : (number + 1) + length lines ≤ backends = omega (arith, fits) in
    (omega (arith, fits), mounts_below backends (number + 1) lines fits_more)

length_others : (lines : List BackendLine) → length (map (λ (line : BackendLine). opening_backend []) lines) ≡ length lines
length_others [] = refl
length_others (line ∷ lines) = ap suc (length_others lines)

others_fit : (backends : ℕ) (lines : List BackendLine) (number : ℕ) (backend : Backend) → slice_get (map (λ (line : BackendLine). opening_backend []) lines) number ≡ Some backend → IsBackend backends backend
others_fit backends [] number backend here = cc
others_fit backends (line ∷ lines) zero backend here = subst (IsBackend backends) (let e : opening_backend [] ≡ backend = cc in e) (opening_fits backends [] tt)
others_fit backends (line ∷ lines) (suc number) backend here = others_fit backends lines number backend here

each_fits : (backends : ℕ) (lines : List BackendLine) → 1 + length lines ≤ backends → (number : ℕ) (backend : Backend) → slice_get (opening_store lines).backends number ≡ Some backend → IsBackend backends backend
each_fits backends lines fits zero backend here = subst (IsBackend backends) (let e : opening_backend (mounts_from 1 lines) ≡ backend = cc in e) (opening_fits backends (mounts_from 1 lines) (mounts_below backends 1 lines fits))
each_fits backends lines fits (suc number) backend here = others_fit backends lines number backend here

pub opening_is_store : (lines : List BackendLine) → IsRunStore (opening_store lines)
opening_is_store lines =
    let all : length (opening_store lines).backends ≡ suc (length lines) = ap suc (length_others lines) in
    record {
      root = omega (arith, all);
      each = each_fits (length (opening_store lines).backends) lines (omega (arith, all));
      descriptors = opening_map_among (length (opening_store lines).backends) (omega (arith, all));
    }

-- the mounts of one backend more
mount_on : (number : ℕ) (lines : List BackendLine) (i : ℕ) (line : BackendLine) → i < length lines → line ≡ get_or lines i line → mounts_from number (take (suc i) lines) ≡ mounts_from number (take i lines) ++ (line.name, number + i) ∷ []
mount_on number [] i line within read = absurd (omega (arith, within))
mount_on number (first ∷ lines) zero line within read =
    ap (λ (l : BackendLine). (l.name, number) ∷ []) (sym read) ∙ ap (λ (k : ℕ). (line.name, k) ∷ []) (let e : number ≡ number + 0 = omega arith in e)
mount_on number (first ∷ lines) (suc i) line within read =
    let inside : i < length lines = omega (arith, within) in
    let more : (number + 1) + i ≡ number + suc i = omega arith in
    ap (λ (ms : List (List ℕ × ℕ)). (first.name, number) ∷ ms) (mount_on (number + 1) lines i line inside read)
    ∙ ap (λ (k : ℕ). (first.name, number) ∷ (mounts_from (number + 1) (take i lines) ++ (line.name, k) ∷ [])) more

pub mounts_of_more : (lines : List BackendLine) (i number : ℕ) (line : BackendLine) (name : List ℕ) (backend : ℕ) (mounts more : List (List ℕ × ℕ)) → i < length lines → line ≡ get_or lines i line → mounts ≡ mounts_from 1 (take i lines) → name ≡ line.name → backend ≡ number → number ≡ i + 1 → more ≡ mounts ++ (name, backend) ∷ [] → more ≡ mounts_from 1 (take (i + 1) lines)
mounts_of_more lines i number line name backend mounts more within read are named is at pushed =
    let next : suc i ≡ i + 1 = omega arith in
    let place : backend ≡ 1 + i = is ∙ at ∙ omega arith in
    pushed
    ∙ ap (λ (ms : List (List ℕ × ℕ)). ms ++ (name, backend) ∷ []) are
    ∙ ap (λ (n : List ℕ). mounts_from 1 (take i lines) ++ (n, backend) ∷ []) named
    ∙ ap (λ (k : ℕ). mounts_from 1 (take i lines) ++ (line.name, k) ∷ []) place
    ∙ sym (mount_on 1 lines i line within read)
    ∙ ap (λ (k : ℕ). mounts_from 1 (take k lines)) next
