-- The mounts of one backend more, and that each of them is one of the backends.
use Rattle.std.proofs.Common.{◌≡◌, ℕ, ◌+◌, ◌<◌, ◌≤◌, zero, suc, Bool, List, [], ◌∷◌, ◌++◌, length, take, get_or, refl, sym, ap, subst, ◌∙◌, arith}
use Rattle.name_store.specs.NameTrees.{Tree, opening}
use Rattle.name_store.specs.Sound.{IsSound}
use Rattle.name_store.proofs.Soundness.{opening_sound}
use Rattle.memory_backend.specs.Among.{MountsAmong}
use Rattle.memory_backend.specs.Openings.{mounts_from}
use Rattle.memory_backend.proofs.MountedNames.{AreBelow, opening_among}

pub mounts_below : (backends number : ℕ) (all : List (List ℕ × Bool)) → number + length all ≤ backends → AreBelow backends (mounts_from number all)
mounts_below backends number [] fits = tt
mounts_below backends number (one ∷ all) fits =
    let fits_more : (number + 1) + length all ≤ backends = omega (arith, fits) in
    (omega (arith, fits), mounts_below backends (number + 1) all fits_more)

mount_on : (number : ℕ) (all : List (List ℕ × Bool)) (i : ℕ) (one : List ℕ × Bool) → i < length all → one ≡ get_or all i one → mounts_from number (take (suc i) all) ≡ mounts_from number (take i all) ++ (one.0, number + i) ∷ []
mount_on number [] i one within read = absurd (omega (arith, within))
mount_on number (first ∷ all) zero one within read =
    ap (λ (b : List ℕ × Bool). (b.0, number) ∷ []) (sym read) ∙ ap (λ (k : ℕ). (one.0, k) ∷ []) (let e : number ≡ number + 0 = omega arith in e)
mount_on number (first ∷ all) (suc i) one within read =
    let inside : i < length all = omega (arith, within) in
    let more : (number + 1) + i ≡ number + suc i = omega arith in
    ap (λ (ms : List (List ℕ × ℕ)). (first.0, number) ∷ ms) (mount_on (number + 1) all i one inside read)
    ∙ ap (λ (k : ℕ). (first.0, number) ∷ (mounts_from (number + 1) (take i all) ++ (one.0, k) ∷ [])) more

pub one_mount_more : (all : List (List ℕ × Bool)) (i number : ℕ) (one : List ℕ × Bool) (name : List ℕ) (backend : ℕ) (mounts more : List (List ℕ × ℕ)) → i < length all → one ≡ get_or all i one → mounts ≡ mounts_from 1 (take i all) → name ≡ one.0 → backend ≡ number → number ≡ i + 1 → more ≡ mounts ++ (name, backend) ∷ [] → more ≡ mounts_from 1 (take (i + 1) all)
one_mount_more all i number one name backend mounts more within read are named is at pushed =
    let next : suc i ≡ i + 1 = omega arith in
    let place : backend ≡ 1 + i = is ∙ at ∙ omega arith in
    pushed
    ∙ ap (λ (ms : List (List ℕ × ℕ)). ms ++ (name, backend) ∷ []) are
    ∙ ap (λ (n : List ℕ). mounts_from 1 (take i all) ++ (n, backend) ∷ []) named
    ∙ ap (λ (k : ℕ). mounts_from 1 (take i all) ++ (one.0, k) ∷ []) place
    ∙ sym (mount_on 1 all i one within read)
    ∙ ap (λ (k : ℕ). mounts_from 1 (take k all)) next

-- the root's names, in which the backends are mounted
pub root_within : (backends : ℕ) (all : List (List ℕ × Bool)) (root : Tree) (mounts : List (List ℕ × ℕ)) → root ≡ opening mounts → mounts ≡ mounts_from 1 all → 1 + length all ≤ backends → IsSound root × MountsAmong backends root
root_within backends all root mounts is are fits =
    let same : root ≡ opening (mounts_from 1 all) = is ∙ ap opening are in
    subst (λ (t : Tree). IsSound t × MountsAmong backends t) (sym same) (opening_sound (mounts_from 1 all), opening_among backends (mounts_from 1 all) (mounts_below backends 1 all fits))
