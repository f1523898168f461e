-- A step on names changes no mount, and the opening names mount no other backends.
use Rattle.std.proofs.Common.{◌≡◌, ℕ, ◌+◌, ◌<◌, ◌≤◌, zero, suc, inl, inr, Bool, List, [], ◌∷◌, length, fold, Option, Some, Result, Ok, Err, IfOk, OnErr, sym, ap, subst, ◌∙◌, arith}
use Rattle.std.specs.declared.alloc.AllocError.{AllocError}
use Rattle.name_store.specs.declared.operation.Node.{Node}
use Rattle.name_store.specs.declared.operation.Node.TheVariants.{Mount}
use Rattle.name_store.specs.declared.operation.NameOp.{NameOp}
use Rattle.name_store.specs.declared.operation.NameAnswer.{NameAnswer}
use Rattle.name_store.specs.NameTrees.{Listing, Tree, empty_in, entry_at, nstep, opening, with_entry, with_mount}
use Rattle.name_store.specs.Sound.{IsSound, node_at}
use Rattle.name_store.proofs.Entries.{same_name, apart_names, entered_here, entered_other}
use Rattle.name_store.proofs.EntryLemmas.{mounts_after}
use Rattle.memory_backend.specs.Among.{MountsAmong}

-- a step on names changes no mount
pub mounts_after_step : (backends : ℕ) (old : Tree) (op : NameOp) → IsSound old → MountsAmong backends old → MountsAmong backends (nstep old op).tree
mounts_after_step backends old op sound among = λ id name backend here. among id name backend ((mounts_after old (op ∷ []) sound id name backend).0 here)

pub mounts_kept : (backends : ℕ) (old new : Tree) (op : NameOp) (r : Result NameAnswer AllocError) → IsSound old → MountsAmong backends old → IfOk r (λ answer. nstep old op ≡ record { tree = new; answer = answer }) → OnErr r (new ≡ old) → MountsAmong backends new
mounts_kept backends old new op (Ok answer) sound among told left = subst (MountsAmong backends) (ap (λ (o : _). o.tree) told) (mounts_after_step backends old op sound among)
mounts_kept backends old new op (Err error) sound among told left = subst (MountsAmong backends) (sym left) among

-- each mount is of one of so many backends
abbrev pub AreBelow : ℕ → List (List ℕ × ℕ) → Type 0
AreBelow backends [] = Unit {0}
AreBelow backends (mount ∷ mounts) = (mount.1 < backends) × AreBelow backends mounts

abbrev EntriesAmong : ℕ → Listing → Type 0
EntriesAmong backends directory = (name : List ℕ) (backend : ℕ) → entry_at directory name ≡ Some (Mount backend) → backend < backends

mount_is : (first second : ℕ) → ◌≡◌ {A = Option Node} (Some (Mount first)) (Some (Mount second)) → first ≡ second
mount_is first second e = cc

one_more : (backends : ℕ) (directory : Listing) (name : List ℕ) (number : ℕ) → EntriesAmong backends directory → number < backends → EntriesAmong backends (with_entry directory name (Mount number))
one_more backends directory name number among below other backend here =
    elim (same_name other name) [
      | inl e ↦ subst (λ (n : ℕ). n < backends) (mount_is number backend (sym (entered_here directory.entries name (Mount number)) ∙ ap (λ (n : List ℕ). entry_at (with_entry directory name (Mount number)) n) (sym e) ∙ here)) below
      | inr apart ↦ among other backend (sym (entered_other directory.entries name other (Mount number) (apart_names other name apart)) ∙ here)
    ]

mounted : (backends : ℕ) (root : Listing) (mounts : List (List ℕ × ℕ)) → EntriesAmong backends root → AreBelow backends mounts → EntriesAmong backends (fold with_mount root mounts)
mounted backends root [] among below = among
mounted backends root ((name, number) ∷ mounts) among below = mounted backends (with_mount root (name, number)) mounts (one_more backends root name number among below.0) below.1

pub opening_among : (backends : ℕ) (mounts : List (List ℕ × ℕ)) → AreBelow backends mounts → MountsAmong backends (opening mounts)
opening_among backends mounts below zero name backend here = mounted backends (empty_in 0) mounts (λ n b e. cc) below name backend here
opening_among backends mounts below (suc id) name backend here = cc
