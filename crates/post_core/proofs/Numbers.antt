-- No count of jobs wraps: the marks of a place are those of its senders.
use Rattle.std.proofs.Common.{◌^◌}
use Rattle.atomic_table.specs.Table.{State}
use Rattle.task_ring.specs.Ring.{RingView}
use Rattle.post_core.specs.declared.slots.Item.{Item}
use Rattle.post_core.specs.declared.views.View.{View}
use Rattle.post_core.specs.Rule.{Shown}
use Rattle.std.proofs.Common.{◌≡◌, ℕ, zero, suc, ◌*◌, ◌<◌, ◌≤◌, length, refl, arith}
use Rattle.std.specs.Prelude.{count_by, not}
use Rattle.proxy_laws.specs.declared.records.Mark.{Mark}
use Rattle.proxy_laws.specs.Lists.{is_by}
use Rattle.proxy_laws.specs.Maps.{bit, sum_below}
use Rattle.proxy_laws.specs.Phases.{is_idle, is_open}
use Rattle.proxy_laws.proofs.Maps.{bit_le, sum_le, sum_ones}
use Rattle.proxy_laws.proofs.Numbers.{marks_are_summed}
use Rattle.proxy_laws.specs.Worlds.{WorldState, IsWellFormed}

sum_constant : (n c : ℕ) → sum_below n (λ s. c) ≡ n * c
sum_constant zero c = omega arith
sum_constant (suc n) c = let h = sum_constant n c in omega arith

-- as many marks as that fit a word with room for more
pub few_put : (w : WorldState) (p : ℕ) → IsWellFormed w → p < w.places → w.senders ≤ 64 → ((s : ℕ) → count_by (is_by s) (w.sent p) ≤ 281474976710656) → length (w.sent p) ≤ 18014398509481984
few_put w p formed at senders few =
    let all = marks_are_summed w p formed at in
    let bound = sum_le w.senders (λ s. count_by (is_by s) (w.sent p)) (λ s. 281474976710656) (λ s near. few s) in
    let most = sum_constant w.senders 281474976710656 in
    omega arith

-- nor does that of the notices that were got
pub got_few : {J M : Type 0} (meaning : J → M) (suits : ℕ → Mark → M → Type 0) (senders places : ℕ) (s : State (RingView (Item J)) (View M)) (r : Shown meaning suits senders places s) → r.world.got < 2 ^ 63
got_few meaning suits senders places s r =
    let w = r.world in
    let bound = sum_le w.places (λ p. length (w.sent p)) (λ p. 18014398509481984) (λ p at. few_put w p r.formed at (let a = r.sized.senders_are in let b = r.sized.few_senders in omega arith) (r.sized.few_marks p)) in
    let most = sum_constant w.places 18014398509481984 in
    let few = r.sound.notices in
    let a = r.sized.places_are in let b = r.sized.few_places in
    omega arith

-- There is a reference for each sender at most, and the owner's.
pub refs_few : {J M : Type 0} (meaning : J → M) (suits : ℕ → Mark → M → Type 0) (senders places : ℕ) (s : State (RingView (Item J)) (View M)) (r : Shown meaning suits senders places s) → r.world.refs ≤ 65
refs_few meaning suits senders places s r =
    let w = r.world in
    let a = r.sound.refs in
    let b = sum_le w.senders (λ k. bit (not (is_idle (w.phase k)))) (λ k. 1) (λ k near. bit_le (not (is_idle (w.phase k)))) in
    let c = sum_ones w.senders (λ k. 1) (λ k near. refl) in
    let d = bit_le (is_open w.owner) in
    let e = r.sized.senders_are in let f = r.sized.few_senders in
    omega arith
