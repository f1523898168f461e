use Rattle.std.proofs.Common.{◌≡◌, ℕ, ◌<◌, List, [], length, take, drop, length-drop, Bor, arith, ap, ◌∙◌}
use Rattle.std.proofs.lemmas.List.{length-take}
use Rattle.std.proofs.lemmas.Map.Entries.{length-keys_of}
use Rattle.std.specs.Map.{keys_of}
use Rattle.std.proofs.lemmas.Iterator.{YieldsList-from_take}
use Rattle.std.proofs.lemmas.Iterator.Adapters.{YieldsList-from_skip}
use Rattle.std.proofs.lemmas.Iterator.Consumers.{YieldsList-from_rest, YieldsList-end}
use Rattle.name_store.proofs.Entries.{Entries}
use Rattle.name_store.proofs.directory.names_in.Goals as goal

pub returns-clause-ok : goal.returns-clause-ok
returns-clause-ok c =
    let all = YieldsList-from_take {s = c.into_iter-name-iterator.result} 32 (YieldsList-from_skip c.args.start (YieldsList-from_rest {shows = λ (x : Bor (List ℕ)). x.now} (keys_of c.args.entries.now.entries) (cc)) (cc)) (cc) in
    c.loop-name.invariant.2
    ∙ (YieldsList-end all c.loop-name.yielded _ c.loop-name.yielded_by _ _ c.in-None.is c.next.ensures.steps).0

-- from a position before the end there is a name
some_from : (entries : Entries) (start : ℕ) → start < length entries → take 32 (drop start (keys_of entries)) ≡ [] → ⊥
some_from entries start near none =
    let taken = length-take 32 (drop start (keys_of entries)) in
    let left = length-drop start (keys_of entries) in
    let keys = length-keys_of entries in
    let empty = ap (λ (names : List (List ℕ)). length names) none in omega arith

pub returns-in_err-push-clause-succeeds : goal.returns-in_err-push-clause-succeeds
returns-in_err-push-clause-succeeds c none = absurd (some_from c.args.entries.now.entries c.args.start (omega arith) none)
