-- The bytes of a read, collected chunk by chunk.
use Rattle.std.proofs.Common.{◌≡◌, ℕ, ◌+◌, ◌-◌, ◌*◌, ◌/◌, ◌<◌, ◌≤◌, min, Bool, true, false, cond, ◌⊎◌, inl, inr, List, [], ◌∷◌, ◌++◌, length, take, drop, Option, None, Some, IfSome, Result, Ok, Err, refl, sym, ap, ◌∙◌, subst, arith, length-append}
use Rattle.std.proofs.lemmas.List.{drop-drop, take-append-drop, drop-take, take-take}
use Rattle.std.proofs.lemmas.Bool.{le-ltb}
use Rattle.wf_core.specs.Faults.{Rose}
use Rattle.file_store.specs.FileBytes.{part}
use Rattle.chunk_backend.specs.declared.chunk.ChunkId.{ChunkId}
use Rattle.chunk_backend.specs.declared.chunk_answer.ReadFault.{ReadFault}
use Rattle.chunk_backend.specs.declared.chunk_answer.ReadFault.TheVariants.{Failed, NoMemory}
use Rattle.chunk_backend.specs.Chunks.{bytes_of, chunk_id, chunks_between, fetch_of}
use Rattle.chunk_backend.specs.CacheFold.{CacheState, ChunksOutcome, chunks_outcome, take_chunks}
use Rattle.chunk_backend.specs.Reads.{HasRoom, IsCache, Seen, Setup, rules_of, state_of}
use Rattle.chunk_backend.specs.Steps.{AppendsPart, CameSo, Collects, IsTaken, Takes}
use Rattle.chunk_backend.proofs.NeedLemmas.{needs_next, begins, goes_on}

-- what is left of the chunks comes to what all of them come to
abbrev pub FoldsOn : Seen → Seen → ℕ → ℕ → ℕ → ℕ → ℕ → List ℕ → Type 0
FoldsOn first now file from end at hits failing =
    let chunk = first.setup.chunk in
    HasRoom first.setup.room (length now.asked + length (chunks_between chunk file at end))
    × (take_chunks (rules_of first.setup failing) (state_of now) hits (chunks_between chunk file at end)
    ≡ take_chunks (rules_of first.setup failing) (state_of first) 0 (chunks_between chunk file from end))

-- the bytes before `at` are collected
pub record Collecting (first now : Seen) (file from end at : ℕ) (given : List ℕ) (hits : ℕ) : Type 0 where
  pub same : now.setup ≡ first.setup
  pub later : first.faults ≤ now.faults
  pub cache : IsCache now.setup now.cache
  pub begun : from ≤ at
  pub within : (at ≤ end) ⊎ (at ≡ from)
  pub count : length given ≡ at - from
  pub few : hits ≤ at - from
  pub bytes : IfSome first.setup.contents (λ files. given ≡ part (bytes_of files file) from (at - from))
  pub taken : IfSome first.setup.failing (λ failing.
      HasRoom first.setup.room (length first.asked + length (chunks_between first.setup.chunk file from end))
      → FoldsOn first now file from end at hits failing)

on_none : (contents : Option (List (List ℕ))) (file from : ℕ) (given : List ℕ) → given ≡ [] → IfSome contents (λ files. given ≡ part (bytes_of files file) from (from - from))
on_none None file from given none = tt
on_none (Some files) file from given none = none ∙ ap (λ n. take n (drop from (bytes_of files file))) (let e : 0 ≡ from - from = omega arith in e)

all_ahead : (first : Seen) (file from end : ℕ) (failing : Option (List ℕ)) → IfSome failing (λ failing.
    HasRoom first.setup.room (length first.asked + length (chunks_between first.setup.chunk file from end)) → FoldsOn first first file from end from 0 failing)
all_ahead first file from end None = tt
all_ahead first file from end (Some failing) = λ room. (room, refl)

pub collecting_none : (first : Seen) (file from end : ℕ) (given : List ℕ) (hits : ℕ) → IsCache first.setup first.cache → given ≡ [] → hits ≡ 0 → Collecting first first file from end from given hits
collecting_none first file from end given hits cache none zero_hits = record {
  same = refl;
  later = omega arith;
  cache = cache;
  begun = omega arith;
  within = inr refl;
  count = (let e = ap length none in omega arith);
  few = omega arith;
  bytes = on_none first.setup.contents file from given none;
  taken = subst (λ n. IfSome first.setup.failing (λ failing.
      HasRoom first.setup.room (length first.asked + length (chunks_between first.setup.chunk file from end)) → FoldsOn first first file from end from n failing)) (sym zero_hits)
      (all_ahead first file from end first.setup.failing);
}

-- parts that stand one behind the other are one
pub join_parts : (bytes : List ℕ) (from count more : ℕ) → part bytes from count ++ part bytes (from + count) more ≡ part bytes from (count + more)
join_parts bytes from count more =
    let rest = drop from bytes in
    let all = take (count + more) rest in
    ap (λ a. a ++ part bytes (from + count) more) (sym (take-take count (count + more) rest (omega arith)))
    ∙ ap (λ b. take count all ++ b) (sym (drop-take count more rest ∙ ap (take more) (drop-drop count from bytes)))
    ∙ take-append-drop count all

pub rose : (a b c : ℕ) → a ≤ b → Rose b c → Rose a c
rose a b c before (inl more) = inl (omega arith)
rose a b c before (inr last) = inr last

-- one chunk more
module _ (first now next : Seen) (file from end at : ℕ) (given after : List ℕ) (hits : ℕ)
    (positive : 0 < first.setup.chunk) (more : at < end) (so_far : Collecting first now file from end at given hits) where
  abbrev chunk : ℕ
  chunk = first.setup.chunk

  abbrev number : ℕ
  number = at / chunk

  abbrev start : ℕ
  start = number * chunk

  abbrev stop : ℕ
  stop = min end (start + chunk)

  abbrev id : ChunkId
  id = chunk_id file number

  abbrev ahead : ℕ → List ChunkId
  ahead offset = chunks_between chunk file offset end

  next_ids : ahead at ≡ id ∷ ahead stop
  next_ids = needs_next chunk positive file at end more

  after_same : {r : Result Bool ReadFault} → Takes now id r next → next.setup ≡ first.setup
  after_same takes = takes.same ∙ so_far.same

  abbrev TakenOn : Setup → Result Bool ReadFault → Type 0
  TakenOn setup r = IfSome setup.failing (λ failing. HasRoom setup.room (length now.asked + 1)
      → IsTaken (rules_of setup failing) id (state_of now) r (state_of next))

  taken_on : (r : Result Bool ReadFault) → Takes now id r next → TakenOn first.setup r
  taken_on r takes = subst (λ setup. TakenOn setup r) so_far.same takes.taken

  -- there is room for this chunk, and then for the others
  room_now : (room : Option ℕ) → HasRoom room (length now.asked + length (ahead at)) → HasRoom room (length now.asked + 1)
  room_now None h = tt
  room_now (Some room) h = let long = ap length next_ids in omega arith

  room_next : (room : Option ℕ) → length next.asked ≤ length now.asked + 1 → HasRoom room (length now.asked + length (ahead at)) → HasRoom room (length next.asked + length (ahead stop))
  room_next None few h = tt
  room_next (Some room) few h = let long = ap length next_ids in omega arith

  module _ (failing : List ℕ) where
    abbrev fold : CacheState → ℕ → List ChunkId → ChunksOutcome
    fold state hits ids = take_chunks (rules_of first.setup failing) state hits ids

    first_of_them : fold (state_of now) hits (ahead at) ≡ fold (state_of now) hits (id ∷ ahead stop)
    first_of_them = ap (fold (state_of now) hits) next_ids

    abbrev Comes : Result Bool ReadFault → Type 0
    Comes r = IsTaken (rules_of first.setup failing) id (state_of now) r (state_of next)

    hit_is : Comes (Ok true) → fold (state_of now) hits (id ∷ ahead stop) ≡ fold (state_of next) (hits + 1) (ahead stop)
    hit_is taken = let listed = taken.0 in rw listed (ap (λ state. fold state (hits + 1) (ahead stop)) (sym taken.1))

    miss_is : Comes (Ok false) → fold (state_of now) hits (id ∷ ahead stop) ≡ fold (state_of next) hits (ahead stop)
    miss_is taken = let listed = taken.0 in let fine = taken.1 in rw (listed, fine) (ap (λ state. fold state hits (ahead stop)) (sym taken.2))

    fault_is : Comes (Err Failed) → fold (state_of now) hits (id ∷ ahead stop) ≡ chunks_outcome (state_of next) hits true
    fault_is taken = let listed = taken.0 in let fails = taken.1 in rw (listed, fails) (ap (λ state. chunks_outcome state hits true) (sym taken.2))

    asked_few : (listed : Bool) → Comes (Ok listed) → length next.asked ≤ length now.asked + 1
    asked_few true taken = let same : next.asked ≡ now.asked = ap (λ (s : CacheState). s.asked) taken.1 in let long = ap length same in omega arith
    asked_few false taken =
        let grown : next.asked ≡ now.asked ++ fetch_of chunk id ∷ [] = ap (λ (s : CacheState). s.asked) taken.2 in
        let long = ap length grown ∙ length-append now.asked (fetch_of chunk id ∷ []) in omega arith

    fold_on : (listed : Bool) → Comes (Ok listed) → fold (state_of now) hits (id ∷ ahead stop) ≡ fold (state_of next) (hits + (cond listed 1 0)) (ahead stop)
    fold_on true taken = hit_is taken
    fold_on false taken = miss_is taken ∙ ap (λ n. fold (state_of next) n (ahead stop)) (let e : hits ≡ hits + 0 = omega arith in e)

  abbrev Before : List ℕ → Type 0
  Before failing = HasRoom first.setup.room (length first.asked + length (chunks_between chunk file from end)) → FoldsOn first now file from end at hits failing

  taken_next : (listed : Bool) (failing : Option (List ℕ))
      → IfSome failing Before
      → IfSome failing (λ failing. HasRoom first.setup.room (length now.asked + 1) → IsTaken (rules_of first.setup failing) id (state_of now) (Ok listed) (state_of next))
      → IfSome failing (λ failing. HasRoom first.setup.room (length first.asked + length (chunks_between chunk file from end)) → FoldsOn first next file from end stop (hits + (cond listed 1 0)) failing)
  taken_next listed None before taken = tt
  taken_next listed (Some failing) before taken = λ room.
      let on = before room in
      let step = taken (room_now first.setup.room on.0) in (
        room_next first.setup.room (asked_few failing listed step) on.0,
        sym (fold_on failing listed step) ∙ sym (first_of_them failing) ∙ on.1,
      )

  begins_here : start ≤ at
  begins_here = begins chunk positive file at end more

  goes_on_here : at < stop
  goes_on_here = goes_on chunk positive file at end more

  bytes_next : (contents : Option (List (List ℕ)))
      → IfSome contents (λ files. given ≡ part (bytes_of files file) from (at - from))
      → IfSome contents (λ files. after ≡ given ++ part (bytes_of files file) (start + (at - start)) ((stop - start) - (at - start)))
      → IfSome contents (λ files. after ≡ part (bytes_of files file) from (stop - from))
  bytes_next None before appended = tt
  bytes_next (Some files) before appended =
      let all = bytes_of files file in
      let begin = begins_here in let on = goes_on_here in let begun = so_far.begun in
      let place : start + (at - start) ≡ from + (at - from) = omega arith in
      let size : (stop - start) - (at - start) ≡ stop - at = omega arith in
      let whole : (at - from) + (stop - at) ≡ stop - from = omega arith in
      appended ∙ ap (λ n. given ++ part all n ((stop - start) - (at - start))) place
      ∙ ap (λ n. given ++ part all (from + (at - from)) n) size
      ∙ ap (λ xs. xs ++ part all (from + (at - from)) (stop - at)) before
      ∙ join_parts all from (at - from) (stop - at)
      ∙ ap (part all from) whole

  abbrev IsAppended : Setup → Type 0
  IsAppended setup = AppendsPart setup id (at - start) (stop - start) given after

  pub collecting_next : (listed : Bool) (count : ℕ) → Takes now id (Ok listed) next → IsAppended first.setup → count ≡ hits + (cond listed 1 0) → Collecting first next file from end stop after count
  collecting_next listed count takes appended counted =
      let begin = begins_here in let on = goes_on_here in let begun = so_far.begun in
      record {
        same = after_same takes;
        later = (let a = so_far.later in let b = takes.later in omega arith);
        cache = takes.cache;
        begun = omega arith;
        within = inl (omega arith);
        count = (let a = so_far.count in let b = appended.count in omega arith);
        few = (let a = so_far.few in let b = one_at_most listed in omega arith);
        bytes = bytes_next first.setup.contents so_far.bytes appended.bytes;
        taken = subst (λ n. IfSome first.setup.failing (λ failing. HasRoom first.setup.room (length first.asked + length (chunks_between chunk file from end)) → FoldsOn first next file from end stop n failing))
            (sym counted) (taken_next listed first.setup.failing so_far.taken (taken_on (Ok listed) takes));
      }
    where
      one_at_most : (listed : Bool) → (cond listed 1 0) ≤ 1
      one_at_most true = omega arith
      one_at_most false = omega arith

  stops : (fault : ReadFault) (failing : Option (List ℕ))
      → IfSome failing Before
      → IfSome failing (λ failing. HasRoom first.setup.room (length now.asked + 1) → IsTaken (rules_of first.setup failing) id (state_of now) (Err fault) (state_of next))
      → IfSome failing (λ failing. HasRoom first.setup.room (length first.asked + length (chunks_between chunk file from end))
      → CameSo (take_chunks (rules_of first.setup failing) (state_of first) 0 (chunks_between chunk file from end)) (Err fault) (state_of next) hits)
  stops fault None before taken = tt
  stops NoMemory (Some failing) before taken = λ room. tt
  stops Failed (Some failing) before taken = λ room.
      let on = before room in
      sym on.1 ∙ first_of_them failing ∙ fault_is failing (taken (room_now first.setup.room on.0))

  pub collects_fault : (fault : ReadFault) → Takes now id (Err fault) next → Collects first file from end (Err fault) after hits next
  collects_fault fault takes = record {
    same = after_same takes;
    fault = λ is. (let same : fault ≡ Failed = cc in rose first.faults now.faults next.faults so_far.later (takes.fault (ap (λ (f : ReadFault). Err f) same)));
    later = (let a = so_far.later in let b = takes.later in omega arith);
    cache = takes.cache;
    count = tt;
    bytes = tt;
    taken = stops fault first.setup.failing so_far.taken (taken_on (Err fault) takes);
  }

-- all chunks
module _ (first now : Seen) (file from end at : ℕ) (given : List ℕ) (hits : ℕ) (past : end ≤ at) (so_far : Collecting first now file from end at given hits) where
  all_of : (at ≤ end) ⊎ (at ≡ from) → at - from ≡ end - from
  all_of (inl within) = omega arith
  all_of (inr same) = omega arith

  none_ahead : chunks_between first.setup.chunk file at end ≡ []
  none_ahead = let test = le-ltb at end past in rw test refl

  bytes_all : (contents : Option (List (List ℕ))) → IfSome contents (λ files. given ≡ part (bytes_of files file) from (at - from)) → IfSome contents (λ files. given ≡ part (bytes_of files file) from (end - from))
  bytes_all None before = tt
  bytes_all (Some files) before = before ∙ ap (part (bytes_of files file) from) (all_of so_far.within)

  taken_all : (x : Unit {0}) (failing : Option (List ℕ))
      → IfSome failing (λ failing. HasRoom first.setup.room (length first.asked + length (chunks_between first.setup.chunk file from end)) → FoldsOn first now file from end at hits failing)
      → IfSome failing (λ failing. HasRoom first.setup.room (length first.asked + length (chunks_between first.setup.chunk file from end))
      → CameSo (take_chunks (rules_of first.setup failing) (state_of first) 0 (chunks_between first.setup.chunk file from end)) (Ok x) (state_of now) hits)
  taken_all x None before = tt
  taken_all x (Some failing) before = λ room.
      let on = before room in
      sym on.1 ∙ ap (take_chunks (rules_of first.setup failing) (state_of now) hits) none_ahead

  pub collects_all : (x : Unit {0}) → Collects first file from end (Ok x) given hits now
  collects_all x = record {
    same = so_far.same;
    fault = λ is. absurd cc;
    later = so_far.later;
    cache = so_far.cache;
    count = so_far.count ∙ all_of so_far.within;
    bytes = bytes_all first.setup.contents so_far.bytes;
    taken = taken_all x first.setup.failing so_far.taken;
  }
