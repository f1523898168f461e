-- What holds once all parts of a target are joined: its rings are empty, and the record that is made is its world's.
use Rattle.std.proofs.Common.{◌≡◌, ℕ, zero, suc, ◌+◌, ◌<◌, ◌≤◌, ◌==◌, Bool, true, false, Option, Some, None, List, [], ◌∷◌, length, map, get_or, drop, replicate, refl, arith, ap, sym, subst, ◌∙◌, length-drop, filter, if◌then◌else◌}
use Rattle.std.specs.Prelude.{All, IsTrue, count_by, ◌||◌, ◌/◌}
use Rattle.std.specs.List.{list_any}
use Rattle.std.proofs.lemmas.Bool.{eq-eqb}
use Rattle.std.proofs.lemmas.Bool.Decides.{nat_tests}
use Rattle.std.proofs.lemmas.List.{get_or-map, length-map, nil_from_length, take_all, get_or-replicate, length-replicate}
use Rattle.std.proofs.lemmas.List.Sums.{length-filter}
use mathlib.Core.Option.{some, some-injective, some-ne-none}
use lib.ListN.{get_elem?}
use Rattle.atomic_table.specs.Table.{State}
use Rattle.atomic_table.proofs.Lists.{at_map}
use Rattle.task_ring.specs.Ring.{RingView}
use Rattle.proxy_laws.specs.declared.actors.Actor.{Actor}
use Rattle.proxy_laws.specs.declared.actors.Actor.TheVariants as actor
use Rattle.proxy_laws.specs.declared.actors.Phase.{Phase}
use Rattle.proxy_laws.specs.declared.actors.Phase.TheVariants as phase
use Rattle.proxy_laws.specs.declared.records.Job.{Job}
use Rattle.proxy_laws.specs.declared.records.JobRecord.{JobRecord}
use Rattle.proxy_laws.specs.declared.records.Mark.{Mark}
use Rattle.proxy_laws.specs.declared.records.PostRecord.{PostRecord}
use Rattle.proxy_laws.specs.declared.records.Started.TheVariants as started
use Rattle.proxy_laws.specs.Fates.{AreRecordsOf, IsRecordOf, LawfulPost, job_of, jobs_of}
use Rattle.proxy_laws.specs.Lists.{active_job, is_by}
use Rattle.proxy_laws.specs.Phases.{has_turn_at}
use Rattle.proxy_laws.specs.Maps.{sum_below}
use Rattle.proxy_laws.specs.Worlds.{WorldState}
use Rattle.proxy_laws.proofs.Recorded.{records_are_lawful}
use Rattle.proxy_laws.specs.declared.records.OwnMark.{OwnMark}
use Rattle.post_core.specs.declared.records.StartedJob.{StartedJob}
use Rattle.post_core.specs.declared.slots.Item.{Item}
use Rattle.post_core.specs.declared.views.Entry.{Entry}
use Rattle.post_core.specs.declared.views.Fact.{Fact}
use Rattle.post_core.specs.declared.views.Fact.TheVariants as fact
use Rattle.post_core.specs.declared.views.Held.{Held}
use Rattle.post_core.specs.declared.views.OwnerView.{OwnerView}
use Rattle.post_core.specs.declared.views.PassView.{PassView}
use Rattle.post_core.specs.declared.views.View.{View}
use Rattle.post_core.specs.Ending.{AgreesWithPass, AreEach, Ended, FoundTaken, IsIdle, IsInRecord, all_joined, total_of}
use Rattle.proxy_laws.specs.OwnMarks.{own_from}
use Rattle.proxy_laws.proofs.Promised.{nothing_waits_once_emptied}
use Rattle.proxy_laws.specs.declared.actors.Serving.TheVariants as serving
use Rattle.post_core.specs.Kept.{listed, kept_by, kept_from, marks_of}
use Rattle.post_core.specs.Parts.{IsPass, IsEmptied}
use Rattle.post_core.specs.Records.{AreSettled, blank_job, held_entry, held_job, held_record, no_mark, own_mark, place_record}
use Rattle.post_core.specs.Rule.{Fits, IsSo, PassFits, OwnerFits, Shown}
use Rattle.post_core.specs.Making.{AreDealt, dealing_view, fresh_view}
use Rattle.post_core.specs.Views.{fresh_owner, fresh_pass, owner_of, pass_of}
use Rattle.post_core.proofs.Ends.{AreOwns, place_record_is, records_of_held}
use Rattle.post_core.proofs.Folded.{owner_stays, pass_there, seen_there}

-- the sender of a pass is that of its view
pub of_its_sender : {M : Type 0} {s : ℕ} {ph : Phase} {own : List (List OwnMark)} {v : View M} → IsPass s ph own v → IsPass (pass_of v).number ph own v
of_its_sender o = record { view = o.view; number = refl; phase_is = o.phase_is; own_is = o.own_is; no_ring = o.no_ring; no_look = o.no_look }

module _ {X : Type 0} where
  pub any_at : (test : X → Bool) (xs : List X) → IsTrue (list_any test xs) → (k : ℕ) × (x : X) × (get_elem? xs k ≡ some x) × IsTrue (test x)
  any_at test [] some_is = absurd (cc)
  any_at test (x ∷ xs) some_is = first (test x) refl (any_at test xs) where
    first : (b : Bool) → test x ≡ b → (IsTrue (list_any test xs) → (k : ℕ) × (y : X) × (get_elem? xs k ≡ some y) × IsTrue (test y)) → (k : ℕ) × (y : X) × (get_elem? (x ∷ xs) k ≡ some y) × IsTrue (test y)
    first true is rec = (0, x, refl, is)
    first false is rec = let h = rec (subst (λ b. IsTrue (b || list_any test xs)) is some_is) in (suc h.0, h.1, h.2, h.3)

  pub get_at : (xs : List X) (k : ℕ) (x d : X) → get_elem? xs k ≡ some x → (k < length xs) × (get_or xs k d ≡ x)
  get_at [] k x d at = absurd (some-ne-none x (sym at))
  get_at (y ∷ xs) zero x d at = (omega arith, some-injective y x at)
  get_at (y ∷ xs) (suc k) x d at = let h = get_at xs k x d at in (let i = h.0 in omega arith, h.1)

  pub at_get : (xs : List X) (k : ℕ) (d : X) → k < length xs → get_elem? xs k ≡ some (get_or xs k d)
  at_get [] k d near = absurd (omega arith)
  at_get (x ∷ xs) zero d near = refl
  at_get (x ∷ xs) (suc k) d near = at_get xs k d (omega arith)

  pub any_default : (xs : List X) (k : ℕ) (d e : X) → k < length xs → get_or xs k d ≡ get_or xs k e
  any_default [] k d e near = absurd (omega arith)
  any_default (x ∷ xs) zero d e near = refl
  any_default (x ∷ xs) (suc k) d e near = any_default xs k d e (omega arith)

  some_left : (test : X → Bool) (xs : List X) (k : ℕ) (d : X) → k < length xs → IsTrue (test (get_or xs k d)) → 0 < length (filter test xs)
  some_left test [] k d near is = absurd (omega arith)
  some_left test (x ∷ xs) zero d near is = subst (λ b. 0 < length (if b then x ∷ filter test xs else filter test xs)) (sym is) (omega arith)
  some_left test (x ∷ xs) (suc k) d near is = let h = some_left test xs k d (omega arith) is in elim (test x) as (λ b. 0 < length (if b then x ∷ filter test xs else filter test xs)) [ true ↦ omega arith | false ↦ h ]

  pub counts_one : (test : X → Bool) (xs : List X) (k : ℕ) (d : X) → k < length xs → IsTrue (test (get_or xs k d)) → 0 < count_by test xs
  counts_one test xs k d near is = let h = some_left test xs k d near is in omega (arith, length-filter test xs)

-- where the senders of the passes are all in order, each sender has one
pub any_of_each : {X : Type 0} (sender : X → ℕ) (xs : List X) (n : ℕ) → AreEach n (map sender xs) → (s : ℕ) → s < n → IsTrue (list_any (λ x. sender x == s) xs)
any_of_each sender xs n each s near = any (λ x. sender x) xs s s (let wide = each.0 in omega (arith, length-map xs sender)) (each.1 s near) where
  any : {X : Type 0} (f : X → ℕ) (ys : List X) (k m : ℕ) → k < length ys → get_or (map f ys) k 0 ≡ m → IsTrue (list_any (λ x. f x == m) ys)
  any f [] k m inside is = absurd (omega arith)
  any f (y ∷ ys) zero m inside is = ap (λ b. b || list_any (λ x. f x == m) ys) (eq-eqb (f y) m is)
  any f (y ∷ ys) (suc k) m inside is = elim (f y == m) as (λ b. IsTrue (b || list_any (λ x. f x == m) ys)) [ true ↦ refl | false ↦ any f ys k m (omega arith) is ]

-- the marks that a pass keeps, of the marks that were put
pub own_of_kept : {M : Type 0} (n s : ℕ) (es : List (Entry M)) → map own_mark (kept_from n s es) ≡ own_from n s (marks_of es)
own_of_kept n s [] = refl
own_of_kept n s (e ∷ es) = elim (e.mark.sender == s) as (λ b. map own_mark (if b then Rattle.post_core.specs.Kept.kept n e ∷ kept_from (suc n) s es else kept_from (suc n) s es) ≡ (if b then record { nth = n; mark = e.mark } ∷ own_from (suc n) s (marks_of es) else own_from (suc n) s (marks_of es))) [
  | true ↦ ap (λ (ks : List OwnMark). record { nth = n; mark = e.mark } ∷ ks) (own_of_kept (suc n) s es)
  | false ↦ own_of_kept (suc n) s es
]

map_at : {X Y : Type 0} (f : X → Y) (xs : List X) (k : ℕ) (y : Y) → get_elem? (map f xs) k ≡ some y → (x : X) × (get_elem? xs k ≡ some x) × (f x ≡ y)
map_at f [] k y at = absurd (some-ne-none y (sym at))
map_at f (x ∷ xs) zero y at = (x, refl, some-injective (f x) y at)
map_at f (x ∷ xs) (suc k) y at = map_at f xs k y at

-- a sum over numbers, as a sum over a list
sum_first : (n : ℕ) (f : ℕ → ℕ) → sum_below (suc n) f ≡ f 0 + sum_below n (λ k. f (suc k))
sum_first zero f = omega arith
sum_first (suc n) f = let h = sum_first n f in omega arith

total_is : (xs : List ℕ) (n : ℕ) (f : ℕ → ℕ) → length xs ≡ n → ((k : ℕ) → k < n → get_or xs k 0 ≡ f k) → total_of xs ≡ sum_below n f
total_is [] n f wide each = ap (λ k. sum_below k f) wide
total_is (x ∷ xs) zero f wide each = absurd (omega arith)
total_is (x ∷ xs) (suc n) f wide each = let rest = total_is xs n (λ k. f (suc k)) (omega arith) (λ k near. each (suc k) (omega arith)) in let first = each 0 (omega arith) in let split = sum_first n f in omega arith

some_same : {X : Type 0} (x y : X) → Some x ≡ Some y → x ≡ y
some_same x y same = cc

module _ {M : Type 0} where
  -- the view has an idle pass of sender s
  pub record Covers (v : View M) (s : ℕ) : Type 0 where
    pub place : ℕ
    pub pass : PassView M
    pub at : get_elem? v.passes place ≡ some pass
    pub number : pass.number ≡ s
    pub idle : pass.phase ≡ phase.Idle

  -- the view is that of a target which is at its end
  pub record IsComplete (senders : ℕ) (v : View M) (o : OwnerView M) : Type 0 where
    pub owner : v.owner ≡ Some o
    pub no_turn : o.turn ≡ None
    pub covers : (s : ℕ) → s < senders → Covers v s

  module _ {J : Type 0} (meaning : J → M) (suits : ℕ → Mark → M → Type 0) (senders places : ℕ) (s : State (RingView (Item J)) (View M)) (r : Shown meaning suits senders places s) (id : ℕ) (v : View M) (at : get_elem? s.views id ≡ some v) (o : OwnerView M) (c : IsComplete senders v o) where
    abbrev w : WorldState
    w = r.world

    fits : Fits w r.entries r.seat r.chief id v
    fits = r.views id v at

    pub no_turn : (p : ℕ) → p < places → w.turn p ≡ None
    no_turn p near = of (w.turn p) refl where
      inside : p < w.places
      inside = let e = r.sized.places_are in omega arith

      of : (t : Option Actor) → w.turn p ≡ t → t ≡ None
      of None is = refl
      of (Some actor.Owner) is = let held : o.turn ≡ Some p = (fits.owner o c.owner).1.turns.turn_here p inside is in let none = c.no_turn in absurd (cc)
      of (Some (actor.Sender t)) is =
          let there : t < senders = let b = r.formed.turns p t inside is in let e = r.sized.senders_are in omega arith in
          let cover = c.covers t there in
          let has = (fits.passes cover.place cover.pass cover.at).turns.turn_here p inside (is ∙ ap (λ k. Some (actor.Sender k)) (sym cover.number)) in
          absurd (let b : has_turn_at p phase.Idle ≡ true = subst (λ ph. IsTrue (has_turn_at p ph)) cover.idle has in cc)

    -- nothing waits, since the owner has found that, or since no pass keeps a mark
    pub drained_done : ((p : ℕ) → get_or o.serving p serving.Away ≡ serving.Away) → ((word : ℕ) → word < 4 → get_or o.clear word false ≡ true) → (k : ℕ) → k < places → length (w.sent k) ≤ length (w.jobs k)
    drained_done away clear k near =
        let of = (fits.owner o c.owner).1 in
        let inside : k < w.places = (let e = r.sized.places_are in omega arith) in
        nothing_waits_once_emptied w k r.sound (of.clears.clear 0 (clear 0 (omega arith))).0 (λ p at. of.does.serving_is p at ∙ away p) (λ p at. (of.clears.clear (p / 64) (clear (p / 64) (let e = r.sized.places_are in let few = r.sized.few_places in omega arith))).1 p refl) inside

    pub fresh_done : (n : ℕ) → ((t : ℕ) → t < senders → (m : ℕ) × (get_elem? v.passes m ≡ some (fresh_pass n t))) → (k : ℕ) → k < places → length (w.sent k) ≤ length (w.jobs k)
    fresh_done n fresh k near = of (r.entries k) refl where
      inside : k < w.places
      inside = let e = r.sized.places_are in omega arith

      of : (es : List (Entry M)) → r.entries k ≡ es → length (w.sent k) ≤ length (w.jobs k)
      of [] is = let a = ap length (sym (r.marks k) ∙ ap marks_of is) in omega arith
      of (e ∷ es) is =
          let t = e.mark.sender in
          let sent_is : w.sent k ≡ marks_of (e ∷ es) = sym (r.marks k) ∙ ap marks_of is in
          let counted : 0 < count_by (is_by t) (w.sent k) = subst (λ ms. 0 < count_by (is_by t) ms) (sym sent_is) (counts_one (is_by t) (marks_of (e ∷ es)) 0 e.mark (omega arith) (eq-eqb t t refl)) in
          let there : t < senders = let b = r.formed.marks k t inside counted in let f = r.sized.senders_are in omega arith in
          let h = fresh t there in
          let own = (fits.passes h.0 (fresh_pass n t) h.1).owns in
          let none : listed (replicate n []) k ≡ [] = get_or-replicate n k [] [] (let a = own.own_wide in omega (arith, length-replicate {A = List (Rattle.post_core.specs.declared.views.Kept.Kept M)} n [])) in
          let one : kept_by t (e ∷ es) ≡ Rattle.post_core.specs.Kept.kept 0 e ∷ kept_from 1 t es = ap (λ b. if b then Rattle.post_core.specs.Kept.kept 0 e ∷ kept_from 1 t es else kept_from 1 t es) (eq-eqb t t refl) in
          let same : [] ≡ Rattle.post_core.specs.Kept.kept 0 e ∷ kept_from 1 t es = sym none ∙ (own.own_is k inside ∙ (ap (kept_by t) is ∙ one)) in
          absurd (let long = ap length same in omega arith)

    pub rings_idle : ((k : ℕ) → k < places → length (w.sent k) ≤ length (w.jobs k)) → (xs : List (RingView (Item J))) → length s.homes ≡ length xs → ((k : ℕ) (y : RingView (Item J)) → get_elem? s.homes k ≡ some (some y) → get_elem? xs k ≡ some y) → All (λ x. IsIdle x) xs
    rings_idle done xs wide same k d near =
        let first : k < places = (let a = r.slots.wide in omega arith) in
        let h = r.slots.ring_is k first (no_turn k first) in subst (λ x. IsIdle x) (sym (get_at xs k h.0 d (same k h.0 h.1)).1) (empty k (done k first) h.0 h.2) where
          empty : (k : ℕ) → length (w.sent k) ≤ length (w.jobs k) → (ring : RingView (Item J)) → map (Rattle.post_core.specs.Rule.meant meaning suits senders places) ring.items ≡ drop (length (w.jobs k)) (r.entries k) → ring.items ≡ []
          empty k over ring is =
              nil_from_length ring.items (let a = ap length is in let b = ap length (r.marks k) in omega (arith, length-map ring.items (Rattle.post_core.specs.Rule.meant meaning suits senders places), length-drop (length (w.jobs k)) (r.entries k), length-map (r.entries k) (λ (e : Entry M). e.mark)))

    pub ended : Ended senders places v
    ended = record {
      world = w;
      entries = r.entries;
      seat = r.seat;
      chief = r.chief;
      id = id;
      places_are = r.sized.places_are;
      few_places = let e = r.sized.places_are in let few = r.sized.few_places in omega arith;
      senders_are = r.sized.senders_are;
      sound = r.sound;
      formed = r.formed;
      marks = r.marks;
      fits = fits;
      created = r.tally.created;
      freed = r.tally.freed;
      lives = λ k pass there. r.tally.each id v at k pass there;
    }

  -- of any type of passes A
  module _ {A : Type 0} (view : A → View M) (own : A → List (List OwnMark)) (is_pass : (x : A) → IsPass (pass_of (view x)).number phase.Idle (own x) (view x)) (xs : List A) (ov : View M) (kept_jobs : List (List StartedJob)) (taken : List ℕ) (e : IsEmptied kept_jobs taken ov) (senders : ℕ) where
    abbrev sender : A → ℕ
    sender x = (pass_of (view x)).number

    abbrev v : View M
    v = all_joined ov (map view xs)

    abbrev o : OwnerView M
    o = owner_of ov

    owner_is : v.owner ≡ Some o
    owner_is = owner_stays ov o e.view.1 (map view xs)

    pass_at : (k : ℕ) (x : A) → get_elem? xs k ≡ some x → (m : ℕ) × (get_elem? v.passes m ≡ some (pass_of (view x)))
    pass_at k x at = pass_there ov (view x) (map view xs) k (pass_of (view x)) (at_map view xs k x at) (subst (λ ps. get_elem? ps 0 ≡ some (pass_of (view x))) (sym (is_pass x).view.0) refl)

    pub complete : ((s : ℕ) → s < senders → IsTrue (list_any (λ x. sender x == s) xs)) → IsComplete senders v o
    complete all = record {
      owner = owner_is;
      no_turn = e.no_turn;
      covers = λ s near. let h = any_at (λ x. sender x == s) xs (all s near) in let there = pass_at h.0 h.1 h.2 in record {
        place = there.0;
        pass = pass_of (view h.1);
        at = there.1;
        number = (is_pass h.1).number ∙ (let b = h.3 in grind (arith, nat_tests));
        idle = (is_pass h.1).phase_is;
      };
    }

    -- With what the end tells, the record of a place is that of the owner's jobs.
    module _ (places : ℕ) (all : (s : ℕ) → s < senders → IsTrue (list_any (λ x. sender x == s) xs)) (end : Ended senders places v) (wide : length taken ≡ places) where
      abbrev world : WorldState
      world = end.world

      abbrev held : ℕ → List (Held M)
      held p = listed o.jobs p

      of_owner : OwnerFits world end.entries o
      of_owner = (end.fits.owner o owner_is).1

      drained : (p : ℕ) → p < world.places → length (world.sent p) ≤ length (world.jobs p)
      drained p at = nothing_waits_once_emptied world p end.sound (of_owner.clears.clear 0 (e.clear 0 (omega arith))).0 (λ q near. of_owner.does.serving_is q near ∙ e.away q) (λ q near. (of_owner.clears.clear (q / 64) (e.clear (q / 64) (let few = end.few_places in omega arith))).1 q refl) at

      module _ (p : ℕ) (near : p < places) where
        inside : p < world.places
        inside = let e = end.places_are in omega arith

        pub jobs_are : map held_job (held p) ≡ world.jobs p
        jobs_are = of_owner.jobs.jobs_are p inside

        entries_are : map held_entry (held p) ≡ end.entries p
        entries_are = of_owner.jobs.marks_are p inside ∙ take_all (length (held p)) (end.entries p)
            (let done : length (world.sent p) ≤ length (world.jobs p) = drained p inside in let a = ap length (end.marks p) in let b = ap length jobs_are in omega (arith, length-map (end.entries p) (λ (x : Entry M). x.mark), length-map (held p) held_job))

        pub marks_are : marks_of (map held_entry (held p)) ≡ world.sent p
        marks_are = ap marks_of entries_are ∙ end.marks p

        -- what pass x keeps at p
        own_at : (x : A) → listed (own x) p ≡ map own_mark (listed (pass_of (view x)).own p)
        own_at x = ap (λ ks. listed ks p) (sym (is_pass x).own_is) ∙ Rattle.std.proofs.Math.ListN.get_or-map (λ kept. map own_mark kept) (pass_of (view x)).own p []

        pub kept_at : (k : ℕ) (x : A) → get_elem? xs k ≡ some x → listed (pass_of (view x)).own p ≡ kept_by (pass_of (view x)).number (end.entries p)
        kept_at k x at = let there = pass_at k x at in (end.fits.passes there.0 (pass_of (view x)) there.1).owns.own_is p inside

        abbrev owns : List (List OwnMark)
        owns = map (λ x. listed (own x) p) xs

        sender_at : (k : ℕ) (x : A) → get_elem? xs k ≡ some x → get_or (map sender xs) k 0 ≡ sender x
        sender_at k x at = (get_at (map sender xs) k (sender x) 0 (at_map sender xs k x at)).1

        are_owns : AreOwns (held p) owns
        are_owns = record {
          owner_of = λ j. get_or (map sender xs) j 0;
          each = λ j ks at. let h = map_at (λ x. listed (own x) p) xs j ks at in
              sym h.2 ∙ (own_at h.0 ∙ (ap (map own_mark) (kept_at j h.0 h.1)
              ∙ (λ i. map own_mark (kept_by (((is_pass h.0).number ∙ sym (sender_at j h.0 h.1)) i) (sym entries_are i)))));
          there = λ n d inner.
              let s = (get_or (held p) n d).mark.sender in
              let mark_is : get_or (world.sent p) n d.mark ≡ (get_or (held p) n d).mark = ap (λ (ms : List Mark). get_or ms n d.mark) (sym marks_are)
              ∙ (get_or-map (λ (x : Entry M). x.mark) (map held_entry (held p)) n (held_entry d) d.mark (omega (arith, length-map (held p) held_entry))
              ∙ ap (λ (x : Entry M). x.mark) (get_or-map held_entry (held p) n d (held_entry d) inner)) in
              let counted : 0 < count_by (is_by s) (world.sent p) = counts_one (is_by s) (world.sent p) n d.mark
              (let a = ap length marks_are in omega (arith, length-map (map held_entry (held p)) (λ (x : Entry M). x.mark), length-map (held p) held_entry))
              (eq-eqb (get_or (world.sent p) n d.mark).sender s (ap (λ (m : Mark). m.sender) mark_is)) in
              let h = any_at (λ x. sender x == s) xs (all s (let b = end.formed.marks p s inside counted in let e = end.senders_are in omega arith)) in
              (h.0, listed (own h.1) p, at_map (λ x. listed (own x) p) xs h.0 h.1 h.2, sender_at h.0 h.1 h.2 ∙ (let b = h.3 in grind (arith, nat_tests)));
        }

        pub record_is : place_record (listed kept_jobs p) (get_or taken p 0) owns ≡ map held_record (held p)
        record_is = place_record_is (held p) (listed kept_jobs p) (get_or taken p 0) (e.kept p (omega arith)) owns are_owns

      created_at : (p : ℕ) → p < places → AreEach senders (map sender xs) → (t : ℕ) → t < senders → get_or (map (λ u. get_or (pass_of u).created p 0) (map view xs)) t 0 ≡ end.created t p
      created_at p near each t below =
          let inside : t < length (map sender xs) = let a = each.0 in omega arith in
          let m = map_at sender xs t (get_or (map sender xs) t 0) (at_get (map sender xs) t 0 inside) in
          let h = pass_at t m.0 m.1 in
          let number : (pass_of (view m.0)).number ≡ t = (is_pass m.0).number ∙ (m.2 ∙ each.1 t below) in
          (get_at (map (λ u. get_or (pass_of u).created p 0) (map view xs)) t (get_or (pass_of (view m.0)).created p 0) 0 (at_map (λ u. get_or (pass_of u).created p 0) (map view xs) t (view m.0) (at_map view xs t m.0 m.1))).1
          ∙ (sym ((end.lives h.0 (pass_of (view m.0)) h.1).created_are p near) ∙ ap (λ k. end.created k p) number)

      -- what was found not free was created by others
      pub found : AreEach senders (map sender xs) → (k : ℕ) (x : A) → get_elem? xs k ≡ some x → FoundTaken (map view xs) (view x)
      found each k x at i y there =
          let h = pass_at k x at in
          let f = (end.lives h.0 (pass_of (view x)) h.1).found i y there in
          let total = total_is (map (λ u. get_or (pass_of u).created y.place 0) (map view xs)) senders (λ t. end.created t y.place) (let a = each.0 in omega (arith, length-map xs sender, length-map xs view, length-map (map view xs) (λ u. get_or (pass_of u).created y.place 0))) (λ t near. created_at y.place f.0 each t near) in
          let a = f.1 in omega arith

      -- a record whose places are those of the owner's jobs
      module _ (settled : (p : ℕ) → p < places → AreSettled (held p)) (r : PostRecord) (count : length r.places.items ≡ places) (is : (p : ℕ) → p < places → jobs_of r p ≡ map held_record (held p)) where
        of_place : (p : ℕ) → p < places → AreRecordsOf (world.sent p) (world.jobs p) (jobs_of r p)
        of_place p near = let there = records_of_held (held p) (settled p near) in record {
          marks_are = ap (map (λ (j : JobRecord). j.mark)) (is p near) ∙ (there.marks_are ∙ marks_are p near);
          jobs_are = ap (map job_of) (is p near) ∙ (there.jobs_are ∙ jobs_are p near);
        }

        is_record : IsRecordOf world r
        is_record = record {
          places = count ∙ sym end.places_are;
          each = λ p near. of_place p (let e = end.places_are in omega arith);
        }

        pub lawful : LawfulPost r
        lawful = records_are_lawful.lawful world r end.sound is_record

        as_wide : (p : ℕ) → p < places → length (jobs_of r p) ≡ length (world.sent p)
        as_wide p near = let a = ap length (of_place p near).marks_are in omega (arith, length-map (jobs_of r p) (λ (j : JobRecord). j.mark))

        -- what was seen is in the record
        in_record : (f : Fact M) → IsSo world.places world.refs end.entries world.jobs f → IsInRecord r f
        in_record fact.NoReferences so = tt
        in_record (fact.Reached p count) so = let near : p < places = let a = so.0 in let e = end.places_are in omega arith in
            let a = so.1 in let b = as_wide p near in let m = ap length (end.marks p) in omega (arith, length-map (end.entries p) (λ (x : Entry M). x.mark))
        in_record (fact.Settled p n mark meaning f) so = let near : p < places = let a = so.0 in let e = end.places_are in omega arith in
            let of = of_place p near in
            let inner : n < length (jobs_of r p) = let a = so.2 in let b = ap length of.jobs_are in omega (arith, length-map (jobs_of r p) job_of) in (
              inner,
              sym (get_or-map (λ (j : JobRecord). j.mark) (jobs_of r p) n blank_job no_mark inner)
                  ∙ (ap (λ (ms : List Mark). get_or ms n no_mark) (of.marks_are ∙ sym (end.marks p))
                  ∙ (get_at (marks_of (end.entries p)) n mark no_mark (at_map (λ (x : Entry M). x.mark) (end.entries p) n (record { mark = mark; meaning = meaning }) so.1)).1),
              some_same (get_or (jobs_of r p) n blank_job).fate f
                  (ap (λ (j : Job). j.fate) (sym (get_or-map job_of (jobs_of r p) n blank_job (active_job started.Direct) inner) ∙ ap (λ (js : List Job). get_or js n (active_job started.Direct)) of.jobs_are) ∙ so.3),
            )

        pub agrees : (k : ℕ) (x : A) → get_elem? xs k ≡ some x → AgreesWithPass r (view x)
        agrees k x at = record {
          own = λ p near'. let near : p < places = omega arith in
              ap (map own_mark) (kept_at p near k x at) ∙ (own_of_kept 0 (pass_of (view x)).number (end.entries p) ∙ ap (own_from 0 (pass_of (view x)).number) (end.marks p ∙ sym (of_place p near).marks_are));
          seen = λ i f there. let h = seen_there ov (view x) (map view xs) k i f (at_map view xs k x at) there in in_record f (end.fits.seen h.0 f h.1);
        }

  -- of passes as they are made
  module _ {A : Type 0} (view : A → View M) (xs : List A) (senders places : ℕ) (ov : View M) (first : ov ≡ dealing_view places senders 0) (dealt : AreDealt places (map view xs) senders) where
    pub fresh_there : (t : ℕ) → t < senders → (m : ℕ) × (get_elem? (all_joined ov (map view xs)).passes m ≡ some (fresh_pass places t))
    fresh_there t near = pass_there ov (fresh_view places t) (map view xs) t (fresh_pass places t)
        (at_get (map view xs) t (fresh_view places t) (let a = dealt.count in omega arith) ∙ ap some (dealt.fresh t (fresh_view places t) near)) refl

    pub fresh_complete : IsComplete senders (all_joined ov (map view xs)) (fresh_owner places)
    fresh_complete = record {
      owner = owner_stays ov (fresh_owner places) (ap (λ (u : View M). u.owner) first) (map view xs);
      no_turn = refl;
      covers = λ t near. let h = fresh_there t near in record { place = h.0; pass = fresh_pass places t; at = h.1; number = refl; idle = refl };
    }
