-- What the view of an owner says that closes its target, step by step.
use Rattle.std.proofs.Common.{◌≡◌, ◌≢◌, ℕ, zero, suc, ◌+◌, ◌<◌, ◌≤◌, true, false, cond, Option, Some, None, List, [], ◌∷◌, ◌++◌, map, length, get_or, set, take, refl, arith, ap, sym, subst, ◌∙◌, length-append, length-set}
use Rattle.std.specs.Prelude.{◌/◌, IfSome, IsTrue, slice_get}
use Rattle.std.proofs.Math.ListN.{get_or-append}
use Rattle.std.proofs.lemmas.List.{get_or-set_same, get_or-set_other, length-map, map-append}
use mathlib.Core.Logic.{dite}
use native.Mathlib.Decide.{ℕ_discrete}
use Rattle.proxy_laws.specs.declared.actors.OwnerState.TheVariants as owner
use Rattle.proxy_laws.specs.declared.actors.Serving.{Serving}
use Rattle.proxy_laws.specs.declared.actors.Serving.TheVariants as serving
use Rattle.proxy_laws.specs.declared.records.FateMark.TheVariants as fate
use Rattle.proxy_laws.specs.declared.records.Started.{Started}
use Rattle.proxy_laws.specs.declared.records.Started.TheVariants as started_by
use Rattle.proxy_laws.specs.Lists.{start_under}
use Rattle.proxy_laws.specs.Phases.{is_closed, is_working}
use Rattle.post_core.specs.declared.records.StartedJob.{StartedJob}
use Rattle.post_core.specs.declared.views.Entry.{Entry}
use Rattle.post_core.specs.declared.views.Held.{Held}
use Rattle.post_core.specs.declared.views.View.{View}
use Rattle.post_core.specs.ClosingParts.{IsAtLeft, IsEnding, MayEmpty}
use Rattle.post_core.specs.ClosingSteps.{none_left, own_dropped, place_cleared, some_left}
use Rattle.post_core.specs.ClosingViews.{left_cleared}
use Rattle.post_core.specs.Kept.{listed}
use Rattle.post_core.specs.MailSteps.{IsFirstNotice, notice_found, notice_taken, words_empty}
use Rattle.post_core.specs.Parts.{IsEmptied, IsOpen, IsOwner, IsOwnerAt, is_open_start, serving_of}
use Rattle.post_core.specs.Records.{IsKept, started_job}
use Rattle.post_core.specs.ServingSteps.{job_started, serving_at}
use Rattle.post_core.specs.Steps.{IsActiveHere}
use Rattle.post_core.specs.Views.{job_settled, owner_of, settled_as, settled_held}
use Rattle.post_core.proofs.OwnerAt.{word_kept}

take_all : {X : Type 0} (xs : List X) → take (length xs) xs ≡ xs
take_all [] = refl
take_all (x ∷ xs) = ap (λ ys. x ∷ ys) (take_all xs)

pub some_same : (p q : ℕ) → Some p ≡ Some q → p ≡ q
some_same p q e = cc

pub none_is_not : (q : ℕ) → None ≡ Some q → ⊥
none_is_not q e = cc

-- an owner that works at p and is at no other place
at_one : (p : ℕ) (at_place : ℕ → Serving) → IsTrue (is_working owner.Closed (at_place p)) → ((q : ℕ) → q ≢ p → at_place q ≡ serving.Away)
    → ((q : ℕ) → Some p ≡ Some q → IsTrue (is_working owner.Closed (at_place q))) × ((q : ℕ) → Some p ≢ Some q → at_place q ≡ serving.Away)
at_one p at_place works away = (
  λ q same. subst (λ k. IsTrue (is_working owner.Closed (at_place k))) (some_same p q same) works,
  λ q other. away q (λ e. other (ap Some (sym e))),
)

-- an owner that keeps all the jobs that it took keeps the first of them
kept_of_all : {M : Type 0} (held : List (Held M)) (kept_jobs : List StartedJob) (taken : ℕ) → map started_job held ≡ kept_jobs → taken ≡ length kept_jobs → IsKept held kept_jobs taken
kept_of_all held kept_jobs taken all counted = let a = ap length all in record {
  taken_is = omega (arith, length-map held started_job);
  few = omega (arith, length-map held started_job);
  front = ap (take (length kept_jobs)) all ∙ take_all kept_jobs;
  back = λ n d past inside. absurd (omega (arith, length-map held started_job));
}

module _ {X : Type 0} where
  pub last_is : (xs : List X) (x : X) → slice_get (xs ++ x ∷ []) (length xs) ≡ Some x
  last_is [] x = refl
  last_is (y ∷ xs) x = last_is xs x

  last_or : (xs : List X) (x d : X) → get_or (xs ++ x ∷ []) (length xs) d ≡ x
  last_or [] x d = refl
  last_or (y ∷ xs) x d = last_or xs x d

  pub set_last : (xs : List X) (x z : X) → set (xs ++ x ∷ []) (length xs) z ≡ xs ++ z ∷ []
  set_last [] x z = refl
  set_last (y ∷ xs) x z = ap (λ ys. y ∷ ys) (set_last xs x z)

  take_front : (n : ℕ) (xs ys : List X) → n ≤ length xs → take n (xs ++ ys) ≡ take n xs
  take_front zero xs ys few = refl
  take_front (suc n) [] ys few = absurd (omega arith)
  take_front (suc n) (x ∷ xs) ys few = ap (λ zs. x ∷ zs) (take_front n xs ys (omega arith))

-- a job more that a closed owner has cancelled
kept_more : {M : Type 0} (held : List (Held M)) (kept_jobs : List StartedJob) (taken : ℕ) (h : Held M) → h.started ≡ started_by.Closing → h.fate ≡ Some fate.Cancelled → IsKept held kept_jobs taken → IsKept (held ++ h ∷ []) kept_jobs (length held + 1)
kept_more held kept_jobs taken h closing cancelled k = record {
  taken_is = omega (arith, length-append held (h ∷ []));
  few = let a = k.few in omega (arith, length-append held (h ∷ []));
  front = ap (take (length kept_jobs)) (map-append started_job held (h ∷ [])) ∙ (take_front (length kept_jobs) (map started_job held) (started_job h ∷ []) (let a = k.few in omega (arith, length-map held started_job)) ∙ k.front);
  back = λ n d past inside. dite (ℕ_discrete n (length held))
      (λ same. subst (λ m. ((get_or (held ++ h ∷ []) m d).started ≡ started_by.Closing) × ((get_or (held ++ h ∷ []) m d).fate ≡ Some fate.Cancelled)) (sym same)
      (ap (λ (x : Held _). x.started) (last_or held h d) ∙ closing, ap (λ (x : Held _). x.fate) (last_or held h d) ∙ cancelled))
      (λ ne. let before : n < length held = omega (arith, length-append held (h ∷ [])) in let b = k.back n d past before in
      (ap (λ (x : Held _). x.started) (get_or-append held (h ∷ []) d n before) ∙ b.0, ap (λ (x : Held _). x.fate) (get_or-append held (h ∷ []) d n before) ∙ b.1));
}

module _ {M : Type 0} (started : List (List StartedJob)) (taken : List ℕ) (got : ℕ) (v : View M) where
  closes_at : (left : Option ℕ) → IsAtLeft left v → IsOpen started taken got v → IsEnding owner.Closing left started taken got (own_dropped v)
  closes_at left at_left o = record {
    view = (o.view.0, refl);
    state_is = refl;
    at_left = at_left;
    no_turn = o.no_turn;
    no_ring = o.no_ring;
    none_noticed = o.none_noticed;
    got_is = o.got_is;
    wide = o.wide;
    rows = o.rows;
    words = o.words;
    kept = λ p near. let k = o.kept p near in kept_of_all _ _ _ k.0 k.1;
  }

  pub closes : (u : View M) → u ≡ own_dropped v → IsOwner started taken got v → IsEnding owner.Closing None started taken got u
  closes u is o = subst (IsEnding owner.Closing None started taken got) (sym is) (closes_at None (λ p is. absurd (none_is_not p is), λ q other. o.away q) o.stands)

  pub closes_from : (p : ℕ) (start : Started) (u : View M) → u ≡ own_dropped v → is_open_start start ≡ true → IsOwnerAt p (serving_of start) started taken got v → IsEnding owner.Closing (Some p) started taken got u
  closes_from p start u is runs o = subst (IsEnding owner.Closing (Some p) started taken got) (sym is) (closes_at (Some p) (at_one p (λ k. serving_at k v) (ap (is_working owner.Closed) o.here ∙ works start runs) o.elsewhere) o.stands) where
    works : (x : Started) → is_open_start x ≡ true → is_working owner.Closed (serving_of x) ≡ true
    works (started_by.Notice k) e = refl
    works started_by.Direct e = refl
    works started_by.Closing e = absurd (cc)

  module _ (left : Option ℕ) (o : IsEnding owner.Closing left started taken got v) where
    pub is_closed_now : (u : View M) → u ≡ none_left v → IsEnding owner.Closed left started taken got u
    is_closed_now u is = subst (IsEnding owner.Closed left started taken got) (sym is) (record {
      view = (o.view.0, refl);
      state_is = refl;
      at_left = o.at_left;
      no_turn = o.no_turn;
      no_ring = o.no_ring;
      none_noticed = o.none_noticed;
      got_is = o.got_is;
      wide = o.wide;
      rows = o.rows;
      words = o.words;
      kept = o.kept;
    })

    pub closes_still : (count : ℕ) (u : View M) → u ≡ some_left count v → IsEnding owner.Closing left started taken got u
    closes_still count u is = subst (IsEnding owner.Closing left started taken got) (sym is) (record {
      view = (o.view.0, refl);
      state_is = o.state_is;
      at_left = o.at_left;
      no_turn = o.no_turn;
      no_ring = o.no_ring;
      none_noticed = o.none_noticed;
      got_is = o.got_is;
      wide = o.wide;
      rows = o.rows;
      words = o.words;
      kept = o.kept;
    })

  -- a closed owner that finds words of the mailbox 0
  words_more : (word : ℕ) → IsEnding owner.Closed None started taken got v → IsEnding owner.Closed None started taken got (words_empty word v)
  words_more zero o = o
  words_more (suc word) o = let before = words_more word o in record {
    view = (before.view.0, refl);
    state_is = before.state_is;
    at_left = before.at_left;
    no_turn = before.no_turn;
    no_ring = before.no_ring;
    none_noticed = before.none_noticed;
    got_is = before.got_is;
    wide = before.wide;
    rows = before.rows;
    words = word_kept (is_closed (owner_of (words_empty word v)).state) word (owner_of (words_empty word v)).clear before.words;
    kept = before.kept;
  }

  clear_to : (k : ℕ) → k ≤ 4 → IsEnding owner.Closed None started taken got v → (word : ℕ) → word < k → get_or (owner_of (words_empty k v)).clear word false ≡ true
  clear_to zero few o word below = absurd (omega arith)
  clear_to (suc k) few o word below =
      let before = words_more k o in
      let clear = (owner_of (words_empty k v)).clear in
      ap (λ b. get_or (cond b (set clear k true) clear) word false) (ap is_closed before.state_is)
      ∙ dite (ℕ_discrete word k)
      (λ same. ap (λ i. get_or (set clear k true) i false) same ∙ get_or-set_same clear k true false (let four = before.words in omega arith))
      (λ ne. get_or-set_other clear k word true false ne ∙ clear_to k (omega arith) o word (omega arith))

  -- it is then done
  pub is_emptied_now : (u : View M) → u ≡ words_empty 4 v → IsEnding owner.Closed None started taken got v → IsEmptied started taken u
  is_emptied_now u is o = let e = words_more 4 o in subst (IsEmptied started taken) (sym is) (record {
    view = e.view;
    state = e.state_is;
    no_turn = e.no_turn;
    rows = e.rows;
    away = λ q. e.at_left.1 q (none_is_not q);
    clear = clear_to 4 (omega arith) o;
    kept = e.kept;
  })

  module _ (p : ℕ) (near : p < length taken) where
    -- it gets the next notice
    gets_more : IsEnding owner.Closed None started taken got v → IsEnding owner.Closed (Some p) started taken (got + 1) (notice_taken p (notice_found p v))
    gets_more o = record {
      view = (o.view.0, refl);
      state_is = o.state_is;
      at_left = at_one p (λ k. get_or (set (owner_of v).serving p (serving.Got ((owner_of v).got + 1))) k serving.Away)
          (ap (is_working owner.Closed) (get_or-set_same (owner_of v).serving p (serving.Got ((owner_of v).got + 1)) serving.Away (let wide = o.wide in omega arith)))
          (λ q ne. get_or-set_other (owner_of v).serving p q (serving.Got ((owner_of v).got + 1)) serving.Away ne ∙ o.at_left.1 q (none_is_not q));
      no_turn = o.no_turn;
      no_ring = o.no_ring;
      none_noticed = refl;
      got_is = ap (λ n. n + 1) o.got_is;
      wide = length-set (owner_of v).serving p (serving.Got ((owner_of v).got + 1)) ∙ o.wide;
      rows = o.rows;
      words = o.words;
      kept = o.kept;
    }

    -- it is done with p
    clears : IsEnding owner.Closed (Some p) started taken got v → IsEnding owner.Closed None started taken got (place_cleared p v)
    clears o = record {
      view = (o.view.0, refl);
      state_is = o.state_is;
      at_left = (
        λ q is. absurd (none_is_not q is),
        λ q other. dite (ℕ_discrete q p)
            (λ same. ap (λ k. get_or (set (owner_of v).serving p serving.Away) k serving.Away) same ∙ get_or-set_same (owner_of v).serving p serving.Away serving.Away (let wide = o.wide in omega arith))
            (λ ne. get_or-set_other (owner_of v).serving p q serving.Away serving.Away ne ∙ o.at_left.1 q (λ e. ne (sym (some_same p q e)))),
      );
      no_turn = refl;
      no_ring = refl;
      none_noticed = o.none_noticed;
      got_is = o.got_is;
      wide = length-set (owner_of v).serving p serving.Away ∙ o.wide;
      rows = o.rows;
      words = o.words;
      kept = o.kept;
    }

    -- it may empty p
    pub may_empty : IsEnding owner.Closed (Some p) started taken got v → MayEmpty p v
    may_empty o = record {
      view = o.view;
      closed = o.state_is;
      no_turn = o.no_turn;
      works = ap (λ state. is_working state (serving_at p v)) o.state_is ∙ o.at_left.0 p refl;
      row = let rows = o.rows in omega arith;
    }

    -- it cancels the first job that waits at p
    module _ (n : ℕ) (e : Entry M) (o : IsEnding owner.Closed (Some p) started taken got v) (n_is : n ≡ length (listed (owner_of v).jobs p)) where
      abbrev row : List (Held M)
      row = listed (owner_of v).jobs p

      abbrev held : Held M
      held = record { mark = e.mark; meaning = e.meaning; started = start_under (owner_of v).state (serving_at p v); fate = None }

      abbrev jobs_then : List (List (Held M))
      jobs_then = set (owner_of v).jobs p (row ++ held ∷ [])

      row_then : listed jobs_then p ≡ row ++ held ∷ []
      row_then = get_or-set_same (owner_of v).jobs p (row ++ held ∷ []) [] (let rows = o.rows in omega arith)

      found : slice_get (listed jobs_then p) n ≡ Some held
      found = ap (λ l. slice_get l n) row_then ∙ (ap (slice_get (row ++ held ∷ [])) n_is ∙ last_is row held)

      active : IsActiveHere (listed jobs_then p) n
      active = (let a = ap length row_then in omega (arith, length-append row (held ∷ [])), (held, found, refl))

      abbrev cancelled : Held M
      cancelled = settled_held fate.Cancelled held

      row_now : set (listed jobs_then p) n cancelled ≡ row ++ cancelled ∷ []
      row_now = ap (λ l. set l n cancelled) row_then ∙ (ap (λ i. set (row ++ held ∷ []) i cancelled) n_is ∙ set_last row held cancelled)

      abbrev jobs_now : List (List (Held M))
      jobs_now = set jobs_then p (set (listed jobs_then p) n cancelled)

      abbrev counts_now : List ℕ
      counts_now = set taken p (n + 1)

      kept_now : (q : ℕ) → q < length counts_now → IsKept (listed jobs_now q) (listed started q) (get_or counts_now q 0)
      kept_now q at_q = let inside : q < length taken = (let w = length-set taken p (n + 1) in omega arith) in dite (ℕ_discrete q p)
          (λ same. subst (λ k. IsKept (listed jobs_now k) (listed started k) (get_or counts_now k 0)) (sym same)
          (subst (λ (x : List (Held M) × ℕ). IsKept x.0 (listed started p) x.1)
          (λ i. (sym (get_or-set_same jobs_then p (set (listed jobs_then p) n cancelled) [] (let rows = o.rows in let w = length-set (owner_of v).jobs p (row ++ held ∷ []) in omega arith) ∙ row_now) i, sym (get_or-set_same taken p (n + 1) 0 near ∙ ap (λ k. k + 1) n_is) i))
          (kept_more row (listed started p) (get_or taken p 0) cancelled (ap (λ state. start_under state (serving_at p v)) o.state_is) refl (o.kept p near))))
          (λ ne. subst (λ (x : List (Held M) × ℕ). IsKept x.0 (listed started q) x.1)
          (λ i. (sym (get_or-set_other jobs_then p q (set (listed jobs_then p) n cancelled) [] ne ∙ get_or-set_other (owner_of v).jobs p q (row ++ held ∷ []) [] ne) i, sym (get_or-set_other taken p q (n + 1) 0 ne) i))
          (o.kept q inside))

      cancels_now : IsEnding owner.Closed (Some p) started counts_now got (settled_as p n fate.Cancelled (Some held) (job_started p e v))
      cancels_now = record {
        view = (o.view.0, refl);
        state_is = o.state_is;
        at_left = o.at_left;
        no_turn = refl;
        no_ring = refl;
        none_noticed = o.none_noticed;
        got_is = o.got_is;
        wide = o.wide ∙ sym (length-set taken p (n + 1));
        rows = length-set jobs_then p (set (listed jobs_then p) n cancelled) ∙ (length-set (owner_of v).jobs p (row ++ held ∷ []) ∙ (o.rows ∙ sym (length-set taken p (n + 1))));
        words = o.words;
        kept = kept_now;
      }

      pub cancels : (now : List (List StartedJob)) (counts : List ℕ) (u : View M) → now ≡ started → counts ≡ counts_now → u ≡ job_settled p n fate.Cancelled (job_started p e v) → IsEnding owner.Closed (Some p) now counts got u
      cancels now counts u now_is counts_are u_is = subst (λ (x : List (List StartedJob) × List ℕ × View M). IsEnding owner.Closed (Some p) x.0 x.1 got x.2)
          (λ i. (sym now_is i, sym counts_are i, sym (u_is ∙ ap (λ h. settled_as p n fate.Cancelled h (job_started p e v)) found) i))
          cancels_now

-- a job that the owner has just taken is active
pub taken_is_active : {M : Type 0} (v : View M) (p n : ℕ) (e : Entry M) → p < length (owner_of v).jobs → n ≡ length (listed (owner_of v).jobs p) → IsActiveHere (listed (owner_of (job_started p e v)).jobs p) n
taken_is_active {M} v p n e row_there n_is =
    let row : List (Held M) = listed (owner_of v).jobs p in
    let held : Held M = record { mark = e.mark; meaning = e.meaning; started = start_under (owner_of v).state (serving_at p v); fate = None } in
    let then_is : listed (set (owner_of v).jobs p (row ++ held ∷ [])) p ≡ row ++ held ∷ [] = get_or-set_same (owner_of v).jobs p (row ++ held ∷ []) [] row_there in
    (let a = ap length then_is in omega (arith, length-append row (held ∷ [])), (held, ap (λ l. slice_get l n) then_is ∙ (ap (slice_get (row ++ held ∷ [])) n_is ∙ last_is row held), refl))

module _ {M : Type 0} (started : List (List StartedJob)) (taken : List ℕ) (got : ℕ) where
  -- nothing is left at the place that was left
  pub clears_left : (left : Option ℕ) (v u : View M) → IfSome left (λ p. p < length taken) → u ≡ left_cleared left v → IsEnding owner.Closed left started taken got v → IsEnding owner.Closed None started taken got u
  clears_left None v u near is o = subst (IsEnding owner.Closed None started taken got) (sym is) o
  clears_left (Some p) v u near is o = subst (IsEnding owner.Closed None started taken got) (sym is) (clears started taken got v p near o)

  pub gets_next : (p : ℕ) (v u : View M) → p < length taken → IsFirstNotice p v u → IsEnding owner.Closed None started taken got v → IsEnding owner.Closed (Some p) started taken (got + 1) u
  gets_next p v u near first o = subst (IsEnding owner.Closed (Some p) started taken (got + 1)) (sym first.3) (gets_more started taken got (words_empty (p / 64) v) p near (words_more started taken got v (p / 64) o))

  pub may_empty_left : (left : Option ℕ) (v : View M) → IfSome left (λ p. p < length taken) → IsEnding owner.Closed left started taken got v → IfSome left (λ p. MayEmpty p v)
  may_empty_left None v near o = tt
  may_empty_left (Some p) v near o = may_empty started taken got v p near o
