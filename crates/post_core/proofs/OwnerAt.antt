-- What the owner's view says of its state, step by step.
use Rattle.std.proofs.Common.{◌≡◌, ◌≢◌, ℕ, zero, suc, ◌+◌, ◌<◌, Bool, true, false, cond, None, List, [], ◌∷◌, ◌++◌, length, map, get_or, set, refl, arith, ap, sym, subst, ◌∙◌, length-append, length-set}
use Rattle.std.proofs.lemmas.List.{map-append}
use Rattle.std.proofs.lemmas.List.{get_or-set_same, get_or-set_other}
use mathlib.Core.Logic.{dite}
use native.Mathlib.Decide.{ℕ_discrete}
use Rattle.proxy_laws.specs.declared.actors.Serving.{Serving}
use Rattle.proxy_laws.specs.declared.actors.Serving.TheVariants as serving
use Rattle.proxy_laws.specs.Phases.{is_closed, serving_after_look}
use Rattle.proxy_laws.specs.Lists.{start_under}
use Rattle.proxy_laws.specs.declared.actors.OwnerState.TheVariants as owner
use Rattle.proxy_laws.specs.declared.records.Started.{Started}
use Rattle.proxy_laws.specs.declared.records.Started.TheVariants as start_of
use Rattle.post_core.specs.declared.views.Entry.{Entry}
use Rattle.post_core.specs.Kept.{listed}
use Rattle.post_core.specs.Records.{started_job}
use Rattle.post_core.specs.declared.records.StartedJob.{StartedJob}
use Rattle.post_core.specs.declared.views.Held.{Held}
use Rattle.post_core.specs.declared.views.View.{View}
use Rattle.post_core.specs.MailSteps.{notice_found, notice_taken, word_empty, words_empty}
use Rattle.post_core.specs.Parts.{IsOpen, IsOwner, IsOwnerAt, is_open_start, serving_of}
use Rattle.post_core.specs.ServingSteps.{at_serving, job_started, place_emptied, serving_at}
use Rattle.post_core.specs.Views.{owner_of}

-- a word of the mailbox more may be known to stay 0
pub word_kept : (b : Bool) (word : ℕ) (clear : List Bool) → length clear ≡ 4 → length (cond b (set clear word true) clear) ≡ 4
word_kept true word clear four = length-set clear word true ∙ four
word_kept false word clear four = four

module _ {M : Type 0} (started : List (List StartedJob)) (taken : List ℕ) (got : ℕ) where
  pub empty_still : (word : ℕ) (v : View M) → IsOwner started taken got v → IsOwner started taken got (word_empty word v)
  empty_still word v o = let was = o.stands in record {
    stands = record {
      view = (was.view.0, refl);
      state = was.state;
      no_turn = was.no_turn;
      no_ring = was.no_ring;
      none_noticed = was.none_noticed;
      got_is = was.got_is;
      wide = was.wide;
      rows = was.rows;
      words = word_kept (is_closed (owner_of v).state) word (owner_of v).clear was.words;
      kept = was.kept;
    };
    away = o.away;
  }

  pub all_empty_still : (word : ℕ) (v : View M) → IsOwner started taken got v → IsOwner started taken got (words_empty word v)
  all_empty_still zero v o = o
  all_empty_still (suc word) v o = empty_still word (words_empty word v) (all_empty_still word v o)

  pub still_as : (word : ℕ) (v u : View M) → u ≡ words_empty word v → IsOwner started taken got v → IsOwner started taken got u
  still_as word v u is o = subst (IsOwner started taken got) (sym is) (all_empty_still word v o)

  -- an owner that comes to do something at p alone
  module _ (p : ℕ) (near : p < length taken) (at_place : Serving) (v : View M) where
    set_here : length (owner_of v).serving ≡ length taken → get_or (set (owner_of v).serving p at_place) p serving.Away ≡ at_place
    set_here wide = get_or-set_same (owner_of v).serving p at_place serving.Away (omega arith)

    set_else : (q : ℕ) → q ≢ p → get_or (set (owner_of v).serving p at_place) q serving.Away ≡ serving_at q v
    set_else q ne = get_or-set_other (owner_of v).serving p q at_place serving.Away ne

    open_there : IsOpen started taken got v → IsOpen started taken got (at_serving p at_place v)
    open_there o = record {
      view = (o.view.0, refl);
      state = o.state;
      no_turn = o.no_turn;
      no_ring = o.no_ring;
      none_noticed = o.none_noticed;
      got_is = o.got_is;
      wide = length-set (owner_of v).serving p at_place ∙ o.wide;
      rows = o.rows;
      words = o.words;
      kept = o.kept;
    }

    pub comes_to : IsOwner started taken got v → IsOwnerAt p at_place started taken got (at_serving p at_place v)
    comes_to o = record { stands = open_there o.stands; here = set_here o.stands.wide; elsewhere = λ q ne. set_else q ne ∙ o.away q }

    pub goes_on : (before : Serving) → IsOwnerAt p before started taken got v → IsOwnerAt p at_place started taken got (at_serving p at_place v)
    goes_on before o = record { stands = open_there o.stands; here = set_here o.stands.wide; elsewhere = λ q ne. set_else q ne ∙ o.elsewhere q ne }

  pub comes_away : (p : ℕ) (v : View M) → IsOwnerAt p serving.Away started taken got v → IsOwner started taken got v
  comes_away p v o = record {
    stands = o.stands;
    away = λ q. dite (ℕ_discrete q p) (λ same. ap (λ k. serving_at k v) same ∙ o.here) (λ ne. o.elsewhere q ne);
  }

  -- the owner gets p under a notice that it has found
  pub gets : (p : ℕ) → p < length taken → (v : View M) → IsOwner started taken got v → IsOwnerAt p (serving.Got (got + 1)) started taken (got + 1) (notice_taken p (notice_found p v))
  gets p near v o = let was = o.stands in record {
    stands = record {
      view = (was.view.0, refl);
      state = was.state;
      no_turn = was.no_turn;
      no_ring = was.no_ring;
      none_noticed = refl;
      got_is = ap (λ n. n + 1) was.got_is;
      wide = length-set (owner_of v).serving p (serving.Got ((owner_of v).got + 1)) ∙ was.wide;
      rows = was.rows;
      words = was.words;
      kept = was.kept;
    };
    here = set_here p near (serving.Got ((owner_of v).got + 1)) v was.wide ∙ ap (λ n. serving.Got (n + 1)) was.got_is;
    elsewhere = λ q ne. set_else p near (serving.Got ((owner_of v).got + 1)) v q ne ∙ o.away q;
  }

  -- the owner starts a job of p
  module _ (p : ℕ) (near : p < length taken) (start : Started) (runs : is_open_start start ≡ true) (v : View M) (o : IsOwnerAt p (serving_of start) started taken got v) (e : Entry M) where
    starts_so : start_under (owner_of v).state (serving_at p v) ≡ start
    starts_so = (λ i. start_under (o.stands.state i) (o.here i)) ∙ by_start start runs where
      by_start : (x : Started) → is_open_start x ≡ true → start_under owner.Open (serving_of x) ≡ x
      by_start (start_of.Notice k) is = refl
      by_start start_of.Direct is = refl
      by_start start_of.Closing is = absurd (cc)

    abbrev held : Held M
    held = record { mark = e.mark; meaning = e.meaning; started = start_under (owner_of v).state (serving_at p v); fate = None }

    abbrev job : StartedJob
    job = record { mark = e.mark; started = start; fate = None }

    started_so : length started ≡ length taken → IsOwnerAt p (serving_of start) (set started p (listed started p ++ job ∷ [])) (set taken p (get_or taken p 0 + 1)) got (job_started p e v)
    started_so started_wide = let was = o.stands in let jobs_wide = was.rows in record {
      here = o.here;
      elsewhere = o.elsewhere;
      stands = record {
        view = (was.view.0, refl);
        state = was.state;
        no_turn = refl;
        no_ring = refl;
        none_noticed = was.none_noticed;
        got_is = was.got_is;
        wide = was.wide ∙ sym (length-set taken p (get_or taken p 0 + 1));
        rows = length-set (owner_of v).jobs p (listed (owner_of v).jobs p ++ held ∷ []) ∙ (jobs_wide ∙ sym (length-set taken p (get_or taken p 0 + 1)));
        words = was.words;
        kept = λ q at_q. dite (ℕ_discrete q p)
            (λ same. subst (λ k. (map started_job (listed (set (owner_of v).jobs p (listed (owner_of v).jobs p ++ held ∷ [])) k) ≡ listed (set started p (listed started p ++ job ∷ [])) k) × (get_or (set taken p (get_or taken p 0 + 1)) k 0 ≡ length (listed (set started p (listed started p ++ job ∷ [])) k))) (sym same)
            (let row = was.kept p near in (
              ap (map started_job) (get_or-set_same (owner_of v).jobs p (listed (owner_of v).jobs p ++ held ∷ []) [] (omega arith)) ∙ (map-append started_job (listed (owner_of v).jobs p) (held ∷ []) ∙ (λ i. row.0 i ++ record { mark = e.mark; started = starts_so i; fate = None } ∷ []) ∙ sym (get_or-set_same started p (listed started p ++ job ∷ []) [] (omega arith))),
              get_or-set_same taken p (get_or taken p 0 + 1) 0 near ∙ (ap (λ n. n + 1) row.1 ∙ (sym (length-append (listed started p) (job ∷ [])) ∙ ap length (sym (get_or-set_same started p (listed started p ++ job ∷ []) [] (omega arith))))),
            )))
            (λ ne. let row = was.kept q (let w = length-set taken p (get_or taken p 0 + 1) in omega arith) in (
              ap (map started_job) (get_or-set_other (owner_of v).jobs p q (listed (owner_of v).jobs p ++ held ∷ []) [] ne) ∙ (row.0 ∙ sym (get_or-set_other started p q (listed started p ++ job ∷ []) [] ne)),
              get_or-set_other taken p q (get_or taken p 0 + 1) 0 ne ∙ (row.1 ∙ ap length (sym (get_or-set_other started p q (listed started p ++ job ∷ []) [] ne))),
            ));
      };
    }

    pub starts_job : length started ≡ length taken → (now : List (List StartedJob)) (counts : List ℕ) (u : View M) → now ≡ set started p (listed started p ++ job ∷ []) → counts ≡ set taken p (get_or taken p 0 + 1) → u ≡ job_started p e v
        → IsOwnerAt p (serving_of start) now counts got u
    starts_job lists now counts u now_is counts_are u_is = subst (λ (x : List (List StartedJob) × List ℕ × View M). IsOwnerAt p (serving_of start) x.0 x.1 got x.2) (λ i. (sym now_is i, sym counts_are i, sym u_is i)) (started_so lists)

  -- the owner finds no job waiting at p
  pub empties : (p : ℕ) → p < length taken → (at_place : Serving) (v : View M) → IsOwnerAt p at_place started taken got v → IsOwnerAt p (serving_after_look at_place) started taken got (place_emptied p v)
  empties p near at_place v o = let was = o.stands in record {
    stands = record {
      view = (was.view.0, refl);
      state = was.state;
      no_turn = refl;
      no_ring = refl;
      none_noticed = was.none_noticed;
      got_is = was.got_is;
      wide = length-set (owner_of v).serving p (serving_after_look (serving_at p v)) ∙ was.wide;
      rows = was.rows;
      words = was.words;
      kept = was.kept;
    };
    here = set_here p near (serving_after_look (serving_at p v)) v was.wide ∙ ap serving_after_look o.here;
    elsewhere = λ q ne. set_else p near (serving_after_look (serving_at p v)) v q ne ∙ o.elsewhere q ne;
  }
