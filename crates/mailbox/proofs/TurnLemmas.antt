-- What comes of turns, one after another.
use Rattle.std.proofs.Common.{◌≡◌, ℕ, ◌+◌, ◌<◌, inl, inr, Some, None, List, [], ◌∷◌, ◌++◌, length, get_or, refl, arith, ap, ◌∙◌, subst, length-set}
use Rattle.std.specs.Prelude.{slice_get}
use Rattle.std.proofs.lemmas.Bool.{cases_lt}
use Rattle.std.proofs.lemmas.List.{get_or_past}
use Rattle.proxy_laws.specs.declared.actors.Serving.TheVariants as serving
use Rattle.proxy_laws.specs.declared.records.Mark.{Mark}
use Rattle.proxy_laws.specs.declared.records.Started.{Started}
use Rattle.proxy_laws.specs.Lists.{start_under}
use Rattle.post_core.specs.declared.meant.Meant.{Ghosts}
use Rattle.post_core.specs.declared.post.Post.{Post}
use Rattle.post_core.specs.declared.views.Held.{Held}
use Rattle.post_core.specs.declared.views.View.{View}
use Rattle.post_core.specs.Kept.{listed}
use Rattle.post_core.specs.OwnerViews.{exec_view}
use Rattle.post_core.specs.ServingSteps.{job_started}
use Rattle.post_core.specs.Steps.{IsActiveHere}
use Rattle.mailbox.specs.declared.calls.RunCall.{RunCall}
use Rattle.mailbox.specs.declared.calls.RunJob.{RunJob}
use Rattle.mailbox.specs.declared.running.Turn.{Turn}
use Rattle.mailbox.specs.declared.running.Turn.TheVariants as turn
use Rattle.mailbox.specs.Calls.{run_job}
use Rattle.mailbox.specs.Deeds.{StartsAs, kept_job}
use Rattle.mailbox.specs.Turns.{IsTurn, KeepsWork, NoneRun, WereRun, jobs_in, start_here}
use Rattle.mailbox.proofs.DeedLemmas.{done_as, done_more, done_none, done_same, done_since, started_there}

module _ {M : Type 0} where
  pub row_inside : (jobs : List (List (Held M))) (p n : ℕ) → n < length (listed jobs p) → p < length jobs
  row_inside jobs p n inside = elim (cases_lt p (length jobs)) [
    | inl there ↦ there
    | inr past ↦ absurd (let none = ap length (get_or_past jobs p [] past) in omega arith)
  ]

  -- a job that was taken stands last at its place
  pub taken_inside : (v w : View M) (p n : ℕ) (mark : Mark) (meaning : M) → w ≡ job_started p (record { mark = mark; meaning = meaning }) v → IsActiveHere (listed (jobs_in w) p) n → p < length (jobs_in v)
  taken_inside v w p n mark meaning is active = let inside = row_inside (jobs_in w) p n active.0 in let long = ap (λ u. length (jobs_in u)) is ∙ length-set (jobs_in v) p (listed (jobs_in v) p ++ record { mark = mark; meaning = meaning; started = start_here p v; fate = None } ∷ []) in omega arith

  pub taken_there : (target : ℕ) (v w : View M) (p n : ℕ) (mark : Mark) (meaning : M) → w ≡ job_started p (record { mark = mark; meaning = meaning }) v → n ≡ length (listed (jobs_in v) p) → IsActiveHere (listed (jobs_in w) p) n → slice_get (listed (jobs_in w) p) n ≡ Some (kept_job (run_job target p n mark meaning) (start_here p v) None)
  taken_there target v w p n mark meaning is n_is active = ap (λ u. slice_get (listed (jobs_in u) p) n) is ∙ started_there (jobs_in v) p n (kept_job (run_job target p n mark meaning) (start_here p v) None) (taken_inside v w p n mark meaning is active) n_is

  pub keeps_none : (v : View M) → KeepsWork v v
  keeps_none v = record { state = refl; serving = refl; got = refl }

  pub keeps_on : (u v w : View M) → KeepsWork u v → KeepsWork v w → KeepsWork u w
  keeps_on u v w a b = record { state = b.state ∙ a.state; serving = b.serving ∙ a.serving; got = b.got ∙ a.got }

  pub start_same : (p : ℕ) (v w : View M) → KeepsWork v w → start_here p w ≡ start_here p v
  start_same p v w k = λ i. start_under (k.state i) (get_or (k.serving i) p serving.Away)

module _ {M T R : Type 0} (did : R → List (RunCall M T) → R → Type 0) (held : R → List (RunJob M)) (target : ℕ) (on : (a b c : R) (xs ys : List (RunCall M T)) → did a xs b → did b ys c → did a (xs ++ ys) c) where
  pub none_on : (r r' r'' : R) → NoneRun did held target r r' → NoneRun did held target r' r'' → NoneRun did held target r r''
  none_on r r' r'' a b = (on r r' r'' [] [] a.0 b.0, b.1 ∙ a.1)

module _ {J M T R : Type 0} {g : Ghosts J M} (did : R → List (RunCall M T) → R → Type 0) (held : R → List (RunJob M)) (target : ℕ) (on : (a b c : R) (xs ys : List (RunCall M T)) → did a xs b → did b ys c → did a (xs ++ ys) c) where
  -- before the turn no job was run
  pub turn_since : (post : Post J M) (r r' r'' : R) (p q : ℕ) (v w : View M) (t : Turn J M g) → NoneRun did held target r r' → q ≡ p → w ≡ v → IsTurn did held target post r' r'' q w t → IsTurn did held target post r r'' p v t
  turn_since post r r' r'' p q v w (turn.Ran exec) none p_is v_is t = let u = subst (λ (x : ℕ × View M). IsTurn did held target post r' r'' x.0 x.1 (turn.Ran exec)) (λ i. (p_is i, v_is i)) t in
      (u.0, u.1, u.2, done_since did on (StartsAs (λ s. s ≡ start_here p v)) target 1 r r' r'' (jobs_in v) (jobs_in v) (jobs_in (exec_view exec)) (held r) (held r') (held r'') none.0 refl none.1 u.3)
  turn_since post r r' r'' p q v w (turn.Empty seen) none p_is v_is t = let u = subst (λ (x : ℕ × View M). IsTurn did held target post r' r'' x.0 x.1 (turn.Empty seen)) (λ i. (p_is i, v_is i)) t in
      (u.0, u.1, u.2, none_on did held target on r r' r'' none u.3)
  turn_since post r r' r'' p q v w (turn.NoMemory exec) none p_is v_is t = let u = subst (λ (x : ℕ × View M). IsTurn did held target post r' r'' x.0 x.1 (turn.NoMemory exec)) (λ i. (p_is i, v_is i)) t in
      (u.0, u.1, u.2, none_on did held target on r r' r'' none u.3)

module _ {M T R : Type 0} (did : R → List (RunCall M T) → R → Type 0) (held : R → List (RunJob M)) (target : ℕ) (on : (a b c : R) (xs ys : List (RunCall M T)) → did a xs b → did b ys c → did a (xs ++ ys) c) where
  -- jobs are run after others, by a start that is the same
  pub run_more : (P Q : Started → Type 0) → ((s : Started) → Q s → P s) → (n m : ℕ) (r r' r'' : R) (u v w : View M) → WereRun did held target P n r r' u v → WereRun did held target Q m r' r'' v w → WereRun did held target P (n + m) r r'' u w
  run_more P Q to n m r r' r'' u v w a b = done_more did on (StartsAs P) target n m r r' r'' (jobs_in u) (jobs_in v) (jobs_in w) (held r) (held r') (held r'') a (done_as did Q P to target m r' r'' (jobs_in v) (jobs_in w) (held r') (held r'') b)

  pub run_same : (P : Started → Type 0) (n : ℕ) (r r' r'' : R) (u v w : View M) → WereRun did held target P n r r' u v → NoneRun did held target r' r'' → jobs_in w ≡ jobs_in v → WereRun did held target P n r r'' u w
  run_same P n r r' r'' u v w a none is = done_same did on (StartsAs P) target n r r' r'' (jobs_in u) (jobs_in v) (jobs_in w) (held r) (held r') (held r'') a none.0 is none.1

module _ {M T R : Type 0} (did : R → List (RunCall M T) → R → Type 0) (held : R → List (RunJob M)) (target : ℕ) where
  pub run_none : (P : Started → Type 0) (r : R) (v : View M) → did r [] r → WereRun did held target P 0 r r v v
  run_none P r v none = done_none did (StartsAs P) target r r (jobs_in v) (jobs_in v) (held r) (held r) none refl refl

  pub run_as : (P Q : Started → Type 0) → ((s : Started) → P s → Q s) → (n : ℕ) (r r' : R) (v w : View M) → WereRun did held target P n r r' v w → WereRun did held target Q n r r' v w
  run_as P Q to n r r' v w a = done_as did P Q to target n r r' (jobs_in v) (jobs_in w) (held r) (held r') a
