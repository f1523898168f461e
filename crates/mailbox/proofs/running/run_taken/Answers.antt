use Rattle.std.proofs.Common.{◌≡◌, Some, None, refl, sym, ap, ◌∙◌, subst}
use Rattle.std.specs.Prelude.{slice_get}
use Rattle.std.proofs.lemmas.Option.{slice_get_within}
use lib.ListN.{get_elem?}
use Rattle.proxy_laws.specs.declared.records.FateMark.TheVariants as fate
use Rattle.post_core.specs.Kept.{listed}
use Rattle.post_core.specs.OwnerViews.{exec_place, exec_view}
use Rattle.post_core.specs.SendParts.{post_target}
use Rattle.post_core.specs.Views.{job_settled}
use Rattle.mailbox.specs.declared.calls.RunJob.{RunJob}
use Rattle.mailbox.specs.declared.runner.Ran.TheVariants as ran
use Rattle.mailbox.specs.Calls.{run_job}
use Rattle.mailbox.specs.Deeds.{kept_job}
use Rattle.mailbox.specs.Runs.{run_calls}
use Rattle.mailbox.specs.Turns.{jobs_in}
use Rattle.mailbox.proofs.DeedLemmas.{seen_settled}
use Rattle.mailbox.proofs.running.run_taken.Goals as goal

pub settle-note-requires-clause-active : goal.settle-note-requires-clause-active
settle-note-requires-clause-active g c =
    let p = c.place-place.result in
    let job = run_job (post_target c.args.post.now) (exec_place c.args.exec.now) c.args.nth c.args.mark (g.J.Meant.meaning c.args.job) in
    let kept = kept_job job c.requires.taken.0 None in
    let at : slice_get (listed (jobs_in (exec_view c.args.exec.now)) p) c.args.nth ≡ Some kept = subst (λ q. slice_get (listed (jobs_in (exec_view c.args.exec.now)) q) c.args.nth ≡ Some kept) (sym c.place-place.ensures) c.requires.taken.1 in
    (slice_get_within (listed (jobs_in (exec_view c.args.exec.now)) p) c.args.nth kept at, (kept, at, refl))

pub tell-requires : goal.tell-requires
tell-requires g c =
    let p = c.place-place.result in
    let meaning = g.J.Meant.meaning c.args.job in
    let kept = kept_job (run_job (post_target c.args.post.now) (exec_place c.args.exec.now) c.args.nth c.args.mark meaning) c.requires.taken.0 None in
    let at : slice_get (listed (jobs_in (exec_view c.args.exec.now)) p) c.args.nth ≡ Some kept = subst (λ q. slice_get (listed (jobs_in (exec_view c.args.exec.now)) q) c.args.nth ≡ Some kept) (sym c.place-place.ensures) c.requires.taken.1 in
    let seen = seen_settled (exec_view c.args.exec.now) p c.args.nth fate.Finished kept at in
    record {
      job = run_job (g.R.Runner.target c.args.runner.now) p c.args.nth c.args.mark meaning;
      target_is = sym c.run.ensures.target;
      place_is = refl;
      nth_is = refl;
      seen = (seen.0, ap (λ u. get_elem? u.seen seen.0) c.settle-note.ensures.note.1 ∙ (ap (λ u. get_elem? u.seen seen.0) c.settle-note.ensures.owner.2 ∙ seen.1));
      suiting = c.in-Finished.ensures.tail;
    }

pub returns-in-Finished-clause-ran : goal.returns-in-Finished-clause-ran
returns-in-Finished-clause-ran g c =
    let tail = ran.Finished c.in-Finished.tail in
    let meaning = g.J.Meant.meaning c.args.job in
    let is : run_job (g.R.Runner.target c.args.runner.now) c.place-place.result c.args.nth c.args.mark meaning ≡ run_job (post_target c.args.post.now) (exec_place c.args.exec.now) c.args.nth c.args.mark meaning = λ i. run_job (c.requires.target i) (c.place-place.ensures i) c.args.nth c.args.mark meaning in (
      tail,
      subst (λ (j : RunJob g.row.J-Meaning.Denot). g.R.Runner.did c.args.runner.now (run_calls j tail) c.tell.new.self) is (g.met.R.Runner.did_on _ _ _ _ _ c.in-Finished.ensures.did c.tell.ensures.did),
      c.tell.ensures.held ∙ c.in-Finished.ensures.held,
      c.settle-note.ensures.owner.2 ∙ ap (λ q. job_settled q c.args.nth fate.Finished (exec_view c.args.exec.now)) c.place-place.ensures,
    )
