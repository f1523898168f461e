use Rattle.std.proofs.Common.{◌≡◌, ◌+◌, None, inr, refl, arith, ◌∙◌}
use Rattle.std.specs.Prelude.{min}
use Rattle.proxy_laws.specs.declared.records.Started.{Started}
use Rattle.proxy_laws.specs.declared.records.Started.TheVariants as started
use Rattle.post_core.specs.OwnerViews.{exec_view, owner_view}
use Rattle.post_core.specs.SendParts.{post_target}
use Rattle.post_core.specs.Views.{owner_of}
use Rattle.mailbox.specs.Turns.{IsStartAfter}
use Rattle.mailbox.proofs.NoticeLemmas.{none_jobs}
use Rattle.mailbox.proofs.TurnLemmas.{run_more, run_none, run_same}
use Rattle.mailbox.proofs.checking.serve_all.Goals as goal

pub loop-init : goal.loop-init
loop-init g c = record {
  owner = c.requires.owner;
  target = refl;
  got = (0, refl, omega arith);
  ran = (0, run_none g.R.Runner.did g.R.Runner.held (post_target c.args.post.now) (IsStartAfter None (owner_of (owner_view c.args.owner)).got) c.args.runner.now (owner_view c.args.owner) (g.met.R.Runner.did_none c.args.runner.now));
}

pub loop-preserved : goal.loop-preserved
loop-preserved g c =
    let l = c.loop in
    let i = l.invariant in
    let v = owner_view c.args.owner in
    let now = owner_view l.owner in
    let place = c.in-Place.ensures.served in
    let after : (owner_of now).got ≡ (owner_of v).got + i.got.0 = i.got.2 in
    record {
      owner = place.0;
      target = c.serve_next.ensures.target ∙ i.target;
      got = (
        i.got.0 + 1,
        (let before : l.notices ≡ min i.got.0 4294967295 = i.got.1 in omega (arith, before, c.saturating_add-notices.ensures)),
        (let e = place.1 in omega (arith, after, e)),
      );
      ran = (
        i.ran.0 + place.2.0,
        run_more g.R.Runner.did g.R.Runner.held (post_target c.args.post.now) g.met.R.Runner.did_on (IsStartAfter None (owner_of v).got) (λ (s : Started). s ≡ started.Notice ((owner_of now).got + 1)) (λ s is. inr ((owner_of now).got + 1, (let e : (owner_of now).got ≡ (owner_of v).got + i.got.0 = after in omega (arith, e)), is)) i.ran.0 place.2.0 c.args.runner.now l.runner c.serve_next.new.runner v now (owner_view c.in-Place.after) i.ran.1 place.2.1,
      );
    }

pub returns-in-Nothing-clause-checked : goal.returns-in-Nothing-clause-checked
returns-in-Nothing-clause-checked g c =
    let l = c.loop in
    let i = l.invariant in
    let v = owner_view c.args.owner in
    let now = owner_view l.owner in
    let none = c.in-Nothing.ensures.served in (
      none.0,
      (i.got.0, now, i.got.1, i.got.2, none.1),
      (
        i.ran.0,
        run_same g.R.Runner.did g.R.Runner.held (post_target c.args.post.now) g.met.R.Runner.did_on (IsStartAfter None (owner_of v).got) i.ran.0 c.args.runner.now l.runner c.serve_next.new.runner v now (owner_view c.in-Nothing.same) i.ran.1 none.2 (none_jobs now (owner_view c.in-Nothing.same) none.1),
      ),
    )

pub returns-in-NoMemory-clause-checked : goal.returns-in-NoMemory-clause-checked
returns-in-NoMemory-clause-checked g c =
    let l = c.loop in
    let i = l.invariant in
    let v = owner_view c.args.owner in
    let now = owner_view l.owner in
    let place = c.in-NoMemory.ensures.served in
    let after : (owner_of now).got ≡ (owner_of v).got + i.got.0 = i.got.2 in (
      place.0,
      place.1,
      (
        i.ran.0 + place.2.0,
        run_more g.R.Runner.did g.R.Runner.held (post_target c.args.post.now) g.met.R.Runner.did_on (IsStartAfter None (owner_of v).got) (λ (s : Started). s ≡ started.Notice ((owner_of now).got + 1)) (λ s is. inr ((owner_of now).got + 1, (let e : (owner_of now).got ≡ (owner_of v).got + i.got.0 = after in omega (arith, e)), is)) i.ran.0 place.2.0 c.args.runner.now l.runner c.serve_next.new.runner v now (exec_view c.in-NoMemory.exec) i.ran.1 place.2.1,
      ),
    )
