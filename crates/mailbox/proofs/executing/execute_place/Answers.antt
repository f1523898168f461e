use Rattle.std.proofs.Common.{◌≡◌, ◌+◌, refl, arith, ap, ◌∙◌}
use Rattle.std.specs.Prelude.{min}
use Rattle.proxy_laws.specs.declared.records.Started.{Started}
use Rattle.post_core.specs.OwnerViews.{exec_place, exec_view, owner_view}
use Rattle.post_core.specs.SendParts.{post_target}
use Rattle.post_core.specs.Views.{owner_of}
use Rattle.mailbox.specs.Turns.{jobs_in, start_here}
use Rattle.mailbox.proofs.TurnLemmas.{keeps_none, keeps_on, run_more, run_none, run_same, start_same}
use Rattle.mailbox.proofs.executing.execute_place.Goals as goal

pub loop-init : goal.loop-init
loop-init g c = record {
  exec = c.requires.exec.0;
  place = refl;
  target = refl;
  keeps = keeps_none (exec_view c.args.exec);
  ran = (0, refl, run_none g.R.Runner.did g.R.Runner.held (post_target c.args.post.now) (λ s. s ≡ start_here (exec_place c.args.exec) (exec_view c.args.exec)) c.args.runner.now (exec_view c.args.exec) (g.met.R.Runner.did_none c.args.runner.now));
}

pub loop-preserved : goal.loop-preserved
loop-preserved g c =
    let l = c.loop in
    let i = l.invariant in
    let p = exec_place c.args.exec in
    let v = exec_view c.args.exec in
    let now = exec_view l.exec in
    let ran = c.in-Ran.ensures.turn in
    let n = i.ran.0 in
    let start : start_here (exec_place l.exec) now ≡ start_here p v = ap (λ q. start_here q now) i.place ∙ start_same p v now i.keeps in
    record {
      exec = ran.0;
      place = ran.1 ∙ i.place;
      target = c.run_next.ensures.target ∙ i.target;
      keeps = keeps_on v now (exec_view c.in-Ran.after) i.keeps ran.2;
      ran = (
        n + 1,
        (let before : l.count ≡ min n 4294967295 = i.ran.1 in omega (arith, before, c.saturating_add-count.ensures)),
        run_more g.R.Runner.did g.R.Runner.held (post_target c.args.post.now) g.met.R.Runner.did_on (λ (s : Started). s ≡ start_here p v) (λ (s : Started). s ≡ start_here (exec_place l.exec) now) (λ s is. is ∙ start) n 1 c.args.runner.now l.runner c.run_next.new.runner v now (exec_view c.in-Ran.after) i.ran.2 ran.3,
      );
    }

pub returns-in-Empty-clause-executed : goal.returns-in-Empty-clause-executed
returns-in-Empty-clause-executed g c =
    let l = c.loop in
    let i = l.invariant in
    let p = exec_place c.args.exec in
    let v = exec_view c.args.exec in
    let now = exec_view l.exec in
    let empty = c.in-Empty.ensures.turn in
    let owner = owner_view c.finish.result in (
      c.finish.ensures.0,
      ap (λ u. (owner_of u).got) c.finish.ensures.1 ∙ (ap (λ u. (owner_of u).got) empty.2 ∙ i.keeps.got),
      (
        i.ran.0,
        i.ran.1,
        run_same g.R.Runner.did g.R.Runner.held (post_target c.args.post.now) g.met.R.Runner.did_on (λ (s : Started). s ≡ start_here p v) i.ran.0 c.args.runner.now l.runner c.run_next.new.runner v now owner i.ran.2 empty.3
            (ap (λ u. jobs_in u) c.finish.ensures.1 ∙ ap (λ u. jobs_in u) empty.2),
      ),
    )

pub returns-in-NoMemory-clause-executed : goal.returns-in-NoMemory-clause-executed
returns-in-NoMemory-clause-executed g c =
    let l = c.loop in
    let i = l.invariant in
    let p = exec_place c.args.exec in
    let v = exec_view c.args.exec in
    let now = exec_view l.exec in
    let same = c.in-NoMemory.ensures.turn in
    let after = exec_view c.in-NoMemory.same in (
      same.0,
      same.1 ∙ i.place,
      record { state = ap (λ u. (owner_of u).state) same.2 ∙ i.keeps.state; serving = ap (λ u. (owner_of u).serving) same.2 ∙ i.keeps.serving; got = ap (λ u. (owner_of u).got) same.2 ∙ i.keeps.got },
      (
        i.ran.0,
        run_same g.R.Runner.did g.R.Runner.held (post_target c.args.post.now) g.met.R.Runner.did_on (λ (s : Started). s ≡ start_here p v) i.ran.0 c.args.runner.now l.runner c.run_next.new.runner v now after i.ran.2 same.3 (ap (λ u. jobs_in u) same.2),
      ),
    )
