use Rattle.std.proofs.Common.{rules, ◌≡◌, ◌++◌, arith}
use Rattle.run_engine.specs.Generated.{entry_name, prefix_of}
use Rattle.run_engine.proofs.DrawLemmas.{path_has_no_nul}
use Rattle.run_engine.proofs.draws.path.Goals as goal

pub plain_path-requires : goal.plain_path-requires
plain_path-requires c =
    let text : c.deref.result.now ≡ prefix_of c.args.prefix ++ entry_name c.args.entry = search rules in
    rw text (path_has_no_nul c.args.prefix c.args.entry (omega arith))
