use Rattle.std.proofs.Common.{rules, ◌≡◌, ◌/◌, ◌%◌, arith}
use Rattle.run_engine.specs.Generated.{link_text}
use Rattle.run_engine.proofs.DrawLemmas.{entry_has_no_nul}
use Rattle.run_engine.proofs.draws.Draws.symlink.Goals as goal

pub plain_path-requires : goal.plain_path-requires
plain_path-requires c =
    let text : c.deref.result.now ≡ link_text c.args.self = search rules in
    rw text (entry_has_no_nul (c.args.self.c / 16 % 16) (omega arith))
