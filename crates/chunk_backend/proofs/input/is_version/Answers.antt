use Rattle.std.proofs.Common.{◌∙◌, ap}
use Rattle.wf_core.specs.Names.{is_text}
use Rattle.chunk_backend.proofs.input.is_version.Goals as goal

pub returns : goal.returns
returns c = c.eq.ensures ∙ ap (is_text c.args.field.now) c.as_slice.ensures
