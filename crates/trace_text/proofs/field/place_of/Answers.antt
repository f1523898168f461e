use Rattle.memchr.specs.Find.{is_byte}
use Rattle.trace_text.proofs.FirstBytes.{place_is}
use Rattle.trace_text.proofs.field.place_of.Goals as goal

pub returns : goal.returns
returns c = place_is (is_byte c.args.byte) c.args.text.now c.memchr.result c.memchr.ensures
