use Rattle.std.proofs.Common.{◌%◌, arith}
use Rattle.std.proofs.lemmas.Bool.{false≢true}
use Rattle.std.proofs.lemmas.List.{get_or-replicate}
use Rattle.file_store.proofs.contents.Contents.new.Goals as goal

pub invariant_of-result : goal.invariant_of-result
invariant_of-result c = rw c.new.ensures (record { tight = λ page some. absurd (false≢true some); past = λ i h. get_or-replicate 4096 (i % 4096) 0 0 (omega arith) })
