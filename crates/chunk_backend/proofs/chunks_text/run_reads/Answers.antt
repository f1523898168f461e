use Rattle.std.proofs.Common.{◌≢◌, ◌+◌, ◌<◌, ◌^◌, List, ◌∷◌, drop, slice_index_or, refl, subst, ap, arith, rules}
use Rattle.std.specs.Prelude.{pos}
use Rattle.std.proofs.lemmas.List.{drop_all, drop_more}
use Rattle.chunk_backend.specs.Chunks.{chunk_read}
use Rattle.chunk_backend.specs.ChunksText.{shown}
use Rattle.chunk_backend.specs.Reads.{IsReadAt}
use Rattle.chunk_backend.specs.Steps.{CountsHits}
use Rattle.chunk_backend.proofs.RunLemmas.{Running, runs, running_next}
use Rattle.chunk_backend.specs.declared.chunk.ChunkRead.{ChunkRead}
use Rattle.chunk_backend.specs.declared.chunk_answer.ChunkAnswer.TheVariants.{NoMemory}
use Rattle.chunk_backend.proofs.chunks_text.run_reads.Goals as goal

pub loop-read-preserved : goal.loop-read-preserved
loop-read-preserved c =
    let now = c.loop-read in
    let read : ChunkRead = slice_index_or c.args.reads.now now.read-index (chunk_read 0 (pos 0) 0) in
    let rest = drop (now.read-index + 1) c.args.reads.now in
    let answer = c.serve-served.result.answer in
    let step : IsReadAt (shown now.files) read answer (shown c.serve-served.new.files) = c.serve-served.ensures.read in
    let counts : CountsHits (shown now.files) read answer c.serve-served.result.hits = c.serve-served.ensures.hits in
    let memory : answer ≢ NoMemory = λ out. (let is = c.is_out_of_memory.ensures.1 out in let not = c.if-is_out_of_memory.false in cc) in
    let running : Running c.args.files.now now.files c.args.reads.now (read ∷ rest) c.args.text.now.items now.text.items now.number now.hits =
    subst (λ (left : List ChunkRead). Running c.args.files.now now.files c.args.reads.now left c.args.text.now.items now.text.items now.number now.hits)
    (drop_more c.args.reads.now now.read-index (chunk_read 0 (pos 0) 0) c.loop-read-test.true) now.invariant.running in
    let small : c.from-hits.result < 2 ^ 32 = search rules in
    record {
      running = running_next c.args.files.now now.files c.serve-served.new.files c.args.reads.now rest read answer c.args.text.now.items now.text.items c.push_read_line.new.text.items
          now.number now.hits c.serve-served.result.hits (now.hits + c.from-hits.result) (now.number + 1) running step counts memory
          c.in_ok-push_read_line.ensures (ap (λ n. now.hits + n) c.from-hits.ensures) refl;
      number = (let n = now.invariant.number in omega arith);
      few = (let f = now.invariant.few in omega arith);
    }

pub returns : goal.returns
returns c = runs c.args.files.now c.loop-read.files c.args.reads.now c.args.text.now.items c.loop-read.text.items c.loop-read.number c.loop-read.hits
    (subst (λ (rest : List ChunkRead). Running c.args.files.now c.loop-read.files c.args.reads.now rest c.args.text.now.items c.loop-read.text.items c.loop-read.number c.loop-read.hits)
    (drop_all c.loop-read.read-index c.args.reads.now c.loop-read-test.false) c.loop-read.invariant.running)
