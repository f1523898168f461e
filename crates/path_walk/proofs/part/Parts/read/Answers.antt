use Rattle.std.proofs.Common.{map, ap, ◌∙◌}
use Rattle.path_walk.specs.Paths.{components}
use Rattle.path_walk.proofs.Components.{component_at}
use Rattle.path_walk.proofs.part.Parts.read.Goals as goal

pub read-requires-clause-some : goal.read-requires-clause-some
read-requires-clause-some c =
    let cut = ap (map (λ x. x.now)) c.as_slice-piece-items.ensures.value ∙ c.in_ok-pieces.ensures ∙ ap components c.as_bytes.ensures.value in
    (component_at (λ x. x.now) c.args.path.now c.as_slice-piece-items.result.now c.loop-piece.piece-index _ c.as_bytes.ensures.no_nul cut c.loop-piece-test.true).0

pub read-requires-clause-bytes : goal.read-requires-clause-bytes
read-requires-clause-bytes c =
    let cut = ap (map (λ x. x.now)) c.as_slice-piece-items.ensures.value ∙ c.in_ok-pieces.ensures ∙ ap components c.as_bytes.ensures.value in
    (component_at (λ x. x.now) c.args.path.now c.as_slice-piece-items.result.now c.loop-piece.piece-index _ c.as_bytes.ensures.no_nul cut c.loop-piece-test.true).1
