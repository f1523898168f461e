use Rattle.std.proofs.Common.{◌≡◌, List, ℕ, IfOk, position, ap, rules, ◌∙◌, subst}
use Rattle.wf_core.specs.Names.{is_text}
use Rattle.chunk_backend.specs.Inputs.{Adds, Input, after_read, after_read_of}
use Rattle.chunk_backend.proofs.input.Input.read_read.Goals as goal

pub returns : goal.returns
returns c =
    let pos : c.position_of-file.result ≡ position (λ (other : List ℕ). is_text other c.in-Some.name.now) c.args.self.now.names =
    c.position_of-file.ensures.value ∙ ap (λ (names : List (List ℕ)). position (λ (other : List ℕ). is_text other c.in-Some.name.now) names) c.as_slice.ensures.value
    ∙ ap (λ (i : Input). position (λ (other : List ℕ). is_text other c.in-Some.name.now) i.names) c.self.view_is in
    let added : IfOk c.add_read.result (λ read. Adds (after_read_of c.args.self.now c.position_of-file.result c.in-Some.offset c.in-Some.count) read c.add_read.new.self) = search rules in
    let found = subst (λ file. IfOk c.add_read.result (λ read. Adds (after_read_of c.args.self.now file c.in-Some.offset c.in-Some.count) read c.add_read.new.self)) pos added in
    subst (λ o. IfOk c.add_read.result (λ read. Adds (after_read c.args.self.now o) read c.add_read.new.self)) c.in-Some.ensures found
