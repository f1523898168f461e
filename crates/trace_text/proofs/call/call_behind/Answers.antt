use Rattle.std.proofs.Common.{◌≡◌, sym, subst, ◌∙◌}
use Rattle.std.specs.Option.{option_copied}
use Rattle.std.specs.Result.{IfOk}
use Rattle.trace_text.specs.Fields.{fields_in}
use Rattle.trace_text.proofs.Rows.{Found, found_first, found_second, found_third, found_fourth, found_last}
use Rattle.trace_text.proofs.call.call_behind.Goals as goal

pub returns-in-Some : goal.returns-in-Some
returns-in-Some c =
    let fields = fields_in (option_copied c.args.fields) in
    let openings = c.args.openings.now in
    found_first c.args.version c.args.word.now openings fields c.in-Some.call (sym (c.in_ok-call.ensures openings) ∙ c.in-Some.is)

pub returns-in-Some-2 : goal.returns-in-Some-2
returns-in-Some-2 c =
    let fields = fields_in (option_copied c.args.fields) in
    let openings = c.args.openings.now in
    found_second c.args.version c.args.word.now openings fields c.in-Some-2.call (sym (c.in_ok-call.ensures openings) ∙ c.in_default.is) (sym (c.in_ok-call-2.ensures openings) ∙ c.in-Some-2.is)

pub returns-in-Some-descriptor_call : goal.returns-in-Some-descriptor_call
returns-in-Some-descriptor_call c =
    let fields = fields_in (option_copied c.args.fields) in
    let openings = c.args.openings.now in
    found_third c.args.version c.args.word.now openings fields c.in-Some-descriptor_call.call (sym (c.in_ok-call.ensures openings) ∙ c.in_default.is) (sym (c.in_ok-call-2.ensures openings) ∙ c.in_default-2.is)
    (sym c.descriptor_call.ensures ∙ c.in-Some-descriptor_call.is)

pub returns-in-Some-3 : goal.returns-in-Some-3
returns-in-Some-3 c =
    let fields = fields_in (option_copied c.args.fields) in
    let openings = c.args.openings.now in
    found_fourth c.args.version c.args.word.now openings fields c.in-Some-3.call (sym (c.in_ok-call.ensures openings) ∙ c.in_default.is) (sym (c.in_ok-call-2.ensures openings) ∙ c.in_default-2.is)
    (sym c.descriptor_call.ensures ∙ c.in_default-descriptor_call.is) (sym c.in_ok-call-3.ensures ∙ c.in-Some-3.is)

pub returns : goal.returns
returns c =
    let fields = fields_in (option_copied c.args.fields) in
    let openings = c.args.openings.now in
    subst (λ (found : Found). IfOk c.later_call.result (λ call. call ≡ found))
    (found_last c.args.version c.args.word.now openings fields (sym (c.in_ok-call.ensures openings) ∙ c.in_default.is) (sym (c.in_ok-call-2.ensures openings) ∙ c.in_default-2.is)
    (sym c.descriptor_call.ensures ∙ c.in_default-descriptor_call.is) (sym c.in_ok-call-3.ensures ∙ c.in_default-3.is)) c.later_call.ensures
