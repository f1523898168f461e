use Rattle.std.proofs.Common.{◌≡◌, ◌≤◌, drop}
use Rattle.trace_text.specs.Fields.{at_most, value_on}
use Rattle.trace_text.proofs.field.read_number.Given as goal

-- the digits that are left go on to write the whole number
abbrev pub invariant-loop-byte : goal.invariant-loop-byte
invariant-loop-byte l = record {
  small : l.value ≤ l.limit;
  rest : at_most l.limit (value_on l.value (drop l.byte-index l.field)) ≡ at_most l.limit (value_on 0 l.field);
}
