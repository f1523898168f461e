-- What lines say of each thread's opening calls is what the trace that they say has of them.
use Rattle.std.proofs.Common.{◌≡◌, ℕ, ◌+◌, ◌≤◌, ◌==◌, ◌⊎◌, inl, inr, if◌then◌else◌, Bool, true, false, List, [], ◌∷◌, ◌++◌, length, get_or, position, Option, None, Some, refl, sym, ◌∙◌, ap, subst, arith, append-nil, length-append}
use Rattle.std.specs.Option.{option_to_list}
use Rattle.std.proofs.lemmas.Bool.Decides.{nat_tests}
use Rattle.std.proofs.lemmas.List.Quantifiers.{position-Some}
use Rattle.std.proofs.lemmas.Slice.Eq.{bytes_eq-Decides}
use Rattle.wf_core.specs.Names.{is_text}
use Rattle.trace_text.specs.declared.trace_call.TraceCall.{TraceCall}
use Rattle.trace_text.specs.declared.trace.CallLine.{CallLine}
use Rattle.trace_text.specs.declared.version.Version.{Version}
use Rattle.trace_text.specs.Traces.{Traced, thread_number, with_thread, with_call, next_call}
use Rattle.trace_text.specs.Openings.{is_opening, is_opening_word, opening_of, openings_of}
use Rattle.trace_text.specs.Fields.{label_in}
use Rattle.trace_text.specs.Faults.{statement_of, declarations, opening_behind, opening_in, openings_by}
use Rattle.trace_text.proofs.Agreement.{declarations_of}
use Rattle.trace_text.proofs.Growth.{one_more}
use Rattle.trace_text.proofs.Positions.{found_before, found_last, nowhere_before}

-- the trace is what the lines before say, as far as the conditions of the next line ask
pub record Follows (version : Version) (before : List (List ℕ)) (trace : Traced) : Type 0 where
  pub declared : declarations version before ≡ declarations_of trace
  pub found : (name : List ℕ) (thread : ℕ) → thread_number trace name ≡ Some thread → openings_by before name ≡ openings_of thread trace.calls
  pub unfound : (name : List ℕ) → thread_number trace name ≡ None → openings_by before name ≡ []
  pub past : (thread : ℕ) → length trace.threads ≤ thread → openings_of thread trace.calls ≡ []

by_more : (before : List (List ℕ)) (line name : List ℕ) (opening : Option Bool) → opening_in name (statement_of line) ≡ opening → openings_by (before ++ line ∷ []) name ≡ openings_by before name ++ option_to_list opening
by_more before line name opening e = one_more (λ (text : List ℕ). opening_in name (statement_of text)) before line opening e

by_same : (before : List (List ℕ)) (line name : List ℕ) → opening_in name (statement_of line) ≡ None → openings_by (before ++ line ∷ []) name ≡ openings_by before name
by_same before line name e = by_more before line name None e ∙ append-nil (openings_by before name)

-- a line that is no call, and declares no thread
pub follows_same : (version : Version) (before : List (List ℕ)) (line : List ℕ) (trace after : Traced) → Follows version before trace → ((name : List ℕ) → opening_in name (statement_of line) ≡ None)
    → after.threads ≡ trace.threads → after.calls ≡ trace.calls → declarations version (before ++ line ∷ []) ≡ declarations_of after → Follows version (before ++ line ∷ []) after
follows_same version before line trace after f none threads calls e =
    let same : (name : List ℕ) → thread_number trace name ≡ thread_number after name = λ name. ap (λ (names : List (List ℕ)). position (λ thread. is_text thread name) names) (sym threads) in
    record {
      declared = e;
      found = λ name thread h. by_same before line name (none name) ∙ f.found name thread (same name ∙ h) ∙ ap (openings_of thread) (sym calls);
      unfound = λ name h. by_same before line name (none name) ∙ f.unfound name (same name ∙ h);
      past = λ thread h. ap (openings_of thread) calls ∙ f.past thread (subst (λ (names : List (List ℕ)). length names ≤ thread) threads h);
    }

found_or_new : (version : Version) (before : List (List ℕ)) (trace : Traced) (new name : List ℕ) (thread : ℕ) (at : Option ℕ) → Follows version before trace → thread_number trace name ≡ at → thread_number (with_thread trace new) name ≡ Some thread
    → openings_by before name ≡ openings_of thread trace.calls
found_or_new version before trace new name thread None f none h =
    let last : thread ≡ length trace.threads = found_last (λ (t : List ℕ). is_text t name) trace.threads new thread none h in
    f.unfound name none ∙ sym (f.past thread (omega arith))
found_or_new version before trace new name thread (Some at) f some h =
    let again : Some at ≡ Some thread = sym (found_before (λ (t : List ℕ). is_text t name) trace.threads new at some) ∙ h in
    f.found name thread (some ∙ again)

pub follows_thread : (version : Version) (before : List (List ℕ)) (line new : List ℕ) (trace : Traced) → Follows version before trace → ((name : List ℕ) → opening_in name (statement_of line) ≡ None)
    → declarations version (before ++ line ∷ []) ≡ declarations_of (with_thread trace new) → Follows version (before ++ line ∷ []) (with_thread trace new)
follows_thread version before line new trace f none e = record {
  declared = e;
  found = λ name thread h. by_same before line name (none name) ∙ found_or_new version before trace new name thread (thread_number trace name) f refl h;
  unfound = λ name h. by_same before line name (none name) ∙ f.unfound name (nowhere_before (λ (t : List ℕ). is_text t name) trace.threads new h);
  past = λ thread h. f.past thread (omega (arith, h, length-append trace.threads (new ∷ [])));
}

-- a call

cases_bool : (b : Bool) → (b ≡ true) ⊎ (b ≡ false)
cases_bool true = inl refl
cases_bool false = inr refl

name_at : (trace : Traced) (name : List ℕ) (thread : ℕ) → thread_number trace name ≡ Some thread → get_or trace.threads thread [] ≡ name
name_at trace name thread e = (bytes_eq-Decides (get_or trace.threads thread []) name).0 (position-Some (λ (t : List ℕ). is_text t name) trace.threads thread [] e).1

same_name : (name : List ℕ) → is_text name name ≡ true
same_name name = (bytes_eq-Decides name name).1 refl

some_is : (x y : ℕ) → Some x ≡ Some y → x ≡ y
some_is x y e = (cc)

is_same : (a b : ℕ) → (a == b) ≡ true → a ≡ b
is_same a b h = grind (arith, nat_tests)

is_self : (a : ℕ) → (a == a) ≡ true
is_self a = grind (arith, nat_tests)

-- two names are one where their threads are
alike : (trace : Traced) (name other : List ℕ) (thread number : ℕ) → thread_number trace name ≡ Some thread → thread_number trace other ≡ Some number → is_text name other ≡ (thread == number)
alike trace name other thread number e h =
    elim (cases_bool (is_text name other)) [
      | inl same ↦ (
          let one : name ≡ other = (bytes_eq-Decides name other).0 same in
          let numbers : thread ≡ number = some_is thread number (sym e ∙ ap (thread_number trace) one ∙ h) in
          same ∙ sym (is_self thread) ∙ ap (λ (n : ℕ). thread == n) numbers
          )
      | inr differ ↦ elim (cases_bool (thread == number)) [
        | inl same ↦ (
            let one : name ≡ other = sym (name_at trace name thread e) ∙ ap (λ (n : ℕ). get_or trace.threads n []) (is_same thread number same) ∙ name_at trace other number h in
            ap (λ (text : List ℕ). is_text text other) one ∙ same_name other ∙ sym same
            )
        | inr other_thread ↦ differ ∙ sym other_thread
      ]
    ]

not_name : (trace : Traced) (name other : List ℕ) (thread : ℕ) → thread_number trace name ≡ Some thread → thread_number trace other ≡ None → is_text name other ≡ false
not_name trace name other thread e h =
    elim (cases_bool (is_text name other)) [
      | inl same ↦ (let clash : Some thread ≡ None = sym e ∙ ap (thread_number trace) ((bytes_eq-Decides name other).0 same) ∙ h in cc clash)
      | inr differ ↦ differ
    ]

not_thread : (thread past : ℕ) → thread + 1 ≤ past → (thread == past) ≡ false
not_thread thread past h = grind (arith, nat_tests)

pub follows_call : (version : Version) (before : List (List ℕ)) (line label name word : List ℕ) (fields : List (List ℕ)) (trace : Traced) (thread : ℕ) (call : TraceCall) → Follows version before trace
    → statement_of line ≡ label ∷ word ∷ fields → label_in label ≡ Some name → thread_number trace name ≡ Some thread → is_opening_word word ≡ is_opening call
    → declarations version (before ++ line ∷ []) ≡ declarations_of (with_call trace thread call) → Follows version (before ++ line ∷ []) (with_call trace thread call)
follows_call version before line label name word fields trace thread call f s l t opening e =
    let told : (other : List ℕ) → opening_in other (statement_of line) ≡ (if is_text name other then Some (is_opening_word word) else None) =
    λ other. ap (opening_in other) s ∙ ap (λ (found : Option (List ℕ)). opening_behind other found word) l in
    let made : CallLine = next_call trace thread call in
    let more : (number : ℕ) (x : Option Bool) → opening_of number made ≡ x → openings_of number (trace.calls ++ made ∷ []) ≡ openings_of number trace.calls ++ option_to_list x =
    λ number x h. one_more (opening_of number) trace.calls made x h in
    record {
      declared = e;
      found = λ other number h.
          by_more before line other (if is_text name other then Some (is_opening_word word) else None) (told other)
          ∙ ap (λ (b : Bool). openings_by before other ++ option_to_list (if b then Some (is_opening_word word) else None)) (alike trace name other thread number t h)
          ∙ ap (λ (b : Bool). openings_by before other ++ option_to_list (if thread == number then Some b else None)) opening
          ∙ ap (λ (old : List Bool). old ++ option_to_list (if thread == number then Some (is_opening call) else None)) (f.found other number h)
          ∙ sym (more number (if thread == number then Some (is_opening call) else None) refl);
      unfound = λ other h.
          by_same before line other (told other ∙ ap (λ (b : Bool). if b then Some (is_opening_word word) else None) (not_name trace name other thread t h)) ∙ f.unfound other h;
      past = λ number h.
          let within = (position-Some (λ (known : List ℕ). is_text known name) trace.threads thread [] t).0 in
          more number None (ap (λ (b : Bool). if b then Some (is_opening call) else None) (not_thread thread number (omega (arith, within, h))))
          ∙ append-nil (openings_of number trace.calls) ∙ f.past number h;
    }
