-- The fields of a call, row for row: what they were read to be is printed as fields that are read so.
use Rattle.std.proofs.Common.{◌≡◌, ℕ, Bool, List, [], ◌∷◌, codes, Option, None, Some, option_map, refl, ap, ap₂, subst}
use Rattle.std.specs.Fmt.{decimal, signed_decimal}
use Rattle.trace_text.specs.declared.trace_call.TraceCall.{TraceCall}
use Rattle.trace_text.specs.declared.trace_call.TraceCall.TheVariants as call
use Rattle.trace_text.specs.declared.trace_call.AtCall.{AtCall}
use Rattle.trace_text.specs.declared.trace_call.AtCall.TheVariants as at
use Rattle.trace_text.specs.declared.trace_call.TraceBase.{TraceBase}
use Rattle.path_walk.specs.declared.descriptor_call.DataCall.TheVariants as on_file
use Rattle.trace_text.specs.declared.version.Version.{Version}
use Rattle.trace_text.specs.Fields.{text_in, path_in, text_field, count_in, offset_in}
use Rattle.trace_text.specs.Words.{Form, one, two, three, four, pair, base_path, base_in, flags_in, descriptor_in, whence_in, form_of}
use Rattle.trace_text.specs.TraceTexts.{call_fields, base_field, descriptor_field, whence_field, flags_field}
use Rattle.trace_text.proofs.Rows.{of_row, made_of}
use Rattle.trace_laws.proofs.Pieces.{Each, Clean, Shorter}
use Rattle.trace_laws.proofs.Numerals.{some_is}
use Rattle.trace_laws.proofs.PrintedFields.{Prints, text_prints, path_prints, count_prints, offset_prints, base_prints, descriptor_prints, whence_prints}
use Rattle.trace_laws.proofs.Flags.{flags_prints}

-- the call is printed by that word, and by fields that are read as it
pub record KeepsCall (word : List ℕ) (read : List (List ℕ) → Option TraceCall) (fields : List (List ℕ)) (call : TraceCall) : Type 0 where
  pub texts : List (List ℕ)
  pub fields_are : call_fields call ≡ word ∷ texts
  pub same : read texts ≡ Some call
  pub short : Shorter texts fields
  pub clean : Each Clean texts

abbrev pub PrintsRow : List ℕ → Form → Type 0
PrintsRow word form = (openings : List Bool) (fields : List (List ℕ)) (call : TraceCall) → Each Clean fields → form openings fields ≡ Some call → KeepsCall word (form openings) fields call

pair_parts : {A B : Type 0} (first : Option A) (second : Option B) (z : A × B) → pair first second ≡ Some z → (first ≡ Some z.0) × (second ≡ Some z.1)
pair_parts None second z e = (let clash : None ≡ Some z = e in cc clash)
pair_parts (Some a) None z e = (let clash : None ≡ Some z = e in cc clash)
pair_parts {A} {B} (Some a) (Some b) z e =
    let same : (a, b) ≡ z = some_is (a, b) z e in
    (ap (λ (p : A × B). Some p.0) same, ap (λ (p : A × B). Some p.1) same)

module _ (word : List ℕ) where
  one_again : {A : Type 0} (read : List ℕ → Option A) (print : A → List ℕ) (make : A → TraceCall) → Prints read print → ((x : A) → call_fields (make x) ≡ word ∷ print x ∷ [])
      → (fields : List (List ℕ)) (call : TraceCall) → Each Clean fields → option_map make (one read fields) ≡ Some call → KeepsCall word (λ fs. option_map make (one read fs)) fields call
  one_again read print make prints fields_are [] call clean e = (let clash : None ≡ Some call = e in cc clash)
  one_again read print make prints fields_are (field ∷ []) call clean e =
      let made = made_of make (read field) call e in
      let again = prints field made.0 clean.0 made.1 in
      subst (λ (c : TraceCall). KeepsCall word (λ fs. option_map make (one read fs)) (field ∷ []) c) made.2
      (record { texts = print made.0 ∷ []; fields_are = fields_are made.0; same = ap (option_map make) again.same; short = (again.short, tt); clean = (again.clean, tt) })
  one_again read print make prints fields_are (field ∷ next ∷ fields) call clean e = (let clash : None ≡ Some call = e in cc clash)

  two_again : {A B : Type 0} (first : List ℕ → Option A) (second : List ℕ → Option B) (print : A → List ℕ) (print_second : B → List ℕ) (make : A × B → TraceCall) → Prints first print → Prints second print_second
      → ((z : A × B) → call_fields (make z) ≡ word ∷ print z.0 ∷ print_second z.1 ∷ [])
      → (fields : List (List ℕ)) (call : TraceCall) → Each Clean fields → option_map make (two first second fields) ≡ Some call → KeepsCall word (λ fs. option_map make (two first second fs)) fields call
  two_again first second print print_second make p q fields_are [] call clean e = (let clash : None ≡ Some call = e in cc clash)
  two_again first second print print_second make p q fields_are (a ∷ []) call clean e = (let clash : None ≡ Some call = e in cc clash)
  two_again first second print print_second make p q fields_are (a ∷ b ∷ []) call clean e =
      let made = made_of make (pair (first a) (second b)) call e in
      let parts = pair_parts (first a) (second b) made.0 made.1 in
      let one_part = p a made.0.0 clean.0 parts.0 in
      let other_part = q b made.0.1 clean.1.0 parts.1 in
      subst (λ (c : TraceCall). KeepsCall word (λ fs. option_map make (two first second fs)) (a ∷ b ∷ []) c) made.2
      (record {
        texts = print made.0.0 ∷ print_second made.0.1 ∷ [];
        fields_are = fields_are made.0;
        same = ap₂ (λ x y. option_map make (pair x y)) one_part.same other_part.same;
        short = (one_part.short, (other_part.short, tt));
        clean = (one_part.clean, (other_part.clean, tt));
      })
  two_again first second print print_second make p q fields_are (a ∷ b ∷ c ∷ fields) call clean e = (let clash : None ≡ Some call = e in cc clash)

  three_again : {A B C : Type 0} (first : List ℕ → Option A) (second : List ℕ → Option B) (third : List ℕ → Option C) (print : A → List ℕ) (print_second : B → List ℕ) (print_third : C → List ℕ) (make : A × (B × C) → TraceCall)
      → Prints first print → Prints second print_second → Prints third print_third → ((z : A × (B × C)) → call_fields (make z) ≡ word ∷ print z.0 ∷ print_second z.1.0 ∷ print_third z.1.1 ∷ [])
      → (fields : List (List ℕ)) (call : TraceCall) → Each Clean fields → option_map make (three first second third fields) ≡ Some call → KeepsCall word (λ fs. option_map make (three first second third fs)) fields call
  three_again first second third print print_second print_third make p q r fields_are [] call clean e = (let clash : None ≡ Some call = e in cc clash)
  three_again first second third print print_second print_third make p q r fields_are (a ∷ []) call clean e = (let clash : None ≡ Some call = e in cc clash)
  three_again first second third print print_second print_third make p q r fields_are (a ∷ b ∷ []) call clean e = (let clash : None ≡ Some call = e in cc clash)
  three_again first second third print print_second print_third make p q r fields_are (a ∷ b ∷ c ∷ []) call clean e =
      let made = made_of make (pair (first a) (pair (second b) (third c))) call e in
      let parts = pair_parts (first a) (pair (second b) (third c)) made.0 made.1 in
      let others = pair_parts (second b) (third c) made.0.1 parts.1 in
      let one_part = p a made.0.0 clean.0 parts.0 in
      let other_part = q b made.0.1.0 clean.1.0 others.0 in
      let last_part = r c made.0.1.1 clean.1.1.0 others.1 in
      subst (λ (c' : TraceCall). KeepsCall word (λ fs. option_map make (three first second third fs)) (a ∷ b ∷ c ∷ []) c') made.2
      (record {
        texts = print made.0.0 ∷ print_second made.0.1.0 ∷ print_third made.0.1.1 ∷ [];
        fields_are = fields_are made.0;
        same = ap₂ (λ x y. option_map make (pair x y)) one_part.same (ap₂ pair other_part.same last_part.same);
        short = (one_part.short, (other_part.short, (last_part.short, tt)));
        clean = (one_part.clean, (other_part.clean, (last_part.clean, tt)));
      })
  three_again first second third print print_second print_third make p q r fields_are (a ∷ b ∷ c ∷ d ∷ fields) call clean e = (let clash : None ≡ Some call = e in cc clash)

  four_again : {A B C D : Type 0} (first : List ℕ → Option A) (second : List ℕ → Option B) (third : List ℕ → Option C) (fourth : List ℕ → Option D) (print : A → List ℕ) (print_second : B → List ℕ) (print_third : C → List ℕ) (print_fourth : D → List ℕ) (make : A × (B × (C × D)) → TraceCall)
      → Prints first print → Prints second print_second → Prints third print_third → Prints fourth print_fourth
      → ((z : A × (B × (C × D))) → call_fields (make z) ≡ word ∷ print z.0 ∷ print_second z.1.0 ∷ print_third z.1.1.0 ∷ print_fourth z.1.1.1 ∷ [])
      → (fields : List (List ℕ)) (call : TraceCall) → Each Clean fields → option_map make (four first second third fourth fields) ≡ Some call → KeepsCall word (λ fs. option_map make (four first second third fourth fs)) fields call
  four_again first second third fourth print print_second print_third print_fourth make p q r s fields_are [] call clean e = (let clash : None ≡ Some call = e in cc clash)
  four_again first second third fourth print print_second print_third print_fourth make p q r s fields_are (a ∷ []) call clean e = (let clash : None ≡ Some call = e in cc clash)
  four_again first second third fourth print print_second print_third print_fourth make p q r s fields_are (a ∷ b ∷ []) call clean e = (let clash : None ≡ Some call = e in cc clash)
  four_again first second third fourth print print_second print_third print_fourth make p q r s fields_are (a ∷ b ∷ c ∷ []) call clean e = (let clash : None ≡ Some call = e in cc clash)
  four_again first second third fourth print print_second print_third print_fourth make p q r s fields_are (a ∷ b ∷ c ∷ d ∷ []) call clean e =
      let made = made_of make (pair (first a) (pair (second b) (pair (third c) (fourth d)))) call e in
      let parts = pair_parts (first a) (pair (second b) (pair (third c) (fourth d))) made.0 made.1 in
      let others = pair_parts (second b) (pair (third c) (fourth d)) made.0.1 parts.1 in
      let lasts = pair_parts (third c) (fourth d) made.0.1.1 others.1 in
      let one_part = p a made.0.0 clean.0 parts.0 in
      let other_part = q b made.0.1.0 clean.1.0 others.0 in
      let next_part = r c made.0.1.1.0 clean.1.1.0 lasts.0 in
      let last_part = s d made.0.1.1.1 clean.1.1.1.0 lasts.1 in
      subst (λ (c' : TraceCall). KeepsCall word (λ fs. option_map make (four first second third fourth fs)) (a ∷ b ∷ c ∷ d ∷ []) c') made.2
      (record {
        texts = print made.0.0 ∷ print_second made.0.1.0 ∷ print_third made.0.1.1.0 ∷ print_fourth made.0.1.1.1 ∷ [];
        fields_are = fields_are made.0;
        same = ap₂ (λ x y. option_map make (pair x y)) one_part.same (ap₂ pair other_part.same (ap₂ pair next_part.same last_part.same));
        short = (one_part.short, (other_part.short, (next_part.short, (last_part.short, tt))));
        clean = (one_part.clean, (other_part.clean, (next_part.clean, (last_part.clean, tt))));
      })
  four_again first second third fourth print print_second print_third print_fourth make p q r s fields_are (a ∷ b ∷ c ∷ d ∷ x ∷ fields) call clean e = (let clash : None ≡ Some call = e in cc clash)

path_again : (word : List ℕ) (make : List ℕ → TraceCall) → ((path : List ℕ) → call_fields (make path) ≡ word ∷ text_field path ∷ []) → PrintsRow word (λ openings fields. option_map make (one path_in fields))
path_again word make fields_are openings = one_again word path_in text_field make path_prints fields_are

base_again : (word : List ℕ) (make : TraceBase → List ℕ → AtCall) → ((base : TraceBase) (path : List ℕ) → call_fields (call.At (make base path)) ≡ word ∷ base_field base ∷ text_field path ∷ []) → PrintsRow word (base_path make)
base_again word make fields_are openings = two_again word (base_in openings) path_in base_field text_field (λ x. call.At (make x.0 x.1)) (base_prints openings) path_prints (λ z. fields_are z.0 z.1)

pub row_again : (version : Version) (word : List ℕ) (form : Form) → form_of version word ≡ Some form → PrintsRow word form
row_again version word form e =
    of_row PrintsRow version word form (
      path_again (codes "mkdir") call.Mkdir (λ x. refl),
      (
        path_again (codes "rmdir") call.Rmdir (λ x. refl),
        (
          path_again (codes "unlink") call.Unlink (λ x. refl),
          (path_again (codes "readlink") call.Readlink (λ x. refl), (path_again (codes "stat") call.Stat (λ x. refl), (path_again (codes "lstat") call.Lstat (λ x. refl), tt))),
        ),
      ),
    ) (
      (λ o. two_again (codes "symlink") path_in path_in text_field text_field (λ x. call.Symlink x.0 x.1) path_prints path_prints (λ z. refl)),
      (
        (λ o. two_again (codes "rename") path_in path_in text_field text_field (λ x. call.Rename x.0 x.1) path_prints path_prints (λ z. refl)),
        (
          (λ o. two_again (codes "list") path_in count_in text_field decimal (λ x. call.List x.0 x.1) path_prints count_prints (λ z. refl)),
          ((λ o. two_again (codes "open") path_in flags_in text_field flags_field (λ x. call.Open x.0 x.1) path_prints flags_prints (λ z. refl)), tt),
        ),
      ),
    ) (
      (λ o. one_again (codes "close") (descriptor_in o) descriptor_field call.Close (descriptor_prints o) (λ x. refl)),
      (
        (λ o. one_again (codes "dup") (descriptor_in o) descriptor_field call.Dup (descriptor_prints o) (λ x. refl)),
        (
          (λ o. two_again (codes "dup2") (descriptor_in o) (descriptor_in o) descriptor_field descriptor_field (λ x. call.Dup2 x.0 x.1) (descriptor_prints o) (descriptor_prints o) (λ z. refl)),
          (
            (λ o. one_again (codes "fstat") (descriptor_in o) descriptor_field (λ x. call.Data x on_file.Fstat) (descriptor_prints o) (λ x. refl)),
            ((λ o. two_again (codes "ftruncate") (descriptor_in o) offset_in descriptor_field signed_decimal (λ x. call.Data x.0 (on_file.Ftruncate x.1)) (descriptor_prints o) offset_prints (λ z. refl)), tt),
          ),
        ),
      ),
    ) (
      (λ o. two_again (codes "read") (descriptor_in o) count_in descriptor_field decimal (λ x. call.Data x.0 (on_file.Read x.1)) (descriptor_prints o) count_prints (λ z. refl)),
      (
        (λ o. three_again (codes "pread") (descriptor_in o) count_in offset_in descriptor_field decimal signed_decimal (λ x. call.Data x.0 (on_file.Pread x.1.0 x.1.1)) (descriptor_prints o) count_prints offset_prints (λ z. refl)),
        (
          (λ o. two_again (codes "write") (descriptor_in o) text_in descriptor_field text_field (λ x. call.Data x.0 (on_file.Write x.1)) (descriptor_prints o) text_prints (λ z. refl)),
          (
            (λ o. three_again (codes "pwrite") (descriptor_in o) text_in offset_in descriptor_field text_field signed_decimal (λ x. call.Data x.0 (on_file.Pwrite x.1.0 x.1.1)) (descriptor_prints o) text_prints offset_prints (λ z. refl)),
            ((λ o. three_again (codes "seek") (descriptor_in o) offset_in whence_in descriptor_field signed_decimal whence_field (λ x. call.Data x.0 (on_file.Seek x.1.0 x.1.1)) (descriptor_prints o) offset_prints whence_prints (λ z. refl)), tt),
          ),
        ),
      ),
    ) (
      base_again (codes "mkdirat") at.Mkdirat (λ base path. refl),
      (
        base_again (codes "rmdirat") at.Rmdirat (λ base path. refl),
        (base_again (codes "unlinkat") at.Unlinkat (λ base path. refl), (base_again (codes "fstatat") at.Fstatat (λ base path. refl), tt)),
      ),
    ) (
      path_again (codes "chdir") call.Chdir (λ x. refl),
      (
        (λ o. one_again (codes "fchdir") (descriptor_in o) descriptor_field call.Fchdir (descriptor_prints o) (λ x. refl)),
        (
          (λ o. three_again (codes "openat") (base_in o) path_in flags_in base_field text_field flags_field (λ x. call.At (at.Openat x.0 x.1.0 x.1.1)) (base_prints o) path_prints flags_prints (λ z. refl)),
          ((λ o. four_again (codes "renameat") (base_in o) path_in (base_in o) path_in base_field text_field base_field text_field (λ x. call.At (at.Renameat x.0 x.1.0 x.1.1.0 x.1.1.1)) (base_prints o) path_prints (base_prints o) path_prints (λ z. refl)), tt),
        ),
      ),
    ) e
