-- Flags are printed in the order of the format, whatever the order in which they were read.
use Rattle.std.proofs.Common.{◌≡◌, ℕ, suc, ◌+◌, ◌≤◌, ◌==◌, inl, inr, Bool, true, false, if◌then◌else◌, List, [], ◌∷◌, ◌++◌, length, codes, nat_le, Option, None, Some, option_map, refl, sym, ◌∙◌, ap, subst, arith, append_assoc, append-nil, length-append}
use Rattle.std.specs.List.{list_all, slice_split, join_with_byte}
use Rattle.std.proofs.lemmas.Bool.Decides.{nat_tests}
use Rattle.std.proofs.lemmas.List.Elements.{All-nil, All-append}
use Rattle.std.proofs.lemmas.List.Splits.{slice_split_at, slice_split_none, join_with_byte-slice_split}
use Rattle.wf_core.specs.Names.{is_text}
use Rattle.file_store.specs.declared.file_operation.Access.{Access}
use Rattle.file_store.specs.declared.file_operation.Access.TheVariants as access
use Rattle.path_walk.specs.declared.open_request.OpenFlags.{OpenFlags}
use Rattle.trace_text.specs.TraceTexts.{access_field, flag_text, flags_field}
use Rattle.trace_text.specs.Words.{access_in, only_access, unless_there, with_flag, with_flags, flags_of, flags_in}
use Rattle.trace_laws.proofs.Pieces.{Lacks}
use Rattle.trace_laws.proofs.Numerals.{some_is}
use Rattle.trace_laws.proofs.PrintedFields.{Prints, High, by_test, is_word, access_exact, clean_from_high, at_least}

-- How long the printed flags are.

lengths : (a b c d e f g : List ℕ) → length (a ++ b ++ c ++ d ++ e ++ f ++ g) ≡ length a + length b + length c + length d + length e + length f + length g
lengths a b c d e f g = simp length-append

abbrev size_of : OpenFlags → ℕ
size_of flags =
    length (access_field flags.access) + length (flag_text flags.creat (codes ",creat")) + length (flag_text flags.excl (codes ",excl")) + length (flag_text flags.trunc (codes ",trunc"))
    + length (flag_text flags.append (codes ",append")) + length (flag_text flags.directory (codes ",directory")) + length (flag_text flags.nofollow (codes ",nofollow"))

length_is : (flags : OpenFlags) → length (flags_field flags) ≡ size_of flags
length_is flags =
    lengths (access_field flags.access) (flag_text flags.creat (codes ",creat")) (flag_text flags.excl (codes ",excl")) (flag_text flags.trunc (codes ",trunc"))
    (flag_text flags.append (codes ",append")) (flag_text flags.directory (codes ",directory")) (flag_text flags.nofollow (codes ",nofollow"))

-- a flag that was not there makes the text longer
one_flag_more : (b : Bool) (text : List ℕ) → b ≡ false → length (flag_text true text) ≡ length (flag_text b text) + length text
one_flag_more b text e = ap (λ (n : ℕ). n) (zero_first (length text)) ∙ ap (λ (c : Bool). length (flag_text c text) + length text) (sym e)
  where
    zero_first : (n : ℕ) → n ≡ 0 + n
    zero_first n = omega arith

abbrev Adds : OpenFlags → List ℕ → OpenFlags → Type 0
Adds before word after = size_of after ≡ size_of before + suc (length word)

adds_flag : (there : Bool) (before with_it after : OpenFlags) (word name : List ℕ) → is_text word name ≡ true → unless_there there with_it ≡ Some after → (there ≡ false → Adds before name with_it) → Adds before word after
adds_flag true before with_it after word name t e h = (let clash : None ≡ Some after = e in cc clash)
adds_flag false before with_it after word name t e h =
    subst (λ (f : OpenFlags). Adds before word f) (some_is with_it after e) (subst (λ (w : List ℕ). Adds before w with_it) (sym (is_word word name t)) (h refl))

flag_adds : (flags : OpenFlags) (word : List ℕ) (after : OpenFlags) → with_flag flags word ≡ Some after → Adds flags word after
flag_adds flags word after e =
    elim (by_test (is_text word (codes "creat")) _ _ after e) [
      | inl (t, h) ↦ adds_flag flags.creat flags (record flags { creat = true }) after word (codes "creat") t h (λ n. let more = one_flag_more flags.creat (codes ",creat") n in omega arith)
      | inr (t, h) ↦ elim (by_test (is_text word (codes "excl")) _ _ after h) [
        | inl (u, k) ↦ adds_flag flags.excl flags (record flags { excl = true }) after word (codes "excl") u k (λ n. let more = one_flag_more flags.excl (codes ",excl") n in omega arith)
        | inr (u, k) ↦ elim (by_test (is_text word (codes "trunc")) _ _ after k) [
          | inl (v, l) ↦ adds_flag flags.trunc flags (record flags { trunc = true }) after word (codes "trunc") v l (λ n. let more = one_flag_more flags.trunc (codes ",trunc") n in omega arith)
          | inr (v, l) ↦ later_adds flags word after l
        ]
      ]
    ]
  where
    later_adds : (flags : OpenFlags) (word : List ℕ) (after : OpenFlags)
        → (if is_text word (codes "append") then unless_there flags.append (record flags { append = true }) else if is_text word (codes "directory") then unless_there flags.directory (record flags { directory = true })
        else if is_text word (codes "nofollow") then unless_there flags.nofollow (record flags { nofollow = true }) else None) ≡ Some after → Adds flags word after
    later_adds flags word after e =
        elim (by_test (is_text word (codes "append")) _ _ after e) [
          | inl (t, h) ↦ adds_flag flags.append flags (record flags { append = true }) after word (codes "append") t h (λ n. let more = one_flag_more flags.append (codes ",append") n in omega arith)
          | inr (t, h) ↦ elim (by_test (is_text word (codes "directory")) _ _ after h) [
            | inl (u, k) ↦ adds_flag flags.directory flags (record flags { directory = true }) after word (codes "directory") u k (λ n. let more = one_flag_more flags.directory (codes ",directory") n in omega arith)
            | inr (u, k) ↦ elim (by_test (is_text word (codes "nofollow")) _ _ after k) [
              | inl (v, l) ↦ adds_flag flags.nofollow flags (record flags { nofollow = true }) after word (codes "nofollow") v l (λ n. let more = one_flag_more flags.nofollow (codes ",nofollow") n in omega arith)
              | inr (v, l) ↦ (let clash : None ≡ Some after = l in cc clash)
            ]
          ]
        ]

-- the bytes of words, with one before each
abbrev spread : List (List ℕ) → ℕ
spread [] = 0
spread (word ∷ words) = suc (length word) + spread words

flags_before : (read : Option OpenFlags) (words : List (List ℕ)) (after : OpenFlags) → with_flags read words ≡ Some after → (flags : OpenFlags) × (read ≡ Some flags) × (with_flags (Some flags) words ≡ Some after)
flags_before None words after e = (let clash : None ≡ Some after = e in cc clash)
flags_before (Some flags) words after e = (flags, refl, e)

all_add : (flags : OpenFlags) (words : List (List ℕ)) (after : OpenFlags) → with_flags (Some flags) words ≡ Some after → size_of after ≡ size_of flags + spread words
all_add flags [] after e = ap size_of (sym (some_is flags after e)) ∙ none_more (size_of flags)
  where
    none_more : (n : ℕ) → n ≡ n + 0
    none_more n = omega arith
all_add flags (word ∷ words) after e =
    let next = flags_before (with_flag flags word) words after e in
    all_add next.0 words after next.2 ∙ ap (λ (n : ℕ). n + spread words) (flag_adds flags word next.0 next.1) ∙ together (size_of flags) (suc (length word)) (spread words)
  where
    together : (a b c : ℕ) → (a + b) + c ≡ a + (b + c)
    together a b c = omega arith

row_length : (word : List ℕ) (words : List (List ℕ)) → length (join_with_byte 44 (word ∷ words)) ≡ length word + spread words
row_length word [] = omega arith
row_length word (next ∷ words) =
    length-append word (44 ∷ join_with_byte 44 (next ∷ words)) ∙ ap (λ (n : ℕ). length word + suc n) (row_length next words) ∙ together (length word) (length next) (spread words)
  where
    together : (a b c : ℕ) → a + suc (b + c) ≡ a + (suc b + c)
    together a b c = omega arith

access_before : (read : Option Access) (words : List (List ℕ)) (after : OpenFlags) → with_flags (option_map only_access read) words ≡ Some after → (access : Access) × (read ≡ Some access) × (with_flags (Some (only_access access)) words ≡ Some after)
access_before None words after e = (let clash : None ≡ Some after = e in cc clash)
access_before (Some access) words after e = (access, refl, e)

words_length : (words : List (List ℕ)) (flags : OpenFlags) → flags_of words ≡ Some flags → length (flags_field flags) ≡ length (join_with_byte 44 words)
words_length [] flags e = (let clash : None ≡ Some flags = e in cc clash)
words_length (word ∷ words) flags e =
    let first = access_before (access_in word) words flags e in
    length_is flags ∙ all_add (only_access first.0) words flags first.2
    ∙ ap (λ (n : ℕ). n + spread words) (only_length first.0 ∙ ap length (access_exact word first.0 first.1)) ∙ sym (row_length word words)
  where
    only_length : (access : Access) → size_of (only_access access) ≡ length (access_field access)
    only_length access = omega arith

field_length : (field : List ℕ) (flags : OpenFlags) → flags_in field ≡ Some flags → length (flags_field flags) ≡ length field
field_length field flags e = words_length (slice_split (λ byte. byte == 44) field) flags e ∙ ap length (join_with_byte-slice_split 44 field)

-- The printed flags are read again.

-- what follows a word has these words
abbrev Ends : List ℕ → List (List ℕ) → Type 0
Ends text words = (word : List ℕ) → Lacks 44 word → slice_split (λ byte. byte == 44) (word ++ text) ≡ word ∷ words

abbrev flag_words : Bool → List ℕ → List (List ℕ) → List (List ℕ)
flag_words there word words = if there then word ∷ words else words

ends : Ends [] []
ends word lack = ap (slice_split (λ (byte : ℕ). byte == 44)) (append-nil word) ∙ slice_split_none (λ (byte : ℕ). byte == 44) word lack

ends_flag : (there : Bool) (flag text : List ℕ) (words : List (List ℕ)) → Lacks 44 flag → Ends text words → Ends (flag_text there (44 ∷ flag) ++ text) (flag_words there flag words)
ends_flag true flag text words lack h word l = slice_split_at (λ (byte : ℕ). byte == 44) word 44 (flag ++ text) l refl ∙ ap (λ (ws : List (List ℕ)). word ∷ ws) (h flag lack)
ends_flag false flag text words lack h word l = h word l

no_comma : (text : List ℕ) → list_all (nat_le 45) text ≡ true → Lacks 44 text
no_comma text h k d low = other _ (at_least 45 text h k d low)
  where
    other : (byte : ℕ) → 45 ≤ byte → (byte == 44) ≡ false
    other byte t = grind (arith, nat_tests)

regroup : (a b c d e f g : List ℕ) → a ++ b ++ c ++ d ++ e ++ f ++ g ≡ a ++ (b ++ (c ++ (d ++ (e ++ (f ++ (g ++ []))))))
regroup a b c d e f g = simp (append_assoc, append-nil)

abbrev words_of : OpenFlags → List (List ℕ)
words_of flags =
    access_field flags.access ∷ flag_words flags.creat (codes "creat") (flag_words flags.excl (codes "excl") (flag_words flags.trunc (codes "trunc")
    (flag_words flags.append (codes "append") (flag_words flags.directory (codes "directory") (flag_words flags.nofollow (codes "nofollow") [])))))

access_plain : (access : Access) → Lacks 44 (access_field access)
access_plain access.Read = no_comma (codes "r") refl
access_plain access.Write = no_comma (codes "w") refl
access_plain access.ReadWrite = no_comma (codes "rw") refl

words_are : (flags : OpenFlags) → slice_split (λ byte. byte == 44) (flags_field flags) ≡ words_of flags
words_are flags =
    ap (slice_split (λ (byte : ℕ). byte == 44)) (regroup (access_field flags.access) (flag_text flags.creat (codes ",creat")) (flag_text flags.excl (codes ",excl")) (flag_text flags.trunc (codes ",trunc"))
    (flag_text flags.append (codes ",append")) (flag_text flags.directory (codes ",directory")) (flag_text flags.nofollow (codes ",nofollow")))
    ∙ ends_flag flags.creat (codes "creat") _ _ (no_comma (codes "creat") refl)
    (ends_flag flags.excl (codes "excl") _ _ (no_comma (codes "excl") refl)
    (ends_flag flags.trunc (codes "trunc") _ _ (no_comma (codes "trunc") refl)
    (ends_flag flags.append (codes "append") _ _ (no_comma (codes "append") refl)
    (ends_flag flags.directory (codes "directory") _ _ (no_comma (codes "directory") refl)
    (ends_flag flags.nofollow (codes "nofollow") [] [] (no_comma (codes "nofollow") refl) ends))))) (access_field flags.access) (access_plain flags.access)

abbrev flags_with : Access → Bool → Bool → Bool → Bool → Bool → Bool → OpenFlags
flags_with access creat excl trunc append directory nofollow =
    record { access = access; creat = creat; excl = excl; trunc = trunc; append = append; directory = directory; nofollow = nofollow }

access_read : (access : Access) → access_in (access_field access) ≡ Some access
access_read access.Read = refl
access_read access.Write = refl
access_read access.ReadWrite = refl

creat_read : (a : Access) (b : Bool) (words : List (List ℕ)) → with_flags (Some (only_access a)) (flag_words b (codes "creat") words) ≡ with_flags (Some (flags_with a b false false false false false)) words
creat_read a true words = refl
creat_read a false words = refl

excl_read : (a : Access) (c b : Bool) (words : List (List ℕ)) → with_flags (Some (flags_with a c false false false false false)) (flag_words b (codes "excl") words) ≡ with_flags (Some (flags_with a c b false false false false)) words
excl_read a c true words = refl
excl_read a c false words = refl

trunc_read : (a : Access) (c e b : Bool) (words : List (List ℕ)) → with_flags (Some (flags_with a c e false false false false)) (flag_words b (codes "trunc") words) ≡ with_flags (Some (flags_with a c e b false false false)) words
trunc_read a c e true words = refl
trunc_read a c e false words = refl

append_read : (a : Access) (c e t b : Bool) (words : List (List ℕ)) → with_flags (Some (flags_with a c e t false false false)) (flag_words b (codes "append") words) ≡ with_flags (Some (flags_with a c e t b false false)) words
append_read a c e t true words = refl
append_read a c e t false words = refl

directory_read : (a : Access) (c e t p b : Bool) (words : List (List ℕ)) → with_flags (Some (flags_with a c e t p false false)) (flag_words b (codes "directory") words) ≡ with_flags (Some (flags_with a c e t p b false)) words
directory_read a c e t p true words = refl
directory_read a c e t p false words = refl

nofollow_read : (a : Access) (c e t p d b : Bool) → with_flags (Some (flags_with a c e t p d false)) (flag_words b (codes "nofollow") []) ≡ Some (flags_with a c e t p d b)
nofollow_read a c e t p d true = refl
nofollow_read a c e t p d false = refl

words_read : (flags : OpenFlags) → flags_of (words_of flags) ≡ Some flags
words_read flags =
    ap (λ (read : Option Access). with_flags (option_map only_access read) (flag_words flags.creat (codes "creat") (flag_words flags.excl (codes "excl") (flag_words flags.trunc (codes "trunc")
    (flag_words flags.append (codes "append") (flag_words flags.directory (codes "directory") (flag_words flags.nofollow (codes "nofollow") []))))))) (access_read flags.access)
    ∙ creat_read flags.access flags.creat _ ∙ excl_read flags.access flags.creat flags.excl _ ∙ trunc_read flags.access flags.creat flags.excl flags.trunc _
    ∙ append_read flags.access flags.creat flags.excl flags.trunc flags.append _ ∙ directory_read flags.access flags.creat flags.excl flags.trunc flags.append flags.directory _
    ∙ nofollow_read flags.access flags.creat flags.excl flags.trunc flags.append flags.directory flags.nofollow

-- and can stand in a line

access_high : (access : Access) → High (access_field access)
access_high access.Read = at_least 33 (codes "r") refl
access_high access.Write = at_least 33 (codes "w") refl
access_high access.ReadWrite = at_least 33 (codes "rw") refl

flag_high : (there : Bool) (text : List ℕ) → High text → High (flag_text there text)
flag_high true text high = high
flag_high false text high = All-nil (λ (b : ℕ). 33 ≤ b)

behind : (front : List ℕ) (there : Bool) (text : List ℕ) → High front → High text → High (front ++ flag_text there text)
behind front there text h k = All-append (λ (b : ℕ). 33 ≤ b) front (flag_text there text) h (flag_high there text k)

flags_high : (flags : OpenFlags) → High (flags_field flags)
flags_high flags =
    behind _ flags.nofollow (codes ",nofollow") (behind _ flags.directory (codes ",directory") (behind _ flags.append (codes ",append") (behind _ flags.trunc (codes ",trunc")
    (behind _ flags.excl (codes ",excl") (behind _ flags.creat (codes ",creat") (access_high flags.access) (at_least 33 (codes ",creat") refl)) (at_least 33 (codes ",excl") refl)) (at_least 33 (codes ",trunc") refl))
    (at_least 33 (codes ",append") refl)) (at_least 33 (codes ",directory") refl)) (at_least 33 (codes ",nofollow") refl)

pub flags_prints : Prints flags_in flags_field
flags_prints field flags clean e =
    let long = field_length field flags e in
    record { same = ap flags_of (words_are flags) ∙ words_read flags; short = omega arith; clean = clean_from_high (flags_field flags) (flags_high flags) }
