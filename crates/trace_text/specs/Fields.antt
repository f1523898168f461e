-- The lines of a text, the fields of a line, and what fields stand for. The format is this project's own.
use Rattle.std.specs.Prelude.{ℕ, zero, suc, ℤ, pos, negsuc, ◌+◌, ◌-◌, ◌*◌, ◌/◌, ◌%◌, ◌==◌, ◌&&◌, ◌||◌, not, nat_le, nat_lt, if◌then◌else◌, Bool, true, false, List, [], ◌∷◌, length, take, codes, slice_index_or, Option, None, Some, option_map, option_and_then}
use Rattle.std.specs.List.{list_all, slice_split, flat_map}
use Rattle.wf_core.specs.Limits.{offset_max}
use Rattle.wf_core.specs.Names.{is_text, has_no_nul}

-- what stands between bytes 10, before the first and after the last of them too
abbrev pub pieces_of : List ℕ → List (List ℕ)
pieces_of bytes = slice_split (λ byte. byte == 10) bytes

-- the fields of a line stand between single spaces
abbrev pub fields_of : List ℕ → List (List ℕ)
fields_of line = slice_split (λ byte. byte == 32) line

-- the fields of what follows a space, where one does
abbrev pub fields_in : Option (List ℕ) → List (List ℕ)
fields_in None = []
fields_in (Some rest) = fields_of rest

-- the pieces of what follows a byte between them, where one does
abbrev pub pieces_behind : ℕ → Option (List ℕ) → List (List ℕ)
pieces_behind cut None = []
pieces_behind cut (Some rest) = slice_split (λ byte. byte == cut) rest

-- the one field, where there are no more
abbrev pub one_of : List (List ℕ) → Option (List ℕ)
one_of (field ∷ []) = Some field
one_of fields = None

-- the two fields, where there are no more
abbrev pub two_of : List (List ℕ) → Option (List ℕ × List ℕ)
two_of (first ∷ second ∷ []) = Some (first, second)
two_of fields = None

-- the three fields, where there are no more
abbrev pub three_of : List (List ℕ) → Option (List ℕ × (List ℕ × List ℕ))
three_of (first ∷ second ∷ third ∷ []) = Some (first, (second, third))
three_of fields = None

-- the four fields, where there are no more
abbrev pub four_of : List (List ℕ) → Option (List ℕ × (List ℕ × (List ℕ × List ℕ)))
four_of (first ∷ second ∷ third ∷ fourth ∷ []) = Some (first, (second, (third, fourth)))
four_of fields = None

-- an empty line, or a comment
abbrev pub is_skipped : List ℕ → Bool
is_skipped [] = true
is_skipped (byte ∷ line) = byte == 35

-- the name before the `:` that a field ends in
abbrev pub label_in : List ℕ → Option (List ℕ)
label_in field = if slice_index_or field (length field - 1) 0 == 58 then Some (take (length field - 1) field) else None

-- Names.

abbrev pub is_digit : ℕ → Bool
is_digit byte = nat_le 48 byte && nat_le byte 57

-- letters, digits and `_`
abbrev pub is_label_byte : ℕ → Bool
is_label_byte byte = (nat_le 65 byte && nat_le byte 90) || (nat_le 97 byte && nat_le byte 122) || is_digit byte || (byte == 95)

-- the most bytes of a thread's or a backend's name
abbrev pub label_max : ℕ
label_max = 16

-- the name of a thread or a backend: 1 to 16 letters, digits and `_`
abbrev pub is_label : List ℕ → Bool
is_label field = not (length field == 0) && nat_le (length field) label_max && list_all is_label_byte field

-- Text fields.

-- bytes 33 to 126 but for `%` stand for themselves
abbrev pub is_plain : ℕ → Bool
is_plain byte = nat_le 33 byte && nat_le byte 126 && not (byte == 37)

-- a hexadecimal digit of either case
abbrev pub hex_value : ℕ → Option ℕ
hex_value byte =
    if is_digit byte then Some (byte - 48)
    else if nat_le 65 byte && nat_le byte 70 then Some (byte - 55)
    else if nat_le 97 byte && nat_le byte 102 then Some (byte - 87)
    else None

-- the byte that `%` and two digits stand for
abbrev pub escape_value : ℕ → ℕ → Option ℕ
escape_value high low = option_and_then (λ h. option_map (λ l. 16 * h + l) (hex_value low)) (hex_value high)

abbrev pub onto : ℕ → Option (List ℕ) → Option (List ℕ)
onto byte None = None
onto byte (Some bytes) = Some (byte ∷ bytes)

abbrev pub onto_escaped : Option ℕ → Option (List ℕ) → Option (List ℕ)
onto_escaped None bytes = None
onto_escaped (Some byte) bytes = onto byte bytes

-- the bytes that a row of plain bytes and escapes stands for
abbrev pub bytes_in : List ℕ → Option (List ℕ)
bytes_in [] = Some []
bytes_in (byte ∷ []) = if is_plain byte then Some (byte ∷ []) else None
bytes_in (byte ∷ next ∷ []) = if is_plain byte then onto byte (bytes_in (next ∷ [])) else None
bytes_in (byte ∷ high ∷ low ∷ rest) =
    if is_plain byte then onto byte (bytes_in (high ∷ low ∷ rest))
    else if byte == 37 then onto_escaped (escape_value high low) (bytes_in rest)
    else None

-- the first byte of such a row, and what is left of the row behind it
abbrev pub first_in : Option (ℕ × List ℕ) → Option (List ℕ)
first_in None = None
first_in (Some (byte, rest)) = onto byte (bytes_in rest)

-- what a text field stands for: `%_` alone for the empty text
abbrev pub text_in : List ℕ → Option (List ℕ)
text_in field =
    if is_text field (codes "%_") then Some []
    else if length field == 0 then None
    else bytes_in field

-- a path or a link's text, which has no byte 0
abbrev pub unless_nul : Option (List ℕ) → Option (List ℕ)
unless_nul None = None
unless_nul (Some text) = if has_no_nul text then Some text else None

abbrev pub path_in : List ℕ → Option (List ℕ)
path_in field = unless_nul (text_in field)

-- How a text is printed: exactly the other bytes are escaped, with digits of upper case.

abbrev pub hex_digit : ℕ → ℕ
hex_digit value = if nat_lt value 10 then 48 + value else 55 + value

abbrev pub byte_field : ℕ → List ℕ
byte_field byte = if is_plain byte then byte ∷ [] else 37 ∷ hex_digit (byte / 16) ∷ hex_digit (byte % 16) ∷ []

abbrev pub text_field : List ℕ → List ℕ
text_field [] = codes "%_"
text_field (byte ∷ bytes) = flat_map byte_field (byte ∷ bytes)

-- Numbers.

-- the greatest COUNT, START and FD
abbrev pub number_max : ℕ
number_max = 4294967295

-- the number that digits write behind those of `value`
abbrev pub value_on : ℕ → List ℕ → Option ℕ
value_on value [] = Some value
value_on value (byte ∷ field) = if is_digit byte then value_on (10 * value + (byte - 48)) field else None

-- at most so much
abbrev pub at_most : ℕ → Option ℕ → Option ℕ
at_most most None = None
at_most most (Some value) = if nat_le value most then Some value else None

-- a zero stands alone
abbrev pub has_leading_zero : List ℕ → Bool
has_leading_zero [] = false
has_leading_zero (byte ∷ []) = false
has_leading_zero (byte ∷ next ∷ field) = byte == 48

-- a decimal number without leading zeros, up to `limit`
abbrev pub number_in : ℕ → List ℕ → Option ℕ
number_in limit field =
    if length field == 0 || has_leading_zero field then None
    else at_most limit (value_on 0 field)

-- what stands behind `-`, which is no 0
abbrev pub negative_of : Option ℕ → Option ℤ
negative_of None = None
negative_of (Some zero) = None
negative_of (Some (suc n)) = Some (negsuc n)

-- a number that may begin with `-`, from `-limit` to `limit`
abbrev pub signed_in : ℕ → List ℕ → Option ℤ
signed_in limit [] = None
signed_in limit (byte ∷ field) =
    if byte == 45 then negative_of (number_in limit field)
    else option_map pos (number_in limit (byte ∷ field))

-- a COUNT, a START or an FD that is a number
abbrev pub count_in : List ℕ → Option ℕ
count_in field = number_in number_max field

-- an OFFSET or a SIZE
abbrev pub offset_in : List ℕ → Option ℤ
offset_in field = signed_in offset_max field
