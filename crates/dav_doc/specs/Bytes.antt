-- The kinds of bytes in a document.
use Rattle.std.specs.Prelude.{ℕ, Bool, true, false, ◌&&◌, ◌||◌, ◌==◌, nat_le, if◌then◌else◌, List, [], ◌∷◌}
use Rattle.std.specs.List.{list_all}

pub data Kind : Type 0 where
  Less : Kind
  Ampersand : Kind
  Blank : Kind
  Greater : Kind
  DoubleQuote : Kind
  SingleQuote : Kind
  Equals : Kind
  Slash : Kind
  Colon : Kind
  Exclamation : Kind
  Letter : Kind
  Digit : Kind
  Other : Kind

-- space, tab, CR, LF (XML 1.0, production 3)
abbrev pub is_blank : ℕ → Bool
is_blank b = (b == 32) || (b == 9) || (b == 10) || (b == 13)

-- a byte that begins a name: a letter, `_`, or a byte of a character past ASCII
abbrev pub is_letter : ℕ → Bool
is_letter b = (nat_le 97 b && nat_le b 122) || (nat_le 65 b && nat_le b 90) || (b == 95) || nat_le 128 b

-- a further byte of a name: a digit, `-`, `.`
abbrev pub is_digit : ℕ → Bool
is_digit b = (nat_le 48 b && nat_le b 57) || (b == 45) || (b == 46)

abbrev pub kind : ℕ → Kind
kind b =
    if b == 60 then Less
    else (if b == 38 then Ampersand
    else (if is_blank b then Blank
    else (if b == 62 then Greater
    else (if b == 34 then DoubleQuote
    else (if b == 39 then SingleQuote
    else (if b == 61 then Equals
    else (if b == 47 then Slash
    else (if b == 58 then Colon
    else (if b == 33 then Exclamation
    else (if is_letter b then Letter
    else (if is_digit b then Digit else Other)))))))))))

abbrev pub blank_kind : Kind → Bool
blank_kind Blank = true
blank_kind k = false

abbrev pub letter_kind : Kind → Bool
letter_kind Letter = true
letter_kind k = false

abbrev pub name_kind : Kind → Bool
name_kind Letter = true
name_kind Digit = true
name_kind k = false

abbrev pub text_kind : Kind → Bool
text_kind Less = false
text_kind Ampersand = false
text_kind k = true

abbrev pub starts_name : ℕ → Bool
starts_name b = letter_kind (kind b)

abbrev pub in_name : ℕ → Bool
in_name b = name_kind (kind b)

-- a byte of text that stands for itself
abbrev pub in_text : ℕ → Bool
in_text b = text_kind (kind b)

abbrev pub blank : ℕ → Bool
blank b = blank_kind (kind b)

abbrev pub blanks : List ℕ → Bool
blanks s = list_all blank s

-- the quotes around an attribute's value
pub data Quote : Type 0 where
  Double : Quote
  Single : Quote

abbrev pub quote_byte : Quote → ℕ
quote_byte Double = 34
quote_byte Single = 39

-- what a byte does within a value between such quotes
pub data Sort : Type 0 where
  Stays : Sort
  Ends : Sort
  Refers : Sort
  Wrong : Sort

abbrev pub sort : Quote → Kind → Sort
sort q Less = Wrong
sort q Ampersand = Refers
sort Double DoubleQuote = Ends
sort Single SingleQuote = Ends
sort q k = Stays

abbrev pub stays : Sort → Bool
stays Stays = true
stays x = false

-- a byte of a value that stands for itself
abbrev pub in_value : Quote → ℕ → Bool
in_value q b = stays (sort q (kind b))

-- the text begins `>`, `]>`, `]]>`
abbrev pub begins_greater : List ℕ → Bool
begins_greater [] = false
begins_greater (b ∷ s) = b == 62

abbrev pub begins_bracket : List ℕ → Bool
begins_bracket [] = false
begins_bracket (b ∷ s) = (b == 93) && begins_greater s

abbrev pub begins_end : List ℕ → Bool
begins_end [] = false
begins_end (b ∷ s) = (b == 93) && begins_bracket s
