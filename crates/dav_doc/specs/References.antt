-- References and what they stand for (XML 1.0, sections 4.1 and 4.6).
use Rattle.std.specs.Prelude.{ℕ, ◌+◌, ◌*◌, ◌-◌, ◌/◌, ◌%◌, Bool, true, false, ◌&&◌, ◌||◌, ◌==◌, nat_le, List, [], ◌∷◌, Option, Some, None, bytes_eq, codes, if◌then◌else◌}

-- a character that XML allows (section 2.2)
abbrev pub is_allowed : ℕ → Bool
is_allowed v =
    (nat_le 32 v && nat_le v 55295) || ((nat_le 57344 v && nat_le v 65533) || ((nat_le 65536 v && nat_le v 1114111)
    || ((v == 9) || (v == 10) || (v == 13))))

-- the UTF-8 bytes of a character (RFC 3629, section 3)
abbrev pub utf_8 : ℕ → List ℕ
utf_8 v =
    if nat_le v 127 then v ∷ []
    else (if nat_le v 2047 then (192 + v / 64) ∷ (128 + v % 64) ∷ []
    else (if nat_le v 65535 then (224 + v / 4096) ∷ (128 + (v / 64) % 64) ∷ (128 + v % 64) ∷ []
    else (240 + v / 262144) ∷ (128 + (v / 4096) % 64) ∷ (128 + (v / 64) % 64) ∷ (128 + v % 64) ∷ []))

abbrev pub decimal_digit : ℕ → Option ℕ
decimal_digit b = if nat_le 48 b && nat_le b 57 then Some (b - 48) else None

abbrev pub hex_digit : ℕ → Option ℕ
hex_digit b =
    if nat_le 48 b && nat_le b 57 then Some (b - 48)
    else (if nat_le 97 b && nat_le b 102 then Some (b - 87)
    else (if nat_le 65 b && nat_le b 70 then Some (b - 55) else None))

abbrev pub on_digit : Option ℕ → (ℕ → Option (List ℕ)) → Option (List ℕ)
on_digit None f = None
on_digit (Some n) f = f n

abbrev pub if_digit : Option ℕ → (ℕ → Bool) → Bool
if_digit None f = false
if_digit (Some n) f = f n

-- the character of this number, where it is the last of its reference and some digit came
abbrev pub last_of : Bool → ℕ → List ℕ → Option (List ℕ)
last_of some v [] = if some && is_allowed v then Some (utf_8 v) else None
last_of some v (b ∷ s) = None

-- the character of a number whose digits so far give `v`, to a base, up to the semicolon; no number passes the greatest character
abbrev pub number : (ℕ → Option ℕ) → ℕ → ℕ → Bool → List ℕ → Option (List ℕ)
number digit base v some [] = None
number digit base v some (b ∷ s) =
    if b == 59 then last_of some v s
    else on_digit (digit b) (λ n. if nat_le (base * v + n) 1114111 then number digit base (base * v + n) true s else None)

-- these are digits, and the number of which they are the front does not pass the greatest character
abbrev pub number_front : (ℕ → Option ℕ) → ℕ → ℕ → List ℕ → Bool
number_front digit base v [] = true
number_front digit base v (b ∷ s) = if_digit (digit b) (λ n. nat_le (base * v + n) 1114111 && number_front digit base (base * v + n) s)

abbrev pub number_reference : List ℕ → Option (List ℕ)
number_reference [] = None
number_reference (b ∷ r) = if b == 120 then number hex_digit 16 0 false r else number decimal_digit 10 0 false (b ∷ r)

abbrev pub may_number : List ℕ → Bool
may_number [] = true
may_number (b ∷ r) = if b == 120 then number_front hex_digit 16 0 r else number_front decimal_digit 10 0 (b ∷ r)

abbrev pub named_reference : List ℕ → Option (List ℕ)
named_reference r =
    if bytes_eq r (codes "lt;") then Some (60 ∷ [])
    else (if bytes_eq r (codes "gt;") then Some (62 ∷ [])
    else (if bytes_eq r (codes "amp;") then Some (38 ∷ [])
    else (if bytes_eq r (codes "apos;") then Some (39 ∷ [])
    else (if bytes_eq r (codes "quot;") then Some (34 ∷ []) else None))))

-- the front of a named reference, and not a whole one
abbrev pub may_name : List ℕ → Bool
may_name r =
    bytes_eq r (codes "l") || bytes_eq r (codes "lt") || bytes_eq r (codes "g") || bytes_eq r (codes "gt")
    || bytes_eq r (codes "a") || bytes_eq r (codes "am") || bytes_eq r (codes "amp")
    || bytes_eq r (codes "ap") || bytes_eq r (codes "apo") || bytes_eq r (codes "apos")
    || bytes_eq r (codes "q") || bytes_eq r (codes "qu") || bytes_eq r (codes "quo") || bytes_eq r (codes "quot")

-- what a reference without its ampersand stands for, as UTF-8
abbrev pub stands_for : List ℕ → Option (List ℕ)
stands_for [] = None
stands_for (b ∷ r) = if b == 35 then number_reference r else named_reference (b ∷ r)

-- the front of a reference, and not a whole one
abbrev pub may_stand : List ℕ → Bool
may_stand [] = false
may_stand (b ∷ r) = if b == 35 then may_number r else may_name (b ∷ r)
