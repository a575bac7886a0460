-- What the bytes from a place on are, where a list goes on so.
use Rattle.std.proofs.Common.{◌≡◌, ℕ, ◌==◌, ◌||◌, ◌&&◌, Bool, true, false, List, [], ◌∷◌, ◌++◌, ◌⊎◌, inl, inr, length, refl, ap, sym, subst, ◌∙◌, append_assoc, nat_lt, arith}
use Rattle.std.specs.List.{list_all}
use Rattle.std.proofs.lemmas.Bool.{and_from, and_parts}
use Rattle.std.proofs.lemmas.Bool.Decides.{nat_tests}
use Rattle.std.proofs.lemmas.List.{append-nil}
use Rattle.std.proofs.lemmas.List.Folds.{list_all-append}
use Rattle.dav_auth.specs.Grammar.{is_blank, AreBlank, is_token_byte, IsToken, in_string, Between, ValueText, Parameter as Named, ParameterText, Among}
use Rattle.dav_auth.specs.Grammar.Between.{nothing, plain, pair}
use Rattle.dav_auth.specs.Grammar.ValueText.{token as value_token, string as value_string}
use Rattle.dav_auth.specs.Elements.{is_token68_byte, IsToken68, AreSpaces, NoSpaceFirst, piece_of, Element, Elements}
use Rattle.dav_auth.specs.Elements.Element.{alone as alone_is, spaced as spaced_is, token68 as token68_is, first as first_is, next as next_is}
use Rattle.dav_auth.specs.Elements.Elements.{blank as blank_is, last as last_is, empty as empty_is, more as more_is}
use Rattle.dav_auth.specs.declared.piece.Piece.{Piece}
use Rattle.dav_auth.specs.declared.piece.Piece.TheVariants.{Scheme, Parameter}
use Rattle.dav_auth.proofs.KindLemmas.{is_special}

-- ---- behind an element

-- blanks, and the end or a comma and other elements
pub data Tail : Bool → List Piece → List ℕ → Type 0 where
  ends : {may : Bool} (back : List ℕ) → AreBlank back → Tail may [] back
  goes : {may : Bool} {pieces : List Piece} {rest : List ℕ} (back : List ℕ) → AreBlank back → Elements may pieces rest → Tail may pieces (back ++ 44 ∷ rest)

pub tail_blank : {may : Bool} {pieces : List Piece} {s : List ℕ} (b : ℕ) → is_blank b ≡ true → Tail may pieces s → Tail may pieces (b ∷ s)
tail_blank b is (ends back blanks) = ends (b ∷ back) (and_from (is_blank b) (list_all is_blank back) is blanks)
tail_blank b is (goes back blanks rest) = goes (b ∷ back) (and_from (is_blank b) (list_all is_blank back) is blanks) rest

-- ---- the rest of each part of an element, one byte after another

-- the rest of a value that is a token
pub data TokenRest : List ℕ → List ℕ → List Piece → List ℕ → Type 0 where
  byte : {n v : List ℕ} {pieces : List Piece} {s : List ℕ} (b : ℕ) → is_token_byte b ≡ true → TokenRest n (v ++ b ∷ []) pieces s → TokenRest n v pieces (b ∷ s)
  done : {n v : List ℕ} {pieces : List Piece} {s : List ℕ} → Tail true pieces s → TokenRest n v (Parameter n v ∷ pieces) s

-- the rest of a value between quotes
pub data StringRest : List ℕ → List ℕ → List Piece → List ℕ → Type 0 where
  byte : {n v : List ℕ} {pieces : List Piece} {s : List ℕ} (b : ℕ) → in_string b ≡ true → is_special b ≡ false → StringRest n (v ++ b ∷ []) pieces s
      → StringRest n v pieces (b ∷ s)
  escaped : {n v : List ℕ} {pieces : List Piece} {s : List ℕ} (b : ℕ) → in_string b ≡ true → StringRest n (v ++ b ∷ []) pieces s
      → StringRest n v pieces (92 ∷ b ∷ s)
  close : {n v : List ℕ} {pieces : List Piece} {s : List ℕ} → Tail true pieces s → StringRest n v (Parameter n v ∷ pieces) (34 ∷ s)

-- the same behind a backslash
pub data PairRest : List ℕ → List ℕ → List Piece → List ℕ → Type 0 where
  byte : {n v : List ℕ} {pieces : List Piece} {s : List ℕ} (b : ℕ) → in_string b ≡ true → StringRest n (v ++ b ∷ []) pieces s → PairRest n v pieces (b ∷ s)

-- what follows the `=` of a parameter
pub data ValueRest : List ℕ → List Piece → List ℕ → Type 0 where
  skip : {n : List ℕ} {pieces : List Piece} {s : List ℕ} (b : ℕ) → is_blank b ≡ true → ValueRest n pieces s → ValueRest n pieces (b ∷ s)
  token : {n : List ℕ} {pieces : List Piece} {s : List ℕ} (b : ℕ) → is_token_byte b ≡ true → TokenRest n (b ∷ []) pieces s → ValueRest n pieces (b ∷ s)
  string : {n : List ℕ} {pieces : List Piece} {s : List ℕ} → StringRest n [] pieces s → ValueRest n pieces (34 ∷ s)

-- what follows a name
pub data AfterNameRest : List ℕ → List Piece → List ℕ → Type 0 where
  skip : {n : List ℕ} {pieces : List Piece} {s : List ℕ} (b : ℕ) → is_blank b ≡ true → AfterNameRest n pieces s → AfterNameRest n pieces (b ∷ s)
  equals : {n : List ℕ} {pieces : List Piece} {s : List ℕ} → ValueRest n pieces s → AfterNameRest n pieces (61 ∷ s)

-- the rest of a name
pub data NameRest : List ℕ → List Piece → List ℕ → Type 0 where
  byte : {n : List ℕ} {pieces : List Piece} {s : List ℕ} (b : ℕ) → is_token_byte b ≡ true → NameRest (n ++ b ∷ []) pieces s → NameRest n pieces (b ∷ s)
  after : {n : List ℕ} {pieces : List Piece} {s : List ℕ} → AfterNameRest n pieces s → NameRest n pieces s

-- the rest of the padding of a token68
pub data PaddingRest : List Piece → List ℕ → Type 0 where
  pad : {pieces : List Piece} {s : List ℕ} → PaddingRest pieces s → PaddingRest pieces (61 ∷ s)
  done : {pieces : List Piece} {s : List ℕ} → Tail false pieces s → PaddingRest pieces s

-- the rest of a token68
pub data Token68Rest : List Piece → List ℕ → Type 0 where
  byte : {pieces : List Piece} {s : List ℕ} (b : ℕ) → is_token68_byte b ≡ true → Token68Rest pieces s → Token68Rest pieces (b ∷ s)
  padding : {pieces : List Piece} {s : List ℕ} → PaddingRest pieces s → Token68Rest pieces s

-- spaces and a token68
pub data Spaces68Rest : List Piece → List ℕ → Type 0 where
  skip : {pieces : List Piece} {s : List ℕ} → Spaces68Rest pieces s → Spaces68Rest pieces (32 ∷ s)
  begins : {pieces : List Piece} {s : List ℕ} (b : ℕ) → is_token68_byte b ≡ true → Token68Rest pieces s → Spaces68Rest pieces (b ∷ s)

-- blanks and a parameter
pub data BlanksRest : List Piece → List ℕ → Type 0 where
  skip : {pieces : List Piece} {s : List ℕ} (b : ℕ) → is_blank b ≡ true → BlanksRest pieces s → BlanksRest pieces (b ∷ s)
  begins : {pieces : List Piece} {s : List ℕ} (b : ℕ) → is_token_byte b ≡ true → NameRest (b ∷ []) pieces s → BlanksRest pieces (b ∷ s)

-- what follows a first word and a tab
pub data TabsRest : Bool → List ℕ → List Piece → List ℕ → Type 0 where
  alone : {may : Bool} {w : List ℕ} {pieces : List Piece} {s : List ℕ} → Tail false pieces s → TabsRest may w (Scheme w ∷ pieces) s
  named : {w : List ℕ} {pieces : List Piece} {s : List ℕ} → AfterNameRest w pieces s → TabsRest true w pieces s

-- what follows a first word and a space
pub data SpacesRest : Bool → List ℕ → List Piece → List ℕ → Type 0 where
  alone : {may : Bool} {w : List ℕ} {pieces : List Piece} {s : List ℕ} → Tail true pieces s → SpacesRest may w (Scheme w ∷ pieces) s
  named : {w : List ℕ} {pieces : List Piece} {s : List ℕ} → AfterNameRest w pieces s → SpacesRest true w pieces s
  parameter : {may : Bool} {w : List ℕ} {pieces : List Piece} {s : List ℕ} → BlanksRest pieces s → SpacesRest may w (Scheme w ∷ pieces) s
  token : {may : Bool} {w : List ℕ} {pieces : List Piece} {s : List ℕ} → Spaces68Rest pieces s → SpacesRest may w (Scheme w ∷ pieces) s

-- the same where a tab was among the blanks
pub data MixedRest : Bool → List ℕ → List Piece → List ℕ → Type 0 where
  alone : {may : Bool} {w : List ℕ} {pieces : List Piece} {s : List ℕ} → Tail true pieces s → MixedRest may w (Scheme w ∷ pieces) s
  named : {w : List ℕ} {pieces : List Piece} {s : List ℕ} → AfterNameRest w pieces s → MixedRest true w pieces s
  parameter : {may : Bool} {w : List ℕ} {pieces : List Piece} {s : List ℕ} → BlanksRest pieces s → MixedRest may w (Scheme w ∷ pieces) s

-- the rest of a first word
pub data FirstRest : Bool → List ℕ → List Piece → List ℕ → Type 0 where
  byte : {may : Bool} {w : List ℕ} {pieces : List Piece} {s : List ℕ} (b : ℕ) → is_token_byte b ≡ true → FirstRest may (w ++ b ∷ []) pieces s
      → FirstRest may w pieces (b ∷ s)
  ends : {may : Bool} {w : List ℕ} → FirstRest may w (Scheme w ∷ []) []
  comma : {may : Bool} {w : List ℕ} {pieces : List Piece} {s : List ℕ} → Elements false pieces s → FirstRest may w (Scheme w ∷ pieces) (44 ∷ s)
  tab : {may : Bool} {w : List ℕ} {pieces : List Piece} {s : List ℕ} → TabsRest may w pieces s → FirstRest may w pieces (9 ∷ s)
  space : {may : Bool} {w : List ℕ} {pieces : List Piece} {s : List ℕ} → SpacesRest may w pieces s → FirstRest may w pieces (32 ∷ s)
  equals : {w : List ℕ} {pieces : List Piece} {s : List ℕ} → ValueRest w pieces s → FirstRest true w pieces (61 ∷ s)

-- ---- values and parameters

-- bytes after a first one are some
some_bytes : (b : ℕ) (bytes : List ℕ) → nat_lt 0 (length (b ∷ bytes)) ≡ true
some_bytes b bytes = grind (arith, nat_tests)

pub is_token : (b : ℕ) (bytes : List ℕ) → is_token_byte b ≡ true → list_all is_token_byte bytes ≡ true → IsToken (b ∷ bytes)
is_token b bytes is rest = and_from _ _ (some_bytes b bytes) (and_from (is_token_byte b) (list_all is_token_byte bytes) is rest)

-- a value and what follows its element
record ValueAt (n : List ℕ) (pieces : List Piece) (s : List ℕ) : Type 0 where
  value : List ℕ
  blanks : List ℕ
  text : List ℕ
  rest : List ℕ
  others : List Piece
  blank_before : AreBlank blanks
  valued : ValueText value text
  tail : Tail true others rest
  split : s ≡ blanks ++ (text ++ rest)
  made : pieces ≡ Parameter n value ∷ others

record TokenAt (n v : List ℕ) (pieces : List Piece) (s : List ℕ) : Type 0 where
  text : List ℕ
  rest : List ℕ
  others : List Piece
  bytes : list_all is_token_byte text ≡ true
  tail : Tail true others rest
  split : s ≡ text ++ rest
  made : pieces ≡ Parameter n (v ++ text) ∷ others

token_at : {n v : List ℕ} {pieces : List Piece} {s : List ℕ} → TokenRest n v pieces s → TokenAt n v pieces s
token_at (byte {n = n} {v = v} {s = s} b is onward) =
    let r = token_at onward in
    record {
      text = b ∷ r.text;
      rest = r.rest;
      others = r.others;
      bytes = and_from (is_token_byte b) (list_all is_token_byte r.text) is r.bytes;
      tail = r.tail;
      split = ap (λ t. b ∷ t) r.split;
      made = r.made ∙ ap (λ t. Parameter n t ∷ r.others) (append_assoc v (b ∷ []) r.text);
    }
token_at (done {n = n} {v = v} {pieces = pieces} {s = s} tail) = record {
  text = [];
  rest = s;
  others = pieces;
  bytes = refl;
  tail = tail;
  split = refl;
  made = ap (λ t. Parameter n t ∷ pieces) (sym (append-nil v));
}

record StringAt (n v : List ℕ) (pieces : List Piece) (s : List ℕ) : Type 0 where
  value : List ℕ
  text : List ℕ
  rest : List ℕ
  others : List Piece
  between : Between value text
  tail : Tail true others rest
  split : s ≡ text ++ (34 ∷ rest)
  made : pieces ≡ Parameter n (v ++ value) ∷ others

string_at : {n v : List ℕ} {pieces : List Piece} {s : List ℕ} → StringRest n v pieces s → StringAt n v pieces s
string_at (byte {n = n} {v = v} b said other onward) =
    let r = string_at onward in
    record {
      value = b ∷ r.value;
      text = b ∷ r.text;
      rest = r.rest;
      others = r.others;
      between = plain b said other r.between;
      tail = r.tail;
      split = ap (λ t. b ∷ t) r.split;
      made = r.made ∙ ap (λ t. Parameter n t ∷ r.others) (append_assoc v (b ∷ []) r.value);
    }
string_at (escaped {n = n} {v = v} b said onward) =
    let r = string_at onward in
    record {
      value = b ∷ r.value;
      text = 92 ∷ b ∷ r.text;
      rest = r.rest;
      others = r.others;
      between = pair b said r.between;
      tail = r.tail;
      split = ap (λ t. 92 ∷ b ∷ t) r.split;
      made = r.made ∙ ap (λ t. Parameter n t ∷ r.others) (append_assoc v (b ∷ []) r.value);
    }
string_at (close {n = n} {v = v} {pieces = pieces} {s = s} tail) = record {
  value = [];
  text = [];
  rest = s;
  others = pieces;
  between = nothing;
  tail = tail;
  split = refl;
  made = ap (λ t. Parameter n t ∷ pieces) (sym (append-nil v));
}

value_at : {n : List ℕ} {pieces : List Piece} {s : List ℕ} → ValueRest n pieces s → ValueAt n pieces s
value_at (skip b is onward) =
    let r = value_at onward in
    record {
      value = r.value;
      blanks = b ∷ r.blanks;
      text = r.text;
      rest = r.rest;
      others = r.others;
      blank_before = and_from (is_blank b) (list_all is_blank r.blanks) is r.blank_before;
      valued = r.valued;
      tail = r.tail;
      split = ap (λ t. b ∷ t) r.split;
      made = r.made;
    }
value_at (token b is onward) =
    let r = token_at onward in
    record {
      value = b ∷ r.text;
      blanks = [];
      text = b ∷ r.text;
      rest = r.rest;
      others = r.others;
      blank_before = refl;
      valued = value_token (is_token b r.text is r.bytes);
      tail = r.tail;
      split = ap (λ t. b ∷ t) r.split;
      made = r.made;
    }
value_at (string onward) =
    let r = string_at onward in
    record {
      value = r.value;
      blanks = [];
      text = 34 ∷ (r.text ++ 34 ∷ []);
      rest = r.rest;
      others = r.others;
      blank_before = refl;
      valued = value_string r.between;
      tail = r.tail;
      split = ap (λ t. 34 ∷ t) (r.split ∙ sym (append_assoc r.text (34 ∷ []) r.rest));
      made = r.made;
    }

-- a parameter of which a part of its name stands before the bytes
record ParameterAt (n : List ℕ) (pieces : List Piece) (s : List ℕ) : Type 0 where
  p : Named
  text : List ℕ
  rest : List ℕ
  others : List Piece
  is : ParameterText p text
  tail : Tail true others rest
  split : n ++ s ≡ text ++ rest
  made : pieces ≡ piece_of p ∷ others

-- what follows a name: blanks, `=` and a value
record AfterNameAt (n : List ℕ) (pieces : List Piece) (s : List ℕ) : Type 0 where
  before : List ℕ
  rest : List ℕ
  blank_before : AreBlank before
  value : ValueAt n pieces rest
  split : s ≡ before ++ (61 ∷ rest)

after_name_at : {n : List ℕ} {pieces : List Piece} {s : List ℕ} → AfterNameRest n pieces s → AfterNameAt n pieces s
after_name_at (skip b is onward) =
    let r = after_name_at onward in
    record {
      before = b ∷ r.before;
      rest = r.rest;
      blank_before = and_from (is_blank b) (list_all is_blank r.before) is r.blank_before;
      value = r.value;
      split = ap (λ t. b ∷ t) r.split;
    }
after_name_at (equals {s = s} onward) = record { before = []; rest = s; blank_before = refl; value = value_at onward; split = refl }

regroup : (n before blanks text rest : List ℕ) → n ++ (before ++ (61 ∷ (blanks ++ (text ++ rest)))) ≡ (n ++ (before ++ (61 ∷ (blanks ++ text)))) ++ rest
regroup n before blanks text rest = simp append_assoc

named_at : {n : List ℕ} {pieces : List Piece} {s : List ℕ} → IsToken n → AfterNameAt n pieces s → ParameterAt n pieces s
named_at {n = n} is r =
    let v = r.value in
    record {
      p = record { name = n; value = v.value };
      text = n ++ (r.before ++ (61 ∷ (v.blanks ++ v.text)));
      rest = v.rest;
      others = v.others;
      is = record {
        before = r.before;
        after = v.blanks;
        written = v.text;
        named = is;
        blank_before = r.blank_before;
        blank_after = v.blank_before;
        valued = v.valued;
        split = refl;
      };
      tail = v.tail;
      split = ap (λ t. n ++ t) r.split ∙ ap (λ t. n ++ (r.before ++ (61 ∷ t))) v.split ∙ regroup n r.before v.blanks v.text v.rest;
      made = v.made;
    }

-- a word and one onward byte is a word
pub token_grown : (n : List ℕ) (b : ℕ) → IsToken n → is_token_byte b ≡ true → IsToken (n ++ b ∷ [])
token_grown [] b is onward = cc
token_grown (a ∷ n) b is onward =
    let parts = and_parts (is_token_byte a) (list_all is_token_byte n) (and_parts _ (list_all is_token_byte (a ∷ n)) is).1 in
    is_token a (n ++ b ∷ []) parts.0 (list_all-append is_token_byte n (b ∷ []) ∙ and_from _ _ parts.1 (and_from (is_token_byte b) true onward refl))

name_at : {n : List ℕ} {pieces : List Piece} {s : List ℕ} → IsToken n → NameRest n pieces s → ParameterAt n pieces s
name_at is (byte {n = n} {s = s} b sure rest) =
    let r = name_at (token_grown n b is sure) rest in
    record { p = r.p; text = r.text; rest = r.rest; others = r.others; is = r.is; tail = r.tail; split = sym (append_assoc n (b ∷ []) s) ∙ r.split; made = r.made }
name_at is (after onward) = named_at is (after_name_at onward)

-- ---- elements

-- a parameter among blanks, and what follows its element
data ParameterTail : Named → List Piece → List ℕ → Type 0 where
  ends : {p : Named} {text : List ℕ} → Among p text → ParameterTail p [] text
  goes : {p : Named} {pieces : List Piece} {rest : List ℕ} (text : List ℕ) → Among p text → Elements true pieces rest → ParameterTail p pieces (text ++ 44 ∷ rest)

among : (p : Named) (text back : List ℕ) → ParameterText p text → AreBlank back → Among p (text ++ back)
among p text back is blanks = record { front = []; written = text; back = back; blank_front = refl; parameter = is; blank_back = blanks; split = refl }

tail_of : {pieces : List Piece} {rest : List ℕ} (p : Named) (text : List ℕ) → ParameterText p text → Tail true pieces rest → ParameterTail p pieces (text ++ rest)
tail_of p text is (ends back blanks) = ends (among p text back is blanks)
tail_of p text is (goes {pieces = pieces} {rest = rest} back blanks onward) =
    let P : List ℕ → Type 0 = λ t. ParameterTail p pieces t in
    subst P (append_assoc text back (44 ∷ rest)) (goes (text ++ back) (among p text back is blanks) onward)

blank_among : (p : Named) (b : ℕ) (text : List ℕ) → is_blank b ≡ true → Among p text → Among p (b ∷ text)
blank_among p b text is a = record {
  front = b ∷ a.front;
  written = a.written;
  back = a.back;
  blank_front = and_from (is_blank b) (list_all is_blank a.front) is a.blank_front;
  parameter = a.parameter;
  blank_back = a.blank_back;
  split = ap (λ t. b ∷ t) a.split;
}

-- a parameter, and the parts that it and what follows stand for
record ParameterMade (pieces : List Piece) (s : List ℕ) : Type 0 where
  p : Named
  others : List Piece
  tail : ParameterTail p others s
  made : pieces ≡ piece_of p ∷ others

parameter_made : {n : List ℕ} {pieces : List Piece} {s : List ℕ} → ParameterAt n pieces s → ParameterMade pieces (n ++ s)
parameter_made r =
    let P : List ℕ → Type 0 = λ t. ParameterTail r.p r.others t in
    record { p = r.p; others = r.others; tail = subst P (sym r.split) (tail_of r.p r.text r.is r.tail); made = r.made }

blank_tail : {p : Named} {pieces : List Piece} {s : List ℕ} (b : ℕ) → is_blank b ≡ true → ParameterTail p pieces s → ParameterTail p pieces (b ∷ s)
blank_tail b is (ends {p = p} {text = text} a) = ends (blank_among p b text is a)
blank_tail b is (goes {p = p} text a onward) = goes (b ∷ text) (blank_among p b text is a) onward

blanks_made : {pieces : List Piece} {s : List ℕ} → BlanksRest pieces s → ParameterMade pieces s
blanks_made (skip b is onward) = let r = blanks_made onward in record { p = r.p; others = r.others; tail = blank_tail b is r.tail; made = r.made }
blanks_made (begins b is onward) = parameter_made (name_at (is_token b [] is refl) onward)

-- a parameter of the challenge before
next_from : {p : Named} {others : List Piece} {s : List ℕ} → ParameterTail p others s → Elements true (piece_of p ∷ others) s
next_from (ends {text = text} a) = last_is text (next_is text a)
next_from (goes text a onward) = more_is text (next_is text a) onward

next_elements : {pieces : List Piece} {s : List ℕ} → ParameterMade pieces s → Elements true pieces s
next_elements {s = s} r = let P : List Piece → Type 0 = λ ps. Elements true ps s in subst P (sym r.made) (next_from r.tail)

-- a challenge and its first parameter
first_from : {may : Bool} {p : Named} {others : List Piece} {s : List ℕ} (w : List ℕ) → IsToken w → ParameterTail p others s
    → Elements may (Scheme w ∷ piece_of p ∷ others) (w ++ 32 ∷ s)
first_from w is (ends {text = text} a) = last_is (w ++ 32 ∷ text) (first_is [] w text refl is a)
first_from {may = may} w is (goes {p = p} {pieces = others} {rest = rest} text a onward) =
    let P : List ℕ → Type 0 = λ t. Elements may (Scheme w ∷ piece_of p ∷ others) t in
    subst P (append_assoc w (32 ∷ text) (44 ∷ rest)) (more_is (w ++ 32 ∷ text) (first_is [] w text refl is a) onward)

first_elements : {may : Bool} {pieces : List Piece} {s : List ℕ} (w : List ℕ) → IsToken w → ParameterMade pieces s
    → Elements may (Scheme w ∷ pieces) (w ++ 32 ∷ s)
first_elements {may = may} {s = s} w is r =
    let P : List Piece → Type 0 = λ ps. Elements may (Scheme w ∷ ps) (w ++ 32 ∷ s) in
    subst P (sym r.made) (first_from w is r.tail)

-- a scheme alone, a tab behind it
tabbed_elements : {may : Bool} {pieces : List Piece} {s : List ℕ} (w : List ℕ) → IsToken w → Tail false pieces s → Elements may (Scheme w ∷ pieces) (w ++ 9 ∷ s)
tabbed_elements w is (ends back blanks) = last_is (w ++ 9 ∷ back) (alone_is [] w (9 ∷ back) refl is blanks refl)
tabbed_elements {may = may} w is (goes {pieces = pieces} {rest = rest} back blanks onward) =
    let P : List ℕ → Type 0 = λ t. Elements may (Scheme w ∷ pieces) t in
    subst P (append_assoc w (9 ∷ back) (44 ∷ rest)) (more_is (w ++ 9 ∷ back) (alone_is [] w (9 ∷ back) refl is blanks refl) onward)

-- a scheme alone, a space behind it
spaced_elements : {may : Bool} {pieces : List Piece} {s : List ℕ} (w : List ℕ) → IsToken w → Tail true pieces s → Elements may (Scheme w ∷ pieces) (w ++ 32 ∷ s)
spaced_elements w is (ends back blanks) = last_is (w ++ 32 ∷ back) (spaced_is [] w back refl is blanks)
spaced_elements {may = may} w is (goes {pieces = pieces} {rest = rest} back blanks onward) =
    let P : List ℕ → Type 0 = λ t. Elements may (Scheme w ∷ pieces) t in
    subst P (append_assoc w (32 ∷ back) (44 ∷ rest)) (more_is (w ++ 32 ∷ back) (spaced_is [] w back refl is blanks) onward)

-- ---- token68

record PaddingAt (pieces : List Piece) (s : List ℕ) : Type 0 where
  padding : List ℕ
  rest : List ℕ
  padded : list_all (λ b. b == 61) padding ≡ true
  tail : Tail false pieces rest
  split : s ≡ padding ++ rest

padding_at : {pieces : List Piece} {s : List ℕ} → PaddingRest pieces s → PaddingAt pieces s
padding_at (pad onward) =
    let r = padding_at onward in
    record { padding = 61 ∷ r.padding; rest = r.rest; padded = r.padded; tail = r.tail; split = ap (λ t. 61 ∷ t) r.split }
padding_at (done {s = s} tail) = record { padding = []; rest = s; padded = refl; tail = tail; split = refl }

record Token68At (pieces : List Piece) (s : List ℕ) : Type 0 where
  bytes : List ℕ
  rest : List ℕ
  all : list_all is_token68_byte bytes ≡ true
  padding : PaddingAt pieces rest
  split : s ≡ bytes ++ rest

token68_at : {pieces : List Piece} {s : List ℕ} → Token68Rest pieces s → Token68At pieces s
token68_at (byte b is onward) =
    let r = token68_at onward in
    record {
      bytes = b ∷ r.bytes;
      rest = r.rest;
      all = and_from (is_token68_byte b) (list_all is_token68_byte r.bytes) is r.all;
      padding = r.padding;
      split = ap (λ t. b ∷ t) r.split;
    }
token68_at (padding {s = s} onward) = record { bytes = []; rest = s; all = refl; padding = padding_at onward; split = refl }

-- spaces, a token68 and what follows its element
record Spaces68At (pieces : List Piece) (s : List ℕ) : Type 0 where
  spaces : List ℕ
  text : List ℕ
  rest : List ℕ
  spaced : AreSpaces spaces
  is : IsToken68 text
  tail : Tail false pieces rest
  split : s ≡ spaces ++ (text ++ rest)

spaces68_at : {pieces : List Piece} {s : List ℕ} → Spaces68Rest pieces s → Spaces68At pieces s
spaces68_at (skip onward) =
    let r = spaces68_at onward in
    record { spaces = 32 ∷ r.spaces; text = r.text; rest = r.rest; spaced = r.spaced; is = r.is; tail = r.tail; split = ap (λ t. 32 ∷ t) r.split }
spaces68_at (begins b is onward) =
    let r = token68_at onward in
    let p = r.padding in
    record {
      spaces = [];
      text = b ∷ (r.bytes ++ p.padding);
      rest = p.rest;
      spaced = refl;
      is = record {
        bytes = b ∷ r.bytes;
        padding = p.padding;
        some = and_from _ _ (some_bytes b r.bytes) (and_from (is_token68_byte b) (list_all is_token68_byte r.bytes) is r.all);
        padded = p.padded;
        split = refl;
      };
      tail = p.tail;
      split = ap (λ t. b ∷ t) (r.split ∙ ap (λ t. r.bytes ++ t) p.split ∙ sym (append_assoc r.bytes p.padding p.rest));
    }

regroup68 : (w spaces text back rest : List ℕ) → (w ++ 32 ∷ (spaces ++ (text ++ back))) ++ rest ≡ w ++ 32 ∷ (spaces ++ (text ++ (back ++ rest)))
regroup68 w spaces text back rest = simp append_assoc

token68_from : {may : Bool} {pieces : List Piece} {rest : List ℕ} (w spaces text : List ℕ) → IsToken w → AreSpaces spaces → IsToken68 text → Tail false pieces rest
    → Elements may (Scheme w ∷ pieces) (w ++ 32 ∷ (spaces ++ (text ++ rest)))
token68_from w spaces text is spaced sure (ends back blanks) =
    last_is (w ++ 32 ∷ (spaces ++ (text ++ back))) (token68_is [] w spaces text back refl is spaced sure blanks)
token68_from {may = may} w spaces text is spaced sure (goes {pieces = pieces} {rest = rest} back blanks onward) =
    let P : List ℕ → Type 0 = λ t. Elements may (Scheme w ∷ pieces) t in
    subst P (regroup68 w spaces text back (44 ∷ rest))
    (more_is (w ++ 32 ∷ (spaces ++ (text ++ back))) (token68_is [] w spaces text back refl is spaced sure blanks) onward)

token68_elements : {may : Bool} {pieces : List Piece} {s : List ℕ} (w : List ℕ) → IsToken w → Spaces68At pieces s → Elements may (Scheme w ∷ pieces) (w ++ 32 ∷ s)
token68_elements {may = may} {pieces = pieces} w is r =
    let P : List ℕ → Type 0 = λ t. Elements may (Scheme w ∷ pieces) (w ++ 32 ∷ t) in
    subst P (sym r.split) (token68_from w r.spaces r.text is r.spaced r.is r.tail)

-- ---- a first word

named_elements : {pieces : List Piece} {s : List ℕ} (w : List ℕ) → IsToken w → AfterNameRest w pieces s → Elements true pieces (w ++ s)
named_elements w is onward = next_elements (parameter_made (named_at is (after_name_at onward)))

spaces_elements : {may : Bool} {pieces : List Piece} {s : List ℕ} (w : List ℕ) → IsToken w → SpacesRest may w pieces s → Elements may pieces (w ++ 32 ∷ s)
spaces_elements w is (alone tail) = spaced_elements w is tail
spaces_elements w is (named onward) = named_elements w is (skip 32 refl onward)
spaces_elements w is (parameter onward) = first_elements w is (blanks_made onward)
spaces_elements w is (token onward) = token68_elements w is (spaces68_at onward)

tabs_elements : {may : Bool} {pieces : List Piece} {s : List ℕ} (w : List ℕ) → IsToken w → TabsRest may w pieces s → Elements may pieces (w ++ 9 ∷ s)
tabs_elements w is (alone tail) = tabbed_elements w is tail
tabs_elements w is (named onward) = named_elements w is (skip 9 refl onward)

word_elements : {may : Bool} {w : List ℕ} {pieces : List Piece} {s : List ℕ} → IsToken w → FirstRest may w pieces s → Elements may pieces (w ++ s)
word_elements {may = may} {pieces = pieces} is (byte {w = w} {s = s} b sure others) =
    let P : List ℕ → Type 0 = λ t. Elements may pieces t in
    subst P (append_assoc w (b ∷ []) s) (word_elements (token_grown w b is sure) others)
word_elements is (ends {w = w}) = last_is (w ++ []) (alone_is [] w [] refl is refl tt)
word_elements {may = may} is (comma {w = w} {pieces = pieces} {s = s} onward) =
    let P : List ℕ → Type 0 = λ t. Elements may (Scheme w ∷ pieces) (t ++ 44 ∷ s) in
    subst P (append-nil w) (more_is (w ++ []) (alone_is [] w [] refl is refl tt) onward)
word_elements is (tab {w = w} onward) = tabs_elements w is onward
word_elements is (space {w = w} onward) = spaces_elements w is onward
word_elements is (equals {w = w} onward) = named_elements w is (equals onward)

-- ---- before an element

-- an element that begins with a word
pub begun_elements : {may : Bool} {pieces : List Piece} {s : List ℕ} (b : ℕ) → is_token_byte b ≡ true → FirstRest may (b ∷ []) pieces s → Elements may pieces (b ∷ s)
begun_elements b is onward = word_elements (is_token b [] is refl) onward

-- a blank before an element
blank_element : {may behind : Bool} {pieces : List Piece} {text : List ℕ} (b : ℕ) → is_blank b ≡ true → Element may pieces behind text → Element may pieces behind (b ∷ text)
blank_element b is (alone_is front w back f sure k n) = alone_is (b ∷ front) w back (and_from (is_blank b) (list_all is_blank front) is f) sure k n
blank_element b is (spaced_is front w back f sure k) = spaced_is (b ∷ front) w back (and_from (is_blank b) (list_all is_blank front) is f) sure k
blank_element b is (token68_is front w spaces text back f sure s t k) =
    token68_is (b ∷ front) w spaces text back (and_from (is_blank b) (list_all is_blank front) is f) sure s t k
blank_element b is (first_is front w text f sure a) = first_is (b ∷ front) w text (and_from (is_blank b) (list_all is_blank front) is f) sure a
blank_element b is (next_is {p = p} text a) = next_is (b ∷ text) (blank_among p b text is a)

pub blank_elements : {may : Bool} {pieces : List Piece} {s : List ℕ} (b : ℕ) → is_blank b ≡ true → Elements may pieces s → Elements may pieces (b ∷ s)
blank_elements b is (blank_is text k) = blank_is (b ∷ text) (and_from (is_blank b) (list_all is_blank text) is k)
blank_elements b is (last_is text e) = last_is (b ∷ text) (blank_element b is e)
blank_elements b is (empty_is text k onward) = empty_is (b ∷ text) (and_from (is_blank b) (list_all is_blank text) is k) onward
blank_elements b is (more_is text e onward) = more_is (b ∷ text) (blank_element b is e) onward
