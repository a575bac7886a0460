-- A list is read, and gives its parts.
use Rattle.std.proofs.Common.{◌≡◌, ℕ, ◌==◌, ◌||◌, ◌&&◌, Bool, true, false, List, [], ◌∷◌, ◌++◌, ◌⊎◌, inl, inr, length, refl, ap, sym, subst, ◌∙◌, append_assoc, nat_lt, Option, Some, None}
use Rattle.std.specs.List.{list_all}
use Rattle.std.proofs.lemmas.Bool.{and_parts, or_parts, eqb-true}
use Rattle.std.proofs.lemmas.List.{append-nil}
use Rattle.dav_auth.specs.Grammar.{is_blank, AreBlank, is_token_byte, IsToken, in_string, Between, ValueText, Parameter as Named, ParameterText, Among}
use Rattle.dav_auth.specs.Grammar.Between.{nothing, plain, pair}
use Rattle.dav_auth.specs.Grammar.ValueText.{token as value_token, string as value_string}
use Rattle.dav_auth.specs.Elements.{is_token68_byte, IsToken68, AreSpaces, NoSpaceFirst, piece_of, Element, Elements}
use Rattle.dav_auth.specs.Elements.Element.{alone, spaced, token68, first, next}
use Rattle.dav_auth.specs.Elements.Elements.{blank, last, empty, more}
use Rattle.dav_auth.specs.Kind.{kind_of}
use Rattle.dav_auth.specs.Scan.{on, known, step, finish, before, following, run}
use Rattle.dav_auth.specs.declared.kind.ByteKind.{ByteKind}
use Rattle.dav_auth.specs.declared.kind.ByteKind.TheVariants as kinds
use Rattle.dav_auth.specs.declared.piece.Piece.{Piece}
use Rattle.dav_auth.specs.declared.piece.Piece.TheVariants.{Scheme, Parameter}
use Rattle.dav_auth.specs.declared.place.Moved.{Moved}
use Rattle.dav_auth.specs.declared.place.Place.{Place}
use Rattle.dav_auth.specs.declared.place.Place.TheVariants.{Start, First, Spaces, Mixed, Tabs, Second, AfterSecond, Pad, AfterPad, Token68, Padding, AfterToken68, Name, AfterName, Equals, Token, String, Pair, AfterValue}
use Rattle.dav_auth.proofs.KindLemmas.{is_special, View, view, token_kind, token68_kind, blank_kind}
use Rattle.dav_auth.proofs.KindLemmas.View.{space, tab, comma, equals, quote, backslash, slash, shared, token_only, quotable, control}

-- ---- one byte

-- a space is the space
space_is : {b : ℕ} {k : ByteKind} → View b k → k ≡ kinds.Space → (b == 32) ≡ true
space_is space e = refl
space_is tab e = cc
space_is comma e = cc
space_is equals e = cc
space_is quote e = cc
space_is backslash e = cc
space_is slash e = cc
space_is (shared b _ _ _ _ _) e = cc
space_is (token_only b _ _ _ _ _) e = cc
space_is (quotable b _ _ _ _ _) e = cc
space_is (control b _ _ _ _) e = cc

-- what is read from where a byte leads
abbrev then_read : Option Moved → List ℕ → Option (List Piece)
then_read m t = following m (λ p. run t p)

kind_step : (P : Place) (m : Option Moved) (b : ℕ) (t : List ℕ) (k : ByteKind) → kind_of b ≡ k → step P k b ≡ m → run (b ∷ t) P ≡ then_read m t
unfolding run
kind_step P m b t k is leads = ap (λ k. then_read (step P k b) t) is ∙ ap (λ m. then_read m t) leads

blank_step : (P : Place) (m : Option Moved) (b : ℕ) (t : List ℕ) → is_blank b ≡ true → step P kinds.Space b ≡ m → step P kinds.Tab b ≡ m → run (b ∷ t) P ≡ then_read m t
blank_step P m b t is s h =
    elim (blank_kind (view b) is) [ inl k ↦ kind_step P m b t kinds.Space k s | inr k ↦ kind_step P m b t kinds.Tab k h ]

token_step : (P : Place) (m : Option Moved) (b : ℕ) (t : List ℕ) → is_token_byte b ≡ true → step P kinds.Shared b ≡ m → step P kinds.TokenOnly b ≡ m
    → run (b ∷ t) P ≡ then_read m t
token_step P m b t is s h =
    elim (token_kind (view b) is) [ inl k ↦ kind_step P m b t kinds.Shared k s | inr k ↦ kind_step P m b t kinds.TokenOnly k h ]

-- blanks that change nothing
stays : (P : Place) → ((b : ℕ) → step P kinds.Space b ≡ on P) → ((b : ℕ) → step P kinds.Tab b ≡ on P) → (y t : List ℕ) → AreBlank y → run (y ++ t) P ≡ run t P
stays P s h [] t blanks = refl
stays P s h (b ∷ y) t blanks =
    let parts = and_parts (is_blank b) (list_all is_blank y) blanks in
    blank_step P (on P) b (y ++ t) parts.0 (s b) (h b) ∙ stays P s h y t parts.1

-- bytes of a token that are kept
grows : (F : List ℕ → Place) → ((w : List ℕ) (b : ℕ) → step (F w) kinds.Shared b ≡ on (F (w ++ b ∷ []))) → ((w : List ℕ) (b : ℕ) → step (F w) kinds.TokenOnly b ≡ on (F (w ++ b ∷ [])))
    → (m t w : List ℕ) → list_all is_token_byte m ≡ true → run (m ++ t) (F w) ≡ run t (F (w ++ m))
grows F s h [] t w is = ap (λ k. run t (F k)) (sym (append-nil w))
grows F s h (b ∷ m) t w is =
    let parts = and_parts (is_token_byte b) (list_all is_token_byte m) is in
    token_step (F w) (on (F (w ++ b ∷ []))) b (m ++ t) parts.0 (s w b) (h w b) ∙ grows F s h m t (w ++ b ∷ []) parts.1
    ∙ ap (λ k. run t (F k)) (append_assoc w (b ∷ []) m)

-- ---- behind an element

-- the end, or a comma and elements that are read
data Ends : Bool → List ℕ → List Piece → Type 0 where
  stop : {may : Bool} → Ends may [] []
  onto : {may : Bool} (rest : List ℕ) (pieces : List Piece) → run rest (Start may) ≡ Some pieces → Ends may (44 ∷ rest) pieces

-- a place where an element can end, with a part that is then known
ends_at : {may : Bool} {r : List ℕ} {pieces : List Piece} (P : Place) → finish P ≡ Some [] → step P kinds.Comma 44 ≡ on (Start may) → Ends may r pieces → run r P ≡ Some pieces
unfolding run
ends_at P f c stop = f
ends_at P f c (onto rest pieces is) = ap (λ m. then_read m rest) c ∙ is

ends_with : {may : Bool} {r : List ℕ} {pieces : List Piece} (P : Place) (piece : Piece) → finish P ≡ Some (piece ∷ []) → step P kinds.Comma 44 ≡ known piece (Start may)
    → Ends may r pieces → run r P ≡ Some (piece ∷ pieces)
unfolding run
ends_with P piece f c stop = f
ends_with P piece f c (onto rest pieces is) = ap (λ m. then_read m rest) c ∙ ap (λ o. before (Some piece) o) is

behind_value : {r : List ℕ} {pieces : List Piece} (y : List ℕ) → AreBlank y → Ends true r pieces → run (y ++ r) AfterValue ≡ Some pieces
behind_value {r = r} y blanks e = stays AfterValue (λ b. refl) (λ b. refl) y r blanks ∙ ends_at AfterValue refl refl e

behind_token68 : {r : List ℕ} {pieces : List Piece} (y : List ℕ) → AreBlank y → Ends false r pieces → run (y ++ r) AfterToken68 ≡ Some pieces
behind_token68 {r = r} y blanks e = stays AfterToken68 (λ b. refl) (λ b. refl) y r blanks ∙ ends_at AfterToken68 refl refl e

-- ---- values

value_end : (n v y r : List ℕ) (pieces : List Piece) → AreBlank y → Ends true r pieces → run (y ++ r) (Token n v) ≡ Some (Parameter n v ∷ pieces)
value_end n v [] r pieces blanks e = ends_with (Token n v) (Parameter n v) refl refl e
value_end n v (b ∷ y) r pieces blanks e =
    let parts = and_parts (is_blank b) (list_all is_blank y) blanks in
    blank_step (Token n v) (known (Parameter n v) AfterValue) b (y ++ r) parts.0 refl refl ∙ ap (λ o. before (Some (Parameter n v)) o) (behind_value y parts.1 e)

string_step : {b : ℕ} {k : ByteKind} (n v : List ℕ) → View b k → in_string b ≡ true → is_special b ≡ false → step (String n v) k b ≡ on (String n (v ++ b ∷ []))
string_step n v quote said other = cc
string_step n v backslash said other = cc
string_step n v (control b _ _ unsaid _) said other = let both : true ≡ false = sym said ∙ unsaid in cc
string_step n v space said other = refl
string_step n v tab said other = refl
string_step n v comma said other = refl
string_step n v equals said other = refl
string_step n v slash said other = refl
string_step n v (shared b _ _ _ _ _) said other = refl
string_step n v (token_only b _ _ _ _ _) said other = refl
string_step n v (quotable b _ _ _ _ _) said other = refl

pair_step : {b : ℕ} {k : ByteKind} (n v : List ℕ) → View b k → in_string b ≡ true → step (Pair n v) k b ≡ on (String n (v ++ b ∷ []))
pair_step n v (control b _ _ unsaid _) said = let both : true ≡ false = sym said ∙ unsaid in cc
pair_step n v quote said = refl
pair_step n v backslash said = refl
pair_step n v space said = refl
pair_step n v tab said = refl
pair_step n v comma said = refl
pair_step n v equals said = refl
pair_step n v slash said = refl
pair_step n v (shared b _ _ _ _ _) said = refl
pair_step n v (token_only b _ _ _ _ _) said = refl
pair_step n v (quotable b _ _ _ _ _) said = refl

string_read : {v t : List ℕ} → Between v t → (n u z : List ℕ) (pieces : List Piece) → run z AfterValue ≡ Some pieces
    → run (t ++ (34 ∷ z)) (String n u) ≡ Some (Parameter n (u ++ v) ∷ pieces)
unfolding run
string_read nothing n u z pieces e = ap (λ o. before (Some (Parameter n u)) o) e ∙ ap (λ k. Some (Parameter n k ∷ pieces)) (sym (append-nil u))
string_read (plain {value = v} {text = t} b said other rest) n u z pieces e =
    kind_step (String n u) (on (String n (u ++ b ∷ []))) b (t ++ (34 ∷ z)) (kind_of b) refl (string_step n u (view b) said other)
    ∙ string_read rest n (u ++ b ∷ []) z pieces e ∙ ap (λ k. Some (Parameter n k ∷ pieces)) (append_assoc u (b ∷ []) v)
string_read (pair {value = v} {text = t} b said rest) n u z pieces e =
    kind_step (Pair n u) (on (String n (u ++ b ∷ []))) b (t ++ (34 ∷ z)) (kind_of b) refl (pair_step n u (view b) said)
    ∙ string_read rest n (u ++ b ∷ []) z pieces e ∙ ap (λ k. Some (Parameter n k ∷ pieces)) (append_assoc u (b ∷ []) v)

-- a place where a value can begin
record Awaits (P : Place) (n : List ℕ) : Type 0 where
  by_shared : (b : ℕ) → step P kinds.Shared b ≡ on (Token n (b ∷ []))
  by_token : (b : ℕ) → step P kinds.TokenOnly b ≡ on (Token n (b ∷ []))
  by_quote : step P kinds.Quote 34 ≡ on (String n [])

value_read : {v text : List ℕ} (P : Place) (n y r : List ℕ) (pieces : List Piece) → Awaits P n → ValueText v text → AreBlank y → Ends true r pieces
    → run (text ++ (y ++ r)) P ≡ Some (Parameter n v ∷ pieces)
value_read P n y r pieces a (value_token {value = []} is) blanks e = cc
value_read P n y r pieces a (value_token {value = b ∷ m} is) blanks e =
    let byte = and_parts (is_token_byte b) (list_all is_token_byte m) (and_parts (nat_lt 0 (length (b ∷ m))) (list_all is_token_byte (b ∷ m)) is).1 in
    token_step P (on (Token n (b ∷ []))) b (m ++ (y ++ r)) byte.0 (a.by_shared b) (a.by_token b)
    ∙ grows (λ v. Token n v) (λ w b. refl) (λ w b. refl) m (y ++ r) (b ∷ []) byte.1 ∙ value_end n (b ∷ m) y r pieces blanks e
value_read P n y r pieces a (value_string {value = v} {text = t} inner) blanks e =
    kind_step P (on (String n [])) 34 ((t ++ 34 ∷ []) ++ (y ++ r)) kinds.Quote refl a.by_quote
    ∙ ap (λ k. run k (String n [])) (append_assoc t (34 ∷ []) (y ++ r)) ∙ string_read inner n [] (y ++ r) pieces (behind_value y blanks e)

-- a value after blanks, behind any name
record IsValue (z v : List ℕ) (pieces : List Piece) : Type 0 where
  by_equals : (n : List ℕ) → run z (Equals n) ≡ Some (Parameter n v ∷ pieces)
  by_pad : (n : List ℕ) → run z (Pad n) ≡ Some (Parameter n v ∷ pieces)

pad_value : {v text : List ℕ} (x y r n : List ℕ) (pieces : List Piece) → AreBlank x → ValueText v text → AreBlank y → Ends true r pieces
    → run (x ++ (text ++ (y ++ r))) (Pad n) ≡ Some (Parameter n v ∷ pieces)
pad_value [] y r n pieces before_ v blanks e = value_read (Pad n) n y r pieces (record { by_shared = λ b. refl; by_token = λ b. refl; by_quote = refl }) v blanks e
pad_value {text = text} (b ∷ x) y r n pieces before_ v blanks e =
    let parts = and_parts (is_blank b) (list_all is_blank x) before_ in
    blank_step (Pad n) (on (AfterPad n)) b (x ++ (text ++ (y ++ r))) parts.0 refl refl
    ∙ stays (AfterPad n) (λ b. refl) (λ b. refl) x (text ++ (y ++ r)) parts.1
    ∙ value_read (AfterPad n) n y r pieces (record { by_shared = λ b. refl; by_token = λ b. refl; by_quote = refl }) v blanks e

is_value : {v text : List ℕ} (x y r : List ℕ) (pieces : List Piece) → AreBlank x → ValueText v text → AreBlank y → Ends true r pieces
    → IsValue (x ++ (text ++ (y ++ r))) v pieces
is_value {text = text} x y r pieces before_ v blanks e = record {
  by_equals = λ n. stays (Equals n) (λ b. refl) (λ b. refl) x (text ++ (y ++ r)) before_
      ∙ value_read (Equals n) n y r pieces (record { by_shared = λ b. refl; by_token = λ b. refl; by_quote = refl }) v blanks e;
  by_pad = λ n. pad_value x y r n pieces before_ v blanks e;
}

-- ---- names

after_name : {z v : List ℕ} {pieces : List Piece} (x n : List ℕ) → AreBlank x → IsValue z v pieces → run (x ++ (61 ∷ z)) (AfterName n) ≡ Some (Parameter n v ∷ pieces)
unfolding run
after_name {z = z} x n blanks is = stays (AfterName n) (λ b. refl) (λ b. refl) x (61 ∷ z) blanks ∙ is.by_equals n

name_end : {z v : List ℕ} {pieces : List Piece} (x n : List ℕ) → AreBlank x → IsValue z v pieces → run (x ++ (61 ∷ z)) (Name n) ≡ Some (Parameter n v ∷ pieces)
unfolding run
name_end [] n blanks is = is.by_equals n
name_end {z = z} (b ∷ x) n blanks is =
    let parts = and_parts (is_blank b) (list_all is_blank x) blanks in
    blank_step (Name n) (on (AfterName n)) b (x ++ (61 ∷ z)) parts.0 refl refl ∙ after_name x n parts.1 is

name_read : {z v : List ℕ} {pieces : List Piece} (m x n : List ℕ) → list_all is_token_byte m ≡ true → AreBlank x → IsValue z v pieces
    → run (m ++ (x ++ (61 ∷ z))) (Name n) ≡ Some (Parameter (n ++ m) v ∷ pieces)
name_read {z = z} m x n token blanks is =
    grows (λ w. Name w) (λ w b. refl) (λ w b. refl) m (x ++ (61 ∷ z)) n token ∙ name_end x (n ++ m) blanks is

second_end : {z v : List ℕ} {pieces : List Piece} (x n : List ℕ) → AreBlank x → IsValue z v pieces → run (x ++ (61 ∷ z)) (Second n) ≡ Some (Parameter n v ∷ pieces)
unfolding run
second_end [] n blanks is = is.by_pad n
second_end {z = z} (b ∷ x) n blanks is =
    let parts = and_parts (is_blank b) (list_all is_blank x) blanks in
    blank_step (Second n) (on (AfterSecond n)) b (x ++ (61 ∷ z)) parts.0 refl refl
    ∙ stays (AfterSecond n) (λ b. refl) (λ b. refl) x (61 ∷ z) parts.1 ∙ is.by_equals n

second_read : {z v : List ℕ} {pieces : List Piece} (m x n : List ℕ) → list_all is_token_byte m ≡ true → AreBlank x → IsValue z v pieces
    → run (m ++ (x ++ (61 ∷ z))) (Second n) ≡ Some (Parameter (n ++ m) v ∷ pieces)
second_read {v = v} {pieces = pieces} [] x n token blanks is = second_end x n blanks is ∙ ap (λ k. Some (Parameter k v ∷ pieces)) (sym (append-nil n))
second_read {z = z} {v = v} {pieces = pieces} (b ∷ m) x n token blanks is =
    let parts = and_parts (is_token_byte b) (list_all is_token_byte m) token in
    let t : List ℕ = m ++ (x ++ (61 ∷ z)) in
    elim (token_kind (view b) parts.0) [
      | inl k ↦ kind_step (Second n) (on (Second (n ++ b ∷ []))) b t kinds.Shared k refl ∙ second_read m x (n ++ b ∷ []) parts.1 blanks is
          ∙ ap (λ k. Some (Parameter k v ∷ pieces)) (append_assoc n (b ∷ []) m)
      | inr k ↦ kind_step (Second n) (on (Name (n ++ b ∷ []))) b t kinds.TokenOnly k refl ∙ name_read m x (n ++ b ∷ []) parts.1 blanks is
          ∙ ap (λ k. Some (Parameter k v ∷ pieces)) (append_assoc n (b ∷ []) m)
    ]

mixed_end : {z v : List ℕ} {pieces : List Piece} (x n : List ℕ) → AreBlank x → IsValue z v pieces → run (x ++ (61 ∷ z)) (Mixed true n) ≡ Some (Parameter n v ∷ pieces)
unfolding run
mixed_end {z = z} x n blanks is = stays (Mixed true n) (λ b. refl) (λ b. refl) x (61 ∷ z) blanks ∙ is.by_equals n

spaces_end : {z v : List ℕ} {pieces : List Piece} (x n : List ℕ) → AreBlank x → IsValue z v pieces → run (x ++ (61 ∷ z)) (Spaces true n) ≡ Some (Parameter n v ∷ pieces)
unfolding run
spaces_end [] n blanks is = is.by_equals n
spaces_end {z = z} (b ∷ x) n blanks is =
    let parts = and_parts (is_blank b) (list_all is_blank x) blanks in
    let t : List ℕ = x ++ (61 ∷ z) in
    elim (blank_kind (view b) parts.0) [
      | inl k ↦ kind_step (Spaces true n) (on (Spaces true n)) b t kinds.Space k refl ∙ spaces_end x n parts.1 is
      | inr k ↦ kind_step (Spaces true n) (on (Mixed true n)) b t kinds.Tab k refl ∙ mixed_end x n parts.1 is
    ]

tabs_end : {z v : List ℕ} {pieces : List Piece} (x n : List ℕ) → AreBlank x → IsValue z v pieces → run (x ++ (61 ∷ z)) (Tabs true n) ≡ Some (Parameter n v ∷ pieces)
unfolding run
tabs_end {z = z} x n blanks is = stays (Tabs true n) (λ b. refl) (λ b. refl) x (61 ∷ z) blanks ∙ is.by_equals n

first_end : {z v : List ℕ} {pieces : List Piece} (x n : List ℕ) → AreBlank x → IsValue z v pieces → run (x ++ (61 ∷ z)) (First true n) ≡ Some (Parameter n v ∷ pieces)
unfolding run
first_end [] n blanks is = is.by_equals n
first_end {z = z} (b ∷ x) n blanks is =
    let parts = and_parts (is_blank b) (list_all is_blank x) blanks in
    let t : List ℕ = x ++ (61 ∷ z) in
    elim (blank_kind (view b) parts.0) [
      | inl k ↦ kind_step (First true n) (on (Spaces true n)) b t kinds.Space k refl ∙ spaces_end x n parts.1 is
      | inr k ↦ kind_step (First true n) (on (Tabs true n)) b t kinds.Tab k refl ∙ tabs_end x n parts.1 is
    ]

-- ---- parameters

-- a parameter is read from a place, behind these parts
record IsRead (P : Place) (text : List ℕ) (p : Named) (front : List Piece) : Type 0 where
  read : (y r : List ℕ) (pieces : List Piece) → AreBlank y → Ends true r pieces → run (text ++ (y ++ r)) P ≡ Some (front ++ (piece_of p ∷ pieces))

regroup : (name x a w t : List ℕ) → (name ++ (x ++ (61 ∷ (a ++ w)))) ++ t ≡ name ++ (x ++ (61 ∷ (a ++ (w ++ t))))
regroup name x a w t = simp append_assoc

-- names and values are read from a place, behind these parts
abbrev ReadsNames : Place → List Piece → Type 0
ReadsNames P front =
    (b : ℕ) (m x z v : List ℕ) (pieces : List Piece) → is_token_byte b ≡ true → list_all is_token_byte m ≡ true → AreBlank x → IsValue z v pieces
    → run ((b ∷ m) ++ (x ++ (61 ∷ z))) P ≡ Some (front ++ (Parameter (b ∷ m) v ∷ pieces))

named_read : (P : Place) (front : List Piece) → ReadsNames P front → (name x z v : List ℕ) (pieces : List Piece) → IsToken name → AreBlank x → IsValue z v pieces
    → run (name ++ (x ++ (61 ∷ z))) P ≡ Some (front ++ (Parameter name v ∷ pieces))
named_read P front reads [] x z v pieces is blanks value = cc
named_read P front reads (b ∷ m) x z v pieces is blanks value =
    let byte = and_parts (is_token_byte b) (list_all is_token_byte m) (and_parts (nat_lt 0 (length (b ∷ m))) (list_all is_token_byte (b ∷ m)) is).1 in
    reads b m x z v pieces byte.0 byte.1 blanks value

parameter_read : (P : Place) (front : List Piece) (p : Named) (text : List ℕ) → ReadsNames P front → ParameterText p text → IsRead P text p front
parameter_read P front p text reads is = record {
  read = λ y r pieces blanks e.
      ap (λ t. run (t ++ (y ++ r)) P) is.split ∙ ap (λ t. run t P) (regroup p.name is.before is.after is.written (y ++ r))
      ∙ named_read P front reads p.name is.before (is.after ++ (is.written ++ (y ++ r))) p.value pieces is.named is.blank_before
      (is_value is.after y r pieces is.blank_after is.valued blanks e);
}

start_names : ReadsNames (Start true) []
start_names b m x z v pieces token tokens blanks value =
    token_step (Start true) (on (First true (b ∷ []))) b (m ++ (x ++ (61 ∷ z))) token refl refl
    ∙ grows (λ w. First true w) (λ w b. refl) (λ w b. refl) m (x ++ (61 ∷ z)) (b ∷ []) tokens ∙ first_end x (b ∷ m) blanks value

mixed_names : (may : Bool) (w : List ℕ) → ReadsNames (Mixed may w) (Scheme w ∷ [])
mixed_names may w b m x z v pieces token tokens blanks value =
    token_step (Mixed may w) (known (Scheme w) (Name (b ∷ []))) b (m ++ (x ++ (61 ∷ z))) token refl refl
    ∙ ap (λ o. before (Some (Scheme w)) o) (name_read m x (b ∷ []) tokens blanks value)

spaces_names : (may : Bool) (w : List ℕ) → ReadsNames (Spaces may w) (Scheme w ∷ [])
spaces_names may w b m x z v pieces token tokens blanks value =
    let t : List ℕ = m ++ (x ++ (61 ∷ z)) in
    elim (token_kind (view b) token) [
      | inl k ↦ kind_step (Spaces may w) (known (Scheme w) (Second (b ∷ []))) b t kinds.Shared k refl
          ∙ ap (λ o. before (Some (Scheme w)) o) (second_read m x (b ∷ []) tokens blanks value)
      | inr k ↦ kind_step (Spaces may w) (known (Scheme w) (Name (b ∷ []))) b t kinds.TokenOnly k refl
          ∙ ap (λ o. before (Some (Scheme w)) o) (name_read m x (b ∷ []) tokens blanks value)
    ]

-- what is read behind spaces and behind mixed blanks is read behind more blanks
spaces_blanks : (may : Bool) (w y t : List ℕ) (o : Option (List Piece)) → AreBlank y → run t (Spaces may w) ≡ o → run t (Mixed may w) ≡ o → run (y ++ t) (Spaces may w) ≡ o
spaces_blanks may w [] t o blanks s m = s
spaces_blanks may w (b ∷ y) t o blanks s m =
    let parts = and_parts (is_blank b) (list_all is_blank y) blanks in
    elim (blank_kind (view b) parts.0) [
      | inl k ↦ kind_step (Spaces may w) (on (Spaces may w)) b (y ++ t) kinds.Space k refl ∙ spaces_blanks may w y t o parts.1 s m
      | inr k ↦ kind_step (Spaces may w) (on (Mixed may w)) b (y ++ t) kinds.Tab k refl ∙ stays (Mixed may w) (λ b. refl) (λ b. refl) y t parts.1 ∙ m
    ]

among_split : (front written back r : List ℕ) → (front ++ (written ++ back)) ++ r ≡ front ++ (written ++ (back ++ r))
among_split front written back r = simp append_assoc

-- a parameter of the challenge before
next_read : {p : Named} {text : List ℕ} (r : List ℕ) (pieces : List Piece) → Among p text → Ends true r pieces → run (text ++ r) (Start true) ≡ Some (piece_of p ∷ pieces)
next_read {p = p} r pieces a e =
    ap (λ t. run (t ++ r) (Start true)) a.split ∙ ap (λ t. run t (Start true)) (among_split a.front a.written a.back r)
    ∙ stays (Start true) (λ b. refl) (λ b. refl) a.front (a.written ++ (a.back ++ r)) a.blank_front
    ∙ (parameter_read (Start true) [] p a.written start_names a.parameter).read a.back r pieces a.blank_back e

-- the first parameter behind a scheme
first_read : {p : Named} {text : List ℕ} (may : Bool) (w r : List ℕ) (pieces : List Piece) → Among p text → Ends true r pieces
    → run (text ++ r) (Spaces may w) ≡ Some (Scheme w ∷ piece_of p ∷ pieces)
first_read {p = p} may w r pieces a e =
    ap (λ t. run (t ++ r) (Spaces may w)) a.split ∙ ap (λ t. run t (Spaces may w)) (among_split a.front a.written a.back r)
    ∙ spaces_blanks may w a.front (a.written ++ (a.back ++ r)) (Some (Scheme w ∷ piece_of p ∷ pieces)) a.blank_front
    ((parameter_read (Spaces may w) (Scheme w ∷ []) p a.written (spaces_names may w) a.parameter).read a.back r pieces a.blank_back e)
    ((parameter_read (Mixed may w) (Scheme w ∷ []) p a.written (mixed_names may w) a.parameter).read a.back r pieces a.blank_back e)

-- ---- schemes

scheme_read : (may : Bool) (w t : List ℕ) → IsToken w → run (w ++ t) (Start may) ≡ run t (First may w)
scheme_read may [] t is = cc
scheme_read may (b ∷ m) t is =
    let byte = and_parts (is_token_byte b) (list_all is_token_byte m) (and_parts (nat_lt 0 (length (b ∷ m))) (list_all is_token_byte (b ∷ m)) is).1 in
    token_step (Start may) (on (First may (b ∷ []))) b (m ++ t) byte.0 refl refl
    ∙ grows (λ w. First may w) (λ w b. refl) (λ w b. refl) m t (b ∷ []) byte.1

alone_read : (may : Bool) (w back r : List ℕ) (pieces : List Piece) → AreBlank back → NoSpaceFirst back → Ends false r pieces
    → run (back ++ r) (First may w) ≡ Some (Scheme w ∷ pieces)
alone_read may w [] r pieces blanks other e = ends_with (First may w) (Scheme w) refl refl e
alone_read may w (b ∷ back) r pieces blanks other e =
    let parts = and_parts (is_blank b) (list_all is_blank back) blanks in
    let t : List ℕ = back ++ r in
    elim (blank_kind (view b) parts.0) [
      | inl k ↦ let is : (b == 32) ≡ true = space_is (view b) k in let both : true ≡ false = sym is ∙ other in cc
      | inr k ↦ kind_step (First may w) (on (Tabs may w)) b t kinds.Tab k refl
          ∙ stays (Tabs may w) (λ b. refl) (λ b. refl) back r parts.1 ∙ ends_with (Tabs may w) (Scheme w) refl refl e
    ]

spaced_read : (may : Bool) (w back r : List ℕ) (pieces : List Piece) → AreBlank back → Ends true r pieces
    → run (back ++ r) (Spaces may w) ≡ Some (Scheme w ∷ pieces)
spaced_read may w back r pieces blanks e =
    spaces_blanks may w back r (Some (Scheme w ∷ pieces)) blanks (ends_with (Spaces may w) (Scheme w) refl refl e) (ends_with (Mixed may w) (Scheme w) refl refl e)

-- ---- token68

-- what follows the bytes of a token68 is read
record IsRead68 (t : List ℕ) (pieces : List Piece) : Type 0 where
  by_second : (w : List ℕ) → run t (Second w) ≡ Some pieces
  by_token68 : run t Token68 ≡ Some pieces

bytes68_read : (m t : List ℕ) (pieces : List Piece) → list_all is_token68_byte m ≡ true → IsRead68 t pieces → IsRead68 (m ++ t) pieces
bytes68_read [] t pieces is rest = rest
bytes68_read (b ∷ m) t pieces is rest =
    let parts = and_parts (is_token68_byte b) (list_all is_token68_byte m) is in
    let onward = bytes68_read m t pieces parts.1 rest in
    elim (token68_kind (view b) parts.0) [
      | inl k ↦ record {
        by_second = λ w. kind_step (Second w) (on (Second (w ++ b ∷ []))) b (m ++ t) kinds.Shared k refl ∙ onward.by_second (w ++ b ∷ []);
        by_token68 = kind_step Token68 (on Token68) b (m ++ t) kinds.Shared k refl ∙ onward.by_token68;
      }
      | inr k ↦ record {
        by_second = λ w. kind_step (Second w) (on Token68) b (m ++ t) kinds.Slash k refl ∙ onward.by_token68;
        by_token68 = kind_step Token68 (on Token68) b (m ++ t) kinds.Slash k refl ∙ onward.by_token68;
      }
    ]

-- behind blanks, from a place where a blank leads behind a token68
blanks68 : {r : List ℕ} {pieces : List Piece} (y : List ℕ) (P Q : Place) → finish P ≡ Some [] → step P kinds.Comma 44 ≡ on (Start false)
    → ((b : ℕ) → step P kinds.Space b ≡ on Q) → ((b : ℕ) → step P kinds.Tab b ≡ on Q) → ((b : ℕ) → step Q kinds.Space b ≡ on Q) → ((b : ℕ) → step Q kinds.Tab b ≡ on Q)
    → finish Q ≡ Some [] → step Q kinds.Comma 44 ≡ on (Start false) → AreBlank y → Ends false r pieces → run (y ++ r) P ≡ Some pieces
blanks68 [] P Q fp cp ps pt qs qt fq cq blanks e = ends_at P fp cp e
blanks68 {r = r} (b ∷ y) P Q fp cp ps pt qs qt fq cq blanks e =
    let parts = and_parts (is_blank b) (list_all is_blank y) blanks in
    blank_step P (on Q) b (y ++ r) parts.0 (ps b) (pt b) ∙ stays Q qs qt y r parts.1 ∙ ends_at Q fq cq e

padding_read : {r : List ℕ} {pieces : List Piece} (y padding : List ℕ) → list_all (λ b. b == 61) padding ≡ true → AreBlank y → Ends false r pieces
    → run (padding ++ (y ++ r)) Padding ≡ Some pieces
unfolding run
padding_read y [] is blanks e =
    blanks68 y Padding AfterToken68 refl refl (λ b. refl) (λ b. refl) (λ b. refl) (λ b. refl) refl refl blanks e
padding_read {r = r} y (b ∷ padding) is blanks e =
    let parts = and_parts (b == 61) (list_all (λ b. b == 61) padding) is in
    ap (λ k. run (k ∷ (padding ++ (y ++ r))) Padding) (eqb-true b 61 parts.0) ∙ padding_read y padding parts.1 blanks e

pad_read : {r : List ℕ} {pieces : List Piece} (w y padding : List ℕ) → list_all (λ b. b == 61) padding ≡ true → AreBlank y → Ends false r pieces
    → run (padding ++ (y ++ r)) (Pad w) ≡ Some pieces
unfolding run
pad_read w y [] is blanks e =
    blanks68 y (Pad w) (AfterPad w) refl refl (λ b. refl) (λ b. refl) (λ b. refl) (λ b. refl) refl refl blanks e
pad_read {r = r} w y (b ∷ padding) is blanks e =
    let parts = and_parts (b == 61) (list_all (λ b. b == 61) padding) is in
    ap (λ k. run (k ∷ (padding ++ (y ++ r))) (Pad w)) (eqb-true b 61 parts.0) ∙ padding_read y padding parts.1 blanks e

end68 : {r : List ℕ} {pieces : List Piece} (y padding : List ℕ) → list_all (λ b. b == 61) padding ≡ true → AreBlank y → Ends false r pieces
    → IsRead68 (padding ++ (y ++ r)) pieces
unfolding run
end68 y [] is blanks e = record {
  by_second = λ w. blanks68 y (Second w) (AfterSecond w) refl refl (λ b. refl) (λ b. refl) (λ b. refl) (λ b. refl) refl refl blanks e;
  by_token68 = blanks68 y Token68 AfterToken68 refl refl (λ b. refl) (λ b. refl) (λ b. refl) (λ b. refl) refl refl blanks e;
}
end68 {r = r} y (b ∷ padding) is blanks e =
    let parts = and_parts (b == 61) (list_all (λ b. b == 61) padding) is in
    record {
      by_second = λ w. ap (λ k. run (k ∷ (padding ++ (y ++ r))) (Second w)) (eqb-true b 61 parts.0) ∙ pad_read w y padding parts.1 blanks e;
      by_token68 = ap (λ k. run (k ∷ (padding ++ (y ++ r))) Token68) (eqb-true b 61 parts.0) ∙ padding_read y padding parts.1 blanks e;
    }

-- spaces alone
spaces_alone : (may : Bool) (w spaces t : List ℕ) → AreSpaces spaces → run (spaces ++ t) (Spaces may w) ≡ run t (Spaces may w)
unfolding run
spaces_alone may w [] t is = refl
spaces_alone may w (b ∷ spaces) t is =
    let parts = and_parts (b == 32) (list_all (λ b. b == 32) spaces) is in
    ap (λ k. run (k ∷ (spaces ++ t)) (Spaces may w)) (eqb-true b 32 parts.0) ∙ spaces_alone may w spaces t parts.1

begun68 : (may : Bool) (w bytes t : List ℕ) (pieces : List Piece) → nat_lt 0 (length bytes) && list_all is_token68_byte bytes ≡ true → IsRead68 t pieces
    → run (bytes ++ t) (Spaces may w) ≡ Some (Scheme w ∷ pieces)
begun68 may w [] t pieces is rest = cc
begun68 may w (b ∷ m) t pieces is rest =
    let byte = and_parts (is_token68_byte b) (list_all is_token68_byte m) (and_parts (nat_lt 0 (length (b ∷ m))) (list_all is_token68_byte (b ∷ m)) is).1 in
    let onward = bytes68_read m t pieces byte.1 rest in
    elim (token68_kind (view b) byte.0) [
      | inl k ↦ kind_step (Spaces may w) (known (Scheme w) (Second (b ∷ []))) b (m ++ t) kinds.Shared k refl
          ∙ ap (λ o. before (Some (Scheme w)) o) (onward.by_second (b ∷ []))
      | inr k ↦ kind_step (Spaces may w) (known (Scheme w) Token68) b (m ++ t) kinds.Slash k refl
          ∙ ap (λ o. before (Some (Scheme w)) o) onward.by_token68
    ]

regroup68 : (spaces bytes padding back r : List ℕ) → spaces ++ ((bytes ++ padding) ++ (back ++ r)) ≡ spaces ++ (bytes ++ (padding ++ (back ++ r)))
regroup68 spaces bytes padding back r = simp append_assoc

token68_read : (may : Bool) (w spaces text back r : List ℕ) (pieces : List Piece) → AreSpaces spaces → IsToken68 text → AreBlank back → Ends false r pieces
    → run (spaces ++ (text ++ (back ++ r))) (Spaces may w) ≡ Some (Scheme w ∷ pieces)
token68_read may w spaces text back r pieces alike is blanks e =
    ap (λ t. run (spaces ++ (t ++ (back ++ r))) (Spaces may w)) is.split
    ∙ ap (λ t. run t (Spaces may w)) (regroup68 spaces is.bytes is.padding back r)
    ∙ spaces_alone may w spaces (is.bytes ++ (is.padding ++ (back ++ r))) alike
    ∙ begun68 may w is.bytes (is.padding ++ (back ++ r)) pieces is.some (end68 back is.padding is.padded blanks e)

-- ---- elements and lists

front_word : (may : Bool) (front w t r : List ℕ) → AreBlank front → IsToken w → run ((front ++ (w ++ t)) ++ r) (Start may) ≡ run (t ++ r) (First may w)
front_word may front w t r blanks is =
    ap (λ s. run s (Start may)) (among_split front w t r) ∙ stays (Start may) (λ b. refl) (λ b. refl) front (w ++ (t ++ r)) blanks
    ∙ scheme_read may w (t ++ r) is

inner68 : (spaces text back r : List ℕ) → (spaces ++ (text ++ back)) ++ r ≡ spaces ++ (text ++ (back ++ r))
inner68 spaces text back r = simp append_assoc

element_read : {may behind : Bool} {pieces : List Piece} {text : List ℕ} (r : List ℕ) (others : List Piece) → Element may pieces behind text → Ends behind r others
    → run (text ++ r) (Start may) ≡ Some (pieces ++ others)
unfolding run
element_read r others (alone {may = may} front w back f is k n) e = front_word may front w back r f is ∙ alone_read may w back r others k n e
element_read r others (spaced {may = may} front w back f is k) e = front_word may front w (32 ∷ back) r f is ∙ spaced_read may w back r others k e
element_read r others (token68 {may = may} front w spaces text back f is s t k) e =
    front_word may front w (32 ∷ (spaces ++ (text ++ back))) r f is
    ∙ ap (λ t. run t (Spaces may w)) (inner68 spaces text back r) ∙ token68_read may w spaces text back r others s t k e
element_read r others (first {may = may} front w text f is a) e = front_word may front w (32 ∷ text) r f is ∙ first_read may w r others a e
element_read r others (next text a) e = next_read r others a e

-- a list is read, and gives its parts
pub complete : {may : Bool} {pieces : List Piece} {text : List ℕ} → Elements may pieces text → run text (Start may) ≡ Some pieces
unfolding run
complete (blank {may = may} text k) =
    ap (λ t. run t (Start may)) (sym (append-nil text)) ∙ stays (Start may) (λ b. refl) (λ b. refl) text [] k
complete (last {may = may} {pieces = pieces} text is) =
    ap (λ t. run t (Start may)) (sym (append-nil text)) ∙ element_read [] [] is stop ∙ ap (λ ps. Some ps) (append-nil pieces)
complete (empty {may = may} {rest = rest} text k onward) = stays (Start may) (λ b. refl) (λ b. refl) text (44 ∷ rest) k ∙ complete onward
complete (more {others = others} {rest = rest} text is onward) = element_read (44 ∷ rest) others is (onto rest others (complete onward))
