-- What the kind of a byte says of it.
use Rattle.std.proofs.Common.{◌≡◌, ℕ, ◌==◌, ◌||◌, ◌&&◌, Bool, true, false, not, List, [], ◌∷◌, ◌⊎◌, inl, inr, refl, ap, sym, subst, ◌∙◌, arith, nat_le, nat_lt, ◌≤◌, ◌<◌, codes, if◌then◌else◌}
use Rattle.std.specs.List.{list_all, list_any}
use Rattle.std.specs.Char.{is_ascii_alphanumeric}
use Rattle.std.specs.Int.{is_in_range}
use Rattle.std.proofs.lemmas.Bool.{cases_Bool, and_parts, and_from, or_parts, eqb-true}
use Rattle.std.proofs.lemmas.Bool.Decides.{nat_tests}
use Rattle.dav_auth.specs.Grammar.{is_blank, is_token_byte, in_string}
use Rattle.dav_auth.specs.Elements.{is_token68_byte}
use Rattle.dav_auth.specs.Kind.{kind_of}
use Rattle.dav_auth.specs.declared.kind.ByteKind.{ByteKind}
use Rattle.dav_auth.specs.declared.kind.ByteKind.TheVariants.{Space, Tab, Comma, Equals, Quote, Backslash, Slash, Shared, TokenOnly, Quotable, Control}

-- the byte stands for itself where a quoted string has it
abbrev pub is_special : ℕ → Bool
is_special b = b == 34 || b == 92

-- what a byte of each kind is
pub data View : ℕ → ByteKind → Type 0 where
  space : View 32 Space
  tab : View 9 Tab
  comma : View 44 Comma
  equals : View 61 Equals
  quote : View 34 Quote
  backslash : View 92 Backslash
  slash : View 47 Slash
  shared : (b : ℕ) → is_token_byte b ≡ true → is_token68_byte b ≡ true → in_string b ≡ true → is_special b ≡ false → is_blank b ≡ false → View b Shared
  token_only : (b : ℕ) → is_token_byte b ≡ true → is_token68_byte b ≡ false → in_string b ≡ true → is_special b ≡ false → is_blank b ≡ false → View b TokenOnly
  quotable : (b : ℕ) → is_token_byte b ≡ false → is_token68_byte b ≡ false → in_string b ≡ true → is_special b ≡ false → is_blank b ≡ false → View b Quotable
  control : (b : ℕ) → is_token_byte b ≡ false → is_token68_byte b ≡ false → in_string b ≡ false → is_blank b ≡ false → View b Control

-- a byte that passes is none that fails
pub not_that : (p : ℕ → Bool) (b c : ℕ) → p b ≡ true → p c ≡ false → (b == c) ≡ false
not_that p b c passes fails =
    elim (cases_Bool (b == c)) [
      | inl same ↦
          let both : true ≡ false = sym passes ∙ ap p (eqb-true b c same) ∙ fails in
          cc
      | inr other ↦ other
    ]

or_false : (a b : Bool) → a ≡ false → b ≡ false → (a || b) ≡ false
or_false a b x y = rw (x, y) refl

-- a byte of a token68 that no token has is a slash
fails_too : (b c : ℕ) → is_token_byte b ≡ false → is_token_byte c ≡ true → (b == c) ≡ false
fails_too b c fails passes =
    elim (cases_Bool (b == c)) [
      | inl same ↦
          let both : true ≡ false = sym passes ∙ ap is_token_byte (sym (eqb-true b c same)) ∙ fails in
          cc
      | inr other ↦ other
    ]

no_token68 : (b : ℕ) → is_token_byte b ≡ false → (b == 47) ≡ false → is_token68_byte b ≡ false
no_token68 b fails other =
    let parts = or_parts (is_ascii_alphanumeric b) (list_any (λ c. b == c) (codes "!#$%&'*+-.^_`|~")) fails in
    or_false (is_ascii_alphanumeric b) (list_any (λ c. b == c) (codes "-._~+/")) parts.0
    (or_false (b == 45) _ (fails_too b 45 fails refl)
    (or_false (b == 46) _ (fails_too b 46 fails refl)
    (or_false (b == 95) _ (fails_too b 95 fails refl)
    (or_false (b == 126) _ (fails_too b 126 fails refl)
    (or_false (b == 43) _ (fails_too b 43 fails refl)
    (or_false (b == 47) false other refl))))))

-- a byte of a token is one that a string has
low_range : (b : ℕ) → is_in_range 48 57 b ≡ true → in_string b ≡ true
low_range b is = grind (arith, nat_tests)

middle_range : (b : ℕ) → is_in_range 65 90 b ≡ true → in_string b ≡ true
middle_range b is = grind (arith, nat_tests)

high_range : (b : ℕ) → is_in_range 97 122 b ≡ true → in_string b ≡ true
high_range b is = grind (arith, nat_tests)

any_in_string : (b : ℕ) (bytes : List ℕ) → list_all in_string bytes ≡ true → list_any (λ c. b == c) bytes ≡ true → in_string b ≡ true
any_in_string b [] all any = cc
any_in_string b (c ∷ bytes) all any =
    let parts = and_parts (in_string c) (list_all in_string bytes) all in
    elim (cases_Bool (b == c)) [
      | inl same ↦ ap in_string (eqb-true b c same) ∙ parts.0
      | inr other ↦ any_in_string b bytes parts.1 (rw other at any)
    ]

alphanumeric_in_string : (b : ℕ) → is_ascii_alphanumeric b ≡ true → in_string b ≡ true
alphanumeric_in_string b is =
    elim (cases_Bool (is_in_range 48 57 b)) [
      | inl low ↦ low_range b low
      | inr not_low ↦
          elim (cases_Bool (is_in_range 65 90 b)) [
            | inl middle ↦ middle_range b middle
            | inr not_middle ↦ high_range b (rw (not_low, not_middle) at is)
          ]
    ]

token_in_string : (b : ℕ) → is_token_byte b ≡ true → in_string b ≡ true
token_in_string b is =
    elim (cases_Bool (is_ascii_alphanumeric b)) [
      | inl letter ↦ alphanumeric_in_string b letter
      | inr other ↦ any_in_string b (codes "!#$%&'*+-.^_`|~") refl (rw other at is)
    ]

-- one of the bytes that stand alone in their kind
at_byte : (c : ℕ) (k : ByteKind) (b : ℕ) → (b == c) ≡ true → View c (kind_of c) → View b (kind_of b)
at_byte c k b same v = let P : ℕ → Type 0 = λ n. View n (kind_of n) in subst P (sym (eqb-true b c same)) v

record Others (b : ℕ) : Type 0 where
  n32 : (b == 32) ≡ false
  n9 : (b == 9) ≡ false
  n44 : (b == 44) ≡ false
  n61 : (b == 61) ≡ false
  n34 : (b == 34) ≡ false
  n92 : (b == 92) ≡ false
  n47 : (b == 47) ≡ false

word_kind : Bool → Bool → Bool → ByteKind
word_kind t s i = if t then (if s then Shared else TokenOnly) else (if i then Quotable else Control)

falls_through : (b : ℕ) → Others b → kind_of b ≡ word_kind (is_token_byte b) (is_token68_byte b) (in_string b)
unfolding word_kind
falls_through b o = rw (o.n32, o.n9, o.n44, o.n61, o.n34, o.n92, o.n47) refl

by_tests : (b : ℕ) → Others b → (t s i : Bool) → is_token_byte b ≡ t → is_token68_byte b ≡ s → in_string b ≡ i → View b (word_kind t s i)
unfolding word_kind
by_tests b o true true i t s n = shared b t s (token_in_string b t) (or_false _ _ o.n34 o.n92) (or_false _ _ o.n32 o.n9)
by_tests b o true false i t s n = token_only b t s (token_in_string b t) (or_false _ _ o.n34 o.n92) (or_false _ _ o.n32 o.n9)
by_tests b o false s true t e n = quotable b t (no_token68 b t o.n47) n (or_false _ _ o.n34 o.n92) (or_false _ _ o.n32 o.n9)
by_tests b o false s false t e n = control b t (no_token68 b t o.n47) n (or_false _ _ o.n32 o.n9)

view_other : (b : ℕ) → Others b → View b (kind_of b)
view_other b o =
    let P : ByteKind → Type 0 = λ k. View b k in
    subst P (sym (falls_through b o)) (by_tests b o (is_token_byte b) (is_token68_byte b) (in_string b) refl refl refl)

pub view : (b : ℕ) → View b (kind_of b)
view b =
    elim (cases_Bool (b == 32)) [
      | inl y ↦ at_byte 32 Space b y space
      | inr n32 ↦
          elim (cases_Bool (b == 9)) [
            | inl y ↦ at_byte 9 Tab b y tab
            | inr n9 ↦
                elim (cases_Bool (b == 44)) [
                  | inl y ↦ at_byte 44 Comma b y comma
                  | inr n44 ↦
                      elim (cases_Bool (b == 61)) [
                        | inl y ↦ at_byte 61 Equals b y equals
                        | inr n61 ↦
                            elim (cases_Bool (b == 34)) [
                              | inl y ↦ at_byte 34 Quote b y quote
                              | inr n34 ↦
                                  elim (cases_Bool (b == 92)) [
                                    | inl y ↦ at_byte 92 Backslash b y backslash
                                    | inr n92 ↦
                                        elim (cases_Bool (b == 47)) [
                                          | inl y ↦ at_byte 47 Slash b y slash
                                          | inr n47 ↦
                                              view_other b (record { n32 = n32; n9 = n9; n44 = n44; n61 = n61; n34 = n34; n92 = n92; n47 = n47 })
                                        ]
                                  ]
                            ]
                      ]
                ]
          ]
    ]

-- a byte of a token is of one of two kinds
pub token_kind : {b : ℕ} {k : ByteKind} → View b k → is_token_byte b ≡ true → (k ≡ Shared) ⊎ (k ≡ TokenOnly)
token_kind (shared b t s i o k) is = inl refl
token_kind (token_only b t s i o k) is = inr refl
token_kind (quotable b t s i o k) is = let both : true ≡ false = sym is ∙ t in cc
token_kind (control b t s i k) is = let both : true ≡ false = sym is ∙ t in cc
token_kind space is = cc
token_kind tab is = cc
token_kind comma is = cc
token_kind equals is = cc
token_kind quote is = cc
token_kind backslash is = cc
token_kind slash is = cc

-- so is one of a token68
pub token68_kind : {b : ℕ} {k : ByteKind} → View b k → is_token68_byte b ≡ true → (k ≡ Shared) ⊎ (k ≡ Slash)
token68_kind (shared b t s i o k) is = inl refl
token68_kind (token_only b t s i o k) is = let both : true ≡ false = sym is ∙ s in cc
token68_kind (quotable b t s i o k) is = let both : true ≡ false = sym is ∙ s in cc
token68_kind (control b t s i k) is = let both : true ≡ false = sym is ∙ s in cc
token68_kind space is = cc
token68_kind tab is = cc
token68_kind comma is = cc
token68_kind equals is = cc
token68_kind quote is = cc
token68_kind backslash is = cc
token68_kind slash is = inr refl

-- and a blank
pub blank_kind : {b : ℕ} {k : ByteKind} → View b k → is_blank b ≡ true → (k ≡ Space) ⊎ (k ≡ Tab)
blank_kind space is = inl refl
blank_kind tab is = inr refl
blank_kind comma is = cc
blank_kind equals is = cc
blank_kind quote is = cc
blank_kind backslash is = cc
blank_kind slash is = cc
blank_kind (shared b t s i o k) is = let both : true ≡ false = sym is ∙ k in cc
blank_kind (token_only b t s i o k) is = let both : true ≡ false = sym is ∙ k in cc
blank_kind (quotable b t s i o k) is = let both : true ≡ false = sym is ∙ k in cc
blank_kind (control b t s i k) is = let both : true ≡ false = sym is ∙ k in cc
