-- A text is one list of parameters at most.
use Rattle.std.proofs.Common.{◌≡◌, ℕ, ◌==◌, ◌||◌, Bool, true, false, List, [], ◌∷◌, ◌++◌, length, inl, inr, refl, ap, sym, subst, ◌∙◌, append_assoc, if◌then◌else◌, Option, Some, None, nat_lt}
use Rattle.std.specs.List.{list_all}
use Rattle.std.proofs.lemmas.Bool.{cases_Bool, and_parts, or_parts, eqb-true}
use Rattle.std.proofs.lemmas.List.{append-nil}
use Rattle.dav_auth.specs.Grammar.{is_blank, AreBlank, is_token_byte, IsToken, Between, ValueText, Parameter, ParameterText, Among, Parameters}
use Rattle.dav_auth.specs.Grammar.Between.{nothing, plain, pair}
use Rattle.dav_auth.specs.Grammar.ValueText.{token, string}
use Rattle.dav_auth.specs.Grammar.Parameters.{blank, last, empty, more}

-- where a reader stands, and what it has of a parameter
data Place : Type 0 where
  AtStart : Place
  InName : List ℕ → Place
  AfterName : List ℕ → Place
  AtValue : List ℕ → Place
  InToken : List ℕ → List ℕ → Place
  InString : List ℕ → List ℕ → Place
  InPair : List ℕ → List ℕ → Place
  AfterValue : Place

abbrev of : List ℕ → List ℕ → Parameter
of name value = record { name = name; value = value }

abbrev and_first : Parameter → Option (List Parameter) → Option (List Parameter)
and_first p None = None
and_first p (Some ps) = Some (p ∷ ps)

-- the parameters that a reader finds from a place on; where the text is no list, they mean nothing
unfoldable run : List ℕ → Place → Option (List Parameter)
run [] AtStart = Some []
run [] (InName n) = None
run [] (AfterName n) = None
run [] (AtValue n) = None
run [] (InToken n v) = Some (of n v ∷ [])
run [] (InString n v) = None
run [] (InPair n v) = None
run [] AfterValue = Some []
run (b ∷ s) AtStart = if is_blank b || b == 44 then run s AtStart else run s (InName (b ∷ []))
run (b ∷ s) (InName n) = if is_token_byte b then run s (InName (n ++ b ∷ [])) else if b == 61 then run s (AtValue n) else run s (AfterName n)
run (b ∷ s) (AfterName n) = if b == 61 then run s (AtValue n) else run s (AfterName n)
run (b ∷ s) (AtValue n) = if is_blank b then run s (AtValue n) else if b == 34 then run s (InString n []) else run s (InToken n (b ∷ []))
run (b ∷ s) (InToken n v) =
    if is_token_byte b then run s (InToken n (v ++ b ∷ []))
    else if b == 44 then and_first (of n v) (run s AtStart) else and_first (of n v) (run s AfterValue)
run (b ∷ s) (InString n v) =
    if b == 34 then and_first (of n v) (run s AfterValue) else if b == 92 then run s (InPair n v) else run s (InString n (v ++ b ∷ []))
run (b ∷ s) (InPair n v) = run s (InString n (v ++ b ∷ []))
run (b ∷ s) AfterValue = if b == 44 then run s AtStart else run s AfterValue

-- ---- kinds of bytes

-- a byte that passes is none that fails
not_that : (p : ℕ → Bool) (b c : ℕ) → p b ≡ true → p c ≡ false → (b == c) ≡ false
not_that p b c passes fails =
    elim (cases_Bool (b == c)) [
      | inl same ↦
          let both : true ≡ false = sym passes ∙ ap p (eqb-true b c same) ∙ fails in
          cc
      | inr other ↦ other
    ]

-- a blank is no byte of a token, and the other way round
not_both : (b : ℕ) → is_blank b ≡ true → is_token_byte b ≡ false
not_both b blanks =
    elim (cases_Bool (b == 32)) [
      | inl space ↦ ap is_token_byte (eqb-true b 32 space) ∙ refl
      | inr other ↦
          let tab : (b == 9) ≡ true = rw other at blanks in
          ap is_token_byte (eqb-true b 9 tab) ∙ refl
    ]

token_not_blank : (b : ℕ) → is_token_byte b ≡ true → is_blank b ≡ false
token_not_blank b is =
    elim (cases_Bool (is_blank b)) [
      | inl blanks ↦
          let both : true ≡ false = sym is ∙ not_both b blanks in
          cc
      | inr other ↦ other
    ]

-- ---- pieces

start_blanks : (x t : List ℕ) → AreBlank x → run (x ++ t) AtStart ≡ run t AtStart
unfolding run
start_blanks [] t blanks = refl
start_blanks (b ∷ x) t blanks =
    let parts = and_parts (is_blank b) (list_all is_blank x) blanks in rw parts.0 (start_blanks x t parts.1)

name_more : (m t n : List ℕ) → list_all is_token_byte m ≡ true → run (m ++ t) (InName n) ≡ run t (InName (n ++ m))
unfolding run
name_more [] t n is = ap (λ k. run t (InName k)) (sym (append-nil n))
name_more (b ∷ m) t n is =
    let parts = and_parts (is_token_byte b) (list_all is_token_byte m) is in
    rw parts.0 (name_more m t (n ++ b ∷ []) parts.1 ∙ ap (λ k. run t (InName k)) (append_assoc n (b ∷ []) m))

name_passed : (x t n : List ℕ) → AreBlank x → run (x ++ 61 ∷ t) (AfterName n) ≡ run t (AtValue n)
unfolding run
name_passed [] t n blanks = refl
name_passed (b ∷ x) t n blanks =
    let parts = and_parts (is_blank b) (list_all is_blank x) blanks in
    rw (not_that is_blank b 61 parts.0 refl) (name_passed x t n parts.1)

name_end : (x t n : List ℕ) → AreBlank x → run (x ++ 61 ∷ t) (InName n) ≡ run t (AtValue n)
unfolding run
name_end [] t n blanks = refl
name_end (b ∷ x) t n blanks =
    let parts = and_parts (is_blank b) (list_all is_blank x) blanks in
    rw (not_both b parts.0, not_that is_blank b 61 parts.0 refl) (name_passed x t n parts.1)

value_blanks : (x t n : List ℕ) → AreBlank x → run (x ++ t) (AtValue n) ≡ run t (AtValue n)
unfolding run
value_blanks [] t n blanks = refl
value_blanks (b ∷ x) t n blanks =
    let parts = and_parts (is_blank b) (list_all is_blank x) blanks in rw parts.0 (value_blanks x t n parts.1)

token_more : (w t n v : List ℕ) → list_all is_token_byte w ≡ true → run (w ++ t) (InToken n v) ≡ run t (InToken n (v ++ w))
unfolding run
token_more [] t n v is = ap (λ k. run t (InToken n k)) (sym (append-nil v))
token_more (b ∷ w) t n v is =
    let parts = and_parts (is_token_byte b) (list_all is_token_byte w) is in
    rw parts.0 (token_more w t n (v ++ b ∷ []) parts.1 ∙ ap (λ k. run t (InToken n k)) (append_assoc v (b ∷ []) w))

string_more : {v t : List ℕ} → Between v t → (r n u : List ℕ) → run (t ++ (34 ∷ r)) (InString n u) ≡ and_first (of n (u ++ v)) (run r AfterValue)
unfolding run
string_more nothing r n u = ap (λ k. and_first (of n k) (run r AfterValue)) (sym (append-nil u))
string_more (plain {value = v} {text = t} b said other rest) r n u =
    let parts = or_parts (b == 34) (b == 92) other in
    rw (parts.0, parts.1) (string_more rest r n (u ++ b ∷ []) ∙ ap (λ k. and_first (of n k) (run r AfterValue)) (append_assoc u (b ∷ []) v))
string_more (pair {value = v} {text = t} b said rest) r n u =
    string_more rest r n (u ++ b ∷ []) ∙ ap (λ k. and_first (of n k) (run r AfterValue)) (append_assoc u (b ∷ []) v)

-- what a reader finds after a value, and the same at the end of a token
record Follows (r : List ℕ) (found : Option (List Parameter)) : Type 0 where
  after : run r AfterValue ≡ found
  ends : (n v : List ℕ) → run r (InToken n v) ≡ and_first (of n v) found

value_read : {v w : List ℕ} → ValueText v w → (n r : List ℕ) (found : Option (List Parameter)) → Follows r found
    → run (w ++ r) (AtValue n) ≡ and_first (of n v) found
unfolding run
value_read (token {value = []} is) n r found follows = cc
value_read (token {value = b ∷ v} is) n r found follows =
    let byte = and_parts (is_token_byte b) (list_all is_token_byte v) (and_parts (nat_lt 0 (length (b ∷ v))) (list_all is_token_byte (b ∷ v)) is).1 in
    rw (token_not_blank b byte.0, not_that is_token_byte b 34 byte.0 refl) (token_more v r n (b ∷ []) byte.1 ∙ follows.ends n (b ∷ v))
value_read (string {value = v} {text = t} inner) n r found follows =
    ap (λ k. run k (InString n [])) (append_assoc t (34 ∷ []) r) ∙ string_more inner r n [] ∙ ap (λ k. and_first (of n v) k) follows.after

blank_after : (y : List ℕ) → AreBlank y → run y AfterValue ≡ Some []
unfolding run
blank_after [] blanks = refl
blank_after (b ∷ y) blanks =
    let parts = and_parts (is_blank b) (list_all is_blank y) blanks in rw (not_that is_blank b 44 parts.0 refl) (blank_after y parts.1)

comma_after : (y r : List ℕ) → AreBlank y → run (y ++ 44 ∷ r) AfterValue ≡ run r AtStart
unfolding run
comma_after [] r blanks = refl
comma_after (b ∷ y) r blanks =
    let parts = and_parts (is_blank b) (list_all is_blank y) blanks in rw (not_that is_blank b 44 parts.0 refl) (comma_after y r parts.1)

blank_ends : (y n v : List ℕ) → AreBlank y → run y (InToken n v) ≡ Some (of n v ∷ [])
unfolding run
blank_ends [] n v blanks = refl
blank_ends (b ∷ y) n v blanks =
    let parts = and_parts (is_blank b) (list_all is_blank y) blanks in
    rw (not_both b parts.0, not_that is_blank b 44 parts.0 refl) (ap (λ k. and_first (of n v) k) (blank_after y parts.1))

comma_ends : (y r n v : List ℕ) → AreBlank y → run (y ++ 44 ∷ r) (InToken n v) ≡ and_first (of n v) (run r AtStart)
unfolding run
comma_ends [] r n v blanks = refl
comma_ends (b ∷ y) r n v blanks =
    let parts = and_parts (is_blank b) (list_all is_blank y) blanks in
    rw (not_both b parts.0, not_that is_blank b 44 parts.0 refl) (ap (λ k. and_first (of n v) k) (comma_after y r parts.1))

last_follows : (y : List ℕ) → AreBlank y → Follows y (Some [])
last_follows y blanks = record { after = blank_after y blanks; ends = λ n v. blank_ends y n v blanks }

more_follows : (y r : List ℕ) → AreBlank y → Follows (y ++ 44 ∷ r) (run r AtStart)
more_follows y r blanks = record { after = comma_after y r blanks; ends = λ n v. comma_ends y r n v blanks }

-- ---- whole parameters and lists

name_read : (name t : List ℕ) → IsToken name → run (name ++ t) AtStart ≡ run t (InName name)
unfolding run
name_read [] t is = cc
name_read (b ∷ m) t is =
    let byte = and_parts (is_token_byte b) (list_all is_token_byte m) (and_parts (nat_lt 0 (length (b ∷ m))) (list_all is_token_byte (b ∷ m)) is).1 in
    rw (token_not_blank b byte.0, not_that is_token_byte b 44 byte.0 refl) (name_more m t (b ∷ []) byte.1)

parameter_read : (p : Parameter) (w r : List ℕ) (found : Option (List Parameter)) → ParameterText p w → Follows r found
    → run (w ++ r) AtStart ≡ and_first p found
parameter_read p w r found is follows =
    let t1 : List ℕ = is.after ++ is.written in
    let t2 : List ℕ = is.before ++ (61 ∷ t1) in
    ap (λ k. run (k ++ r) AtStart) is.split ∙ ap (λ k. run k AtStart) (append_assoc p.name t2 r) ∙ name_read p.name (t2 ++ r) is.named
    ∙ ap (λ k. run k (InName p.name)) (append_assoc is.before (61 ∷ t1) r) ∙ name_end is.before (t1 ++ r) p.name is.blank_before
    ∙ ap (λ k. run k (AtValue p.name)) (append_assoc is.after is.written r) ∙ value_blanks is.after (is.written ++ r) p.name is.blank_after
    ∙ value_read is.valued p.name r found follows

among_read : (p : Parameter) (text r : List ℕ) (found : Option (List Parameter)) → (a : Among p text) → Follows (a.back ++ r) found
    → run (text ++ r) AtStart ≡ and_first p found
among_read p text r found a follows =
    ap (λ k. run (k ++ r) AtStart) a.split ∙ ap (λ k. run k AtStart) (append_assoc a.front (a.written ++ a.back) r)
    ∙ start_blanks a.front ((a.written ++ a.back) ++ r) a.blank_front ∙ ap (λ k. run k AtStart) (append_assoc a.written a.back r)
    ∙ parameter_read p a.written (a.back ++ r) found a.parameter follows

-- what is read of a list is the list
reads : {ps : List Parameter} {s : List ℕ} → Parameters ps s → run s AtStart ≡ Some ps
unfolding run
reads (blank {text = s} b) = ap (λ k. run k AtStart) (sym (append-nil s)) ∙ start_blanks s [] b
reads (last {p = p} {text = s} a) =
    let F : List ℕ → Type 0 = λ k. Follows k (Some []) in
    ap (λ k. run k AtStart) (sym (append-nil s))
    ∙ among_read p s [] (Some []) a (subst F (sym (append-nil a.back)) (last_follows a.back a.blank_back))
reads (empty {ps = ps} {rest = r} s b rest) = start_blanks s (44 ∷ r) b ∙ reads rest
reads (more {p = p} {ps = ps} {rest = r} s a rest) =
    among_read p s (44 ∷ r) (run r AtStart) a (more_follows a.back r a.blank_back) ∙ ap (λ k. and_first p k) (reads rest)

some_same : (ps qs : List Parameter) → Some ps ≡ Some qs → ps ≡ qs
some_same ps qs same = cc

pub one_reading : (text : List ℕ) (one other : List Parameter) → Parameters one text → Parameters other text → one ≡ other
one_reading text one other h k = some_same one other (sym (reads h) ∙ reads k)
