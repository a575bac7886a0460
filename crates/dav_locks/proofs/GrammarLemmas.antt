-- A value of an If field has one reading.
use Rattle.std.proofs.Common.{◌≡◌, ℕ, Bool, true, false, List, [], ◌∷◌, ◌++◌, refl, sym, ap, subst, ◌∙◌}
use Rattle.std.specs.List.{list_all}
use Rattle.std.proofs.lemmas.Bool.{false≢true, and_parts}
use Rattle.dav_text.specs.Blanks.{is_blank}
use Rattle.dav_text.specs.declared.blanks.Blanks.TheVariants.{Field}
use Rattle.dav_uri.specs.Url.{is_url_byte}
use Rattle.dav_locks.specs.Token.{is_token_byte, is_token}
use Rattle.dav_locks.specs.Grammar.{Condition, IsTagged, If, last, more}

heads : {a b : ℕ} {x y : List ℕ} → a ∷ x ≡ b ∷ y → a ≡ b
heads e = cc

tails : {a b : ℕ} {x y : List ℕ} → a ∷ x ≡ b ∷ y → x ≡ y
tails e = cc

passes_not : (p : ℕ → Bool) (a b : ℕ) → p a ≡ true → p b ≡ false → a ≡ b → ⊥
passes_not p a b is non same = false≢true (sym non ∙ ap p (sym same) ∙ is)

-- two texts that are the same up to their first byte that fails a test are the same in both parts
cut : (p : ℕ → Bool) (c d : ℕ) (u v x y : List ℕ) → p c ≡ false → p d ≡ false → list_all p u ≡ true → list_all p v ≡ true → u ++ c ∷ x ≡ v ++ d ∷ y → (u ≡ v) × (c ∷ x ≡ d ∷ y)
cut p c d [] [] x y cn dn us vs e = (refl, e)
cut p c d [] (b ∷ v) x y cn dn us vs e = absurd (passes_not p b c (and_parts (p b) (list_all p v) vs).0 cn (sym (heads e)))
cut p c d (a ∷ u) [] x y cn dn us vs e = absurd (passes_not p a d (and_parts (p a) (list_all p u) us).0 dn (heads e))
cut p c d (a ∷ u) (b ∷ v) x y cn dn us vs e =
    let rest = cut p c d u v x y cn dn (and_parts (p a) (list_all p u) us).1 (and_parts (p b) (list_all p v) vs).1 (tails e) in
    let first : a ≡ b = heads e in
    (ap (λ (t : List ℕ). a ∷ t) rest.0 ∙ ap (λ (n : ℕ). n ∷ v) first, rest.1)

token_bytes : (token : List ℕ) → is_token token ≡ true → list_all is_token_byte token ≡ true
token_bytes token is = (and_parts _ _ (and_parts _ _ is).0).1

same_condition : (one other : Condition) → one.url ≡ other.url → one.token ≡ other.token → one ≡ other
same_condition one other url token =
    ap (λ (x : List ℕ). let c : Condition = record { url = x; token = one.token } in c) url
    ∙ ap (λ (x : List ℕ). let c : Condition = record { url = other.url; token = x } in c) token

-- one tagged list, and what follows it
same_tagged : (one other : Condition) (text x y : List ℕ) → IsTagged one text x → IsTagged other text y → (one ≡ other) × (x ≡ y)
same_tagged one other text x y a b =
    let blank = is_blank Field in
    let mine = and_parts _ _ a.blanks in
    let yours = and_parts _ _ b.blanks in
    let my_first = and_parts _ _ mine.0 in
    let your_first = and_parts _ _ yours.0 in
    let urls = cut is_url_byte 62 62 one.url other.url _ _ refl refl a.url b.url (tails (sym a.split ∙ b.split)) in
    let lists = cut blank 40 40 a.before_list b.before_list _ _ refl refl my_first.0 your_first.0 (tails urls.1) in
    let opens = cut blank 60 60 a.before_token b.before_token _ _ refl refl my_first.1 your_first.1 (tails lists.1) in
    let tokens = cut is_token_byte 62 62 one.token other.token _ _ refl refl (token_bytes one.token a.token) (token_bytes other.token b.token) (tails opens.1) in
    let ends = cut blank 41 41 a.after_token b.after_token x y refl refl mine.1 yours.1 (tails tokens.1) in
    (same_condition one other urls.0 tokens.0, tails ends.1)

-- what a reading begins with
first_of : (conditions : List Condition) (text : List ℕ) → If conditions text → (rest : List ℕ) × (text ≡ 60 ∷ rest)
first_of _ text (last condition _ tagged) = (_, tagged.split)
first_of _ text (more condition conditions _ between behind tagged blanks others) = (_, tagged.split)

nothing_follows : (between behind : List ℕ) (conditions : List Condition) → [] ≡ between ++ behind → If conditions behind → ⊥
nothing_follows [] behind conditions none others =
    let first = first_of conditions behind others in
    let no : [] ≡ 60 ∷ first.0 = none ∙ first.1 in cc
nothing_follows (b ∷ between) behind conditions none others = cc

-- blanks, and what follows them
same_behind : (one other : List ℕ) (x y : List ℕ) (cs ds : List Condition) → list_all (is_blank Field) one ≡ true → list_all (is_blank Field) other ≡ true → If cs x → If ds y → one ++ x ≡ other ++ y → x ≡ y
same_behind one other x y cs ds blanks also first second e =
    let xs = first_of cs x first in
    let ys = first_of ds y second in
    let both : one ++ 60 ∷ xs.0 ≡ other ++ 60 ∷ ys.0 = ap (λ (t : List ℕ). one ++ t) (sym xs.1) ∙ e ∙ ap (λ (t : List ℕ). other ++ t) ys.1 in
    xs.1 ∙ (cut (is_blank Field) 60 60 one other xs.0 ys.0 refl refl blanks also both).1 ∙ sym ys.1

pub same_reading : (one other : List Condition) (text : List ℕ) → If one text → If other text → one ≡ other
same_reading _ _ text (last c _ a) (last d _ b) = ap (λ (x : Condition). x ∷ []) (same_tagged c d text [] [] a b).0
same_reading _ _ text (last c _ a) (more d ds _ between behind b blanks others) =
    absurd (nothing_follows between behind ds (same_tagged c d text [] (between ++ behind) a b).1 others)
same_reading _ _ text (more c cs _ between behind a blanks others) (last d _ b) =
    absurd (nothing_follows between behind cs (sym (same_tagged c d text (between ++ behind) [] a b).1) others)
same_reading _ _ text (more c cs _ between behind a blanks others) (more d ds _ space rest b spaces also) =
    let first = same_tagged c d text (between ++ behind) (space ++ rest) a b in
    let same = same_behind between space behind rest cs ds blanks spaces others also first.1 in
    ap (λ (x : Condition). x ∷ cs) first.0 ∙ ap (λ (xs : List Condition). d ∷ xs) (same_reading cs ds behind others (subst (If ds) (sym same) also))
