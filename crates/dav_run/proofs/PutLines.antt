-- A line that stores something is read in one way.
use Rattle.std.proofs.Common.{◌≡◌, ◌≢◌, ◌<◌, ◌≤◌, ◌+◌, ℕ, zero, suc, List, [], ◌∷◌, ◌++◌, length, take, drop, get_or, Ok, refl, sym, ◌∙◌, ap, subst, arith, codes, add-one}
use Rattle.std.specs.Str.{IsUtf8}
use Rattle.dav_text.specs.Path.{PathParts}
use Rattle.dav_text.specs.Reading.{typed_of}
use Rattle.dav_run.specs.Line.{IsUnbroken, IsFirstBlank, IsArgument, IsFileWord, IsPut, IsNoPut, IsSplit}

-- behind words without a blank the first blank is where they end
split_unique : (a b c d : List ℕ) → IsUnbroken a → IsUnbroken c → a ++ 32 ∷ b ≡ c ++ 32 ∷ d → (a ≡ c) × (b ≡ d)
split_unique [] b [] d one two same = (refl, cc)
split_unique [] b (y ∷ c) d one two same = absurd (two.0 (let h : 32 ≡ y = cc in sym h))
split_unique (x ∷ a) b [] d one two same = absurd (one.0 (let h : x ≡ 32 = cc in h))
split_unique (x ∷ a) b (y ∷ c) d one two same =
    let tails : a ++ 32 ∷ b ≡ c ++ 32 ∷ d = cc in
    let heads : x ≡ y = cc in
    let rest = split_unique a b c d one.1 two.1 tails in
    (ap (λ (z : ℕ). z ∷ a) heads ∙ ap (λ (l : List ℕ). y ∷ l) rest.0, rest.1)

-- two readings of a line as a store are one
pub put_unique : (current : PathParts) (line : List ℕ) (p q : PathParts) (b c : List ℕ) → IsPut current line p b → IsPut current line q c → (p ≡ q) × (b ≡ c)
put_unique current line p q b c one two =
    let same : one.target ++ 32 ∷ b ≡ two.target ++ 32 ∷ c = let h = sym one.spelled ∙ two.spelled in cc in
    let parts = split_unique one.target b two.target c one.unbroken two.unbroken same in
    ((let h : Ok p ≡ Ok q = sym one.word.typed ∙ ap (typed_of current) parts.0 ∙ two.word.typed in cc), parts.1)

-- a split line whose word names no file is no store
pub split_no_path : (current : PathParts) (line target bytes : List ℕ) → IsSplit line target bytes → ((path : PathParts) → IsFileWord current target path → ⊥) → IsNoPut current line
split_no_path current line target bytes split none path b put =
    let same : target ++ 32 ∷ bytes ≡ put.target ++ 32 ∷ b = let h = sym split.spelled ∙ put.spelled in cc in
    let parts = split_unique target bytes put.target b split.unbroken put.unbroken same in
    none path (subst (λ (word : List ℕ). IsFileWord current word path) (sym parts.0) put.word)

has_blank : (target bytes : List ℕ) → IsUnbroken (target ++ 32 ∷ bytes) → ⊥
has_blank [] bytes all = all.0 refl
has_blank (b ∷ target) bytes all = has_blank target bytes all.1

pub unbroken_no_put : (line words : List ℕ) → line ≡ codes "fput " ++ words → IsUnbroken words → (current : PathParts) → IsNoPut current line
unbroken_no_put line words is all current path b put =
    let same : words ≡ put.target ++ 32 ∷ b = let h = sym is ∙ put.spelled in cc in
    has_blank put.target b (subst IsUnbroken same all)

split_bytes : (bytes : List ℕ) (at : ℕ) → at < length bytes → get_or bytes at 0 ≡ 32 → bytes ≡ take at bytes ++ 32 ∷ drop (suc at) bytes
split_bytes [] at inside blank = absurd (omega arith)
split_bytes (b ∷ bytes) zero inside blank = ap (λ (x : ℕ). x ∷ bytes) blank
split_bytes (b ∷ bytes) (suc at) inside blank = ap (λ (l : List ℕ). b ∷ l) (split_bytes bytes at (omega arith) blank)

unbroken_before : (bytes : List ℕ) (at : ℕ) → at ≤ length bytes → ((k : ℕ) → k < at → get_or bytes k 0 ≢ 32) → IsUnbroken (take at bytes)
unbroken_before bytes zero inside none = tt
unbroken_before [] (suc at) inside none = absurd (omega arith)
unbroken_before (b ∷ bytes) (suc at) inside none = (none 0 (omega arith), unbroken_before bytes at (omega arith) (λ k below. none (suc k) (omega arith)))

pub unbroken_all : (bytes : List ℕ) → ((k : ℕ) → k < length bytes → get_or bytes k 0 ≢ 32) → IsUnbroken bytes
unbroken_all [] none = tt
unbroken_all (b ∷ bytes) none = (none 0 (omega arith), unbroken_all bytes (λ k below. none (suc k) (omega arith)))

-- what stands round the first blank
blank_split : (line words : List ℕ) (at : ℕ) → line ≡ codes "fput " ++ words → IsFirstBlank words at
    → (line ≡ codes "fput " ++ (take at words ++ 32 ∷ drop (at + 1) words)) × IsUnbroken (take at words)
blank_split line words at is first = (
  is ∙ ap (λ (l : List ℕ). codes "fput " ++ l) (split_bytes words at first.inside first.blank ∙ ap (λ (k : ℕ). take at words ++ 32 ∷ drop k words) (sym (add-one at))),
  unbroken_before words at (let h = first.inside in omega arith) first.before,
)

-- a line is no store where what stands behind the first blank can't be stored
pub blank_no_argument : (line words : List ℕ) (at : ℕ) → line ≡ codes "fput " ++ words → IsFirstBlank words at → (IsArgument (drop (at + 1) words) → ⊥) → (current : PathParts) → IsNoPut current line
blank_no_argument line words at is first bad current path b put =
    let split = blank_split line words at is first in
    let same : take at words ++ 32 ∷ drop (at + 1) words ≡ put.target ++ 32 ∷ b = let h = sym split.0 ∙ put.spelled in cc in
    let parts = split_unique (take at words) (drop (at + 1) words) put.target b split.1 put.unbroken same in
    bad (subst IsArgument (sym parts.1) put.argument)

-- nor where what stands before it is no text
pub blank_no_path : (line words : List ℕ) (at : ℕ) → line ≡ codes "fput " ++ words → IsFirstBlank words at → (IsUtf8 (take at words) → ⊥) → (current : PathParts) → IsNoPut current line
blank_no_path line words at is first bad current path b put =
    let split = blank_split line words at is first in
    let same : take at words ++ 32 ∷ drop (at + 1) words ≡ put.target ++ 32 ∷ b = let h = sym split.0 ∙ put.spelled in cc in
    let parts = split_unique (take at words) (drop (at + 1) words) put.target b split.1 put.unbroken same in
    bad (subst IsUtf8 (sym parts.0) put.word.utf8)

-- the first word and what stands behind the blank after it
pub split_found : (line words target bytes : List ℕ) (at : ℕ) → line ≡ codes "fput " ++ words → IsFirstBlank words at → target ≡ take at words → bytes ≡ drop (at + 1) words
    → IsArgument bytes → IsSplit line target bytes
split_found line words target bytes at is first front back argument =
    let split = blank_split line words at is first in
    record {
      spelled = split.0 ∙ ap (λ (l : List ℕ). codes "fput " ++ (l ++ 32 ∷ drop (at + 1) words)) (sym front) ∙ ap (λ (l : List ℕ). codes "fput " ++ (target ++ 32 ∷ l)) (sym back);
      unbroken = subst IsUnbroken (sym front) split.1;
      argument = argument;
    }
