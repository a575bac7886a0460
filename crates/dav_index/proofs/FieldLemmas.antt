-- Fields of a record in front of bytes.
use Rattle.std.proofs.Common.{◌≡◌, ℕ, ◌+◌, ◌<◌, ◌≤◌, List, ◌∷◌, ◌++◌, length, get_or, take, drop, refl, sym, ap, ◌∙◌, inl, inr, arith, length-append, length-take, append_assoc}
use Rattle.std.specs.Int.{w16, w32, w64, from_be_bytes}
use Rattle.std.proofs.lemmas.Nat.{be_bytes_2, be_bytes_4, be_bytes_8}
use Rattle.std.proofs.lemmas.Bool.{cases_lt}
use Rattle.std.proofs.Math.Seq.{drop-append_seam}
use Rattle.std.proofs.lemmas.List.{take-append-drop, length-take-le, get_or-take, get_or_past, get_or-drop}
use Rattle.dav_index.specs.Records.{two_bytes, four_bytes, eight_bytes}
use Rattle.dav_index.specs.Reading.{Begins, IsTaken, sized}
use Rattle.dav_index.specs.Left.{Left}

-- numbers that are bytes
abbrev pub AreBytes : List ℕ → Type 0
AreBytes bs = (i : ℕ) → get_or bs i 0 < 256

pub bytes_in_front : (k : ℕ) (bs : List ℕ) → AreBytes bs → AreBytes (take k bs)
bytes_in_front k bs small i =
    elim (cases_lt i k) [
      | inl below ↦ rw (get_or-take k bs i 0 below) (small i)
      | inr above ↦ rw (get_or_past (take k bs) i 0 (omega (arith, length-take k bs))) (omega arith)
    ]

pub bytes_behind : (k : ℕ) (bs : List ℕ) → AreBytes bs → AreBytes (drop k bs)
bytes_behind k bs small i = rw get_or-drop (small (k + i))

pub length-two_bytes : (n : ℕ) → length (two_bytes n) ≡ 2
unfolding two_bytes
length-two_bytes n = refl

pub length-four_bytes : (n : ℕ) → length (four_bytes n) ≡ 4
unfolding four_bytes
length-four_bytes n = refl

pub length-eight_bytes : (n : ℕ) → length (eight_bytes n) ≡ 8
unfolding eight_bytes
length-eight_bytes n = refl

pub two_read : (bs : List ℕ) (n : ℕ) → 2 ≤ length bs → AreBytes bs → n ≡ from_be_bytes w16 (take 2 bs) → two_bytes n ≡ take 2 bs
unfolding two_bytes
two_read bs n long small is = be_bytes_2 (take 2 bs) n (length-take-le 2 bs long) (bytes_in_front 2 bs small) is

pub four_read : (bs : List ℕ) (n : ℕ) → 4 ≤ length bs → AreBytes bs → n ≡ from_be_bytes w32 (take 4 bs) → four_bytes n ≡ take 4 bs
unfolding four_bytes
four_read bs n long small is = be_bytes_4 (take 4 bs) n (length-take-le 4 bs long) (bytes_in_front 4 bs small) is

pub eight_read : (bs : List ℕ) (n : ℕ) → 8 ≤ length bs → AreBytes bs → n ≡ from_be_bytes w64 (take 8 bs) → eight_bytes n ≡ take 8 bs
unfolding eight_bytes
eight_read bs n long small is = be_bytes_8 (take 8 bs) n (length-take-le 8 bs long) (bytes_in_front 8 bs small) is

-- a front is in front
pub begins_front : (text : List ℕ) (k : ℕ) (bs : List ℕ) → text ≡ take k bs → Begins text bs
begins_front text k bs is = (drop k bs, sym (take-append-drop k bs) ∙ ap (λ t. t ++ drop k bs) (sym is))

-- what is taken from the front
pub taken : (text : List ℕ) (old new : Left) (k : ℕ) → Begins text old.rest → k ≡ length text
    → new ≡ record { rest = drop k old.rest; at = old.at + k } → IsTaken text old new
taken text old new k front len is =
    let back : drop k old.rest ≡ front.0 = ap (λ n. drop n old.rest) len ∙ ap (drop (length text)) front.1 ∙ drop-append_seam text front.0 in
    record {
      split = front.1 ∙ ap (λ t. text ++ t) (sym back ∙ sym (ap (λ (l : Left). l.rest) is));
      at = ap (λ (l : Left). l.at) is ∙ ap (λ n. old.at + n) len;
    }

-- a front that was read, and what is behind it
pub split_read : (text : List ℕ) (k : ℕ) (bs rest : List ℕ) → text ≡ take k bs → rest ≡ drop k bs → bs ≡ text ++ rest
split_read text k bs rest front back = sym (take-append-drop k bs) ∙ ap (λ t. t ++ drop k bs) (sym front) ∙ ap (λ t. text ++ t) (sym back)

-- the text behind its length
pub begins_sized : (bs rest : List ℕ) (n len : ℕ) → bs ≡ two_bytes n ++ rest → n < 65536 → len ≡ n → len ≤ length rest
    → (length (take len rest) < 65536) × Begins (sized (take len rest)) bs
begins_sized bs rest n len split fits same long =
    let size : length (take len rest) ≡ n = length-take-le len rest long ∙ same in (
      omega (arith, size, fits),
      (
        drop len rest,
        split ∙ ap (λ t. two_bytes n ++ t) (sym (take-append-drop len rest)) ∙ sym (append_assoc (two_bytes n) (take len rest) (drop len rest))
            ∙ ap (λ m. (two_bytes m ++ take len rest) ++ drop len rest) (sym size),
      ),
    )

-- the body that was read
pub begins_body : (file len : ℕ) (sum bs rest more end : List ℕ) → bs ≡ four_bytes file ++ rest → rest ≡ eight_bytes len ++ more → more ≡ sum ++ end
    → bs ≡ ((four_bytes file ++ eight_bytes len) ++ sum) ++ end
begins_body file len sum bs rest more end first second third =
    first ∙ ap (λ t. four_bytes file ++ t) (second ∙ ap (λ t. eight_bytes len ++ t) third)
    ∙ sym (append_assoc (four_bytes file) (eight_bytes len) (sum ++ end)) ∙ sym (append_assoc (four_bytes file ++ eight_bytes len) sum end)

-- the tag that was read
pub begins_tagged : (len n : ℕ) (bs tag : List ℕ) → n ≡ len → n ≤ length bs → tag ≡ take n bs → Begins (3 ∷ length tag ∷ tag) (3 ∷ len ∷ bs)
begins_tagged len n bs tag same long is =
    let size : length tag ≡ len = ap length is ∙ length-take-le n bs long ∙ same in (
      drop n bs,
      ap (λ m. 3 ∷ m ∷ bs) (sym size) ∙ ap (λ t. 3 ∷ length tag ∷ t) (sym (take-append-drop n bs) ∙ ap (λ t. t ++ drop n bs) (sym is)),
    )

-- a front is within
pub front_within : (text bs : List ℕ) (k : ℕ) → Begins text bs → k ≡ length text → k ≤ length bs
front_within text bs k front len = omega (arith, ap length front.1, length-append text front.0, len)

pub length-sized : (text : List ℕ) → length (sized text) ≡ 2 + length text
length-sized text = omega (arith, length-append (two_bytes (length text)) text, length-two_bytes (length text))
