-- When a size line may still come of some bytes, and when none can.
use Rattle.std.proofs.Common.{◌≡◌, ◌≢◌, ℕ, ◌+◌, ◌<◌, ◌≤◌, true, false, List, [], ◌∷◌, ◌++◌, length, drop, refl, ap, sym, ◌∙◌, arith, subst, append_assoc, append-nil, length-append, inl, inr, ◌⊎◌, Option, Some, None, IsTrue, All, get_or}
use Rattle.std.proofs.lemmas.Bool.{cases_lt, false≢true}
use Rattle.std.proofs.lemmas.Bool.Decides.{nat_tests}
use Rattle.std.proofs.lemmas.List.{get_or-append-add}
use Rattle.std.proofs.lemmas.List.Elements.{All-nil, All-cons, All-append, All-weaker}
use Rattle.std.proofs.Math.ListN.{get_or-append}
use Rattle.std.specs.Char.{is_ascii_hexdigit}
use Rattle.httparse.specs.Grammar.{ChunkLine, IsChunkLine, print_chunk_line, print_extension, print_end, crlf, AllPass, IsExtension, is_ows, is_extension_byte, HasNoChunkLine, MayBecomeChunkLine, ReadsChunkLine}
use Rattle.httparse.proofs.ChunkLemmas.{chunk_line_unique, ReadsChunkLine-append}
use Rattle.dav_head.specs.Line.{IsSizeLine, NeverHasLine}
use Rattle.dav_head.proofs.LineFronts.{CompletedLine, completed_by_end, shorter_begins}

-- after the digits of a line comes a blank, a semicolon or the line end
no_digit_follows : (w : List ℕ) (e : Option (List ℕ)) (rest : List ℕ) → AllPass is_ows w
    → is_ascii_hexdigit (get_or (w ++ (print_extension e ++ (print_end crlf ++ rest))) 0 0) ≡ false
no_digit_follows [] None rest h = refl
no_digit_follows [] (Some t) rest h = refl
no_digit_follows (b ∷ w) e rest h = let o : is_ows b ≡ true = h 0 0 (omega arith) in grind (arith, nat_tests)

line_parts : (l : ChunkLine) (rest : List ℕ)
    → print_chunk_line l ++ rest ≡ l.digits ++ (l.pad ++ (print_extension l.extension ++ (print_end crlf ++ rest)))
unfolding print_chunk_line
line_parts l rest = simp append_assoc

pub after_digits : (l : ChunkLine) (rest : List ℕ) → IsChunkLine l → is_ascii_hexdigit (get_or (print_chunk_line l ++ rest) (length l.digits) 0) ≡ false
after_digits l rest valid =
    let tail = l.pad ++ (print_extension l.extension ++ (print_end crlf ++ rest)) in
    let g : get_or (l.digits ++ tail) (length l.digits + 0) 0 ≡ get_or tail 0 0 = get_or-append-add l.digits tail 0 0 in
    let z : length l.digits + 0 ≡ length l.digits = omega arith in
    let P : ℕ → Type 0 = λ n. get_or (l.digits ++ tail) n 0 ≡ get_or tail 0 0 in
    ap (λ s. is_ascii_hexdigit (get_or s (length l.digits) 0)) (line_parts l rest) ∙ ap is_ascii_hexdigit (subst P z g)
    ∙ no_digit_follows l.pad l.extension rest valid.pad

pub in_digits : (l : ChunkLine) (rest : List ℕ) (k : ℕ) → IsChunkLine l → k < length l.digits → is_ascii_hexdigit (get_or (print_chunk_line l ++ rest) k 0) ≡ true
in_digits l rest k valid h =
    let tail = l.pad ++ (print_extension l.extension ++ (print_end crlf ++ rest)) in
    ap (λ s. is_ascii_hexdigit (get_or s k 0)) (line_parts l rest) ∙ ap is_ascii_hexdigit (get_or-append l.digits tail 0 k h)
    ∙ valid.digits.2 k 0 h

-- sixteen digits in front leave no size line
pub never-of_digits : (p : List ℕ) (d : ℕ) → d ≤ length p → ((k : ℕ) → k < d → is_ascii_hexdigit (get_or p k 0) ≡ true) → 15 < d → NeverHasLine p
never-of_digits p d inside pass over more l rest line is =
    let j = length l.digits in
    let lt : j < d = omega (arith, line.few) in
    let a : get_or (p ++ more) j 0 ≡ get_or p j 0 = get_or-append p more 0 j (omega arith) in
    let yes : is_ascii_hexdigit (get_or (p ++ more) j 0) ≡ true = ap is_ascii_hexdigit a ∙ pass j lt in
    let no : is_ascii_hexdigit (get_or (p ++ more) j 0) ≡ false = ap (λ s. is_ascii_hexdigit (get_or s j 0)) is ∙ after_digits l rest line.valid in
    false≢true (sym no ∙ yes)

-- where the digits end within the bytes and are few, a line that the bytes begin has few
pub digits_few : (p : List ℕ) (d : ℕ) → (d < length p → is_ascii_hexdigit (get_or p d 0) ≡ false) → d ≤ 15
    → (l : ChunkLine) (more rest : List ℕ) → IsChunkLine l → p ++ more ≡ print_chunk_line l ++ rest → length l.digits ≤ length p → length l.digits ≤ 15
digits_few p d stops small l more rest valid is inside =
    elim (cases_lt d (length l.digits)) [
      | inr ge ↦ omega arith
      | inl lt ↦
          let a : get_or (p ++ more) d 0 ≡ get_or p d 0 = get_or-append p more 0 d (omega arith) in
          let yes : is_ascii_hexdigit (get_or (p ++ more) d 0) ≡ true = ap (λ s. is_ascii_hexdigit (get_or s d 0)) is ∙ in_digits l rest d valid lt in
          absurd (false≢true (sym (stops (omega arith)) ∙ ap is_ascii_hexdigit (sym a) ∙ yes))
    ]

pub never-of_length : (p : List ℕ) (l0 : ChunkLine) (r : List ℕ) → ReadsChunkLine p l0 r → 4096 < length (print_chunk_line l0) → NeverHasLine p
never-of_length p l0 r reads big more l rest line is =
    let u = chunk_line_unique (p ++ more) l0 l (r ++ more) rest (ReadsChunkLine-append p l0 r more reads) (line.valid, is) in
    let n : length (print_chunk_line l0) ≡ length (print_chunk_line l) = ap (λ x. length (print_chunk_line x)) u.0 in
    omega (arith, line.fits)

body : ChunkLine → List ℕ
body l = (l.digits ++ l.pad) ++ print_extension l.extension

line_is : (l : ChunkLine) → print_chunk_line l ≡ body l ++ 13 ∷ 10 ∷ []
unfolding print_chunk_line body
line_is l = refl

line_length : (l : ChunkLine) → length (print_chunk_line l) ≡ length (body l) + 2
line_length l = ap length (line_is l) ∙ length-append (body l) (13 ∷ 10 ∷ [])

line_end_begins : (l : ChunkLine) (rest : List ℕ) → get_or (print_chunk_line l ++ rest) (length (body l)) 0 ≡ 13
line_end_begins l rest =
    let e : print_chunk_line l ++ rest ≡ body l ++ 13 ∷ 10 ∷ rest = ap (λ s. s ++ rest) (line_is l) ∙ append_assoc (body l) (13 ∷ 10 ∷ []) rest in
    let z : length (body l) + 0 ≡ length (body l) = omega arith in
    let P : ℕ → Type 0 = λ n. get_or (body l ++ 13 ∷ 10 ∷ rest) n 0 ≡ 13 in
    ap (λ s. get_or s (length (body l)) 0) e ∙ subst P z (get_or-append-add (body l) (13 ∷ 10 ∷ rest) 0 0)

-- a line end that is still to come would pass the 4,096th byte
pub never-in_time : (p : List ℕ) → HasNoChunkLine p → (4096 ≤ length p) ⊎ ((length p ≡ 4095) × (get_or p 4094 0 ≢ 13)) → NeverHasLine p
never-in_time p none long more l rest line is =
    elim (cases_lt (length p) (length (print_chunk_line l))) [
      | inr ge ↦ none l (drop (length (print_chunk_line l)) p) (line.valid, shorter_begins (print_chunk_line l) rest p more (sym is) ge)
      | inl lt ↦ elim long [
        | inl all ↦ omega (arith, line.fits)
        | inr last ↦
            let n : length (body l) ≡ 4094 = omega (arith, line_length l, line.fits, last.0) in
            let a : get_or (p ++ more) 4094 0 ≡ get_or p 4094 0 = get_or-append p more 0 4094 (omega (arith, last.0)) in
            let P : ℕ → Type 0 = λ k. get_or (print_chunk_line l ++ rest) k 0 ≡ 13 in
            last.1 (sym a ∙ ap (λ s. get_or s 4094 0) is ∙ subst P n (line_end_begins l rest))
      ]
    ]

extension_no_cr : (e : Option (List ℕ)) → IsExtension e → All (λ b. b ≢ 13) (print_extension e)
extension_no_cr None h = All-nil (λ b. b ≢ 13)
extension_no_cr (Some t) h = All-cons (λ b. b ≢ 13) 59 t (λ e. absurd (omega (arith, e)))
    (All-weaker (λ b. IsTrue (is_extension_byte b)) (λ b. b ≢ 13) (λ b x e. let y : is_extension_byte b ≡ true = x in grind (arith, nat_tests)) t h)

body_no_cr : (l : ChunkLine) → IsChunkLine l → All (λ b. b ≢ 13) (body l)
unfolding body
body_no_cr l valid = All-append (λ b. b ≢ 13) (l.digits ++ l.pad) (print_extension l.extension)
    (All-append (λ b. b ≢ 13) l.digits l.pad
    (All-weaker (λ b. IsTrue (is_ascii_hexdigit b)) (λ b. b ≢ 13) (λ b x e. let y : is_ascii_hexdigit b ≡ true = x in grind (arith, nat_tests)) l.digits valid.digits.2)
    (All-weaker (λ b. IsTrue (is_ows b)) (λ b. b ≢ 13) (λ b x e. let y : is_ows b ≡ true = x in grind (arith, nat_tests)) l.pad valid.pad))
    (extension_no_cr l.extension valid.extension)

zero_line : ChunkLine
zero_line = record { digits = 48 ∷ []; pad = []; extension = None }

nothing_may_come : NeverHasLine [] → ⊥
unfolding print_chunk_line zero_line
nothing_may_come dead = dead (48 ∷ 13 ∷ 10 ∷ []) zero_line [] (record {
  valid = record { digits = (omega arith, omega arith, All-cons (λ b. IsTrue (is_ascii_hexdigit b)) 48 [] refl (All-nil (λ b. IsTrue (is_ascii_hexdigit b)))); pad = All-nil (λ b. IsTrue (is_ows b)); extension = tt };
  few = omega arith;
  fits = omega arith;
}) refl

completed_in_body : (p m : List ℕ) (l : ChunkLine) → IsChunkLine l → p ++ m ≡ print_chunk_line l → length p ≤ length (body l) → (0 < length p) → CompletedLine p
unfolding body
completed_in_body p m l valid is short some = completed_by_end p m l valid is some short

digits_inside : (l : ChunkLine) → length l.digits ≤ length (body l)
unfolding body
digits_inside l = omega (arith, length-append (l.digits ++ l.pad) (print_extension l.extension), length-append l.digits l.pad)

pub may_still_come : (p : List ℕ) (d : ℕ) → HasNoChunkLine p → MayBecomeChunkLine p → (d < length p → is_ascii_hexdigit (get_or p d 0) ≡ false) → d ≤ 15
    → (length p ≤ 4094) ⊎ ((length p ≡ 4095) × (get_or p 4094 0 ≡ 13)) → NeverHasLine p → ⊥
may_still_come [] d none may stops small room dead = nothing_may_come dead
may_still_come (b ∷ q) d none (m, l, (valid, is)) stops small room dead =
    let p = b ∷ q in
    let whole : p ++ m ≡ print_chunk_line l = is ∙ append-nil (print_chunk_line l) in
    let total : length p + length m ≡ length (print_chunk_line l) = sym (length-append p m) ∙ ap length whole in
    elim (cases_lt (length (body l)) (length p)) [
      | inr ge ↦
          let k = completed_in_body p m l valid whole ge (omega arith) in
          let two : length (print_chunk_line k.line) ≡ length p + 2 = ap length (sym k.reads) ∙ length-append p (print_end crlf) in
          let size : length p ≤ 4094 = elim room [
            | inl le ↦ le
            | inr last ↦
                let f = shorter_begins p m (body l) (13 ∷ 10 ∷ []) (whole ∙ line_is l) ge in
                let a : get_or (body l) 4094 0 ≡ get_or p 4094 0 = ap (λ s. get_or s 4094 0) f ∙ get_or-append p (drop (length p) (body l)) 0 4094 (omega (arith, last.0)) in
                absurd (body_no_cr l valid 4094 0 (omega (arith, last.0)) (a ∙ last.1))
          ] in
          let again : p ++ print_end crlf ≡ print_chunk_line k.line ++ [] = k.reads ∙ sym (append-nil (print_chunk_line k.line)) in
          let inside : length k.line.digits ≤ length p = omega (arith, ap length k.front, length-append k.line.digits (drop (length k.line.digits) p)) in
          dead (print_end crlf) k.line [] (record { valid = k.valid; few = digits_few p d stops small k.line (print_end crlf) [] k.valid again inside; fits = omega arith }) again
      | inl lt ↦
          let more : length p < length (print_chunk_line l) = elim (cases_lt (length p) (length (print_chunk_line l))) [
            | inl less ↦ less
            | inr all ↦ absurd (none l (drop (length (print_chunk_line l)) p) (valid, shorter_begins (print_chunk_line l) [] p m (sym is) all))
          ] in
          let n = line_length l in
          let inside : length l.digits ≤ length p = omega (arith, digits_inside l) in
          let size : length p ≤ 4095 = elim room [ inl le ↦ omega arith | inr last ↦ omega (arith, last.0) ] in
          dead m l [] (record { valid = valid; few = digits_few p d stops small l m [] valid is inside; fits = omega arith }) is
    ]

-- a line of the grammar whose bytes are all there is a size line
pub whole_is_size_line : (p : List ℕ) (d : ℕ) → (d < length p → is_ascii_hexdigit (get_or p d 0) ≡ false) → d ≤ 15
    → (l : ChunkLine) (r : List ℕ) → ReadsChunkLine p l r → length (print_chunk_line l) ≤ 4096 → IsSizeLine l
whole_is_size_line p d stops small l r reads fits = record {
  valid = reads.0;
  few = digits_few p d stops small l [] r reads.0 (append-nil p ∙ reads.1)
      (omega (arith, ap length reads.1, length-append (print_chunk_line l) r, line_length l, digits_inside l));
  fits = fits;
}
