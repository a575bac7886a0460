-- The bytes of a line before its end: a line end after any front of them makes a line.
use Rattle.std.proofs.Common.{◌≡◌, ℕ, ◌<◌, ◌≤◌, Bool, List, [], ◌∷◌, ◌++◌, length, drop, refl, ap, sym, ◌∙◌, arith, subst, append_assoc, append-nil, length-append, inl, inr, Option, Some, None, IsTrue, get_or}
use Rattle.std.proofs.lemmas.Bool.{cases_lt}
use Rattle.std.proofs.lemmas.Grind.{common_steps}
use Rattle.std.proofs.lemmas.List.Elements.{All-nil}
use Rattle.std.specs.Char.{is_ascii_hexdigit}
use Rattle.std.proofs.Math.Seq.{drop-append_seam}
use Rattle.std.proofs.Math.ListN.{get_or-append}
use Rattle.httparse.specs.Grammar.{ChunkLine, IsChunkLine, print_chunk_line, print_extension, print_end, crlf, AllPass, IsExtension, is_ows, is_extension_byte}

-- the bytes and a line end are a line, whose digits stand in front
pub record CompletedLine (p : List ℕ) : Type 0 where
  pub line : ChunkLine
  pub valid : IsChunkLine line
  pub reads : p ++ print_end crlf ≡ print_chunk_line line
  pub front : p ≡ line.digits ++ drop (length line.digits) p

-- of two fronts of one text the shorter begins the longer
pub shorter_begins : (a b c d : List ℕ) → a ++ b ≡ c ++ d → length a ≤ length c → c ≡ a ++ drop (length a) c
shorter_begins [] b c d e h = refl
shorter_begins (x ∷ a) b [] d e h = absurd (omega arith)
shorter_begins (x ∷ a) b (y ∷ c) d e h =
    let tails : a ++ b ≡ c ++ d = cc in
    let heads : x ≡ y = cc in
    let i = shorter_begins a b c d tails (omega arith) in
    rw heads (ap (λ s. y ∷ s) i)

front_keeps_class : (test : ℕ → Bool) (p a : List ℕ) → a ≡ p ++ drop (length p) a → AllPass test a → AllPass test p
front_keeps_class test p a e pass = λ k d h.
    let less : k < length a = omega (arith, ap length e, length-append p (drop (length p) a)) in
    let same : get_or a k d ≡ get_or p k d = ap (λ s. get_or s k d) e ∙ get_or-append p (drop (length p) a) d k h in
    let P : ℕ → Type 0 = λ b. IsTrue (test b) in subst P same (pass k d less)

-- and what follows the shorter goes on with the rest of the longer
longer_goes_on : (a b c d : List ℕ) → a ++ b ≡ c ++ d → length c ≤ length a → (a ≡ c ++ drop (length c) a) × (drop (length c) a ++ b ≡ d)
longer_goes_on a b c d e h =
    let front = shorter_begins c d a b (sym e) h in
    let x : c ++ (drop (length c) a ++ b) ≡ c ++ d = sym (append_assoc c (drop (length c) a) b) ∙ ap (λ s. s ++ b) (sym front) ∙ e in
    (front, sym (drop-append_seam c (drop (length c) a ++ b)) ∙ ap (λ s. drop (length c) s) x ∙ drop-append_seam c d)

digits_begin : (d w x : List ℕ) → (d ++ w) ++ x ≡ d ++ drop (length d) ((d ++ w) ++ x)
digits_begin d w x =
    let e = append_assoc d w x in
    e ∙ ap (λ s. d ++ s) (sym (drop-append_seam d (w ++ x)) ∙ ap (λ s. drop (length d) s) (sym e))

completed_in_extension : (digits pad p m : List ℕ) (e : Option (List ℕ)) → (0 < length digits) × (length digits ≤ 16) × AllPass is_ascii_hexdigit digits
    → AllPass is_ows pad → IsExtension e → p ++ m ≡ print_extension e ++ print_end crlf → length p ≤ length (print_extension e)
    → CompletedLine ((digits ++ pad) ++ p)
unfolding print_chunk_line
completed_in_extension digits pad [] m e d w x is h = record {
  line = record { digits = digits; pad = pad; extension = None };
  valid = record { digits = d; pad = w; extension = tt };
  reads = refl;
  front = digits_begin digits pad [];
}
completed_in_extension digits pad (b ∷ p) m None d w x is h = absurd (omega arith)
completed_in_extension digits pad (b ∷ p) m (Some t) d w x is h =
    let head : b ≡ 59 = cc in
    let tails : p ++ m ≡ t ++ print_end crlf = cc in
    let front = shorter_begins p m t (print_end crlf) tails (omega arith) in
    record {
      line = record { digits = digits; pad = pad; extension = Some p };
      valid = record { digits = d; pad = w; extension = front_keeps_class is_extension_byte p t front x };
      reads = rw head refl;
      front = digits_begin digits pad (b ∷ p);
    }

pub completed_by_end : (p m : List ℕ) (l : ChunkLine) → IsChunkLine l → p ++ m ≡ print_chunk_line l → 0 < length p
    → length p ≤ length ((l.digits ++ l.pad) ++ print_extension l.extension) → CompletedLine p
unfolding print_chunk_line
completed_by_end p m l valid is some short =
    let d = l.digits in
    let w = l.pad in
    let x = print_extension l.extension in
    let e = print_end crlf in
    let first : p ++ m ≡ d ++ (w ++ (x ++ e)) = is ∙ append_assoc (d ++ w) x e ∙ append_assoc d w (x ++ e) in
    elim (cases_lt (length d) (length p)) [
      | inr ge ↦ let front = shorter_begins p m d (w ++ (x ++ e)) first ge in record {
        line = record { digits = p; pad = []; extension = None };
        valid = record { digits = (some, omega (arith, valid.digits.1), front_keeps_class is_ascii_hexdigit p d front valid.digits.2); pad = All-nil (λ b. IsTrue (is_ows b)); extension = tt };
        reads = rw (append-nil p, append-nil p) refl;
        front = grind (arith, common_steps);
      }
      | inl lt ↦ let past = longer_goes_on p m d (w ++ (x ++ e)) first (omega arith) in
          let p2 = drop (length d) p in
          elim (cases_lt (length w) (length p2)) [
            | inr ge ↦ let front = shorter_begins p2 m w (x ++ e) past.1 ge in record {
              line = record { digits = d; pad = p2; extension = None };
              valid = record { digits = valid.digits; pad = front_keeps_class is_ows p2 w front valid.pad; extension = tt };
              reads = rw append-nil (ap (λ s. s ++ e) past.0);
              front = past.0;
            }
            | inl more ↦ let again = longer_goes_on p2 m w (x ++ e) past.1 (omega arith) in
                let p3 = drop (length w) p2 in
                let whole : p ≡ (d ++ w) ++ p3 = past.0 ∙ ap (λ s. d ++ s) again.0 ∙ sym (append_assoc d w p3) in
                let P : List ℕ → Type 0 = λ s. CompletedLine s in
                subst P (sym whole) (completed_in_extension d w p3 m l.extension valid.digits valid.pad valid.extension again.1
                (omega (arith, ap length whole, length-append (d ++ w) p3, length-append (d ++ w) x)))
          ]
    ]
