-- A body of which a piece is a part.
use Rattle.std.proofs.Common.{◌≡◌, ℕ, ◌+◌, ◌-◌, ◌<◌, List, [], ◌++◌, length, take, drop, true, false, refl, ap, ◌∙◌, arith, append_assoc, length-append, nat_le}
use Rattle.std.proofs.Math.Seq.{take-append-add, drop-append-add}
use Rattle.std.proofs.lemmas.Bool.Decides.{nat_tests}
use Rattle.dav_head.specs.declared.body.TheConstants.{BODY_LIMIT}
use Rattle.dav_frame.specs.Framing.{Gives, Faults, message, sized_body, open_body}
use Rattle.dav_frame.specs.declared.fault.FrameFault.TheVariants.{BodyLimit}
use Rattle.dav_frame.specs.declared.phase.FinalHead.{FinalHead}

-- the parts of a body that a piece has and that follow it
body_more_by : (head : FinalHead) (had : List ℕ) (k : ℕ) (piece more : List ℕ)
    → sized_body head (had ++ piece) k more ≡ sized_body head had (length piece + k) (piece ++ more)
body_more_by head had k piece more =
    let t : take (length piece + k) (piece ++ more) ≡ piece ++ take k more = take-append-add piece more k in
    let d : drop (length piece + k) (piece ++ more) ≡ drop k more = drop-append-add piece more k in
    let n : nat_le (length piece + k) (length (piece ++ more)) ≡ nat_le k (length more) = rw length-append (grind (arith, nat_tests)) in
    let a = append_assoc had piece (take k more) in
    rw (n, t, d, a)

-- a body that goes on after a piece
pub body_more : (head : FinalHead) (had : List ℕ) (need : ℕ) (piece more : List ℕ) → length piece < need
    → sized_body head (had ++ piece) (need - length piece) more
    ≡ sized_body head had need (piece ++ more)
body_more head had need piece more h =
    let e : length piece + (need - length piece) ≡ need = omega arith in
    body_more_by head had (need - length piece) piece more ∙ ap (λ n. sized_body head had n (piece ++ more)) e

-- a body that ends with the connection, after a piece
pub open_more : (head : FinalHead) (had piece more : List ℕ)
    → open_body head (had ++ piece) more ≡ open_body head had (piece ++ more)
open_more head had piece more =
    let n : length (had ++ piece) + length more ≡ length had + length (piece ++ more) = omega (arith, length-append had piece, length-append piece more) in
    rw (n, append_assoc had piece more) refl

-- and with a piece that passes the limit
pub open_over : (head : FinalHead) (had piece more : List ℕ) → BODY_LIMIT < length had + length piece
    → open_body head had (piece ++ more) ≡ Faults BodyLimit
open_over head had piece more over =
    let t : nat_le (length had + length (piece ++ more)) BODY_LIMIT ≡ false = rw length-append (grind (arith, nat_tests)) in rw t refl

-- a body of no bytes
pub body_none : (head : FinalHead) (rest : List ℕ) → sized_body head [] 0 rest ≡ Gives (message head []) rest
body_none head rest = let t : nat_le 0 (length rest) ≡ true = grind (arith, nat_tests) in rw t refl
