-- How the fields of a record are read, one after another.
use Rattle.std.proofs.Common.{◌≡◌, ℕ, List, ◌∷◌, refl, ap, subst, inl, inr}
use Rattle.dav_index.specs.Left.{Left}
use Rattle.dav_index.specs.Reading.{IsTaken, IsFieldFault}
use Rattle.dav_index.specs.Faults.{Shape, IsCutOff, IsWrong, IsRight, IsRefusedFrom}
use Rattle.dav_index.specs.declared.fault.RecordFault.{RecordFault}
use Rattle.dav_index.specs.declared.fault.RecordFault.TheVariants.{Short, Field}

pub field_cut : (shape : Shape) (bs : List ℕ) (at : ℕ) (left : Left) → record { rest = bs; at = at } ≡ left → IsCutOff shape bs → IsFieldFault shape left Short
field_cut shape bs at left is cut = subst (λ l. IsFieldFault shape l Short) is (inl (cut, refl))

pub field_wrong : (shape : Shape) (bs : List ℕ) (at : ℕ) (left : Left) → record { rest = bs; at = at } ≡ left → IsWrong shape bs → IsFieldFault shape left (Field at)
field_wrong shape bs at left is wrong = subst (λ l. IsFieldFault shape l (Field at)) is (inr (wrong, refl))

pub field_wrong_at : (shape : Shape) (at : ℕ) (left : Left) → at ≡ left.at → IsWrong shape left.rest → IsFieldFault shape left (Field at)
field_wrong_at shape at left is wrong = inr (wrong, ap (λ n. Field n) is)

-- the first field is refused
pub first_refused : (shape : Shape) (shapes : List Shape) (left : Left) (f : RecordFault) → IsFieldFault shape left f → IsRefusedFrom (shape ∷ shapes) left.at left.rest f
first_refused shape shapes left f (inl cut) = inl cut
first_refused shape shapes left f (inr wrong) = inr (inl wrong)

-- the first field is right and a later one is refused
pub later_refused : (shape : Shape) (shapes : List Shape) (text : List ℕ) (left next : Left) (f : RecordFault) → IsRight shape text → IsTaken text left next → IsRefusedFrom shapes next.at next.rest f → IsRefusedFrom (shape ∷ shapes) left.at left.rest f
later_refused shape shapes text left next f right was refused =
    inr (inr (text, next.rest, was.split, right, subst (λ at. IsRefusedFrom shapes at next.rest f) was.at refused))

-- what is refused of what is read from its second byte on
pub refused_at : (shapes : List Shape) (rest : List ℕ) (left : Left) (f : RecordFault) → left ≡ record { rest = rest; at = 1 } → IsRefusedFrom shapes left.at left.rest f → IsRefusedFrom shapes 1 rest f
refused_at shapes rest left f is refused = subst (λ (l : Left). IsRefusedFrom shapes l.at l.rest f) is refused
