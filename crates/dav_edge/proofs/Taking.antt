-- The bytes that some calls took or gave, of calls one after another.
use Rattle.std.proofs.Common.{◌≡◌, List, [], ◌∷◌, ◌++◌, ℕ, refl, sym, ap, ◌∙◌, append_assoc}
use Rattle.dav_edge.specs.Device.{Happened, bytes_taken, taken, bytes_given, given}

pub taken-append : (es fs : List Happened) → taken (es ++ fs) ≡ taken es ++ taken fs
taken-append [] fs = refl
taken-append (e ∷ es) fs =
    ap (λ (l : List ℕ). bytes_taken e ++ l) (taken-append es fs) ∙ sym (append_assoc (bytes_taken e) (taken es) (taken fs))

pub given-append : (es fs : List Happened) → given (es ++ fs) ≡ given es ++ given fs
given-append [] fs = refl
given-append (e ∷ es) fs =
    ap (λ (l : List ℕ). bytes_given e ++ l) (given-append es fs) ∙ sym (append_assoc (bytes_given e) (given es) (given fs))
