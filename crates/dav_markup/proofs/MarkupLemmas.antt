-- A byte that begins no markup.
use Rattle.std.proofs.Common.{◌≡◌, ℕ, false, [], refl, ap, sym, ◌∙◌}
use Rattle.std.specs.Prelude.{◌==◌}
use Rattle.std.proofs.lemmas.Bool.{ne_eqb}
use Rattle.dav_doc.specs.Bytes.{kind}
use Rattle.dav_doc.specs.Machine as machine
use Rattle.dav_doc.specs.Machine.{To, on, markup_step}
use Rattle.dav_markup.specs.Kind.{kind_in}
use Rattle.dav_markup.specs.declared.kind.ByteKind.{ByteKind}
use Rattle.dav_markup.specs.declared.kind.ByteKind.TheVariants.{Less, Ampersand, Blank, Greater, DoubleQuote, SingleQuote, Equals, Slash, Colon, Exclamation, Letter, Digit, Other}

not_question : (p : machine.Place) (b : ℕ) → (b == 63) ≡ false → on (b == 63) (To (machine.Question p) []) machine.Bad ≡ machine.Bad
not_question p b h = ap (λ x. on x (To (machine.Question p) []) machine.Bad) h

by_kind : (p : machine.Place) (b : ℕ) (k : ByteKind) → (k ≡ Letter → ⊥) → (k ≡ Slash → ⊥) → (k ≡ Exclamation → ⊥) → (b == 63) ≡ false
    → markup_step p b (kind_in k) ≡ machine.Bad
by_kind p b Letter f g i h = absurd (f refl)
by_kind p b Slash f g i h = absurd (g refl)
by_kind p b Exclamation f g i h = absurd (i refl)
by_kind p b Less f g i h = not_question p b h
by_kind p b Ampersand f g i h = not_question p b h
by_kind p b Blank f g i h = not_question p b h
by_kind p b Greater f g i h = not_question p b h
by_kind p b DoubleQuote f g i h = not_question p b h
by_kind p b SingleQuote f g i h = not_question p b h
by_kind p b Equals f g i h = not_question p b h
by_kind p b Colon f g i h = not_question p b h
by_kind p b Digit f g i h = not_question p b h
by_kind p b Other f g i h = not_question p b h

pub no_markup : (p : machine.Place) (b : ℕ) (k : ByteKind) → (k ≡ Letter → ⊥) → (k ≡ Slash → ⊥) → (k ≡ Exclamation → ⊥) → (b ≡ 63 → ⊥)
    → kind_in k ≡ kind b → markup_step p b (kind b) ≡ machine.Bad
no_markup p b k f g i h e = ap (markup_step p b) (sym e) ∙ by_kind p b k f g i (ne_eqb b 63 h)
