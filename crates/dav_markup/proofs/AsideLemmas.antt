-- A byte that goes on with no target.
use Rattle.std.proofs.Common.{◌≡◌, ℕ, false, [], refl, ap, sym, ◌∙◌}
use Rattle.std.specs.Prelude.{◌==◌}
use Rattle.std.proofs.lemmas.Bool.{ne_eqb}
use Rattle.dav_doc.specs.Bytes.{kind}
use Rattle.dav_doc.specs.Document as document
use Rattle.dav_doc.specs.Document.{is_target}
use Rattle.dav_doc.specs.Machine.{Place, Bad, To, TargetEnd, on, target_step}
use Rattle.dav_markup.specs.Kind.{kind_in}
use Rattle.dav_markup.specs.declared.kind.ByteKind.{ByteKind}
use Rattle.dav_markup.specs.declared.kind.ByteKind.TheVariants.{Less, Ampersand, Blank, Greater, DoubleQuote, SingleQuote, Equals, Slash, Colon, Exclamation, Letter, Digit, Other}

not_question : (p : Place) (t : document.Target) (b : ℕ) → (b == 63) ≡ false → on (b == 63) (on (is_target t) (To (TargetEnd p) []) Bad) Bad ≡ Bad
not_question p t b h = ap (λ x. on x (on (is_target t) (To (TargetEnd p) []) Bad) Bad) h

by_kind : (p : Place) (t : document.Target) (b : ℕ) (k : ByteKind) → (k ≡ Blank → ⊥) → (k ≡ Letter → ⊥) → (k ≡ Digit → ⊥) → (b == 63) ≡ false
    → target_step p t b (kind_in k) ≡ Bad
by_kind p t b Blank f g i h = absurd (f refl)
by_kind p t b Letter f g i h = absurd (g refl)
by_kind p t b Digit f g i h = absurd (i refl)
by_kind p t b Less f g i h = not_question p t b h
by_kind p t b Ampersand f g i h = not_question p t b h
by_kind p t b Greater f g i h = not_question p t b h
by_kind p t b DoubleQuote f g i h = not_question p t b h
by_kind p t b SingleQuote f g i h = not_question p t b h
by_kind p t b Equals f g i h = not_question p t b h
by_kind p t b Slash f g i h = not_question p t b h
by_kind p t b Colon f g i h = not_question p t b h
by_kind p t b Exclamation f g i h = not_question p t b h
by_kind p t b Other f g i h = not_question p t b h

pub no_target : (p : Place) (t : document.Target) (b : ℕ) (k : ByteKind) → (k ≡ Blank → ⊥) → (k ≡ Letter → ⊥) → (k ≡ Digit → ⊥) → (b ≡ 63 → ⊥)
    → kind_in k ≡ kind b → target_step p t b (kind b) ≡ Bad
no_target p t b k f g i h e = ap (target_step p t b) (sym e) ∙ by_kind p t b k f g i (ne_eqb b 63 h)
