-- A byte of text that stands for itself.
use Rattle.std.proofs.Common.{◌≡◌, ℕ, false, List, [], ◌∷◌, refl, ap, sym, subst, ◌∙◌}
use Rattle.std.specs.Prelude.{◌==◌}
use Rattle.std.proofs.lemmas.Bool.{ne_eqb}
use Rattle.dav_doc.specs.Bytes as bytes
use Rattle.dav_doc.specs.Bytes.{kind}
use Rattle.dav_doc.specs.Document.{Char}
use Rattle.dav_doc.specs.Machine as machine
use Rattle.dav_doc.specs.Machine.{Open, Move, To, Text, on, text_step, text_by, ends_section, brackets}
use Rattle.dav_doc.proofs.KindFacts.{Shows, shows}
use Rattle.dav_markup.specs.Kind.{kind_in}
use Rattle.dav_markup.specs.Section.{brackets_in}
use Rattle.dav_markup.specs.declared.section.Brackets.{Brackets}
use Rattle.dav_markup.specs.declared.section.Brackets.TheVariants.{Zero, One, Two}
use Rattle.dav_markup.specs.declared.kind.ByteKind.{ByteKind}
use Rattle.dav_markup.specs.declared.kind.ByteKind.TheVariants.{Less, Ampersand, Blank, Greater, DoubleQuote, SingleQuote, Equals, Slash, Colon, Exclamation, Letter, Digit, Other}

-- the byte stands for itself
abbrev pub Plainly : Open → List Open → machine.Brackets → ℕ → Move → Type 0
Plainly o os n b m = m ≡ To (Text (o ∷ os) (brackets n b)) (Char b ∷ [])

-- so does `>` behind fewer than two `]`
greater : (o : Open) (os : List Open) (n : Brackets) (b : ℕ) → (n ≡ Two → ⊥) → Plainly o os (brackets_in n) b (text_step o os (brackets_in n) b bytes.Greater)
greater o os Zero b h = refl
greater o os One b h = refl
greater o os Two b h = absurd (h refl)

returns : (o : Open) (os : List Open) (n : Brackets) (b : ℕ) → (b == 13) ≡ false → Plainly o os (brackets_in n) b (text_step o os (brackets_in n) b bytes.Blank)
returns o os Zero b h = ap (λ x. on x (To (machine.Return o os) (Char 10 ∷ [])) (text_by o os machine.Zero b false)) h
returns o os One b h = ap (λ x. on x (To (machine.Return o os) (Char 10 ∷ [])) (text_by o os machine.One b false)) h
returns o os Two b h = ap (λ x. on x (To (machine.Return o os) (Char 10 ∷ [])) (text_by o os machine.Two b false)) h

by_kind : (o : Open) (os : List Open) (n : Brackets) (b : ℕ) (k : ByteKind) → (k ≡ Less → ⊥) → (k ≡ Ampersand → ⊥) → (k ≡ Greater → n ≡ Two → ⊥) → (b == 13) ≡ false
    → Plainly o os (brackets_in n) b (text_step o os (brackets_in n) b (kind_in k))
by_kind o os n b Less f g i h = absurd (f refl)
by_kind o os n b Ampersand f g i h = absurd (g refl)
by_kind o os n b Blank f g i h = returns o os n b h
by_kind o os n b Greater f g i h = greater o os n b (i refl)
by_kind o os Zero b DoubleQuote f g i h = refl
by_kind o os One b DoubleQuote f g i h = refl
by_kind o os Two b DoubleQuote f g i h = refl
by_kind o os Zero b SingleQuote f g i h = refl
by_kind o os One b SingleQuote f g i h = refl
by_kind o os Two b SingleQuote f g i h = refl
by_kind o os Zero b Equals f g i h = refl
by_kind o os One b Equals f g i h = refl
by_kind o os Two b Equals f g i h = refl
by_kind o os Zero b Slash f g i h = refl
by_kind o os One b Slash f g i h = refl
by_kind o os Two b Slash f g i h = refl
by_kind o os Zero b Colon f g i h = refl
by_kind o os One b Colon f g i h = refl
by_kind o os Two b Colon f g i h = refl
by_kind o os Zero b Exclamation f g i h = refl
by_kind o os One b Exclamation f g i h = refl
by_kind o os Two b Exclamation f g i h = refl
by_kind o os Zero b Letter f g i h = refl
by_kind o os One b Letter f g i h = refl
by_kind o os Two b Letter f g i h = refl
by_kind o os Zero b Digit f g i h = refl
by_kind o os One b Digit f g i h = refl
by_kind o os Two b Digit f g i h = refl
by_kind o os Zero b Other f g i h = refl
by_kind o os One b Other f g i h = refl
by_kind o os Two b Other f g i h = refl

is_greater : (b : ℕ) (k : ByteKind) → kind_in k ≡ kind b → k ≡ Greater → b ≡ 62
is_greater b k e f = subst (λ (x : bytes.Kind). Shows b x) (sym e ∙ ap kind_in f) (shows b)

pub plain_byte : (o : Open) (os : List Open) (n : Brackets) (b : ℕ) (k : ByteKind) → (k ≡ Less → ⊥) → (k ≡ Ampersand → ⊥) → (b ≡ 62 → n ≡ Two → ⊥) → (b ≡ 13 → ⊥)
    → kind_in k ≡ kind b → (m : machine.Brackets) → m ≡ brackets (brackets_in n) b
    → text_step o os (brackets_in n) b (kind b) ≡ To (Text (o ∷ os) m) (Char b ∷ [])
plain_byte o os n b k f g i h e m j =
    ap (text_step o os (brackets_in n) b) (sym e) ∙ by_kind o os n b k f g (λ q. i (is_greater b k e q)) (ne_eqb b 13 h)
    ∙ ap (λ z. To (Text (o ∷ os) z) (Char b ∷ [])) (sym j)
