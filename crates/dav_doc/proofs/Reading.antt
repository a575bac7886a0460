-- The machine of UTF-8 takes just the texts of characters.
use Rattle.std.proofs.Common.{◌≡◌, ℕ, zero, suc, ◌≤◌, Bool, true, false, List, [], ◌∷◌, ◌++◌, refl, ap, sym, ◌∙◌, arith, subst, Option, Some, None}
use Rattle.std.specs.Prelude.{◌==◌, nat_le, cond}
use Rattle.std.specs.List.{list_all}
use Rattle.std.proofs.lemmas.Bool.{le-leb}
use Rattle.dav_doc.specs.Characters.{Owed, Whole, Owes, Special, within, is_ascii, lead, owed, Tail, whole, tail_byte, special_byte, special_last, Characters, no_more, ascii, wide, owed_after, on_owed, owed_by}
use Rattle.dav_doc.proofs.KindFacts.{and_of}

owed_more : (x : Option Owed) (s t : List ℕ) → ((o : Owed) → owed_by (s ++ t) o ≡ on_owed (owed_by s o) (owed_by t)) → on_owed x (owed_by (s ++ t)) ≡ on_owed (on_owed x (owed_by s)) (owed_by t)
owed_more None s t f = refl
owed_more (Some o) s t f = f o

pub owed-append : (s t : List ℕ) (o : Owed) → owed_by (s ++ t) o ≡ on_owed (owed_by s o) (owed_by t)
owed-append [] t o = refl
owed-append (b ∷ s) t o = owed_more (owed_after o b) s t (λ a. owed-append s t a)

tail_goes : {o : Owed} {t : List ℕ} → Tail o t → owed_by t o ≡ Some Whole
tail_goes whole = refl
tail_goes (tail_byte {n = n} {s = s} b h i) = ap (λ x. on_owed (cond x (Some (owed n)) None) (owed_by s)) h ∙ tail_goes i
tail_goes (special_byte {s = s} b h i) = ap (λ x. on_owed (cond x (Some (Owes 128 191 0)) (cond (b == 191) (Some (Owes 128 189 0)) None)) (owed_by s)) h ∙ tail_goes i
tail_goes (special_last {s = s} b h k i) =
    ap (λ x. on_owed (cond x (Some (Owes 128 191 0)) (cond (b == 191) (Some (Owes 128 189 0)) None)) (owed_by s)) h
    ∙ ap (λ x. on_owed (cond x (Some (Owes 128 189 0)) None) (owed_by s)) k ∙ tail_goes i

pub characters_go : {s : List ℕ} → Characters s → owed_by s Whole ≡ Some Whole
characters_go no_more = refl
characters_go (ascii {s = s} b h i) = ap (λ x. on_owed (cond x (Some Whole) (lead b)) (owed_by s)) h ∙ characters_go i
characters_go (wide {s = s} b o t h k i j) =
    ap (λ x. on_owed (cond x (Some Whole) (lead b)) (owed_by (t ++ s))) h ∙ ap (λ x. on_owed x (owed_by (t ++ s))) k
    ∙ owed-append t s o ∙ ap (λ x. on_owed x (owed_by s)) (tail_goes i) ∙ characters_go j

-- the rest of a character, and characters
pub record Tails (o : Owed) (s : List ℕ) : Type 0 where
  pub tail : List ℕ
  pub rest : List ℕ
  pub is : Tail o tail
  pub characters : Characters rest
  pub split : s ≡ tail ++ rest

abbrev pub FromOwed : Owed → List ℕ → Type 0
FromOwed Whole s = Characters s
FromOwed (Owes low high n) s = Tails (Owes low high n) s
FromOwed Special s = Tails Special s

to_tails : (o : Owed) (s : List ℕ) → FromOwed o s → Tails o s
to_tails Whole s h = record { tail = []; rest = s; is = whole; characters = h; split = refl }
to_tails (Owes low high n) s h = h
to_tails Special s h = h

owed_tails : (n : ℕ) (s : List ℕ) → FromOwed (owed n) s → Tails (owed n) s
owed_tails n s h = to_tails (owed n) s h

after_whole : (b : ℕ) (s : List ℕ) (new : Owed) (x : Bool) → is_ascii b ≡ x → cond x (Some Whole) (lead b) ≡ Some new → FromOwed new s → FromOwed Whole (b ∷ s)
after_whole b s new true e h i = let f : Whole ≡ new = cc in ascii b e (subst (λ (o : Owed). FromOwed o s) (sym f) i)
after_whole b s new false e h i =
    let k = to_tails new s i in
    subst (λ (t : List ℕ). Characters (b ∷ t)) (sym k.split) (wide b new k.tail e h k.is k.characters)

after_owes : (low high n b : ℕ) (s : List ℕ) (new : Owed) (x : Bool) → within low high b ≡ x → cond x (Some (owed n)) None ≡ Some new → FromOwed new s → FromOwed (Owes low high n) (b ∷ s)
after_owes low high n b s new true e h i =
    let f : owed n ≡ new = cc in
    let k = to_tails (owed n) s (subst (λ (o : Owed). FromOwed o s) (sym f) i) in
    record { tail = b ∷ k.tail; rest = k.rest; is = tail_byte b e k.is; characters = k.characters; split = ap (λ t. b ∷ t) k.split }
after_owes low high n b s new false e h i = cc

after_special : (b : ℕ) (s : List ℕ) (new : Owed) (x y : Bool) → within 128 190 b ≡ x → (b == 191) ≡ y → cond x (Some (Owes 128 191 0)) (cond y (Some (Owes 128 189 0)) None) ≡ Some new
    → FromOwed new s → FromOwed Special (b ∷ s)
after_special b s new true y e f h i =
    let g : Owes 128 191 0 ≡ new = cc in
    let k = to_tails (Owes 128 191 0) s (subst (λ (o : Owed). FromOwed o s) (sym g) i) in
    record { tail = b ∷ k.tail; rest = k.rest; is = special_byte b e k.is; characters = k.characters; split = ap (λ t. b ∷ t) k.split }
after_special b s new false true e f h i =
    let g : Owes 128 189 0 ≡ new = cc in
    let k = to_tails (Owes 128 189 0) s (subst (λ (o : Owed). FromOwed o s) (sym g) i) in
    record { tail = b ∷ k.tail; rest = k.rest; is = special_last b e f k.is; characters = k.characters; split = ap (λ t. b ∷ t) k.split }
after_special b s new false false e f h i = cc

owed_leads : (o : Owed) (b : ℕ) (s : List ℕ) (new : Owed) → owed_after o b ≡ Some new → FromOwed new s → FromOwed o (b ∷ s)
owed_leads Whole b s new h i = after_whole b s new (is_ascii b) refl h i
owed_leads (Owes low high n) b s new h i = after_owes low high n b s new (within low high b) refl h i
owed_leads Special b s new h i = after_special b s new (within 128 190 b) (b == 191) refl refl h i

run_by : (o : Owed) (b : ℕ) (s : List ℕ) (x : Option Owed) → owed_after o b ≡ x → on_owed x (owed_by s) ≡ Some Whole → ((new : Owed) → owed_by s new ≡ Some Whole → FromOwed new s) → FromOwed o (b ∷ s)
run_by o b s None e h f = cc
run_by o b s (Some new) e h f = owed_leads o b s new e (f new h)

whole_only : (o : Owed) → Some o ≡ Some Whole → FromOwed o []
whole_only Whole h = no_more
whole_only (Owes low high n) h = cc
whole_only Special h = cc

taken : (s : List ℕ) (o : Owed) → owed_by s o ≡ Some Whole → FromOwed o s
taken [] o h = whole_only o h
taken (b ∷ s) o h = run_by o b s (owed_after o b) refl h (λ new k. taken s new k)

pub characters_taken : (s : List ℕ) → owed_by s Whole ≡ Some Whole → Characters s
characters_taken s h = taken s Whole h

-- Each character that is owed something goes on, with bytes past ASCII.
abbrev pub Fair : Owed → Type 0
Fair Whole = Unit {0}
Fair (Owes low high n) = (128 ≤ low) × (low ≤ high)
Fair Special = Unit {0}

fair_owed : (n : ℕ) → Fair (owed n)
fair_owed zero = tt
fair_owed (suc n) = (omega arith, omega arith)

fair_some : (x : Bool) (o : Owed) (other : Option Owed) → Fair o → ((new : Owed) → other ≡ Some new → Fair new) → (new : Owed) → cond x (Some o) other ≡ Some new → Fair new
fair_some true o other f g new h = let e : o ≡ new = cc in subst (λ (z : Owed). Fair z) e f
fair_some false o other f g new h = g new h

fair_none : (new : Owed) → None ≡ Some new → Fair new
fair_none new h = cc

fair_lead : (b : ℕ) (new : Owed) → lead b ≡ Some new → Fair new
fair_lead b =
    fair_some (within 194 223 b) (Owes 128 191 0) _ (omega arith, omega arith) (
    fair_some (b == 224) (Owes 160 191 1) _ (omega arith, omega arith) (
    fair_some (b == 237) (Owes 128 159 1) _ (omega arith, omega arith) (
    fair_some (b == 239) Special _ tt (
    fair_some (within 225 238 b) (Owes 128 191 1) _ (omega arith, omega arith) (
    fair_some (b == 240) (Owes 144 191 2) _ (omega arith, omega arith) (
    fair_some (within 241 243 b) (Owes 128 191 2) _ (omega arith, omega arith) (
    fair_some (b == 244) (Owes 128 143 2) None (omega arith, omega arith) fair_none)))))))

pub fair_after : (o : Owed) (b : ℕ) (new : Owed) → owed_after o b ≡ Some new → Fair new
fair_after Whole b = fair_some (is_ascii b) Whole (lead b) tt (fair_lead b)
fair_after (Owes low high n) b = fair_some (within low high b) (owed n) None (fair_owed n) fair_none
fair_after Special b = fair_some (within 128 190 b) (Owes 128 191 0) _ (omega arith, omega arith) (fair_some (b == 191) (Owes 128 189 0) None (omega arith, omega arith) fair_none)

fair_by : (x : Option Owed) (s : List ℕ) (new : Owed) → ((o : Owed) → x ≡ Some o → Fair o) → ((o : Owed) → Fair o → owed_by s o ≡ Some new → Fair new) → on_owed x (owed_by s) ≡ Some new → Fair new
fair_by None s new f g h = cc
fair_by (Some o) s new f g h = g o (f o refl) h

pub fair_run : (s : List ℕ) (o new : Owed) → Fair o → owed_by s o ≡ Some new → Fair new
fair_run [] o new f h = let e : o ≡ new = cc in subst (λ (z : Owed). Fair z) e f
fair_run (b ∷ s) o new f h = fair_by (owed_after o b) s new (fair_after o b) (λ a g k. fair_run s a new g k) h

-- a byte past ASCII
abbrev pub is_wide : ℕ → Bool
is_wide b = nat_le 128 b

-- what is owed can come, in bytes past ASCII
pub record GoesWhole (o : Owed) : Type 0 where
  pub text : List ℕ
  pub goes : owed_by text o ≡ Some Whole
  pub wide : list_all is_wide text ≡ true

within_low : (low high : ℕ) → low ≤ high → within low high low ≡ true
within_low low high h = and_of _ _ (le-leb low low (omega arith)) (le-leb low high h)

owes_whole : (low high n : ℕ) → 128 ≤ low → low ≤ high → GoesWhole (owed n) → GoesWhole (Owes low high n)
owes_whole low high n w h k = record {
  text = low ∷ k.text;
  goes = ap (λ x. on_owed (cond x (Some (owed n)) None) (owed_by k.text)) (within_low low high h) ∙ k.goes;
  wide = and_of _ _ (le-leb 128 low w) k.wide;
}

owed_whole : (n : ℕ) → GoesWhole (owed n)
owed_whole zero = record { text = []; goes = refl; wide = refl }
owed_whole (suc n) = owes_whole 128 191 n (omega arith) (omega arith) (owed_whole n)

pub fair_whole : (o : Owed) → Fair o → GoesWhole o
fair_whole Whole h = record { text = []; goes = refl; wide = refl }
fair_whole (Owes low high n) h = owes_whole low high n h.0 h.1 (owed_whole n)
fair_whole Special h = record { text = 128 ∷ 128 ∷ []; goes = refl; wide = refl }

pub characters_alive : (s : List ℕ) (o : Owed) → owed_by s Whole ≡ Some o → (t : List ℕ) × Characters (s ++ t)
characters_alive s o h =
    let k = fair_whole o (fair_run s Whole o tt h) in
    (k.text, characters_taken (s ++ k.text) (owed-append s k.text Whole ∙ ap (λ x. on_owed x (owed_by k.text)) h ∙ k.goes))

pub characters_bad : (s : List ℕ) → owed_by s Whole ≡ None → (t : List ℕ) → Characters (s ++ t) → ⊥
characters_bad s h t i =
    let e : owed_by (s ++ t) Whole ≡ None = owed-append s t Whole ∙ ap (λ x. on_owed x (owed_by t)) h in
    let f = characters_go i in
    let g : None ≡ Some Whole = sym e ∙ f in
    cc
