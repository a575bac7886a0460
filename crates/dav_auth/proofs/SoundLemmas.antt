-- What is read from a place on is the rest of a list.
use Rattle.std.proofs.Common.{◌≡◌, ℕ, Bool, true, false, List, [], ◌∷◌, ◌++◌, ◌⊎◌, inl, inr, refl, ap, sym, subst, ◌∙◌, Option, Some, None}
use Rattle.dav_auth.specs.Grammar.{is_blank}
use Rattle.dav_auth.specs.Elements.{Elements}
use Rattle.dav_auth.specs.Elements.Elements.{blank as blank_is, empty as empty_is}
use Rattle.dav_auth.specs.Kind.{kind_of}
use Rattle.dav_auth.specs.Scan.{step, finish, before, following, run}
use Rattle.dav_auth.specs.declared.kind.ByteKind.{ByteKind}
use Rattle.dav_auth.specs.declared.piece.Piece.{Piece}
use Rattle.dav_auth.specs.declared.piece.Piece.TheVariants.{Scheme, Parameter}
use Rattle.dav_auth.specs.declared.place.Place.{Place}
use Rattle.dav_auth.specs.declared.place.Place.TheVariants.{Start, First, Spaces, Mixed, Tabs, Second, AfterSecond, Pad, AfterPad, Token68, Padding, AfterToken68, Name, AfterName, Equals, Token, String, Pair, AfterValue}
use Rattle.dav_auth.proofs.KindLemmas.{View, view}
use Rattle.dav_auth.proofs.KindLemmas.View.{space, tab, comma, equals, quote, backslash, slash, shared, token_only, quotable, control}
use Rattle.dav_auth.proofs.RestLemmas.{Tail, tail_blank, TokenRest, StringRest, PairRest, ValueRest, AfterNameRest, NameRest, PaddingRest, Token68Rest, Spaces68Rest, BlanksRest, TabsRest, SpacesRest, MixedRest, FirstRest, begun_elements, blank_elements}
use Rattle.dav_auth.proofs.RestLemmas.Tail.{ends as tail_ends, goes as tail_goes}

-- what the bytes from a place on are
abbrev pub Means : Place → List Piece → List ℕ → Type 0
Means (Start may) pieces s = Elements may pieces s
Means (First may word) pieces s = FirstRest may word pieces s
Means (Spaces may word) pieces s = SpacesRest may word pieces s
Means (Mixed may word) pieces s = MixedRest may word pieces s
Means (Tabs may word) pieces s = TabsRest may word pieces s
Means (Second word) pieces s = Token68Rest pieces s ⊎ NameRest word pieces s
Means (AfterSecond word) pieces s = Tail false pieces s ⊎ AfterNameRest word pieces s
Means (Pad word) pieces s = PaddingRest pieces s ⊎ ValueRest word pieces s
Means (AfterPad word) pieces s = Tail false pieces s ⊎ ValueRest word pieces s
Means Token68 pieces s = Token68Rest pieces s
Means Padding pieces s = PaddingRest pieces s
Means AfterToken68 pieces s = Tail false pieces s
Means (Name name) pieces s = NameRest name pieces s
Means (AfterName name) pieces s = AfterNameRest name pieces s
Means (Equals name) pieces s = ValueRest name pieces s
Means (Token name value) pieces s = TokenRest name value pieces s
Means (String name value) pieces s = StringRest name value pieces s
Means (Pair name value) pieces s = PairRest name value pieces s
Means AfterValue pieces s = Tail true pieces s

-- ---- the end

some_is : {A : Type 0} (a b : A) → Some a ≡ Some b → a ≡ b
some_is a b same = cc

at_end : (place : Place) (pieces : List Piece) → finish place ≡ Some pieces → Means place pieces []
at_end (Start may) pieces e = let P : List Piece → Type 0 = λ ps. Elements may ps [] in subst P (some_is [] pieces e) (blank_is [] refl)
at_end (First may w) pieces e = let P : List Piece → Type 0 = λ ps. FirstRest may w ps [] in subst P (some_is (Scheme w ∷ []) pieces e) FirstRest.ends
at_end (Spaces may w) pieces e = let P : List Piece → Type 0 = λ ps. SpacesRest may w ps [] in subst P (some_is (Scheme w ∷ []) pieces e) (SpacesRest.alone (tail_ends [] refl))
at_end (Mixed may w) pieces e = let P : List Piece → Type 0 = λ ps. MixedRest may w ps [] in subst P (some_is (Scheme w ∷ []) pieces e) (MixedRest.alone (tail_ends [] refl))
at_end (Tabs may w) pieces e = let P : List Piece → Type 0 = λ ps. TabsRest may w ps [] in subst P (some_is (Scheme w ∷ []) pieces e) (TabsRest.alone (tail_ends [] refl))
at_end (Second w) pieces e = let P : List Piece → Type 0 = λ ps. Tail false ps [] in inl (Token68Rest.padding (PaddingRest.done (subst P (some_is [] pieces e) (tail_ends [] refl))))
at_end (AfterSecond w) pieces e = let P : List Piece → Type 0 = λ ps. Tail false ps [] in inl (subst P (some_is [] pieces e) (tail_ends [] refl))
at_end (Pad w) pieces e = let P : List Piece → Type 0 = λ ps. Tail false ps [] in inl (PaddingRest.done (subst P (some_is [] pieces e) (tail_ends [] refl)))
at_end (AfterPad w) pieces e = let P : List Piece → Type 0 = λ ps. Tail false ps [] in inl (subst P (some_is [] pieces e) (tail_ends [] refl))
at_end Token68 pieces e = let P : List Piece → Type 0 = λ ps. Tail false ps [] in Token68Rest.padding (PaddingRest.done (subst P (some_is [] pieces e) (tail_ends [] refl)))
at_end Padding pieces e = let P : List Piece → Type 0 = λ ps. Tail false ps [] in PaddingRest.done (subst P (some_is [] pieces e) (tail_ends [] refl))
at_end AfterToken68 pieces e = let P : List Piece → Type 0 = λ ps. Tail false ps [] in subst P (some_is [] pieces e) (tail_ends [] refl)
at_end (Name n) pieces e = cc
at_end (AfterName n) pieces e = cc
at_end (Equals n) pieces e = cc
at_end (Token n v) pieces e = let P : List Piece → Type 0 = λ ps. TokenRest n v ps [] in subst P (some_is (Parameter n v ∷ []) pieces e) (TokenRest.done (tail_ends [] refl))
at_end (String n v) pieces e = cc
at_end (Pair n v) pieces e = cc
at_end AfterValue pieces e = let P : List Piece → Type 0 = λ ps. Tail true ps [] in subst P (some_is [] pieces e) (tail_ends [] refl)

-- ---- one byte

-- what is read from each place of the bytes behind is the rest of a list
abbrev IsSoundOn : List ℕ → Type 0
IsSoundOn s = (next : Place) (pieces : List Piece) → run s next ≡ Some pieces → Means next pieces s

-- a part that became known, and the others
record Known (piece : Piece) (o : Option (List Piece)) (pieces : List Piece) : Type 0 where
  others : List Piece
  rest : o ≡ Some others
  made : piece ∷ others ≡ pieces

known_is : (piece : Piece) (o : Option (List Piece)) (pieces : List Piece) → before (Some piece) o ≡ Some pieces → Known piece o pieces
known_is piece None pieces e = cc
known_is piece (Some others) pieces e = record { others = others; rest = refl; made = some_is (piece ∷ others) pieces e }

-- the same, where what the others are makes what all are
with_known : (piece : Piece) (s : List ℕ) (next : Place) (pieces : List Piece) (R : List Piece → Type 0) → IsSoundOn s
    → ((others : List Piece) → Means next others s → R (piece ∷ others)) → before (Some piece) (run s next) ≡ Some pieces → R pieces
with_known piece s next pieces R sound make e =
    let k = known_is piece (run s next) pieces e in
    subst R k.made (make k.others (sound next k.others k.rest))

comma_tail : {may : Bool} {pieces : List Piece} {s : List ℕ} → Elements may pieces s → Tail may pieces (44 ∷ s)
comma_tail rest = tail_goes [] refl rest

abbrev On : Place → List Piece → List ℕ → ℕ → ByteKind → Type 0
On place pieces s b k = following (step place k b) (λ p. run s p) ≡ Some pieces → Means place pieces (b ∷ s)

-- blanks behind what has come
spaces_skip : {may : Bool} {w : List ℕ} {pieces : List Piece} {s : List ℕ} → SpacesRest may w pieces s → SpacesRest may w pieces (32 ∷ s)
spaces_skip (SpacesRest.alone tail) = SpacesRest.alone (tail_blank 32 refl tail)
spaces_skip (SpacesRest.named rest) = SpacesRest.named (AfterNameRest.skip 32 refl rest)
spaces_skip (SpacesRest.parameter rest) = SpacesRest.parameter (BlanksRest.skip 32 refl rest)
spaces_skip (SpacesRest.token rest) = SpacesRest.token (Spaces68Rest.skip rest)

spaces_from_mixed : {may : Bool} {w : List ℕ} {pieces : List Piece} {s : List ℕ} → MixedRest may w pieces s → SpacesRest may w pieces (9 ∷ s)
spaces_from_mixed (MixedRest.alone tail) = SpacesRest.alone (tail_blank 9 refl tail)
spaces_from_mixed (MixedRest.named rest) = SpacesRest.named (AfterNameRest.skip 9 refl rest)
spaces_from_mixed (MixedRest.parameter rest) = SpacesRest.parameter (BlanksRest.skip 9 refl rest)

mixed_skip : {may : Bool} {w : List ℕ} {pieces : List Piece} {s : List ℕ} (b : ℕ) → is_blank b ≡ true → MixedRest may w pieces s → MixedRest may w pieces (b ∷ s)
mixed_skip b is (MixedRest.alone tail) = MixedRest.alone (tail_blank b is tail)
mixed_skip b is (MixedRest.named rest) = MixedRest.named (AfterNameRest.skip b is rest)
mixed_skip b is (MixedRest.parameter rest) = MixedRest.parameter (BlanksRest.skip b is rest)

tabs_skip : {may : Bool} {w : List ℕ} {pieces : List Piece} {s : List ℕ} (b : ℕ) → is_blank b ≡ true → TabsRest may w pieces s → TabsRest may w pieces (b ∷ s)
tabs_skip b is (TabsRest.alone tail) = TabsRest.alone (tail_blank b is tail)
tabs_skip b is (TabsRest.named rest) = TabsRest.named (AfterNameRest.skip b is rest)

second_skip : {w : List ℕ} {pieces : List Piece} {s : List ℕ} (b : ℕ) → is_blank b ≡ true → Tail false pieces s ⊎ AfterNameRest w pieces s
    → Token68Rest pieces (b ∷ s) ⊎ NameRest w pieces (b ∷ s)
second_skip b is (inl tail) = inl (Token68Rest.padding (PaddingRest.done (tail_blank b is tail)))
second_skip b is (inr rest) = inr (NameRest.after (AfterNameRest.skip b is rest))

after_second_skip : {w : List ℕ} {pieces : List Piece} {s : List ℕ} (b : ℕ) → is_blank b ≡ true → Tail false pieces s ⊎ AfterNameRest w pieces s
    → Tail false pieces (b ∷ s) ⊎ AfterNameRest w pieces (b ∷ s)
after_second_skip b is (inl tail) = inl (tail_blank b is tail)
after_second_skip b is (inr rest) = inr (AfterNameRest.skip b is rest)

pad_skip : {w : List ℕ} {pieces : List Piece} {s : List ℕ} (b : ℕ) → is_blank b ≡ true → Tail false pieces s ⊎ ValueRest w pieces s
    → PaddingRest pieces (b ∷ s) ⊎ ValueRest w pieces (b ∷ s)
pad_skip b is (inl tail) = inl (PaddingRest.done (tail_blank b is tail))
pad_skip b is (inr rest) = inr (ValueRest.skip b is rest)

after_pad_skip : {w : List ℕ} {pieces : List Piece} {s : List ℕ} (b : ℕ) → is_blank b ≡ true → Tail false pieces s ⊎ ValueRest w pieces s
    → Tail false pieces (b ∷ s) ⊎ ValueRest w pieces (b ∷ s)
after_pad_skip b is (inl tail) = inl (tail_blank b is tail)
after_pad_skip b is (inr rest) = inr (ValueRest.skip b is rest)

paired : {n v : List ℕ} {pieces : List Piece} {s : List ℕ} → PairRest n v pieces s → StringRest n v pieces (92 ∷ s)
paired (PairRest.byte b said rest) = StringRest.escaped b said rest

on_start : (may : Bool) (pieces : List Piece) (s : List ℕ) {b : ℕ} {k : ByteKind} → IsSoundOn s → View b k → On (Start may) pieces s b k
on_start may pieces s i space e = blank_elements 32 refl (i (Start may) pieces e)
on_start may pieces s i tab e = blank_elements 9 refl (i (Start may) pieces e)
on_start may pieces s i comma e = empty_is [] refl (i (Start may) pieces e)
on_start may pieces s i (shared b t _ _ _ _) e = begun_elements b t (i (First may (b ∷ [])) pieces e)
on_start may pieces s i (token_only b t _ _ _ _) e = begun_elements b t (i (First may (b ∷ [])) pieces e)
on_start may pieces s i _ e = cc

on_first : (may : Bool) (w : List ℕ) (pieces : List Piece) (s : List ℕ) {b : ℕ} {k : ByteKind} → IsSoundOn s → View b k → On (First may w) pieces s b k
on_first may w pieces s i (shared b t _ _ _ _) e = FirstRest.byte b t (i (First may (w ++ b ∷ [])) pieces e)
on_first may w pieces s i (token_only b t _ _ _ _) e = FirstRest.byte b t (i (First may (w ++ b ∷ [])) pieces e)
on_first may w pieces s i space e = FirstRest.space (i (Spaces may w) pieces e)
on_first may w pieces s i tab e = FirstRest.tab (i (Tabs may w) pieces e)
on_first may w pieces s i comma e = with_known (Scheme w) s (Start false) pieces (λ ps. FirstRest may w ps (44 ∷ s)) i (λ o m. FirstRest.comma m) e
on_first true w pieces s i equals e = FirstRest.equals (i (Equals w) pieces e)
on_first may w pieces s i _ e = cc

on_spaces : (may : Bool) (w : List ℕ) (pieces : List Piece) (s : List ℕ) {b : ℕ} {k : ByteKind} → IsSoundOn s → View b k → On (Spaces may w) pieces s b k
on_spaces may w pieces s i space e = spaces_skip (i (Spaces may w) pieces e)
on_spaces may w pieces s i tab e = spaces_from_mixed (i (Mixed may w) pieces e)
on_spaces may w pieces s i comma e = with_known (Scheme w) s (Start true) pieces (λ ps. SpacesRest may w ps (44 ∷ s)) i (λ o m. SpacesRest.alone (comma_tail m)) e
on_spaces true w pieces s i equals e = SpacesRest.named (AfterNameRest.equals (i (Equals w) pieces e))
on_spaces may w pieces s i (shared b t s68 _ _ _) e =
    with_known (Scheme w) s (Second (b ∷ [])) pieces (λ ps. SpacesRest may w ps (b ∷ s)) i (λ o m. elim m [
      | inl rest ↦ SpacesRest.token (Spaces68Rest.begins b s68 rest)
      | inr rest ↦ SpacesRest.parameter (BlanksRest.begins b t rest)
    ]) e
on_spaces may w pieces s i (token_only b t _ _ _ _) e =
    with_known (Scheme w) s (Name (b ∷ [])) pieces (λ ps. SpacesRest may w ps (b ∷ s)) i (λ o m. SpacesRest.parameter (BlanksRest.begins b t m)) e
on_spaces may w pieces s i slash e =
    with_known (Scheme w) s Token68 pieces (λ ps. SpacesRest may w ps (47 ∷ s)) i (λ o m. SpacesRest.token (Spaces68Rest.begins 47 refl m)) e
on_spaces may w pieces s i _ e = cc

on_mixed : (may : Bool) (w : List ℕ) (pieces : List Piece) (s : List ℕ) {b : ℕ} {k : ByteKind} → IsSoundOn s → View b k → On (Mixed may w) pieces s b k
on_mixed may w pieces s i space e = mixed_skip 32 refl (i (Mixed may w) pieces e)
on_mixed may w pieces s i tab e = mixed_skip 9 refl (i (Mixed may w) pieces e)
on_mixed may w pieces s i comma e = with_known (Scheme w) s (Start true) pieces (λ ps. MixedRest may w ps (44 ∷ s)) i (λ o m. MixedRest.alone (comma_tail m)) e
on_mixed true w pieces s i equals e = MixedRest.named (AfterNameRest.equals (i (Equals w) pieces e))
on_mixed may w pieces s i (shared b t _ _ _ _) e =
    with_known (Scheme w) s (Name (b ∷ [])) pieces (λ ps. MixedRest may w ps (b ∷ s)) i (λ o m. MixedRest.parameter (BlanksRest.begins b t m)) e
on_mixed may w pieces s i (token_only b t _ _ _ _) e =
    with_known (Scheme w) s (Name (b ∷ [])) pieces (λ ps. MixedRest may w ps (b ∷ s)) i (λ o m. MixedRest.parameter (BlanksRest.begins b t m)) e
on_mixed may w pieces s i _ e = cc

on_tabs : (may : Bool) (w : List ℕ) (pieces : List Piece) (s : List ℕ) {b : ℕ} {k : ByteKind} → IsSoundOn s → View b k → On (Tabs may w) pieces s b k
on_tabs may w pieces s i space e = tabs_skip 32 refl (i (Tabs may w) pieces e)
on_tabs may w pieces s i tab e = tabs_skip 9 refl (i (Tabs may w) pieces e)
on_tabs may w pieces s i comma e = with_known (Scheme w) s (Start false) pieces (λ ps. TabsRest may w ps (44 ∷ s)) i (λ o m. TabsRest.alone (comma_tail m)) e
on_tabs true w pieces s i equals e = TabsRest.named (AfterNameRest.equals (i (Equals w) pieces e))
on_tabs may w pieces s i _ e = cc

on_second : (w : List ℕ) (pieces : List Piece) (s : List ℕ) {b : ℕ} {k : ByteKind} → IsSoundOn s → View b k → On (Second w) pieces s b k
on_second w pieces s i (shared b t s68 _ _ _) e =
    elim (i (Second (w ++ b ∷ [])) pieces e) [ inl rest ↦ inl (Token68Rest.byte b s68 rest) | inr rest ↦ inr (NameRest.byte b t rest) ]
on_second w pieces s i (token_only b t _ _ _ _) e = inr (NameRest.byte b t (i (Name (w ++ b ∷ [])) pieces e))
on_second w pieces s i slash e = inl (Token68Rest.byte 47 refl (i Token68 pieces e))
on_second w pieces s i equals e =
    elim (i (Pad w) pieces e) [
      | inl rest ↦ inl (Token68Rest.padding (PaddingRest.pad rest))
      | inr rest ↦ inr (NameRest.after (AfterNameRest.equals rest))
    ]
on_second w pieces s i space e = second_skip 32 refl (i (AfterSecond w) pieces e)
on_second w pieces s i tab e = second_skip 9 refl (i (AfterSecond w) pieces e)
on_second w pieces s i comma e = inl (Token68Rest.padding (PaddingRest.done (comma_tail (i (Start false) pieces e))))
on_second w pieces s i _ e = cc

on_after_second : (w : List ℕ) (pieces : List Piece) (s : List ℕ) {b : ℕ} {k : ByteKind} → IsSoundOn s → View b k → On (AfterSecond w) pieces s b k
on_after_second w pieces s i space e = after_second_skip 32 refl (i (AfterSecond w) pieces e)
on_after_second w pieces s i tab e = after_second_skip 9 refl (i (AfterSecond w) pieces e)
on_after_second w pieces s i equals e = inr (AfterNameRest.equals (i (Equals w) pieces e))
on_after_second w pieces s i comma e = inl (comma_tail (i (Start false) pieces e))
on_after_second w pieces s i _ e = cc

on_pad : (w : List ℕ) (pieces : List Piece) (s : List ℕ) {b : ℕ} {k : ByteKind} → IsSoundOn s → View b k → On (Pad w) pieces s b k
on_pad w pieces s i equals e = inl (PaddingRest.pad (i Padding pieces e))
on_pad w pieces s i space e = pad_skip 32 refl (i (AfterPad w) pieces e)
on_pad w pieces s i tab e = pad_skip 9 refl (i (AfterPad w) pieces e)
on_pad w pieces s i comma e = inl (PaddingRest.done (comma_tail (i (Start false) pieces e)))
on_pad w pieces s i quote e = inr (ValueRest.string (i (String w []) pieces e))
on_pad w pieces s i (shared b t _ _ _ _) e = inr (ValueRest.token b t (i (Token w (b ∷ [])) pieces e))
on_pad w pieces s i (token_only b t _ _ _ _) e = inr (ValueRest.token b t (i (Token w (b ∷ [])) pieces e))
on_pad w pieces s i _ e = cc

on_after_pad : (w : List ℕ) (pieces : List Piece) (s : List ℕ) {b : ℕ} {k : ByteKind} → IsSoundOn s → View b k → On (AfterPad w) pieces s b k
on_after_pad w pieces s i space e = after_pad_skip 32 refl (i (AfterPad w) pieces e)
on_after_pad w pieces s i tab e = after_pad_skip 9 refl (i (AfterPad w) pieces e)
on_after_pad w pieces s i comma e = inl (comma_tail (i (Start false) pieces e))
on_after_pad w pieces s i quote e = inr (ValueRest.string (i (String w []) pieces e))
on_after_pad w pieces s i (shared b t _ _ _ _) e = inr (ValueRest.token b t (i (Token w (b ∷ [])) pieces e))
on_after_pad w pieces s i (token_only b t _ _ _ _) e = inr (ValueRest.token b t (i (Token w (b ∷ [])) pieces e))
on_after_pad w pieces s i _ e = cc

on_token68 : (pieces : List Piece) (s : List ℕ) {b : ℕ} {k : ByteKind} → IsSoundOn s → View b k → On Token68 pieces s b k
on_token68 pieces s i (shared b _ s68 _ _ _) e = Token68Rest.byte b s68 (i Token68 pieces e)
on_token68 pieces s i slash e = Token68Rest.byte 47 refl (i Token68 pieces e)
on_token68 pieces s i equals e = Token68Rest.padding (PaddingRest.pad (i Padding pieces e))
on_token68 pieces s i space e = Token68Rest.padding (PaddingRest.done (tail_blank 32 refl (i AfterToken68 pieces e)))
on_token68 pieces s i tab e = Token68Rest.padding (PaddingRest.done (tail_blank 9 refl (i AfterToken68 pieces e)))
on_token68 pieces s i comma e = Token68Rest.padding (PaddingRest.done (comma_tail (i (Start false) pieces e)))
on_token68 pieces s i _ e = cc

on_padding : (pieces : List Piece) (s : List ℕ) {b : ℕ} {k : ByteKind} → IsSoundOn s → View b k → On Padding pieces s b k
on_padding pieces s i equals e = PaddingRest.pad (i Padding pieces e)
on_padding pieces s i space e = PaddingRest.done (tail_blank 32 refl (i AfterToken68 pieces e))
on_padding pieces s i tab e = PaddingRest.done (tail_blank 9 refl (i AfterToken68 pieces e))
on_padding pieces s i comma e = PaddingRest.done (comma_tail (i (Start false) pieces e))
on_padding pieces s i _ e = cc

on_after_token68 : (pieces : List Piece) (s : List ℕ) {b : ℕ} {k : ByteKind} → IsSoundOn s → View b k → On AfterToken68 pieces s b k
on_after_token68 pieces s i space e = tail_blank 32 refl (i AfterToken68 pieces e)
on_after_token68 pieces s i tab e = tail_blank 9 refl (i AfterToken68 pieces e)
on_after_token68 pieces s i comma e = comma_tail (i (Start false) pieces e)
on_after_token68 pieces s i _ e = cc

on_name : (n : List ℕ) (pieces : List Piece) (s : List ℕ) {b : ℕ} {k : ByteKind} → IsSoundOn s → View b k → On (Name n) pieces s b k
on_name n pieces s i (shared b t _ _ _ _) e = NameRest.byte b t (i (Name (n ++ b ∷ [])) pieces e)
on_name n pieces s i (token_only b t _ _ _ _) e = NameRest.byte b t (i (Name (n ++ b ∷ [])) pieces e)
on_name n pieces s i equals e = NameRest.after (AfterNameRest.equals (i (Equals n) pieces e))
on_name n pieces s i space e = NameRest.after (AfterNameRest.skip 32 refl (i (AfterName n) pieces e))
on_name n pieces s i tab e = NameRest.after (AfterNameRest.skip 9 refl (i (AfterName n) pieces e))
on_name n pieces s i _ e = cc

on_after_name : (n : List ℕ) (pieces : List Piece) (s : List ℕ) {b : ℕ} {k : ByteKind} → IsSoundOn s → View b k → On (AfterName n) pieces s b k
on_after_name n pieces s i space e = AfterNameRest.skip 32 refl (i (AfterName n) pieces e)
on_after_name n pieces s i tab e = AfterNameRest.skip 9 refl (i (AfterName n) pieces e)
on_after_name n pieces s i equals e = AfterNameRest.equals (i (Equals n) pieces e)
on_after_name n pieces s i _ e = cc

on_equals : (n : List ℕ) (pieces : List Piece) (s : List ℕ) {b : ℕ} {k : ByteKind} → IsSoundOn s → View b k → On (Equals n) pieces s b k
on_equals n pieces s i space e = ValueRest.skip 32 refl (i (Equals n) pieces e)
on_equals n pieces s i tab e = ValueRest.skip 9 refl (i (Equals n) pieces e)
on_equals n pieces s i quote e = ValueRest.string (i (String n []) pieces e)
on_equals n pieces s i (shared b t _ _ _ _) e = ValueRest.token b t (i (Token n (b ∷ [])) pieces e)
on_equals n pieces s i (token_only b t _ _ _ _) e = ValueRest.token b t (i (Token n (b ∷ [])) pieces e)
on_equals n pieces s i _ e = cc

on_value : (n v : List ℕ) (pieces : List Piece) (s : List ℕ) {b : ℕ} {k : ByteKind} → IsSoundOn s → View b k → On (Token n v) pieces s b k
on_value n v pieces s i (shared b t _ _ _ _) e = TokenRest.byte b t (i (Token n (v ++ b ∷ [])) pieces e)
on_value n v pieces s i (token_only b t _ _ _ _) e = TokenRest.byte b t (i (Token n (v ++ b ∷ [])) pieces e)
on_value n v pieces s i space e =
    with_known (Parameter n v) s AfterValue pieces (λ ps. TokenRest n v ps (32 ∷ s)) i (λ o m. TokenRest.done (tail_blank 32 refl m)) e
on_value n v pieces s i tab e =
    with_known (Parameter n v) s AfterValue pieces (λ ps. TokenRest n v ps (9 ∷ s)) i (λ o m. TokenRest.done (tail_blank 9 refl m)) e
on_value n v pieces s i comma e =
    with_known (Parameter n v) s (Start true) pieces (λ ps. TokenRest n v ps (44 ∷ s)) i (λ o m. TokenRest.done (comma_tail m)) e
on_value n v pieces s i _ e = cc

on_string : (n v : List ℕ) (pieces : List Piece) (s : List ℕ) {b : ℕ} {k : ByteKind} → IsSoundOn s → View b k → On (String n v) pieces s b k
on_string n v pieces s i quote e =
    with_known (Parameter n v) s AfterValue pieces (λ ps. StringRest n v ps (34 ∷ s)) i (λ o m. StringRest.close m) e
on_string n v pieces s i backslash e = paired (i (Pair n v) pieces e)
on_string n v pieces s i space e = StringRest.byte 32 refl refl (i (String n (v ++ 32 ∷ [])) pieces e)
on_string n v pieces s i tab e = StringRest.byte 9 refl refl (i (String n (v ++ 9 ∷ [])) pieces e)
on_string n v pieces s i comma e = StringRest.byte 44 refl refl (i (String n (v ++ 44 ∷ [])) pieces e)
on_string n v pieces s i equals e = StringRest.byte 61 refl refl (i (String n (v ++ 61 ∷ [])) pieces e)
on_string n v pieces s i slash e = StringRest.byte 47 refl refl (i (String n (v ++ 47 ∷ [])) pieces e)
on_string n v pieces s i (shared b _ _ said other _) e = StringRest.byte b said other (i (String n (v ++ b ∷ [])) pieces e)
on_string n v pieces s i (token_only b _ _ said other _) e = StringRest.byte b said other (i (String n (v ++ b ∷ [])) pieces e)
on_string n v pieces s i (quotable b _ _ said other _) e = StringRest.byte b said other (i (String n (v ++ b ∷ [])) pieces e)
on_string n v pieces s i (control b _ _ _ _) e = cc

on_pair : (n v : List ℕ) (pieces : List Piece) (s : List ℕ) {b : ℕ} {k : ByteKind} → IsSoundOn s → View b k → On (Pair n v) pieces s b k
on_pair n v pieces s i quote e = PairRest.byte 34 refl (i (String n (v ++ 34 ∷ [])) pieces e)
on_pair n v pieces s i backslash e = PairRest.byte 92 refl (i (String n (v ++ 92 ∷ [])) pieces e)
on_pair n v pieces s i space e = PairRest.byte 32 refl (i (String n (v ++ 32 ∷ [])) pieces e)
on_pair n v pieces s i tab e = PairRest.byte 9 refl (i (String n (v ++ 9 ∷ [])) pieces e)
on_pair n v pieces s i comma e = PairRest.byte 44 refl (i (String n (v ++ 44 ∷ [])) pieces e)
on_pair n v pieces s i equals e = PairRest.byte 61 refl (i (String n (v ++ 61 ∷ [])) pieces e)
on_pair n v pieces s i slash e = PairRest.byte 47 refl (i (String n (v ++ 47 ∷ [])) pieces e)
on_pair n v pieces s i (shared b _ _ said _ _) e = PairRest.byte b said (i (String n (v ++ b ∷ [])) pieces e)
on_pair n v pieces s i (token_only b _ _ said _ _) e = PairRest.byte b said (i (String n (v ++ b ∷ [])) pieces e)
on_pair n v pieces s i (quotable b _ _ said _ _) e = PairRest.byte b said (i (String n (v ++ b ∷ [])) pieces e)
on_pair n v pieces s i (control b _ _ _ _) e = cc

on_after_value : (pieces : List Piece) (s : List ℕ) {b : ℕ} {k : ByteKind} → IsSoundOn s → View b k → On AfterValue pieces s b k
on_after_value pieces s i space e = tail_blank 32 refl (i AfterValue pieces e)
on_after_value pieces s i tab e = tail_blank 9 refl (i AfterValue pieces e)
on_after_value pieces s i comma e = comma_tail (i (Start true) pieces e)
on_after_value pieces s i _ e = cc

on_byte : (place : Place) (pieces : List Piece) (s : List ℕ) {b : ℕ} {k : ByteKind} → IsSoundOn s → View b k → On place pieces s b k
on_byte (Start may) pieces s i v e = on_start may pieces s i v e
on_byte (First may w) pieces s i v e = on_first may w pieces s i v e
on_byte (Spaces may w) pieces s i v e = on_spaces may w pieces s i v e
on_byte (Mixed may w) pieces s i v e = on_mixed may w pieces s i v e
on_byte (Tabs may w) pieces s i v e = on_tabs may w pieces s i v e
on_byte (Second w) pieces s i v e = on_second w pieces s i v e
on_byte (AfterSecond w) pieces s i v e = on_after_second w pieces s i v e
on_byte (Pad w) pieces s i v e = on_pad w pieces s i v e
on_byte (AfterPad w) pieces s i v e = on_after_pad w pieces s i v e
on_byte Token68 pieces s i v e = on_token68 pieces s i v e
on_byte Padding pieces s i v e = on_padding pieces s i v e
on_byte AfterToken68 pieces s i v e = on_after_token68 pieces s i v e
on_byte (Name n) pieces s i v e = on_name n pieces s i v e
on_byte (AfterName n) pieces s i v e = on_after_name n pieces s i v e
on_byte (Equals n) pieces s i v e = on_equals n pieces s i v e
on_byte (Token n value) pieces s i v e = on_value n value pieces s i v e
on_byte (String n value) pieces s i v e = on_string n value pieces s i v e
on_byte (Pair n value) pieces s i v e = on_pair n value pieces s i v e
on_byte AfterValue pieces s i v e = on_after_value pieces s i v e

-- what is read from a place on is the rest of a list
sound_from : (s : List ℕ) → IsSoundOn s
unfolding run
sound_from [] place pieces e = at_end place pieces e
sound_from (b ∷ s) place pieces e = on_byte place pieces s (sound_from s) (view b) e

-- what is read is a list
pub sound : (may : Bool) (text : List ℕ) (pieces : List Piece) → run text (Start may) ≡ Some pieces → Elements may pieces text
sound may text pieces e = sound_from text (Start may) pieces e
