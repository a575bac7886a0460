use Rattle.std.proofs.Common.{◌≡◌, ℕ, ◌+◌, ◌<◌, List, [], ◌∷◌, ◌++◌, take, length, get_or, ap, sym, subst, ◌∙◌, arith, Option, Some, None, refl}
use Rattle.std.proofs.lemmas.List.{take_more, take_all}
use Rattle.dav_auth.specs.Elements.{Elements}
use Rattle.dav_auth.specs.Kind.{kind_of}
use Rattle.dav_auth.specs.Scan.{step, finish, at_end}
use Rattle.dav_auth.specs.declared.piece.Piece.{Piece}
use Rattle.dav_auth.specs.declared.place.Place.TheVariants.{Start}
use Rattle.dav_auth.proofs.ReaderLemmas.{Reads, reads_none, reads_more, whole_list, bad_at_end, bad_at_byte}
use Rattle.dav_auth.proofs.reader.read_pieces.Goals as goal

pub loop-at-init : goal.loop-at-init
loop-at-init c =
    let P : List Piece → Type 0 = λ ps. Reads c.args.may [] ps (Start c.args.may) in
    subst P (sym c.new-pieces.ensures.items) (reads_none c.args.may)

pub loop-at-preserved : goal.loop-at-preserved
loop-at-preserved c =
    let text = c.args.text.now in
    let at = c.loop-at.at in
    let b = get_or text at 0 in
    let next = c.in-Some.field-0 in
    let leads : step c.loop-at.place (kind_of b) b ≡ Some next = sym c.in_ok-next.ensures ∙ c.in-Some.is in
    let F : List ℕ → Type 0 = λ front. Reads c.args.may front (c.loop-at.pieces.items ++ at_end next.piece) next.place in
    let P : List Piece → Type 0 = λ ps. Reads c.args.may (take (at + 1) text) ps next.place in
    let one : take (at + 1) text ≡ take at text ++ b ∷ [] = take_more text at 0 (omega arith) in
    subst P (sym c.in_ok-keep.ensures)
    (subst F (sym one) (reads_more c.args.may (take at text) c.loop-at.pieces.items c.loop-at.place b next c.loop-at.invariant leads))

pub returns-in_default : goal.returns-in_default
returns-in_default c =
    let text = c.args.text.now in
    let at = c.loop-at.at in
    let b = get_or text at 0 in
    let nowhere : step c.loop-at.place (kind_of b) b ≡ None = sym c.in_ok-next.ensures ∙ c.in_default.is in
    bad_at_byte c.args.may text at c.loop-at.pieces.items c.loop-at.place (omega arith) c.loop-at.invariant nowhere

pub returns-in_default-finish : goal.returns-in_default-finish
returns-in_default-finish c =
    let text = c.args.text.now in
    let F : List ℕ → Type 0 = λ front. Reads c.args.may front c.loop-at.pieces.items c.loop-at.place in
    let all : take c.loop-at.at text ≡ text = take_all c.loop-at.at text (omega arith) in
    let ended : finish c.loop-at.place ≡ None = sym c.in_default-finish.ensures in
    bad_at_end c.args.may text c.loop-at.pieces.items c.loop-at.place (subst F all c.loop-at.invariant) ended

pub returns : goal.returns
returns c =
    let text = c.args.text.now in
    let F : List ℕ → Type 0 = λ front. Reads c.args.may front c.loop-at.pieces.items c.loop-at.place in
    let all : take c.loop-at.at text ≡ text = take_all c.loop-at.at text (omega arith) in
    let ended : Some (at_end c.in-Some-finish.piece) ≡ finish c.loop-at.place = c.in-Some-finish.ensures in
    let P : List Piece → Type 0 = λ ps. Elements c.args.may ps text in
    subst P (sym c.in_ok-keep-2.ensures)
    (whole_list c.args.may text c.loop-at.pieces.items c.loop-at.place c.in-Some-finish.piece (subst F all c.loop-at.invariant) ended)
