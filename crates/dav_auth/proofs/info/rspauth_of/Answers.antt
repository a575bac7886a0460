use Rattle.std.proofs.Common.{◌≡◌, ◌∙◌, ap, sym, subst, codes, true, List, ℕ, Some, None}
use Rattle.dav_auth.specs.Info.{said_in}
use Rattle.dav_auth.specs.Reading.{IsUnread}
use Rattle.dav_auth.specs.declared.fault.AuthFault.{AuthFault}
use Rattle.dav_auth.specs.declared.piece.Piece.{Piece}
use Rattle.dav_auth.proofs.ListLemmas.{none_of_bad, none_said, some_said}
use Rattle.dav_auth.proofs.info.rspauth_of.Goals as goal

pub returns-in-Err-BadChallenge : goal.returns-in-Err-BadChallenge
returns-in-Err-BadChallenge c =
    let F : AuthFault → Type 0 = λ fault. IsUnread true c.args.value.now fault in
    none_of_bad c.args.value.now c.in-Err-BadChallenge.field-0-0 (codes "rspauth") (subst F c.in-Err-BadChallenge.field-0-is c.in-Err-BadChallenge.ensures)

pub returns-in-Some : goal.returns-in-Some
returns-in-Some c =
    some_said c.args.value.now c.in_ok-text-in-Some.text c.in-Ok.pieces.items c.in-Ok.ensures
    (ap (λ parts. said_in parts) (sym c.as_slice.ensures.value) ∙ sym c.in-Some.ensures ∙ ap (λ text. Some text) (sym c.in_ok-text-in-Some.ensures))

pub returns : goal.returns
returns c =
    none_said c.args.value.now c.in-Ok.pieces.items c.in-Ok.ensures
    (ap (λ parts. said_in parts) (sym c.as_slice.ensures.value) ∙ sym c.in-None.ensures)
