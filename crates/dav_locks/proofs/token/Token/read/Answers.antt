use Rattle.std.proofs.Common.{sym}
use Rattle.std.proofs.lemmas.Bool.{and_parts}
use Rattle.std.proofs.lemmas.Str.{IsUtf8-from_is_utf8}
use Rattle.dav_locks.proofs.token.Token.read.Goals as goal

pub returns-in_default-clause-value : goal.returns-in_default-clause-value
returns-in_default-clause-value c =
    absurd (c.in_default.ensures.cases.0 (IsUtf8-from_is_utf8 c.args.bytes.now (and_parts _ _ (sym c.if-not-is_token.ensures)).1))
