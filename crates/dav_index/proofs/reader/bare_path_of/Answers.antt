use Rattle.std.proofs.Common.{sym, ◌∙◌}
use Rattle.dav_index.proofs.PathTexts.{slash_alone}
use Rattle.dav_index.proofs.reader.bare_path_of.Goals as goal

pub returns-in_default : goal.returns-in_default
returns-in_default c =
    let none = rw c.in_default.is at c.in_ok-path.ensures in
    λ path is e. none path is.is_path e

pub returns-then-text-gt1 : goal.returns-then-text-gt1
returns-then-text-gt1 c =
    let is = rw c.in-Some.is at c.in_ok-path.ensures in
    λ path bare e. slash_alone c.in-Some.path path c.args.text.now is.0 is.1 bare e (sym c.has_slash.ensures ∙ c.if-has_slash.true) c.if-text-gt1.true
