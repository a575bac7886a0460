use Rattle.std.proofs.Common.{◌++◌, sym, ap, subst, ◌∙◌}
use Rattle.std.proofs.lemmas.Bool.{false≢true}
use Rattle.std.specs.Str.{IsUtf8}
use Rattle.std.proofs.lemmas.Str.{IsUtf8-from_ascii}
use Rattle.dav_text.specs.Path.{escaped}
use Rattle.dav_text.proofs.PathLemmas.{IsAscii-escaped}
use Rattle.dav_text.proofs.path.Path.escaped.Goals as goal

pub unreachable-requires : goal.unreachable-requires
unreachable-requires c =
    let text = escaped c.args.self.now in
    let same = c.in_ok-escaped_into.ensures.ok ∙ ap (λ bytes. bytes ++ text) c.new-bytes.ensures.items in
    false≢true (c.in-Err.ensures.succeeds (subst IsUtf8 (sym same) (IsUtf8-from_ascii text (IsAscii-escaped c.args.self.now))))
