use Rattle.std.proofs.Common.{◌≡◌, ◌≢◌, false, true, refl, sym, ap, subst, ◌∙◌}
use Rattle.std.proofs.lemmas.Bool.{false_from_ne_true}
use Rattle.std.proofs.lemmas.Str.{IsUtf8-from_is_utf8, is_utf8-from_IsUtf8}
use Rattle.std.specs.Str.{is_utf8, IsUtf8}
use Rattle.percent_encoding.specs.declared.DecodeError.TheVariants.{OutOfMemory, Utf8}
use Rattle.percent_encoding.specs.Percent.{percent_decode}
use Rattle.dav_text.specs.Reading.{with_part}
use Rattle.dav_text.proofs.path.Path.read_part.Goals as goal

pub returns-in-Err-Utf8 : goal.returns-in-Err-Utf8
returns-in-Err-Utf8 c =
    let same = c.percent_decode.ensures.bytes ∙ ap percent_decode c.as_bytes.ensures.value in
    λ other. (
      false_from_ne_true (is_utf8 (percent_decode c.args.part.now)) (λ is.
          let wrong = c.in-Err-Utf8.ensures.utf8 (subst IsUtf8 (sym same) (IsUtf8-from_is_utf8 _ is)) in
          let clash : Utf8 c.in-Err-Utf8.field-0-0 ≡ OutOfMemory = sym c.in-Err-Utf8.field-0-is ∙ wrong in cc),
      refl,
    )

pub returns-in_ok-add-in-Ok-text : goal.returns-in_ok-add-in-Ok-text
returns-in_ok-add-in-Ok-text c =
    let same = c.percent_decode.ensures.bytes ∙ ap percent_decode c.as_bytes.ensures.value in (
      is_utf8-from_IsUtf8 _ (subst IsUtf8 same c.in-Ok.ensures.ok_only_if_utf8),
      c.in_ok-add-in-Ok-text.ensures ∙ ap (with_part c.args.self.now) (c.from_string.ensures ∙ c.in-Ok-text.ensures.ok ∙ c.in-Ok.ensures.value ∙ same),
    )
