use Rattle.std.proofs.Common.{Some, [], ◌∷◌, codes, sym, ◌∙◌}
use Rattle.std.proofs.lemmas.Bool.Decides.{Decides-eqb}
use Rattle.std.proofs.lemmas.Slice.Eq.{strip_prefix_is, strip_suffix_is}
use Rattle.dav_text.proofs.TagLemmas.{opaque_from, inner_of_opaque}
use Rattle.dav_text.proofs.tag.is_opaque.Goals as goal

pub returns-in-Some-strip_suffix : goal.returns-in-Some-strip_suffix
returns-in-Some-strip_suffix c =
    let rest = c.in-Some.rest in
    let inner = c.in-Some-strip_suffix.inner in
    let first = strip_prefix_is Decides-eqb c.args.bytes.now (34 ∷ []) (Some rest) c.in-Some.ensures.cases in
    let last = strip_suffix_is Decides-eqb rest.now (34 ∷ []) (Some inner) c.in-Some-strip_suffix.ensures.cases in (
      λ all. opaque_from c.args.bytes.now rest.now inner.now first last (sym c.are_tag_bytes.ensures ∙ all),
      λ is. c.are_tag_bytes.ensures ∙ inner_of_opaque c.args.bytes.now rest.now inner.now first last is,
    )
