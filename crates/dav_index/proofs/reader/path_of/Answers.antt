use Rattle.std.proofs.Common.{◌++◌, sym, ap, ◌∙◌}
use Rattle.std.proofs.lemmas.Bool.{false≢true}
use Rattle.dav_text.specs.Path.{escaped}
use Rattle.dav_text.specs.Reading.{path_of}
use Rattle.dav_text.proofs.RoundTrip.{read_path}
use Rattle.dav_index.proofs.PathTexts.{utf8_of, no_path, one_path, same_bytes, other_bytes}
use Rattle.dav_index.proofs.reader.path_of.Goals as goal

pub returns-in_default : goal.returns-in_default
returns-in_default c = λ path is e. c.in_default.ensures.cases.0 (utf8_of path c.args.text.now e)

pub returns-in-Err : goal.returns-in-Err
returns-in-Err c =
    no_path c.in-Err.fault c.args.text.now
    (ap path_of (sym c.in-Ok.ensures.cases.0) ∙ c.in-Err.ensures (λ e. false≢true (sym c.if-is_memory.false ∙ c.is_memory.ensures.1 e)))

pub returns-then-eq : goal.returns-then-eq
returns-then-eq c = (
  read_path c.in-Ok.name.now c.in-Ok-read.path c.in-Ok-read.ensures,
  sym (c.as_slice.ensures.value ∙ c.in_ok-escaped_into.ensures.ok ∙ ap (λ xs. xs ++ escaped c.in-Ok-read.path) c.new-written.ensures.items)
      ∙ same_bytes c.as_slice.result.now c.args.text.now (sym c.eq.ensures ∙ c.if-eq.true),
)

pub returns-else-eq : goal.returns-else-eq
returns-else-eq c =
    λ path is e.
    let written = c.as_slice.ensures.value ∙ c.in_ok-escaped_into.ensures.ok ∙ ap (λ xs. xs ++ escaped c.in-Ok-read.path) c.new-written.ensures.items in
    let read = ap path_of (sym c.in-Ok.ensures.cases.0) ∙ c.in-Ok-read.ensures in
    other_bytes c.as_slice.result.now c.args.text.now (sym c.eq.ensures ∙ c.if-eq.false) (written ∙ ap escaped (one_path c.in-Ok-read.path path c.args.text.now read is e) ∙ e)
