use Rattle.std.proofs.Common.{[], ◌∷◌, refl}
use Rattle.std.proofs.lemmas.Result.{err_from_is_err_and}
use Rattle.dav_index.specs.Records.{path_text}
use Rattle.dav_index.specs.Faults.{named_path, a_byte}
use Rattle.dav_index.proofs.ReadingLemmas.{refused_at, first_refused, later_refused}
use Rattle.dav_index.proofs.read.read_forgot.Goals as goal

pub returns-in_err-flags : goal.returns-in_err-flags
returns-in_err-flags c =
    let p = err_from_is_err_and c.from_residual-in_err-flags.result c.from_residual-in_err-flags.ensures.1 in
    let f = c.in_err-flags.field-0.0 in
    rw (p.1, p.2) (λ m.
    refused_at (named_path ∷ a_byte 3 ∷ []) c.args.rest.now c.new-reader.result f c.new-reader.ensures
    (later_refused named_path (a_byte 3 ∷ []) (path_text c.in_ok-path.path) c.new-reader.result c.named_path.new.self f (c.in_ok-path.path, c.in_ok-path.ensures.0, refl) c.in_ok-path.ensures.1
    (first_refused (a_byte 3) ([]) c.named_path.new.self f (c.in_err-flags.ensures m))))

pub returns-in_err-end : goal.returns-in_err-end
returns-in_err-end c =
    let p = err_from_is_err_and c.from_residual-in_err-end.result c.from_residual-in_err-end.ensures.1 in
    let f = c.in_err-end.field-0.0 in
    rw (p.1, p.2) (λ m.
    refused_at (named_path ∷ a_byte 3 ∷ []) c.args.rest.now c.new-reader.result f c.new-reader.ensures
    (later_refused named_path (a_byte 3 ∷ []) (path_text c.in_ok-path.path) c.new-reader.result c.named_path.new.self f (c.in_ok-path.path, c.in_ok-path.ensures.0, refl) c.in_ok-path.ensures.1
    (later_refused (a_byte 3) ([]) (c.in_ok-flags.flags ∷ []) c.named_path.new.self c.byte.new.self f (c.in_ok-flags.flags, c.in_ok-flags.ensures.0, refl) c.in_ok-flags.ensures.1
    c.in_err-end.ensures)))
