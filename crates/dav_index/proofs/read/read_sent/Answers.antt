use Rattle.std.proofs.Common.{[], ◌∷◌, refl}
use Rattle.std.proofs.lemmas.Result.{err_from_is_err_and}
use Rattle.dav_index.specs.Records.{path_text, four_bytes, seen_text}
use Rattle.dav_index.specs.Faults.{entry_path, a_number, a_seen}
use Rattle.dav_index.proofs.ReadingLemmas.{refused_at, first_refused, later_refused}
use Rattle.dav_index.proofs.read.read_sent.Goals as goal

pub returns-in_err-file : goal.returns-in_err-file
returns-in_err-file c =
    let p = err_from_is_err_and c.from_residual-in_err-file.result c.from_residual-in_err-file.ensures.1 in
    let f = c.in_err-file.field-0.0 in
    rw (p.1, p.2) (λ m.
    refused_at (entry_path ∷ a_number ∷ a_seen ∷ []) c.args.rest.now c.new-reader.result f c.new-reader.ensures
    (later_refused entry_path (a_number ∷ a_seen ∷ []) (path_text c.in_ok-path.path) c.new-reader.result c.entry_path.new.self f (c.in_ok-path.path, c.in_ok-path.ensures.0, refl) c.in_ok-path.ensures.1
    (first_refused a_number (a_seen ∷ []) c.entry_path.new.self f (c.in_err-file.ensures m))))

pub returns-in_err-seen : goal.returns-in_err-seen
returns-in_err-seen c =
    let p = err_from_is_err_and c.from_residual-in_err-seen.result c.from_residual-in_err-seen.ensures.1 in
    let f = c.in_err-seen.field-0.0 in
    rw (p.1, p.2) (λ m.
    refused_at (entry_path ∷ a_number ∷ a_seen ∷ []) c.args.rest.now c.new-reader.result f c.new-reader.ensures
    (later_refused entry_path (a_number ∷ a_seen ∷ []) (path_text c.in_ok-path.path) c.new-reader.result c.entry_path.new.self f (c.in_ok-path.path, c.in_ok-path.ensures.0, refl) c.in_ok-path.ensures.1
    (later_refused a_number (a_seen ∷ []) (four_bytes c.in_ok-file.file) c.entry_path.new.self c.number.new.self f (c.in_ok-file.file, c.in_ok-file.ensures.0, refl) c.in_ok-file.ensures.1
    (first_refused a_seen ([]) c.number.new.self f (c.in_err-seen.ensures m)))))

pub returns-in_err-end : goal.returns-in_err-end
returns-in_err-end c =
    let p = err_from_is_err_and c.from_residual-in_err-end.result c.from_residual-in_err-end.ensures.1 in
    let f = c.in_err-end.field-0.0 in
    rw (p.1, p.2) (λ m.
    refused_at (entry_path ∷ a_number ∷ a_seen ∷ []) c.args.rest.now c.new-reader.result f c.new-reader.ensures
    (later_refused entry_path (a_number ∷ a_seen ∷ []) (path_text c.in_ok-path.path) c.new-reader.result c.entry_path.new.self f (c.in_ok-path.path, c.in_ok-path.ensures.0, refl) c.in_ok-path.ensures.1
    (later_refused a_number (a_seen ∷ []) (four_bytes c.in_ok-file.file) c.entry_path.new.self c.number.new.self f (c.in_ok-file.file, c.in_ok-file.ensures.0, refl) c.in_ok-file.ensures.1
    (later_refused a_seen ([]) (seen_text c.in_ok-seen.seen) c.number.new.self c.seen.new.self f (c.in_ok-seen.seen, c.in_ok-seen.ensures.0, refl) c.in_ok-seen.ensures.1
    c.in_err-end.ensures))))
