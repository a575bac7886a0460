use Rattle.std.proofs.Common.{[], ◌∷◌, refl}
use Rattle.std.proofs.lemmas.Result.{err_from_is_err_and}
use Rattle.dav_index.specs.Records.{path_text, four_bytes}
use Rattle.dav_index.specs.Faults.{a_number, entry_path, a_byte}
use Rattle.dav_index.proofs.ReadingLemmas.{refused_at, first_refused, later_refused}
use Rattle.dav_index.proofs.read.read_lost.Goals as goal

pub returns-in_err-path : goal.returns-in_err-path
returns-in_err-path c =
    let p = err_from_is_err_and c.from_residual-in_err-path.result c.from_residual-in_err-path.ensures.1 in
    let f = c.in_err-path.field-0.0 in
    rw (p.1, p.2) (λ m.
    refused_at (a_number ∷ entry_path ∷ a_byte 1 ∷ []) c.args.rest.now c.new-reader.result f c.new-reader.ensures
    (later_refused a_number (entry_path ∷ a_byte 1 ∷ []) (four_bytes c.in_ok-number.number) c.new-reader.result c.number.new.self f (c.in_ok-number.number, c.in_ok-number.ensures.0, refl) c.in_ok-number.ensures.1
    (first_refused entry_path (a_byte 1 ∷ []) c.number.new.self f (c.in_err-path.ensures m))))

pub returns-in_err-stays : goal.returns-in_err-stays
returns-in_err-stays c =
    let p = err_from_is_err_and c.from_residual-in_err-stays.result c.from_residual-in_err-stays.ensures.1 in
    let f = c.in_err-stays.field-0.0 in
    rw (p.1, p.2) (λ m.
    refused_at (a_number ∷ entry_path ∷ a_byte 1 ∷ []) c.args.rest.now c.new-reader.result f c.new-reader.ensures
    (later_refused a_number (entry_path ∷ a_byte 1 ∷ []) (four_bytes c.in_ok-number.number) c.new-reader.result c.number.new.self f (c.in_ok-number.number, c.in_ok-number.ensures.0, refl) c.in_ok-number.ensures.1
    (later_refused entry_path (a_byte 1 ∷ []) (path_text c.in_ok-path.path) c.number.new.self c.entry_path.new.self f (c.in_ok-path.path, c.in_ok-path.ensures.0, refl) c.in_ok-path.ensures.1
    (first_refused (a_byte 1) ([]) c.entry_path.new.self f (c.in_err-stays.ensures m)))))

pub returns-in_err-end : goal.returns-in_err-end
returns-in_err-end c =
    let p = err_from_is_err_and c.from_residual-in_err-end.result c.from_residual-in_err-end.ensures.1 in
    let f = c.in_err-end.field-0.0 in
    rw (p.1, p.2) (λ m.
    refused_at (a_number ∷ entry_path ∷ a_byte 1 ∷ []) c.args.rest.now c.new-reader.result f c.new-reader.ensures
    (later_refused a_number (entry_path ∷ a_byte 1 ∷ []) (four_bytes c.in_ok-number.number) c.new-reader.result c.number.new.self f (c.in_ok-number.number, c.in_ok-number.ensures.0, refl) c.in_ok-number.ensures.1
    (later_refused entry_path (a_byte 1 ∷ []) (path_text c.in_ok-path.path) c.number.new.self c.entry_path.new.self f (c.in_ok-path.path, c.in_ok-path.ensures.0, refl) c.in_ok-path.ensures.1
    (later_refused (a_byte 1) ([]) (c.in_ok-stays.stays ∷ []) c.entry_path.new.self c.byte.new.self f (c.in_ok-stays.stays, c.in_ok-stays.ensures.0, refl) c.in_ok-stays.ensures.1
    c.in_err-end.ensures))))
