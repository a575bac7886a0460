-- What a file that is written behind others makes of what the names stand for.
use Rattle.std.proofs.Common.{◌≡◌, ◌≢◌, ℕ, List, [], ◌∷◌, ◌++◌, Bool, true, false, Some, None, cond, string_bytes, option_map, sym, ap, ◌∙◌}
use Rattle.std.proofs.lemmas.Bool.{false_from_ne_true}
use Rattle.std.proofs.lemmas.List.Sums.{fold-append}
use Rattle.std.proofs.lemmas.Slice.Eq.{bytes_eq-Decides}
use Rattle.dav_edge.specs.LocalFile.{is_named, last_with, last_named, bytes_in, content_of}
use Rattle.dav_edge.specs.declared.local_file.LocalFile.{LocalFile}

put_by : (files : List LocalFile) (file : LocalFile) (name : List ℕ) (test : Bool) → is_named name file ≡ test
    → content_of (files ++ file ∷ []) name ≡ option_map bytes_in (cond test (Some file) (last_named files name))
put_by files file name test is =
    ap (option_map bytes_in) (fold-append (last_with name) None files (file ∷ []))
    ∙ ap (λ (b : Bool). option_map bytes_in (cond b (Some file) (last_named files name))) is

pub put_holds : (files : List LocalFile) (file : LocalFile) (name : List ℕ) → string_bytes file.name ≡ name
    → content_of (files ++ file ∷ []) name ≡ Some (bytes_in file)
put_holds files file name same = put_by files file name true ((bytes_eq-Decides (string_bytes file.name) name).1 same)

pub put_keeps : (files : List LocalFile) (file : LocalFile) (name other : List ℕ) → string_bytes file.name ≡ name → other ≢ name
    → content_of (files ++ file ∷ []) other ≡ content_of files other
put_keeps files file name other same differs =
    put_by files file other false
    (false_from_ne_true (is_named other file) (λ (e : is_named other file ≡ true). differs (sym ((bytes_eq-Decides (string_bytes file.name) other).0 e) ∙ same)))
