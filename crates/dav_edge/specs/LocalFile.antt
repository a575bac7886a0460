-- The files that were written one after another, by their names.
use Rattle.std.specs.Prelude.{ℕ, List, Bool, Option, Some, None, cond, bytes_eq, string_bytes, fold, option_map}
use Rattle.dav_edge.specs.Locals.{LocalFiles}
use Rattle.dav_edge.specs.declared.local_file.LocalFile.{LocalFile}

abbrev pub is_named : List ℕ → LocalFile → Bool
is_named name file = bytes_eq (string_bytes file.name) name

-- the last file of a name, once this one is written
abbrev pub last_with : List ℕ → Option LocalFile → LocalFile → Option LocalFile
last_with name before file = cond (is_named name file) (Some file) before

abbrev pub last_named : List LocalFile → List ℕ → Option LocalFile
last_named files name = fold (last_with name) None files

abbrev pub bytes_in : LocalFile → List ℕ
bytes_in file = file.bytes.items

-- what each name stands for: where several files have one name, the last counts
abbrev pub content_of : List LocalFile → LocalFiles
content_of files name = option_map bytes_in (last_named files name)
