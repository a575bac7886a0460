use Rattle.std.proofs.Common.{◌≡◌, take}
use Rattle.std.specs.Option.{option_copied}
use Rattle.dav_edge.specs.LocalFile.{last_named}
use Rattle.dav_edge.proofs.local_file.last_named.Given as goal

abbrev pub invariant-loop-file : goal.invariant-loop-file
invariant-loop-file l = option_copied l.last ≡ last_named (take l.file-index l.files) l.name
