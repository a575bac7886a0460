use Rattle.std.proofs.Common.{rules}
use Rattle.dav_run.proofs.line.file_word.Goals as goal
use Rattle.dav_text.proofs.TypedPath.{typed_is_path}

pub returns-in-Ok : goal.returns-in-Ok
returns-in-Ok c = (
  record { utf8 = c.utf8.word; bare = search rules; typed = c.in-Ok.ensures; file = search rules },
  typed_is_path c.args.current.now c.args.word.now c.in-Ok.path c.requires c.utf8.word c.in-Ok.ensures,
)
