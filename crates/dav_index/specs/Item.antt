-- An entry with its path.
use Rattle.dav_text.specs.Path.{PathParts}
use Rattle.dav_index.specs.declared.entry.Entry.{Entry}

pub record Item : Type 0 where
  pub path : PathParts
  pub entry : Entry
