-- What contracts see of a journal.
use Rattle.std.specs.Prelude.{ℕ, List}
use Rattle.dav_store.specs.declared.journal.Journal.{Journal}

-- the offset of the next row's gate
abbrev pub journal_end : Journal → ℕ
journal_end j = j.end

abbrev pub journal_rows : Journal → ℕ
journal_rows j = j.rows

-- the payload of the head row
abbrev pub journal_head : Journal → List ℕ
journal_head j = j.head
