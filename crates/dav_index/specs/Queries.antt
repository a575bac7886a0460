-- What is looked for among the entries of a table.
use Rattle.std.specs.Prelude.{ℕ, Bool, false, true, not, ◌&&◌, ◌||◌, ◌==◌, nat_lt, nat_le, List, fold, find, Option, Some, None, if◌then◌else◌}
use Rattle.dav_text.specs.Path.{PathParts}
use Rattle.dav_store.specs.declared.body_id.BodyId.{BodyId}
use Rattle.dav_index.specs.Item.{Item}
use Rattle.dav_index.specs.Items.{goes_with}
use Rattle.dav_index.specs.Bounds.{is_queued}
use Rattle.dav_index.specs.declared.entry.Waiting.{Waiting}

-- the first queued entry of the path or below it, by the texts of paths
abbrev pub first_queued : PathParts → List Item → Option Item
first_queued path items = find (λ item. is_queued item && goes_with path true item) items

-- whether it is better than the best so far to be forgotten for another: it is not queued and was written longer ago
abbrev pub is_older : Option Item → Item → Bool
is_older None item = not (is_queued item)
is_older (Some best) item = not (is_queued item) && nat_lt item.entry.age best.entry.age

abbrev pub older : Option Item → Item → Option Item
older best item = if is_older best item then Some item else best

-- the entry that is not queued of least age, and of those the first by its path's text
abbrev pub oldest_clean : List Item → Option Item
oldest_clean items = fold older None items

-- whether the bytes wait no longer: their moment has come, or all is to be tried once before a stop
abbrev pub is_due : ℕ → Bool → Option Waiting → Bool
is_due now stopping None = false
is_due now stopping (Some waiting) = nat_le waiting.due now || (stopping && not waiting.tried)

abbrev pub due_of : Option Waiting → ℕ
due_of None = 0
due_of (Some waiting) = waiting.due

abbrev pub file_of : Option BodyId → ℕ
file_of None = 0
file_of (Some body) = body.file

-- whether the one is to be sent before the other: it is due earlier, or then as well and has the smaller file number
abbrev pub is_sooner : Item → Item → Bool
is_sooner item best =
    nat_lt (due_of item.entry.queued) (due_of best.entry.queued)
    || ((due_of item.entry.queued == due_of best.entry.queued) && nat_lt (file_of item.entry.body) (file_of best.entry.body))

abbrev pub is_next : ℕ → Bool → Option Item → Item → Bool
is_next now stopping None item = is_due now stopping item.entry.queued
is_next now stopping (Some best) item = is_due now stopping item.entry.queued && is_sooner item best

abbrev pub sooner : ℕ → Bool → Option Item → Item → Option Item
sooner now stopping best item = if is_next now stopping best item then Some item else best

-- the entry that is to be sent next: of those that are due the one of least moment, then of least file number
abbrev pub next_due : ℕ → Bool → List Item → Option Item
next_due now stopping items = fold (sooner now stopping) None items
