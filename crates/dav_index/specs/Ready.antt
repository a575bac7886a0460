-- The memory that the replay of a record needs.
use Rattle.std.specs.Prelude.{◌≡◌, ℕ, ◌<◌, [], length, Option, Some, None}
use Rattle.std.specs.Vec.{vec_capacity}
use Rattle.dav_text.specs.Path.{PathParts}
use Rattle.dav_store.specs.declared.body_id.BodyId.{BodyId}
use Rattle.dav_index.specs.Items.{key_of, entry_at}
use Rattle.dav_index.specs.Tables.{queued_at}
use Rattle.dav_index.specs.declared.entry.Entry.{Entry}
use Rattle.dav_index.specs.declared.fresh.Fresh.{Fresh}
use Rattle.dav_index.specs.declared.fresh.Loss.{Loss}
use Rattle.dav_index.specs.declared.fresh.Prepared.{Prepared}
use Rattle.dav_index.specs.declared.record.Record.{Record}
use Rattle.dav_index.specs.declared.record.Record.TheVariants.{Forgot, Closed, Sent, Lost, Dropped}
use Rattle.dav_index.specs.declared.table.Table.{Table}

-- a copy of the path and its text, and room for one entry more than there are
pub record IsFresh (path : PathParts) (count : ℕ) (fresh : Fresh) : Type 0 where
  pub path_is : fresh.path ≡ path
  pub key_is : fresh.key ≡ key_of path
  pub empty : fresh.space.items ≡ []
  pub room : count < vec_capacity fresh.space

abbrev pub HasFresh : PathParts → ℕ → Option Fresh → Type 0
HasFresh path count None = ⊥
HasFresh path count (Some fresh) = IsFresh path count fresh

-- a path that has no entry needs a fresh one
abbrev pub NeedsFresh : PathParts → ℕ → Option Entry → Option Fresh → Type 0
NeedsFresh path count None fresh = HasFresh path count fresh
NeedsFresh path count (Some entry) fresh = Unit {0}

-- a copy of the path, and room for the bytes of one more number than there are
pub record IsLoss (path : PathParts) (count : ℕ) (loss : Loss) : Type 0 where
  pub path_is : loss.path ≡ path
  pub empty : loss.space.items ≡ []
  pub room : count < vec_capacity loss.space

abbrev pub HasLoss : PathParts → ℕ → Option Loss → Type 0
HasLoss path count None = ⊥
HasLoss path count (Some loss) = IsLoss path count loss

abbrev pub NeedsLoss : PathParts → ℕ → Option BodyId → Option Loss → Type 0
NeedsLoss path count None loss = Unit {0}
NeedsLoss path count (Some body) loss = HasLoss path count loss

-- all that the replay of the record needs is there
abbrev pub IsReady : Table → Record → Prepared → Type 0
IsReady t (Forgot path locks below) prepared = Unit {0}
IsReady t (Closed path body) prepared = NeedsFresh path (length t.entries) (entry_at path t.entries) prepared.fresh
IsReady t (Sent path file seen) prepared = Unit {0}
IsReady t (Lost number path stays) prepared = NeedsLoss path (length t.lost) (queued_at path t.entries) prepared.loss
IsReady t (Dropped number) prepared = Unit {0}
