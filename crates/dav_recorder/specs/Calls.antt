-- How many device calls a step makes, and which step is under way where the disk failed in them.
use Rattle.std.specs.Prelude.{◌≡◌, ◌≢◌, ◌⊎◌, ℕ, ◌+◌, ◌*◌, ◌≤◌, List, length, Option, Some, None}
use Rattle.dav_disk.specs.Disk.{Doubt}
use Rattle.dav_deeds.specs.declared.deed.Step.{Step}
use Rattle.dav_recorder.specs.Files.{ChangesOnly, IsStored}
use Rattle.dav_recorder.specs.Stands.{IsFile}

-- those that store a new body, if there is one: a cut, a write and a sync
abbrev pub body_calls : Option ℕ → ℕ
body_calls None = 0
body_calls (Some file) = 3

-- those that empty files: a cut and a sync of each
abbrev pub freeing_calls : List ℕ → ℕ
freeing_calls freed = 2 * length freed

-- those of a step with a record: two writes and two syncs lie between the new body and the files that are emptied
abbrev pub entry_calls : Option ℕ → List ℕ → ℕ
entry_calls fresh freed = body_calls fresh + (4 + freeing_calls freed)

module _ {D : Type 0} (honest : D → Type 0) (moment : D → ℕ) (seen : D → ℕ → List ℕ) (past : D → ℕ → ℕ → Doubt) where
  -- The disk failed in one of the calls that store the new body. Nothing else was changed.
  pub record IsUnbegun (fresh : Option ℕ) (old new : D) : Type 0 where
    pub has_body : fresh ≢ None
    pub early : moment new ≤ moment old + body_calls fresh
    pub changes : honest new → ChangesOnly moment seen past (IsFile fresh) old new

  -- It failed once the writing of the record had begun, behind all these calls: the new body, if there is one, is in its file, and stays.
  pub record IsBegun (fresh : Option ℕ) (bytes freed : List ℕ) (old new : D) : Type 0 where
    pub late : moment old + body_calls fresh ≤ moment new
    pub stored : honest new → IsStored fresh bytes freed (seen new) (past new (moment new))

  -- the step under way is the one from before where the record wasn't begun, and this step where it was
  abbrev pub IsUnder : Option ℕ → List ℕ → List ℕ → Step → D → D → Option Step → Option Step → Type 0
  IsUnder fresh bytes freed step old new under under_now =
      (IsUnbegun fresh old new × (under_now ≡ under)) ⊎ (IsBegun fresh bytes freed old new × (under_now ≡ Some (record step { moment = moment new })))
