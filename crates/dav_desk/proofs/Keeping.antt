-- The bodies that a deed leaves alone.
use Rattle.std.proofs.Common.{◌≡◌, inl, inr, ℕ, ◌<◌, ◌≤◌, Option, Some, None, refl, ◌∙◌, arith}
use Rattle.std.proofs.lemmas.List.Elements.{All-contains, All-from_recursion}
use Rattle.std.specs.List.{Contains}
use Rattle.dav_store.specs.declared.body_id.BodyId.{BodyId}
use Rattle.dav_index.specs.Bounds.{bodies_of}
use Rattle.dav_deeds.specs.DeskTable.{DeskTable}
use Rattle.dav_deeds.specs.Effects.{after, released_of}
use Rattle.dav_deeds.specs.Legal.{IsDeed, new_body}
use Rattle.dav_deeds.specs.Sound.{IsSound}
use Rattle.dav_deeds.specs.declared.deed.Deed.{Deed}
use Rattle.dav_deeds.proofs.AllRows.{new_file, spared}
use Rattle.dav_recorder.specs.Stands.{IsFile, IsWritten}
use Rattle.dav_desk.specs.Entry.{file_in}

next_of : (t : DeskTable) (deed : Deed) (f : ℕ) → IsDeed t deed → (new : Option BodyId) → new_body deed ≡ new → IsFile (file_in new) f → f ≡ t.index.next_file
next_of t deed f is None at there = absurd there
next_of t deed f is (Some id) at there = there ∙ new_file t deed id is at

pub kept_apart : (t : DeskTable) (now : ℕ) (deed : Deed) (body : BodyId) → IsSound t → IsDeed t deed → Contains (bodies_of t.index) body → Contains (bodies_of (after t now deed).index) body → IsWritten (file_in (new_body deed)) (released_of t now deed) body.file → ⊥
kept_apart t now deed body sound is before then (inl first) =
    let begins : 2 ≤ body.file = All-contains (λ (b : BodyId). 2 ≤ b.file) (bodies_of t.index) body (All-from_recursion (λ (b : BodyId). 2 ≤ b.file) (bodies_of t.index) sound.index.files_begin) before in
    absurd (omega (arith, begins, first))
kept_apart t now deed body sound is before then (inr (inl new)) =
    let below : body.file < t.index.next_file =
    All-contains (λ (b : BodyId). b.file < t.index.next_file) (bodies_of t.index) body (All-from_recursion (λ (b : BodyId). b.file < t.index.next_file) (bodies_of t.index) sound.index.files_known) before in
    let next : body.file ≡ t.index.next_file = next_of t deed body.file is (new_body deed) refl new in
    absurd (omega (arith, below, next))
kept_apart t now deed body sound is before then (inr (inr freed)) = (spared t sound now deed is body.file freed).0 body then refl
