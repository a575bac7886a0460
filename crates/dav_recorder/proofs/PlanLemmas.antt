-- That the steps of a desk are planned.
use Rattle.std.proofs.Common.{◌≡◌, inl, inr, ℕ, ◌<◌, List, Option, Some, None, refl, sym, ◌∙◌, ap, subst, arith}
use Rattle.std.proofs.lemmas.List.Elements.{All-contains, All-from_recursion}
use Rattle.std.specs.List.{Contains}
use Rattle.dav_store.specs.Body.{id_of}
use Rattle.dav_store.specs.declared.body_id.BodyId.{BodyId}
use Rattle.dav_index.specs.Bounds.{bodies_of, IsWithin}
use Rattle.dav_index.specs.Records.{text_of}
use Rattle.dav_index.specs.declared.record.Record.{Record}
use Rattle.dav_index.specs.declared.table.Table.{Table}
use Rattle.dav_deeds.specs.DeskTable.{DeskTable}
use Rattle.dav_deeds.specs.Effects.{after, record_of, released_of}
use Rattle.dav_deeds.specs.Legal.{IsLegal, IsDeed, new_body}
use Rattle.dav_deeds.specs.Sound.{IsSound}
use Rattle.dav_deeds.specs.declared.deed.Deed.{Deed}
use Rattle.dav_deeds.specs.declared.deed.Step.{Step}
use Rattle.dav_deeds.proofs.AllRows.{after_sound, is_record, named, new_file, spared}
use Rattle.dav_deeds.proofs.Resting.{rest_within, rest_bodies}
use Rattle.dav_recorder.specs.Stands.{IsFile, Spares, IsCommit}
use Rattle.dav_recorder.specs.Planned.{kept_table, IsPlanned, IsQuiet, HasNew}
use Rattle.dav_recorder.proofs.LiveLemmas.{kept_after, kept_quiet}

given_of : (new : Option BodyId) (bodies : ℕ → List ℕ) (fresh : Option ℕ) (bytes : List ℕ) → HasNew new bodies fresh bytes → (f : ℕ) → IsFile fresh f → bodies f ≡ bytes
given_of None bodies fresh bytes has f is = absurd (subst (λ (o : Option ℕ). IsFile o f) has is)
given_of (Some id) bodies fresh bytes has f is = let same : f ≡ id.file = subst (λ (o : Option ℕ). IsFile o f) has.0 is in ap bodies same ∙ has.2

fresh_of : (t : DeskTable) (deed : Deed) (new : Option BodyId) → new_body deed ≡ new → IsDeed t deed → (bodies : ℕ → List ℕ) (fresh : Option ℕ) (bytes : List ℕ) → HasNew new bodies fresh bytes → (f : ℕ) → IsFile fresh f → f ≡ t.index.next_file
fresh_of t deed None at is bodies fresh bytes has f in_file = absurd (subst (λ (o : Option ℕ). IsFile o f) has in_file)
fresh_of t deed (Some id) at is bodies fresh bytes has f in_file = let same : f ≡ id.file = subst (λ (o : Option ℕ). IsFile o f) has.0 in_file in same ∙ new_file t deed id is at

named_of : (new : Option BodyId) (id : BodyId) (bodies : ℕ → List ℕ) (fresh : Option ℕ) (bytes : List ℕ) → HasNew new bodies fresh bytes → new ≡ Some id → IsFile fresh id.file × (id ≡ id_of id.file bytes)
named_of None id bodies fresh bytes has new = cc new
named_of (Some body) id bodies fresh bytes has new =
    let same : body ≡ id = cc new in
    let both = subst (λ (b : BodyId). (fresh ≡ Some b.file) × (b ≡ id_of b.file bytes)) same (has.0, has.1) in
    (subst (λ (o : Option ℕ). IsFile o id.file) (sym both.0) refl, both.1)

module _ (t : DeskTable) (s : Step) (sound : IsSound t) (legal : IsLegal t s) where
  bodies_after : (id : BodyId) → Contains (bodies_of (kept_table (after t s.now s.deed))) id → Contains (bodies_of (after t s.now s.deed).index) id
  bodies_after id there = subst (λ (l : List BodyId). Contains l id) (rest_bodies (after t s.now s.deed).index) there

  spared_after : Spares (released_of t s.now s.deed) (bodies_of (kept_table (after t s.now s.deed)))
  spared_after id there freed = (spared t sound s.now s.deed legal.deed id.file freed).0 id (bodies_after id there) refl

  pub step_quiet : record_of t s.now s.deed ≡ None → IsQuiet t s (released_of t s.now s.deed)
  step_quiet none = record { record_is = none; spared = subst (λ (k : Table). Spares (released_of t s.now s.deed) (bodies_of k)) (kept_quiet t s none) spared_after }

  pub step_planned : (r : Record) (bodies : ℕ → List ℕ) (fresh : Option ℕ) (bytes : List ℕ) → record_of t s.now s.deed ≡ Some r → HasNew (new_body s.deed) bodies fresh bytes → IsPlanned t s bodies fresh bytes (text_of r) (released_of t s.now s.deed)
  step_planned r bodies fresh bytes on_record has =
      let deed = s.deed in
      let kept = kept_after t s r on_record in
      let commit : IsCommit (bodies_of (kept_table t)) (bodies_of (kept_table (after t s.now deed))) bodies fresh bytes (released_of t s.now deed) = record {
        adding = record {
          given = given_of (new_body deed) bodies fresh bytes has;
          apart = λ id there in_file.
              let below : id.file < t.index.next_file = All-contains (λ (b : BodyId). b.file < t.index.next_file) (bodies_of t.index) id
              (All-from_recursion (λ (b : BodyId). b.file < t.index.next_file) (bodies_of t.index) sound.index.files_known)
              (subst (λ (l : List BodyId). Contains l id) (rest_bodies t.index) there) in
              let next = fresh_of t deed (new_body deed) refl legal.deed bodies fresh bytes has id.file in_file in
              absurd (omega (arith, below, next));
          named = λ id there. elim (named t sound s.now deed legal.deed id (bodies_after id there)) [
            | inl old ↦ inl (subst (λ (l : List BodyId). Contains l id) (sym (rest_bodies t.index)) old)
            | inr new ↦ inr (named_of (new_body deed) id bodies fresh bytes has new)
          ];
        };
        spared = spared_after;
      } in
      record {
        r = r;
        record_is = on_record;
        due = record {
          row_is = refl;
          is_record = is_record t sound s.now deed r legal.deed on_record;
          after_is = refl;
          within = subst IsWithin kept (rest_within (after t s.now deed).index (after_sound t sound s.now deed legal.deed).index);
          bodies_are = subst (λ (k : Table). IsCommit (bodies_of (kept_table t)) (bodies_of k) bodies fresh bytes (released_of t s.now deed)) kept commit;
        };
      }
