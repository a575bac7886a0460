-- From rows and bodies to tables.
use Rattle.std.proofs.Common.{◌≡◌, inl, inr, ℕ, List, [], ◌∷◌, ◌++◌, Option, Result, Ok, Err, OnOk, sym, subst}
use Rattle.std.specs.Prelude.{IfErr}
use Rattle.dav_disk.specs.Disk.{Doubt}
use Rattle.dav_index.specs.Bounds.{bodies_of, IsWithin}
use Rattle.dav_index.specs.Tables.{fresh_table}
use Rattle.dav_index.specs.declared.record.Record.{Record}
use Rattle.dav_index.specs.declared.table.Table.{Table}
use Rattle.dav_recorder.specs.Stands.{EachImage, IsSafe, Stands, StandsEither}
use Rattle.dav_recorder.specs.Recovers.{Replays, rows_of, Recovers, RecoversEither, IsConsistent}
use Rattle.dav_recorder.specs.Due.{IsDue}
use Rattle.dav_recorder.proofs.StartLemmas.{replays_push, rows_push}

pub on_ok_then : {T E : Type 0} {P Q : Type 0} (r : Result T E) → OnOk r P → (P → Q) → OnOk r Q
on_ok_then (Ok v) p f = f p
on_ok_then (Err e) p f = tt

pub on_err_then : {T E : Type 0} {P Q : E → Type 0} (r : Result T E) → IfErr r P → ((e : E) → P e → Q e) → IfErr r Q
on_err_then (Ok v) p f = tt
on_err_then (Err e) p f = f e p

module _ {url : List ℕ} {before after : Table} {r : Record} {bodies : ℕ → List ℕ} {fresh : Option ℕ} {bytes row freed : List ℕ} (due : IsDue before after r bodies fresh bytes row freed)
    {end : ℕ} {seen : ℕ → List ℕ} {doubts : ℕ → Doubt} (is : IsConsistent url before bodies end seen doubts) where
  rows_after : rows_of url is.records ++ row ∷ [] ≡ rows_of url (is.records ++ r ∷ [])
  rows_after = rows_push url is.records r row due.row_is

  replays_after : Replays fresh_table (is.records ++ r ∷ []) after
  replays_after = subst (λ (t : Table). Replays fresh_table (is.records ++ r ∷ []) t) (sym due.after_is)
      (replays_push fresh_table is.records r before is.replays due.is_record (subst IsWithin due.after_is due.within))

  pub due_done : (end2 : ℕ) (seen2 : ℕ → List ℕ) (doubts2 : ℕ → Doubt) → IsSafe (rows_of url is.records ++ row ∷ []) (bodies_of after) bodies end2 seen2 doubts2 → IsConsistent url after bodies end2 seen2 doubts2
  due_done end2 seen2 doubts2 safe = record {
    records = is.records ++ r ∷ [];
    replays = replays_after;
    safe = subst (λ (l : List (List ℕ)). IsSafe l (bodies_of after) bodies end2 seen2 doubts2) rows_after safe;
  }

  before_stands : (image : ℕ → List ℕ) → Stands (rows_of url is.records) (bodies_of before) bodies image → Recovers url before bodies image
  before_stands image s = inr (record { records = is.records; replays = is.replays; stands = s })

  pub due_before : (past : ℕ → ℕ → Doubt) (from to : ℕ) → EachImage past from to (Stands (rows_of url is.records) (bodies_of before) bodies) → EachImage past from to (Recovers url before bodies)
  due_before past from to images k image lo hi left = before_stands image (images k image lo hi left)

  pub due_either : (past : ℕ → ℕ → Doubt) (from to : ℕ) → EachImage past from to (StandsEither (rows_of url is.records) (bodies_of before) (rows_of url is.records ++ row ∷ []) (bodies_of after) bodies) → EachImage past from to (RecoversEither url before after bodies)
  due_either past from to images k image lo hi left = elim (images k image lo hi left) [
    | inl s ↦ inl (before_stands image s)
    | inr s ↦ inr (inr (record { records = is.records ++ r ∷ []; replays = replays_after; stands = subst (λ (l : List (List ℕ)). Stands l (bodies_of after) bodies image) rows_after s }))
  ]
