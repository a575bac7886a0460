-- Rows and bodies while device calls go on.
use Rattle.std.proofs.Common.{◌≡◌, inl, inr, ℕ, ◌<◌, ◌≤◌, List, [], ◌∷◌, ◌++◌, length, get_or, take, Option, Some, None, sym, ◌∙◌, ap, subst, arith}
use Rattle.std.proofs.lemmas.List.{take_all}
use Rattle.std.proofs.lemmas.Bool.{cases_lt}
use Rattle.std.proofs.lemmas.List.Elements.{Contains-get_or}
use Rattle.std.specs.List.{Contains, All}
use Rattle.dav_disk.specs.Disk.{Doubt, IsOutcome, IsImage, settled, Touches, LeavesOnly}
use Rattle.dav_disk.proofs.Outcomes.{settled_is}
use Rattle.dav_disk.proofs.Stretch.{touches_join, touches_wider}
use Rattle.dav_store.specs.Body.{id_of}
use Rattle.dav_store.specs.Rows.{Spells, IsAtRest, IsReady, IsBeforeOrAfter}
use Rattle.dav_store.specs.declared.body_id.BodyId.{BodyId}
use Rattle.dav_recorder.specs.Stands.{EachBody, IsIn, IsHeld, Stands, IsSafe, EachImage, StandsEither, IsFile, IsAdding, Spares}

-- a stretch of calls behind another
pub images_join : {from mid to : ℕ} {a b : ℕ → ℕ → Doubt} (P : (ℕ → List ℕ) → Type 0) → EachImage a from mid P → ((k f : ℕ) → k ≤ mid → b k f ≡ a k f) → EachImage b mid to P → EachImage b from to P
images_join {from} {mid} {to} {a} {b} P first before second k image lo hi left = elim (cases_lt mid k) [
  | inl past_mid ↦ second k image (omega arith) hi left
  | inr le ↦ first k image lo le (λ f. subst (λ (d : Doubt). IsOutcome d (image f)) (before k f le) (left f))
]

-- a stretch that changes nothing
pub images_quiet : {from mid to : ℕ} {a b : ℕ → ℕ → Doubt} (P : (ℕ → List ℕ) → Type 0) → from ≤ mid → EachImage a from mid P → Touches (λ _. ⊥) mid to a b → EachImage b from to P
images_quiet {from} {mid} {to} {a} {b} P start first quiet = images_join P first quiet.before
    (λ k image lo hi left. first mid image start (omega arith) (λ f. subst (λ (d : Doubt). IsOutcome d (image f)) (quiet.others k f lo hi (λ never. never)) (left f)))

pub rest_moves : {rows : List (List ℕ)} {end : ℕ} {s t : List ℕ} {d e : Doubt} → IsAtRest rows end s d → t ≡ s → e ≡ d → IsAtRest rows end t e
rest_moves r seen doubt = record { front = r.front; rest = r.rest; open_rows = r.open_rows; split = seen ∙ r.split; size = r.size; durable = doubt ∙ r.durable ∙ ap settled (sym seen) }

pub rest_spells : {rows : List (List ℕ)} {end : ℕ} {s : List ℕ} {d : Doubt} → IsAtRest rows end s d → (c : List ℕ) → IsOutcome d c → Spells rows c
rest_spells r c left = record { front = r.front; rest = r.rest; open_rows = r.open_rows; split = settled_is r.durable c left ∙ r.split }

held_moves : {bodies : ℕ → List ℕ} {old new : ℕ → Doubt} {id : BodyId} → IsHeld bodies old id → new id.file ≡ old id.file → IsHeld bodies new id
held_moves held same = record { is_body = held.is_body; apart = held.apart; begins = λ c left. held.begins c (subst (λ (d : Doubt). IsOutcome d c) same left) }

in_image : (holds : List BodyId) (bodies : ℕ → List ℕ) (doubts : ℕ → Doubt) (image : ℕ → List ℕ) → EachBody holds (IsHeld bodies doubts) → IsImage doubts image → EachBody holds (IsIn bodies image)
in_image holds bodies doubts image kept left id named = let held = kept id named in (held.is_body, held.begins (image id.file) (left id.file))

pub safe_stands : {rows : List (List ℕ)} {holds : List BodyId} {bodies : ℕ → List ℕ} {end : ℕ} {seen : ℕ → List ℕ} {doubts : ℕ → Doubt} → IsSafe rows holds bodies end seen doubts → (image : ℕ → List ℕ) → IsImage doubts image → Stands rows holds bodies image
safe_stands {rows} {holds} {bodies} {end} {seen} {doubts} is image left = record { index = rest_spells is.index (image 0) (left 0); kept = in_image holds bodies doubts image is.kept left }

-- a new body that is settled is held
new_held : (bodies : ℕ → List ℕ) (bytes : List ℕ) (doubts : ℕ → Doubt) (id : BodyId) → id ≡ id_of id.file bytes → bodies id.file ≡ bytes → 2 ≤ id.file → doubts id.file ≡ settled bytes → IsHeld bodies doubts id
new_held bodies bytes doubts id is given apart durable = record {
  is_body = is ∙ ap (λ (l : List ℕ). id_of id.file l) (sym given);
  apart = apart;
  begins = λ c left. let long : id.len ≡ length bytes = ap (λ (i : BodyId). i.len) is in
      ap (λ (l : List ℕ). take id.len l) (settled_is durable c left) ∙ take_all id.len bytes (omega (arith, long)) ∙ sym given;
}

pub adds_held : {holds holds_after : List BodyId} {bodies : ℕ → List ℕ} {fresh : Option ℕ} {bytes : List ℕ} → IsAdding holds holds_after bodies fresh bytes → (doubts : ℕ → Doubt) → ((f : ℕ) → IsFile fresh f → (2 ≤ f) × (doubts f ≡ settled bytes))
    → EachBody holds (IsHeld bodies doubts) → EachBody holds_after (IsHeld bodies doubts)
adds_held {holds} {holds_after} {bodies} {fresh} {bytes} adding doubts there kept id named = elim (adding.named id named) [
  | inl old ↦ kept id old
  | inr new ↦ new_held bodies bytes doubts id new.1 (adding.given id.file new.0) (there id.file new.0).0 (there id.file new.0).1
]

-- a stretch that touches no file of a body
module _ {F : ℕ → Type 0} {from to : ℕ} {old new : ℕ → ℕ → Doubt} (touches : Touches F from to old new) (holds : List BodyId) (bodies : ℕ → List ℕ)
    (away : EachBody holds (λ id. F id.file → ⊥)) (kept : EachBody holds (IsHeld bodies (old from))) where
  pub kept_stay : (k : ℕ) → from ≤ k → k ≤ to → EachBody holds (IsHeld bodies (new k))
  kept_stay k lo hi id named = held_moves (kept id named) (touches.others k id.file lo hi (away id named))

  -- nor the index
  module _ (rows : List (List ℕ)) (end : ℕ) (seen : ℕ → List ℕ) (index : IsAtRest rows end (seen 0) (old from 0)) (apart : F 0 → ⊥) where
    pub stands_still : EachImage new from to (Stands rows holds bodies)
    stands_still k image lo hi left = record {
      index = rest_spells index (image 0) (subst (λ (d : Doubt). IsOutcome d (image 0)) (touches.others k 0 lo hi apart) (left 0));
      kept = in_image holds bodies (new k) image (kept_stay k lo hi) left;
    }

    pub index_still : (now : ℕ → List ℕ) → now 0 ≡ seen 0 → IsAtRest rows end (now 0) (new to 0)
    index_still now same = rest_moves index same (touches.others to 0 touches.later (omega arith) apart)

    pub safe_still : (now : ℕ → List ℕ) → now 0 ≡ seen 0 → IsSafe rows holds bodies end now (new to)
    safe_still now same = record { index = index_still now same; kept = kept_stay to touches.later (omega arith) }

-- a row is added to the index
module _ {from to : ℕ} {old new : ℕ → ℕ → Doubt} (touches : Touches (λ f. f ≡ 0) from to old new) (rows : List (List ℕ)) (row : List ℕ) (holds holds_after : List BodyId) (bodies : ℕ → List ℕ)
    (kept : EachBody holds (IsHeld bodies (old from))) (kept_after : EachBody holds_after (IsHeld bodies (old from))) where
  off_index : (all : List BodyId) → EachBody all (IsHeld bodies (old from)) → EachBody all (λ id. id.file ≡ 0 → ⊥)
  off_index all each id named is = let apart : 2 ≤ id.file = (each id named).apart in absurd (omega (arith, apart, is))

  pub row_either : LeavesOnly new 0 from to (IsBeforeOrAfter rows row) → EachImage new from to (StandsEither rows holds (rows ++ row ∷ []) holds_after bodies)
  row_either index k image lo hi left = elim (index k (image 0) lo hi (left 0)) [
    | inl before ↦ inl (record { index = before; kept = in_image holds bodies (new k) image (kept_stay touches holds bodies (off_index holds kept) kept k lo hi) left })
    | inr after ↦ inr (record { index = after; kept = in_image holds_after bodies (new k) image (kept_stay touches holds_after bodies (off_index holds_after kept_after) kept_after k lo hi) left })
  ]

  pub row_done : (end : ℕ) (seen : ℕ → List ℕ) → IsAtRest (rows ++ row ∷ []) end (seen 0) (new to 0) → IsSafe (rows ++ row ∷ []) holds_after bodies end seen (new to)
  row_done end seen index = record { index = index; kept = kept_stay touches holds_after bodies (off_index holds_after kept_after) kept_after to touches.later (omega arith) }

-- what stands at one moment
pub stands_now : {rows : List (List ℕ)} {holds : List BodyId} {bodies : ℕ → List ℕ} {end : ℕ} {seen : ℕ → List ℕ} (past : ℕ → ℕ → Doubt) (now : ℕ) → IsSafe rows holds bodies end seen (past now) → EachImage past now now (Stands rows holds bodies)
stands_now past now is k image lo hi left = let same : k ≡ now = omega arith in safe_stands is image (subst (λ (n : ℕ). IsImage (past n) image) same left)

-- a body's row behind what was kept
pub row_images : {from mid to : ℕ} {old new : ℕ → ℕ → Doubt} (rows : List (List ℕ)) (row : List ℕ) (holds holds_after : List BodyId) (bodies : ℕ → List ℕ) → EachImage old from mid (Stands rows holds bodies) → Touches (λ f. f ≡ 0) mid to old new
    → EachBody holds (IsHeld bodies (old mid)) → EachBody holds_after (IsHeld bodies (old mid)) → LeavesOnly new 0 mid to (IsBeforeOrAfter rows row) → EachImage new from to (StandsEither rows holds (rows ++ row ∷ []) holds_after bodies)
row_images rows row holds holds_after bodies first touches kept kept_after index =
    images_join (StandsEither rows holds (rows ++ row ∷ []) holds_after bodies) (λ k image lo hi left. inl (first k image lo hi left)) touches.before (row_either touches rows row holds holds_after bodies kept kept_after index)

-- no new body
pub none_held : {holds holds_after : List BodyId} {bodies : ℕ → List ℕ} {fresh : Option ℕ} {bytes : List ℕ} → IsAdding holds holds_after bodies fresh bytes → fresh ≡ None → (doubts : ℕ → Doubt) → EachBody holds (IsHeld bodies doubts) → EachBody holds_after (IsHeld bodies doubts)
none_held adding none doubts kept = adds_held adding doubts (λ f is. absurd (subst (λ (o : Option ℕ). IsFile o f) none is)) kept

-- a new body is kept in its file
module _ {from to : ℕ} {old new : ℕ → ℕ → Doubt} (file : ℕ) (fresh : Option ℕ) (touches : Touches (λ f. f ≡ file) from to old new) (is_fresh : fresh ≡ Some file) (apart : 2 ≤ file)
    (rows : List (List ℕ)) (holds holds_after : List BodyId) (bodies : ℕ → List ℕ) (bytes : List ℕ) (end : ℕ) (seen : ℕ → List ℕ) (adding : IsAdding holds holds_after bodies fresh bytes) (safe : IsSafe rows holds bodies end seen (old from)) where
  off_file : EachBody holds (λ id. id.file ≡ file → ⊥)
  off_file id named same = adding.apart id named (subst (λ (o : Option ℕ). IsFile o id.file) (sym is_fresh) same)

  off_start : 0 ≡ file → ⊥
  off_start same = absurd (omega (arith, same, apart))

  pub keep_stands : EachImage new from to (Stands rows holds bodies)
  keep_stands = stands_still touches holds bodies off_file safe.kept rows end seen safe.index off_start

  pub keep_held : (now : ℕ → List ℕ) → ((f : ℕ) → (f ≡ file → ⊥) → now f ≡ seen f) → new to file ≡ settled bytes → IsSafe rows holds bodies end now (new to) × EachBody holds_after (IsHeld bodies (new to))
  keep_held now others durable =
      let after = safe_still touches holds bodies off_file safe.kept rows end seen safe.index off_start now (others 0 off_start) in
      (after, adds_held adding (new to) there after.kept)
    where
      there : (f : ℕ) → IsFile fresh f → (2 ≤ f) × (new to f ≡ settled bytes)
      there f is =
          let same : f ≡ file = subst (λ (o : Option ℕ). IsFile o f) is_fresh is in
          (subst (λ (n : ℕ). 2 ≤ n) (sym same) apart, subst (λ (n : ℕ). new to n ≡ settled bytes) (sym same) durable)

-- a file of no body is emptied
module _ {from to : ℕ} {old new : ℕ → ℕ → Doubt} (file : ℕ) (freed : List ℕ) (touches : Touches (λ f. f ≡ file) from to old new) (among : Contains freed file) (apart : 2 ≤ file)
    (rows : List (List ℕ)) (holds : List BodyId) (bodies : ℕ → List ℕ) (end : ℕ) (seen : ℕ → List ℕ) (spared : Spares freed holds) (safe : IsSafe rows holds bodies end seen (old from)) where
  off_freed : EachBody holds (λ id. id.file ≡ file → ⊥)
  off_freed id named same = spared id named (subst (Contains freed) (sym same) among)

  off_head : 0 ≡ file → ⊥
  off_head same = absurd (omega (arith, same, apart))

  pub free_stands : EachImage new from to (Stands rows holds bodies)
  free_stands = stands_still touches holds bodies off_freed safe.kept rows end seen safe.index off_head

  pub free_safe : (now : ℕ → List ℕ) → ((f : ℕ) → (f ≡ file → ⊥) → now f ≡ seen f) → IsSafe rows holds bodies end now (new to)
  free_safe now others = safe_still touches holds bodies off_freed safe.kept rows end seen safe.index off_head now (others 0 off_head)

-- the next of the files that are emptied
pub next_file : (freed : List ℕ) (i : ℕ) → All (λ f. 2 ≤ f) freed → i < length freed → Contains freed (get_or freed i 0) × (2 ≤ get_or freed i 0)
next_file freed i all lt = (Contains-get_or freed i 0 lt, all i 0 lt)

pub touches_file : {from mid to : ℕ} {old a b : ℕ → ℕ → Doubt} (freed : List ℕ) (file : ℕ) → Touches (Contains freed) from mid old a → Contains freed file → Touches (λ f. f ≡ file) mid to a b → Touches (Contains freed) from to old b
touches_file freed file so_far among next = touches_join so_far (touches_wider next (λ f same. subst (Contains freed) (sym same) among))

pub free_goes : {from mid to : ℕ} {a b : ℕ → ℕ → Doubt} (file : ℕ) (freed : List ℕ) (among : Contains freed file) (apart : 2 ≤ file) (next : Touches (λ f. f ≡ file) mid to a b)
    (rows : List (List ℕ)) (holds : List BodyId) (bodies : ℕ → List ℕ) (end : ℕ) (seen now : ℕ → List ℕ) → ((f : ℕ) → (f ≡ file → ⊥) → now f ≡ seen f) → Spares freed holds
    → IsSafe rows holds bodies end seen (a mid) × EachImage a from mid (Stands rows holds bodies) → IsSafe rows holds bodies end now (b to) × EachImage b from to (Stands rows holds bodies)
free_goes file freed among apart next rows holds bodies end seen now others spared was = (
  free_safe file freed next among apart rows holds bodies end seen spared was.0 now others,
  images_join (Stands rows holds bodies) was.1 next.before (free_stands file freed next among apart rows holds bodies end seen spared was.0),
)

pub ready_goes : {mid to : ℕ} {a b : ℕ → ℕ → Doubt} (file : ℕ) → 2 ≤ file → Touches (λ f. f ≡ file) mid to a b → (end : ℕ) (seen now : ℕ → List ℕ) → ((f : ℕ) → (f ≡ file → ⊥) → now f ≡ seen f) → IsReady end (seen 0) (a mid 0) → IsReady end (now 0) (b to 0)
ready_goes {mid} {to} file apart next end seen now others ready =
    let off : 0 ≡ file → ⊥ = λ same. absurd (omega (arith, same, apart)) in
    (ready.0, rest_moves ready.1 (others 0 off) (next.others to 0 next.later (omega arith) off))
