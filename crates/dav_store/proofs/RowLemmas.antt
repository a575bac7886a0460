-- Rows behind gates, and what the writes of a new row may leave of them.
use Rattle.std.proofs.Common.{◌≡◌, ◌≢◌, inl, inr, ℕ, ◌+◌, ◌/◌, ◌%◌, ◌≤◌, List, [], ◌∷◌, ◌++◌, length, get_or, take, drop, refl, sym, ◌∙◌, ap, subst, arith, append_assoc, length-append, take-append-drop}
use Rattle.std.proofs.lemmas.List.{append-nil, take_at, drop_at, drop_more}
use Rattle.std.proofs.lemmas.Bool.{cases_eq}
use Rattle.dav_disk.specs.Disk.{IsOutcome, settled, after_write, overwritten}
use Rattle.dav_disk.proofs.Outcomes.{write_keeps_front, write_within_length, write_within_back}
use Rattle.dav_store.specs.Rows.{IsPayload, row_text, Rows, Spells, IsBeforeOrAfter, staged}

pub one_more_row : (rows : List (List ℕ)) (front : List ℕ) (gate : ℕ) (row : List ℕ) → Rows rows front → gate ≢ 0 → IsPayload row → Rows (rows ++ row ∷ []) (front ++ row_text gate row)
one_more_row [] front gate row none is_open fits = (gate, [], is_open, fits, ap (λ (l : List ℕ). l ++ row_text gate row) none ∙ sym (append-nil (row_text gate row)), refl)
one_more_row (r ∷ rows) front gate row more is_open fits =
    (more.0, more.1 ++ row_text gate row, more.2, more.3, ap (λ (l : List ℕ). l ++ row_text gate row) more.4 ∙ append_assoc (row_text more.0 r) more.1 (row_text gate row), one_more_row rows more.1 gate row more.5 is_open fits)

-- the front of a file, a row, and then a closed gate
abbrev pub with_row : List ℕ → List ℕ → ℕ → List ℕ → List ℕ
with_row front row gate tail = front ++ row_text gate row ++ 0 ∷ tail

module _ (rows : List (List ℕ)) (row front rest : List ℕ) (end : ℕ) (open_rows : Rows rows front) (fits : IsPayload row) (size : length front ≡ end) where
  abbrev before : List ℕ
  before = front ++ 0 ∷ rest

  long : length before ≡ end + 1 + length rest
  long = omega (arith, size, length-append front (0 ∷ rest))

  gate_front : take (end + 1) before ≡ front ++ 0 ∷ []
  gate_front = ap (λ (l : List ℕ). take (end + 1) l) (sym (append_assoc front (0 ∷ []) rest)) ∙ take_at (front ++ 0 ∷ []) rest (end + 1) (omega (arith, size, length-append front (0 ∷ [])))

  -- the closed gate stands whatever a write behind it leaves
  pub behind_gate : (n : ℕ) (c : List ℕ) → IsOutcome (after_write (end + 1) n (length before) (settled before)) c → Spells rows c
  behind_gate n c left = record {
    front = front;
    rest = drop (end + 1) c;
    open_rows = open_rows;
    split = sym (take-append-drop (end + 1) c)
        ∙ ap (λ (l : List ℕ). l ++ drop (end + 1) c) (write_keeps_front (end + 1) n before c (omega (arith, long)) left ∙ gate_front)
        ∙ append_assoc front (0 ∷ []) (drop (end + 1) c);
  }

  pub is_staged : overwritten before (end + 1) (staged row) ≡ with_row front row 0 (drop (end + 1 + length (staged row)) before)
  is_staged =
      let tail = drop (end + 1 + length (staged row)) before in
      ap (λ (l : List ℕ). l ++ staged row ++ tail) gate_front
      ∙ ap (λ (l : List ℕ). l ++ tail) (append_assoc front (0 ∷ []) (staged row))
      ∙ append_assoc front (0 ∷ staged row) tail
      ∙ ap (λ (l : List ℕ). front ++ l) (append_assoc (row_text 0 row) (0 ∷ []) tail)
      ∙ sym (append_assoc front (row_text 0 row) (0 ∷ tail))

  pub spells_closed : (tail : List ℕ) → Spells rows (with_row front row 0 tail)
  spells_closed tail = record { front = front; rest = length row / 256 ∷ length row % 256 ∷ row ++ 0 ∷ tail; open_rows = open_rows; split = append_assoc front (row_text 0 row) (0 ∷ tail) }

  pub spells_open : (gate : ℕ) (tail : List ℕ) → gate ≢ 0 → Spells (rows ++ row ∷ []) (with_row front row gate tail)
  spells_open gate tail is_open = record { front = front ++ row_text gate row; rest = tail; open_rows = one_more_row rows front gate row open_rows is_open fits; split = refl }

  spells_either : (gate : ℕ) (tail : List ℕ) → IsBeforeOrAfter rows row (with_row front row gate tail)
  spells_either gate tail = elim (cases_eq gate 0) [
    | inl shut ↦ inl (subst (λ (g : ℕ). Spells rows (with_row front row g tail)) (sym shut) (spells_closed tail))
    | inr is_open ↦ inr (spells_open gate tail is_open)
  ]

  gate_split : (gate : ℕ) (tail : List ℕ) → with_row front row gate tail ≡ front ++ gate ∷ (length row / 256 ∷ length row % 256 ∷ row ++ 0 ∷ tail)
  gate_split gate tail = append_assoc front (row_text gate row) (0 ∷ tail)

  length_with : (gate : ℕ) (tail : List ℕ) → end + 1 ≤ length (with_row front row gate tail)
  length_with gate tail = omega (arith, size, ap length (gate_split gate tail), length-append front (gate ∷ (length row / 256 ∷ length row % 256 ∷ row ++ 0 ∷ tail)))

  back : (gate : ℕ) (tail : List ℕ) → drop (end + 1) (with_row front row gate tail) ≡ length row / 256 ∷ length row % 256 ∷ row ++ 0 ∷ tail
  back gate tail =
      let rest_text = length row / 256 ∷ length row % 256 ∷ row ++ 0 ∷ tail in
      ap (λ (l : List ℕ). drop (end + 1) l) (gate_split gate tail ∙ sym (append_assoc front (gate ∷ []) rest_text))
      ∙ drop_at (front ++ gate ∷ []) rest_text (end + 1) (omega (arith, size, length-append front (gate ∷ [])))

  front_of : (gate : ℕ) (tail : List ℕ) → take end (with_row front row gate tail) ≡ front
  front_of gate tail = ap (λ (l : List ℕ). take end l) (gate_split gate tail) ∙ take_at front (gate ∷ (length row / 256 ∷ length row % 256 ∷ row ++ 0 ∷ tail)) end size

  -- the row stands whole whatever the gate's write leaves
  pub in_gate : (tail c : List ℕ) → IsOutcome (after_write end 1 (length (with_row front row 0 tail)) (settled (with_row front row 0 tail))) c → IsBeforeOrAfter rows row c
  in_gate tail c left =
      let old = with_row front row 0 tail in
      let inside = length_with 0 tail in
      let same_long = write_within_length end 1 old c inside left in
      let gate = get_or c end 0 in
      let behind : drop end c ≡ gate ∷ (length row / 256 ∷ length row % 256 ∷ row ++ 0 ∷ tail) =
      drop_more c end 0 (omega (arith, same_long, inside)) ∙ ap (λ (l : List ℕ). gate ∷ l) (write_within_back end 1 old c inside left ∙ back 0 tail) in
      let whole : c ≡ with_row front row gate tail =
      sym (take-append-drop end c)
      ∙ ap (λ (l : List ℕ). l ++ drop end c) (write_keeps_front end 1 old c (omega (arith, inside)) left ∙ front_of 0 tail)
      ∙ ap (λ (l : List ℕ). front ++ l) behind ∙ sym (gate_split gate tail) in
      subst (λ (l : List ℕ). IsBeforeOrAfter rows row l) (sym whole) (spells_either gate tail)

  pub is_opened : (tail : List ℕ) → overwritten (with_row front row 0 tail) end (1 ∷ []) ≡ with_row front row 1 tail
  is_opened tail =
      let rest_text = length row / 256 ∷ length row % 256 ∷ row ++ 0 ∷ tail in
      ap (λ (l : List ℕ). l ++ (1 ∷ []) ++ drop (end + 1) (with_row front row 0 tail)) (front_of 0 tail)
      ∙ ap (λ (l : List ℕ). (front ++ (1 ∷ [])) ++ l) (back 0 tail)
      ∙ append_assoc front (1 ∷ []) rest_text
      ∙ sym (gate_split 1 tail)

pub same_parts : (r s a b : List ℕ) → length r ≡ length s → r ++ a ≡ s ++ b → (r ≡ s) × (a ≡ b)
same_parts r s a b long is = (
  sym (take_at r a (length r) refl) ∙ ap (λ (l : List ℕ). take (length r) l) is ∙ take_at s b (length r) (sym long),
  sym (drop_at r a (length r) refl) ∙ ap (λ (l : List ℕ). drop (length r) l) is ∙ drop_at s b (length r) (sym long),
)

-- a file spells one list of rows
rows_unique : (rows others : List (List ℕ)) (front front2 rest rest2 : List ℕ) → Rows rows front → Rows others front2 → front ++ 0 ∷ rest ≡ front2 ++ 0 ∷ rest2 → rows ≡ others
rows_unique [] [] front front2 rest rest2 none none2 is = refl
rows_unique [] (s ∷ others) front front2 rest rest2 none more is =
    let e : 0 ∷ rest ≡ more.0 ∷ (length s / 256 ∷ length s % 256 ∷ s ++ (more.1 ++ 0 ∷ rest2)) =
    ap (λ (l : List ℕ). l ++ 0 ∷ rest) (sym none) ∙ is ∙ ap (λ (l : List ℕ). l ++ 0 ∷ rest2) more.4 ∙ append_assoc (row_text more.0 s) more.1 (0 ∷ rest2) in
    let shut : more.0 ≡ 0 = cc e in absurd (more.2 shut)
rows_unique (r ∷ rows) [] front front2 rest rest2 more none is =
    let e : more.0 ∷ (length r / 256 ∷ length r % 256 ∷ r ++ (more.1 ++ 0 ∷ rest)) ≡ 0 ∷ rest2 =
    sym (ap (λ (l : List ℕ). l ++ 0 ∷ rest) more.4 ∙ append_assoc (row_text more.0 r) more.1 (0 ∷ rest)) ∙ is ∙ ap (λ (l : List ℕ). l ++ 0 ∷ rest2) none in
    let shut : more.0 ≡ 0 = cc e in absurd (more.2 shut)
rows_unique (r ∷ rows) (s ∷ others) front front2 rest rest2 more more2 is =
    let e : row_text more.0 r ++ (more.1 ++ 0 ∷ rest) ≡ row_text more2.0 s ++ (more2.1 ++ 0 ∷ rest2) =
    sym (ap (λ (l : List ℕ). l ++ 0 ∷ rest) more.4 ∙ append_assoc (row_text more.0 r) more.1 (0 ∷ rest)) ∙ is ∙ ap (λ (l : List ℕ). l ++ 0 ∷ rest2) more2.4 ∙ append_assoc (row_text more2.0 s) more2.1 (0 ∷ rest2) in
    let high : length r / 256 ≡ length s / 256 = cc e in
    let low : length r % 256 ≡ length s % 256 = cc e in
    let tails : r ++ (more.1 ++ 0 ∷ rest) ≡ s ++ (more2.1 ++ 0 ∷ rest2) = cc e in
    let parts = same_parts r s (more.1 ++ 0 ∷ rest) (more2.1 ++ 0 ∷ rest2) (omega arith) tails in
    let rest_same = rows_unique rows others more.1 more2.1 rest rest2 more.5 more2.5 parts.1 in
    λ i. parts.0 i ∷ rest_same i

pub spells_unique : (rows others : List (List ℕ)) (file : List ℕ) → Spells rows file → Spells others file → rows ≡ others
spells_unique rows others file a b = rows_unique rows others a.front b.front a.rest b.rest a.open_rows b.open_rows (sym a.split ∙ b.split)
