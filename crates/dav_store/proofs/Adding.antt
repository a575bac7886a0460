-- The stages in which a row is added, over what the disk's calls say.
use Rattle.std.proofs.Common.{◌≡◌, ◌≢◌, inl, inr, ℕ, ◌+◌, ◌≤◌, List, [], ◌∷◌, ◌++◌, length, drop, refl, sym, ◌∙◌, ap, subst, arith, length-append}
use Rattle.dav_disk.specs.Disk.{Doubt, IsOutcome, settled, after_write, overwritten}
use Rattle.dav_disk.proofs.Outcomes.{settled_only, settled_is}
use Rattle.dav_store.specs.Rows.{IsPayload, row_text, Spells, IsAtRest, IsBeforeOrAfter, staged}
use Rattle.dav_store.proofs.RowLemmas.{with_row, one_more_row, behind_gate, is_staged, spells_closed, spells_open, in_gate, is_opened}

pub at_rest_length : {rows : List (List ℕ)} {end : ℕ} {s : List ℕ} {d : Doubt} → IsAtRest rows end s d → end + 1 ≤ length s
at_rest_length r = omega (arith, r.size, ap length r.split, length-append r.front (0 ∷ r.rest))

-- what is at rest spells its rows in each image
pub rest_spells : {rows : List (List ℕ)} {end : ℕ} {s : List ℕ} {d : Doubt} → IsAtRest rows end s d → (c : List ℕ) → IsOutcome d c → Spells rows c
rest_spells r c left = record { front = r.front; rest = r.rest; open_rows = r.open_rows; split = settled_is r.durable c left ∙ r.split }

module _ (rows : List (List ℕ)) (row : List ℕ) (fits : IsPayload row) (end : ℕ) (s0 : List ℕ) (d0 : Doubt) (r : IsAtRest rows end s0 d0) where
  pub rests : (c : List ℕ) → IsOutcome d0 c → IsBeforeOrAfter rows row c
  rests c left = inl (rest_spells r c left)

  -- the row's write
  pub writes : (behind n : ℕ) → behind ≡ end + 1 → (c : List ℕ) → IsOutcome (after_write behind n (length s0) d0) c → IsBeforeOrAfter rows row c
  writes behind n is c left =
      let here = subst (λ (a : ℕ). IsOutcome (after_write a n (length s0) d0) c) is left in
      let at_settled = subst (λ (d : Doubt). IsOutcome (after_write (end + 1) n (length s0) d) c) r.durable here in
      let at_split = subst (λ (s : List ℕ). IsOutcome (after_write (end + 1) n (length s) (settled s)) c) r.split at_settled in
      inl (behind_gate rows row r.front r.rest end r.open_rows fits r.size n c at_split)

  abbrev pub tail : List ℕ
  tail = drop (end + 1 + length (staged row)) (r.front ++ 0 ∷ r.rest)

  abbrev pub shut : List ℕ
  shut = with_row r.front row 0 tail

  pub written : (behind : ℕ) (text s1 : List ℕ) → behind ≡ end + 1 → text ≡ staged row → s1 ≡ overwritten s0 behind text → s1 ≡ shut
  written behind text s1 is made over = over ∙ ap (λ (a : ℕ). overwritten s0 a text) is ∙ ap (λ (t : List ℕ). overwritten s0 (end + 1) t) made
      ∙ ap (λ (s : List ℕ). overwritten s (end + 1) (staged row)) r.split ∙ is_staged rows row r.front r.rest end r.open_rows fits r.size

  -- the first sync
  pub syncs : (s1 : List ℕ) → s1 ≡ shut → (c : List ℕ) → IsOutcome (settled s1) c → IsBeforeOrAfter rows row c
  syncs s1 is c left = inl (subst (λ (s : List ℕ). Spells rows s) (sym (settled_only s1 c left ∙ is)) (spells_closed rows row r.front r.rest end r.open_rows fits r.size tail))

  -- the gate's write
  pub opens : (s2 : List ℕ) (d2 : Doubt) → s2 ≡ shut → d2 ≡ settled s2 → (c : List ℕ) → IsOutcome (after_write end 1 (length s2) d2) c → IsBeforeOrAfter rows row c
  opens s2 d2 is durable c left =
      let at_settled = subst (λ (d : Doubt). IsOutcome (after_write end 1 (length s2) d) c) durable left in
      let at_split = subst (λ (s : List ℕ). IsOutcome (after_write end 1 (length s) (settled s)) c) is at_settled in
      in_gate rows row r.front r.rest end r.open_rows fits r.size tail c at_split

  pub opened : (s2 s3 : List ℕ) → s2 ≡ shut → s3 ≡ overwritten s2 end (1 ∷ []) → s3 ≡ with_row r.front row 1 tail
  opened s2 s3 is over = over ∙ ap (λ (s : List ℕ). overwritten s end (1 ∷ [])) is ∙ is_opened rows row r.front r.rest end r.open_rows fits r.size tail

  not_zero : (n : ℕ) → n ≡ 1 → n ≢ 0
  not_zero n one none = absurd (omega arith)

  -- the second sync
  pub ends : (s3 : List ℕ) → s3 ≡ with_row r.front row 1 tail → (c : List ℕ) → IsOutcome (settled s3) c → IsBeforeOrAfter rows row c
  ends s3 is c left = inr (subst (λ (s : List ℕ). Spells (rows ++ row ∷ []) s) (sym (settled_only s3 c left ∙ is)) (spells_open rows row r.front r.rest end r.open_rows fits r.size 1 tail (not_zero 1 refl)))

  pub rests_again : (s4 : List ℕ) (d4 : Doubt) → s4 ≡ with_row r.front row 1 tail → d4 ≡ settled s4 → IsAtRest (rows ++ row ∷ []) (end + length row + 3) s4 d4
  rests_again s4 d4 is durable = record {
    front = r.front ++ row_text 1 row;
    rest = tail;
    open_rows = one_more_row rows r.front 1 row r.open_rows (not_zero 1 refl) fits;
    split = is;
    size = omega (arith, r.size, length-append r.front (row_text 1 row));
    durable = durable;
  }
