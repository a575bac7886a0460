-- A row that was read in two parts.
use Rattle.std.proofs.Common.{◌≡◌, ◌≢◌, ◌+◌, ◌-◌, ◌*◌, ◌/◌, ◌%◌, ◌<◌, ◌≤◌, ℕ, List, [], ◌∷◌, ◌++◌, min, length, take, drop, refl, sym, ◌∙◌, ap, arith, take-append-drop, length-append, append_assoc}
use Rattle.std.proofs.lemmas.List.{take_at, drop_at, length-take, length-drop, drop-drop}
use Rattle.dav_store.specs.Rows.{HasRow, row_text, IsReading}
use Rattle.dav_store.proofs.RowLemmas.{one_more_row}
use Rattle.dav_disk.specs.Disk.{Doubt, settled}

none_left : (more : List ℕ) → length more ≡ 0 → more ≡ []
none_left [] none = refl
none_left (b ∷ more) none = absurd (omega arith)

pub has_row : (seen buf old : List ℕ) (at count n gate high low : ℕ) (more payload : List ℕ) → buf ≡ take count (drop at seen) ++ drop count old → count ≡ min (length old) (length seen - at) → length old ≡ 3
    → gate ≢ 0 → high < 256 → low < 256 → n ≡ high * 256 + low → 0 < n → take count buf ≡ gate ∷ high ∷ low ∷ more → payload ≡ take n (drop (at + 3) seen) → length payload ≡ n → HasRow payload (drop at seen)
has_row seen buf old at count n gate high low more payload is counted three is_open high_fits low_fits long some begins read length_is =
    let rest = drop at seen in
    let rest_long = length-drop at seen in
    let front : take count buf ≡ take count rest = ap (λ (l : List ℕ). take count l) is ∙ take_at (take count rest) (drop count old) count (omega (arith, length-take count rest)) in
    let whole : take count rest ≡ gate ∷ high ∷ low ∷ more = sym front ∙ begins in
    let size : length (take count rest) ≡ length more + 3 = ap length whole ∙ omega arith in
    let all : count ≡ 3 = omega (arith, length-take count rest) in
    let no_more : more ≡ [] = none_left more (omega (arith, length-take count rest)) in
    let tail = drop n (drop (at + 3) seen) in
    let behind : drop (at + 3) seen ≡ payload ++ tail = sym (take-append-drop n (drop (at + 3) seen)) ∙ ap (λ (l : List ℕ). l ++ tail) (sym read) in
    let dropped : drop 3 rest ≡ drop (at + 3) seen = drop-drop 3 at seen in
    let split : rest ≡ gate ∷ high ∷ low ∷ (payload ++ tail) =
    sym (take-append-drop 3 rest)
    ∙ ap (λ (k : ℕ). take k rest ++ drop 3 rest) (sym all)
    ∙ ap (λ (l : List ℕ). l ++ drop 3 rest) (whole ∙ ap (λ (l : List ℕ). gate ∷ high ∷ low ∷ l) no_more)
    ∙ ap (λ (l : List ℕ). gate ∷ high ∷ low ∷ l) (dropped ∙ behind) in
    let high_is : high ≡ length payload / 256 = omega arith in
    let low_is : low ≡ length payload % 256 = omega arith in
    (gate, tail, is_open, (omega arith, omega arith), split ∙ ap (λ (h : ℕ). gate ∷ h ∷ low ∷ (payload ++ tail)) high_is ∙ ap (λ (l : ℕ). gate ∷ length payload / 256 ∷ l ∷ (payload ++ tail)) low_is)

row_fits : (row rest seen : List ℕ) (end : ℕ) → rest ≡ drop end seen → HasRow row rest → end + length row + 3 ≤ length seen
row_fits row rest seen end is has = omega (arith, ap length has.4, ap length is, length-drop end seen, length-append row has.1)

-- a row more was read
pub reads_on : (rows : List (List ℕ)) (row : List ℕ) (end next : ℕ) (seen seen2 : List ℕ) (doubt doubt2 : Doubt) → IsReading rows end seen doubt → HasRow row (drop end seen) → seen2 ≡ seen → doubt2 ≡ doubt
    → length seen < 18446744073709551616 → next ≡ min (end + (length row + 3)) 18446744073709551615 → IsReading (rows ++ row ∷ []) next seen2 doubt2
reads_on rows row end next seen seen2 doubt doubt2 r has same same_doubt small counted =
    let here : drop end seen ≡ r.rest = ap (λ (l : List ℕ). drop end l) r.split ∙ drop_at r.front r.rest end r.size in
    let inside = row_fits row (drop end seen) seen end refl has in
    record {
      front = r.front ++ row_text has.0 row;
      rest = has.1;
      open_rows = one_more_row rows r.front has.0 row r.open_rows has.2 has.3;
      split = same ∙ r.split ∙ ap (λ (l : List ℕ). r.front ++ l) (sym here ∙ has.4) ∙ sym (append_assoc r.front (row_text has.0 row) has.1);
      size = omega (arith, r.size, length-append r.front (row_text has.0 row));
      durable = same_doubt ∙ r.durable ∙ ap settled (sym same);
    }
