-- How the record of a disk in memory grows by one call.
use Rattle.std.proofs.Common.{◌≡◌, ◌⊎◌, inl, inr, ℕ, ◌+◌, ◌-◌, ◌<◌, ◌≤◌, max, Bool, true, false, not, List, [], ◌∷◌, ◌++◌, length, get_or, take, leb, if◌then◌else◌, ◌==◌, refl, sym, ◌∙◌, ap, subst, arith, length-append}
use Rattle.std.proofs.lemmas.List.{take_all, take-append-le, take_more, places, length-take, get_or-take}
use Rattle.std.proofs.lemmas.Bool.Decides.{nat_tests}
use Rattle.std.specs.Prelude.{Vec}
use Rattle.std.specs.declared.alloc.Global.{Global}
use Rattle.dav_disk.specs.Disk.{Doubt, IsOutside, IsOutcome, settled, touched_by_write, with_change, after_write, after_cut, overwritten, Passes, OthersStay, AllStay}
use Rattle.dav_disk.specs.Record.{FileState, missing, after_call, is_on, stepped, run_from, state_of, seen_of, past_of, IsFair, IsRecord}
use Rattle.dav_disk.specs.declared.change.Change.{Change}
use Rattle.dav_disk.specs.declared.change.Change.TheVariants.{Span, Tail}
use Rattle.dav_disk.specs.declared.call.Call.{Call}
use Rattle.dav_disk.specs.declared.call.Call.TheVariants.{Look, Write, Cut, Sync}
use Rattle.dav_disk.proofs.Outcomes.{settled_outcome}

run_one_more : (f : ℕ) (s : FileState) (calls : List Call) (call : Call) → run_from f s (calls ++ call ∷ []) ≡ stepped f call (run_from f s calls)
run_one_more f s [] call = refl
run_one_more f s (c ∷ calls) call = run_one_more f (stepped f c s) calls call

one_on : (f : ℕ) (calls : List Call) (call : Call) → is_on f call ≡ true → state_of f (calls ++ call ∷ []) ≡ after_call call (state_of f calls)
one_on f calls call on = run_one_more f missing calls call ∙ ap (λ (b : Bool). if b then after_call call (state_of f calls) else state_of f calls) on

one_off : (f : ℕ) (calls : List Call) (call : Call) → is_on f call ≡ false → state_of f (calls ++ call ∷ []) ≡ state_of f calls
one_off f calls call off = run_one_more f missing calls call ∙ ap (λ (b : Bool). if b then after_call call (state_of f calls) else state_of f calls) off

-- the call at a place of the record
pub one_step : (f : ℕ) (calls : List Call) (i : ℕ) (call : Call) → i < length calls → call ≡ get_or calls i call → state_of f (take (i + 1) calls) ≡ stepped f call (state_of f (take i calls))
one_step f calls i call lt is =
    ap (λ (l : List Call). state_of f l) (take_more calls i call lt ∙ ap (λ (x : Call). take i calls ++ x ∷ []) (sym is)) ∙ run_one_more f missing (take i calls) call

bool_cases : (b : Bool) → (b ≡ true) ⊎ (b ≡ false)
bool_cases true = inl refl
bool_cases false = inr refl

vec_fits : (v : Vec ℕ Global) → length v.items < 18446744073709551616
vec_fits v = omega (arith, v.ok.0, v.ok.1, v.small)

fair_more : (calls : List Call) (call : Call) → IsFair calls → ((f : ℕ) → is_on f call ≡ true → IsOutcome (after_call call (state_of f calls)).doubt (after_call call (state_of f calls)).seen)
    → ((f : ℕ) → length (after_call call (state_of f calls)).seen < 18446744073709551616) → IsFair (calls ++ call ∷ [])
fair_more calls call fair here small = record {
  reads = λ f. elim (bool_cases (is_on f call)) [
    | inl on ↦ subst (λ (s : FileState). IsOutcome s.doubt s.seen) (sym (one_on f calls call on)) (here f on)
    | inr off ↦ subst (λ (s : FileState). IsOutcome s.doubt s.seen) (sym (one_off f calls call off)) (fair.reads f)
  ];
  fits = λ f. elim (bool_cases (is_on f call)) [
    | inl on ↦ subst (λ (s : FileState). length s.seen < 18446744073709551616) (sym (one_on f calls call on)) (small f)
    | inr off ↦ subst (λ (s : FileState). length s.seen < 18446744073709551616) (sym (one_off f calls call off)) (fair.fits f)
  ];
}

pub whole_now : (first : ℕ) (calls : List Call) (f : ℕ) → past_of first calls (first + length calls) f ≡ (state_of f calls).doubt
whole_now first calls f = ap (λ (l : List Call). (state_of f l).doubt) (take_all (first + length calls - first) calls (omega arith))

-- the moments of a record that has one call more
passes_more : (first : ℕ) (calls new : List Call) (call : Call) (file : ℕ) (doubt : Doubt) → new ≡ calls ++ call ∷ [] → ((f : ℕ) → (f ≡ file → ⊥) → is_on f call ≡ false) → (state_of file (calls ++ call ∷ [])).doubt ≡ doubt
    → Passes (first + length calls) (first + length new) (past_of first calls) (past_of first new) file doubt
passes_more first calls new call file doubt is off here = subst (λ (l : List Call). Passes (first + length calls) (first + length l) (past_of first calls) (past_of first l) file doubt) (sym is) grown
  where
    one : length (calls ++ call ∷ []) ≡ length calls + 1
    one = length-append calls (call ∷ [])

    whole : (k : ℕ) → first + length calls < k → take (k - first) (calls ++ call ∷ []) ≡ calls ++ call ∷ []
    whole k lt = take_all (k - first) (calls ++ call ∷ []) (omega (arith, one))

    grown : Passes (first + length calls) (first + length (calls ++ call ∷ [])) (past_of first calls) (past_of first (calls ++ call ∷ [])) file doubt
    grown = record {
      later = omega (arith, one);
      before = λ k f le. ap (λ (l : List Call). (state_of f l).doubt) (take-append-le (k - first) calls (call ∷ []) (omega arith));
      others = λ k f lt hi out. ap (λ (l : List Call). (state_of f l).doubt) (whole k lt) ∙ ap (λ (s : FileState). s.doubt) (one_off f calls call (off f out)) ∙ sym (whole_now first calls f);
      here = λ k lt hi. ap (λ (l : List Call). (state_of file l).doubt) (whole k lt) ∙ here;
    }

passes_same : (first : ℕ) (calls new : List Call) (file : ℕ) (doubt : Doubt) → new ≡ calls → Passes (first + length calls) (first + length new) (past_of first calls) (past_of first new) file doubt
passes_same first calls new file doubt is = subst (λ (l : List Call). Passes (first + length calls) (first + length l) (past_of first calls) (past_of first l) file doubt) (sym is)
    (record { later = omega arith; before = λ k f le. refl; others = λ k f lt hi out. absurd (omega arith); here = λ k lt hi. absurd (omega arith) })

-- what a write, a cut and a sync make of a file is one of their outcomes
over_left : (old bytes : List ℕ) (at i : ℕ) → at ≤ length old → i < at → get_or (overwritten old at bytes) i 0 ≡ get_or old i 0
over_left old bytes at i le lt = grind (arith, places)

over_right : (old bytes : List ℕ) (at i : ℕ) → at ≤ length old → at + length bytes ≤ i → i < length old → get_or (overwritten old at bytes) i 0 ≡ get_or old i 0
over_right old bytes at i le lo hi = grind (arith, places)

pub over_length : (old bytes : List ℕ) (at : ℕ) → at ≤ length old → length (overwritten old at bytes) ≡ max (length old) (at + length bytes)
over_length old bytes at le = grind (arith, places)

out_of_write : (b : Bool) (i at end : ℕ) (changes : List Change) → IsOutside i ((if b then Span at end else Tail at) ∷ changes) → ((i < at) ⊎ ((b ≡ true) × (end ≤ i))) × IsOutside i changes
out_of_write true i at end changes (inl lt, rest) = (inl lt, rest)
out_of_write true i at end changes (inr le, rest) = (inr (refl, le), rest)
out_of_write false i at end changes (lt, rest) = (inl lt, rest)

pub outcome_of_write : (old : List ℕ) (doubt : Doubt) (at : ℕ) (bytes next : List ℕ) → IsOutcome doubt old → at ≤ length old → next ≡ overwritten old at bytes → IsOutcome (with_change (touched_by_write at (length bytes) (length old)) (at + length bytes) doubt) next
outcome_of_write old doubt at bytes next outcome le is = subst (λ (l : List ℕ). IsOutcome (with_change (touched_by_write at (length bytes) (length old)) (at + length bytes) doubt) l) (sym is) (record {
  no_shorter = omega (arith, over_length old bytes at le, outcome.no_shorter);
  no_longer = omega (arith, over_length old bytes at le, outcome.no_longer);
  kept = λ i lt out.
      let parts = out_of_write (leb (at + length bytes) (length old)) i at (at + length bytes) doubt.changes out in
      elim parts.0 [
        | inl left ↦ over_left old bytes at i le left ∙ outcome.kept i (omega arith) parts.1
        | inr right ↦
            let fits : at + length bytes ≤ length old = let t = right.0 in grind (arith, nat_tests) in
            let inside : i < length old = omega (arith, over_length old bytes at le) in
            over_right old bytes at i le right.1 inside ∙ outcome.kept i inside parts.1
      ];
})

pub outcome_stays : (old : List ℕ) (doubt : Doubt) (at n : ℕ) (next : List ℕ) → IsOutcome doubt old → next ≡ old → IsOutcome (with_change (touched_by_write at n (length old)) (at + n) doubt) next
outcome_stays old doubt at n next outcome is = subst (λ (l : List ℕ). IsOutcome (with_change (touched_by_write at n (length old)) (at + n) doubt) l) (sym is) (record {
  no_shorter = outcome.no_shorter;
  no_longer = omega (arith, outcome.no_longer);
  kept = λ i lt out. outcome.kept i lt (out_of_write (leb (at + n) (length old)) i at (at + n) doubt.changes out).1;
})

pub outcome_of_cut : (old : List ℕ) (doubt : Doubt) (len : ℕ) (next : List ℕ) → IsOutcome doubt old → next ≡ take len old → IsOutcome (after_cut len doubt) next
outcome_of_cut old doubt len next outcome is = subst (λ (l : List ℕ). IsOutcome (after_cut len doubt) l) (sym is) (record {
  no_shorter = omega (arith, length-take len old, outcome.no_shorter);
  no_longer = omega (arith, length-take len old, outcome.no_longer);
  kept = λ i lt out. get_or-take len old i 0 out.0 ∙ outcome.kept i (omega (arith, length-take len old)) out.1;
})

pub outcome_stays_cut : (old : List ℕ) (doubt : Doubt) (len : ℕ) (next : List ℕ) → IsOutcome doubt old → next ≡ old → IsOutcome (after_cut len doubt) next
outcome_stays_cut old doubt len next outcome is = subst (λ (l : List ℕ). IsOutcome (after_cut len doubt) l) (sym is) (record {
  no_shorter = omega (arith, outcome.no_shorter);
  no_longer = outcome.no_longer;
  kept = λ i lt out. outcome.kept i lt out.1;
})

-- which file a call is on
pub file_on : (file : ℕ) → (file == file) ≡ true
file_on file = grind (arith, nat_tests)

pub file_is : (file f : ℕ) → (file == f) ≡ true → f ≡ file
file_is file f on = grind (arith, nat_tests)

pub file_off : (file f : ℕ) → (f ≡ file → ⊥) → (file == f) ≡ false
file_off file f out = elim (bool_cases (file == f)) [
  | inl on ↦ absurd (out (file_is file f on))
  | inr off ↦ off
]

-- the record after a call that found room, or did not
abbrev pub Grew : List Call → Call → List Call → Type 0
Grew calls call new = (new ≡ calls ++ call ∷ []) ⊎ (new ≡ calls)

either_grew : (first : ℕ) (calls new : List Call) (call : Call) (file : ℕ) (doubt : Doubt) → ((f : ℕ) → (f ≡ file → ⊥) → is_on f call ≡ false) → (state_of file (calls ++ call ∷ [])).doubt ≡ doubt → Grew calls call new
    → Passes (first + length calls) (first + length new) (past_of first calls) (past_of first new) file doubt
either_grew first calls new call file doubt off here (inl grown) = passes_more first calls new call file doubt grown off here
either_grew first calls new call file doubt off here (inr same) = passes_same first calls new file doubt same

passes_grew : (first origin : ℕ) (calls new : List Call) (call : Call) (file : ℕ) (doubt : Doubt) → ((f : ℕ) → (f ≡ file → ⊥) → is_on f call ≡ false) → (state_of file (calls ++ call ∷ [])).doubt ≡ doubt → origin ≡ first → Grew calls call new
    → Passes (first + length calls) (origin + length new) (past_of first calls) (past_of origin new) file doubt
passes_grew first origin calls new call file doubt off here same grew =
    subst (λ (n : ℕ). Passes (first + length calls) (n + length new) (past_of first calls) (past_of n new) file doubt) (sym same) (either_grew first calls new call file doubt off here grew)

seen_grew : (calls new : List Call) (call : Call) → ((f : ℕ) → (state_of f (calls ++ call ∷ [])).seen ≡ (state_of f calls).seen) → Grew calls call new → AllStay (seen_of calls) (seen_of new)
seen_grew calls new call quiet (inl grown) f = ap (λ (l : List Call). (state_of f l).seen) grown ∙ quiet f
seen_grew calls new call quiet (inr same) f = ap (λ (l : List Call). (state_of f l).seen) same

others_grew : (calls new : List Call) (call : Call) (file : ℕ) → ((f : ℕ) → (f ≡ file → ⊥) → is_on f call ≡ false) → Grew calls call new → OthersStay file (seen_of calls) (seen_of new)
others_grew calls new call file off (inl grown) f out = ap (λ (l : List Call). (state_of f l).seen) grown ∙ ap (λ (s : FileState). s.seen) (one_off f calls call (off f out))
others_grew calls new call file off (inr same) f out = ap (λ (l : List Call). (state_of f l).seen) same

-- a look
pub fair_look : (calls : List Call) → IsFair calls → IsFair (calls ++ Look ∷ [])
fair_look calls fair = fair_more calls Look fair (λ f on. fair.reads f) fair.fits

pub look_seen : (calls new : List Call) → Grew calls Look new → AllStay (seen_of calls) (seen_of new)
look_seen calls new grew = seen_grew calls new Look (λ f. ap (λ (s : FileState). s.seen) (one_off f calls Look refl)) grew

pub look_passes : (first origin : ℕ) (calls new : List Call) (file : ℕ) → origin ≡ first → Grew calls Look new → Passes (first + length calls) (origin + length new) (past_of first calls) (past_of origin new) file (past_of first calls (first + length calls) file)
look_passes first origin calls new file same grew = passes_grew first origin calls new Look file _ (λ f out. refl) (ap (λ (s : FileState). s.doubt) (one_off file calls Look refl) ∙ sym (whole_now first calls file)) same grew

-- a write
pub fair_write : (calls : List Call) (file at : ℕ) (bytes : List ℕ) (change : Change) (end : ℕ) (next : Vec ℕ Global) (stays : Bool) → IsFair calls → at ≤ length (state_of file calls).seen
    → end ≡ at + length bytes → change ≡ touched_by_write at (length bytes) (length (state_of file calls).seen)
    → next.items ≡ (if stays then (state_of file calls).seen else overwritten (state_of file calls).seen at bytes) → IsFair (calls ++ Write file change end next ∷ [])
fair_write calls file at bytes change end next stays fair le ends changed is = fair_more calls (Write file change end next) fair
    (λ f on. subst (λ (g : ℕ). IsOutcome (with_change change end (state_of g calls).doubt) next.items) (sym (file_is file f on))
    (subst (λ (w : Change). IsOutcome (with_change w end (state_of file calls).doubt) next.items) (sym changed)
    (subst (λ (e : ℕ). IsOutcome (with_change (touched_by_write at (length bytes) (length (state_of file calls).seen)) e (state_of file calls).doubt) next.items) (sym ends) (here stays is)))) (λ f. vec_fits next)
  where
    here : (b : Bool) → next.items ≡ (if b then (state_of file calls).seen else overwritten (state_of file calls).seen at bytes) → IsOutcome (with_change (touched_by_write at (length bytes) (length (state_of file calls).seen)) (at + length bytes) (state_of file calls).doubt) next.items
    here true same = outcome_stays (state_of file calls).seen (state_of file calls).doubt at (length bytes) next.items (fair.reads file) same
    here false over = outcome_of_write (state_of file calls).seen (state_of file calls).doubt at bytes next.items (fair.reads file) le over

-- a write that ends within the greatest u64
pub in_range : (at n size : ℕ) (doubt : Doubt) → at + n ≤ 18446744073709551615 → after_write at n size doubt ≡ with_change (touched_by_write at n size) (at + n) doubt
in_range at n size doubt le = let e : leb (at + n) 18446744073709551615 ≡ true = grind (arith, nat_tests) in ap (λ (b : Bool). if b then with_change (touched_by_write at n size) (at + n) doubt else doubt) e

-- and one that does not
pub out_of_range : (at n size : ℕ) (doubt : Doubt) → 18446744073709551616 ≤ at + n → doubt ≡ after_write at n size doubt
out_of_range at n size doubt le = let e : leb (at + n) 18446744073709551615 ≡ false = grind (arith, nat_tests) in sym (ap (λ (b : Bool). if b then with_change (touched_by_write at n size) (at + n) doubt else doubt) e)

pub write_passes : (first origin : ℕ) (calls new : List Call) (file at n : ℕ) (change : Change) (end : ℕ) (next : Vec ℕ Global) → at + n ≤ 18446744073709551615 → end ≡ at + n → change ≡ touched_by_write at n (length (state_of file calls).seen)
    → origin ≡ first → Grew calls (Write file change end next) new
    → Passes (first + length calls) (origin + length new) (past_of first calls) (past_of origin new) file (after_write at n (length (state_of file calls).seen) (past_of first calls (first + length calls) file))
write_passes first origin calls new file at n change end next le ends changed same grew = passes_grew first origin calls new (Write file change end next) file _ (λ f out. file_off file f out)
    (ap (λ (s : FileState). s.doubt) (one_on file calls (Write file change end next) (file_on file))
    ∙ ap (λ (e : ℕ). with_change change e (state_of file calls).doubt) ends
    ∙ ap (λ (w : Change). with_change w (at + n) (state_of file calls).doubt) changed
    ∙ sym (in_range at n (length (state_of file calls).seen) (state_of file calls).doubt le)
    ∙ ap (λ (d : Doubt). after_write at n (length (state_of file calls).seen) d) (sym (whole_now first calls file))) same grew

pub write_others : (calls new : List Call) (file : ℕ) (change : Change) (end : ℕ) (next : Vec ℕ Global) → Grew calls (Write file change end next) new → OthersStay file (seen_of calls) (seen_of new)
write_others calls new file change end next grew = others_grew calls new (Write file change end next) file (λ f out. file_off file f out) grew

pub write_seen : (calls new : List Call) (file : ℕ) (change : Change) (end : ℕ) (next : Vec ℕ Global) → new ≡ calls ++ Write file change end next ∷ [] → (state_of file new).seen ≡ next.items
write_seen calls new file change end next grown = ap (λ (l : List Call). (state_of file l).seen) grown ∙ ap (λ (s : FileState). s.seen) (one_on file calls (Write file change end next) (file_on file))

pub made_ok : (stays : Bool) (next content made : List ℕ) → next ≡ (if stays then content else made) → stays ≡ false → next ≡ made
made_ok true next content made is sound = absurd (cc)
made_ok false next content made is sound = is

-- a cut
pub fair_cut : (calls : List Call) (file len : ℕ) (next : Vec ℕ Global) (stays : Bool) → IsFair calls
    → next.items ≡ (if stays then (state_of file calls).seen else take len (state_of file calls).seen) → IsFair (calls ++ Cut file len next ∷ [])
fair_cut calls file len next stays fair is = fair_more calls (Cut file len next) fair
    (λ f on. subst (λ (g : ℕ). IsOutcome (after_cut len (state_of g calls).doubt) next.items) (sym (file_is file f on)) (here stays is)) (λ f. vec_fits next)
  where
    here : (b : Bool) → next.items ≡ (if b then (state_of file calls).seen else take len (state_of file calls).seen) → IsOutcome (after_cut len (state_of file calls).doubt) next.items
    here true same = outcome_stays_cut (state_of file calls).seen (state_of file calls).doubt len next.items (fair.reads file) same
    here false cut = outcome_of_cut (state_of file calls).seen (state_of file calls).doubt len next.items (fair.reads file) cut

pub cut_passes : (first origin : ℕ) (calls new : List Call) (file len : ℕ) (next : Vec ℕ Global) → origin ≡ first → Grew calls (Cut file len next) new
    → Passes (first + length calls) (origin + length new) (past_of first calls) (past_of origin new) file (after_cut len (past_of first calls (first + length calls) file))
cut_passes first origin calls new file len next same grew = passes_grew first origin calls new (Cut file len next) file _ (λ f out. file_off file f out)
    (ap (λ (s : FileState). s.doubt) (one_on file calls (Cut file len next) (file_on file)) ∙ ap (λ (d : Doubt). after_cut len d) (sym (whole_now first calls file))) same grew

pub cut_others : (calls new : List Call) (file len : ℕ) (next : Vec ℕ Global) → Grew calls (Cut file len next) new → OthersStay file (seen_of calls) (seen_of new)
cut_others calls new file len next grew = others_grew calls new (Cut file len next) file (λ f out. file_off file f out) grew

pub cut_seen : (calls new : List Call) (file len : ℕ) (next : Vec ℕ Global) → new ≡ calls ++ Cut file len next ∷ [] → (state_of file new).seen ≡ next.items
cut_seen calls new file len next grown = ap (λ (l : List Call). (state_of file l).seen) grown ∙ ap (λ (s : FileState). s.seen) (one_on file calls (Cut file len next) (file_on file))

-- a sync
sync_quiet : (b : Bool) (calls : List Call) (file f : ℕ) → (state_of f (calls ++ Sync file b ∷ [])).seen ≡ (state_of f calls).seen
sync_quiet b calls file f = elim (bool_cases (file == f)) [
  | inl on ↦ ap (λ (s : FileState). s.seen) (one_on f calls (Sync file b) on) ∙ stays b
  | inr off ↦ ap (λ (s : FileState). s.seen) (one_off f calls (Sync file b) off)
]
  where
    stays : (b : Bool) → (after_call (Sync file b) (state_of f calls)).seen ≡ (state_of f calls).seen
    stays true = refl
    stays false = refl

pub fair_sync : (calls : List Call) (file : ℕ) (done : Bool) → IsFair calls → IsFair (calls ++ Sync file done ∷ [])
fair_sync calls file done fair = fair_more calls (Sync file done) fair (λ f on. here done f) (small done)
  where
    small : (b : Bool) (f : ℕ) → length (after_call (Sync file b) (state_of f calls)).seen < 18446744073709551616
    small true f = fair.fits f
    small false f = fair.fits f

    here : (b : Bool) (f : ℕ) → IsOutcome (after_call (Sync file b) (state_of f calls)).doubt (after_call (Sync file b) (state_of f calls)).seen
    here true f = settled_outcome (state_of f calls).seen
    here false f = fair.reads f

pub sync_seen : (calls new : List Call) (file : ℕ) (done : Bool) → Grew calls (Sync file done) new → AllStay (seen_of calls) (seen_of new)
sync_seen calls new file done grew = seen_grew calls new (Sync file done) (sync_quiet done calls file) grew

pub sync_settles : (first origin : ℕ) (calls new : List Call) (file : ℕ) → origin ≡ first → new ≡ calls ++ Sync file true ∷ [] → Passes (first + length calls) (origin + length new) (past_of first calls) (past_of origin new) file (settled (state_of file calls).seen)
sync_settles first origin calls new file same grown = passes_grew first origin calls new (Sync file true) file _ (λ f out. file_off file f out) (ap (λ (s : FileState). s.doubt) (one_on file calls (Sync file true) (file_on file))) same (inl grown)

pub sync_fails : (first origin : ℕ) (calls new : List Call) (file : ℕ) → origin ≡ first → Grew calls (Sync file false) new → Passes (first + length calls) (origin + length new) (past_of first calls) (past_of origin new) file (past_of first calls (first + length calls) file)
sync_fails first origin calls new file same grew = passes_grew first origin calls new (Sync file false) file _ (λ f out. file_off file f out) (ap (λ (s : FileState). s.doubt) (one_on file calls (Sync file false) (file_on file)) ∙ sym (whole_now first calls file)) same grew

pub sync_done : (calls new : List Call) (file : ℕ) (fails : Bool) → new ≡ calls ++ Sync file (not fails) ∷ [] → fails ≡ false → new ≡ calls ++ Sync file true ∷ []
sync_done calls new file fails grown sound = grown ∙ ap (λ (b : Bool). calls ++ Sync file (not b) ∷ []) sound

pub sync_not_done : (calls new : List Call) (file : ℕ) (fails : Bool) → ((new ≡ calls ++ Sync file (not fails) ∷ []) × (fails ≡ true)) ⊎ (new ≡ calls) → Grew calls (Sync file false) new
sync_not_done calls new file fails (inl both) = inl (both.0 ∙ ap (λ (b : Bool). calls ++ Sync file (not b) ∷ []) both.1)
sync_not_done calls new file fails (inr same) = inr same

pub fair_now : (first : ℕ) (calls : List Call) → IsRecord first calls → IsFair calls
fair_now first calls exact = subst IsFair (take_all (length calls) calls (omega arith)) (exact.each (length calls))
