-- The state of a file after the calls of a record.
use Rattle.std.proofs.Common.{◌≡◌, inl, inr, ℕ, suc, ◌+◌, ◌-◌, ◌≤◌, min, Bool, true, false, ◌&&◌, leb, List, [], ◌∷◌, ◌++◌, length, take, drop, if◌then◌else◌, ◌==◌, refl, sym, ◌∙◌, ap, subst, arith}
use Rattle.std.proofs.lemmas.Bool.{cases_lt, and_parts}
use Rattle.std.proofs.lemmas.Bool.Decides.{nat_tests}
use Rattle.std.proofs.lemmas.List.{length-take, length-drop, take_all, take-append-drop}
use Rattle.std.specs.Prelude.{Result, Ok, Err, is_ok, IfOk, OnOk, MatchResult}
use Rattle.dav_disk.specs.Disk.{Doubt, IsOutcome, settled, after_write, touched_by_write, with_change, overwritten, Passes, OthersStay, AllStay}
use Rattle.dav_disk.specs.Record.{FileState}
use Rattle.dav_disk.specs.Events.{Event, measured, gave, wrote, shortened, flushed, file_of, is_taken, after_event, state_of, seen_of, past_of, IsSound, IsSoundNow, Agrees, IsHonest}
use Rattle.dav_disk.proofs.Outcomes.{settled_outcome}
use Rattle.dav_disk.proofs.Recording.{file_on, file_is, file_off, in_range, over_length, outcome_of_write, outcome_stays, outcome_of_cut, outcome_stays_cut}

taken_parts : (at n size : ℕ) → is_taken at n size ≡ true → (at ≤ size) × (at + n ≤ 18446744073709551615)
taken_parts at n size is = let p = and_parts (leb at size) (leb (at + n) 18446744073709551615) is in let a = p.0 in let b = p.1 in (grind (arith, nat_tests), grind (arith, nat_tests))

taken_in : (at n size : ℕ) → at ≤ size → at + n ≤ 18446744073709551615 → is_taken at n size ≡ true
taken_in at n size begins ends = grind (arith, nat_tests)

-- a file that a write left as it was is an outcome of it, also of one that ends past the greatest u64
stays_either : (within : Bool) (s : FileState) (at n : ℕ) → IsOutcome s.doubt s.seen → IsOutcome (if within then with_change (touched_by_write at n (length s.seen)) (at + n) s.doubt else s.doubt) s.seen
stays_either true s at n outcome = outcome_stays s.seen s.doubt at n s.seen outcome refl
stays_either false s at n outcome = outcome

sound_write : (taken : Bool) (at : ℕ) (bytes : List ℕ) (s : FileState) → (taken ≡ true → is_taken at (length bytes) (length s.seen) ≡ true) → IsSound s
    → IsSound (record { seen = if taken then overwritten s.seen at bytes else s.seen; doubt = after_write at (length bytes) (length s.seen) s.doubt })
sound_write true at bytes s is sound =
    let parts = taken_parts at (length bytes) (length s.seen) (is refl) in
    record {
      reads = subst (λ (d : Doubt). IsOutcome d (overwritten s.seen at bytes)) (sym (in_range at (length bytes) (length s.seen) s.doubt parts.1))
          (outcome_of_write s.seen s.doubt at bytes (overwritten s.seen at bytes) sound.reads parts.0 refl);
      fits = omega (arith, over_length s.seen bytes at parts.0, parts.1, sound.fits);
    }
sound_write false at bytes s is sound = record { reads = stays_either (leb (at + length bytes) 18446744073709551615) s at (length bytes) sound.reads; fits = sound.fits }

-- what a call makes of a sound file is one
sound_event : (e : Event) (s : FileState) → Agrees e s.seen → IsSound s → IsSound (after_event e s)
sound_event (measured file went size) s agrees sound = sound
sound_event (gave file at room went bytes) s agrees sound = sound
sound_event (wrote file at went bytes) s agrees sound = sound_write (went && is_taken at (length bytes) (length s.seen)) at bytes s (λ is. (and_parts went (is_taken at (length bytes) (length s.seen)) is).1) sound
sound_event (shortened file len true) s agrees sound = record {
  reads = outcome_of_cut s.seen s.doubt len (take len s.seen) sound.reads refl;
  fits = omega (arith, length-take len s.seen, sound.fits);
}
sound_event (shortened file len false) s agrees sound = record { reads = outcome_stays_cut s.seen s.doubt len s.seen sound.reads refl; fits = sound.fits }
sound_event (flushed file true) s agrees sound = record { reads = settled_outcome s.seen; fits = sound.fits }
sound_event (flushed file false) s agrees sound = record { reads = sound.reads; fits = sound.fits }

sound_either : (on : Bool) (a b : FileState) → (on ≡ true → IsSound a) → IsSound b → IsSound (if on then a else b)
sound_either true a b there here = there refl
sound_either false a b there here = here

pub state_sound : (start : ℕ → FileState) (history : List Event) → IsHonest start history → (f : ℕ) → IsSound (state_of start f history)
state_sound start [] honest f = honest f
state_sound start (e ∷ earlier) honest f =
    let before = state_sound start earlier honest.1 f in
    sound_either (file_of e == f) (after_event e (state_of start f earlier)) (state_of start f earlier)
    (λ on. sound_event e (state_of start f earlier) (subst (λ (g : ℕ). Agrees e (seen_of start earlier g)) (sym (file_is (file_of e) f on)) honest.0) before) before

whole_of : (history : List Event) → drop (length history - length history) history ≡ history
whole_of history = let none : length history - length history ≡ 0 = omega arith in ap (λ (n : ℕ). drop n history) none

module _ (start : ℕ → FileState) where
  pub now_of : (f : ℕ) (history : List Event) → past_of start history (length history) f ≡ (state_of start f history).doubt
  now_of f history = ap (λ (l : List Event). (state_of start f l).doubt) (whole_of history)

  state_on : (e : Event) (history : List Event) → state_of start (file_of e) (e ∷ history) ≡ after_event e (state_of start (file_of e) history)
  state_on e history = ap (λ (b : Bool). if b then after_event e (state_of start (file_of e) history) else state_of start (file_of e) history) (file_on (file_of e))

  state_off : (f : ℕ) (e : Event) (history : List Event) → (f ≡ file_of e → ⊥) → state_of start f (e ∷ history) ≡ state_of start f history
  state_off f e history out = ap (λ (b : Bool). if b then after_event e (state_of start f history) else state_of start f history) (file_off (file_of e) f out)

  passes_one : (e : Event) (history : List Event) → Passes (length history) (length (e ∷ history)) (past_of start history) (past_of start (e ∷ history)) (file_of e) (after_event e (state_of start (file_of e) history)).doubt
  passes_one e history = record {
    later = omega arith;
    before = λ k f le. let one : suc (length history) - k ≡ suc (length history - k) = omega arith in ap (λ (n : ℕ). (state_of start f (drop n (e ∷ history))).doubt) one;
    others = λ k f lt hi out. let none : suc (length history) - k ≡ 0 = omega arith in
        ap (λ (n : ℕ). (state_of start f (drop n (e ∷ history))).doubt) none ∙ ap (λ (s : FileState). s.doubt) (state_off f e history out) ∙ sym (now_of f history);
    here = λ k lt hi. let none : suc (length history) - k ≡ 0 = omega arith in
        ap (λ (n : ℕ). (state_of start (file_of e) (drop n (e ∷ history))).doubt) none ∙ ap (λ (s : FileState). s.doubt) (state_on e history);
  }

  -- one call more
  pub passes_with : (e : Event) (history new : List Event) (doubt : Doubt) → new ≡ e ∷ history → (after_event e (state_of start (file_of e) history)).doubt ≡ doubt
      → Passes (length history) (length new) (past_of start history) (past_of start new) (file_of e) doubt
  passes_with e history new doubt is here = subst (λ (l : List Event). Passes (length history) (length l) (past_of start history) (past_of start l) (file_of e) doubt) (sym is)
      (subst (λ (d : Doubt). Passes (length history) (length (e ∷ history)) (past_of start history) (past_of start (e ∷ history)) (file_of e) d) here (passes_one e history))

  -- no call more
  pub passes_none : (history : List Event) (file : ℕ) (doubt : Doubt) → Passes (length history) (length history) (past_of start history) (past_of start history) file doubt
  passes_none history file doubt = record { later = omega arith; before = λ k f le. refl; others = λ k f lt hi out. absurd (omega arith); here = λ k lt hi. absurd (omega arith) }

  pub others_with : (e : Event) (history new : List Event) → new ≡ e ∷ history → OthersStay (file_of e) (seen_of start history) (seen_of start new)
  others_with e history new is f out = ap (λ (l : List Event). seen_of start l f) is ∙ ap (λ (s : FileState). s.seen) (state_off f e history out)

  seen_either : (on : Bool) (a b : FileState) → a.seen ≡ b.seen → (if on then a else b).seen ≡ b.seen
  seen_either true a b same = same
  seen_either false a b same = refl

  -- a call that changes nothing
  pub stay_with : (e : Event) (history new : List Event) → new ≡ e ∷ history → ((s : FileState) → (after_event e s).seen ≡ s.seen) → AllStay (seen_of start history) (seen_of start new)
  stay_with e history new is same f = ap (λ (l : List Event). seen_of start l f) is ∙ seen_either (file_of e == f) (after_event e (state_of start f history)) (state_of start f history) (same (state_of start f history))

  -- honesty only falls
  pub honest_before : (e : Event) (history new : List Event) → new ≡ e ∷ history → IsHonest start new → Agrees e (seen_of start history (file_of e)) × IsHonest start history
  honest_before e history new is honest = subst (IsHonest start) is honest

  pub written_with : (file at : ℕ) (bytes : List ℕ) (history new : List Event) → new ≡ wrote file at true bytes ∷ history → at ≤ length (seen_of start history file) → at + length bytes ≤ 18446744073709551615
      → seen_of start new file ≡ overwritten (seen_of start history file) at bytes
  written_with file at bytes history new is begins ends =
      ap (λ (l : List Event). seen_of start l file) is ∙ ap (λ (s : FileState). s.seen) (state_on (wrote file at true bytes) history)
      ∙ ap (λ (b : Bool). if b then overwritten (seen_of start history file) at bytes else seen_of start history file) (taken_in at (length bytes) (length (seen_of start history file)) begins ends)

  pub cut_with : (file len : ℕ) (history new : List Event) → new ≡ shortened file len true ∷ history → seen_of start new file ≡ take len (seen_of start history file)
  cut_with file len history new is = ap (λ (l : List Event). seen_of start l file) is ∙ ap (λ (s : FileState). s.seen) (state_on (shortened file len true) history)

pub sound_now : (start : ℕ → FileState) (history : List Event) → IsHonest start history → IsSoundNow start history
sound_now start history honest = record {
  reads = λ f. subst (λ (d : Doubt). IsOutcome d (seen_of start history f)) (sym (now_of start f history)) (state_sound start history honest f).reads;
  fits = λ f. (state_sound start history honest f).fits;
}

pub recorded_with : (e : Event) (history new : List Event) (count : ℕ) → new ≡ e ∷ history → count ≡ length history → count + 1 ≡ length new
recorded_with e history new count is recorded = omega (arith, recorded, ap length is)

-- the first bytes of these, where there is room for so many
take_least : (room n : ℕ) (l : List ℕ) → n ≡ min room (length l) → take room l ≡ take n l
take_least room n l is = elim (cases_lt (length l) room) [
  | inl shorter ↦ take_all room l (omega arith) ∙ sym (take_all n l (omega arith))
  | inr within ↦ let same : room ≡ n = omega arith in ap (λ (m : ℕ). take m l) same
]

module _ (start : ℕ → FileState) (file : ℕ) (history new : List Event) where
  pub sync_settles : {E : Type 0} (r : Result (Unit {0}) E) → new ≡ flushed file (is_ok r) ∷ history
      → OnOk r (Passes (length history) (length new) (past_of start history) (past_of start new) file (settled (seen_of start history file)))
  sync_settles (Ok done) is = passes_with start (flushed file true) history new (settled (seen_of start history file)) is refl
  sync_settles (Err failed) is = tt

  module _ (at : ℕ) (old buf : List ℕ) (long : length buf ≡ length old) (honest : IsHonest start new) where
    -- what the answer of a read says
    came : (n : ℕ) → n ≤ length old → new ≡ gave file at (length old) true (take n buf) ∷ history
        → (n ≡ min (length old) (length (seen_of start history file) - at)) × (take n buf ≡ take n (drop at (seen_of start history file)))
    came n within is =
        let rest = drop at (seen_of start history file) in
        let same : take n buf ≡ take (length old) rest = (honest_before start (gave file at (length old) true (take n buf)) history new is honest).0 refl in
        let least : n ≡ min (length old) (length rest) = omega (arith, ap length same, length-take n buf, length-take (length old) rest, long) in
        (omega (arith, least, length-drop at (seen_of start history file)), same ∙ take_least (length old) n rest least)

    pub read_count : {E : Type 0} (r : Result ℕ E) → IfOk r (λ n. n ≤ length old)
        → MatchResult r (λ n. new ≡ gave file at (length old) true (take n buf) ∷ history) (λ _. new ≡ gave file at (length old) false [] ∷ history)
        → IfOk r (λ n. n ≡ min (length old) (length (seen_of start history file) - at))
    read_count (Ok n) within noted = (came n within noted).0
    read_count (Err failed) within noted = tt

    pub read_bytes : {E : Type 0} (r : Result ℕ E) → IfOk r (λ n. n ≤ length old) → IfOk r (λ n. drop n buf ≡ drop n old)
        → MatchResult r (λ n. new ≡ gave file at (length old) true (take n buf) ∷ history) (λ _. new ≡ gave file at (length old) false [] ∷ history)
        → IfOk r (λ n. buf ≡ take n (drop at (seen_of start history file)) ++ drop n old)
    read_bytes (Ok n) within rest noted = sym (take-append-drop n buf) ∙ ap (λ (l : List ℕ). l ++ drop n buf) (came n within noted).1 ∙ ap (λ (l : List ℕ). take n (drop at (seen_of start history file)) ++ l) rest
    read_bytes (Err failed) within rest noted = tt
