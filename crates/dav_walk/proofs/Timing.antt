-- Events with the number of bytes up to the one that gave them, and the responses that they end.
use Rattle.std.proofs.Common.{◌≡◌, ℕ, ◌+◌, ◌≤◌, ◌<◌, Bool, true, false, List, [], ◌∷◌, ◌++◌, length, refl, ap, sym, ◌∙◌, append_assoc, append-nil, add-zero, Option, Some, None, arith}
use Rattle.std.specs.Prelude.{nat_le, if◌then◌else◌}
use Rattle.dav_doc.specs.Document.{Event}
use Rattle.dav_doc.specs.Machine.{State, Move, Bad, To, step, Ran, gives, move_on, run}
use Rattle.dav_doc.proofs.Runs.{Goes}
use Rattle.dav_walk.specs.Lending.{Response}
use Rattle.dav_walk.specs.Gathering.{Gathering, next, ended}
use Rattle.dav_walk.specs.Whole.{after, given}
use Rattle.dav_walk.proofs.ReadingLemmas.{deeper, past}

pub record Timed : Type 0 where
  pub event : Event
  pub past : ℕ

abbrev pub stamped : ℕ → List Event → List Timed
stamped n [] = []
stamped n (e ∷ es) = record { event = e; past = n } ∷ stamped n es

abbrev pub timed_by : ℕ → Move → (State → List Timed) → List Timed
timed_by n Bad k = []
timed_by n (To st e) k = stamped n e ++ k st

-- the events of a text behind so many bytes
abbrev pub timed : ℕ → List ℕ → State → List Timed
timed at [] st = []
timed at (b ∷ s) st = timed_by (at + 1) (step st b) (timed (at + 1) s)

abbrev pub bare : List Timed → List Event
bare [] = []
bare (x ∷ xs) = x.event ∷ bare xs

pub bare-append : (xs ys : List Timed) → bare (xs ++ ys) ≡ bare xs ++ bare ys
bare-append [] ys = refl
bare-append (x ∷ xs) ys = ap (λ z. x.event ∷ z) (bare-append xs ys)

pub bare_stamped : (n : ℕ) (es : List Event) → bare (stamped n es) ≡ es
bare_stamped n [] = refl
bare_stamped n (e ∷ es) = ap (λ z. e ∷ z) (bare_stamped n es)

-- a run, and what follows it
pub record Split (at : ℕ) (s t : List ℕ) (a b : State) (e : List Event) : Type 0 where
  pub splits : timed at (s ++ t) a ≡ timed at s a ++ timed (at + length s) t b
  pub bare : bare (timed at s a) ≡ e

split_run : (at x : ℕ) (s t : List ℕ) (a b c : State) (e f : List Event) (o : Option Ran) → step a x ≡ To c f → run s c ≡ o
    → gives f o ≡ Some (record { state = b; events = e }) → ((r : Ran) → run s c ≡ Some r → Split (at + 1) s t c r.state r.events) → Split at (x ∷ s) t a b e
split_run at x s t a b c e f None h o g ih = absurd cc
split_run at x s t a b c e f (Some r) h o g ih =
    let k = ih r o in
    let both : record { state = r.state; events = f ++ r.events } ≡ record { state = b; events = e } = cc in
    let here = stamped (at + 1) f in
    let same : timed at (x ∷ s) a ≡ here ++ timed (at + 1) s c = ap (λ m. timed_by (at + 1) m (timed (at + 1) s)) h in
    let long : at + 1 + length s ≡ at + length (x ∷ s) = omega arith in
    record {
      splits =
          ap (λ m. timed_by (at + 1) m (timed (at + 1) (s ++ t))) h
          ∙ ap (λ z. here ++ z) k.splits
          ∙ sym (append_assoc here (timed (at + 1) s c) (timed (at + 1 + length s) t r.state))
          ∙ ap (λ z. z ++ timed (at + 1 + length s) t r.state) (sym same)
          ∙ ap (λ n. timed at (x ∷ s) a ++ timed n t r.state) long
          ∙ ap (λ (q : Ran). timed at (x ∷ s) a ++ timed (at + length (x ∷ s)) t q.state) both;
      bare =
          ap bare same
          ∙ bare-append here (timed (at + 1) s c)
          ∙ ap (λ z. z ++ bare (timed (at + 1) s c)) (bare_stamped (at + 1) f)
          ∙ ap (λ z. f ++ z) k.bare
          ∙ ap (λ (q : Ran). q.events) both;
    }

split_move : (at x : ℕ) (s t : List ℕ) (a b : State) (e : List Event) (m : Move) → step a x ≡ m → move_on m (run s) ≡ Some (record { state = b; events = e })
    → ((c : State) (r : Ran) → run s c ≡ Some r → Split (at + 1) s t c r.state r.events) → Split at (x ∷ s) t a b e
split_move at x s t a b e Bad h g ih = absurd cc
split_move at x s t a b e (To c f) h g ih = split_run at x s t a b c e f (run s c) h refl g (ih c)

pub split_at : (at : ℕ) (s t : List ℕ) (a b : State) (e : List Event) → Goes a s b e → Split at s t a b e
split_at at [] t a b e g =
    let both : record { state = a; events = [] } ≡ record { state = b; events = e } = cc in
    record {
      splits = ap (λ n. timed n t a) (sym (add-zero at)) ∙ ap (λ (q : Ran). timed (at + 0) t q.state) both;
      bare = ap (λ (q : Ran). q.events) both;
    }
split_at at (x ∷ s) t a b e g = split_move at x s t a b e (step a x) refl g (λ c r k. split_at (at + 1) s t c r.state r.events k)

-- a response that has ended, and the bytes up to its last
pub record Told : Type 0 where
  pub response : Response
  pub past : ℕ

abbrev pub tolds : ℕ → List Response → List Told
tolds n [] = []
tolds n (x ∷ xs) = record { response = x; past = n } ∷ tolds n xs

abbrev pub told : Gathering → List Timed → List Told
told g [] = []
told g (x ∷ xs) = tolds x.past (ended g x.event) ++ told (next g x.event) xs

pub told-append : (g : Gathering) (xs ys : List Timed) → told g (xs ++ ys) ≡ told g xs ++ told (after g (bare xs)) ys
told-append g [] ys = refl
told-append g (x ∷ xs) ys =
    ap (λ z. tolds x.past (ended g x.event) ++ z) (told-append (next g x.event) xs ys)
    ∙ sym (append_assoc (tolds x.past (ended g x.event)) (told (next g x.event) xs) (told (after (next g x.event) (bare xs)) ys))

abbrev pub responses_of : List Told → List Response
responses_of [] = []
responses_of (x ∷ xs) = x.response ∷ responses_of xs

responses_append : (xs ys : List Told) → responses_of (xs ++ ys) ≡ responses_of xs ++ responses_of ys
responses_append [] ys = refl
responses_append (x ∷ xs) ys = ap (λ z. x.response ∷ z) (responses_append xs ys)

responses_tolds : (n : ℕ) (xs : List Response) → responses_of (tolds n xs) ≡ xs
responses_tolds n [] = refl
responses_tolds n (x ∷ xs) = ap (λ z. x ∷ z) (responses_tolds n xs)

pub told_given : (g : Gathering) (xs : List Timed) → responses_of (told g xs) ≡ given g (bare xs)
told_given g [] = refl
told_given g (x ∷ xs) =
    responses_append (tolds x.past (ended g x.event)) (told (next g x.event) xs)
    ∙ ap (λ z. z ++ responses_of (told (next g x.event) xs)) (responses_tolds x.past (ended g x.event))
    ∙ ap (λ z. ended g x.event ++ z) (told_given (next g x.event) xs)

no_responses : (xs : List Told) → responses_of xs ≡ [] → xs ≡ []
no_responses [] h = refl
no_responses (x ∷ xs) h = absurd cc

pub told_none : (g : Gathering) (xs : List Timed) → given g (bare xs) ≡ [] → told g xs ≡ []
told_none g xs h = no_responses (told g xs) (told_given g xs ∙ h)

-- a run that ends no response
pub quiet : (g h : Gathering) (at : ℕ) (s t : List ℕ) (a b : State) (e : List Event) → Goes a s b e → given g e ≡ [] → after g e ≡ h
    → told g (timed at (s ++ t) a) ≡ told h (timed (at + length s) t b)
quiet g h at s t a b e r n k =
    let p = split_at at s t a b e r in
    ap (told g) p.splits
    ∙ told-append g (timed at s a) (timed (at + length s) t b)
    ∙ ap (λ z. z ++ told (after g (bare (timed at s a))) (timed (at + length s) t b)) (told_none g (timed at s a) (ap (given g) p.bare ∙ n))
    ∙ ap (λ z. told (after g z) (timed (at + length s) t b)) p.bare
    ∙ ap (λ z. told z (timed (at + length s) t b)) k

-- the same to the end
pub quiet_end : (g : Gathering) (at : ℕ) (s : List ℕ) (a b : State) (e : List Event) → Goes a s b e → given g e ≡ [] → told g (timed at s a) ≡ []
quiet_end g at s a b e r n = told_none g (timed at s a) (ap (given g) (split_at at s [] a b e r).bare ∙ n)

-- Which of them end in a front.

-- those up to so many bytes, and those behind
abbrev pub ended_among : ℕ → List Told → List Response
ended_among n [] = []
ended_among n (x ∷ xs) = if nat_le x.past n then x.response ∷ ended_among n xs else ended_among n xs

ended_in_row : (fits : Bool) (r : Response) (xs ys : List Response) → (if fits then r ∷ (xs ++ ys) else xs ++ ys) ≡ (if fits then r ∷ xs else xs) ++ ys
ended_in_row true r xs ys = refl
ended_in_row false r xs ys = refl

pub among_append : (n : ℕ) (xs ys : List Told) → ended_among n (xs ++ ys) ≡ ended_among n xs ++ ended_among n ys
among_append n [] ys = refl
among_append n (x ∷ xs) ys =
    ap (λ z. if nat_le x.past n then x.response ∷ z else z) (among_append n xs ys)
    ∙ ended_in_row (nat_le x.past n) x.response (ended_among n xs) (ended_among n ys)

-- each of the numbers
abbrev Each : (ℕ → Type 0) → List Timed → Type 0
Each P [] = Unit {0}
Each P (x ∷ xs) = P x.past × Each P xs

abbrev EachTold : (ℕ → Type 0) → List Told → Type 0
EachTold P [] = Unit {0}
EachTold P (x ∷ xs) = P x.past × EachTold P xs

each_append : (P : ℕ → Type 0) (xs ys : List Timed) → Each P xs → Each P ys → Each P (xs ++ ys)
each_append P [] ys f g = g
each_append P (x ∷ xs) ys f g = (f.0, each_append P xs ys f.1 g)

each_stamped : (P : ℕ → Type 0) (n : ℕ) (es : List Event) → P n → Each P (stamped n es)
each_stamped P n [] h = tt
each_stamped P n (e ∷ es) h = (h, each_stamped P n es h)

each_move : (P : ℕ → Type 0) (n : ℕ) (m : Move) (k : State → List Timed) → P n → ((c : State) → Each P (k c)) → Each P (timed_by n m k)
each_move P n Bad k h f = tt
each_move P n (To c e) k h f = each_append P (stamped n e) (k c) (each_stamped P n e h) (f c)

each_timed : (P : ℕ → Type 0) (at : ℕ) (s : List ℕ) (st : State) → ((k : ℕ) → at < k → k ≤ at + length s → P k) → Each P (timed at s st)
each_timed P at [] st h = tt
each_timed P at (b ∷ s) st h =
    each_move P (at + 1) (step st b) (timed (at + 1) s) (h (at + 1) (omega arith) (omega arith))
    (λ c. each_timed P (at + 1) s c (λ k low high. h k (omega (arith, low)) (omega (arith, high))))

told_each_append : (P : ℕ → Type 0) (xs ys : List Told) → EachTold P xs → EachTold P ys → EachTold P (xs ++ ys)
told_each_append P [] ys f g = g
told_each_append P (x ∷ xs) ys f g = (f.0, told_each_append P xs ys f.1 g)

each_tolds : (P : ℕ → Type 0) (n : ℕ) (xs : List Response) → P n → EachTold P (tolds n xs)
each_tolds P n [] h = tt
each_tolds P n (x ∷ xs) h = (h, each_tolds P n xs h)

each_told : (P : ℕ → Type 0) (g : Gathering) (xs : List Timed) → Each P xs → EachTold P (told g xs)
each_told P g [] h = tt
each_told P g (x ∷ xs) h =
    told_each_append P (tolds x.past (ended g x.event)) (told (next g x.event) xs) (each_tolds P x.past (ended g x.event) h.0) (each_told P (next g x.event) xs h.1)

among_early : (n : ℕ) (xs : List Told) → EachTold (λ k. k ≤ n) xs → ended_among n xs ≡ responses_of xs
among_early n [] h = refl
among_early n (x ∷ xs) h =
    ap (λ (t : Bool). if t then x.response ∷ ended_among n xs else ended_among n xs) (past x.past n h.0) ∙ ap (λ z. x.response ∷ z) (among_early n xs h.1)

among_late : (n : ℕ) (xs : List Told) → EachTold (λ k. n < k) xs → ended_among n xs ≡ []
among_late n [] h = refl
among_late n (x ∷ xs) h =
    ap (λ (t : Bool). if t then x.response ∷ ended_among n xs else ended_among n xs) (deeper x.past n h.0) ∙ among_late n xs h.1

-- the responses that end in a front are those of its events
pub ended_front : (g : Gathering) (s t : List ℕ) (a b : State) (e : List Event) → Goes a s b e → ended_among (length s) (told g (timed 0 (s ++ t) a)) ≡ given g e
ended_front g s t a b e r =
    let p = split_at 0 s t a b e r in
    let n = length s in
    let here = timed 0 s a in
    let there = timed (0 + n) t b in
    let early : EachTold (λ k. k ≤ n) (told g here) = each_told (λ k. k ≤ n) g here (each_timed (λ k. k ≤ n) 0 s a (λ k low high. omega (arith, high))) in
    let late : EachTold (λ k. n < k) (told (after g (bare here)) there) =
    each_told (λ k. n < k) (after g (bare here)) there (each_timed (λ k. n < k) (0 + n) t b (λ k low high. omega (arith, low))) in
    ap (λ z. ended_among n (told g z)) p.splits
    ∙ ap (ended_among n) (told-append g here there)
    ∙ among_append n (told g here) (told (after g (bare here)) there)
    ∙ ap (λ z. ended_among n (told g here) ++ z) (among_late n (told (after g (bare here)) there) late)
    ∙ append-nil (ended_among n (told g here))
    ∙ among_early n (told g here) early
    ∙ told_given g here
    ∙ ap (given g) p.bare
