-- Runs of the machine, cut anywhere.
use Rattle.std.proofs.Common.{◌≡◌, ℕ, List, [], ◌∷◌, ◌++◌, refl, ap, sym, ◌∙◌, append_assoc, append-nil, Option, Some, None}
use Rattle.dav_doc.specs.Document.{Event}
use Rattle.dav_doc.specs.Machine.{State, Move, Bad, To, step, Ran, gives, move_on, run}

-- the machine goes from a state to another by this text, and gives these events
abbrev pub Goes : State → List ℕ → State → List Event → Type 0
Goes a s c e = run s a ≡ Some (record { state = c; events = e })

gives_nil : (x : Option Ran) → gives [] x ≡ x
gives_nil None = refl
gives_nil (Some r) = refl

gives_twice : (e f : List Event) (x : Option Ran) → gives e (gives f x) ≡ gives (e ++ f) x
gives_twice e f None = refl
gives_twice e f (Some r) = ap (λ z. Some (record { state = r.state; events = z })) (sym (append_assoc e f r.events))

-- what comes after a run
abbrev pub on_ran : Option Ran → List ℕ → Option Ran
on_ran None t = None
on_ran (Some r) t = gives r.events (run t r.state)

on_gives : (e : List Event) (x : Option Ran) (t : List ℕ) → gives e (on_ran x t) ≡ on_ran (gives e x) t
on_gives e None t = refl
on_gives e (Some r) t = gives_twice e r.events (run t r.state)

moved : (m : Move) (s t : List ℕ) → ((st : State) → run (s ++ t) st ≡ on_ran (run s st) t) → move_on m (run (s ++ t)) ≡ on_ran (move_on m (run s)) t
moved Bad s t f = refl
moved (To st e) s t f = ap (gives e) (f st) ∙ on_gives e (run s st) t

-- any cut
pub run-append : (s t : List ℕ) (st : State) → run (s ++ t) st ≡ on_ran (run s st) t
run-append [] t st = sym (gives_nil (run t st))
run-append (b ∷ s) t st = moved (step st b) s t (λ a. run-append s t a)

pub goes_then : (a b c : State) (s t : List ℕ) (e f : List Event) → Goes a s b e → Goes b t c f → Goes a (s ++ t) c (e ++ f)
goes_then a b c s t e f g h = run-append s t a ∙ ap (λ x. on_ran x t) g ∙ ap (gives e) h

pub goes_one : (a c : State) (b : ℕ) (e : List Event) → step a b ≡ To c e → Goes a (b ∷ []) c e
goes_one a c b e h = ap (λ m. move_on m (run [])) h ∙ ap (λ z. Some (record { state = c; events = z })) (append-nil e)

pub goes_cons : (a b c : State) (x : ℕ) (s : List ℕ) (e f : List Event) → step a x ≡ To b e → Goes b s c f → Goes a (x ∷ s) c (e ++ f)
goes_cons a b c x s e f h g = ap (λ m. move_on m (run s)) h ∙ ap (gives e) g

pub goes_to : (a b c : State) (s : List ℕ) (e : List Event) → b ≡ c → Goes a s b e → Goes a s c e
goes_to a b c s e h g = g ∙ ap (λ z. Some (record { state = z; events = e })) h

pub goes_by : (a c : State) (s t : List ℕ) (e : List Event) → s ≡ t → Goes a s c e → Goes a t c e
goes_by a c s t e h g = ap (λ z. run z a) (sym h) ∙ g
