-- The laws of the machine.
use Rattle.std.proofs.Common.{◌≡◌, ℕ, List, [], ◌++◌, ap, sym, ◌∙◌, Option, Some, None}
use Rattle.dav_doc.specs.Document.{Forest, Event, events, Spells}
use Rattle.dav_doc.specs.Machine.{Begin, Text, Zero, Ran, gives, run}
use Rattle.dav_doc.proofs.TagSounding.{taken_whole, follows}
use Rattle.dav_doc.proofs.Runs.{run-append, on_ran}
use Rattle.dav_doc.proofs.Completing.{complete}
use Rattle.dav_doc.proofs.Living.{Lives, lives}
use Rattle.std.proofs.Common.{inl, inr}
use Rattle.std.specs.Prelude.{◌⊎◌}
use Rattle.std.proofs.Common.{refl, subst, append_assoc}
use Rattle.dav_doc.specs.Characters.{Owed, Whole, on_owed, owed_by}
use Rattle.dav_doc.specs.Document.{IsDocument}
use Rattle.dav_doc.proofs.Reading.{owed-append, fair_run, characters_go, characters_taken, characters_bad}
use Rattle.dav_doc.proofs.Whole.{whole_more, Kept}
use Rattle.dav_doc.proofs.Keeping.{run_keeps}
use Rattle.dav_doc.proofs.Finishing.{completed}

pub sound : (s : List ℕ) (e : List Event) → run s Begin ≡ Some (record { state = Text [] Zero; events = e })
    → (tree : Forest) × Spells tree s × (e ≡ events 1 tree)
sound s e h = taken_whole s Zero e h

pub bad : (s : List ℕ) → run s Begin ≡ None → (t : List ℕ) (tree : Forest) → Spells tree (s ++ t) → ⊥
bad s h t tree is =
    let e = complete tree (s ++ t) is in
    let f : run (s ++ t) Begin ≡ None = run-append s t Begin ∙ ap (λ x. on_ran x t) h in
    cc

pub alive : (s : List ℕ) (r : Ran) → run s Begin ≡ Some r → (t : List ℕ) × (tree : Forest) × Spells tree (s ++ t)
alive s r h =
    let l : Lives ⊥ r.state = lives r.state (follows s Begin r tt h).sound (λ k. absurd k) in
    let g : run (s ++ l.text) Begin ≡ Some (record { state = Text [] Zero; events = r.events ++ l.events }) =
    run-append s l.text Begin ∙ ap (λ x. on_ran x l.text) h ∙ ap (gives r.events) l.goes in
    let w = sound (s ++ l.text) (r.events ++ l.events) g in
    (l.text, w.0, w.1)

front_by : (e : List Event) (x : Option Ran) (q : Ran) → gives e x ≡ Some q → (later : List Event) × (q.events ≡ e ++ later)
front_by e None q h = cc
front_by e (Some r) q h = let k : record { state = r.state; events = e ++ r.events } ≡ q = cc in (r.events, ap (λ z. z.events) (sym k))

pub so_far : (s t : List ℕ) (r : Ran) (tree : Forest) → run s Begin ≡ Some r → Spells tree (s ++ t)
    → (later : List Event) × (events 1 tree ≡ r.events ++ later)
so_far s t r tree h is =
    front_by r.events (run t r.state) (record { state = Text [] Zero; events = events 1 tree })
    (sym (run-append s t Begin ∙ ap (λ x. on_ran x t) h) ∙ complete tree (s ++ t) is)

pub whole_sound : (s : List ℕ) (e : List Event) → owed_by s Whole ≡ Some Whole → run s Begin ≡ Some (record { state = Text [] Zero; events = e })
    → (tree : Forest) × IsDocument tree s × (e ≡ events 1 tree)
whole_sound s e h g = let k = sound s e g in (k.0, record { spells = k.1; characters = characters_taken s h }, k.2)

pub whole_complete : (tree : Forest) (s : List ℕ) → IsDocument tree s
    → (owed_by s Whole ≡ Some Whole) × (run s Begin ≡ Some (record { state = Text [] Zero; events = events 1 tree }))
whole_complete tree s h = (characters_go h.characters, complete tree s h.spells)

pub whole_bad : (s : List ℕ) → (owed_by s Whole ≡ None) ⊎ (run s Begin ≡ None) → (t : List ℕ) (tree : Forest) → IsDocument tree (s ++ t) → ⊥
whole_bad s (inl h) t tree is = characters_bad s h t is.characters
whole_bad s (inr h) t tree is = bad s h t tree is.spells

kept_run : (s : List ℕ) (r : Ran) (o : Owed) → run s Begin ≡ Some r → owed_by s Whole ≡ Some o → Kept r.state o
kept_run s r o h g = run_keeps s Begin Whole o r tt tt refl g h

-- where no character is cut
whole_now : (s : List ℕ) (r : Ran) → run s Begin ≡ Some r → owed_by s Whole ≡ Some Whole → (t : List ℕ) × (tree : Forest) × IsDocument tree (s ++ t)
whole_now s r h g =
    let l : Lives (Unit {0}) r.state = lives r.state (follows s Begin r tt h).sound (λ k. kept_run s r Whole h g) in
    let i : run (s ++ l.text) Begin ≡ Some (record { state = Text [] Zero; events = r.events ++ l.events }) =
    run-append s l.text Begin ∙ ap (λ x. on_ran x l.text) h ∙ ap (gives r.events) l.goes in
    let w = sound (s ++ l.text) (r.events ++ l.events) i in
    (l.text, w.0, record { spells = w.1; characters = characters_taken (s ++ l.text) (whole_more s l.text g (l.whole tt)) })

pub whole_alive : (s : List ℕ) (r : Ran) (o : Owed) → run s Begin ≡ Some r → owed_by s Whole ≡ Some o → (t : List ℕ) × (tree : Forest) × IsDocument tree (s ++ t)
whole_alive s r o h g =
    let k = completed r.state o (follows s Begin r tt h).sound (kept_run s r o h g) (fair_run s Whole o tt g) in
    let i : run (s ++ k.text) Begin ≡ Some (record { state = k.passed.next; events = r.events ++ k.passed.events }) =
    run-append s k.text Begin ∙ ap (λ x. on_ran x k.text) h ∙ ap (gives r.events) k.passed.goes in
    let j : owed_by (s ++ k.text) Whole ≡ Some Whole = owed-append s k.text Whole ∙ ap (λ x. on_owed x (owed_by k.text)) g ∙ k.whole in
    let w = whole_now (s ++ k.text) (record { state = k.passed.next; events = r.events ++ k.passed.events }) i j in
    (k.text ++ w.0, w.1, subst (λ (t : List ℕ). IsDocument w.1 t) (append_assoc s k.text w.0) w.2)
