-- Walks over events in a row.
use Rattle.std.proofs.Common.{◌≡◌, List, [], ◌∷◌, ◌++◌, refl, ap, sym, ◌∙◌, Option, Some, None, append_assoc, subst}
use Rattle.dav_doc.specs.Document.{Event}
use Rattle.dav_walk.specs.declared.handler.Next.{Next}
use Rattle.dav_walk.specs.declared.handler.Next.TheVariants.{Go}
use Rattle.dav_walk.specs.declared.fault.WalkFault.{WalkFault}
use Rattle.dav_walk.specs.Lending.{Response, LentAll, LentToStop}
use Rattle.dav_walk.specs.Gathering.{Gathering, Outcome, Goes, Fails, Walked, next, ended, fault_of, walk_by, walk}
use Rattle.dav_walk.specs.Whole.{after, given}

-- a walk, and then another from where it is
abbrev onward_by : List Response → Outcome → (Gathering → Walked) → Walked
onward_by a (Goes g) k = record { ended = a ++ (k g).ended; outcome = (k g).outcome }
onward_by a (Fails fault) k = record { ended = a; outcome = Fails fault }

onward_more : (here a : List Response) (o : Outcome) (k : Gathering → Walked)
    → onward_by (here ++ a) o k ≡ record { ended = here ++ (onward_by a o k).ended; outcome = (onward_by a o k).outcome }
onward_more here a (Goes g) k = ap (λ z. let w : Walked = record { ended = z; outcome = (k g).outcome } in w) (append_assoc here a (k g).ended)
onward_more here a (Fails fault) k = refl

onward_from : (fault : Option WalkFault) (here : List Response) (w u : Walked) (k : Gathering → Walked) → u ≡ onward_by w.ended w.outcome k
    → walk_by fault here u ≡ onward_by (walk_by fault here w).ended (walk_by fault here w).outcome k
onward_from (Some fault) here w u k e = refl
onward_from None here w u k e =
    ap (λ (v : Walked). let x : Walked = record { ended = here ++ v.ended; outcome = v.outcome } in x) e ∙ sym (onward_more here w.ended w.outcome k)

walk-append : (g : Gathering) (es later : List Event) → walk g (es ++ later) ≡ onward_by (walk g es).ended (walk g es).outcome (λ h. walk h later)
walk-append g [] later = refl
walk-append g (e ∷ es) later =
    onward_from (fault_of g e) (ended g e) (walk (next g e) es) (walk (next g e) (es ++ later)) (λ h. walk h later) (walk-append (next g e) es later)

pub walk_then : (g h : Gathering) (es later : List Event) (a : List Response) → walk g es ≡ record { ended = a; outcome = Goes h }
    → walk g (es ++ later) ≡ record { ended = a ++ (walk h later).ended; outcome = (walk h later).outcome }
walk_then g h es later a e = walk-append g es later ∙ ap (λ (w : Walked). onward_by w.ended w.outcome (λ i. walk i later)) e

-- a walk that goes on ends all responses that the events give
goes_by : (fault : Option WalkFault) (here : List Response) (w : Walked) (g : Gathering) → (walk_by fault here w).outcome ≡ Goes g
    → (w.outcome ≡ Goes g) × ((walk_by fault here w).ended ≡ here ++ w.ended)
goes_by (Some fault) here w g e = cc
goes_by None here w g e = (e, refl)

pub walk_given : (g h : Gathering) (es : List Event) → (walk g es).outcome ≡ Goes h → (h ≡ after g es) × ((walk g es).ended ≡ given g es)
walk_given g h [] e = (cc, refl)
walk_given g h (x ∷ es) e =
    let a = goes_by (fault_of g x) (ended g x) (walk (next g x) es) h e in
    let b = walk_given (next g x) h es a.0 in
    (b.0, a.1 ∙ ap (λ z. ended g x ++ z) b.1)

pub LentAll-append : {S : Type 0} (lends : S → Response → Next → S → Type 0) (xs ys : List Response) (a b c : S)
    → LentAll lends a xs b → LentAll lends b ys c → LentAll lends a (xs ++ ys) c
LentAll-append {S} lends [] ys a b c h g = subst (λ (s : S). LentAll lends s ys c) h g
LentAll-append lends (x ∷ xs) ys a b c h g = (h.0, h.1, LentAll-append lends xs ys h.0 b c h.2 g)

-- one more that is lent before others
to_stop_cons : {S : Type 0} (lends : S → Response → Next → S → Type 0) (x : Response) (ys : List Response) (a b c : S)
    → lends a x Go b → LentToStop lends b ys c → LentToStop lends a (x ∷ ys) c
to_stop_cons lends x [] a b c h g = absurd g
to_stop_cons lends x (y ∷ ys) a b c h g = (b, h, g)

pub LentToStop-append : {S : Type 0} (lends : S → Response → Next → S → Type 0) (xs ys : List Response) (a b c : S)
    → LentAll lends a xs b → LentToStop lends b ys c → LentToStop lends a (xs ++ ys) c
LentToStop-append {S} lends [] ys a b c h g = subst (λ (s : S). LentToStop lends s ys c) h g
LentToStop-append lends (x ∷ xs) ys a b c h g = to_stop_cons lends x (xs ++ ys) a h.0 c h.1 (LentToStop-append lends xs ys h.0 b c h.2 g)
