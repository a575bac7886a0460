-- Machines of which the same answers make one run at most.
use Rattle.std.proofs.Common.{◌≡◌, ℕ, List, [], ◌∷◌, drop, Bool, false, sym, ◌∙◌, ap, subst}
use Rattle.dav_machine.specs.Log.{Event}
use Rattle.dav_machine.specs.Devices.{Devices, one_device}
use Rattle.dav_machine.specs.Machine.{Run, Machine, prepend, give, Calls, and_then}
use Rattle.dav_machine.specs.Part.{Part, lifted_run, lift}
use Rattle.dav_edge.specs.Device.{Fails, Goes, Takes, Gives}
use Rattle.dav_edge.specs.Whole.{Sends}

-- of the same answers the machine makes one run at most with a result of this kind
abbrev pub One : {M A R : Type 0} → Machine M A R → (R → Type 0) → Type 0
One {M} {A} {R} m Fed = (answers : A) (r q : Run M A R) → m answers r → m answers q → Fed r.result → Fed q.result → r ≡ q

abbrev pub AnyResult : {R : Type 0} → R → Type 0
AnyResult r = Unit {0}

pub one_give : {M A R : Type 0} (devices : Devices M A) (x : R) (Fed : R → Type 0) → One (give devices x) Fed
one_give devices x Fed answers r q d e fr fq = d ∙ sym e

pub one_then : {M A R S : Type 0} (devices : Devices M A) (f : Machine M A R) (next : R → Machine M A S) (First : R → Type 0) (Fed : S → Type 0)
    → One f First → ((x : R) → One (next x) Fed) → ((x : R) (answers : A) (run : Run M A S) → next x answers run → Fed run.result → First x)
    → One (and_then devices f next) Fed
one_then {M} {A} {R} {S} devices f next First Fed first then_ back answers r q d e fr fq =
    let fd : Fed d.after.result = subst (λ (run : Run M A S). Fed run.result) d.whole fr in
    let fe : Fed e.after.result = subst (λ (run : Run M A S). Fed run.result) e.whole fq in
    let same : d.before ≡ e.before = first answers d.before e.before d.begins e.begins (back d.before.result d.before.left d.after d.goes_on fd) (back e.before.result e.before.left e.after e.goes_on fe) in
    let goes : next e.before.result e.before.left d.after = subst (λ (b : Run M A R). next b.result b.left d.after) same d.goes_on in
    let later : d.after ≡ e.after = then_ e.before.result e.before.left d.after e.after goes e.goes_on fd fe in
    d.whole ∙ ap (λ (b : Run M A R). prepend devices b.made d.after) same ∙ ap (λ (a : Run M A S). prepend devices e.before.made a) later ∙ sym e.whole

pub one_lift : {N B M A R : Type 0} (part : Devices N B) (entire : Devices M A) (of : Part part entire) (m : Machine N B R) (Fed : R → Type 0) → One m Fed → One (lift of m) Fed
one_lift {N} {B} {M} {A} {R} part entire of m Fed one answers r q d e fr fq =
    let same : d.below ≡ e.below = one (of.look answers) d.below e.below d.does e.does
    (subst (λ (run : Run M A R). Fed run.result) d.is fr) (subst (λ (run : Run M A R). Fed run.result) e.is fq) in
    d.is ∙ ap (lifted_run of answers) same ∙ sym e.is

pub one_calls : {C A R : Type 0} (e : Event C A) (Rest : Run (List (Event C A)) (List A) R → Type 0) (Fed : R → Type 0) (r q : Run (List (Event C A)) (List A) R)
    → Calls e Rest r → Calls e Rest q → Fed r.result → Fed q.result
    → ((x y : Run (List (Event C A)) (List A) R) → Rest x → Rest y → Fed x.result → Fed y.result → x ≡ y) → r ≡ q
one_calls {C} {A} {R} e Rest Fed r q c d fr fq same =
    c.is ∙ ap (prepend one_device (e ∷ [])) (same c.rest d.rest c.does d.does
    (subst (λ (run : Run (List (Event C A)) (List A) R). Fed run.result) c.is fr) (subst (λ (run : Run (List (Event C A)) (List A) R). Fed run.result) d.is fq)) ∙ sym d.is

pub one_sends : (bytes : List ℕ) (Fed : Bool → Type 0) → One (Sends bytes) Fed
unfolding Sends
one_sends [] Fed answers r q d e fr fq = d ∙ sym e
one_sends (b ∷ bs) Fed [] r q d e fr fq = absurd d
one_sends (b ∷ bs) Fed (Fails ∷ more) r q d e fr fq = one_calls _ (give one_device false more) Fed r q d e fr fq (λ x y c k fx fy. c ∙ sym k)
one_sends (b ∷ bs) Fed (Goes ∷ more) r q d e fr fq = absurd d
one_sends (b ∷ bs) Fed (Takes n ∷ more) r q d e fr fq = one_calls _ (Sends (drop n (b ∷ bs)) more) Fed r q d e fr fq (one_sends (drop n (b ∷ bs)) Fed more)
one_sends (b ∷ bs) Fed (Gives piece ∷ more) r q d e fr fq = absurd d
