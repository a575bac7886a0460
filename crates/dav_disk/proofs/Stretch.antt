-- How a stretch of device calls goes on by one more.
use Rattle.std.proofs.Common.{◌≡◌, inl, inr, ℕ, ◌+◌, ◌≤◌, List, refl, sym, ◌∙◌, subst, arith}
use Rattle.std.proofs.lemmas.Bool.{cases_eq, cases_lt}
use Rattle.dav_disk.specs.Disk.{Doubt, IsOutcome, Passes, Touches, LeavesOnly}

-- before the first call
pub touches_begin : (F : ℕ → Type 0) (now : ℕ) (past : ℕ → ℕ → Doubt) → Touches F now now past past
touches_begin F now past = record {
  later = omega arith;
  before = λ k f le. refl;
  others = λ k f from to out. let same : k ≡ now = omega arith in subst (λ (n : ℕ). past n f ≡ past now f) (sym same) refl;
}

-- a call on a file of F
pub touches_goes : {F : ℕ → Type 0} {from mid to : ℕ} {old a b : ℕ → ℕ → Doubt} {file : ℕ} {doubt : Doubt} → Touches F from mid old a → Passes mid to a b file doubt → F file → Touches F from to old b
touches_goes {F} {from} {mid} {to} {old} {a} {b} {file} {doubt} so_far call in_f = record {
  later = omega (arith, so_far.later, call.later);
  before = λ k f le. call.before k f (omega (arith, so_far.later)) ∙ so_far.before k f le;
  others = λ k f lo hi out. elim (cases_lt mid k) [
    | inl past_mid ↦ call.others k f past_mid hi (λ same. out (subst F (sym same) in_f)) ∙ so_far.others mid f so_far.later (omega arith) out
    | inr here ↦ call.before k f here ∙ so_far.others k f lo here out
  ];
}

-- a call that changes nothing, on any file
pub touches_looks : {F : ℕ → Type 0} {from mid to : ℕ} {old a b : ℕ → ℕ → Doubt} {file : ℕ} → Touches F from mid old a → Passes mid to a b file (a mid file) → Touches F from to old b
touches_looks {F} {from} {mid} {to} {old} {a} {b} {file} so_far call = record {
  later = omega (arith, so_far.later, call.later);
  before = λ k f le. call.before k f (omega (arith, so_far.later)) ∙ so_far.before k f le;
  others = λ k f lo hi out. elim (cases_lt mid k) [
    | inl past_mid ↦ elim (cases_eq f file) [
      | inl same ↦ subst (λ (n : ℕ). b k n ≡ old from n) (sym same) (call.here k past_mid hi ∙ so_far.others mid file so_far.later (omega arith) (λ in_f. out (subst F (sym same) in_f)))
      | inr other ↦ call.others k f past_mid hi other ∙ so_far.others mid f so_far.later (omega arith) out
    ]
    | inr here ↦ call.before k f here ∙ so_far.others k f lo here out
  ];
}

-- one stretch behind another
pub touches_join : {F : ℕ → Type 0} {from mid to : ℕ} {old a b : ℕ → ℕ → Doubt} → Touches F from mid old a → Touches F mid to a b → Touches F from to old b
touches_join {F} {from} {mid} {to} {old} {a} {b} one two = record {
  later = omega (arith, one.later, two.later);
  before = λ k f le. two.before k f (omega (arith, one.later)) ∙ one.before k f le;
  others = λ k f lo hi out. elim (cases_lt mid k) [
    | inl past_mid ↦ two.others k f (omega arith) hi out ∙ one.others mid f one.later (omega arith) out
    | inr here ↦ two.before k f here ∙ one.others k f lo here out
  ];
}

pub touches_wider : {F G : ℕ → Type 0} {from to : ℕ} {old new : ℕ → ℕ → Doubt} → Touches F from to old new → ((f : ℕ) → F f → G f) → Touches G from to old new
touches_wider so_far wider = record { later = so_far.later; before = so_far.before; others = λ k f lo hi out. so_far.others k f lo hi (λ in_f. out (wider f in_f)) }

-- what is left of one file, before the first call
pub leaves_begin : (past : ℕ → ℕ → Doubt) (file now : ℕ) (P : List ℕ → Type 0) → ((c : List ℕ) → IsOutcome (past now file) c → P c) → LeavesOnly past file now now P
leaves_begin past file now P here = λ k c from to left. let same : k ≡ now = omega arith in here c (subst (λ (n : ℕ). IsOutcome (past n file) c) same left)

-- a call on that file
pub leaves_goes : {from mid to : ℕ} {a b : ℕ → ℕ → Doubt} {file : ℕ} {doubt : Doubt} {P : List ℕ → Type 0} → LeavesOnly a file from mid P → Passes mid to a b file doubt → ((c : List ℕ) → IsOutcome doubt c → P c) → LeavesOnly b file from to P
leaves_goes {from} {mid} {to} {a} {b} {file} {doubt} {P} so_far call here = λ k c lo hi left. elim (cases_lt mid k) [
  | inl past_mid ↦ here c (subst (λ (d : Doubt). IsOutcome d c) (call.here k past_mid hi) left)
  | inr before ↦ so_far k c lo before (subst (λ (d : Doubt). IsOutcome d c) (call.before k file before) left)
]

-- a call that leaves that file's doubt as it was
pub leaves_stays : {from mid to : ℕ} {a b : ℕ → ℕ → Doubt} {file : ℕ} {P : List ℕ → Type 0} → from ≤ mid → LeavesOnly a file from mid P → Passes mid to a b file (a mid file) → LeavesOnly b file from to P
leaves_stays {from} {mid} lo so_far call = leaves_goes so_far call (λ c left. so_far mid c lo (omega arith) left)

-- the doubt behind a call that was counted
pub doubt_now : {from to : ℕ} {old new : ℕ → ℕ → Doubt} {file : ℕ} {doubt : Doubt} → Passes from to old new file doubt → to ≡ from + 1 → new to file ≡ doubt
doubt_now {from} {to} call counted = call.here to (omega arith) (omega arith)
