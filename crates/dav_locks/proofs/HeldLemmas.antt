-- What is held after a call.
use Rattle.std.proofs.Common.{◌≡◌, ℕ, suc, zero, ◌<◌, ◌≤◌, Bool, true, false, ◌||◌, List, [], ◌∷◌, ◌++◌, length, set, inl, inr, refl, sym, ap, subst, ◌∙◌, arith}
use Rattle.std.specs.Prelude.{bytes_eq, Result, Ok, Err, OnOk, OnErr}
use Rattle.dav_locks.specs.declared.fault.LockFault.{LockFault}
use Rattle.dav_locks.specs.declared.fault.LockFault.TheVariants.{Full}
use Rattle.std.proofs.lemmas.Bool.{false≢true, cases_lt}
use Rattle.std.proofs.lemmas.Slice.Eq.{bytes_eq-Decides}
use Rattle.dav_locks.specs.Held.{has_token, is_held, without, held, IsFull, Differ, IsStore, tokens, tokens_after}
use Rattle.dav_locks.specs.Places.{IsFirst, NonePasses}
use Rattle.dav_locks.specs.declared.lock.Lock.{Lock}

from_eq : (a b : List ℕ) → bytes_eq a b ≡ true → a ≡ b
from_eq a b e = (bytes_eq-Decides a b).0 e

to_eq : (a b : List ℕ) → a ≡ b → bytes_eq a b ≡ true
to_eq a b e = (bytes_eq-Decides a b).1 e

not_true : (b : Bool) → (b ≡ true → ⊥) → b ≡ false
not_true true h = absurd (h refl)
not_true false h = refl

eq_sym : (a b : List ℕ) → bytes_eq a b ≡ false → bytes_eq b a ≡ false
eq_sym a b non = not_true (bytes_eq b a) (λ e. false≢true (sym non ∙ to_eq a b (sym (from_eq b a e))))

or_first : (a b : Bool) → (a || b) ≡ false → a ≡ false
or_first true b non = non
or_first false b non = refl

or_second : (a b : Bool) → (a || b) ≡ false → b ≡ false
or_second true b non = absurd (false≢true (sym non))
or_second false b non = non

neither : (a b : Bool) → a ≡ false → b ≡ false → (a || b) ≡ false
neither a b non nor = rw non nor

-- ---- places

pub held_at_place : (lock : Lock) (locks : List Lock) (i : ℕ) → IsFirst (has_token lock.token) locks i → set locks i lock ≡ held lock locks
held_at_place lock [] i first = absurd (let w : i < 0 = first.within in omega arith)
held_at_place lock (x ∷ xs) zero first = rw (first.passes x) refl
held_at_place lock (x ∷ xs) (suc i) first =
    let fails : has_token lock.token x ≡ false = first.before zero x (omega arith) (omega arith) in
    let later : IsFirst (has_token lock.token) xs i = record {
      within = let w : suc i < suc (length xs) = first.within in omega arith;
      passes = λ d. first.passes d;
      before = λ k d l u. first.before (suc k) d (omega arith) (omega arith);
    } in
    rw fails (ap (λ (ys : List Lock). x ∷ ys) (held_at_place lock xs i later))

pub held_last : (lock : Lock) (locks : List Lock) → NonePasses (has_token lock.token) locks → locks ++ lock ∷ [] ≡ held lock locks
held_last lock [] none = refl
held_last lock (x ∷ xs) none =
    let fails : has_token lock.token x ≡ false = none zero x (omega arith) (omega arith) in
    rw fails (ap (λ (ys : List Lock). x ∷ ys) (held_last lock xs (λ k d l u. none (suc k) d (omega arith) (omega arith))))

pub all_without : (token : List ℕ) (locks : List Lock) → is_held token locks ≡ false → without token locks ≡ locks
all_without token [] non = refl
all_without token (x ∷ xs) non =
    rw (or_first (has_token token x) (is_held token xs) non) (ap (λ (ys : List Lock). x ∷ ys) (all_without token xs (or_second (has_token token x) (is_held token xs) non)))

pub not_held : (token : List ℕ) (locks : List Lock) → NonePasses (has_token token) locks → is_held token locks ≡ false
not_held token [] none = refl
not_held token (x ∷ xs) none =
    neither (has_token token x) (is_held token xs) (none zero x (omega arith) (omega arith)) (not_held token xs (λ k d l u. none (suc k) d (omega arith) (omega arith)))

-- ---- what is held at any moment

same_token_held : (a b : List ℕ) (locks : List Lock) → bytes_eq a b ≡ true → is_held a locks ≡ false → is_held b locks ≡ false
same_token_held a b locks same non = ap (λ (t : List ℕ). is_held t locks) (sym (from_eq a b same)) ∙ non

still_other : (token : List ℕ) (lock : Lock) (locks : List Lock) → has_token token lock ≡ false → is_held token locks ≡ false → is_held token (held lock locks) ≡ false
still_other token lock [] other non = neither _ _ other refl
still_other token lock (x ∷ xs) other non =
    by (still_other token lock xs other (or_second (has_token token x) (is_held token xs) non)) (has_token lock.token x) refl
  where
    by : is_held token (held lock xs) ≡ false → (b : Bool) → has_token lock.token x ≡ b → is_held token (held lock (x ∷ xs)) ≡ false
    by rest true is = rw is (neither (has_token token lock) (is_held token xs) other (or_second (has_token token x) (is_held token xs) non))
    by rest false is = rw is (neither (has_token token x) (is_held token (held lock xs)) (or_first (has_token token x) (is_held token xs) non) rest)

differ_held : (lock : Lock) (locks : List Lock) → Differ locks → Differ (held lock locks)
differ_held lock [] differ = (refl, tt)
differ_held lock (x ∷ xs) differ = by (differ_held lock xs differ.1) (has_token lock.token x) refl
  where
    by : Differ (held lock xs) → (b : Bool) → has_token lock.token x ≡ b → Differ (held lock (x ∷ xs))
    by rest true is = rw is (same_token_held x.token lock.token xs is differ.0, differ.1)
    by rest false is = rw is (still_other x.token lock xs (eq_sym x.token lock.token is) differ.0, rest)

-- one more than the locks of other tokens
held_length : (lock : Lock) (locks : List Lock) → Differ locks → length (held lock locks) ≡ suc (length (without lock.token locks))
held_length lock [] differ = refl
held_length lock (x ∷ xs) differ = by (held_length lock xs differ.1) (has_token lock.token x) refl
  where
    by : length (held lock xs) ≡ suc (length (without lock.token xs)) → (b : Bool) → has_token lock.token x ≡ b → length (held lock (x ∷ xs)) ≡ suc (length (without lock.token (x ∷ xs)))
    by rest true is = rw is (ap (λ (ys : List Lock). suc (length ys)) (sym (all_without lock.token xs (same_token_held x.token lock.token xs is differ.0))))
    by rest false is = rw is (ap suc rest)

few_held : (n m : ℕ) → m ≡ suc n → (256 ≤ n → ⊥) → m ≤ 256
few_held n m long room = elim (cases_lt n 256) [
  | inl below ↦ omega arith
  | inr beyond ↦ absurd (room (omega arith))
]

pub store_held : (lock : Lock) (locks : List Lock) → IsStore locks → (IsFull lock.token locks → ⊥) → IsStore (held lock locks)
store_held lock locks store room = record {
  differ = differ_held lock locks store.differ;
  few = few_held (length (without lock.token locks)) (length (held lock locks)) (held_length lock locks store.differ) room;
}

less_without : (token : List ℕ) (locks : List Lock) → length (without token locks) ≤ length locks
less_without token [] = omega arith
less_without token (x ∷ xs) = by (less_without token xs) (has_token token x) refl
  where
    by : length (without token xs) ≤ length xs → (b : Bool) → has_token token x ≡ b → length (without token (x ∷ xs)) ≤ suc (length xs)
    by rest true is = rw is (omega arith)
    by rest false is = rw is (omega arith)

other_without : (token other : List ℕ) (locks : List Lock) → is_held other locks ≡ false → is_held other (without token locks) ≡ false
other_without token other [] non = refl
other_without token other (x ∷ xs) non =
    by (other_without token other xs (or_second (has_token other x) (is_held other xs) non)) (has_token token x) refl
  where
    by : is_held other (without token xs) ≡ false → (b : Bool) → has_token token x ≡ b → is_held other (without token (x ∷ xs)) ≡ false
    by rest true is = rw is rest
    by rest false is = rw is (neither (has_token other x) (is_held other (without token xs)) (or_first (has_token other x) (is_held other xs) non) rest)

differ_without : (token : List ℕ) (locks : List Lock) → Differ locks → Differ (without token locks)
differ_without token [] differ = tt
differ_without token (x ∷ xs) differ = by (differ_without token xs differ.1) (has_token token x) refl
  where
    by : Differ (without token xs) → (b : Bool) → has_token token x ≡ b → Differ (without token (x ∷ xs))
    by rest true is = rw is rest
    by rest false is = rw is (other_without token x.token xs differ.0, rest)

pub store_without : (token : List ℕ) (locks : List Lock) → IsStore locks → IsStore (without token locks)
store_without token locks store = record {
  differ = differ_without token locks store.differ;
  few = let less = less_without token locks in let few = store.few in omega arith;
}

pub store_empty : IsStore []
store_empty = record { differ = tt; few = omega arith }

-- a token that is held leaves room
held_first : (token : List ℕ) (locks : List Lock) (i : ℕ) → IsFirst (has_token token) locks i → suc (length (without token locks)) ≤ length locks
held_first token [] i first = absurd (let w : i < 0 = first.within in omega arith)
held_first token (x ∷ xs) zero first =
    let is : has_token token x ≡ true = first.passes x in
    let less = less_without token xs in
    rw is (omega arith)
held_first token (x ∷ xs) (suc i) first =
    let fails : has_token token x ≡ false = first.before zero x (omega arith) (omega arith) in
    let later : IsFirst (has_token token) xs i = record {
      within = let w : suc i < suc (length xs) = first.within in omega arith;
      passes = λ d. first.passes d;
      before = λ k d l u. first.before (suc k) d (omega arith) (omega arith);
    } in
    let rest = held_first token xs i later in
    rw fails (omega arith)

pub not_full : (token : List ℕ) (locks : List Lock) (i : ℕ) → IsStore locks → IsFirst (has_token token) locks i → IsFull token locks → ⊥
not_full token locks i store first full = let less = held_first token locks i first in let few = store.few in omega arith

-- ---- the order

pub tokens_held : (lock : Lock) (locks : List Lock) → tokens (held lock locks) ≡ tokens_after lock.token (tokens locks)
tokens_held lock [] = refl
tokens_held lock (x ∷ xs) = by (tokens_held lock xs) (has_token lock.token x) refl
  where
    by : tokens (held lock xs) ≡ tokens_after lock.token (tokens xs) → (b : Bool) → has_token lock.token x ≡ b → tokens (held lock (x ∷ xs)) ≡ tokens_after lock.token (tokens (x ∷ xs))
    by rest true is = rw is (ap (λ (t : List ℕ). t ∷ tokens xs) (sym (from_eq x.token lock.token is)))
    by rest false is = rw is (ap (λ (ts : List (List ℕ)). x.token ∷ ts) rest)

-- ---- what a place says, where token and locks are read through the code

pub first_there : (said token : List ℕ) (read locks : List Lock) (i : ℕ) → said ≡ token → read ≡ locks → IsFirst (has_token said) read i → IsFirst (has_token token) locks i
first_there said token read locks i e f first =
    subst (λ (t : List ℕ). IsFirst (has_token t) locks i) e (subst (λ (xs : List Lock). IsFirst (has_token said) xs i) f first)

pub none_there : (said token : List ℕ) (read locks : List Lock) → said ≡ token → read ≡ locks → NonePasses (has_token said) read → NonePasses (has_token token) locks
none_there said token read locks e f none =
    subst (λ (t : List ℕ). NonePasses (has_token t) locks) e (subst (λ (xs : List Lock). NonePasses (has_token said) xs) f none)

pub is_full : (token : List ℕ) (locks : List Lock) → NonePasses (has_token token) locks → 256 ≤ length locks → IsFull token locks
is_full token locks none many = subst (λ (xs : List Lock). 256 ≤ length xs) (sym (all_without token locks (not_held token locks none))) many

pub has_room : (token : List ℕ) (locks : List Lock) → NonePasses (has_token token) locks → length locks < 256 → IsFull token locks → ⊥
has_room token locks none few full =
    let many = subst (λ (xs : List Lock). 256 ≤ length xs) (all_without token locks (not_held token locks none)) full in omega arith

-- a store stays one, whether or not the lock was held
pub store_after : (result : Result (Unit {0}) LockFault) (lock : Lock) (old new : List Lock) → IsStore old → OnOk result (new ≡ held lock old) → OnErr result (new ≡ old) → (IsFull lock.token old → result ≡ Err Full) → IsStore new
store_after (Ok u) lock old new store ok err full =
    subst IsStore (sym ok) (store_held lock old store (λ many. let wrong : Ok u ≡ Err Full = full many in cc))
store_after (Err fault) lock old new store ok err full = subst IsStore (sym err) store
