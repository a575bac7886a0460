use Rattle.std.proofs.Common.{◌≡◌, List, [], ◌∷◌, ◌++◌, length, set, refl, ap, subst, ◌∙◌, arith}
use Rattle.std.specs.Prelude.{OnOk}
use Rattle.dav_locks.specs.declared.lock.Lock.{Lock}
use Rattle.dav_locks.proofs.HeldLemmas.{held_at_place, held_last, first_there, none_there, not_full, is_full, has_room}
use Rattle.dav_locks.proofs.places.hold.Goals as goal

pub returns-in_err-lock-in-Some-clause-full : goal.returns-in_err-lock-in-Some-clause-full
returns-in_err-lock-in-Some-clause-full c =
    λ full. absurd (not_full c.args.lock.now.token c.args.locks.now.items c.in-Some.place c.requires
    (first_there c.as_str.result.now c.args.lock.now.token c.as_slice.result.now c.args.locks.now.items c.in-Some.place c.as_str.ensures.value c.as_slice.ensures.value c.in-Some.ensures) full)

pub returns-then-len-ge-LOCKS_MAX-clause-cause : goal.returns-then-len-ge-LOCKS_MAX-clause-cause
returns-then-len-ge-LOCKS_MAX-clause-cause c =
    λ other. (
      refl,
      is_full c.args.lock.now.token c.args.locks.now.items
          (none_there c.as_str.result.now c.args.lock.now.token c.as_slice.result.now c.args.locks.now.items c.as_str.ensures.value c.as_slice.ensures.value c.in-None.ensures)
          (omega (arith, ap length c.as_slice.ensures.value, c.as_slice.ensures.len, c.len.ensures, c.if-len-ge-LOCKS_MAX.true)),
    )

pub returns-in_err-lock-in-None-clause-full : goal.returns-in_err-lock-in-None-clause-full
returns-in_err-lock-in-None-clause-full c =
    λ full. absurd (has_room c.args.lock.now.token c.args.locks.now.items
    (none_there c.as_str.result.now c.args.lock.now.token c.as_slice.result.now c.args.locks.now.items c.as_str.ensures.value c.as_slice.ensures.value c.in-None.ensures)
    (omega (arith, ap length c.as_slice.ensures.value, c.as_slice.ensures.len, c.len.ensures, c.if-len-ge-LOCKS_MAX.false)) full)

pub returns-in_ok-lock-in-Some-clause-ok : goal.returns-in_ok-lock-in-Some-clause-ok
returns-in_ok-lock-in-Some-clause-ok c =
    ap (λ (lock : Lock). set c.args.locks.now.items c.in-Some.place lock) c.in_ok-lock-in-Some.ensures
    ∙ held_at_place c.args.lock.now c.args.locks.now.items c.in-Some.place
    (first_there c.as_str.result.now c.args.lock.now.token c.as_slice.result.now c.args.locks.now.items c.in-Some.place c.as_str.ensures.value c.as_slice.ensures.value c.in-Some.ensures)

pub returns-in_ok-lock-in-Some-clause-full : goal.returns-in_ok-lock-in-Some-clause-full
returns-in_ok-lock-in-Some-clause-full c =
    λ full. absurd (not_full c.args.lock.now.token c.args.locks.now.items c.in-Some.place c.requires
    (first_there c.as_str.result.now c.args.lock.now.token c.as_slice.result.now c.args.locks.now.items c.in-Some.place c.as_str.ensures.value c.as_slice.ensures.value c.in-Some.ensures) full)

pub returns-in_ok-lock-in-None-clause-ok : goal.returns-in_ok-lock-in-None-clause-ok
returns-in_ok-lock-in-None-clause-ok c =
    subst (λ (xs : List Lock). OnOk c.append.result (c.append.new.locks.items ≡ xs))
    (ap (λ (lock : Lock). c.args.locks.now.items ++ lock ∷ []) c.in_ok-lock-in-None.ensures
    ∙ held_last c.args.lock.now c.args.locks.now.items
    (none_there c.as_str.result.now c.args.lock.now.token c.as_slice.result.now c.args.locks.now.items c.as_str.ensures.value c.as_slice.ensures.value c.in-None.ensures))
    c.append.ensures.ok

pub returns-in_ok-lock-in-None-clause-full : goal.returns-in_ok-lock-in-None-clause-full
returns-in_ok-lock-in-None-clause-full c =
    λ full. absurd (has_room c.args.lock.now.token c.args.locks.now.items
    (none_there c.as_str.result.now c.args.lock.now.token c.as_slice.result.now c.args.locks.now.items c.as_str.ensures.value c.as_slice.ensures.value c.in-None.ensures)
    (omega (arith, ap length c.as_slice.ensures.value, c.as_slice.ensures.len, c.len.ensures, c.if-len-ge-LOCKS_MAX.false)) full)
