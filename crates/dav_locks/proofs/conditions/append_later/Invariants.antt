use Rattle.std.proofs.Common.{◌≡◌, ◌++◌, take}
use Rattle.std.specs.Prelude.{flat_map}
use Rattle.std.specs.List.{AllWithin}
use Rattle.dav_locks.specs.IfText.{later_text, HasToken}
use Rattle.dav_locks.proofs.conditions.append_later.Given as goal

abbrev pub invariant-loop-lock : goal.invariant-loop-lock
invariant-loop-lock l = record {
  text : l.out.items ≡ l.initial.out.items ++ flat_map (later_text l.host) (take l.lock-index l.locks);
  tokens : AllWithin HasToken l.locks 0 l.lock-index;
}
