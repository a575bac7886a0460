use Rattle.std.proofs.Common.{◌≡◌, length}
use Rattle.std.specs.Str.{IsUtf8}
use Rattle.dav_text.specs.Reading.{parts_of, folded}
use Rattle.dav_text.proofs.path.Path.add_parts.Given as goal

abbrev pub invariant-parts : goal.invariant-parts
invariant-parts l = record {
  utf8 : IsUtf8 l.rest;
  parts : folded l.fn.self (parts_of l.fn.text) ≡ folded l.self (parts_of l.rest);
}

abbrev pub decreases-parts : goal.decreases-parts
decreases-parts l = length l.rest
