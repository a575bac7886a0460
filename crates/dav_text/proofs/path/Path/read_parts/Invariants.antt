use Rattle.std.proofs.Common.{◌≡◌, ◌+◌, length, map}
use Rattle.std.specs.Str.{IsUtf8}
use Rattle.percent_encoding.specs.Percent.{percent_decode}
use Rattle.dav_text.specs.Reading.{parts_of, folded, not_text_from}
use Rattle.dav_text.proofs.path.Path.read_parts.Given as goal

abbrev pub invariant-parts : goal.invariant-parts
invariant-parts l = record {
  utf8 : IsUtf8 l.rest;
  texts : not_text_from 1 (parts_of l.fn.text) ≡ not_text_from l.at (parts_of l.rest);
  parts : folded l.fn.self (map percent_decode (parts_of l.fn.text)) ≡ folded l.self (map percent_decode (parts_of l.rest));
  place : l.at + length l.rest ≡ length l.fn.text + 1;
}

abbrev pub decreases-parts : goal.decreases-parts
decreases-parts l = length l.rest
