use Rattle.std.proofs.Common.{◌≡◌, ◌++◌, take, flat_map}
use Rattle.dav_text.specs.Escape.{xml_byte}
use Rattle.dav_text.proofs.escape.append_xml.Given as goal

abbrev pub invariant-loop-byte : goal.invariant-loop-byte
invariant-loop-byte l = l.out.items ≡ l.initial.out.items ++ flat_map xml_byte (take l.byte-index l.text)
