use Rattle.std.proofs.Common.{refl}
use Rattle.dav_doc.proofs.laws.bad_places.Goals as goal

pub returns : goal.returns
returns c = record { end_tag = (refl, refl); end_name = (refl, refl); nothing_open = (refl, refl); prefix = (refl, refl); empty_prefix = (refl, refl); taken_away = (refl, refl); bracket = (refl, refl); dashes = (refl, refl); target = (refl, refl); declaration = (refl, refl); late_declaration = (refl, refl); number = (refl, refl); not_allowed = (refl, refl); name = (refl, refl); after_root = (refl, refl); doctype = (refl, refl) }
