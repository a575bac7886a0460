use Rattle.std.proofs.Common.{ap, ◌∙◌}
use Rattle.dav_auth.specs.Clean.{is_clean}
use Rattle.dav_auth.proofs.CleanLemmas.{clean_digits}
use Rattle.dav_auth.proofs.hashes.digits.Goals as goal

pub returns-clause-clean : goal.returns-clause-clean
returns-clause-clean c = ap is_clean (c.from_string.ensures ∙ c.in_ok-text.ensures) ∙ clean_digits c.args.bytes.now (λ k. (c.type_inv.bytes k).fits)
