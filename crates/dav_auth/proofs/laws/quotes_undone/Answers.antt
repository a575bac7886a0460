use Rattle.dav_auth.proofs.QuoteLemmas.{unescape-escape}
use Rattle.dav_auth.proofs.laws.quotes_undone.Goals as goal

pub returns : goal.returns
returns c = unescape-escape
