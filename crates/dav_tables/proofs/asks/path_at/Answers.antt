use Rattle.dav_text.proofs.RoundTrip.{read_path}
use Rattle.dav_tables.proofs.asks.path_at.Goals as goal

pub returns-in-Ok : goal.returns-in-Ok
returns-in-Ok c = read_path c.args.text.now c.in-Ok.path c.in-Ok.ensures
