use Rattle.std.proofs.Common.{ap}
use Rattle.dav_index.specs.Left.{Left}
use Rattle.dav_index.specs.Faults.{entry_path}
use Rattle.dav_index.proofs.WrongLemmas.{wrong_entry}
use Rattle.dav_index.proofs.ReadingLemmas.{field_wrong_at}
use Rattle.dav_index.proofs.reader.Reader.entry_path.Goals as goal

pub returns-in-None : goal.returns-in-None
returns-in-None c =
    let none = rw c.in-None.is at c.in_ok-path.ensures in
    let was = c.in_ok-text.ensures in
    λ _. field_wrong_at entry_path c.self.inside.at c.args.self.now (ap (λ (l : Left). l.at) c.self.view_is)
    (wrong_entry c.in_ok-text.text.now c.args.self.now.rest was.0 (c.sized.new.self.rest, was.1.split) none)
