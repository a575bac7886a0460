-- What a collector has gathered.
use Rattle.dav_walk.specs.Gathering.{Gathering}
use Rattle.dav_walk.specs.declared.collector.Collector.{Collector}

abbrev pub gathering_of : Collector → Gathering
gathering_of c = record { root = c.root; items = c.gathered; opened = c.opened; held = c.held; owed = c.owed; index = c.index }
