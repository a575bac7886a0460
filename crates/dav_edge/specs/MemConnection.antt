-- What contracts see of the connections of a wire in memory.
use Rattle.std.specs.Prelude.{map, option_map, string_bytes}
use Rattle.dav_edge.specs.Connections.{Connection, connection, Connections, with_standing}
use Rattle.dav_edge.specs.declared.mem_connection.MemConnection.{MemConnection}
use Rattle.dav_edge.specs.declared.mem_connection.Made.{Made}

abbrev pub connection_of : MemConnection → Connection
connection_of c = connection (string_bytes c.host) c.port c.sent.items c.received.items

abbrev pub seen : Made → Connections
seen m = with_standing (map connection_of m.ended.items) (option_map connection_of m.standing)
