-- What contracts see of the devices in memory.
use Rattle.std.specs.Prelude.{◌≡◌, ◌++◌, ℕ, List, length, max, Option, Some, None, IsSome}
use Rattle.std.specs.Option.{option_to_list}
use Rattle.dav_edge.specs.Device.{DeviceLog}
use Rattle.dav_edge.specs.History.{log_of}
use Rattle.dav_edge.specs.Stream.{bytes_left}
use Rattle.dav_edge.specs.declared.schedule.Schedule.{Schedule}
use Rattle.dav_edge.specs.declared.stream.Stream.{Stream}
use Rattle.dav_edge.specs.declared.mem_source.MemSource.{MemSource}
use Rattle.dav_edge.specs.declared.mem_sink.MemSink.{MemSink}
use Rattle.dav_edge.specs.declared.mem_wire.MemWire.{MemWire}

abbrev pub source_log : MemSource → DeviceLog
source_log s = log_of s.history

abbrev pub source_schedule : MemSource → Schedule
source_schedule s = s.schedule

abbrev pub source_stream : MemSource → Stream
source_stream s = s.stream

abbrev pub source_rest : MemSource → ℕ
source_rest s = length (bytes_left s.stream)

abbrev pub sink_log : MemSink → DeviceLog
sink_log s = log_of s.history

abbrev pub sink_schedule : MemSink → Schedule
sink_schedule s = s.schedule

-- the bytes that it took
abbrev pub bytes_written : MemSink → List ℕ
bytes_written s = s.written.items

-- the most bytes that one call takes
abbrev pub most_put : MemSink → ℕ
most_put s = max s.most 1

abbrev pub wire_log : MemWire → DeviceLog
wire_log w = log_of w.history

abbrev pub wire_schedule : MemWire → Schedule
wire_schedule w = w.schedule

-- the most bytes that one call sends
abbrev pub most_sent : MemWire → ℕ
most_sent w = max w.most 1

-- the streams that no connect took yet
abbrev pub streams_left : MemWire → List Stream
streams_left w = w.waiting.items

-- the stream of the connection that stands
abbrev pub standing_stream : MemWire → Option Stream
standing_stream w = w.standing

-- what the connection that stands can still give
abbrev pub standing_rest : Option Stream → ℕ
standing_rest None = 0
standing_rest (Some s) = length (bytes_left s)

abbrev pub wire_rest : MemWire → ℕ
wire_rest w = standing_rest w.standing

-- the connection that begins gives the next stream
pub record TakesNext (old new : MemWire) : Type 0 where
  pub stands : IsSome new.standing
  pub next : old.waiting.items ≡ option_to_list new.standing ++ new.waiting.items

-- the same streams are left, and the same connection stands
pub record SameStreams (old new : MemWire) : Type 0 where
  pub left : new.waiting ≡ old.waiting
  pub standing : new.standing ≡ old.standing

-- the same streams are left, and no connection stands
pub record NoneStands (old new : MemWire) : Type 0 where
  pub left : new.waiting ≡ old.waiting
  pub standing : new.standing ≡ None
