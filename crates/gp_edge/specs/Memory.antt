-- What contracts see of the source and the sink in memory with chosen calls that fail.
use Rattle.std.specs.Prelude.{ℕ, Bool, cond, List, [], ◌++◌, min, take, drop}
use Rattle.gp_edge.specs.declared.refusal.Refused.{Refused}
use Rattle.gp_edge.specs.declared.refusal.Refused.TheVariants.{Failed, NoMemory}
use Rattle.gp_edge.specs.Calls.{Calls, scheduled, is_to_fail, called}

-- the remaining bytes, the most bytes that one call moves, and the calls
pub record SourceState : Type 0 where
  pub rest : List ℕ
  pub piece : ℕ
  pub calls : Calls

-- the bytes that were written, the most bytes that one call takes, and the calls
pub record SinkState : Type 0 where
  pub written : List ℕ
  pub piece : ℕ
  pub calls : Calls

-- before the first call of a source
abbrev pub source_of : List ℕ → ℕ → List ℕ → SourceState
source_of bytes piece failing = record { rest = bytes; piece = piece; calls = scheduled failing }

-- the most bytes that the next call moves into a piece of `room` bytes
abbrev pub most : SourceState → ℕ → ℕ
most s room = cond (is_to_fail s.calls) 0 (min s.piece room)

-- the bytes that the next call moves
abbrev pub given : SourceState → ℕ → List ℕ
given s room = take (most s room) s.rest

-- after a read into a piece of `room` bytes
abbrev pub after_read : SourceState → ℕ → SourceState
after_read s room = record { rest = drop (most s room) s.rest; piece = s.piece; calls = called s.calls }

-- before the first call of a sink
abbrev pub sink_of : ℕ → List ℕ → SinkState
sink_of piece failing = record { written = []; piece = piece; calls = scheduled failing }

-- the bytes that the next call appends if it is not refused
abbrev pub taken : SinkState → List ℕ → List ℕ
taken s bytes = take s.piece bytes

-- after a write of these bytes, which was accepted or refused
abbrev pub after_write : SinkState → List ℕ → Bool → SinkState
after_write s bytes accepted = record { written = cond accepted (s.written ++ taken s bytes) s.written; piece = s.piece; calls = called s.calls }

-- why the next call is refused, if it is
abbrev pub refusal : SinkState → Refused
refusal s = cond (is_to_fail s.calls) Failed NoMemory
