-- The output of a session over lines, for a clock with given moments.
use Rattle.std.specs.Prelude.{◌≡◌, ℕ, List, Option}
use Rattle.sdb_lines.specs.Runs.{AppendsAnswers, AppendsAnswerPrefix}
use Rattle.sdb_projection.specs.Table.{PlainProjection}
use Rattle.sdb_session.specs.Dialogue.{first_state, opening}
use Rattle.sdb_server.specs.Clocks.{TimedState, TimedDialogue}
use Rattle.sdb_server.specs.LineSource.{own_source}

-- the projections, and the session's state with the moments that its clock returns next
pub record LineState : Type 0 where
  pub table : List PlainProjection
  pub timed : TimedState

-- a session without documents
abbrev pub first_line_state : List PlainProjection → Option (List ℕ) → LineState
first_line_state table ahead =
    record { table = table; timed = record { state = first_state own_source; remaining_moments = ahead } }

-- the line is answered by `Dialogue`, at the clock's moment, and the projections are unchanged
abbrev pub HandlesLine : LineState → Option (List ℕ) → List ℕ → LineState → Type 0
HandlesLine s line answer t = TimedDialogue s.table s.timed line answer t.timed × (t.table ≡ s.table)

abbrev pub opening_of : LineState → List ℕ
opening_of s = opening s.timed.state.session.source

-- the output is extended by the opening message and the answers to all lines
abbrev pub WroteSession : LineState → List (Option (List ℕ)) → LineState → Option (List ℕ) → Option (List ℕ) → Type 0
WroteSession s lines t old new = AppendsAnswers HandlesLine s lines t (opening_of s) old new

-- the output is extended by a prefix of the opening message and the answers
abbrev pub WroteSessionPrefix : LineState → List (Option (List ℕ)) → Option (List ℕ) → Option (List ℕ) → Type 0
WroteSessionPrefix s lines old new = AppendsAnswerPrefix HandlesLine s lines (opening_of s) old new
