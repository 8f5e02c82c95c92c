-- The view of the session over lines, between two lines and in the course of a listing.
use Rattle.std.specs.Prelude.{◌≡◌, ℕ, List, Option, Some, None}
use Rattle.sdb_desk.specs.ShardView.{machine_of}
use Rattle.sdb_desk.specs.declared.shard.Shard.{Shard}
use Rattle.sdb_session.specs.Dialogue.{State}
use Rattle.sdb_session.specs.Listing.{TextBegins, entries_left}
use Rattle.sdb_session.specs.ListingView.{plain_listing}
use Rattle.sdb_session.specs.Output.{answer_lines}
use Rattle.sdb_session.specs.View.{plain_session}
use Rattle.sdb_session.specs.laws.SessionLaws.{MachineActs}
use Rattle.sdb_session.specs.declared.listing.Listing.{Listing}
use Rattle.sdb_server.specs.Clocks.{ClockReturns, TimedState}
use Rattle.sdb_server.specs.Runs.{LineState}
use Rattle.sdb_server.specs.declared.line_session.LineSession.{LineSession}

-- the number of entries that are left of a listing
abbrev pub listing_left : Option Listing → ℕ
listing_left None = 0
listing_left (Some l) = entries_left (plain_listing l)

module _ {C : Type 0} where
  abbrev pub state_of : LineSession C → State
  state_of s = record { machine = machine_of s.shard; session = plain_session s.session }

  -- the session's state with the moments that its clock returns next
  abbrev pub timed_by : (C → Option (List ℕ)) → LineSession C → TimedState
  timed_by ahead s = record { state = state_of s; remaining_moments = ahead s.clock }

  abbrev pub line_state : (C → Option (List ℕ)) → LineSession C → LineState
  line_state ahead s = record { table = s.table.now; timed = timed_by ahead s }

  -- the session is in the course of a listing that answers the line, and these are its answers so far
  pub record IsListing (ahead : C → Option (List ℕ)) (s : LineState) (line : Option (List ℕ)) (bytes : List ℕ) (t : LineSession C)
      : Type 0 where
    pub text : List ℕ
    pub now : ℕ
    pub before : Shard
    pub rest : Listing
    pub is_text : line ≡ Some text
    pub is_left : t.listing ≡ Some rest
    pub machine : machine_of before ≡ s.timed.state.machine
    pub session : plain_session t.session ≡ s.timed.state.session
    pub table : t.table.now ≡ s.table
    pub clock : ClockReturns s.timed.remaining_moments now (ahead t.clock)
    pub begins : TextBegins (MachineActs machine_of) text s.table s.timed.state.session before (plain_listing rest)
        (λ answers. bytes ≡ answer_lines answers) t.shard
