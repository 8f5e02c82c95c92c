-- Lines of the dialogue, from the outputs of the session's calls.
use Rattle.std.proofs.Common.{◌≡◌, ℕ, false, true, List, [], ◌∷◌, ◌++◌, Option, Some, None, Result, Ok, Err, refl, sym, ap, ◌∙◌, subst, append_assoc}
use Rattle.sdb_lines.specs.Runs.{AppendsWhere, AnswersLine}
use Rattle.sdb_oplog.specs.Keys.{PlainKey, no_logs}
use Rattle.sdb_oplog.specs.declared.codes.Code.{Code}
use Rattle.sdb_oplog.specs.declared.codes.Code.TheVariants.{E1}
use Rattle.sdb_desk.specs.Machine.{Machine, no_queues}
use Rattle.sdb_desk.specs.ShardView.{machine_of}
use Rattle.sdb_desk.specs.declared.shard.Shard.{Shard}
use Rattle.sdb_projection.specs.Table.{PlainProjection}
use Rattle.sdb_submit.specs.SubmitLoop.{CallRelation, entries_of}
use Rattle.sdb_wire.specs.Wire.{PlainRequest, empty_echo, parse_message}
use Rattle.sdb_wire.specs.Answers.{PlainAnswer, failed}
use Rattle.sdb_session.specs.Dialogue.{State, ok, transition_of_line, pump_transition, line_transition, first_state}
use Rattle.sdb_session.specs.Listing.{PlainListing, MessageBegins, TextBegins}
use Rattle.sdb_session.specs.ListingView.{plain_listing}
use Rattle.sdb_session.specs.Output.{answer_lines, answer_line}
use Rattle.sdb_session.specs.ProjectionModel.{projection_of_key}
use Rattle.sdb_session.specs.PolicyModel.{table_policy}
use Rattle.sdb_session.specs.Responses.{entry_answers, TextOutcome}
use Rattle.sdb_session.specs.Sessions.{PlainSession}
use Rattle.sdb_session.specs.View.{plain_session, WroteAnswers}
use Rattle.sdb_session.specs.laws.SessionLaws.{MachineActs, AnswersSplit, answers_output, begun_output, pieces_append, state_at}
use Rattle.sdb_session.specs.declared.listing.Listing.{Listing}
use Rattle.sdb_server.specs.LineSource.{own_source}
use Rattle.sdb_server.specs.Clocks.{ClockReturns}
use Rattle.sdb_server.specs.LineView.{IsListing, line_state, state_of}
use Rattle.sdb_server.specs.Runs.{LineState, HandlesLine, first_line_state}
use Rattle.sdb_server.specs.declared.line_session.LineSession.{LineSession}

-- ---- unreadable lines

-- the refusal of an unreadable line, followed by the entries that are pushed
pub unreadable_line : (s : LineState) (now : ℕ) (ahead : Option (List ℕ)) (old between new : List ℕ) (mid last : State)
    → between ≡ old ++ answer_lines (failed empty_echo E1 ∷ []) → mid ≡ s.timed.state → new ≡ between ++ answer_lines (pump_transition s.table mid).answers
    → last ≡ (pump_transition s.table mid).state → ClockReturns s.timed.remaining_moments now ahead
    → AppendsWhere old new (λ answer. HandlesLine s None answer (record { table = s.table; timed = record { state = last; remaining_moments = ahead } }))
unreadable_line s now ahead old between new mid last e is f after clock =
    let st = s.timed.state in
    let pumped = (pump_transition s.table mid).answers in
    let first = answer_lines (failed empty_echo E1 ∷ []) in
    let all : first ++ answer_lines pumped ≡ answer_lines (line_transition s.table st now ok None).answers =
    ap (λ (x : State). first ++ answer_lines (pump_transition s.table x).answers) is
    ∙ sym (pieces_append answer_line (failed empty_echo E1 ∷ []) (pump_transition s.table st).answers) in (
      first ++ answer_lines pumped,
      f ∙ ap (λ l. l ++ answer_lines pumped) e ∙ append_assoc old first (answer_lines pumped),
      (
        record { now = now; clock_returns = clock; dialogue = record { memory = ok; written = all; left = after ∙ ap (λ (x : State). (pump_transition s.table x).state) is } },
        refl,
      ),
    )

-- a state without documents and subscriptions is the first state
first_is : (m : Machine) (s : PlainSession) (source : List ℕ) → m.logs ≡ no_logs → m.queues ≡ (λ k. no_queues) → s.source ≡ source → s.subs ≡ [] → ◌≡◌ {A = State} (record { machine = m; session = s }) (first_state source)
first_is m s source l q e n = λ i. record { machine = record { logs = l i; queues = q i }; session = record { source = e i; subs = n i } }

pub first_line : (m : Machine) (s : PlainSession) → m.logs ≡ no_logs → m.queues ≡ (λ k. no_queues) → s.source ≡ own_source → s.subs ≡ [] → (t : List PlainProjection) (ahead : Option (List ℕ))
    → ◌≡◌ {A = LineState} (record { table = t; timed = record { state = record { machine = m; session = s }; remaining_moments = ahead } }) (first_line_state t ahead)
first_line m s l q e n t ahead = ap (λ x. record { table = t; timed = record { state = x; remaining_moments = ahead } }) (first_is m s own_source l q e n)

-- ---- listings

module _ (t : List PlainProjection) (s : PlainSession) (before : Shard) where
  abbrev Solos : PlainKey → CallRelation Shard
  Solos = MachineActs machine_of

  -- answers that satisfy one property satisfy another
  begins_other : (request : Result PlainRequest Code) (rest : PlainListing) (f g : List PlainAnswer → Type 0) (q : Shard) → ((a : List PlainAnswer) → f a → g a)
      → MessageBegins Solos request t s before rest f q → MessageBegins Solos request t s before rest g q
  begins_other (Ok r) rest f g q other h = record {
    opened = h.opened;
    between = h.between;
    opens = h.opens;
    continues = record {
      batches = h.continues.batches;
      reads = h.continues.reads;
      advances = h.continues.advances;
      some_left = h.continues.some_left;
      said = other _ h.continues.said;
    };
  }
  begins_other (Err code) rest f g q other h = absurd h

  -- the answers so far
  begins_front : (request : Result PlainRequest Code) (rest : PlainListing) (f : List PlainAnswer → Type 0) (q : Shard) → MessageBegins Solos request t s before rest f q
      → (front : List PlainAnswer) × (f front × MessageBegins Solos request t s before rest (λ a. a ≡ front) q)
  begins_front (Ok r) rest f q h = (
    entry_answers (projection_of_key t h.opened.key) h.opened.key (entries_of h.continues.batches),
    (
      h.continues.said,
      record {
        opened = h.opened;
        between = h.between;
        opens = h.opens;
        continues = record {
          batches = h.continues.batches;
          reads = h.continues.reads;
          advances = h.continues.advances;
          some_left = h.continues.some_left;
          said = refl;
        };
      },
    ),
  )
  begins_front (Err code) rest f q h = absurd h

-- the bytes of a part of an answer, after those of its first parts
abbrev pub WroteMore : List ℕ → List ℕ → List ℕ → List PlainAnswer → Type 0
WroteMore front old new a = (more : List ℕ) × ((new ≡ old ++ more) × (front ++ more ≡ answer_lines a))

pub wrote_more : (front old new : List ℕ) (a b : List PlainAnswer) → front ≡ answer_lines a → WroteAnswers answer_line old new b → WroteMore front old new (a ++ b)
wrote_more front old new a b e h =
    (answer_lines b, (h, ap (λ l. l ++ answer_lines b) e ∙ sym (pieces_append answer_line a b)))

pub wrote_first : (old new : List ℕ) (a : List PlainAnswer) → WroteAnswers answer_line old new a → WroteMore [] old new a
wrote_first old new a h = (answer_lines a, (h, refl))

-- what is left of the answer to a line, if no allocation fails
line_rest : (s : LineState) (text : List ℕ) (now : ℕ) (ahead : Option (List ℕ)) (bytes : List ℕ) → ClockReturns s.timed.remaining_moments now ahead
    → AnswersSplit (transition_of_line s.table s.timed.state now ok (Some text)).answers (λ a. bytes ≡ answer_lines a)
    → (rest : List ℕ) × (last : LineState) × HandlesLine s (Some text) (bytes ++ rest) last
line_rest s text now ahead bytes clock a =
    let st = s.timed.state in
    let h = transition_of_line s.table st now ok (Some text) in
    let pumped = (pump_transition s.table h.state).answers in
    let all : bytes ++ (answer_lines a.more ++ answer_lines pumped) ≡ answer_lines (line_transition s.table st now ok (Some text)).answers =
    sym (append_assoc bytes (answer_lines a.more) (answer_lines pumped))
    ∙ ap (λ l. (l ++ answer_lines a.more) ++ answer_lines pumped) a.said
    ∙ ap (λ l. l ++ answer_lines pumped) (sym (pieces_append answer_line a.front a.more))
    ∙ ap (λ l. answer_lines l ++ answer_lines pumped) (sym a.split)
    ∙ sym (pieces_append answer_line h.answers pumped) in
    let last : LineState = record { table = s.table; timed = record { state = (line_transition s.table st now ok (Some text)).state; remaining_moments = ahead } } in (
      answer_lines a.more ++ answer_lines pumped,
      last,
      (
        record { now = now; clock_returns = clock; dialogue = record { memory = ok; written = all; left = refl } },
        refl,
      ),
    )

module _ {C : Type 0} (ahead : C → Option (List ℕ)) (s : LineState) (text : List ℕ) (now : ℕ) (before : Shard) (same : machine_of before ≡ s.timed.state.machine) where
  -- the state before the line, by the shard then
  is_state : ◌≡◌ {A = State} (state_at machine_of before s.timed.state.session) s.timed.state
  is_state = ap (λ (m : Machine). record { machine = m; session = s.timed.state.session }) same

  -- the session has written a part of its answer to the line, and the listing is left
  pub line_part : (front old new : List ℕ) (says : List PlainAnswer → Type 0) (more : (a : List PlainAnswer) → says a → WroteMore front old new a) (t : LineSession C) (rest : Listing) → t.listing ≡ Some rest → plain_session t.session ≡ s.timed.state.session → t.table.now ≡ s.table
      → ClockReturns s.timed.remaining_moments now (ahead t.clock)
      → TextBegins (MachineActs machine_of) text s.table s.timed.state.session before (plain_listing rest) says t.shard
      → AppendsWhere old new (λ bytes. AnswersLine HandlesLine (IsListing ahead) (line_state ahead) false s (Some text) (front ++ bytes) t)
  line_part front old new says f t rest left session table clock h =
      let request = (parse_message text).request in
      let (answers, (said, exact)) = begins_front s.table s.timed.state.session before request (plain_listing rest) says t.shard h in
      let (more, (wrote, is)) = f answers said in
      let begins = begins_other s.table s.timed.state.session before request (plain_listing rest) (λ a. a ≡ answers) (λ a. front ++ more ≡ answer_lines a) t.shard (λ a e. is ∙ ap answer_lines (sym e)) exact in
      let split = begun_output machine_of text s.table now s.timed.state.session before (plain_listing rest) (λ a. front ++ more ≡ answer_lines a) t.shard begins in
      let S : State → Type 0 = λ x. AnswersSplit (transition_of_line s.table x now ok (Some text)).answers (λ a. front ++ more ≡ answer_lines a) in (
        more,
        wrote,
        (
          record {
            text = text;
            now = now;
            before = before;
            rest = rest;
            is_text = refl;
            is_left = left;
            machine = same;
            session = session;
            table = table;
            clock = clock;
            begins = begins;
          },
          line_rest s text now (ahead t.clock) (front ++ more) clock (subst S is_state split),
        ),
      )

  -- the session has written the whole answer to the line, and pumped its queues
  pub line_whole : (front old between new : List ℕ) (says : List PlainAnswer → Type 0) (more : (a : List PlainAnswer) → says a → WroteMore front old between a) (mid last : State) (t : LineSession C) (q : Shard) (session : PlainSession)
      → TextOutcome (MachineActs machine_of) text (table_policy s.table) 0 now s.timed.state.session before says session q
      → mid ≡ state_at machine_of q session → new ≡ between ++ answer_lines (pump_transition s.table mid).answers → last ≡ (pump_transition s.table mid).state
      → last ≡ state_of t → t.table.now ≡ s.table → ClockReturns s.timed.remaining_moments now (ahead t.clock)
      → AppendsWhere old new (λ bytes. AnswersLine HandlesLine (IsListing ahead) (line_state ahead) true s (Some text) (front ++ bytes) t)
  line_whole front old between new says f mid last t q session h is pumps after now_is table clock =
      let (w, (said, state)) = answers_output machine_of text s.table now s.timed.state.session before says session q h in
      let (more, (wrote, answers)) = f (transition_of_line s.table (state_at machine_of before s.timed.state.session) now w (Some text)).answers said in
      let X : State → Type 0 = λ x. (front ++ more ≡ answer_lines (transition_of_line s.table x now w (Some text)).answers) × (mid ≡ (transition_of_line s.table x now w (Some text)).state) in
      let (first, mid_is) = subst X is_state (answers, is ∙ state) in
      let tr = transition_of_line s.table s.timed.state now w (Some text) in
      let pumped = (pump_transition s.table mid).answers in
      let all : (front ++ (more ++ answer_lines pumped)) ≡ answer_lines (line_transition s.table s.timed.state now w (Some text)).answers =
      sym (append_assoc front more (answer_lines pumped))
      ∙ ap (λ l. l ++ answer_lines pumped) first
      ∙ ap (λ (x : State). answer_lines tr.answers ++ answer_lines (pump_transition s.table x).answers) mid_is
      ∙ sym (pieces_append answer_line tr.answers (pump_transition s.table tr.state).answers) in (
        more ++ answer_lines pumped,
        pumps ∙ ap (λ l. l ++ answer_lines pumped) wrote ∙ append_assoc old more (answer_lines pumped),
        (
          record {
            now = now;
            clock_returns = clock;
            dialogue = record { memory = w; written = all; left = sym now_is ∙ after ∙ ap (λ (x : State). (pump_transition s.table x).state) mid_is };
          },
          table,
        ),
      )
