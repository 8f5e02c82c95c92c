-- The outcome of a handler, by what it reads.
use Rattle.std.specs.Prelude.{ℕ, List, Option, Result}
use Rattle.sdb_oplog.specs.Keys.{PlainKey}
use Rattle.sdb_submit.specs.SubmitLoop.{CallRelation}
use Rattle.sdb_wire.specs.Wire.{PlainRequest}
use Rattle.sdb_wire.specs.Answers.{PlainAnswer}
use Rattle.sdb_session.specs.Listing.{PlainListing, RequestPart}
use Rattle.sdb_session.specs.PolicyModel.{PlainPolicy}
use Rattle.sdb_session.specs.Sessions.{PlainSession}
use Rattle.sdb_session.specs.View.{echo_of_message}
use Rattle.sdb_session.specs.declared.context.Context.{Context}

-- the policy of a context: the projections of its table, and the submissions that its policy allows
abbrev pub policy_of_context : {D L : Type 0} → (L → PlainPolicy) → Context D L → PlainPolicy
policy_of_context plain c = record { projections = c.table.now; allows = (plain c.policy.now).allows }

module _ {D L P E : Type 0} (step : D → PlainKey → CallRelation P) (number : D → P → ℕ) (plain : L → PlainPolicy) where
  -- the request is answered, or has opened a listing of which entries are left
  abbrev pub RequestHandled : Context D L → PlainSession → PlainRequest → P → Result (Option PlainListing) E
      → (List PlainAnswer → Type 0) → PlainSession → P → Type 0
  RequestHandled c s r p result says new q =
      RequestPart (step c.desk.now) (echo_of_message c.message) (policy_of_context plain c) (number c.desk.now p) c.moment
      s r p result says new q
