-- The answers of a session are the machine's messages.
use Rattle.std.proofs.Common.{◌≡◌, ℕ, List, [], ◌∷◌, ◌++◌, map, drop, Bool, true, false, cond, not, Option, Some, None, refl, sym, ap, ◌∙◌}
use Rattle.sdb_oplog.specs.Plain.{PlainEntry}
use Rattle.sdb_oplog.specs.Keys.{PlainKey}
use Rattle.sdb_oplog.specs.Decide.{PlainReply, stored, repeated, refused}
use Rattle.sdb_oplog.specs.declared.codes.Code.{Code}
use Rattle.sdb_wire.specs.Wire.{PlainEcho}
use Rattle.sdb_wire.specs.Answers as wire
use Rattle.sdb_session.specs.Responses as session
use Rattle.sdb_session.specs.Responses.{entry_answers}
use Rattle.sdb_session.specs.PumpModel as pump
use Rattle.sdb_client_model.specs.Messages.{ServerMessage, op_message, caught_up, acknowledged, submit_answers, is_own_entry, subscription_messages}
use Rattle.sdb_client_model.specs.SessionMessages.{answer_of, RefusesOnlyWith, SubmissionsAreAnsweredAlike, SubscriptionsAreAnsweredAlike, EntriesArePumpedAlike}

module _ (k : PlainKey) (source : List ℕ) (e : PlainEcho) (code : Code) where
  map_append :
      (xs ys : List ServerMessage)
      → map (answer_of k source e code) (xs ++ ys)
      ≡ map (answer_of k source e code) xs ++ map (answer_of k source e code) ys
  map_append [] ys = refl
  map_append (x ∷ xs) ys = ap (λ l. answer_of k source e code x ∷ l) (map_append xs ys)

  entries : (es : List PlainEntry) → entry_answers None k es ≡ map (answer_of k source e code) (map op_message es)
  entries [] = refl
  entries (x ∷ es) = ap (λ l. wire.op_message k x ∷ l) (entries es)

  submission :
      (seq : ℕ) (r : PlainReply) → RefusesOnlyWith code r
      → session.submit_answers e None k source seq r ≡ map (answer_of k source e code) (submit_answers seq r)
  submission seq (stored v missed) h =
      ap (λ l. l ++ wire.acknowledged k source seq v ∷ []) (entries missed)
      ∙ sym (map_append (map op_message missed) (acknowledged seq v ∷ []))
  submission seq (repeated v) h = refl
  submission seq (refused other) h = ap (λ c. wire.failed e c ∷ []) h

  pushed :
      (by : ℕ) (x : PlainEntry) (b : Bool) → pump.is_own_entry by source k x ≡ b
      → entry_answers None k (pump.entries_of_others by source k (x ∷ []))
      ≡ map (answer_of k source e code) (subscription_messages by source k.collection x)
  pushed by x true is =
      ap (λ c. entry_answers None k (cond (not c) (x ∷ []) [])) is
      ∙ sym (ap (λ c. map (answer_of k source e code) (cond c [] (op_message x ∷ []))) is)
  pushed by x false is =
      ap (λ c. entry_answers None k (cond (not c) (x ∷ []) [])) is
      ∙ sym (ap (λ c. map (answer_of k source e code) (cond c [] (op_message x ∷ []))) is)

pub submissions_are_answered_alike : SubmissionsAreAnsweredAlike
submissions_are_answered_alike k source e code seq r h = submission k source e code seq r h

pub subscriptions_are_answered_alike : SubscriptionsAreAnsweredAlike
subscriptions_are_answered_alike k source e code log v j first =
    ap (λ l. entry_answers None k l ++ wire.caught_up k ∷ []) first
    ∙ ap (λ l. l ++ wire.caught_up k ∷ []) (entries k source e code (drop v log))
    ∙ sym (map_append k source e code (map op_message (drop v log)) (caught_up ∷ []))

pub entries_are_pumped_alike : EntriesArePumpedAlike
entries_are_pumped_alike k source e code by x = pushed k source e code by x (pump.is_own_entry by source k x) refl
