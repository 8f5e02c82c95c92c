-- A session: its source and its subscriptions.
use Rattle.std.specs.Prelude.{ℕ, List, [], ◌∷◌, length, Bool, not, ◌&&◌, if◌then◌else◌, nat_le, bytes_eq, Option, Some, None, unwrap_or}
use Rattle.std.specs.Option.{is_some}
use Rattle.sdb_oplog.specs.Keys.{PlainKey}

-- a queue: its document's key and its number there
pub record QueueId : Type 0 where
  pub base : PlainKey
  pub id : ℕ

-- the key by which a client subscribed, and the queue
pub record PlainSubscription : Type 0 where
  pub key : PlainKey
  pub queue : QueueId

-- a session; its subscriptions are in the order in which they were made
pub record PlainSession : Type 0 where
  pub source : List ℕ
  pub subs : List PlainSubscription

abbrev pub document_keys_equal : PlainKey → PlainKey → Bool
document_keys_equal a b = bytes_eq a.collection b.collection && bytes_eq a.id b.id

-- the queue of a key
abbrev pub queue_of : PlainKey → List PlainSubscription → Option QueueId
queue_of k [] = None
queue_of k (s ∷ subs) = if document_keys_equal k s.key then Some s.queue else queue_of k subs

-- the queue of a key is set: an existing key keeps its position, a new one goes last
abbrev pub insert_subscription : PlainKey → QueueId → List PlainSubscription → List PlainSubscription
insert_subscription k q [] = record { key = k; queue = q } ∷ []
insert_subscription k q (s ∷ subs) = if document_keys_equal k s.key then record { key = s.key; queue = q } ∷ subs else s ∷ insert_subscription k q subs

-- the subscriptions without this key
abbrev pub remove_subscription : PlainKey → List PlainSubscription → List PlainSubscription
remove_subscription k [] = []
remove_subscription k (s ∷ subs) = if document_keys_equal k s.key then subs else s ∷ remove_subscription k subs

-- maximum number of subscriptions of one session
abbrev pub subscription_limit : ℕ
subscription_limit = 64

-- whether the limit excludes a new key
abbrev pub is_subscription_full : PlainKey → List PlainSubscription → Bool
is_subscription_full k subs = not (is_some (queue_of k subs)) && nat_le subscription_limit (length subs)

abbrev pub with_source : PlainSession → Option (List ℕ) → PlainSession
with_source s n = record { source = unwrap_or n s.source; subs = s.subs }

abbrev pub with_subscription : PlainSession → PlainKey → QueueId → PlainSession
with_subscription s k q = record { source = s.source; subs = insert_subscription k q s.subs }

abbrev pub without_subscription : PlainSession → PlainKey → PlainSession
without_subscription s k = record { source = s.source; subs = remove_subscription k s.subs }
