-- The position of a key among the subscriptions.
use Rattle.std.proofs.Common.{◌≡◌, List, [], ◌∷◌, map, Bool, true, false, cond, Option, Some, None, option_map, Result, Ok, Err, OnOk, refl, sym, ap, ◌∙◌}
use Rattle.std.specs.Result.{IsOk}
use Rattle.std.specs.Map.{lookup, remove_entry}
use Rattle.std.specs.Borrow.{Bor}
use Rattle.std.specs.Option.{is_some, option_copied}
use Rattle.indexmap.specs.IndexMap.{insert_entry}
use Rattle.sdb_oplog.specs.Keys.{plain_key}
use Rattle.sdb_oplog.specs.declared.keys.Key.{Key}
use Rattle.sdb_session.specs.Sessions.{PlainSubscription, QueueId, document_keys_equal, queue_of, insert_subscription, remove_subscription}
use Rattle.sdb_session.specs.View.{queue_id_of, plain_subscription}
use Rattle.sdb_session.specs.declared.subscriptions.Subscription.{Subscription}

abbrev SubscriptionEntries : Type 0
SubscriptionEntries = List (Key × Subscription)

abbrev pub pair_eq : Key → Key → Bool
pair_eq a b = document_keys_equal (plain_key a) (plain_key b)

put_if : (b : Bool) (e : Key × Subscription) (es rest : SubscriptionEntries) (q : Subscription) (subs : List PlainSubscription) → map plain_subscription rest ≡ subs
    → map plain_subscription (cond b ((e.0, q) ∷ es) (e ∷ rest)) ≡ cond b (record { key = plain_key e.0; queue = queue_id_of q } ∷ map plain_subscription es) (plain_subscription e ∷ subs)
put_if true e es rest q subs h = refl
put_if false e es rest q subs h = ap (λ l. plain_subscription e ∷ l) h

pub put_entry : (es : SubscriptionEntries) (k : Key) (q : Subscription) → map plain_subscription (insert_entry pair_eq es k q) ≡ insert_subscription (plain_key k) (queue_id_of q) (map plain_subscription es)
put_entry [] k q = refl
put_entry (e ∷ es) k q = put_if (pair_eq k e.0) e es (insert_entry pair_eq es k q) q (insert_subscription (plain_key k) (queue_id_of q) (map plain_subscription es)) (put_entry es k q)

without_if : (b : Bool) (e : Key × Subscription) (es rest : SubscriptionEntries) (subs : List PlainSubscription) → map plain_subscription rest ≡ subs → map plain_subscription (cond b es (e ∷ rest)) ≡ cond b (map plain_subscription es) (plain_subscription e ∷ subs)
without_if true e es rest subs h = refl
without_if false e es rest subs h = ap (λ l. plain_subscription e ∷ l) h

pub without_entry : (es : SubscriptionEntries) (k : Key) → map plain_subscription (remove_entry (pair_eq k) es) ≡ remove_subscription (plain_key k) (map plain_subscription es)
without_entry [] k = refl
without_entry (e ∷ es) k = without_if (pair_eq k e.0) e es (remove_entry (pair_eq k) es) (remove_subscription (plain_key k) (map plain_subscription es)) (without_entry es k)

queue_if : (b : Bool) (q : Subscription) (o : Option Subscription) (p : Option QueueId) → option_map queue_id_of o ≡ p → option_map queue_id_of (cond b (Some q) o) ≡ cond b (Some (queue_id_of q)) p
queue_if true q o p h = refl
queue_if false q o p h = h

pub queue_entry : (es : SubscriptionEntries) (k : Key) → option_map queue_id_of (lookup (pair_eq k) es) ≡ queue_of (plain_key k) (map plain_subscription es)
queue_entry [] k = refl
queue_entry (e ∷ es) k = queue_if (pair_eq k e.0) e.1 (lookup (pair_eq k) es) (queue_of (plain_key k) (map plain_subscription es)) (queue_entry es k)

some_mapped : (o : Option Subscription) → is_some (option_map queue_id_of o) ≡ is_some o
some_mapped None = refl
some_mapped (Some q) = refl

-- whether a key is subscribed
pub is_there : (es : SubscriptionEntries) (k : Key) → is_some (queue_of (plain_key k) (map plain_subscription es)) ≡ is_some (lookup (pair_eq k) es)
is_there es k = ap is_some (sym (queue_entry es k)) ∙ some_mapped (lookup (pair_eq k) es)

pub from_ok : {A E P : Type 0} (r : Result A E) → IsOk r → OnOk r P → P
from_ok (Ok x) h p = p
from_ok (Err e) h p = cc

pub queue_of_copy : (o : Option (Bor Subscription)) → option_map (λ s. queue_id_of s.now) o ≡ option_map queue_id_of (option_copied o)
queue_of_copy None = refl
queue_of_copy (Some s) = refl
