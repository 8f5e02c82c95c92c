-- Examples: queues of a growing log.
use Rattle.std.specs.Prelude.{◌≡◌, ℕ, List, [], ◌∷◌, map, take, Option, Some, None, Err, option_map, unwrap_or, codes, refl}
use Rattle.std.specs.Result.{result_ok}
use Rattle.sdb_oplog.specs.Plain.{delete, PlainEntry}
use Rattle.sdb_oplog.specs.declared.codes.Code.TheVariants.{E11}
use Rattle.sdb_subscribe.specs.Queue.{PlainQueue, PlainQueues, open_queue, take_result, queues_after_take, remove_queue, take_result_by, queues_after_take_by, remove_queue_by}
use Rattle.sdb_subscribe.specs.Ring.{RingedQueue, advance_ringed_queue}

abbrev entry : ℕ → PlainEntry
entry n =
    record {
      version = n;
      content = delete;
      moment = 0;
      arrived = record { src = codes "x"; seq = n; version = None; content = delete; via = codes "b"; by = 0 };
    }

-- the log with this many entries
abbrev log : ℕ → List PlainEntry
log n = take n (entry 0 ∷ entry 1 ∷ entry 2 ∷ [])

abbrev versions : Option (List PlainEntry) → Option (List ℕ)
versions = option_map (map (λ e. e.version))

-- two queues: owner 3 from version 1 on, and owner 4 from version 5 on
abbrev none_open : PlainQueues
none_open = record { next = 0; queues = [] }

abbrev one_open : PlainQueues
one_open = unwrap_or (result_ok (open_queue 3 1 none_open)) none_open

abbrev two_open : PlainQueues
two_open = unwrap_or (result_ok (open_queue 4 5 one_open)) none_open

abbrev start : List (ℕ × PlainQueue)
start = two_open.queues

pub row_numbers : two_open.next ≡ 2
row_numbers = refl

-- the first reads version 1, then nothing, then version 2 after it is stored
pub row_first : versions (take_result (log 2) 0 10 start) ≡ Some (1 ∷ [])
row_first = refl

abbrev later : List (ℕ × PlainQueue)
later = queues_after_take (log 2) 0 10 start

pub row_none : versions (take_result (log 2) 0 10 later) ≡ Some []
row_none = refl

pub row_next : versions (take_result (log 3) 0 10 later) ≡ Some (2 ∷ [])
row_next = refl

-- a take returns at most the requested number
pub row_most : versions (take_result (log 3) 0 1 start) ≡ Some (1 ∷ [])
row_most = refl

-- the second waits for the log to reach its start
pub row_beyond : versions (take_result (log 3) 1 10 later) ≡ Some []
row_beyond = refl

-- no queue has number 2, nor number 0 after it is closed
pub row_unknown : versions (take_result (log 3) 2 10 start) ≡ None
row_unknown = refl

pub row_closed : versions (take_result (log 3) 0 10 (remove_queue 0 start)) ≡ None
row_closed = refl

pub row_other : versions (take_result (log 3) 1 10 (remove_queue 0 start)) ≡ Some []
row_other = refl

-- owner 4 doesn't know the first queue: it can neither read nor close it
pub row_of_another : versions (take_result_by (log 3) 4 0 10 start) ≡ None
row_of_another = refl

pub row_own : versions (take_result_by (log 2) 3 0 10 start) ≡ Some (1 ∷ [])
row_own = refl

pub row_stands : queues_after_take_by (log 3) 4 0 10 start ≡ start
row_stands = refl

pub row_left_open : remove_queue_by 4 0 start ≡ start
row_left_open = refl

-- the numbers are used up
pub row_used_up : open_queue 3 0 (record { next = 18446744073709551615; queues = [] }) ≡ Err E11
row_used_up = refl

-- a ring buffer with versions 1 and 2 is unchanged while version 0 is read, and then gives its first entry
abbrev ringed : RingedQueue
ringed = record { queue = record { start = 0; taken = 0; by = 3 }; ring = entry 1 ∷ entry 2 ∷ [] }

pub row_before_ring : (advance_ringed_queue (log 3) 1 ringed).ring ≡ entry 1 ∷ entry 2 ∷ []
row_before_ring = refl

pub row_out_of_ring : (advance_ringed_queue (log 3) 2 ringed).ring ≡ entry 2 ∷ []
row_out_of_ring = refl
