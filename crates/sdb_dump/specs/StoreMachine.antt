-- A server that saves its documents, as a reference machine with one thread.
use Rattle.std.specs.Prelude.{◌≡◌, ◌⊎◌, ℕ, List, [], ◌∷◌, ◌++◌, map, cond, nat_eq}
use Rattle.sdb_oplog.specs.Plain.{PlainEntry, PlainSubmission}
use Rattle.sdb_oplog.specs.Decide.{decide}
use Rattle.sdb_oplog.specs.Keys.{PlainKey, Logs, with_log, shard_of}
use Rattle.sdb_dump.specs.DumpText.{PlainLine}
use Rattle.sdb_dump.specs.JournalText.{JournalItem, journal_entry, number_block, entries_of, logs_of_items}

-- x is an item of the list
abbrev pub IsIn : {A : Type 0} → A → List A → Type 0
IsIn x [] = ⊥
IsIn x (y ∷ ys) = (x ≡ y) ⊎ IsIn x ys

pub record StoreState : Type 0 where
  -- the logs in memory
  pub logs : Logs
  -- the entries that aren't saved, in the order of storing
  pub unsaved : List PlainLine
  pub file : List JournalItem
  -- the entries that clients were sent
  pub sent : List PlainLine

-- the server that starts with an empty file
abbrev pub new_store : StoreState
new_store = record { logs = λ k. []; unsaved = []; file = []; sent = [] }

pub data StoreStep : Type 0 where
  -- a submission of a key is decided at a moment
  submit : PlainKey → PlainSubmission → ℕ → StoreStep
  -- the entries of a shard are saved; a group has those of each shard in turn
  save : ℕ → StoreStep
  -- numbers up to this one may be given to sessions
  reserve : ℕ → StoreStep
  -- a client is sent an entry
  send : PlainLine → StoreStep
  -- the server is cut off, and starts with the file
  restart : StoreStep

-- one more entry is stored
abbrev pub with_entry : StoreState → PlainLine → StoreState
with_entry s x =
    record {
      logs = with_log s.logs x.key (s.logs x.key ++ x.entry ∷ []);
      unsaved = s.unsaved ++ x ∷ [];
      file = s.file;
      sent = s.sent;
    }

-- the lines of the documents of a shard, and the other ones
abbrev pub of_shard : ℕ → List PlainLine → List PlainLine
of_shard i [] = []
of_shard i (x ∷ xs) = cond (nat_eq (shard_of x.key) i) (x ∷ of_shard i xs) (of_shard i xs)

abbrev pub of_other_shards : ℕ → List PlainLine → List PlainLine
of_other_shards i [] = []
of_other_shards i (x ∷ xs) = cond (nat_eq (shard_of x.key) i) (of_other_shards i xs) (x ∷ of_other_shards i xs)

abbrev pub after_save : ℕ → StoreState → StoreState
after_save i s =
    record {
      logs = s.logs;
      unsaved = of_other_shards i s.unsaved;
      file = s.file ++ map journal_entry (of_shard i s.unsaved);
      sent = s.sent;
    }

abbrev pub after_reserve : ℕ → StoreState → StoreState
after_reserve n s = record { logs = s.logs; unsaved = s.unsaved; file = s.file ++ number_block n ∷ []; sent = s.sent }

abbrev pub after_send : PlainLine → StoreState → StoreState
after_send x s = record { logs = s.logs; unsaved = s.unsaved; file = s.file; sent = x ∷ s.sent }

abbrev pub after_restart : StoreState → StoreState
after_restart s = record { logs = logs_of_items s.file; unsaved = []; file = s.file; sent = s.sent }

-- a submission stores the entry that `decide` appends, or nothing
abbrev pub Submits : PlainKey → PlainSubmission → ℕ → StoreState → StoreState → Type 0
Submits k s now old new =
    ((e : PlainEntry) × ((decide (old.logs k) s now).log ≡ old.logs k ++ e ∷ [])
    × (new ≡ with_entry old (record { key = k; entry = e })))
    ⊎ (((decide (old.logs k) s now).log ≡ old.logs k) × (new ≡ old))

-- only entries of the file are sent
abbrev pub IsStoreStep : StoreStep → StoreState → StoreState → Type 0
IsStoreStep (submit k s now) old new = Submits k s now old new
IsStoreStep (save i) old new = new ≡ after_save i old
IsStoreStep (reserve n) old new = new ≡ after_reserve n old
IsStoreStep (send x) old new = IsIn x (entries_of old.file) × (new ≡ after_send x old)
IsStoreStep restart old new = new ≡ after_restart old

abbrev pub IsStoreRun : List StoreStep → StoreState → StoreState → Type 0
IsStoreRun [] old new = new ≡ old
IsStoreRun (step ∷ steps) old new = (mid : StoreState) × IsStoreStep step old mid × IsStoreRun steps mid new
