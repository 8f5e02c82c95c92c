-- The entries of a shard that are to be saved, by key and version.
use Rattle.std.specs.Prelude.{◌≡◌, ◌<◌, ℕ, List, [], ◌∷◌, ◌++◌, map, Option, Some, None, IfSome, option_map, Vec, vec_len, vec_capacity}
use Rattle.std.specs.Global.{Global}
use Rattle.sdb_oplog.specs.Decide.{PlainReply, stored, repeated, refused}
use Rattle.sdb_oplog.specs.Keys.{PlainKey, plain_key}
use Rattle.sdb_desk.specs.Machine.{PlainOutcome, decided, moved, IsUnchanged}
use Rattle.sdb_desk.specs.ShardView.{machine_of}
use Rattle.sdb_backend.specs.HistoryOrder.{Extends}
use Rattle.sdb_backend.specs.PassModel.{PassHasSeenShard}
use Rattle.sdb_backend.specs.declared.pass.Pass.{Pass}
use Rattle.sdb_backend.specs.declared.shard_value.Held.{Held}
use Rattle.sdb_backend.specs.declared.unsaved.EntryAt.{EntryAt}
use Rattle.sdb_oplog.specs.declared.keys.Key.{Key}

-- the place of an entry: the key of its document, and its version
pub record PlainEntryAt : Type 0 where
  pub key : PlainKey
  pub version : ℕ

-- a list of places, or `None` if entries aren't listed
abbrev pub UnsavedList : Type 0
UnsavedList = Option (List PlainEntryAt)

abbrev pub plain_entry_at : EntryAt → PlainEntryAt
plain_entry_at e = record { key = plain_key e.key; version = e.version }

abbrev pub plain_places : Option (Vec EntryAt Global) → UnsavedList
plain_places = option_map (λ (v : Vec EntryAt Global). map plain_entry_at v.items)

-- the entries that were stored since they were taken last, in the order of storing
abbrev pub unsaved_of : Held → UnsavedList
unsaved_of h = plain_places h.unsaved

-- the entry at a version is added to the list, if entries are listed
abbrev pub ListsEntry : PlainKey → ℕ → UnsavedList → UnsavedList → Type 0
ListsEntry k v old new = new ≡ option_map (λ before. before ++ record { key = k; version = v } ∷ []) old

-- an entry can be added without an allocation, if there is a place for it
abbrev pub HasRoom : Option Key → Option (Vec EntryAt Global) → Type 0
HasRoom place list = IfSome place (λ _. IfSome list (λ entries. vec_len entries < vec_capacity entries))

-- the place is for an entry of this key, and there is one if entries are listed
abbrev pub IsPlaceFor : PlainKey → Option Key → Option (Vec EntryAt Global) → Type 0
IsPlaceFor k place list = IfSome place (λ key. plain_key key ≡ k) × (place ≡ None → list ≡ None)

-- a stored submission lists its entry, and any other changes nothing
abbrev pub UnsavedAfterReply : PlainKey → PlainReply → UnsavedList → UnsavedList → Type 0
UnsavedAfterReply k (stored v missed) old new = ListsEntry k v old new
UnsavedAfterReply k (repeated v) old new = new ≡ old
UnsavedAfterReply k (refused code) old new = new ≡ old

abbrev pub UnsavedAfterOutcome : PlainKey → PlainOutcome → UnsavedList → UnsavedList → Type 0
UnsavedAfterOutcome k (decided r) old new = UnsavedAfterReply k r old new
UnsavedAfterOutcome k (moved l) old new = new ≡ old

-- the list is taken at a history of the shard that extends the observed one, and is empty then; nothing else changes
abbrev pub TakesUnsaved : ℕ → Pass → UnsavedList → Pass → Type 0
TakesUnsaved i p r q =
    (x h new : Held) × PassHasSeenShard p i x × Extends (machine_of h.shard) (machine_of x.shard)
    × (r ≡ unsaved_of h) × (unsaved_of new ≡ option_map (λ _. []) (unsaved_of h))
    × IsUnchanged (machine_of h.shard) (machine_of new.shard) × PassHasSeenShard q i new
