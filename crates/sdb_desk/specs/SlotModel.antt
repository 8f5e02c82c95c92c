-- The slot of a key: a document, queues, or both.
use Rattle.std.specs.Prelude.{ℕ, List, [], Option, option_map, unwrap_or, Box}
use Rattle.std.specs.declared.alloc.Global.{Global}
use Rattle.sdb_snapcache.specs.CacheModel.{Snapshot}
use Rattle.sdb_subscribe.specs.Ring.{RingedQueue, RingedQueues}
use Rattle.sdb_desk.specs.DocumentModel.{PlainDocument, empty_document}

-- a document, empty by default, and the queues with their ring buffers
pub record PlainSlot : Type 0 where
  pub document : PlainDocument
  pub queues : RingedQueues

-- the slot without entries and queues
abbrev pub empty_slot : PlainSlot
empty_slot = record { document = empty_document; queues = record { next = 0; queues = [] } }

abbrev pub slot_with_queues : PlainSlot → RingedQueues → PlainSlot
slot_with_queues t q = record { document = t.document; queues = q }

abbrev pub slot_with_cache : PlainSlot → List Snapshot → PlainSlot
slot_with_cache t cache = record { document = record { log = t.document.log; cache = cache }; queues = t.queues }

-- with other open queues, and the next queue number unchanged
abbrev pub slot_with_open_queues : PlainSlot → List (ℕ × RingedQueue) → PlainSlot
slot_with_open_queues t qs = slot_with_queues t (record { next = t.queues.next; queues = qs })

-- the document, or the empty one
abbrev pub document_or_empty : Option (Box PlainDocument Global) → PlainDocument
document_or_empty d = unwrap_or (option_map (λ b. b.value) d) empty_document
