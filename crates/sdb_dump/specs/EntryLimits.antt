-- The limits of keys, submissions and entries.
use Rattle.std.specs.Prelude.{ℕ, ◌<◌, ◌≤◌, List, [], ◌∷◌, length, Option, Some, None, ⊤}
use Rattle.std.specs.Str.{IsUtf8}
use Rattle.sdb_oplog.specs.Keys.{PlainKey}
use Rattle.sdb_oplog.specs.Plain.{PlainContent, create, delete, edit, PlainSubmission, PlainEntry}
use Rattle.sdb_dump.specs.DumpText.{PlainLine}
use Rattle.sdb_dump.specs.ValueLimits.{IsSafeInteger, ValueInLimits, ComponentsInLimits}

-- 1 to 200 bytes of UTF-8 (RFC 3629)
pub record NameInLimits (s : List ℕ) : Type 0 where
  pub text : IsUtf8 s
  pub some : 0 < length s
  pub short : length s ≤ 200

pub record KeyInLimits (k : PlainKey) : Type 0 where
  pub collection : NameInLimits k.collection
  pub id : NameInLimits k.id

abbrev pub OptionalCountInLimits : Option ℕ → Type 0
OptionalCountInLimits None = ⊤
OptionalCountInLimits (Some n) = IsSafeInteger n

-- a content within the limits; a removed value has at most depth r
abbrev pub ContentInLimits : ℕ → PlainContent → Type 0
ContentInLimits r (create v) = ValueInLimits 50 v
ContentInLimits r delete = ⊤
ContentInLimits r (edit cs) = ComponentsInLimits r cs

-- a submitted operation has at most 256 components
abbrev pub OpLengthInLimits : PlainContent → Type 0
OpLengthInLimits (create v) = ⊤
OpLengthInLimits delete = ⊤
OpLengthInLimits (edit cs) = length cs ≤ 256

pub record SubmissionInLimits (s : PlainSubmission) : Type 0 where
  pub src : NameInLimits s.src
  pub seq : IsSafeInteger s.seq
  pub version : OptionalCountInLimits s.version
  pub content : ContentInLimits 50 s.content
  pub few : OpLengthInLimits s.content
  pub via : NameInLimits s.via
  pub by : IsSafeInteger s.by

pub record EntryInLimits (e : PlainEntry) : Type 0 where
  pub version : IsSafeInteger e.version
  pub moment : IsSafeInteger e.moment
  pub content : ContentInLimits 100 e.content
  pub arrived : SubmissionInLimits e.arrived

-- the key and the submission of each line are within the limits
abbrev pub AllKeysInLimits : List PlainLine → Type 0
AllKeysInLimits [] = ⊤
AllKeysInLimits (x ∷ xs) = KeyInLimits x.key × SubmissionInLimits x.entry.arrived × AllKeysInLimits xs
