-- Facts from types: texts are UTF-8 (RFC 3629), numbers are in range, the keys of objects are sorted.
use Rattle.std.specs.Prelude.{List, [], ◌∷◌, ⊤}
use Rattle.std.specs.Str.{IsUtf8}
use Rattle.sdb_value.specs.Value.{PlainStep, key, index}
use Rattle.sdb_value.specs.WellFormed.{IsInRange, IsWellFormed}
use Rattle.sdb_component.specs.Plain.{PlainAct, na, si, sd, li, ld, lr, oi, od, or, PlainComponent}
use Rattle.sdb_oplog.specs.Keys.{PlainKey}
use Rattle.sdb_oplog.specs.Plain.{PlainContent, create, delete, edit, PlainSubmission}

abbrev pub IsTextStep : PlainStep → Type 0
IsTextStep (key k) = IsUtf8 k
IsTextStep (index i) = ⊤

abbrev pub AreTextSteps : List PlainStep → Type 0
AreTextSteps [] = ⊤
AreTextSteps (s ∷ p) = IsTextStep s × AreTextSteps p

abbrev pub IsTextAct : PlainAct → Type 0
IsTextAct (na x) = IsInRange x
IsTextAct (si i s) = IsUtf8 s
IsTextAct (sd i s) = IsUtf8 s
IsTextAct (li i v) = IsWellFormed v
IsTextAct (ld i x) = IsWellFormed x
IsTextAct (lr i x y) = IsWellFormed x × IsWellFormed y
IsTextAct (oi k v) = IsUtf8 k × IsWellFormed v
IsTextAct (od k x) = IsUtf8 k × IsWellFormed x
IsTextAct (or k x y) = IsUtf8 k × IsWellFormed x × IsWellFormed y

abbrev pub AreTextComponents : List PlainComponent → Type 0
AreTextComponents [] = ⊤
AreTextComponents (c ∷ cs) = (AreTextSteps c.path × IsTextAct c.act) × AreTextComponents cs

abbrev pub IsTextContent : PlainContent → Type 0
IsTextContent (create v) = IsWellFormed v
IsTextContent delete = ⊤
IsTextContent (edit op) = AreTextComponents op

pub record IsTextSubmission (s : PlainSubmission) : Type 0 where
  pub src : IsUtf8 s.src
  pub content : IsTextContent s.content
  pub via : IsUtf8 s.via

abbrev pub IsTextKey : PlainKey → Type 0
IsTextKey k = IsUtf8 k.collection × IsUtf8 k.id
