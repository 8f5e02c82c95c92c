-- Results that a code may refuse. No definition refuses with E10, the code of an allocation failure.
use Rattle.std.specs.Prelude.{◌≡◌, Result, Ok, Err, ⊤}
use Rattle.sdb_oplog.specs.declared.codes.Code.{Code}
use Rattle.sdb_oplog.specs.declared.codes.Code.TheVariants.{E10}

-- the next step, unless this one is refused
abbrev pub result_and_then : {A B E : Type 0} → (A → Result B E) → Result A E → Result B E
result_and_then f (Ok x) = f x
result_and_then f (Err e) = Err e

-- the code is the one that refuses the result, or E10 after an allocation failure
abbrev pub IsRefusalOrOutOfMemory : {A : Type 0} → Result A Code → Code → Type 0
IsRefusalOrOutOfMemory r E10 = ⊤
IsRefusalOrOutOfMemory r c = r ≡ Err c
