-- Examples: lines of dumps and the results of their check.
use Rattle.std.specs.Prelude.{◌≡◌, ℕ, List, [], ◌∷◌, None, Ok, Err, codes, pos, refl}
use Rattle.std.specs.Fmt.{digits}
use Rattle.std.specs.Str.{chars, is_utf8}
use Rattle.serde_json.proofs.OnLiterals.{serde_json_on_literals}
use Rattle.sdb_value.specs.Value.{whole, object, member, no_members}
use Rattle.sdb_oplog.specs.Keys.{PlainKey}
use Rattle.sdb_oplog.specs.Plain.{create, PlainSubmission}
use Rattle.sdb_dump.specs.DumpText.{PlainLine, header_line, count_line, entry_line, dump_text, check}

abbrev key : PlainKey
key = record { collection = codes "b"; id = codes "1" }

abbrev created : PlainSubmission
created = record {
  src = codes "w";
  seq = 1;
  version = None;
  content = create (object (member (codes "n") (whole (pos 0)) no_members));
  via = codes "b";
  by = 0;
}

abbrev first_line : PlainLine
first_line = record {
  key = key;
  entry = record { version = 0; moment = 100; content = created.content; arrived = created };
}

-- the line of a create at a moment
abbrev row : List ℕ
row = codes "{\"arrived\":{\"create\":{\"data\":{\"n\":0},\"type\":\"http://sharejs.org/types/JSONv0\"},\"v\":null},\"by\":0,\"c\":\"b\",\"create\":{\"data\":{\"n\":0},\"type\":\"http://sharejs.org/types/JSONv0\"},\"d\":\"1\",\"m\":100,\"seq\":1,\"src\":\"w\",\"v\":0,\"via\":\"b\"}"

abbrev other_row : List ℕ
other_row = codes "{\"arrived\":{\"create\":{\"data\":{\"n\":0},\"type\":\"http://sharejs.org/types/JSONv0\"},\"v\":null},\"by\":0,\"c\":\"b\",\"create\":{\"data\":{\"n\":0},\"type\":\"http://sharejs.org/types/JSONv0\"},\"d\":\"1\",\"m\":100,\"seq\":1,\"src\":\"w\",\"v\":1,\"via\":\"b\"}"

pub row_line : entry_line first_line ≡ row
unfolding serde_json_on_literals digits
row_line = refl

pub row_empty : dump_text [] ≡ codes "{\"dump\":2}\n{\"entries\":0}\n"
unfolding serde_json_on_literals digits
row_empty = refl

-- one entry is accepted; with another version of the document line 2 is wrong; without the count its line is missing
pub row_accepted : check (header_line ∷ row ∷ count_line 1 ∷ []) [] ≡ Ok (first_line ∷ [])
unfolding serde_json_on_literals digits chars is_utf8
row_accepted = refl

pub row_other : check (header_line ∷ other_row ∷ count_line 1 ∷ []) [] ≡ Err 2
unfolding serde_json_on_literals digits chars is_utf8
row_other = refl

pub row_missing : check (header_line ∷ row ∷ []) [] ≡ Err 3
unfolding serde_json_on_literals digits chars is_utf8
row_missing = refl
