-- Written text parses to its data.
use Rattle.std.specs.Prelude.{◌≡◌, ◌≤◌, Some}
use Rattle.std.specs.Str.{IsUtf8}
use Rattle.serde_json.specs.Data.{Data, depth}
use Rattle.serde_json.specs.Read.{read, max_depth}
use Rattle.serde_json.specs.Written.{compact_text}
use Rattle.sdb_dump.specs.laws.SoundData.{IsSoundData}

-- the compact text of sound data within the parser's depth parses to those data
abbrev pub PrintedReadsBack : Type 0
PrintedReadsBack = (d : Data) → IsSoundData d → depth d ≤ max_depth → read (compact_text d) ≡ Some d

-- the compact text of sound data is UTF-8
abbrev pub PrintedIsText : Type 0
PrintedIsText = (d : Data) → IsSoundData d → IsUtf8 (compact_text d)
