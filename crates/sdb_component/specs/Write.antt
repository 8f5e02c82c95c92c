-- A component's members as written: those before its path, and those after it.
use Rattle.std.specs.Prelude.{codes}
use Rattle.serde_json.specs.Data as raw
use Rattle.serde_json.specs.Find.{of_integer}
use Rattle.sdb_value.specs.FromJson.{data_of_value}
use Rattle.sdb_component.specs.Plain.{PlainAct, na, si, sd, li, ld, lr, oi, od, or}

-- the numbers and values, whose names precede `p`
abbrev pub members_before_path : PlainAct → raw.Members → raw.Members
members_before_path (na x) ms = raw.member (codes "na") (raw.number (of_integer x)) ms
members_before_path (si i s) ms = ms
members_before_path (sd i s) ms = ms
members_before_path (li i v) ms = raw.member (codes "li") (data_of_value v) ms
members_before_path (ld i x) ms = raw.member (codes "ld") (data_of_value x) ms
members_before_path (lr i x y) ms = raw.member (codes "ld") (data_of_value x) (raw.member (codes "li") (data_of_value y) ms)
members_before_path (oi k v) ms = raw.member (codes "oi") (data_of_value v) ms
members_before_path (od k x) ms = raw.member (codes "od") (data_of_value x) ms
members_before_path (or k x y) ms = raw.member (codes "od") (data_of_value x) (raw.member (codes "oi") (data_of_value y) ms)

-- the texts, whose names follow `p`
abbrev pub members_after_path : PlainAct → raw.Members
members_after_path (na x) = raw.no_members
members_after_path (si i s) = raw.member (codes "si") (raw.string s) raw.no_members
members_after_path (sd i s) = raw.member (codes "sd") (raw.string s) raw.no_members
members_after_path (li i v) = raw.no_members
members_after_path (ld i x) = raw.no_members
members_after_path (lr i x y) = raw.no_members
members_after_path (oi k v) = raw.no_members
members_after_path (od k x) = raw.no_members
members_after_path (or k x y) = raw.no_members
