-- Examples: decisions of submissions on a log.
use Rattle.std.specs.Prelude.{◌≡◌, ℕ, true, false, List, [], ◌∷◌, Option, Some, None, codes, refl, pos}
use Rattle.std.proofs.Common.{subst}
use Rattle.sdb_value.specs.Value.{whole, text, list, object, item, no_items, member, no_members, member_at, key}
use Rattle.sdb_component.specs.Plain.{PlainAct, na, li, oi}
use Rattle.sdb_transform.specs.Convergence.{HasExpectedKey}
use Rattle.sdb_transform.specs.Cross.{cross, cross_in}
use Rattle.sdb_oplog.specs.Plain.{PlainContent, create, delete, edit, PlainSubmission, PlainEntry}
use Rattle.sdb_oplog.specs.Snap.{snap, document_of}
use Rattle.sdb_oplog.specs.Decide.{decide, stored, repeated, refused, decide_allocates, IsMade}
use Rattle.sdb_oplog.specs.Keys.{shard_of}
use Rattle.sdb_oplog.specs.RebasedContents.{IsContentMadeFor, IsMadeAtBase, AreMadeAtBase, IsEditMadeAtBase}
use Rattle.sdb_oplog.specs.declared.codes.Code.TheVariants.{E4, E5, E6, E7, E8}

abbrev from : List ℕ → ℕ → Option ℕ → PlainContent → PlainSubmission
from s n v m = record { src = s; seq = n; version = v; content = m; via = codes "b"; by = 0 }

abbrev at_n : PlainAct → PlainContent
at_n a = edit (record { path = key (codes "n") ∷ []; act = a } ∷ [])

abbrev first : PlainSubmission
first = from (codes "x") 1 None (create (object (member (codes "n") (whole (pos 1)) no_members)))

abbrev one : List PlainEntry
one = (decide [] first 0).log

abbrev two : List PlainEntry
two = (decide one (from (codes "x") 2 (Some 1) (at_n (na (pos 1)))) 0).log

-- a create is stored at 0, an edit at 1; the document is {"n":2}
pub row_first : (decide [] first 0).reply ≡ stored 0 []
row_first = refl

pub row_second : (decide one (from (codes "x") 2 (Some 1) (at_n (na (pos 1)))) 0).reply ≡ stored 1 []
row_second = refl

pub row_snap : snap two ≡ Some (Some (object (member (codes "n") (whole (pos 2)) no_members)))
row_snap = refl

pub row_made : IsMade two
row_made = (refl, (refl, tt))

-- a duplicate gets its first version, whatever its content and base version
pub row_repeat : (decide two first 0).reply ≡ repeated 0
row_repeat = refl

pub row_repeat_other : (decide two (from (codes "x") 1 (Some 9) delete) 0).reply ≡ repeated 0
row_repeat_other = refl

-- the greatest number; a version too new; a create on a document; an edit of an absent one
pub row_greatest : (decide two (from (codes "y") 2 (Some 2) (at_n (na (pos 9007199254740991)))) 0).reply ≡ refused E8
row_greatest = refl

pub row_newer : (decide two (from (codes "y") 2 (Some 3) delete) 0).reply ≡ refused E4
row_newer = refl

pub row_created : (decide two (from (codes "y") 2 None (create (whole (pos 1)))) 0).reply ≡ refused E6
row_created = refl

pub row_absent : (decide [] (from (codes "y") 2 None (edit [])) 0).reply ≡ refused E7
row_absent = refl

-- an Oi of a present key is stored, though it isn't made for the document
abbrev overwrite : PlainContent
overwrite = edit (record { path = []; act = oi (codes "n") (whole (pos 1)) } ∷ [])

pub row_overwritten : (decide two (from (codes "y") 2 (Some 2) overwrite) 0).reply ≡ stored 2 []
row_overwritten = refl

pub row_not_made_for : IsContentMadeFor overwrite (document_of two) → ⊥
row_not_made_for h =
    let w = h.0.0 in
    let found = w.found in
    let is : w.position ≡ object (member (codes "n") (whole (pos 2)) no_members) = cc in
    let absent : member_at (codes "n") (member (codes "n") (whole (pos 2)) no_members) ≡ None = subst (HasExpectedKey (oi (codes "n") (whole (pos 1)))) is w.key in
    cc

-- against a delete an edit is refused, and a delete stays
abbrev three : List PlainEntry
three = (decide two (from (codes "y") 1 (Some 2) delete) 0).log

pub row_deleted : (decide three (from (codes "z") 1 (Some 2) (edit [])) 0).reply ≡ refused E5
row_deleted = refl

pub row_delete_again : document_of (decide three (from (codes "z") 2 (Some 2) delete) 0).log ≡ None
row_delete_again = refl

-- the submission is the left side
abbrev insert_in : List ℕ → ℕ → List ℕ → PlainSubmission
insert_in s n v = from s n (Some 1) (edit (record { path = []; act = li 0 (text v) } ∷ []))

abbrev made : List PlainEntry
made = (decide [] (from (codes "x") 1 None (create (list (item (text (codes "x")) no_items)))) 0).log

abbrev met : List PlainEntry
met = (decide made (insert_in (codes "y") 1 (codes "A")) 0).log

pub row_left : document_of (decide met (insert_in (codes "z") 1 (codes "B")) 0).log
    ≡ Some (list (item (text (codes "B")) (item (text (codes "A")) (item (text (codes "x")) no_items))))
unfolding cross cross_in
row_left = refl

-- a log whose submissions are made at their base versions, and a submission concurrent with its last entry
abbrev insert_list : List ℕ → PlainSubmission
insert_list s = from s 2 (Some 1) (edit (record { path = []; act = li 0 (list no_items) } ∷ []))

abbrev empty_list : List PlainEntry
empty_list = (decide [] (from (codes "x") 1 None (create (list no_items))) 0).log

abbrev inserted_once : List PlainEntry
inserted_once = (decide empty_list (insert_list (codes "x")) 0).log

pub row_insert_made : (s : List ℕ) → IsEditMadeAtBase empty_list (insert_list s)
row_insert_made s = record {
  operation = record { path = []; act = li 0 (list no_items) } ∷ [];
  edits = refl;
  made =
      ((record { position = list no_items; result = list (item (list no_items) no_items); found = refl; accepted = refl; key = tt }, tt), ((tt, tt), tt));
}

pub row_all_made : AreMadeAtBase inserted_once
row_all_made = (tt, ((row_insert_made (codes "x")).made, tt))

pub row_concurrent_made : IsMadeAtBase inserted_once (insert_list (codes "y"))
row_concurrent_made = (row_insert_made (codes "y")).made

-- without allocations: a duplicate, a version too new, a create on a document, an edit of an absent one, an edit
-- against a delete; an append allocates, and so does an edit that is transformed
pub row_repeat_free : decide_allocates two first ≡ false
row_repeat_free = refl

pub row_newer_free : decide_allocates two (from (codes "y") 2 (Some 3) delete) ≡ false
row_newer_free = refl

pub row_created_free : decide_allocates two (from (codes "y") 2 None (create (whole (pos 1)))) ≡ false
row_created_free = refl

pub row_absent_free : decide_allocates [] (from (codes "y") 2 None (edit [])) ≡ false
row_absent_free = refl

pub row_deleted_free : decide_allocates three (from (codes "z") 1 (Some 2) (edit [])) ≡ false
row_deleted_free = refl

pub row_stored_takes : decide_allocates [] first ≡ true
row_stored_takes = refl

pub row_rebased_takes : decide_allocates three (from (codes "z") 1 (Some 1) (edit [])) ≡ true
row_rebased_takes = refl

-- ---- shards

pub row_shard : shard_of (record { collection = codes "b"; id = codes "1" }) ≡ 3
row_shard = refl

pub row_next_shard : shard_of (record { collection = codes "b"; id = codes "2" }) ≡ 4
row_next_shard = refl

pub row_same_shard : shard_of (record { collection = codes "b"; id = codes "9" }) ≡ 3
row_same_shard = refl
