-- The document that a list of entries makes, `snap`.
use Rattle.std.specs.Prelude.{ℕ, ◌+◌, List, [], ◌∷◌, ◌++◌, Bool, true, false, ◌&&◌, cond, nat_eq, bytes_eq, Option, Some, None, Result, Ok, Err, option_map, option_and_then, unwrap_or}
use Rattle.std.specs.Option.{option_map_or, is_none}
use Rattle.std.specs.Result.{result_ok}
use Rattle.sdb_value.specs.Uniqueness.{is_unique}
use Rattle.sdb_value.specs.Value.{Value}
use Rattle.sdb_value.specs.declared.value.Json.{Json}
use Rattle.sdb_component.specs.Plain.{PlainComponent}
use Rattle.sdb_apply.specs.Apply.{apply}
use Rattle.sdb_apply.specs.Outcome.{may_allocate, atomic_apply_allocates}
use Rattle.sdb_oplog.specs.Plain.{PlainContent, create, delete, edit, PlainEntry}
use Rattle.sdb_oplog.specs.Refusal.{result_and_then}
use Rattle.sdb_oplog.specs.declared.codes.Code.{Code}
use Rattle.sdb_oplog.specs.declared.codes.Code.TheVariants.{E6, E7, E8}

abbrev pub apply_op : List PlainComponent → Value → Result Value Code
apply_op op d = option_map_or (λ e. Ok e) (apply op d) (Err E8)

-- a content applied to a document, which may be absent
abbrev pub apply_content : PlainContent → Option Value → Result (Option Value) Code
apply_content (create v) None = Ok (Some v)
apply_content (create v) (Some d) = Err E6
apply_content delete d = Ok None
apply_content (edit op) None = Err E7
apply_content (edit op) (Some d) = result_and_then (λ e. Ok (Some e)) (apply_op op d)

-- whether applying in place allocates: a create copies its data, and an edit allocates depending on its components and
-- on whether the document is unique
abbrev pub apply_in_place_allocates : PlainContent → Option Value → Bool → Bool
apply_in_place_allocates (create v) None own = true
apply_in_place_allocates (create v) (Some d) own = false
apply_in_place_allocates delete d own = false
apply_in_place_allocates (edit op) None own = false
apply_in_place_allocates (edit op) (Some d) own = may_allocate (atomic_apply_allocates op) own

-- no part of the document is shared
abbrev pub is_unique_document : Option Json → Bool
is_unique_document None = true
is_unique_document (Some d) = is_unique d

-- the document after these entries, starting with d, if each applies
abbrev pub snap_from : Option Value → List PlainEntry → Option (Option Value)
snap_from d [] = Some d
snap_from d (e ∷ es) = option_and_then (λ n. snap_from n es) (result_ok (apply_content e.content d))

-- the document after a whole log; `snap (take v log)` is the one at version v
abbrev pub snap : List PlainEntry → Option (Option Value)
snap = snap_from None

-- the document after a log whose entries all apply
abbrev pub document_of : List PlainEntry → Option Value
document_of log = unwrap_or (snap log) None

-- ---- source and seq

abbrev pub has_identifier : List ℕ → ℕ → PlainEntry → Bool
has_identifier s n e = nat_eq e.arrived.seq n && bytes_eq e.arrived.src s

-- the version of the first entry with this source and seq
abbrev pub stored_at : List ℕ → ℕ → List PlainEntry → Option ℕ
stored_at s n [] = None
stored_at s n (e ∷ es) = cond (has_identifier s n e) (Some 0) (option_map (λ i. i + 1) (stored_at s n es))

-- no entry after these has the source and seq of one before it
abbrev pub are_identifiers_new : List PlainEntry → List PlainEntry → Bool
are_identifiers_new before [] = true
are_identifiers_new before (e ∷ es) = is_none (stored_at e.arrived.src e.arrived.seq before) && are_identifiers_new (before ++ e ∷ []) es
