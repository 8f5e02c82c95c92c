-- A value has the depth of the data from which it is made.
use Rattle.std.proofs.Common.{◌≡◌, ℕ, suc, max, ◌<◌, List, Option, Some, None, true, nat_lt, ℤ, refl, ap, arith}
use Rattle.std.proofs.lemmas.Bool.Decides.{nat_tests}
use Rattle.std.specs.Option.{option_map, option_and_then}
use Rattle.std.specs.Prelude.{if◌then◌else◌}
use Rattle.serde_json.specs.Data as raw
use Rattle.sdb_value.specs.Value.{Value, whole, list, object, Items, item, Members, member, depth, items_depth, members_depth}
use Rattle.sdb_value.specs.FromJson.{value_of_data, items_of_data, members_of_data, whole_of, bounded_value_of_data, IsReadFault, FaultMeansNone}
use Rattle.sdb_value.specs.declared.from_json.ValueFault.{ValueFault}
use Rattle.sdb_value.specs.declared.from_json.ValueFault.TheVariants.{NumberOutOfRange, TooDeep, OutOfMemory}

of_number : (o : Option ℤ) → option_map depth (option_map whole o) ≡ option_map (λ _. 0) (option_map whole o)
of_number None = refl
of_number (Some z) = refl

of_list : (o : Option Items) (n : ℕ) → option_map items_depth o ≡ option_map (λ _. n) o → option_map depth (option_map list o) ≡ option_map (λ _. suc n) (option_map list o)
of_list None n e = refl
of_list (Some ds) n e = ap (option_map suc) e

of_object : (o : Option Members) (n : ℕ) → option_map members_depth o ≡ option_map (λ _. n) o → option_map depth (option_map object o) ≡ option_map (λ _. suc n) (option_map object o)
of_object None n e = refl
of_object (Some ds) n e = ap (option_map suc) e

of_item : (o : Option Value) (p : Option Items) (m n : ℕ) → option_map depth o ≡ option_map (λ _. m) o → option_map items_depth p ≡ option_map (λ _. n) p
    → option_map items_depth (option_and_then (λ v. option_map (item v) p) o) ≡ option_map (λ _. max m n) (option_and_then (λ v. option_map (item v) p) o)
of_item None p m n e f = refl
of_item (Some v) None m n e f = refl
of_item (Some v) (Some ds) m n e f = let a : depth v ≡ m = cc in let b : items_depth ds ≡ n = cc in rw (a, b)

of_member : (k : List ℕ) (o : Option Value) (p : Option Members) (m n : ℕ) → option_map depth o ≡ option_map (λ _. m) o → option_map members_depth p ≡ option_map (λ _. n) p
    → option_map members_depth (option_and_then (λ v. option_map (member k v) p) o) ≡ option_map (λ _. max m n) (option_and_then (λ v. option_map (member k v) p) o)
of_member k None p m n e f = refl
of_member k (Some v) None m n e f = refl
of_member k (Some v) (Some ds) m n e f = let a : depth v ≡ m = cc in let b : members_depth ds ≡ n = cc in rw (a, b)

mutual
  same_depth : (d : raw.Data) → option_map depth (value_of_data d) ≡ option_map (λ _. raw.depth d) (value_of_data d)
  same_depth raw.null = refl
  same_depth (raw.boolean b) = refl
  same_depth (raw.number n) = of_number (whole_of n)
  same_depth (raw.string s) = refl
  same_depth (raw.array ds) = of_list (items_of_data ds) (raw.items_depth ds) (same_items ds)
  same_depth (raw.object ms) = of_object (members_of_data ms) (raw.members_depth ms) (same_members ms)

  same_items : (ds : raw.Items) → option_map items_depth (items_of_data ds) ≡ option_map (λ _. raw.items_depth ds) (items_of_data ds)
  same_items raw.no_items = refl
  same_items (raw.item d ds) = of_item (value_of_data d) (items_of_data ds) (raw.depth d) (raw.items_depth ds) (same_depth d) (same_items ds)

  same_members : (ms : raw.Members) → option_map members_depth (members_of_data ms) ≡ option_map (λ _. raw.members_depth ms) (members_of_data ms)
  same_members raw.no_members = refl
  same_members (raw.member k d ms) = of_member k (value_of_data d) (members_of_data ms) (raw.depth d) (raw.members_depth ms) (same_depth d) (same_members ms)

none_deep : (o : Option Value) (n : ℕ) → option_map depth o ≡ option_map (λ _. n) o → 50 < n → option_and_then (λ v. if nat_lt 50 (depth v) then None else Some v) o ≡ None
none_deep None n e h = refl
none_deep (Some v) n e h = let a : depth v ≡ n = cc in let b : nat_lt 50 n ≡ true = grind (arith, nat_tests) in rw (a, b)

no_value : (o : Option Value) → o ≡ None → option_and_then (λ v. if nat_lt 50 (depth v) then None else Some v) o ≡ None
no_value o e = rw e refl

-- data that are refused for a reason are no value of the profile
pub read_fault_of_depth : (d : raw.Data) (f : ValueFault) → IsReadFault 50 d f → FaultMeansNone (bounded_value_of_data d) f
read_fault_of_depth d NumberOutOfRange h = no_value (value_of_data d) h
read_fault_of_depth d TooDeep h = none_deep (value_of_data d) (raw.depth d) (same_depth d) h
read_fault_of_depth d OutOfMemory h = tt
