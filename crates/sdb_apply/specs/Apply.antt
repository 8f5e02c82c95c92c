-- Components and operations applied to a value, as in json0's README, "Summary of operations". `None` is E8.
use Rattle.std.specs.Prelude.{ℕ, ℤ, ◌+ℤ◌, List, [], ◌∷◌, Option, Some, None, option_map, option_and_then}
use Rattle.sdb_value.specs.Value.{Value, Items, Members, whole, text, list, object, value_at, with_value_at, insert_item, remove_item, replace_item, put_member, without_member}
use Rattle.sdb_rope.specs.Utf16.{insert_text, remove_text}
use Rattle.sdb_value.specs.FromJson.{checked_whole}
use Rattle.sdb_component.specs.Plain.{PlainAct, na, si, sd, li, ld, lr, oi, od, or, PlainComponent}

-- a change of a value of the required kind; any other kind is refused
abbrev pub map_number : (ℤ → Option ℤ) → Value → Option Value
map_number f (whole n) = option_map whole (f n)
map_number f _ = None

abbrev pub map_text : (List ℕ → Option (List ℕ)) → Value → Option Value
map_text f (text t) = option_map text (f t)
map_text f _ = None

abbrev pub map_list : (Items → Option Items) → Value → Option Value
map_list f (list ds) = option_map list (f ds)
map_list f _ = None

abbrev pub map_object : (Members → Members) → Value → Option Value
map_object f (object ms) = Some (object (f ms))
map_object f _ = None

-- the act applied to the value at its path; removed values aren't compared
abbrev pub apply_act : PlainAct → Value → Option Value
apply_act (na x) = map_number (λ n. checked_whole (n +ℤ x))
apply_act (si p s) = map_text (insert_text p s)
apply_act (sd p s) = map_text (remove_text p s)
apply_act (li i v) = map_list (insert_item i v)
apply_act (ld i x) = map_list (remove_item i)
apply_act (lr i x y) = map_list (replace_item i y)
apply_act (oi k v) = map_object (put_member k v)
apply_act (od k x) = map_object (without_member k)
apply_act (or k x y) = map_object (put_member k y)

-- the value with the one at the component's path replaced by the act's result
abbrev pub apply_one : PlainComponent → Value → Option Value
apply_one c d = option_and_then (λ u. option_map (with_value_at d c.path) (apply_act c.act u)) (value_at d c.path)

-- each component applied to the result of the one before
abbrev pub apply : List PlainComponent → Value → Option Value
apply [] d = Some d
apply (c ∷ cs) d = option_and_then (apply cs) (apply_one c d)
