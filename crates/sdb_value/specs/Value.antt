-- Values (RFC 8259, section 3, with integers only), their parts, and paths in them. A text is its bytes in UTF-8 (RFC
-- 8259, section 8.1), and its offsets count UTF-16 code units.
use Rattle.std.specs.Prelude.{ℕ, zero, suc, max, ℤ, Bool, false, List, [], ◌∷◌, cond, if◌then◌else◌, nat_lt, nat_le, nat_eq, Option, Some, None, option_and_then}
use Rattle.std.specs.Option.{option_map_or}
use Rattle.std.specs.Ordering.{nat_cmp, is_eq, match_ordering}
use Rattle.std.specs.Cmp.Lexicographic.{slice_cmp}

mutual
  pub data Value : Type 0 where
    null : Value
    truth : Bool → Value
    whole : ℤ → Value
    text : List ℕ → Value
    list : Items → Value
    object : Members → Value

  pub data Items : Type 0 where
    no_items : Items
    item : Value → Items → Items

  pub data Members : Type 0 where
    no_members : Members
    member : List ℕ → Value → Members → Members

-- a step of a path: to the member of a key, or to the item at an index
pub data PlainStep : Type 0 where
  key : List ℕ → PlainStep
  index : ℕ → PlainStep

abbrev pub texts_equal : List ℕ → List ℕ → Bool
texts_equal k l = is_eq (slice_cmp nat_cmp k l)

abbrev pub steps_equal : PlainStep → PlainStep → Bool
steps_equal (key k) (key l) = texts_equal k l
steps_equal (index i) (index j) = nat_eq i j
steps_equal _ _ = false

-- the item at i, the member at k
abbrev pub item_at : ℕ → Items → Option Value
item_at i no_items = None
item_at zero (item d ds) = Some d
item_at (suc i) (item d ds) = item_at i ds

abbrev pub member_at : List ℕ → Members → Option Value
member_at k no_members = None
member_at k (member l d ms) = cond (texts_equal k l) (Some d) (member_at k ms)

-- the items, or members, with u in its position
abbrev pub set_item : ℕ → Items → Value → Items
set_item i no_items u = no_items
set_item zero (item d ds) u = item u ds
set_item (suc i) (item d ds) u = item d (set_item i ds u)

abbrev pub set_member : List ℕ → Members → Value → Members
set_member k no_members u = no_members
set_member k (member l d ms) u = cond (texts_equal k l) (member l u ms) (member l d (set_member k ms u))

-- the members with k set to u; a new key is inserted in byte order
abbrev pub put_member : List ℕ → Value → Members → Members
put_member k u no_members = member k u no_members
put_member k u (member l d ms) =
    match_ordering (slice_cmp nat_cmp k l) (member k u (member l d ms)) (member l u ms) (member l d (put_member k u ms))

-- the members without k
abbrev pub without_member : List ℕ → Members → Members
without_member k no_members = no_members
without_member k (member l d ms) = cond (texts_equal k l) ms (member l d (without_member k ms))

-- ---- lists, as concatenated parts

abbrev pub item_count : Items → ℕ
item_count no_items = 0
item_count (item d ds) = suc (item_count ds)

-- the first i items, and those from i on
abbrev pub take_items : ℕ → Items → Items
take_items zero ds = no_items
take_items (suc i) no_items = no_items
take_items (suc i) (item d ds) = item d (take_items i ds)

abbrev pub drop_items : ℕ → Items → Items
drop_items zero ds = ds
drop_items (suc i) no_items = no_items
drop_items (suc i) (item d ds) = drop_items i ds

abbrev pub append_items : Items → Items → Items
append_items no_items es = es
append_items (item d ds) es = item d (append_items ds es)

-- u inserted at i, which is at most the length
abbrev pub insert_item : ℕ → Value → Items → Option Items
insert_item i u ds = if nat_le i (item_count ds) then Some (append_items (take_items i ds) (item u (drop_items i ds))) else None

-- the item at i removed
abbrev pub remove_item : ℕ → Items → Option Items
remove_item i ds = if nat_lt i (item_count ds) then Some (append_items (take_items i ds) (drop_items (suc i) ds)) else None

-- the item at i replaced by u
abbrev pub replace_item : ℕ → Value → Items → Option Items
replace_item i u ds =
    if nat_lt i (item_count ds) then Some (append_items (take_items i ds) (item u (drop_items (suc i) ds))) else None

-- the nesting depth of lists and objects
abbrev mutual
  pub depth : Value → ℕ
  depth null = 0
  depth (truth b) = 0
  depth (whole n) = 0
  depth (text s) = 0
  depth (list ds) = suc (items_depth ds)
  depth (object ms) = suc (members_depth ms)

  pub items_depth : Items → ℕ
  items_depth no_items = 0
  items_depth (item d ds) = max (depth d) (items_depth ds)

  pub members_depth : Members → ℕ
  members_depth no_members = 0
  members_depth (member k d ms) = max (depth d) (members_depth ms)

-- the bytes of a text, the items of a list, the members of an object
abbrev pub as_text : Value → Option (List ℕ)
as_text (text s) = Some s
as_text _ = None

abbrev pub as_list : Value → Option Items
as_list (list ds) = Some ds
as_list _ = None

abbrev pub as_object : Value → Option Members
as_object (object ms) = Some ms
as_object _ = None

-- the value of one step
abbrev pub child : PlainStep → Value → Option Value
child (index i) (list ds) = item_at i ds
child (key k) (object ms) = member_at k ms
child _ _ = None

-- d with the value of one step replaced
abbrev pub with_child : PlainStep → Value → Value → Value
with_child (index i) (list ds) u = list (set_item i ds u)
with_child (key k) (object ms) u = object (set_member k ms u)
with_child _ d u = d

-- the value at the path p, if any
abbrev pub value_at : Value → List PlainStep → Option Value
value_at d [] = Some d
value_at d (w ∷ p) = option_and_then (λ c. value_at c p) (child w d)

-- d with the value at p replaced by u
abbrev pub with_value_at : Value → List PlainStep → Value → Value
with_value_at d [] u = u
with_value_at d (w ∷ p) u = option_map_or (λ c. with_child w d (with_value_at c p u)) (child w d) d
