-- The size of a value: the number of values in it, and the bytes of its texts and keys.
use Rattle.std.specs.Prelude.{ℕ, suc, ◌+◌, length}
use Rattle.sdb_value.specs.Value.{Value, null, truth, whole, text, list, object, Items, no_items, item, Members, no_members, member}

abbrev mutual
  pub size : Value → ℕ
  size null = 1
  size (truth b) = 1
  size (whole n) = 1
  size (text s) = suc (length s)
  size (list ds) = suc (items_size ds)
  size (object ms) = suc (members_size ms)

  pub items_size : Items → ℕ
  items_size no_items = 0
  items_size (item d ds) = size d + items_size ds

  pub members_size : Members → ℕ
  members_size no_members = 0
  members_size (member k d ms) = length k + size d + members_size ms
