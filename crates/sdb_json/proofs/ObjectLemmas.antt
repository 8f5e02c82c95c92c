-- The members of an object, put over each other one by one.
use Rattle.std.proofs.Common.{◌≡◌, ℕ, List, [], ◌∷◌, ◌++◌, map, Option, Some, None, option_map, Bool, true, false, cond, Ordering, Less, Equal, Greater, nat_cmp, refl, sym, ap, ◌∙◌}
use Rattle.std.proofs.lemmas.Slice.Eq.{bytes_eq-Decides}
use Rattle.std.specs.Borrow.{Bor}
use Rattle.std.specs.BTreeMap.{insert_entry}
use Rattle.std.specs.Cmp.Lexicographic.{slice_cmp}
use Rattle.std.specs.Ordering.{match_ordering}
use Rattle.std.specs.Str.{bytes_eq}
use Rattle.std.specs.declared.alloc.Global.{Global}
use Rattle.json.specs.Json as json
use Rattle.json.specs.Find as tree
use Rattle.json.specs.Value.{members_view, value_view}
use Rattle.json.specs.declared.value.Value.{Value}
use Rattle.serde_json.specs.Data.{Data, Members, no_members, put}
use Rattle.serde_json.specs.Find.{get, get_member}
use Rattle.serde_json.proofs.Views.{get_member-put, get_member-put_other}
use Rattle.sdb_json.specs.TreeData.{data_of, members_data, tree_data, sorted_members}

-- ---- members added one after another

abbrev pub Field : Type 0
Field = Bor (List ℕ) × Value Global

data_more : (fs : List Field) (f : Field) (found : Members) → members_data (members_view (fs ++ f ∷ [])) found ≡ put f.0.now (tree_data f.1) (members_data (members_view fs) found)
data_more [] f found = refl
data_more (g ∷ fs) f found = data_more fs f (put g.0.now (tree_data g.1) found)

pub fields_more : (fs : List Field) (f : Field) → members_data (members_view (fs ++ f ∷ [])) no_members ≡ put f.0.now (tree_data f.1) (members_data (members_view fs) no_members)
fields_more fs f = data_more fs f no_members

-- ---- the last member of a key

abbrev or_found : Option Data → Option Data → Option Data
or_found None earlier = earlier
or_found (Some d) earlier = Some d

put_found : (key k : List ℕ) (d : Data) (found : Members) (b : Bool) → bytes_eq k key ≡ b → get_member key (put k d found) ≡ or_found (cond b (Some d) None) (get_member key found)
put_found key k d found true same = rw (sym ((bytes_eq-Decides k key).0 same)) (get_member-put k d found)
put_found key k d found false apart = get_member-put_other key k d found (λ e. absurd (cc (apart, (bytes_eq-Decides k key).1 (sym e))))

later : (a b : Option json.Json) → option_map data_of (tree.later_or a b) ≡ or_found (option_map data_of a) (option_map data_of b)
later None b = refl
later (Some j) b = refl

or_found_twice : (a b c : Option Data) → or_found a (or_found b c) ≡ or_found (or_found a b) c
or_found_twice None b c = refl
or_found_twice (Some d) b c = refl

one_found : (b : Bool) (j : json.Json) → option_map data_of (cond b (Some j) None) ≡ cond b (Some (data_of j)) None
one_found true j = refl
one_found false j = refl

members_found : (key : List ℕ) (ms : json.Members) (found : Members) → get_member key (members_data ms found) ≡ or_found (option_map data_of (tree.get_member key ms)) (get_member key found)
members_found key json.no_members found = refl
members_found key (json.member k j ms) found =
    members_found key ms (put k (data_of j) found)
    ∙ ap (or_found (option_map data_of (tree.get_member key ms))) (put_found key k (data_of j) found (bytes_eq k key) refl)
    ∙ or_found_twice (option_map data_of (tree.get_member key ms)) (cond (bytes_eq k key) (Some (data_of j)) None) (get_member key found)
    ∙ ap (λ o. or_found (or_found (option_map data_of (tree.get_member key ms)) o) (get_member key found)) (sym (one_found (bytes_eq k key) j))
    ∙ ap (λ o. or_found o (get_member key found)) (sym (later (tree.get_member key ms) (cond (bytes_eq k key) (Some j) None)))

or_found_none : (o : Option Data) → or_found o None ≡ o
or_found_none None = refl
or_found_none (Some d) = refl

-- what a tree finds by key is what its data have there
pub found-get : (key : List ℕ) (j : json.Json) → option_map data_of (tree.get key j) ≡ get key (data_of j)
found-get key json.null = refl
found-get key (json.boolean b) = refl
found-get key (json.number s) = refl
found-get key (json.string s) = refl
found-get key (json.array js) = refl
found-get key (json.object ms) = sym (members_found key ms no_members ∙ or_found_none (option_map data_of (tree.get_member key ms)))

-- ---- members sorted by key

abbrev pub text_cmp : Bor (List ℕ) → Bor (List ℕ) → Ordering
text_cmp k l = slice_cmp nat_cmp k.now l.now

module _ {T : Type 0} (f : T → Data) where
  in_order : (o : Ordering) (a b c : List (Bor (List ℕ) × Bor T))
      → sorted_members f (match_ordering o a b c) ≡ match_ordering o (sorted_members f a) (sorted_members f b) (sorted_members f c)
  in_order Less a b c = refl
  in_order Equal a b c = refl
  in_order Greater a b c = refl

  pub sorted_insert : (es : List (Bor (List ℕ) × Bor T)) (k : Bor (List ℕ)) (v : Bor T)
      → sorted_members f (insert_entry text_cmp es k v) ≡ put k.now (f v.now) (sorted_members f es)
  sorted_insert [] k v = refl
  sorted_insert (e ∷ es) k v = in_order (text_cmp k e.0) _ _ _ ∙ rw (sorted_insert es k v)
