use Rattle.std.proofs.Common.{◌≡◌, ◌∷◌, [], ◌++◌, OnOk, OnErr, sym, ap, ◌∙◌, subst, append_assoc, rules}
use Rattle.sdb_sorted_map.specs.Iter.{remaining_entries as members_left}
use Rattle.sdb_chunks.specs.Iter.{remaining_items}
use Rattle.json.specs.Token.{key}
use Rattle.json.specs.Written.{WritesFront}
use Rattle.sdb_value.specs.ToJson.{array_tail_tokens, data_tokens, object_tail_tokens}
use Rattle.sdb_value.specs.FromJson.{data_of_value, data_of_items, data_of_members}
use Rattle.sdb_value.specs.View.{value_of, items_value, members_value, object_value}
use Rattle.sdb_value.specs.laws.PrefixLaws.{on_any_err, writes_prefix_after_append}
use Rattle.sdb_value.proofs.WriteLemmas.{array_written, array_prefix, object_written, object_prefix}
use Rattle.sdb_value.proofs.WeightLemmas.{members_rest_below}
use Rattle.sdb_value.proofs.write.+write_json.Goals as goal

pub write_items-returns-in_err-write_json-clause-err : goal.write_items-returns-in_err-write_json-clause-err
write_items-returns-in_err-write_json-clause-err t c =
    let l = c.loop-item in
    let x = c.in-Some.item.now in
    let later = remaining_items c.next.new.self in
    let here : remaining_items l.item-iterator ≡ x ∷ later = c.in-Some.ensures.steps in
    let whole = l.invariant.split ∙ ap (λ ys. l.invariant.done ++ array_tail_tokens (data_of_items (items_value ys))) here in
    on_any_err _ (writes_prefix_after_append _ l.out.tokens _ l.invariant.done (data_tokens (data_of_value (value_of x))) (array_tail_tokens (data_of_items (items_value later))) _ l.invariant.written whole c.in_err-write_json.ensures.err)

pub write_members-loop-key-preserved : goal.write_members-loop-key-preserved
write_members-loop-key-preserved t c =
    let l = c.loop-key in
    let done = l.invariant.done in
    let k = c.in-Some.key.now in
    let mine = data_tokens (data_of_value (value_of c.in-Some.member.now)) in
    let rest = object_tail_tokens (data_of_members (members_value (members_left c.next.new.self))) in
    let left = ap (λ es. object_tail_tokens (data_of_members (members_value es))) c.in-Some.ensures.steps in
    let named : c.key.new.self.tokens ≡ l.out.tokens ++ key k ∷ [] = c.in_ok-key.ensures.ok in
    let put = c.in_ok-write_json.ensures.tokens ∙ ap (λ ts. ts ++ mine) named ∙ append_assoc l.out.tokens (key k ∷ []) mine in
    record {
      before = search rules;
      whole = ap (λ ts. ts ++ rest) put ∙ append_assoc l.out.tokens (key k ∷ mine) _ ∙ ap (λ ts. l.out.tokens ++ ts) (sym left) ∙ l.invariant.whole;
      done = done ++ key k ∷ mine;
      split = l.invariant.split ∙ ap (λ ts. done ++ ts) left ∙ sym (append_assoc done (key k ∷ mine) _);
      written = put ∙ ap (λ ts. ts ++ key k ∷ mine) l.invariant.written ∙ append_assoc _ done _;
      below = members_rest_below _ (members_left c.next.new.self) (c.in-Some.key.now, c.in-Some.member.now) _ c.in-Some.ensures.steps l.invariant.below;
    }

pub write_members-returns-in_err-write_json-clause-err : goal.write_members-returns-in_err-write_json-clause-err
write_members-returns-in_err-write_json-clause-err t c =
    let l = c.loop-key in
    let done = l.invariant.done in
    let k = c.in-Some.key.now in
    let left = ap (λ es. object_tail_tokens (data_of_members (members_value es))) c.in-Some.ensures.steps in
    let named : c.key.new.self.tokens ≡ l.out.tokens ++ key k ∷ [] = c.in_ok-key.ensures.ok in
    let so_far = named ∙ ap (λ ts. ts ++ key k ∷ []) l.invariant.written ∙ append_assoc _ done _ in
    let whole = l.invariant.split ∙ ap (λ ts. done ++ ts) left ∙ sym (append_assoc done (key k ∷ []) _) in
    on_any_err _ (writes_prefix_after_append _ c.key.new.self.tokens _ (done ++ key k ∷ []) (data_tokens (data_of_value (value_of c.in-Some.member.now))) (object_tail_tokens (data_of_members (members_value (members_left c.next.new.self)))) _ so_far whole c.in_err-write_json.ensures.err)

pub write_json-returns-in_ok-begin_array-in-List-clause-tokens : goal.write_json-returns-in_ok-begin_array-in-List-clause-tokens
write_json-returns-in_ok-begin_array-in-List-clause-tokens t c =
    array_written c.write_items.result c.args.value.now c.in-List.items c.args.out.now.tokens c.begin_array.new.self.tokens c.write_items.new.out.tokens c.in-List.is
    c.in_ok-begin_array-in-List.ensures.ok c.write_items.ensures.tokens

pub write_json-returns-in_ok-begin_array-in-List-clause-err : goal.write_json-returns-in_ok-begin_array-in-List-clause-err
write_json-returns-in_ok-begin_array-in-List-clause-err t c =
    array_prefix c.write_items.result c.args.value.now c.in-List.items c.args.out.now.tokens c.begin_array.new.self.tokens c.write_items.new.out.tokens c.in-List.is
    c.in_ok-begin_array-in-List.ensures.ok c.write_items.ensures.err

pub write_json-returns-in_ok-begin_object-in-Object-clause-tokens : goal.write_json-returns-in_ok-begin_object-in-Object-clause-tokens
write_json-returns-in_ok-begin_object-in-Object-clause-tokens t c =
    object_written c.write_members.result c.args.value.now c.in-Object.members c.args.out.now.tokens c.begin_object.new.self.tokens c.write_members.new.out.tokens c.in-Object.is
    c.in_ok-begin_object-in-Object.ensures.ok
    c.write_members.ensures.tokens

pub write_json-returns-in_ok-begin_object-in-Object-clause-err : goal.write_json-returns-in_ok-begin_object-in-Object-clause-err
write_json-returns-in_ok-begin_object-in-Object-clause-err t c =
    object_prefix c.write_members.result c.args.value.now c.in-Object.members c.args.out.now.tokens c.begin_object.new.self.tokens c.write_members.new.out.tokens c.in-Object.is
    c.in_ok-begin_object-in-Object.ensures.ok
    c.write_members.ensures.err
