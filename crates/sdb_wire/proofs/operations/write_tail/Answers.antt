use Rattle.std.proofs.Common.{◌≡◌, ◌∷◌, [], ◌++◌, codes, decimal, refl, append_assoc}
use Rattle.json.specs.Token.{key, number, string}
use Rattle.serde_json.specs.Data.{member, no_members, unsigned, number as number_data}
use Rattle.sdb_value.specs.ToJson.{object_tail_tokens}
use Rattle.sdb_value.specs.laws.PrefixLaws.{on_any_err, writes_prefix_append, writes_prefix_after_append}
use Rattle.sdb_wire.proofs.operations.write_tail.Goals as goal

pub returns-in_err-write_count-clause-err : goal.returns-in_err-write_count-clause-err
returns-in_err-write_count-clause-err c = on_any_err _ (writes_prefix_append _ _ _ _ (rw (c.seq.ensures, c.arrived.ensures) at c.in_err-write_count.ensures.err))

pub returns-in_err-write_text-clause-err : goal.returns-in_err-write_text-clause-err
returns-in_err-write_text-clause-err c =
    let e = c.args.entry.now in
    let done = key (codes "seq") ∷ number (decimal e.arrived.seq) ∷ [] in
    let so_far : c.write_count.new.out.tokens ≡ c.args.out.now.tokens ++ done = rw (c.in_ok-write_count.ensures.tokens, c.seq.ensures, c.arrived.ensures) refl in
    let rest = object_tail_tokens (member (codes "v") (number_data (unsigned e.version)) no_members) in
    on_any_err _ (writes_prefix_after_append _ c.write_count.new.out.tokens _ done (key (codes "src") ∷ string e.arrived.src ∷ []) rest _ so_far refl (rw (c.src.ensures, c.arrived-2.ensures) at c.in_err-write_text.ensures.err))

pub returns-in_err-write_count-2-clause-err : goal.returns-in_err-write_count-2-clause-err
returns-in_err-write_count-2-clause-err c =
    let e = c.args.entry.now in
    let done = key (codes "seq") ∷ number (decimal e.arrived.seq) ∷ key (codes "src") ∷ string e.arrived.src ∷ [] in
    let so_far : c.write_text.new.out.tokens ≡ c.args.out.now.tokens ++ done =
    rw (c.in_ok-write_text.ensures.tokens, c.in_ok-write_count.ensures.tokens, c.src.ensures, c.arrived-2.ensures, c.seq.ensures, c.arrived.ensures) (simp append_assoc refl) in
    on_any_err _ (writes_prefix_after_append _ c.write_text.new.out.tokens _ done (key (codes "v") ∷ number (decimal e.version) ∷ []) (object_tail_tokens no_members) _ so_far refl (rw c.version.ensures at c.in_err-write_count-2.ensures.err))
