use Rattle.std.proofs.Common.{sym, ap, ◌∙◌}
use Rattle.std.proofs.lemmas.List.{nil_from_length}
use Rattle.sdb_chunks.specs.Chunk.{items_of}
use Rattle.sdb_rope.specs.GroupModel.{texts_of_groups}
use Rattle.sdb_rope.specs.RopeChunk.{chunk_list_texts}
use Rattle.sdb_rope.proofs.GroupLemmas.{texts_without}
use Rattle.sdb_rope.proofs.group_list.remove_empty_group.Goals as goal

pub returns-then-len-eq0 : goal.returns-then-len-eq0
returns-then-len-eq0 c =
    let gs = c.args.groups.now.items in
    let none = nil_from_length (items_of c.index.result.now) (sym c.len.ensures ∙ c.if-len-eq0.true) in
    ap texts_of_groups c.remove.ensures.items ∙ texts_without gs c.args.at c.index.result.now c.requires (ap (λ g. chunk_list_texts (items_of g)) (sym c.index.ensures) ∙ ap chunk_list_texts none)
