use Rattle.std.proofs.Common.{refl, ◌∙◌, append_assoc}
use Rattle.std.proofs.lemmas.Result.{on_ok_weaker}
use Rattle.sdb_dump.proofs.dump_line.write_tail.Goals as goal

pub returns-clause-tokens : goal.returns-clause-tokens
returns-clause-tokens c =
    on_ok_weaker c.end_object.result (λ e. e ∙ rw (c.in_ok-write_text-2.ensures.tokens, c.in_ok-write_count-2.ensures.tokens, c.in_ok-write_text.ensures.tokens, c.in_ok-write_count.ensures.tokens, c.via.ensures, c.arrived-3.ensures, c.version.ensures, c.src.ensures, c.arrived-2.ensures, c.seq.ensures, c.arrived.ensures) (simp append_assoc refl)) c.end_object.ensures.ok
