use Rattle.std.proofs.Common.{◌≡◌, true, ap}
use Rattle.sdb_chunks.specs.Chunk.{is_chunk_shared}
use Rattle.sdb_value.proofs.CloneLemmas.{some_of, found_of, none_of, not_shared_unique}
use Rattle.sdb_value.proofs.clone_modes.clone_chunk_pointer.Goals as goal

pub returns-in_default : goal.returns-in_default
returns-in_default g c =
    let b = c.args.chunk.now in
    let e = c.clone_shared.ensures in
    record {
      equal = e.equal;
      shared = e.shared;
      was_shared = found_of {P = λ x. is_chunk_shared x ≡ true} c.clone_shared.result (is_chunk_shared b) (λ x was now. was) e.found e.shared;
      not_unique_mode = some_of {P = λ x. is_chunk_shared x ≡ true} c.clone_shared.result (λ x now. c.in_default.not-Unique) e.shared;
      none = none_of c.clone_shared.result (is_chunk_shared b) e.found (λ h _. not_shared_unique b h);
    }
