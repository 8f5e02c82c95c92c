use Rattle.std.proofs.Common.{◌++◌, Result, Ok, Err, OnOk, OnErr, take, drop, string_bytes, ap, ◌∙◌, sym, arith}
use Rattle.std.specs.List.{remove_range}
use Rattle.std.proofs.lemmas.Result.{on_err_weaker}
use Rattle.std.proofs.lemmas.List.{append-nil}
use Rattle.sdb_rope.specs.SharedStr.{str_bytes}
use Rattle.sdb_rope.proofs.shared_str.SharedStr.remove.Goals as goal

done : {A E P : Type 0} (r : Result A E) → OnErr r P → OnOk r P → P
done (Ok x) e k = k
done (Err x) e k = e

pub returns-clause-bytes : goal.returns-clause-bytes
returns-clause-bytes c =
    done c.replace_range-done.result (on_err_weaker c.replace_range-done.result (λ l. absurd (omega (arith, l, c.in-Unique.text.bytes.ok.1))) c.replace_range-done.ensures.full) c.replace_range-done.ensures.bytes
    ∙ ap (λ l. l ++ drop c.args.to (string_bytes c.in-Unique.text)) (append-nil (take c.args.from (string_bytes c.in-Unique.text)))
    ∙ ap (λ t. remove_range t c.args.from c.args.to) (sym (ap str_bytes c.in-Unique.is))
