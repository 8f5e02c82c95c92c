use Rattle.std.proofs.Common.{◌≡◌, ◌++◌, ◌∷◌, [], List, codes, length, map, ap, ◌∙◌, subst}
use Rattle.sdb_lines.specs.Prefixes.{AppendsPrefix}
use Rattle.sdb_oplog.specs.Keys.{PlainKey, plain_key}
use Rattle.sdb_dump.specs.DumpText.{header_line}
use Rattle.sdb_dump.specs.LogListing.{lines_of_logs}
use Rattle.sdb_dump.specs.WriteModel.{WroteUpTo, logs_text}
use Rattle.sdb_dump.proofs.OutputLemmas.{head_is, all_wrote, logs_prefix, but_wrote, last_prefix, on_any_err}
use Rattle.sdb_dump.proofs.write.write_dump.Goals as goal

pub returns-in_err-entries-clause-prefix_on_err : goal.returns-in_err-entries-clause-prefix_on_err
returns-in_err-entries-clause-prefix_on_err g c =
    let f = g.D.DumpSource.logs c.args.documents.now in
    let ks = map plain_key c.in_ok-keys.keys.items in
    let head = c.extend_from_slice.new.self.items in
    let first : head ≡ header_line ++ 10 ∷ [] = c.in_ok-extend_from_slice.ensures.items ∙ ap (λ l. l ++ codes "{\"dump\":2}\n") c.in_ok-out.ensures.items ∙ head_is in
    let old = g.W.Sink.bytes_written c.args.writer.now in
    let mid = g.W.Sink.bytes_written c.write_logs.new.writer in
    let same : map plain_key c.as_slice.result.now ≡ ks = ap (map plain_key) c.as_slice.ensures.value in
    on_any_err _ (logs_prefix f ks c.in_ok-keys.ensures head first old mid (subst (λ (x : List PlainKey). AppendsPrefix old mid (head ++ logs_text f x)) same c.in_err-entries.ensures.prefix_on_err))

pub returns-in_err-push_count-clause-prefix_on_err : goal.returns-in_err-push_count-clause-prefix_on_err
returns-in_err-push_count-clause-prefix_on_err g c =
    let f = g.D.DumpSource.logs c.args.documents.now in
    let ks = map plain_key c.in_ok-keys.keys.items in
    let head = c.extend_from_slice.new.self.items in
    let first : head ≡ header_line ++ 10 ∷ [] = c.in_ok-extend_from_slice.ensures.items ∙ ap (λ l. l ++ codes "{\"dump\":2}\n") c.in_ok-out.ensures.items ∙ head_is in
    let old = g.W.Sink.bytes_written c.args.writer.now in
    let mid = g.W.Sink.bytes_written c.write_logs.new.writer in
    let out = c.write_logs.new.out.items in
    let same : map plain_key c.as_slice.result.now ≡ ks = ap (map plain_key) c.as_slice.ensures.value in
    on_any_err _ (but_wrote f ks c.in_ok-keys.ensures head first old mid out (subst (λ (x : List PlainKey). WroteUpTo old mid (head ++ logs_text f x) out) same c.in_ok-entries.ensures.wrote))

pub returns-in_err-write_and_flush-clause-prefix_on_err : goal.returns-in_err-write_and_flush-clause-prefix_on_err
returns-in_err-write_and_flush-clause-prefix_on_err g c =
    let f = g.D.DumpSource.logs c.args.documents.now in
    let ks = map plain_key c.in_ok-keys.keys.items in
    let head = c.extend_from_slice.new.self.items in
    let first : head ≡ header_line ++ 10 ∷ [] = c.in_ok-extend_from_slice.ensures.items ∙ ap (λ l. l ++ codes "{\"dump\":2}\n") c.in_ok-out.ensures.items ∙ head_is in
    let old = g.W.Sink.bytes_written c.args.writer.now in
    let mid = g.W.Sink.bytes_written c.write_logs.new.writer in
    let new = g.W.Sink.bytes_written c.write_and_flush.new.writer in
    let out = c.write_logs.new.out.items in
    let same : map plain_key c.as_slice.result.now ≡ ks = ap (map plain_key) c.as_slice.ensures.value in
    let count = c.in_ok-entries.ensures.count ∙ ap (λ (x : List PlainKey). length (lines_of_logs f x)) same in
    on_any_err _ (last_prefix f ks c.in_ok-keys.ensures head first old mid new out c.push_count.new.out.items c.in_ok-entries.entries
    (subst (λ (x : List PlainKey). WroteUpTo old mid (head ++ logs_text f x) out) same c.in_ok-entries.ensures.wrote) count c.in_ok-push_count.ensures c.in_err-write_and_flush.ensures.prefix_on_err)

pub returns-clause-wrote_all : goal.returns-clause-wrote_all
returns-clause-wrote_all g c =
    let f = g.D.DumpSource.logs c.args.documents.now in
    let ks = map plain_key c.in_ok-keys.keys.items in
    let head = c.extend_from_slice.new.self.items in
    let first : head ≡ header_line ++ 10 ∷ [] = c.in_ok-extend_from_slice.ensures.items ∙ ap (λ l. l ++ codes "{\"dump\":2}\n") c.in_ok-out.ensures.items ∙ head_is in
    let old = g.W.Sink.bytes_written c.args.writer.now in
    let mid = g.W.Sink.bytes_written c.write_logs.new.writer in
    let new = g.W.Sink.bytes_written c.write_and_flush.new.writer in
    let out = c.write_logs.new.out.items in
    let same : map plain_key c.as_slice.result.now ≡ ks = ap (map plain_key) c.as_slice.ensures.value in
    let count = c.in_ok-entries.ensures.count ∙ ap (λ (x : List PlainKey). length (lines_of_logs f x)) same in
    all_wrote f ks c.in_ok-keys.ensures head first old mid new out c.push_count.new.out.items c.in_ok-entries.entries
    (subst (λ (x : List PlainKey). WroteUpTo old mid (head ++ logs_text f x) out) same c.in_ok-entries.ensures.wrote) count c.in_ok-push_count.ensures c.in_ok-write_and_flush.ensures.wrote
