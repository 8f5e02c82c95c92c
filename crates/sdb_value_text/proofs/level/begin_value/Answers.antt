use Rattle.std.proofs.Common.{◌∷◌, [], sym, ap, ◌∙◌}
use Rattle.json.specs.Print.{quoted}
use Rattle.sdb_rope.specs.Rope.{rope_texts}
use Rattle.sdb_value.proofs.ViewLemmas.{seen_list, seen_object}
use Rattle.sdb_value.specs.View.{list_value, object_value, value_of}
use Rattle.sdb_value_text.specs.Level.{inside_text, string_text}
use Rattle.sdb_value_text.specs.ValueText.{value_text}
use Rattle.sdb_value_text.proofs.HasTextLemmas.{value_has_text, appended_longer, list_has_text, object_has_text, list_begins, object_begins, seen_text}
use Rattle.sdb_value_text.proofs.TextLemmas.{appended}
use Rattle.sdb_value_text.proofs.level.begin_value.Goals as goal

pub returns-then-size-lt-LARGE_SIZE-clause-longer : goal.returns-then-size-lt-LARGE_SIZE-clause-longer
returns-then-size-lt-LARGE_SIZE-clause-longer c =
    let v = value_of c.args.value.now in
    appended_longer c.append_value.new.out.items c.args.out.now.items (value_text v) c.in_ok-append_value.ensures (value_has_text v)

pub returns-in_ok-frozen_clone-in-Text-clause-text : goal.returns-in_ok-frozen_clone-in-Text-clause-text
returns-in_ok-frozen_clone-in-Text-clause-text c =
    let t = c.in_ok-frozen_clone-in-Text.field-0 in
    appended c.push.new.self.items c.args.out.now.items (34 ∷ []) (string_text (rope_texts t) 0) (value_text (value_of c.args.value.now)) c.in_ok-push-in-Text.ensures.items
    (ap value_text (ap value_of c.in-Text.is ∙ seen_text c.in-Text.text) ∙ ap quoted (sym c.in_ok-frozen_clone-in-Text.ensures.bytes))

pub returns-in_ok-frozen_clone-in-List-clause-text : goal.returns-in_ok-frozen_clone-in-List-clause-text
returns-in_ok-frozen_clone-in-List-clause-text c =
    let v = value_of c.in_ok-frozen_clone-in-List.field-0 in
    let w = value_of c.args.value.now in
    let l = c.in-List.field-0 in
    appended c.push-in-List.new.self.items c.args.out.now.items (91 ∷ []) (inside_text v 0) (value_text w) c.in_ok-push-in-List.ensures.items
    (list_begins w (list_value l) (ap value_of c.in-List.is ∙ seen_list l) ∙ ap (λ u. 91 ∷ inside_text u 0) (sym c.in_ok-frozen_clone-in-List.ensures.value))

pub returns-in_ok-frozen_clone-in-List-clause-has_text : goal.returns-in_ok-frozen_clone-in-List-clause-has_text
returns-in_ok-frozen_clone-in-List-clause-has_text c =
    let l = c.in-List.field-0 in
    list_has_text (value_of c.in_ok-frozen_clone-in-List.field-0) (list_value l) 0 (c.in_ok-frozen_clone-in-List.ensures.value ∙ ap value_of c.in-List.is ∙ seen_list l)

pub returns-in_ok-frozen_clone-in-Object-clause-text : goal.returns-in_ok-frozen_clone-in-Object-clause-text
returns-in_ok-frozen_clone-in-Object-clause-text c =
    let v = value_of c.in_ok-frozen_clone-in-Object.field-0 in
    let w = value_of c.args.value.now in
    let m = c.in-Object.field-0 in
    appended c.push-in-Object.new.self.items c.args.out.now.items (123 ∷ []) (inside_text v 0) (value_text w) c.in_ok-push-in-Object.ensures.items
    (object_begins w (object_value m) (ap value_of c.in-Object.is ∙ seen_object m) ∙ ap (λ u. 123 ∷ inside_text u 0) (sym c.in_ok-frozen_clone-in-Object.ensures.value))

pub returns-in_ok-frozen_clone-in-Object-clause-has_text : goal.returns-in_ok-frozen_clone-in-Object-clause-has_text
returns-in_ok-frozen_clone-in-Object-clause-has_text c =
    let m = c.in-Object.field-0 in
    object_has_text (value_of c.in_ok-frozen_clone-in-Object.field-0) (object_value m) 0 (c.in_ok-frozen_clone-in-Object.ensures.value ∙ ap value_of c.in-Object.is ∙ seen_object m)
