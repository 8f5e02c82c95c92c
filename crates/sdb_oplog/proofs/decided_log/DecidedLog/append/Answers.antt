use Rattle.std.proofs.Common.{◌≡◌, ◌++◌, ◌∷◌, [], max, option_map, sym, ap, ◌∙◌, subst}
use Rattle.sdb_value.specs.View.{value_of}
use Rattle.sdb_oplog.specs.DecidedLog.{WillStore}
use Rattle.sdb_oplog.proofs.DecidedLogLemmas.{stored_entry, stored_entry_is, can_append_stored, decided_log_stored}
use Rattle.sdb_oplog.proofs.decided_log.DecidedLog.append.Goals as goal

pub push-requires : goal.push-requires
push-requires c =
    let log = c.self.inside.log in
    let s = c.args.submission in
    let content = c.args.rebased.content in
    let made = option_map value_of c.args.rebased.document in
    let is : c.new-entry.result ≡ stored_entry log s c.args.now content =
    stored_entry_is log s c.args.now content c.new-entry.result c.len-version.result c.max-moment.result c.new-entry.ensures c.len-version.ensures.len (c.max-moment.ensures ∙ ap (max c.args.now) c.last_moment.ensures) in
    can_append_stored log s c.args.now content c.self.inside.document c.self.invariant c.new-entry.result made is (subst (λ l. WillStore l s content made) (sym c.self.view_is) c.requires)

pub invariant_of-self-2 : goal.invariant_of-self-2
invariant_of-self-2 c =
    let log = c.self.inside.log in
    let s = c.args.submission in
    let content = c.args.rebased.content in
    let made = option_map value_of c.args.rebased.document in
    let is : c.new-entry.result ≡ stored_entry log s c.args.now content =
    stored_entry_is log s c.args.now content c.new-entry.result c.len-version.result c.max-moment.result c.new-entry.ensures c.len-version.ensures.len (c.max-moment.ensures ∙ ap (max c.args.now) c.last_moment.ensures) in
    decided_log_stored log s c.args.now content c.self.inside.document c.self.invariant c.push.new.self c.args.rebased.document (c.in_ok-push.ensures.ok ∙ ap (λ e. log ++ e ∷ []) is) (subst (λ l. WillStore l s content made) (sym c.self.view_is) c.requires)
