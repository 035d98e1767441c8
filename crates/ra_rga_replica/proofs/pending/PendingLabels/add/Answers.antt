use Rattle.std.proofs.Common.{◌≡◌, ℕ, Some, None, sym, ap, ◌∙◌, rules, ◌++◌, ◌∷◌, [], List}
use Rattle.std.specs.Prelude.{nat_eq, option_map}
use Rattle.std.specs.Map.{lookup}
use Rattle.std.proofs.lemmas.Option.{same_Some}
use Rattle.ra_labels.proofs.Results.{on_err_any}
use Rattle.ra_rga_replica.specs.PendingLabels.{labels_under}
use Rattle.ra_rga_replica.proofs.Entries.{under_some, under_none, under_now, under_other, none_empty, filled_push, put_back, looked_up, items_of}
use Rattle.ra_rga_replica.proofs.pending.PendingLabels.add.Goals as goal

pub invariant_of-self : goal.invariant_of-self
invariant_of-self c =
    let entries = c.self.inside.under.entries in
    let number = c.args.number in
    let found : lookup (nat_eq number) entries ≡ Some c.in-Some.labels.now = search rules in
    let wrote = (c.get_mut.follows.holds c.push.new.self).3 (search rules) in
    none_empty _ _ _ _ wrote.0 c.self.invariant (λ v is empty.
    c.self.invariant number c.in-Some.labels.now.items
    (looked_up entries number ∙ ap (option_map items_of) found)
    (sym {A = List ℕ} c.in_err-push.ensures.items ∙ ap items_of (same_Some c.push.new.self v is) ∙ empty))

pub returns-in_err-push-clause-others : goal.returns-in_err-push-clause-others
returns-in_err-push-clause-others c = λ other differs.
    let wrote = (c.get_mut.follows.holds c.push.new.self).3 (search rules) in
    under_other _ _ _ _ wrote.0 other differs ∙ ap (λ w. labels_under w other) c.self.view_is

pub returns-in_err-push-clause-err : goal.returns-in_err-push-clause-err
returns-in_err-push-clause-err c =
    let entries = c.self.inside.under.entries in
    let number = c.args.number in
    let found : lookup (nat_eq number) entries ≡ Some c.in-Some.labels.now = search rules in
    let wrote = (c.get_mut.follows.holds c.push.new.self).3 (search rules) in
    on_err_any c.from_residual.result
    (under_now _ _ _ _ wrote.0
    ∙ c.in_err-push.ensures.items
    ∙ sym (under_some entries number c.in-Some.labels.now found)
    ∙ ap (λ w. labels_under w number) c.self.view_is)

pub invariant_of-self-in-Some : goal.invariant_of-self-in-Some
invariant_of-self-in-Some c =
    let wrote = (c.get_mut.follows.holds c.push.new.self).3 (search rules) in
    none_empty _ _ _ _ wrote.0 c.self.invariant (λ v is empty.
    filled_push c.in-Some.labels.now.items c.args.label
    (sym {A = List ℕ} c.in_ok-push.ensures.items ∙ ap items_of (same_Some c.push.new.self v is) ∙ empty))

pub returns-in-Some-clause-added : goal.returns-in-Some-clause-added
returns-in-Some-clause-added c =
    let entries = c.self.inside.under.entries in
    let number = c.args.number in
    let found : lookup (nat_eq number) entries ≡ Some c.in-Some.labels.now = search rules in
    let wrote = (c.get_mut.follows.holds c.push.new.self).3 (search rules) in
    under_now _ _ _ _ wrote.0
    ∙ c.in_ok-push.ensures.items
    ∙ ap (λ ls. ls ++ c.args.label ∷ []) (sym (under_some entries number c.in-Some.labels.now found)
    ∙ ap (λ w. labels_under w number) c.self.view_is)

pub returns-in-Some-clause-others : goal.returns-in-Some-clause-others
returns-in-Some-clause-others c = λ other differs.
    let wrote = (c.get_mut.follows.holds c.push.new.self).3 (search rules) in
    under_other _ _ _ _ wrote.0 other differs ∙ ap (λ w. labels_under w other) c.self.view_is

pub invariant_of-self-2 : goal.invariant_of-self-2
invariant_of-self-2 c =
    let labels : c.in_ok-labels.labels.items ≡ c.args.label ∷ [] = search rules in
    none_empty _ _ _ _
    (λ q. put_back _ _ _ c.args.number _ (ap (λ m. m.entries) c.get_mut.follows.holds-at-none) q
    (c.in_ok-insert.ensures.updates.0 q)) c.self.invariant (λ v is empty.
    filled_push [] c.args.label (sym labels ∙ ap items_of (same_Some c.in_ok-labels.labels v is) ∙ empty))

pub returns-clause-added : goal.returns-clause-added
returns-clause-added c =
    let entries = c.self.inside.under.entries in
    let number = c.args.number in
    let labels : c.in_ok-labels.labels.items ≡ c.args.label ∷ [] = search rules in
    let missing : lookup (nat_eq number) entries ≡ None = search rules in
    under_now _ _ _ (Some c.in_ok-labels.labels)
    (λ q. put_back _ _ _ number _ (ap (λ m. m.entries) c.get_mut.follows.holds-at-none) q
    (c.in_ok-insert.ensures.updates.0 q))
    ∙ labels
    ∙ ap (λ ls. ls ++ c.args.label ∷ []) (sym (under_none entries number missing)
    ∙ ap (λ w. labels_under w number) c.self.view_is)

pub returns-clause-others : goal.returns-clause-others
returns-clause-others c = λ other differs.
    under_other _ _ c.args.number (Some c.in_ok-labels.labels)
    (λ q. put_back _ _ _ c.args.number _ (ap (λ m. m.entries) c.get_mut.follows.holds-at-none) q
    (c.in_ok-insert.ensures.updates.0 q)) other differs
    ∙ ap (λ w. labels_under w other) c.self.view_is
