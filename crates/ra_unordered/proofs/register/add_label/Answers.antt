use Rattle.std.proofs.Common.{◌≡◌, ◌∷◌, ◌++◌, [], true, false, Some, None, length, sym, ap, ◌∙◌, subst}
use Rattle.std.specs.Prelude.{◌&&◌, set}
use Rattle.ra_labels.specs.declared.label.Label.{Label}
use Rattle.ra_labels.specs.Lists.{rises, have_same_elements}
use Rattle.ra_labels.specs.Visibility.{is_update}
use Rattle.ra_labels.specs.Answer.{has_rising_list}
use Rattle.ra_labels.specs.Explained.{value_written}
use Rattle.ra_siblings.specs.Kept.{siblings_of, issued_as, values_of}
use Rattle.ra_unordered.proofs.KeptSiblings.{after_write, after_query, read_decides}
use Rattle.ra_unordered.proofs.register.add_label.Goals as goal

pub returns-then-not-branch-clause-judged : goal.returns-then-not-branch-clause-judged
returns-then-not-branch-clause-judged c = λ past next stands comes.
    let kept = c.args.siblings.now in
    let list = c.as_slice.ensures in
    let replica = ap (λ (l : Label). l.replica) comes.becomes in
    let is = sym (ap (λ (l : Label). l.op) comes.becomes) ∙ c.in-MvRead.is in
    let said = sym c.if-not-branch.true
    ∙ c.in_ok-is_right_read-in-MvRead.ensures
    ∙ (λ i. rises (list i) && have_same_elements (list i) (values_of kept (siblings_of kept (replica i)))) in
    read_decides kept past next c.in-MvRead.values false stands comes.replica comes.kind is
    (sym (ap has_rising_list is) ∙ comes.list) comes.explained said

pub returns-in_ok-add_query-in-MvRead-clause-judged : goal.returns-in_ok-add_query-in-MvRead-clause-judged
returns-in_ok-add_query-in-MvRead-clause-judged c = λ past next stands comes.
    let kept = c.args.siblings.now in
    let list = c.as_slice.ensures in
    let replica = ap (λ (l : Label). l.replica) comes.becomes in
    let is = sym (ap (λ (l : Label). l.op) comes.becomes) ∙ c.in-MvRead.is in
    let said = sym c.if-not-branch.false
    ∙ c.in_ok-is_right_read-in-MvRead.ensures
    ∙ (λ i. rises (list i) && have_same_elements (list i) (values_of kept (siblings_of kept (replica i)))) in
    read_decides kept past next c.in-MvRead.values true stands comes.replica comes.kind is
    (sym (ap has_rising_list is) ∙ comes.list) comes.explained said

pub returns-in_ok-write-in-MvWrite-clause-taken : goal.returns-in_ok-write-in-MvWrite-clause-taken
returns-in_ok-write-in-MvWrite-clause-taken c = λ past next stands comes same.
    let old = c.args.siblings.now in
    let new = c.write.new.self in
    let value = c.in-MvWrite.value in
    let replica = ap (λ (l : Label). l.replica) comes.becomes in
    let is = sym (ap (λ (l : Label). l.op) comes.becomes) ∙ c.in-MvWrite.is in
    after_write old new past next value stands (ap is_update is) (ap value_written is) comes.replica
    (subst (λ r. new.labels ≡ old.labels ++ issued_as (Some value) (siblings_of old r) ∷ []) replica
    c.in_ok-write-in-MvWrite.ensures.labels)
    (subst (λ r. new.replicas ≡ set old.replicas r (length old.labels ∷ [])) replica
    c.in_ok-write-in-MvWrite.ensures.replicas)

pub returns-in_ok-add_query-in-MvRead-clause-taken : goal.returns-in_ok-add_query-in-MvRead-clause-taken
returns-in_ok-add_query-in-MvRead-clause-taken c = λ past next stands comes same.
    let is = sym (ap (λ (l : Label). l.op) comes.becomes) ∙ c.in-MvRead.is in
    after_query c.args.siblings.now c.add_query.new.self past next stands (ap is_update is) (ap value_written is)
    comes.replica c.in_ok-add_query-in-MvRead.ensures.labels c.in_ok-add_query-in-MvRead.ensures.replicas
