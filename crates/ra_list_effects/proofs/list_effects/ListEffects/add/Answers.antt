use Rattle.std.proofs.Common.{rules, sym, subst, Option, None, Some}
use Rattle.std.specs.Prelude.{IfSome, MatchOption}
use Rattle.std.proofs.lemmas.Result.{IfOk-weaker}
use Rattle.ra_labels.specs.declared.list_operation.ListOp.TheVariants as op
use Rattle.ra_list_replica.specs.Numbers.{AreNumbersOf}
use Rattle.ra_list_effects.specs.declared.list_effects.Found.TheVariants as found
use Rattle.ra_list_effects.specs.Past.{with_operation}
use Rattle.ra_list_effects.specs.Effects.{AreEffectsOf, IsFoundFor}
use Rattle.ra_list_effects.proofs.list_effects.ListEffects.add.Goals as goal

pub returns-in_ok-add_removal-in-Element-clause-added : goal.returns-in_ok-add_removal-in-Element-clause-added
returns-in_ok-add_removal-in-Element-clause-added c = λ past stands right.
    let is : IsFoundFor c.args.self.now c.args.replica (op.Remove c.in-Remove.field-0) (found.Element c.in-Element.number) =
    subst (IsFoundFor c.args.self.now c.args.replica (op.Remove c.in-Remove.field-0)) c.in-Element.is
    (subst (λ o. IsFoundFor c.args.self.now c.args.replica o c.args.found) c.in-Remove.is c.requires.found) in
    subst (λ o. AreEffectsOf c.add_removal.new.self (with_operation past c.args.replica o c.args.label)) (sym c.in-Remove.is)
    (c.in_ok-add_removal-in-Element.ensures.added past c.in-Remove.field-0 c.args.label stands is.0)

-- a cycle leaves the past that was represented
still_same : {A : Type 0} (P : Type 0) (Q : A → Type 0) (R : Type 0) (found : Option A) → MatchOption found R (λ x. P × Q x)
    → IfSome found (λ x. P)
still_same P Q R None both = tt
still_same P Q R (Some x) both = both.0

pub returns-in-Read-found-clause-added : goal.returns-in-Read-found-clause-added
returns-in-Read-found-clause-added c = λ past stands right.
    let its : IsFoundFor c.args.self.now c.args.replica (op.Read c.in-Read.field-0) (found.Read c.in-Read-found.listed) =
    subst (IsFoundFor c.args.self.now c.args.replica (op.Read c.in-Read.field-0)) c.in-Read-found.is
    (subst (λ o. IsFoundFor c.args.self.now c.args.replica o c.args.found) c.in-Read.is c.requires.found) in
    let added = c.add_read.ensures.added past c.in-Read.field-0 stands its in
    search (rules, added)

pub returns-in-Read-found-clause-unchanged : goal.returns-in-Read-found-clause-unchanged
returns-in-Read-found-clause-unchanged c = λ past stands.
    let its : IsFoundFor c.args.self.now c.args.replica (op.Read c.in-Read.field-0) (found.Read c.in-Read-found.listed) =
    subst (IsFoundFor c.args.self.now c.args.replica (op.Read c.in-Read.field-0)) c.in-Read-found.is
    (subst (λ o. IsFoundFor c.args.self.now c.args.replica o c.args.found) c.in-Read.is c.requires.found) in
    IfOk-weaker c.add_read.result _ _ (λ found both. still_same _ _ _ found both)
    (c.add_read.ensures.added past c.in-Read.field-0 stands its)

pub returns-in-Part-found-clause-added : goal.returns-in-Part-found-clause-added
returns-in-Part-found-clause-added c = λ past stands right.
    let its : IsFoundFor c.args.self.now c.args.replica (op.Part c.in-Part.field-0) (found.Part c.in-Part-found.part) =
    subst (IsFoundFor c.args.self.now c.args.replica (op.Part c.in-Part.field-0)) c.in-Part-found.is
    (subst (λ o. IsFoundFor c.args.self.now c.args.replica o c.args.found) c.in-Part.is c.requires.found) in
    let added = c.add_part.ensures.added past c.args.replica c.in-Part.field-0 stands
    (subst (AreNumbersOf c.args.self.now.witness.elements c.in-Part.field-0) (sym c.deref.ensures.value) its) in
    search (rules, added)

pub returns-in-Part-found-clause-unchanged : goal.returns-in-Part-found-clause-unchanged
returns-in-Part-found-clause-unchanged c = λ past stands.
    let its : IsFoundFor c.args.self.now c.args.replica (op.Part c.in-Part.field-0) (found.Part c.in-Part-found.part) =
    subst (IsFoundFor c.args.self.now c.args.replica (op.Part c.in-Part.field-0)) c.in-Part-found.is
    (subst (λ o. IsFoundFor c.args.self.now c.args.replica o c.args.found) c.in-Part.is c.requires.found) in
    IfOk-weaker c.add_part.result _ _ (λ found both. still_same _ _ _ found both)
    (c.add_part.ensures.added past c.args.replica c.in-Part.field-0 stands
    (subst (AreNumbersOf c.args.self.now.witness.elements c.in-Part.field-0) (sym c.deref.ensures.value) its))
