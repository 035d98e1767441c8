use Rattle.std.proofs.Common.{◌≡◌, ◌∷◌, ◌∙◌, true, sym, ap, subst, arith}
use Rattle.std.proofs.lemmas.Result.{IfOk-weaker}
use Rattle.ra_labels.specs.NamedOrder.{named_sequence}
use Rattle.ra_labels.specs.Linearization.{updates_admitted}
use Rattle.ra_labels.proofs.Results.{on_err, on_err_any}
use Rattle.ra_labels.specs.HistorySoFar.{history_of, operate}
use Rattle.ra_witness.specs.Offered.{IsOffered}
use Rattle.ra_witness.proofs.CommutingKinds.{is_commuting, is_overriding, is_rga, is_list, not_rga-commuting, not_rga-overriding, admits-commuting, can_take, commuting_taken, explained-commuting, explained-overriding, is_unordered}
use Rattle.ra_labels.specs.declared.kind.Kind.TheVariants as variant
use Rattle.ra_labels.specs.Explained.{is_explained}
use Rattle.ra_labels.specs.Fault.{sequence_cause}
use Rattle.ra_theorems.proofs.TheoremIndex.{sequence_cause_none_iff}
use Rattle.ra_witness.proofs.TakenLists.{list_taken, list_same}
use Rattle.ra_witness.proofs.effects.Effects.add.Goals as goal

pub add-requires-clause-can : goal.add-requires-clause-can
add-requires-clause-can c =
    let may = c.requires.may in
    let kept = c.in-Commuting.kept in
    let known = is_commuting c.args.self.now may.past may.stands kept c.in-Commuting.is in
    can_take kept.updates.items kept.states.items may.past known.states may.next c.args.label.now c.args.admitted.update
    (admits-commuting may.past.kind known.one) may.offered may.update_is

pub returns-in_ok-add-in-Commuting-clause-taken : goal.returns-in_ok-add-in-Commuting-clause-taken
returns-in_ok-add-in-Commuting-clause-taken c = λ past next stands offered comes none same.
    let kept = c.in-Commuting.kept in
    let known = is_commuting c.args.self.now past stands kept c.in-Commuting.is in (
      commuting_taken kept c.add.new.self past next c.args.label.now c.args.admitted.update known offered same
          c.in_ok-add-in-Commuting.ensures.updates c.in_ok-add-in-Commuting.ensures.states,
      explained-commuting past.kind (operate next ∷ past.records) known.one,
    )

pub returns-in_ok-add_write-in-Overriding-clause-taken : goal.returns-in_ok-add_write-in-Overriding-clause-taken
returns-in_ok-add_write-in-Overriding-clause-taken c = λ past next stands offered comes none same.
    let known = is_overriding c.args.self.now past stands c.in-Overriding.kept c.in-Overriding.is in (
      record {
        few = omega (arith, offered.few);
        form = c.in_ok-add_write-in-Overriding.ensures.taken past next known offered same;
      },
      explained-overriding past.kind (operate next ∷ past.records) known.one,
    )

pub returns-in_err-add_write-in-Overriding-clause-same : goal.returns-in_err-add_write-in-Overriding-clause-same
returns-in_err-add_write-in-Overriding-clause-same c = λ past stands.
    let known = is_overriding c.args.self.now past stands c.in-Overriding.kept c.in-Overriding.is in
    on_err_any c.from_residual-in_err-add_write-in-Overriding.result
    (record { few = stands.few; form = c.in_err-add_write-in-Overriding.ensures.same past known })

pub returns-in_ok-add-in-InRga-clause-taken : goal.returns-in_ok-add-in-InRga-clause-taken
returns-in_ok-add-in-InRga-clause-taken c = λ past next stands offered comes none same.
    let known = is_rga c.args.self.now past stands c.in-Rga.kept c.in-Rga.is in
    let admitted = ((sequence_cause_none_iff past.kind (operate next ∷ past.records)).0 none).1 in
    let after = c.in_ok-add-in-InRga.ensures.taken past.initial_replicas past.records next known.1
    (subst (λ k. IsOffered (history_of k past.initial_replicas past.records) next c.args.label.now) known.0 offered)
    (subst (λ k. updates_admitted k (named_sequence k (operate next ∷ past.records)) ≡ true) known.0 admitted) in (
      record { few = omega (arith, offered.few); form = (known.0, after.0) },
      ap (λ k. is_explained k (operate next ∷ past.records)) known.0,
    )

pub returns-in_ok-add-in-Commuting-clause-settled : goal.returns-in_ok-add-in-Commuting-clause-settled
returns-in_ok-add-in-Commuting-clause-settled c = λ past next stands offered admitted rga.
    let known = is_commuting c.args.self.now past stands c.in-Commuting.kept c.in-Commuting.is in
    absurd (not_rga-commuting past.kind known.one rga)

pub returns-in_ok-add_write-in-Overriding-clause-settled : goal.returns-in_ok-add_write-in-Overriding-clause-settled
returns-in_ok-add_write-in-Overriding-clause-settled c = λ past next stands offered admitted rga.
    let known = is_overriding c.args.self.now past stands c.in-Overriding.kept c.in-Overriding.is in
    absurd (not_rga-overriding past.kind known.one rga)

pub returns-in_ok-add-in-InRga-clause-settled : goal.returns-in_ok-add-in-InRga-clause-settled
returns-in_ok-add-in-InRga-clause-settled c = λ past next stands offered admitted rga.
    let known = is_rga c.args.self.now past stands c.in-Rga.kept c.in-Rga.is in
    (c.in_ok-add-in-InRga.ensures.taken past.initial_replicas past.records next known.1
    (subst (λ k. IsOffered (history_of k past.initial_replicas past.records) next c.args.label.now) known.0 offered)
    (subst (λ k. updates_admitted k (named_sequence k (operate next ∷ past.records)) ≡ true) known.0 admitted)).1

pub returns-in_err-add-in-InRga-clause-same : goal.returns-in_err-add-in-InRga-clause-same
returns-in_err-add-in-InRga-clause-same c = λ past stands.
    let known = is_rga c.args.self.now past stands c.in-Rga.kept c.in-Rga.is in
    on_err_any c.from_residual-in_err-add-in-InRga.result (record {
      few = stands.few;
      form = (known.0, c.in_err-add-in-InRga.ensures.same past.initial_replicas past.records known.1);
    })

pub returns-in_ok-add-in-InRga-clause-counted : goal.returns-in_ok-add-in-InRga-clause-counted
returns-in_ok-add-in-InRga-clause-counted c = λ past stands other.
    absurd (other (is_rga c.args.self.now past stands c.in-Rga.kept c.in-Rga.is).0)

pub returns-in-InList-clause-taken : goal.returns-in-InList-clause-taken
returns-in-InList-clause-taken c = λ past next stands offered comes none same.
    let known = is_list c.args.self.now past stands c.in-List.kept c.in-List.is in
    let now = operate next ∷ past.records in
    IfOk-weaker c.add-in-InList.result _ _ (λ added after. list_taken _ past next known.0 stands.few offered.few added after)
    (c.add-in-InList.ensures.taken past.initial_replicas past.records next known.1
    (subst (λ k. IsOffered (history_of k past.initial_replicas past.records) next c.args.label.now) known.0 offered)
    (ap (λ k. sequence_cause k now) (sym known.0) ∙ none))

pub returns-in-InList-clause-settled : goal.returns-in-InList-clause-settled
returns-in-InList-clause-settled c = λ past next stands offered admitted rga.
    let known = is_list c.args.self.now past stands c.in-List.kept c.in-List.is in
    absurd (let e : variant.List ≡ variant.Rga = sym known.0 ∙ rga in cc (e))

pub returns-in-InList-clause-unchanged : goal.returns-in-InList-clause-unchanged
returns-in-InList-clause-unchanged c = λ past stands.
    let known = is_list c.args.self.now past stands c.in-List.kept c.in-List.is in
    IfOk-weaker c.add-in-InList.result _ _ (λ added same. list_same _ past known.0 stands.few added same)
    (c.add-in-InList.ensures.unchanged past.initial_replicas past.records known.1)

pub returns-in-InList-clause-same : goal.returns-in-InList-clause-same
returns-in-InList-clause-same c = λ past stands.
    let known = is_list c.args.self.now past stands c.in-List.kept c.in-List.is in
    on_err c.add-in-InList.result (c.add-in-InList.ensures.same past.initial_replicas past.records known.1)
    (λ form. record { few = stands.few; form = (known.0, form) })
