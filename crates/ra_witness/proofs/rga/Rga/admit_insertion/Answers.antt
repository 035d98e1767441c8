use Rattle.std.proofs.Common.{◌≡◌, true, ◌∙◌, refl, sym, ap}
use Rattle.std.specs.Ordering.{is_lt}
use Rattle.std.proofs.lemmas.Bool.{true≢false, false≢true}
use Rattle.std.proofs.lemmas.Option.{none-some}
use Rattle.ra_labels.specs.declared.kind.Kind.TheVariants as variant
use Rattle.ra_labels.specs.NamedOrder.{stamp_cmp}
use Rattle.ra_labels.specs.Answer.{carries_stamp}
use Rattle.ra_labels.specs.HistorySoFar.{history_of}
use Rattle.ra_rga_elements.specs.ElementList.{arrival_at}
use Rattle.ra_witness.proofs.Forms.{has_stamp}
use Rattle.ra_witness.proofs.AdmittedElements.{insertion_admitted, insertion_new, insertion_needs}
use Rattle.ra_witness.proofs.rga.Rga.admit_insertion.Goals as goal

pub stamp-requires : goal.stamp-requires
stamp-requires c = ((c.in-Some.ensures c.in-Some.behind).0 refl).0

pub returns-in_default-clause-exactly : goal.returns-in_default-clause-exactly
returns-in_default-clause-exactly c = λ initial_replicas records next label stands offered is stamped.
    let self = c.args.self.now in
    let (at, same, least, known) = has_stamp (history_of variant.Rga initial_replicas records) next label offered (ap carries_stamp is) in (
      (λ passes. absurd (false≢true passes)),
      λ admitted.
          let (m, within, is_anchor, less) = insertion_needs self.all self.edits.items records stands.elements initial_replicas next label
          offered c.args.anchor c.args.element is _ known admitted in
          absurd (c.in_default.not-Some m ((c.number_of.ensures m).1 (within, is_anchor))),
    )

pub returns-then-not-is_below-clause-exactly : goal.returns-then-not-is_below-clause-exactly
returns-then-not-is_below-clause-exactly c = λ initial_replicas records next label stands offered is stamped.
    let self = c.args.self.now in
    let m = c.in-Some.behind in
    let stamp = c.in-Some-stamp.stamp in
    let known = (c.in-Some.ensures m).0 refl in (
      (λ passes. absurd (false≢true passes)),
      λ admitted.
          let (k, within, is_anchor, less) = insertion_needs self.all self.edits.items records stands.elements initial_replicas next label
          offered c.args.anchor c.args.element is stamp (stamped ∙ c.in-Some-stamp.is) admitted in
          let same = stands.elements.once k m within known.0 (is_anchor ∙ sym known.1) in
          let here : is_lt (stamp_cmp c.stamp.result stamp) ≡ true =
          ap (λ s. is_lt (stamp_cmp s stamp)) (c.stamp.ensures ∙ ap (λ j. (arrival_at self.all.arrivals j).stamp) (sym same))
          ∙ less in
          absurd (true≢false (sym here ∙ sym c.is_below.ensures ∙ c.if-not-is_below.true)),
    )

pub returns-in-Some-number_of-clause-exactly : goal.returns-in-Some-number_of-clause-exactly
returns-in-Some-number_of-clause-exactly c = λ initial_replicas records next label stands offered is stamped.
    let self = c.args.self.now in
    let n = c.in-Some-number_of.field-0 in
    let there = (c.in-Some-number_of.ensures n).0 refl in (
      (λ passes. absurd (false≢true passes)),
      λ admitted.
          absurd (insertion_new self.all self.edits.items records stands.elements initial_replicas next label offered c.args.anchor
          c.args.element is c.in-Some-stamp.stamp (stamped ∙ c.in-Some-stamp.is) admitted n there.0 there.1),
    )

pub returns-in-None-clause-exactly : goal.returns-in-None-clause-exactly
returns-in-None-clause-exactly c = λ initial_replicas records next label stands offered is stamped.
    let self = c.args.self.now in
    let m = c.in-Some.behind in
    let stamp = c.in-Some-stamp.stamp in
    let known = (c.in-Some.ensures m).0 refl in
    let less : is_lt (stamp_cmp (arrival_at self.all.arrivals m).stamp stamp) ≡ true =
    ap (λ s. is_lt (stamp_cmp s stamp)) (sym c.stamp.ensures) ∙ sym c.is_below.ensures ∙ c.if-not-is_below.false in (
      (λ passes.
          insertion_admitted self.all self.edits.items records stands.elements initial_replicas next label offered c.args.anchor
          c.args.element is stamp (stamped ∙ c.in-Some-stamp.is) m known.0 known.1 less
          (λ n within same. none-some n ((c.in-None.ensures n).1 (within, same)))),
      λ admitted. refl,
    )
