use Rattle.std.proofs.Common.{◌≡◌, ◌∙◌, true, length, refl, sym, ap, arith}
use Rattle.std.specs.List.{slice_get}
use Rattle.std.specs.Ordering.{is_le}
use Rattle.std.proofs.lemmas.Bool.{true≢false, false≢true}
use Rattle.std.proofs.lemmas.Option.{slice_get_read}
use Rattle.ra_labels.specs.NamedOrder.{stamp_cmp}
use Rattle.ra_rga_elements.specs.ElementList.{Arrival, arrival_at}
use Rattle.ra_rga_replica.specs.Edits.{element_at}
use Rattle.ra_rga_replica.proofs.TheoremIndex.{next_label_rank}
use Rattle.ra_witness.proofs.AdmittedElements.{removal_admitted, removal_needs, unclocked}
use Rattle.ra_witness.proofs.rga.Rga.admit_removal.Goals as goal

pub stamp-requires : goal.stamp-requires
stamp-requires c = ((c.in-Some.ensures c.in-Some.number).0 refl).0

pub returns-in_default-clause-exactly : goal.returns-in_default-clause-exactly
returns-in_default-clause-exactly c = λ initial_replicas records next label stands offered by is.
    let self = c.args.self.now in (
      (λ passes. absurd (false≢true passes)),
      λ admitted.
          let needs = removal_needs self.all self.edits.items records stands.elements initial_replicas next label offered c.args.element
          is _ refl admitted in
          absurd (c.in_default.not-Some needs.number ((c.number_of.ensures needs.number).1 (needs.within, needs.is_it))),
    )

pub returns-then-number-eq-ROOT-clause-exactly : goal.returns-then-number-eq-ROOT-clause-exactly
returns-then-number-eq-ROOT-clause-exactly c = λ initial_replicas records next label stands offered by is.
    let self = c.args.self.now in
    let n = c.in-Some.number in
    let known = (c.in-Some.ensures n).0 refl in (
      (λ passes. absurd (false≢true passes)),
      λ admitted.
          let needs = removal_needs self.all self.edits.items records stands.elements initial_replicas next label offered c.args.element
          is _ refl admitted in
          absurd (needs.some (sym known.1 ∙ ap (element_at self.all.arrivals) c.if-number-eq-ROOT.true
          ∙ ap (λ (a : Arrival). a.element) stands.elements.first)),
    )

pub returns-then-not-is_at_most-clause-exactly : goal.returns-then-not-is_at_most-clause-exactly
returns-then-not-is_at_most-clause-exactly c = λ initial_replicas records next label stands offered by is.
    let self = c.args.self.now in
    let edits = self.edits.items in
    let lists = self.lists.items in
    let list = c.index.result.now in
    let n = c.in-Some.number in
    let there = ap (slice_get lists) by
    ∙ slice_get_read lists (length lists) c.args.replica list refl (omega (arith, c.requires, self.lists.ok.0)) c.index.ensures in
    let no_clock = unclocked self.all edits records stands.elements initial_replicas next label offered c.args.element is in
    let ranks = next_label_rank list self.all.arrivals edits records next (stands.lists next.by list there) no_clock in
    let known = (c.in-Some.ensures n).0 refl in
    let said : c.is_at_most.result ≡ is_le (stamp_cmp (arrival_at self.all.arrivals n).stamp list.greatest) =
    c.is_at_most.ensures.up_to ∙ ap (λ s. is_le (stamp_cmp s c.greatest-greatest.result)) c.stamp.ensures
    ∙ ap (λ s. is_le (stamp_cmp (arrival_at self.all.arrivals n).stamp s)) c.greatest-greatest.ensures in (
      (λ passes. absurd (false≢true passes)),
      λ admitted.
          let needs = removal_needs self.all edits records stands.elements initial_replicas next label offered c.args.element is
          list.greatest ranks admitted in
          let same = stands.elements.once needs.number n needs.within known.0 (needs.is_it ∙ sym known.1) in
          let here : c.is_at_most.result ≡ true =
          said ∙ ap (λ j. is_le (stamp_cmp (arrival_at self.all.arrivals j).stamp list.greatest)) (sym same)
          ∙ needs.ranked_below in
          absurd (true≢false (sym here ∙ c.if-not-is_at_most.true)),
    )

pub returns-clause-exactly : goal.returns-clause-exactly
returns-clause-exactly c = λ initial_replicas records next label stands offered by is.
    let self = c.args.self.now in
    let edits = self.edits.items in
    let lists = self.lists.items in
    let list = c.index.result.now in
    let n = c.in-Some.number in
    let there = ap (slice_get lists) by
    ∙ slice_get_read lists (length lists) c.args.replica list refl (omega (arith, c.requires, self.lists.ok.0)) c.index.ensures in
    let no_clock = unclocked self.all edits records stands.elements initial_replicas next label offered c.args.element is in
    let ranks = next_label_rank list self.all.arrivals edits records next (stands.lists next.by list there) no_clock in
    let known = (c.in-Some.ensures n).0 refl in
    let said : c.is_at_most.result ≡ is_le (stamp_cmp (arrival_at self.all.arrivals n).stamp list.greatest) =
    c.is_at_most.ensures.up_to ∙ ap (λ s. is_le (stamp_cmp s c.greatest-greatest.result)) c.stamp.ensures
    ∙ ap (λ s. is_le (stamp_cmp (arrival_at self.all.arrivals n).stamp s)) c.greatest-greatest.ensures in (
      (λ passes.
          removal_admitted self.all edits records stands.elements initial_replicas next label offered c.args.element is list.greatest
          ranks n (omega (arith, c.if-number-eq-ROOT.false)) known.0 known.1 (sym said ∙ c.if-not-is_at_most.false)),
      λ admitted. refl,
    )
