use Rattle.std.proofs.Common.{subst, ◌∙◌}
use Rattle.std.specs.Ordering.{nat_cmp}
use Rattle.std.specs.BTreeMap.{get}
use Rattle.ra_visibility.specs.Tracked.{labels_in}
use Rattle.ra_some_order.specs.SomeOrder.{EachLabelIsOfKind}
use Rattle.ra_rga_precedence.specs.Situation.{operations_in}
use Rattle.ra_rga_precedence.specs.Inserting.{AreInserters}
use Rattle.ra_rga_precedence.specs.Foundations.{FoundationNames, IsFoundation}
use Rattle.ra_rga_precedence.specs.Answers.{AreReads, AreReadConditions}
use Rattle.ra_rga_precedence.proofs.Reasons.{reason_final}
use Rattle.ra_rga_precedence.proofs.Conclusions.{plain, all_demanded, all_enough}
use Rattle.ra_rga_precedence.proofs.ordering.demands_with_insertions.Goals as goal

pub returns-in-Refuted-clause-demands : goal.returns-in-Refuted-clause-demands
returns-in-Refuted-clause-demands c = λ past stands.
    let reason = subst (IsFoundation past.records) c.in-Refuted.is (c.in_ok-insertions.ensures.foundation past stands) in (
      reason,
      reason_final past.records (subst (λ kind. EachLabelIsOfKind kind past.records) stands.kind stands.of_kind)
          c.in-Refuted.reason reason,
    )

pub returns-in-Some-clause-demands : goal.returns-in-Some-clause-demands
returns-in-Some-clause-demands c = λ past stands.
    let total = labels_in c.args.tracker.now.now in
    let reason = subst (AreReads past.records total c.in-Sound.conditions.items c.add_reads.new.conditions.items) c.in-Some.is
    (c.in_ok-reason.ensures.reads past stands) in (
      reason,
      reason_final past.records (subst (λ kind. EachLabelIsOfKind kind past.records) stands.kind stands.of_kind)
          c.in-Some.reason reason,
    )

pub returns-in-None-clause-named : goal.returns-in-None-clause-named
returns-in-None-clause-named c =
    let operations = operations_in c.args.operations.now in
    let total = labels_in c.args.tracker.now.now in
    let (named, are) = subst (FoundationNames operations total) c.in-Sound.is c.in_ok-insertions.ensures.named in
    (c.in_ok-reason.ensures.named c.in-None.is named, are)

pub returns-in-None-clause-demands : goal.returns-in-None-clause-demands
returns-in-None-clause-demands c = λ past stands.
    let operations = operations_in c.args.operations.now in
    let total = labels_in c.args.tracker.now.now in
    let labels = stands.visibility.labels in
    let first = c.in-Sound.conditions.items in
    let all = c.add_reads.new.conditions.items in
    let inserter = get nat_cmp c.in-Sound.insertions.inserters in
    let needed = c.in-Sound.insertions.needed.items in
    let (named, are) = subst (FoundationNames operations total) c.in-Sound.is c.in_ok-insertions.ensures.named in
    let inserters = subst (λ k. AreInserters operations k inserter) labels are.inserters in
    let updates = subst (IsFoundation past.records) c.in-Sound.is (c.in_ok-insertions.ensures.foundation past stands) in
    let reads = subst (λ k. AreReadConditions past.records k first all) labels
    (subst (AreReads past.records total first all) c.in-None.is (c.in_ok-reason.ensures.reads past stands)) in (
      plain past.records operations stands.listed inserter inserters needed (are.len ∙ labels) are.needs first updates all
          reads,
      all_demanded past.records operations stands.listed inserter inserters needed (are.len ∙ labels) are.needs first updates
          all reads,
      all_enough past.records operations stands.listed inserter inserters needed (are.len ∙ labels) are.needs first updates
          all reads,
    )
