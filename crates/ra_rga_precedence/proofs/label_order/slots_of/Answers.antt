use Rattle.std.proofs.Common.{◌≡◌, ℕ, ◌+◌, ◌-◌, ◌<◌, true, false, [], ◌∷◌, ◌++◌, set, get_or, length, sym, ap, subst, ◌∙◌, arith, replicate}
use Rattle.std.proofs.lemmas.List.{get_or_read, map-append, get_or-replicate, length-replicate}
use Rattle.ra_labels.specs.Records.{label_count}
use Rattle.ra_labels.specs.Visibility.{is_update_at}
use Rattle.ra_labels.specs.Places.{issuer_of}
use Rattle.ra_precedence.specs.Conditions.{HasEachBelow}
use Rattle.ra_rga_precedence.specs.Ranks.{AreRanks}
use Rattle.ra_rga_precedence.specs.Situation.{operations_in}
use Rattle.ra_rga_precedence.proofs.ConditionLists.{updates_same}
use Rattle.ra_rga_precedence.proofs.LabelSlots.{Slot, labels_at, HasEachFrom, AreSlotsFrom, IsNext, next_set, next_same, each_more, each_none, each_below, made_same, slots_none, slots_more, slots_all}
use Rattle.ra_rga_precedence.proofs.label_order.slots_of.Goals.{then-is_update, else-is_update}
use Rattle.ra_rga_precedence.proofs.label_order.slots_of.Goals as goal

pub loop-done-preserved : goal.loop-done-preserved
loop-done-preserved c =
    let done = c.loop-done.done in
    let count = c.labels-count.result in
    let n = count - done - 1 in
    let r = c.issuer-replica.result in
    let old = c.loop-done.next.items in
    let new = c.if-is_update.next.items in
    let slots = c.loop-done.slots.items in
    let ranks = c.in_ok-ranks.ranks.items in
    let order = c.args.order.now in
    let operations = operations_in c.args.operations.now in
    let kept = c.loop-done.invariant in
    let test = c.loop-done-test.true in
    let low : done < count = omega (arith, test) in
    let len = c.in_ok-ranks.ensures.len in
    let within : r < length old = subst (λ k. r < k) (sym kept.wide) c.issuer-replica.ensures.replica in
    let taken : IsNext c.is_update.result (get_or ranks n 0) r old new = elim c.if-is_update.branch [
      | then-is_update w ↦
          let items : new ≡ set old r (get_or ranks n 0) = ap (λ v. v.items) w.next-is
          ∙ ap (set old r) (get_or_read ranks n w.index.result.now (omega (arith, low, len)) w.index.ensures 0) in
          subst (λ b. IsNext b (get_or ranks n 0) r old new) (sym w.if-is_update.true)
          (subst (IsNext true (get_or ranks n 0) r old) (sym items) (next_set (get_or ranks n 0) r old within))
      | else-is_update w ↦
          let items : new ≡ old = ap (λ v. v.items) w.next-is in
          subst (λ b. IsNext b (get_or ranks n 0) r old new) (sym w.if-is_update.false)
          (subst (IsNext false (get_or ranks n 0) r old) (sym items) (next_same (get_or ranks n 0) r old))
    ] in
    let pushed : c.push.new.self.items ≡ slots ++ (get_or new r 0, n) ∷ [] =
    c.in_ok-push.ensures.items
    ∙ ap (λ (x : ℕ). slots ++ (x, n) ∷ []) (get_or_read new r c.index-in-loop-done.result.now
    (subst (λ k. r < k) (sym taken.len) within) c.index-in-loop-done.ensures 0) in
    record {
      each =
          λ from at.
          let is : n ≡ from = omega (arith, at) in
          let labels : labels_at c.push.new.self.items ≡ labels_at slots ++ n ∷ [] =
          ap labels_at pushed ∙ map-append (λ (slot : Slot). slot.1) slots ((get_or new r 0, n) ∷ []) in
          subst (λ k. HasEachFrom k count (labels_at c.push.new.self.items)) is
          (subst (HasEachFrom n count) (sym labels) (each_more n count (labels_at slots) (omega (arith, low))
          (kept.each (n + 1) (omega (arith, low)))));
      are =
          λ past stands extended ranked from at.
          let is : n ≡ from = omega (arith, at) in
          let all = c.labels-count.ensures ∙ stands.visibility.labels in
          let issuer : r ≡ issuer_of past.records n = c.issuer-replica.ensures.issued past stands.visibility in
          let updates : c.is_update.result ≡ is_update_at past.records n =
          c.is_update.ensures ∙ updates_same past.records operations stands.listed n in
          let its : IsNext (is_update_at past.records n) (get_or ranks n 0) (issuer_of past.records n) old new =
          subst (λ b. IsNext b (get_or ranks n 0) (issuer_of past.records n) old new) updates
          (subst (λ q. IsNext c.is_update.result (get_or ranks n 0) q old new) issuer taken) in
          subst (λ k. AreSlotsFrom past.records order ranks ranked extended k new c.push.new.self.items) is
          (subst (AreSlotsFrom past.records order ranks ranked extended n new)
          (sym (pushed ∙ ap (λ q. slots ++ (get_or new q 0, n) ∷ []) issuer))
          (slots_more past.records order ranks ranked extended n (omega (arith, low, all)) old new slots
          (kept.are past stands extended ranked (n + 1) (omega (arith, low))) its.others its.cases));
      wide = taken.len ∙ kept.wide;
      within = omega (arith, low);
    }

pub returns-clause-each : goal.returns-clause-each
returns-clause-each c =
    let test = c.loop-done-test.false in
    let kept = c.loop-done.invariant in
    let within = kept.within in
    subst (λ k. HasEachBelow k (labels_at c.loop-done.slots.items)) c.labels-count.ensures
    (each_below c.labels-count.result (labels_at c.loop-done.slots.items) (kept.each 0 (omega (arith, test, within))))

pub returns-clause-slots : goal.returns-clause-slots
returns-clause-slots c = λ past stands extended.
    let test = c.loop-done-test.false in
    let kept = c.loop-done.invariant in
    let within = kept.within in
    let order = c.args.order.now in
    let ranks = c.in_ok-ranks.ranks.items in
    let ranked = subst (λ k. AreRanks k order ranks) (c.labels-count.ensures ∙ stands.visibility.labels)
    c.in_ok-ranks.ensures in
    slots_all past.records order ranks ranked extended c.loop-done.next.items c.loop-done.slots.items
    (kept.are past stands extended ranked 0 (omega (arith, test, within)))

pub loop-done-init : goal.loop-done-init
loop-done-init c =
    let count = c.labels-count.result in
    let order = c.args.order.now in
    let ranks = c.in_ok-ranks.ranks.items in
    let next = c.resize.new.self.items in
    let none = c.new-slots.ensures.items in
    let all_same : next ≡ replicate c.replicas.result (length order + 1) =
    made_same c.replicas.result _ (length order + 1) _ next c.new-next.ensures.items c.new-next.ensures.len
    c.in_ok-resize.ensures.items in
    record {
      each =
          λ from at.
          let is : count ≡ from = omega (arith, at) in
          subst (λ k. HasEachFrom k count (labels_at c.new-slots.result.items)) is
          (subst (λ slots. HasEachFrom count count (labels_at slots)) (sym none) (each_none count));
      are =
          λ past stands extended ranked from at.
          let all = c.labels-count.ensures ∙ stands.visibility.labels in
          let is : label_count past.records ≡ from = omega (arith, at, all) in
          subst (λ k. AreSlotsFrom past.records order ranks ranked extended k next c.new-slots.result.items) is
          (subst (AreSlotsFrom past.records order ranks ranked extended (label_count past.records) next) (sym none)
          (slots_none past.records order ranks ranked extended next
          (λ k k_below m m_below.
          let low = ranked.within m m_below in
          let by = issuer_of past.records k in
          let within =
          c.replicas.ensures.issuers past stands.visibility k (omega (arith, k_below, stands.visibility.labels)) in
          let top = ap (λ xs. get_or xs by 0) all_same
          ∙ get_or-replicate c.replicas.result by (length order + 1) 0 within in
          omega (arith, low, top))));
      wide = ap length all_same ∙ length-replicate c.replicas.result (length order + 1) ∙ c.replicas.ensures.number;
      within = omega arith;
    }
