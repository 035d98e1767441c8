use Rattle.std.proofs.Common.{◌≡◌, ◌+◌, ◌≤◌, ℕ, true, get_or, inl, inr, sym, ap, subst, ◌∙◌, arith}
use Rattle.std.specs.Prelude.{Contains}
use Rattle.std.proofs.lemmas.List.{take_all}
use Rattle.ra_labels.proofs.InLists.{sorted-to_rises}
use Rattle.std.specs.BTreeSet.{contains, btree_set_len, Updates}
use Rattle.std.specs.Ordering.{nat_cmp}
use Rattle.ra_any_order.specs.declared.next_elements.TheConstants.{MOST_ASKED}
use Rattle.ra_any_order.specs.Situation.{operations_in}
use Rattle.ra_any_order.specs.Standings.{HasBothSides, is_contested}
use Rattle.ra_any_order.proofs.SortedElements.{insert_kept, inserted_cases, grown_by, one_taken, first_taken, all_taken}
use Rattle.ra_any_order.proofs.standings.add_contested.Goals.{then-is_contested+in_ok-insert, else-is_contested}
use Rattle.ra_any_order.proofs.standings.add_contested.Goals as goal

pub returns-then-len-ge-MOST_ASKED-clause-first : goal.returns-then-len-ge-MOST_ASKED-clause-first
returns-then-len-ge-MOST_ASKED-clause-first c = λ empty.
    let enough = c.if-len-ge-MOST_ASKED.true in
    let is = c.len.ensures.len in
    let few = c.loop-element.invariant.few in
    first_taken (operations_in c.args.operations.now) c.args.seen.now c.loop-element.asked c.args.elements.now
    c.loop-element.element-index MOST_ASKED (omega (arith, enough, is, few, empty)) c.loop-element.invariant.taken

pub returns-clause-first : goal.returns-clause-first
returns-clause-first c = λ empty.
    all_taken (operations_in c.args.operations.now) c.args.seen.now c.loop-element.asked c.args.elements.now
    c.loop-element.element-index MOST_ASKED c.loop-element-test.false c.loop-element.invariant.taken

pub returns-then-len-ge-MOST_ASKED-clause-full : goal.returns-then-len-ge-MOST_ASKED-clause-full
returns-then-len-ge-MOST_ASKED-clause-full c = λ x there.
    let enough = c.if-len-ge-MOST_ASKED.true in
    let is = c.len.ensures.len in
    inr (inr (sorted-to_rises c.loop-element.asked.keys c.len.ensures.ordered, omega (arith, enough, is)))

pub returns-clause-full : goal.returns-clause-full
returns-clause-full c = λ x there.
    elim (c.loop-element.invariant.taken x (subst (λ xs. Contains xs x)
    (sym (take_all c.loop-element.element-index c.args.elements.now c.loop-element-test.false)) there)) [
      | inl asked ↦ inl asked
      | inr uncontested ↦ inr (inl uncontested)
    ]

pub loop-element-preserved : goal.loop-element-preserved
loop-element-preserved c =
    let ops = operations_in c.args.operations.now in
    let seen = c.args.seen.now in
    let xs = c.args.elements.now in
    let i = c.loop-element.element-index in
    let x = get_or xs i 0 in
    let old = c.loop-element.asked in
    let new = c.if-is_contested.asked in
    let so_far = c.loop-element.invariant in
    elim c.if-is_contested.branch [
      | then-is_contested+in_ok-insert w ↦
          let updates : Updates nat_cmp old new x true =
          subst (λ s. Updates nat_cmp old s x true) (sym w.asked-is) w.in_ok-insert.ensures.updates in
          let wider = insert_kept ops seen old new x updates in
          let more = grown_by ops seen _ (btree_set_len w.insert.new.self) (btree_set_len old) w.in_ok-insert.ensures.len in
          let longer : btree_set_len new ≤ btree_set_len old + 1 =
          subst (λ s. btree_set_len s ≤ btree_set_len old + 1) (sym w.asked-is) more in
          let few = so_far.few in
          record {
            kept = λ y there. wider y (so_far.kept y there);
            contested =
                λ y there. elim (inserted_cases ops seen old new x updates y there) [
                  | inl older ↦ so_far.contested y older
                  | inr same ↦ inr (subst (HasBothSides ops seen) same (
                    c.in_ok-newest.newest.items,
                    c.in_ok-newest.ensures,
                    ap (λ labels. is_contested ops labels x) (sym c.deref.ensures.value) ∙ sym c.is_contested.ensures
                        ∙ w.if-is_contested.true,
                  ))
                ];
            few = omega (arith, longer, few);
            taken = one_taken ops seen old new wider xs i c.loop-element-test.true (inl updates.1) so_far.taken;
          }
      | else-is_contested w ↦
          let wider : (y : ℕ) → contains nat_cmp old y ≡ true → contains nat_cmp new y ≡ true =
          λ y there. subst (λ s. contains nat_cmp s y ≡ true) (sym w.asked-is) there in
          let same = ap btree_set_len w.asked-is in
          let few = so_far.few in
          record {
            kept = λ y there. wider y (so_far.kept y there);
            contested = λ y there. so_far.contested y (subst (λ s. contains nat_cmp s y ≡ true) w.asked-is there);
            few = omega (arith, same, few);
            taken = one_taken ops seen old new wider xs i c.loop-element-test.true
                (inr (
                  c.in_ok-newest.newest.items,
                  c.in_ok-newest.ensures,
                  ap (λ labels. is_contested ops labels x) (sym c.deref.ensures.value) ∙ sym c.is_contested.ensures
                      ∙ w.if-is_contested.false,
                )) so_far.taken;
          }
    ]
