use Rattle.std.proofs.Common.{◌≡◌, ℕ, true, false, sym, ap, ◌∙◌, subst}
use Rattle.ra_rga_elements.specs.ElementList.{arrival_at, is_marked}
use Rattle.ra_rga_replica.specs.declared.edit.Edit.TheVariants.{PutsIn}
use Rattle.ra_rga_replica.proofs.Edits.{edits_stand}
use Rattle.ra_rga_replica.proofs.AlikeLists.{kept_in}
use Rattle.ra_rga_replica.proofs.HadLabels.{IsAdded, held_back}
use Rattle.ra_rga_replica.proofs.NoneTwice.{empty_if}
use Rattle.ra_rga_replica.proofs.TakenLabels.{insertion_goes}
use Rattle.ra_rga_replica.proofs.replica_list.ReplicaList.put_in.Goals as goal

pub anchor-anchor-requires : goal.anchor-anchor-requires
anchor-anchor-requires c = c.requires.elements.known c.args.label (PutsIn c.args.number) c.requires.edit_of

pub returns-then-not-has-clause-got : goal.returns-then-not-has-clause-got
returns-then-not-has-clause-got c = λ records had stand held is new.
    let all = c.args.all.now in
    let kept = kept_in c.args.self.now _ c.self.view_is held.kept in
    let missing : is_marked c.self.inside.there.marks.items (arrival_at all.arrivals c.args.number).anchor ≡ false =
    ap (λ (n : ℕ). is_marked c.self.inside.there.marks.items n) (sym c.anchor-anchor.ensures.anchor) ∙ sym c.has.ensures
    ∙ c.if-not-has.true in
    held_back c.add.new.self c.args.label (PutsIn c.args.number) (edits_stand stand) kept is new missing
    (subst (λ (n : ℕ). IsAdded c.self.inside.waiting c.add.new.self n c.args.label) c.anchor-anchor.ensures.anchor
    (record { added = c.in_ok-add.ensures.added; others = c.in_ok-add.ensures.others }))

pub returns-clause-got : goal.returns-clause-got
returns-clause-got c = λ records had stand held is new.
    let all = c.args.all.now in
    let kept = kept_in c.args.self.now _ c.self.view_is held.kept in
    let marked : is_marked c.self.inside.there.marks.items (arrival_at all.arrivals c.args.number).anchor ≡ true =
    ap (λ (n : ℕ). is_marked c.self.inside.there.marks.items n) (sym c.anchor-anchor.ensures.anchor) ∙ sym c.has.ensures
    ∙ c.if-not-has.false in
    insertion_goes (edits_stand stand) kept c.args.label c.args.number is new marked
    (λ k. is_marked c.put_in.new.shown k) c.in_ok-put_in.ensures.shown
    c.put_in.new.there.marks.items c.in_ok-put_in.ensures.marks
    (sym c.under.ensures ∙ empty_if c.under.result.now (sym c.is_empty.ensures ∙ c.if-not-is_empty.false))
