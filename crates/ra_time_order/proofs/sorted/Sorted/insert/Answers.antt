use Rattle.std.proofs.Common.{List, length, ◌+◌, ap, ◌∙◌, subst}
use Rattle.std.specs.List.{insert}
use Rattle.std.proofs.lemmas.List.Edits.{length-insert}
use Rattle.ra_time_order.specs.declared.entry.Entry.{Entry}
use Rattle.ra_time_order.specs.Positions.{IsPositionOf}
use Rattle.ra_time_order.specs.Sorted.{Sorted, joined, IsRunOf}
use Rattle.ra_time_order.proofs.FiledLabels.{room_says, filed, under_with}
use Rattle.ra_time_order.proofs.sorted.Sorted.insert.Goals as goal

pub invariant_of-self : goal.invariant_of-self
invariant_of-self c =
    let at = filed _ _ _ _ _ c.insert.new.self _ c.self.invariant.kept
    (room_says c.self.inside.runs.items _ c.self.view_is c.requires.room)
    (subst (λ rs. IsRunOf rs c.args.entry.rank c.run_of-at.result) c.as_slice.ensures.value c.run_of-at.ensures)
    c.index_mut.ensures.value c.insert.ensures.inserted in
    record {
      kept = at.1.kept;
      under = under_with _ _ at.0 c.args.entry _ _ c.greater-self-inside.ensures at.1.made c.self.invariant.under;
    }

pub returns-clause-one : goal.returns-clause-one
returns-clause-one c =
    let at = filed _ _ _ _ _ c.insert.new.self _ c.self.invariant.kept
    (room_says c.self.inside.runs.items _ c.self.view_is c.requires.room)
    (subst (λ rs. IsRunOf rs c.args.entry.rank c.run_of-at.result) c.as_slice.ensures.value c.run_of-at.ensures)
    c.index_mut.ensures.value c.insert.ensures.inserted in
    ap (λ (xs : List Entry). length xs) at.1.made
    ∙ length-insert (joined c.self.inside.runs.items) at.0 c.args.entry at.1.found.among
    ∙ ap (λ (s : Sorted). length s.entries + 1) c.self.view_is

pub returns-clause-inserted : goal.returns-clause-inserted
returns-clause-inserted c = λ split.
    let at = filed _ _ _ _ _ c.insert.new.self _ c.self.invariant.kept
    (room_says c.self.inside.runs.items _ c.self.view_is c.requires.room)
    (subst (λ rs. IsRunOf rs c.args.entry.rank c.run_of-at.result) c.as_slice.ensures.value c.run_of-at.ensures)
    c.index_mut.ensures.value c.insert.ensures.inserted in
    let same = ap (λ (s : Sorted). s.entries) c.self.view_is in (
      at.0,
      subst (λ xs. IsPositionOf c.args.entry.rank xs at.0) same at.1.found,
      at.1.made ∙ ap (λ xs. insert xs at.0 c.args.entry) same,
    )
