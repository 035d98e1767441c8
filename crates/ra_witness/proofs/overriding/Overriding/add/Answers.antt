use Rattle.std.proofs.Common.{◌∷◌, ◌++◌, [], List, ℕ, Option, Some, ap, arith, ◌∙◌}
use Rattle.std.specs.Prelude.{nat_eq}
use Rattle.std.specs.HashMap.{get}
use Rattle.ra_witness.specs.declared.overriding.written.Written.{Written}
use Rattle.ra_witness.proofs.NumberedElements.{numbers_kept, count_kept}
use Rattle.ra_witness.proofs.Lasts.{lasts-same, lasts-taken}
use Rattle.ra_witness.proofs.overriding.Overriding.add.Goals as goal
use Rattle.ra_labels.proofs.Results.{on_err_any}

pub returns-in_err-apply_own-clause-same_lasts : goal.returns-in_err-apply_own-clause-same_lasts
returns-in_err-apply_own-clause-same_lasts c =
    on_err_any c.from_residual-in_err-apply_own.result
    (lasts-same c.args.self.now.lasts.items c.args.replica c.index_mut-last.result.now c.apply_own.new.last (omega arith) c.index_mut-last.ensures.value c.in_err-apply_own.ensures.same_last)

pub returns-clause-lasts : goal.returns-clause-lasts
returns-clause-lasts c =
    lasts-taken c.args.self.now.lasts.items c.args.replica c.index_mut-last.result.now c.apply_own.new.last _ _ _ _ (omega arith) c.index_mut-last.ensures.value c.of-on.ensures c.len-label.ensures c.in_ok-apply_own.ensures.last

pub returns-clause-writes : goal.returns-clause-writes
returns-clause-writes c =
    let written : ℕ → Written = λ n. record { update = c.args.update; stamp = c.args.stamp; on = n } in
    c.push_reserved.ensures.items
    ∙ ap (λ (ws : List (Option Written)). ws ++ Some (written c.of-on.result) ∷ []) c.in_ok-reserve.ensures.items
    ∙ ap (λ (n : ℕ). c.args.self.now.writes.items ++ Some (written n) ∷ []) c.of-on.ensures

pub returns-clause-numbers : goal.returns-clause-numbers
returns-clause-numbers c =
    numbers_kept (get nat_eq c.reserve-2.new.self.numbers) (get nat_eq c.args.self.now.numbers.numbers)
    (get nat_eq c.keep.new.self.numbers) _ c.of-on.result _ c.keep.ensures.kept c.in_ok-reserve-2.ensures.same
    c.of-on.ensures

pub returns-clause-count : goal.returns-clause-count
returns-clause-count c =
    count_kept (get nat_eq c.reserve-2.new.self.numbers) (get nat_eq c.args.self.now.numbers.numbers) _ _ _ _
    c.keep.ensures.count c.in_ok-reserve-2.ensures.same c.in_ok-reserve-2.ensures.len
