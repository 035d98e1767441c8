-- A set that is stuck for conditions of precedence rules out each sequence.
use Rattle.std.proofs.Common.{ℕ, List}
use Rattle.std.specs.Prelude.{Contains}
use Rattle.ra_labels.specs.declared.kind.Kind.TheVariants.{Rga}
use Rattle.ra_labels.specs.Records.{Records}
use Rattle.ra_theorems.specs.AnyOrder.{NoneLinearizes}
use Rattle.ra_precedence.specs.Conditions.{Condition, IsStuck}
use Rattle.ra_precedence.proofs.TheoremIndex.{no_order_meets_stuck}
use Rattle.ra_list_order.proofs.Befores.{first_there}
use Rattle.ra_some_order.specs.SomeOrder.{update_order}
use Rattle.ra_some_order.proofs.TheoremIndex.{linearization_meets_conditions-order}
use Rattle.ra_rga_conditions.specs.Precedence.{MustStandBefore}
use Rattle.ra_rga_conditions.proofs.Precedences.{keeps_precedence}

pub stuck_final : (records : Records) (conditions : List Condition) (set : List ℕ)
    → ((condition : Condition) (b : ℕ) → Contains conditions condition → Contains condition.before b
    → (c : ℕ) × Contains condition.after c × MustStandBefore records b c)
    → IsStuck conditions set → NoneLinearizes Rga records
stuck_final records conditions set precedes stuck sequence linearizes =
    let order = update_order sequence in
    no_order_meets_stuck conditions set order stuck
    (linearization_meets_conditions-order Rga records sequence linearizes).once
    (λ b among.
    let (condition, is, held) = stuck.held b among in
    let (c, after, first) = precedes condition b is held.before in
    first_there order b c (keeps_precedence records sequence linearizes b c first))
    (λ condition is b before.
    let (c, after, first) = precedes condition b is before in
    (c, after, keeps_precedence records sequence linearizes b c first))
