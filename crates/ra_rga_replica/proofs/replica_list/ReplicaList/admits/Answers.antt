use Rattle.std.proofs.Common.{ℕ, List, refl, sym, ap, ◌∙◌}
use Rattle.ra_labels.specs.declared.kind.Kind.TheVariants.{Rga}
use Rattle.ra_labels.specs.declared.operation.Query.{Query}
use Rattle.ra_labels.specs.declared.operation.Query.TheVariants.{RgaRead}
use Rattle.ra_labels.specs.Specification.{is_answered_after}
use Rattle.ra_labels.specs.Insertion.{delivered_updates}
use Rattle.ra_rga_replica.proofs.AlikeLists.{kept_in}
use Rattle.ra_rga_replica.proofs.AnsweredQueries.{answered, unanswered, other_unanswered}
use Rattle.ra_rga_replica.proofs.replica_list.ReplicaList.admits.Goals as goal

pub returns-then-is_empty : goal.returns-then-is_empty
returns-then-is_empty c = λ edits records replica stand held.
    answered stand (kept_in c.args.self.now _ c.self.view_is held.kept) (c.is_empty.ensures.none c.if-is_empty.true)
    c.self.inside.shown (λ n. refl) c.as_slice.result.now c.are.result c.are.ensures
    ∙ ap (λ (query : Query). is_answered_after Rga (delivered_updates Rga records replica) query)
    (ap (λ (xs : List ℕ). RgaRead xs) c.as_slice.ensures ∙ sym c.in-RgaRead.is)

pub returns-else-is_empty : goal.returns-else-is_empty
returns-else-is_empty c = λ edits records replica stand held.
    let (number, label, found) = c.is_empty.ensures.some c.if-is_empty.false in
    c.if-is_empty.false
    ∙ unanswered stand (kept_in c.args.self.now _ c.self.view_is held.kept) number label found c.args.query.now

pub returns-in_default : goal.returns-in_default
returns-in_default c = λ edits records replica stand held.
    other_unanswered (delivered_updates Rga records replica) c.args.query.now c.in_default.not-RgaRead
