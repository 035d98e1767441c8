-- Lemmas on which addition has which identifier.
use Rattle.std.proofs.Common.{◌≡◌, ℕ, true, false, List, [], Option, Some, None, refl, sym, ap, ◌∙◌, arith}
use Rattle.std.specs.Prelude.{◌↔◌, ◌==◌}
use Rattle.std.specs.Option.{option_map_or}
use Rattle.std.proofs.lemmas.Bool.{false≢true, eqb-true, eq-eqb}
use Rattle.std.proofs.lemmas.Option.{none-some, same_Some}
use Rattle.ra_labels.specs.declared.kind.Kind.{Kind}
use Rattle.ra_labels.specs.declared.operation.Op.{Op}
use Rattle.ra_labels.specs.declared.operation.Op.TheVariants.{OrAdd}
use Rattle.ra_labels.specs.declared.command.Command.{Command}
use Rattle.ra_labels.specs.declared.command.Command.TheVariants.{Operate, Deliver, Join, Verdict}
use Rattle.ra_labels.specs.Records.{Records, labels_of, next_label}
use Rattle.ra_labels.specs.Answer.{identifier_of, has_identifier, is_identifier_taken, has_taken_identifier, refusal_of, with_accepted, records_after, records_after_all}
use Rattle.ra_labels.specs.TheoremTerms.{GivesIdentifier, IsOwnIdentifier, IdentifiersAreUnique}
use Rattle.ra_labels.specs.HistorySoFar.{next_operation}
use Rattle.ra_theorems.proofs.Stamps.{any_one, one_any, once_behind, operated-exactly, kept_by_answers, kept_by_all}

-- the operations that give an identifier
gives : (op : Op) (id : ℕ) → (identifier_of op ≡ Some id) ↔ GivesIdentifier op id
gives (OrAdd x own) id = ((λ is. (x, ap (OrAdd x) (same_Some own id is))), (λ known. ap identifier_of known.1))
gives _ id = ((λ is. absurd (none-some id is)), (λ known. absurd (cc (known.1))))

-- and the identifier that they give
of_label : (own : Option ℕ) (id : ℕ) → (option_map_or (λ k. k == id) own false ≡ true) ↔ (own ≡ Some id)
of_label None id = (λ is. absurd (false≢true is), λ is. absurd (none-some id is))
of_label (Some own) id = ((λ is. ap Some (eqb-true own id is)), (λ is. eq-eqb own id (same_Some own id is)))

-- an identifier is taken exactly if an addition has it
pub identifier-exactly : (records : Records) (id : ℕ) → (is_identifier_taken records id ≡ true)
    ↔ IsOwnIdentifier records id
identifier-exactly records id = (
  (λ is.
      let one = any_one (has_identifier id) (labels_of records) is in
      (one.0, one.1, (gives one.0.op id).0 ((of_label (identifier_of one.0.op) id).0 one.2))),
  (λ (label, there, is). one_any (has_identifier id) (labels_of records) label there
      ((of_label (identifier_of label.op) id).1 ((gives label.op id).1 is))),
)

given : (records : Records) (own : Option ℕ) → (option_map_or (is_identifier_taken records) own false ≡ true)
    ↔ ((id : ℕ) × (own ≡ Some id) × IsOwnIdentifier records id)
given records None = (λ is. absurd (false≢true is), λ known. absurd (none-some known.0 known.1))
given records (Some id) = (
  (λ is. (id, refl, (identifier-exactly records id).0 is)),
  (λ known. ap (is_identifier_taken records) (same_Some id known.0 known.1)
      ∙ (identifier-exactly records known.0).1 known.2),
)

pub gives-exactly : (records : Records) (op : Op) → (has_taken_identifier records op ≡ true)
    ↔ ((id : ℕ) × GivesIdentifier op id × IsOwnIdentifier records id)
gives-exactly records op = (
  (λ is. let known = (given records (identifier_of op)).0 is in (known.0, (gives op known.0).0 known.1, known.2)),
  (λ (id, is, taken). (given records (identifier_of op)).1 (id, (gives op id).1 is, taken)),
)

-- no two accepted additions have the same identifier
once_accepted : (kind : Kind) (replicas : ℕ) (records : Records) (command : Command)
    → refusal_of kind replicas records command ≡ None → IdentifiersAreUnique records
    → IdentifiersAreUnique (with_accepted records command)
once_accepted kind replicas records (Operate by op clock) accepted once =
    let free = ((operated-exactly kind replicas records (next_operation by op clock)).0 accepted).3 in
    once_behind ℕ (λ label id. GivesIdentifier label.op id) (next_label records by op clock) (labels_of records)
    (λ id own other there is. false≢true (sym free ∙ (gives-exactly records op).1 (id, own, (other, there, is)))) once
once_accepted kind replicas records (Deliver to n) accepted once = once
once_accepted kind replicas records (Join joined from) accepted once = once
once_accepted kind replicas records Verdict accepted once = once

pub identifiers-once : (kind : Kind) (replicas : ℕ) (records : Records) (command : Command)
    → IdentifiersAreUnique records → IdentifiersAreUnique (records_after kind replicas records command)
identifiers-once kind replicas = kept_by_answers IdentifiersAreUnique kind replicas (once_accepted kind replicas)

pub identifiers-once_all : (kind : Kind) (replicas : ℕ) (commands : List Command)
    → IdentifiersAreUnique (records_after_all kind replicas [] commands)
identifiers-once_all kind replicas commands =
    kept_by_all IdentifiersAreUnique kind replicas (identifiers-once kind replicas) [] commands
    (λ l m id there. absurd (omega (arith, there.1)))
