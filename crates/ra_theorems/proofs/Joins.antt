-- Lemmas on joins: the state of a joining replica, acceptance, and that nothing is delivered before the join.
use Rattle.std.proofs.Common.{◌≡◌, ◌⊎◌, ℕ, ◌+◌, ◌<◌, ◌≤◌, Bool, true, false, List, [], ◌∷◌, length, filter, Option, Some, None, refl, sym, ap, ◌∙◌, subst, inl, inr, arith}
use Rattle.std.specs.Prelude.{◌↔◌, ◌==◌, ◌&&◌, ◌||◌, not, nat_lt}
use Rattle.std.proofs.lemmas.Bool.{false≢true, cases_lt, lt-ltb, ltb-true, ltb-false, le-ltb, eq-eqb, ne_eqb, or_from, and_left}
use Rattle.std.proofs.Math.Bool.{or_comm}
use Rattle.ra_labels.specs.declared.kind.Kind.{Kind}
use Rattle.ra_labels.specs.declared.command.Command.{Command}
use Rattle.ra_labels.specs.declared.command.Command.TheVariants.{Operate, Deliver, Join, Verdict}
use Rattle.ra_labels.specs.declared.refusal.Refusal.{Refusal}
use Rattle.ra_labels.specs.declared.refusal.Refusal.TheVariants.{UnknownReplica, ReplicaThere, TooManyReplicas}
use Rattle.ra_labels.specs.declared.limits.TheConstants.{MOST_REPLICAS}
use Rattle.ra_labels.specs.Records.{Records, label_count, replica_count}
use Rattle.ra_labels.specs.Places.{updates_issued}
use Rattle.ra_labels.specs.Visibility.{is_update, is_update_at, has_delivered}
use Rattle.ra_labels.specs.NamedOrder.{named_labels}
use Rattle.ra_labels.specs.Answer.{when, first_of, refusal_of, refusal_of_join, with_accepted, records_after, records_after_all}
use Rattle.ra_labels.specs.TheoremTerms.{is_join, NoneDeliveredBeyond}
use Rattle.ra_labels.specs.Insertion.{delivered_updates_of, delivered_updates}
use Rattle.ra_labels.specs.HistorySoFar.{NextOperation, next_operation, operate}
use Rattle.ra_theorems.proofs.MissingLabels.{delivered-exactly}
use Rattle.ra_theorems.proofs.Updates.{place-there, had-own}
use Rattle.ra_theorems.proofs.Stamps.{operated-exactly, kept_by_answers, kept_by_all}
use Rattle.ra_theorems.proofs.HadUpdates.{among-same}
use Rattle.ra_theorems.proofs.Insertion.{order_later}

-- each join adds one replica
pub joins-counted : (initial_replicas : ℕ) (records : Records) → replica_count initial_replicas records ≡ initial_replicas + length (filter is_join records)
joins-counted initial_replicas [] = omega arith
joins-counted initial_replicas (Join joined from ∷ before) = omega (arith, joins-counted initial_replicas before)
joins-counted initial_replicas (_ ∷ before) = joins-counted initial_replicas before

-- the refusals of a join as a function of the tests
abbrev chain : Bool → Bool → Bool → Bool → Option Refusal
chain known above there room = first_of (
    when (not known || above) UnknownReplica
    ∷ when there ReplicaThere
    ∷ when (not room) TooManyReplicas
    ∷ []
    )

chain-none : (known above there room : Bool) → chain known above there room ≡ None
    → (known ≡ true) × (above ≡ false) × (there ≡ false) × (room ≡ true)
chain-none false above there room is = absurd (cc (is))
chain-none true true there room is = absurd (cc (is))
chain-none true false true room is = absurd (cc (is))
chain-none true false false false is = absurd (cc (is))
chain-none true false false true is = (refl, refl, refl, refl)

-- a join is not refused exactly if it has the next number, its source exists, and fewer than `MOST_REPLICAS` replicas
-- do
pub joined-exactly : (replicas : ℕ) (records : Records) (replica from : ℕ)
    → (refusal_of_join replicas records replica from ≡ None)
    ↔ ((from < replica_count replicas records) × (replica ≡ replica_count replicas records)
    × (replica_count replicas records < MOST_REPLICAS))
joined-exactly replicas records replica from =
    let count = replica_count replicas records in (
      (λ accepted.
          let tests = chain-none (nat_lt from count) (nat_lt count replica) (nat_lt replica count)
          (nat_lt count MOST_REPLICAS) accepted in (
            ltb-true from count tests.0,
            omega (arith, ltb-false count replica tests.1, ltb-false replica count tests.2),
            ltb-true count MOST_REPLICAS tests.3,
          )),
      (λ known. rw (
        lt-ltb from count known.0,
        le-ltb count replica (omega (arith, known.1)),
        le-ltb replica count (omega (arith, known.1)),
        lt-ltb count MOST_REPLICAS known.2,
      )),
    )

chain-unknown : (known above there room : Bool) → chain known above there room ≡ Some UnknownReplica
    → (known ≡ false) ⊎ (above ≡ true)
chain-unknown false above there room is = inl refl
chain-unknown true true there room is = inr refl
chain-unknown true false true room is = absurd (cc (is))
chain-unknown true false false false is = absurd (cc (is))
chain-unknown true false false true is = absurd (cc (is))

chain-above : (known there room : Bool) → chain known true there room ≡ Some UnknownReplica
chain-above false there room = refl
chain-above true there room = refl

chain-there : (known above there room : Bool) → chain known above there room ≡ Some ReplicaThere
    → (known ≡ true) × (there ≡ true)
chain-there false above there room is = absurd (cc (is))
chain-there true true there room is = absurd (cc (is))
chain-there true false true room is = (refl, refl)
chain-there true false false false is = absurd (cc (is))
chain-there true false false true is = absurd (cc (is))

chain-full : (known above there room : Bool) → chain known above there room ≡ Some TooManyReplicas
    → (known ≡ true) × (above ≡ false) × (there ≡ false) × (room ≡ false)
chain-full false above there room is = absurd (cc (is))
chain-full true true there room is = absurd (cc (is))
chain-full true false true room is = absurd (cc (is))
chain-full true false false false is = (refl, refl, refl, refl)
chain-full true false false true is = absurd (cc (is))

-- the reasons for which a join is refused
pub refused-unknown : (replicas : ℕ) (records : Records) (replica from : ℕ)
    → (refusal_of_join replicas records replica from ≡ Some UnknownReplica)
    ↔ ((replica_count replicas records ≤ from) ⊎ (replica_count replicas records < replica))
refused-unknown replicas records replica from =
    let count = replica_count replicas records in
    let there = nat_lt replica count in
    let room = nat_lt count MOST_REPLICAS in (
      (λ refused. elim (chain-unknown (nat_lt from count) (nat_lt count replica) there room refused) [
        | inl out ↦ inl (ltb-false from count out)
        | inr above ↦ inr (ltb-true count replica above)
      ]),
      (λ why. elim why [
        | inl out ↦ ap (λ known. chain known (nat_lt count replica) there room) (le-ltb from count out)
        | inr above ↦
            ap (λ b. chain (nat_lt from count) b there room) (lt-ltb count replica above)
            ∙ chain-above (nat_lt from count) there room
      ]),
    )

pub refused-there : (replicas : ℕ) (records : Records) (replica from : ℕ)
    → (refusal_of_join replicas records replica from ≡ Some ReplicaThere)
    ↔ ((from < replica_count replicas records) × (replica < replica_count replicas records))
refused-there replicas records replica from =
    let count = replica_count replicas records in (
      (λ refused.
          let tests = chain-there (nat_lt from count) (nat_lt count replica) (nat_lt replica count)
          (nat_lt count MOST_REPLICAS) refused in
          (ltb-true from count tests.0, ltb-true replica count tests.1)),
      (λ known. rw (
        lt-ltb from count known.0,
        le-ltb count replica (omega (arith, known.1)),
        lt-ltb replica count known.1,
      )),
    )

pub refused-full : (replicas : ℕ) (records : Records) (replica from : ℕ)
    → (refusal_of_join replicas records replica from ≡ Some TooManyReplicas)
    ↔ ((from < replica_count replicas records) × (replica ≡ replica_count replicas records)
    × (MOST_REPLICAS ≤ replica_count replicas records))
refused-full replicas records replica from =
    let count = replica_count replicas records in (
      (λ refused.
          let tests = chain-full (nat_lt from count) (nat_lt count replica) (nat_lt replica count)
          (nat_lt count MOST_REPLICAS) refused in (
            ltb-true from count tests.0,
            omega (arith, ltb-false count replica tests.1, ltb-false replica count tests.2),
            ltb-false count MOST_REPLICAS tests.3,
          )),
      (λ known. rw (
        lt-ltb from count known.0,
        le-ltb count replica (omega (arith, known.1)),
        le-ltb replica count (omega (arith, known.1)),
        le-ltb count MOST_REPLICAS known.2,
      )),
    )

-- nothing is delivered to a number at or above the number of replicas
pub beyond-operation : (initial_replicas : ℕ) (records : Records) (next : NextOperation)
    → next.by < replica_count initial_replicas records → NoneDeliveredBeyond initial_replicas records → NoneDeliveredBeyond initial_replicas (operate next ∷ records)
beyond-operation initial_replicas records next there none replica n above =
    or_from (next.by == replica && n == label_count records && is_update next.op) (has_delivered records replica n)
    (and_left (next.by == replica && n == label_count records) (is_update next.op)
    (and_left (next.by == replica) (n == label_count records)
    (ne_eqb next.by replica (λ same. absurd (omega (arith, there, above, same))))))
    (none replica n above)

pub beyond-delivery : (initial_replicas : ℕ) (records : Records) (to label : ℕ) → to < replica_count initial_replicas records
    → NoneDeliveredBeyond initial_replicas records → NoneDeliveredBeyond initial_replicas (Deliver to label ∷ records)
beyond-delivery initial_replicas records to label there none replica n above =
    or_from (to == replica && n == label && is_update_at records n) (has_delivered records replica n)
    (and_left (to == replica && n == label) (is_update_at records n)
    (and_left (to == replica) (n == label)
    (ne_eqb to replica (λ same. absurd (omega (arith, there, above, same))))))
    (none replica n above)

pub beyond-join : (initial_replicas : ℕ) (records : Records) (from : ℕ) → NoneDeliveredBeyond initial_replicas records
    → NoneDeliveredBeyond initial_replicas (Join (replica_count initial_replicas records) from ∷ records)
beyond-join initial_replicas records from none replica n above =
    let joined = replica_count initial_replicas records in
    or_from (joined == replica && has_delivered records from n) (has_delivered records replica n)
    (and_left (joined == replica) (has_delivered records from n)
    (ne_eqb joined replica (λ same. absurd (omega (arith, above, same)))))
    (none replica n (omega (arith, above)))

beyond_accepted : (kind : Kind) (replicas : ℕ) (records : Records) (command : Command)
    → refusal_of kind replicas records command ≡ None → NoneDeliveredBeyond replicas records
    → NoneDeliveredBeyond replicas (with_accepted records command)
beyond_accepted kind replicas records (Operate by op clock) accepted none =
    beyond-operation replicas records (next_operation by op clock) ((operated-exactly kind replicas records (next_operation by op clock)).0 accepted).0 none
beyond_accepted kind replicas records (Deliver to label) accepted none =
    beyond-delivery replicas records to label ((delivered-exactly replicas records to label).0 accepted).0 none
beyond_accepted kind replicas records (Join joined from) accepted none =
    let known = (joined-exactly replicas records joined from).0 accepted in
    subst (λ r. NoneDeliveredBeyond replicas (Join r from ∷ records)) (sym known.1) (beyond-join replicas records from none)
beyond_accepted kind replicas records Verdict accepted none = none

pub beyond-one : (kind : Kind) (replicas : ℕ) (records : Records) (command : Command) → NoneDeliveredBeyond replicas records
    → NoneDeliveredBeyond replicas (records_after kind replicas records command)
beyond-one kind replicas = kept_by_answers (NoneDeliveredBeyond replicas) kind replicas (beyond_accepted kind replicas)

pub beyond-all : (kind : Kind) (replicas : ℕ) (commands : List Command)
    → NoneDeliveredBeyond replicas (records_after_all kind replicas [] commands)
beyond-all kind replicas commands =
    kept_by_all (NoneDeliveredBeyond replicas) kind replicas (beyond-one kind replicas) [] commands (λ replica n above. refl)

-- the updates delivered to a new replica are those delivered to the replica from which it joined
pub joined-labels : (initial_replicas : ℕ) (records : Records) (from n : ℕ) → NoneDeliveredBeyond initial_replicas records
    → has_delivered (Join (replica_count initial_replicas records) from ∷ records) (replica_count initial_replicas records) n ≡ has_delivered records from n
joined-labels initial_replicas records from n none =
    let joined = replica_count initial_replicas records in
    ap (λ b. b && has_delivered records from n || has_delivered records joined n) (eq-eqb joined joined refl)
    ∙ ap (λ b. has_delivered records from n || b) (none joined n (omega arith))
    ∙ or_comm (has_delivered records from n) false

-- it has issued no update, since its own updates would be delivered to it
pub joined-issued : (initial_replicas : ℕ) (records : Records) → NoneDeliveredBeyond initial_replicas records
    → updates_issued records (replica_count initial_replicas records) ≡ 0
joined-issued initial_replicas records none =
    let joined = replica_count initial_replicas records in
    elim (cases_lt 0 (updates_issued records joined)) [
      | inl some ↦
          let own = place-there records joined 0 some in
          absurd (false≢true (sym (none joined own.0 (omega arith)) ∙ had-own records joined own.0 own.1))
      | inr not_one ↦ omega (arith, not_one)
    ]

pub joined-own : (kind : Kind) (initial_replicas : ℕ) (records : Records) (from : ℕ) → NoneDeliveredBeyond initial_replicas records
    → delivered_updates kind (Join (replica_count initial_replicas records) from ∷ records) (replica_count initial_replicas records)
    ≡ delivered_updates kind records from
joined-own kind initial_replicas records from none =
    let joined = replica_count initial_replicas records in
    let now = Join joined from ∷ records in
    ap (delivered_updates_of now joined) (order_later kind (Join joined from) records)
    ∙ among-same (has_delivered now joined) (has_delivered records from) (named_labels kind records) (λ l there.
    joined-labels initial_replicas records from l.number none)

pub joined-others : (kind : Kind) (records : Records) (joined from replica : ℕ) → ¬ (joined ≡ replica)
    → delivered_updates kind (Join joined from ∷ records) replica ≡ delivered_updates kind records replica
joined-others kind records joined from replica other =
    let now = Join joined from ∷ records in
    ap (delivered_updates_of now replica) (order_later kind (Join joined from) records)
    ∙ among-same (has_delivered now replica) (has_delivered records replica) (named_labels kind records) (λ l there.
    ap (λ b. b && has_delivered records from l.number || has_delivered records replica l.number) (ne_eqb joined replica other))

pub joined-order : (kind : Kind) (records : Records) (joined from : ℕ)
    → named_labels kind (Join joined from ∷ records) ≡ named_labels kind records
joined-order kind records joined from = order_later kind (Join joined from) records
