-- Lemmas on operations refused for their form or their stamp, and on properties of accepted labels.
use Rattle.std.proofs.Common.{◌≡◌, ℕ, zero, suc, ◌<◌, ◌≤◌, Bool, true, false, List, [], ◌∷◌, Option, Some, None, refl, sym, ap, ◌∙◌, subst, inl, inr, arith}
use Rattle.std.specs.Prelude.{◌↔◌, ◌&&◌, ◌||◌, not, nat_lt, is_some, Contains}
use Rattle.std.specs.Option.{option_map_or}
use Rattle.std.specs.List.{list_any}
use Rattle.std.specs.Ordering.{is_eq}
use Rattle.std.proofs.lemmas.Bool.{false≢true, cond_both, ne_eqb, lt-ltb, ltb-true, or_cases, or_left, or_right, or_parts, not-false}
use Rattle.std.proofs.lemmas.Option.{none-some, same_Some}
use Rattle.ra_theorems.proofs.Faults.{not_some}
use Rattle.ra_labels.specs.declared.kind.Kind.{Kind}
use Rattle.ra_labels.specs.declared.operation.Op.{Op}
use Rattle.ra_labels.specs.declared.label.Stamp.{Stamp}
use Rattle.ra_labels.specs.declared.label.Label.{Label}
use Rattle.ra_labels.specs.declared.command.Command.{Command}
use Rattle.ra_labels.specs.declared.command.Command.TheVariants.{Operate, Deliver, Join, Verdict}
use Rattle.ra_labels.specs.declared.refusal.Refusal.{Refusal}
use Rattle.ra_labels.specs.declared.refusal.Refusal.TheVariants.{UnknownReplica, WrongKind, BadList, StampMissing, StampUnwanted, StampTaken, IdTaken}
use Rattle.ra_labels.specs.Records.{Records, labels_of, next_label, replica_count, stamp_at}
use Rattle.ra_labels.specs.NamedOrder.{stamp_cmp}
use Rattle.ra_labels.specs.Fault.{fault_of}
use Rattle.ra_labels.specs.Answer.{when, first_of, kind_of, is_kind, has_rising_list, carries_stamp, has_clock}
use Rattle.ra_labels.specs.Answer.{form_refusal, has_stamp, is_stamp_taken, has_taken_stamp, has_taken_identifier, refusal_of}
use Rattle.ra_labels.specs.Answer.{with_accepted, records_after, records_after_all}
use Rattle.ra_labels.specs.TheoremTerms.{IsOwnStamp, HasClockIffStamped, IsWellFormed, EachLabelIsWellFormed, StampsAreUnique}
use Rattle.ra_labels.specs.HistorySoFar.{NextOperation, next_operation, operate}
use Rattle.ra_labels.proofs.Members.{head_or_behind}
use Rattle.ra_labels.proofs.StampOrder.{stamp_same}
use Rattle.ra_labels.proofs.SameKind.{same_kind, kind_itself}
use Rattle.std.specs.Cmp.{Equal-is}

-- some element passes the test
abbrev pub One : (Label → Bool) → List Label → Type 0
One p labels = (label : Label) × Contains labels label × (p label ≡ true)

pub any_one : (p : Label → Bool) (labels : List Label) → list_any p labels ≡ true → One p labels
any_one p [] is = absurd (false≢true is)
any_one p (first ∷ labels) is = elim (or_cases (p first) (list_any p labels) is) [
  | inl here ↦ (first, (zero, omega arith, refl), here)
  | inr further ↦ let rest = any_one p labels further in
      (rest.0, (suc rest.1.0, omega (arith, rest.1.1), rest.1.2), rest.2)
]

pub one_any : (p : Label → Bool) (labels : List Label) (label : Label) → Contains labels label → p label ≡ true
    → list_any p labels ≡ true
one_any p [] label there passes = absurd (omega (arith, there.1))
one_any p (first ∷ labels) label there passes = elim (head_or_behind first labels label there) [
  | inl here ↦ or_left (p first) (list_any p labels) (ap p here ∙ passes)
  | inr further ↦ or_right (p first) (list_any p labels) (one_any p labels label further passes)
]

-- the label whose own stamp it is
own_stamp : (own : Option Stamp) (stamp : Stamp) → (option_map_or (λ s. is_eq (stamp_cmp s stamp)) own false ≡ true)
    ↔ (own ≡ Some stamp)
own_stamp None stamp = (λ is. absurd (false≢true is), λ is. absurd (none-some stamp is))
own_stamp (Some s) stamp = (
  (λ is. ap Some ((stamp_same s stamp).0 ((Equal-is (stamp_cmp s stamp)).0 is))),
  (λ is. ap is_eq ((stamp_same s stamp).1 (same_Some s stamp is))),
)

pub taken-exactly : (records : Records) (stamp : Stamp) → (is_stamp_taken records stamp ≡ true) ↔ IsOwnStamp records stamp
taken-exactly records stamp = (
  (λ is. let one = any_one (has_stamp stamp) (labels_of records) is in
      (one.0, one.1, (own_stamp one.0.stamp stamp).0 one.2)),
  (λ (label, there, is). one_any (has_stamp stamp) (labels_of records) label there
      ((own_stamp label.stamp stamp).1 is)),
)

-- the refusals of an operation's form as a function of the tests
abbrev form : Bool → Bool → Bool → Bool → Option Refusal
form wrong bad missing unwanted =
    first_of (when wrong WrongKind ∷ when bad BadList ∷ when missing StampMissing ∷ when unwanted StampUnwanted ∷ [])

form-none : (wrong bad missing unwanted : Bool) → form wrong bad missing unwanted ≡ None
    → (wrong ≡ false) × (bad ≡ false) × (missing ≡ false) × (unwanted ≡ false)
form-none true bad missing unwanted is = absurd (cc (is))
form-none false true missing unwanted is = absurd (cc (is))
form-none false false true unwanted is = absurd (cc (is))
form-none false false false true is = absurd (cc (is))
form-none false false false false is = (refl, refl, refl, refl)

form-not_taken : (wrong bad missing unwanted : Bool) → (form wrong bad missing unwanted ≡ Some StampTaken → ⊥)
    × (form wrong bad missing unwanted ≡ Some IdTaken → ⊥)
form-not_taken true bad missing unwanted = ((λ is. cc is), (λ is. cc is))
form-not_taken false true missing unwanted = ((λ is. cc is), (λ is. cc is))
form-not_taken false false true unwanted = ((λ is. cc is), (λ is. cc is))
form-not_taken false false false true = ((λ is. cc is), (λ is. cc is))
form-not_taken false false false false = ((λ is. cc is), (λ is. cc is))

-- what the tests of an operation's clock state
to_clock : (carries : Bool) (clock : Option ℕ) → (carries && not (has_clock clock)) ≡ false
    → (not carries && is_some clock) ≡ false → (carries ≡ true → (at : ℕ) × (1 ≤ at) × (clock ≡ Some at))
    × (carries ≡ false → clock ≡ None)
to_clock true None missing unwanted = absurd (false≢true (sym missing))
to_clock true (Some zero) missing unwanted = absurd (false≢true (sym missing))
to_clock true (Some (suc at)) missing unwanted =
    ((λ is. (suc at, omega arith, refl)), (λ is. absurd (false≢true (sym is))))
to_clock false None missing unwanted = ((λ is. absurd (false≢true is)), (λ is. refl))
to_clock false (Some at) missing unwanted = absurd (false≢true (sym unwanted))

from_one : (at : ℕ) → 1 ≤ at → not (has_clock (Some at)) ≡ false
from_one zero above = absurd (omega arith)
from_one (suc at) above = ap (λ b. not (not b)) (ne_eqb (suc at) 0 (λ is. absurd (omega arith)))

no_missing : (carries : Bool) (clock : Option ℕ) → (carries ≡ true → (at : ℕ) × (1 ≤ at) × (clock ≡ Some at))
    → (carries && not (has_clock clock)) ≡ false
no_missing false clock its = refl
no_missing true clock its = let known = its refl in ap (λ c. not (has_clock c)) known.2 ∙ from_one known.0 known.1

no_unwanted : (carries : Bool) (clock : Option ℕ) → (carries ≡ false → clock ≡ None)
    → (not carries && is_some clock) ≡ false
no_unwanted true clock its = refl
no_unwanted false clock its = ap is_some (its refl)

-- when an operation's form gives no reason to refuse it
pub fits-exactly : (kind : Kind) (next : NextOperation)
    → (form_refusal kind (operate next) ≡ None)
    ↔ ((kind_of next.op ≡ kind) × (has_rising_list next.op ≡ true) × HasClockIffStamped next.op next.clock)
fits-exactly kind next = (
  (λ none.
      let tests = form-none (not (is_kind kind (kind_of next.op))) (not (has_rising_list next.op))
      (carries_stamp next.op && not (has_clock next.clock)) (not (carries_stamp next.op) && is_some next.clock) none in (
        same_kind kind (kind_of next.op) (not-false (is_kind kind (kind_of next.op)) tests.0),
        not-false (has_rising_list next.op) tests.1,
        to_clock (carries_stamp next.op) next.clock tests.2 tests.3,
      )),
  (λ known.
      let right : is_kind kind (kind_of next.op) ≡ true = ap (is_kind kind) known.0 ∙ kind_itself kind in
      rw (
        right,
        known.1,
        no_missing (carries_stamp next.op) next.clock known.2.0,
        no_unwanted
            (carries_stamp next.op) next.clock known.2.1,
      )),
)

-- the refusals of an operation as a function of the tests
abbrev all : Bool → Option Refusal → Bool → Bool → Option Refusal
all known misfit stamp id =
    first_of (when (not known) UnknownReplica ∷ misfit ∷ when stamp StampTaken ∷ when id IdTaken ∷ [])

all-stamp : (known : Bool) (misfit : Option Refusal) (stamp id : Bool) → (misfit ≡ Some StampTaken → ⊥)
    → all known misfit stamp id ≡ Some StampTaken → (known ≡ true) × (misfit ≡ None) × (stamp ≡ true)
all-stamp false misfit stamp id other is = absurd (cc (is))
all-stamp true (Some why) stamp id other is = absurd (other is)
all-stamp true None true id other is = (refl, refl, refl)
all-stamp true None false true other is = absurd (cc (is))
all-stamp true None false false other is = absurd (cc (is))

all-id : (known : Bool) (misfit : Option Refusal) (stamp id : Bool) → (misfit ≡ Some IdTaken → ⊥)
    → all known misfit stamp id ≡ Some IdTaken → (known ≡ true) × (misfit ≡ None) × (stamp ≡ false) × (id ≡ true)
all-id false misfit stamp id other is = absurd (cc (is))
all-id true (Some why) stamp id other is = absurd (other is)
all-id true None true id other is = absurd (cc (is))
all-id true None false true other is = (refl, refl, refl, refl)
all-id true None false false other is = absurd (cc (is))

all-none : (known : Bool) (misfit : Option Refusal) (stamp id : Bool) → all known misfit stamp id ≡ None
    → (known ≡ true) × (misfit ≡ None) × (stamp ≡ false) × (id ≡ false)
all-none false misfit stamp id is = absurd (cc (is))
all-none true (Some why) stamp id is = absurd (cc (is))
all-none true None true id is = absurd (cc (is))
all-none true None false true is = absurd (cc (is))
all-none true None false false is = (refl, refl, refl, refl)

module _ (kind : Kind) (replicas : ℕ) (records : Records) (next : NextOperation) where
  pub stamp_taken-exactly : (refusal_of kind replicas records (operate next) ≡ Some StampTaken)
      ↔ ((next.by < replica_count replicas records) × (form_refusal kind (operate next) ≡ None) × (has_taken_stamp records next.by next.clock ≡ true))
  stamp_taken-exactly = (
    (λ refused.
        let never = form-not_taken (not (is_kind kind (kind_of next.op))) (not (has_rising_list next.op))
        (carries_stamp next.op && not (has_clock next.clock)) (not (carries_stamp next.op) && is_some next.clock) in
        let tests = all-stamp (nat_lt next.by (replica_count replicas records)) (form_refusal kind (operate next))
        (has_taken_stamp records next.by next.clock) (has_taken_identifier records next.op) never.0 refused in
        (ltb-true next.by (replica_count replicas records) tests.0, tests.1, tests.2)),
    (λ known. rw (lt-ltb next.by (replica_count replicas records) known.0, known.1, known.2)),
  )

  pub id_taken-exactly : (refusal_of kind replicas records (operate next) ≡ Some IdTaken)
      ↔ ((next.by < replica_count replicas records) × (form_refusal kind (operate next) ≡ None) × (has_taken_stamp records next.by next.clock ≡ false)
      × (has_taken_identifier records next.op ≡ true))
  id_taken-exactly = (
    (λ refused.
        let never = form-not_taken (not (is_kind kind (kind_of next.op))) (not (has_rising_list next.op))
        (carries_stamp next.op && not (has_clock next.clock)) (not (carries_stamp next.op) && is_some next.clock) in
        let tests = all-id (nat_lt next.by (replica_count replicas records)) (form_refusal kind (operate next))
        (has_taken_stamp records next.by next.clock) (has_taken_identifier records next.op) never.1 refused in
        (ltb-true next.by (replica_count replicas records) tests.0, tests.1, tests.2, tests.3)),
    (λ known. rw (lt-ltb next.by (replica_count replicas records) known.0, known.1, known.2, known.3)),
  )

  pub operated-exactly : (refusal_of kind replicas records (operate next) ≡ None)
      ↔ ((next.by < replica_count replicas records) × (form_refusal kind (operate next) ≡ None) × (has_taken_stamp records next.by next.clock ≡ false)
      × (has_taken_identifier records next.op ≡ false))
  operated-exactly = (
    (λ accepted.
        let tests = all-none (nat_lt next.by (replica_count replicas records)) (form_refusal kind (operate next))
        (has_taken_stamp records next.by next.clock) (has_taken_identifier records next.op) accepted in
        (ltb-true next.by (replica_count replicas records) tests.0, tests.1, tests.2, tests.3)),
    (λ known. rw (lt-ltb next.by (replica_count replicas records) known.0, known.1, known.2, known.3)),
  )

-- a property of records that each accepted command preserves
pub kept_by_answers : (P : Records → Type 0) (kind : Kind) (replicas : ℕ)
    → ((records : Records) (command : Command) → refusal_of kind replicas records command ≡ None → P records
    → P (with_accepted records command))
    → (records : Records) (command : Command) → P records → P (records_after kind replicas records command)
kept_by_answers P kind replicas keeps records command before =
    cond_both (is_some (fault_of kind records) || is_some (refusal_of kind replicas records command)) records
    (with_accepted records command) P
    (λ stays. before)
    (λ goes. keeps records command
    (not_some (refusal_of kind replicas records command)
    (or_parts (is_some (fault_of kind records)) (is_some (refusal_of kind replicas records command)) goes).1)
    before)

pub kept_by_all : (P : Records → Type 0) (kind : Kind) (replicas : ℕ)
    → ((records : Records) (command : Command) → P records → P (records_after kind replicas records command))
    → (records : Records) (commands : List Command) → P records → P (records_after_all kind replicas records commands)
kept_by_all P kind replicas keeps records [] before = before
kept_by_all P kind replicas keeps records (command ∷ commands) before =
    kept_by_all P kind replicas keeps (records_after kind replicas records command) commands
    (keeps records command before)

-- each accepted label is well-formed
fits_accepted : (kind : Kind) (replicas : ℕ) (records : Records) (command : Command)
    → refusal_of kind replicas records command ≡ None → EachLabelIsWellFormed kind replicas records
    → EachLabelIsWellFormed kind replicas (with_accepted records command)
fits_accepted kind replicas records (Operate by op clock) accepted each label there =
    elim (head_or_behind (next_label records by op clock) (labels_of records) label there) [
      | inl here ↦
          let known = (operated-exactly kind replicas records (next_operation by op clock)).0 accepted in
          let form = (fits-exactly kind (next_operation by op clock)).0 known.1 in
          subst (IsWellFormed kind (replica_count replicas records)) here
          (record { of_kind = form.0; list = form.1; replica = known.0; stamp = (clock, form.2, refl) })
      | inr further ↦ each label further
    ]
fits_accepted kind replicas records (Deliver to n) accepted each label there = each label there
fits_accepted kind replicas records (Join joined from) accepted each label there =
    let fit = each label there in
    record { of_kind = fit.of_kind; list = fit.list; replica = omega (arith, fit.replica); stamp = fit.stamp }
fits_accepted kind replicas records Verdict accepted each label there = each label there

pub labels-fit : (kind : Kind) (replicas : ℕ) (records : Records) (command : Command)
    → EachLabelIsWellFormed kind replicas records → EachLabelIsWellFormed kind replicas (records_after kind replicas records command)
labels-fit kind replicas = kept_by_answers (EachLabelIsWellFormed kind replicas) kind replicas (fits_accepted kind replicas)

pub labels-fit_all : (kind : Kind) (replicas : ℕ) (commands : List Command)
    → EachLabelIsWellFormed kind replicas (records_after_all kind replicas [] commands)
labels-fit_all kind replicas commands =
    kept_by_all (EachLabelIsWellFormed kind replicas) kind replicas (labels-fit kind replicas) [] commands
    (λ label there. absurd (omega (arith, there.1)))

-- uniqueness is preserved by a new label if no earlier label has its key
pub once_behind : (A : Type 0) (Has : Label → A → Type 0) (next : Label) (labels : List Label)
    → ((a : A) → Has next a → (other : Label) → Contains labels other → Has other a → ⊥)
    → ((l m : Label) (a : A) → Contains labels l → Contains labels m → Has l a → Has m a → l ≡ m)
    → (l m : Label) (a : A) → Contains (next ∷ labels) l → Contains (next ∷ labels) m → Has l a → Has m a → l ≡ m
once_behind A Has next labels new once l m a l_there m_there l_has m_has =
    elim (head_or_behind next labels l l_there) [
      | inl l_here ↦ elim (head_or_behind next labels m m_there) [
        | inl m_here ↦ sym l_here ∙ m_here
        | inr m_further ↦ absurd (new a (subst (λ n. Has n a) (sym l_here) l_has) m m_further m_has)
      ]
      | inr l_further ↦ elim (head_or_behind next labels m m_there) [
        | inl m_here ↦ absurd (new a (subst (λ n. Has n a) (sym m_here) m_has) l l_further l_has)
        | inr m_further ↦ once l m a l_further m_further l_has m_has
      ]
    ]

-- no two accepted labels have the same stamp
newly_given : (records : Records) (by : ℕ) (op : Op) (clock : Option ℕ) (label : Label) (stamp : Stamp)
    → has_taken_stamp records by clock ≡ false
    → (next_label records by op clock).stamp ≡ Some stamp → Contains (labels_of records) label
    → label.stamp ≡ Some stamp → ⊥
newly_given records by op None label stamp free own there is = none-some stamp own
newly_given records by op (Some at) label stamp free own there is =
    let same : stamp_at by at ≡ stamp = same_Some (stamp_at by at) stamp own in
    false≢true (sym free ∙ (taken-exactly records (stamp_at by at)).1 (label, there, is ∙ ap Some (sym same)))

once_accepted : (kind : Kind) (replicas : ℕ) (records : Records) (command : Command)
    → refusal_of kind replicas records command ≡ None → StampsAreUnique records
    → StampsAreUnique (with_accepted records command)
once_accepted kind replicas records (Operate by op clock) accepted once =
    let free = ((operated-exactly kind replicas records (next_operation by op clock)).0 accepted).2 in
    once_behind Stamp (λ label stamp. label.stamp ≡ Some stamp) (next_label records by op clock) (labels_of records)
    (λ stamp own other there is. newly_given records by op clock other stamp free own there is) once
once_accepted kind replicas records (Deliver to n) accepted once = once
once_accepted kind replicas records (Join joined from) accepted once = once
once_accepted kind replicas records Verdict accepted once = once

pub stamps-once : (kind : Kind) (replicas : ℕ) (records : Records) (command : Command) → StampsAreUnique records
    → StampsAreUnique (records_after kind replicas records command)
stamps-once kind replicas = kept_by_answers StampsAreUnique kind replicas (once_accepted kind replicas)

pub stamps-once_all : (kind : Kind) (replicas : ℕ) (commands : List Command)
    → StampsAreUnique (records_after_all kind replicas [] commands)
stamps-once_all kind replicas commands =
    kept_by_all StampsAreUnique kind replicas (stamps-once kind replicas) [] commands
    (λ l m stamp there. absurd (omega (arith, there.1)))
