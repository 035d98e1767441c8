-- Lemmas on when records hold, and on the first label at which they do not.
use Rattle.std.proofs.Common.{◌≡◌, ℕ, ◌<◌, Bool, true, false, cond, eqb, List, [], ◌∷◌, ◌++◌, Option, Some, None, refl}
use Rattle.std.proofs.Common.{sym, ap, ◌∙◌, subst, inl, inr, ⊎_elim, arith}
use Rattle.std.specs.Prelude.{◌↔◌, ◌⊎◌, IsPermutation, not, if◌then◌else◌, option_map, is_none, is_some}
use Rattle.std.specs.Option.{option_or}
use Rattle.std.proofs.lemmas.Option.{none-some, same_Some}
use Rattle.std.proofs.lemmas.Bool.{cases_eq, cases_order, eq-eqb, ne_eqb, cond-true, cond-false, cond_both, false≢true}
use Rattle.ra_labels.specs.declared.kind.Kind.{Kind}
use Rattle.ra_labels.specs.declared.kind.Kind.TheVariants.{Counter}
use Rattle.ra_labels.specs.declared.kind.Kind.TheVariants as kinds
use Rattle.ra_labels.specs.declared.command.Command.TheVariants.{Operate, Deliver, Join, Verdict}
use Rattle.ra_labels.specs.declared.reply.Cause.{Cause}
use Rattle.ra_labels.specs.declared.reply.Cause.TheVariants.{Order, Update, Query}
use Rattle.ra_labels.specs.declared.reply.Fault.{Fault}
use Rattle.ra_labels.specs.Records.{Records, label_count, labels_of, records_to}
use Rattle.ra_labels.specs.Explained.{is_explained, unexplained_cause}
use Rattle.ra_labels.specs.Rewriting.{Part, parts_of}
use Rattle.ra_labels.specs.Linearization.{parts_in, extends_visibility, updates_admitted, queries_admitted}
use Rattle.ra_labels.specs.NamedOrder.{label_cmp, named_sequence}
use Rattle.ra_labels.specs.Fault.{Holds, sequence_cause, cause_of, fault_of, fault_at, records_before_fault}
use Rattle.ra_labels.specs.TheoremTerms.{IsLeastFault}
use Rattle.ra_labels.specs.HistorySoFar.{NextOperation, next_operation, operate}
use Rattle.ra_theorems.proofs.SortedLists.{flat_map-sort_by}

-- the named sequence has each part once and no other element
pub IsPermutation-named_sequence : (kind : Kind) (records : Records)
    → IsPermutation (parts_in records) (named_sequence kind records)
IsPermutation-named_sequence kind records = flat_map-sort_by (label_cmp kind records) parts_of (labels_of records)

abbrev first_failing : Cause → Bool → Bool → Bool → Bool → Option Cause
first_failing last order update query kept =
    option_or
    (if not order then Some Order else if not update then Some Update else if not query then Some Query else None)
    (if kept then None else Some last)

-- if there is no cause, all four tests pass
all_pass : (last : Cause) (order update query kept : Bool) → first_failing last order update query kept ≡ None
    → (order ≡ true) × (update ≡ true) × (query ≡ true) × (kept ≡ true)
all_pass last true true true true none = (refl, refl, refl, refl)
all_pass last false update query kept none = absurd (none-some Order (sym none))
all_pass last true false query kept none = absurd (none-some Update (sym none))
all_pass last true true false kept none = absurd (none-some Query (sym none))
all_pass last true true true false none = absurd (none-some last (sym none))

no_failure : (last : Cause) (order update query kept : Bool) → order ≡ true → update ≡ true → query ≡ true → kept ≡ true
    → first_failing last order update query kept ≡ None
no_failure last order update query kept o u q k = rw (o, u, q, k)

pub holds_from_no_cause : (kind : Kind) (records : Records) → cause_of kind records ≡ None → Holds kind records
holds_from_no_cause kind records none =
    let sequence = named_sequence kind records in
    let tests = all_pass (unexplained_cause kind) (extends_visibility records sequence) (updates_admitted kind sequence)
    (queries_admitted kind records sequence) (is_explained kind records) none in
    record {
      each_part_once = IsPermutation-named_sequence kind records;
      visibility = tests.0;
      updates = tests.1;
      queries = tests.2;
      explained = tests.3;
    }

pub no_cause_from_holds : (kind : Kind) (records : Records) → Holds kind records → cause_of kind records ≡ None
no_cause_from_holds kind records holds =
    let sequence = named_sequence kind records in
    no_failure (unexplained_cause kind) (extends_visibility records sequence) (updates_admitted kind sequence)
    (queries_admitted kind records sequence) (is_explained kind records) holds.visibility holds.updates holds.queries
    holds.explained

-- the cause is the first of the four tests that fails
first_or_last : (last : Cause) (order update query kept : Bool) → (first_failing last order update query kept ≡ Some Order)
    ↔ ((order ≡ false)
    ⊎ ((order ≡ true) × (update ≡ true) × (query ≡ true) × (kept ≡ false) × (last ≡ Order)))
first_or_last last false update query kept = (λ is. inl refl, λ fails. refl)
first_or_last last true false query kept = (
  (λ is. absurd (cc is)),
  (λ fails. elim fails [ inl first ↦ absurd (cc first) | inr later ↦ absurd (cc (later.1)) ]),
)
first_or_last last true true false kept = (
  (λ is. absurd (cc is)),
  (λ fails. elim fails [ inl first ↦ absurd (cc first) | inr later ↦ absurd (cc (later.2)) ]),
)
first_or_last last true true true false = (
  (λ is. inr (refl, refl, refl, refl, same_Some last Order is)),
  (λ fails. elim fails [ inl first ↦ absurd (cc first) | inr later ↦ ap Some (later.4) ]),
)
first_or_last last true true true true = (
  (λ is. absurd (cc is)),
  (λ fails. elim fails [ inl first ↦ absurd (cc first) | inr later ↦ absurd (cc (later.3)) ]),
)

update_next : (last : Cause) (order update query kept : Bool) → ¬ (last ≡ Update)
    → (first_failing last order update query kept ≡ Some Update) ↔ ((order ≡ true) × (update ≡ false))
update_next last false update query kept other = (λ is. absurd (cc is), λ fails. absurd (cc (fails.0)))
update_next last true false query kept other = (λ is. (refl, refl), λ fails. refl)
update_next last true true false kept other = (λ is. absurd (cc is), λ fails. absurd (cc (fails.1)))
update_next last true true true false other =
    (λ is. absurd (other (same_Some last Update is)), λ fails. absurd (cc (fails.1)))
update_next last true true true true other = (λ is. absurd (cc is), λ fails. absurd (cc (fails.1)))

query_or_last : (last : Cause) (order update query kept : Bool) → (first_failing last order update query kept ≡ Some Query)
    ↔ ((order ≡ true) × (update ≡ true)
    × ((query ≡ false) ⊎ ((query ≡ true) × (kept ≡ false) × (last ≡ Query))))
query_or_last last false update query kept = (λ is. absurd (cc is), λ fails. absurd (cc (fails.0)))
query_or_last last true false query kept = (λ is. absurd (cc is), λ fails. absurd (cc (fails.1)))
query_or_last last true true false kept = (λ is. (refl, refl, inl refl), λ fails. refl)
query_or_last last true true true false = (
  (λ is. (refl, refl, inr (refl, refl, same_Some last Query is))),
  (λ fails. elim (fails.2) [ inl first ↦ absurd (cc first) | inr later ↦ ap Some (later.2) ]),
)
query_or_last last true true true true = (
  (λ is. absurd (cc is)),
  (λ fails. elim (fails.2) [ inl first ↦ absurd (cc first) | inr later ↦ absurd (cc (later.1)) ]),
)

-- records that do not meet the condition of their kind fail the order or a query
not_update : (kind : Kind) → ¬ (unexplained_cause kind ≡ Update)
not_update kinds.List is = absurd (cc is)
not_update _ is = absurd (cc is)

module _ (kind : Kind) (records : Records) where
  abbrev sequence : List Part
  sequence = named_sequence kind records

  pub cause-order : (cause_of kind records ≡ Some Order)
      ↔ ((extends_visibility records sequence ≡ false)
      ⊎ ((extends_visibility records sequence ≡ true) × (updates_admitted kind sequence ≡ true)
      × (queries_admitted kind records sequence ≡ true) × (is_explained kind records ≡ false)
      × (unexplained_cause kind ≡ Order)))
  cause-order = first_or_last (unexplained_cause kind) (extends_visibility records sequence)
      (updates_admitted kind sequence) (queries_admitted kind records sequence) (is_explained kind records)

  pub cause-update : (cause_of kind records ≡ Some Update)
      ↔ ((extends_visibility records sequence ≡ true) × (updates_admitted kind sequence ≡ false))
  cause-update = update_next (unexplained_cause kind) (extends_visibility records sequence)
      (updates_admitted kind sequence) (queries_admitted kind records sequence) (is_explained kind records)
      (not_update kind)

  pub cause-query : (cause_of kind records ≡ Some Query)
      ↔ ((extends_visibility records sequence ≡ true) × (updates_admitted kind sequence ≡ true)
      × ((queries_admitted kind records sequence ≡ false)
      ⊎ ((queries_admitted kind records sequence ≡ true) × (is_explained kind records ≡ false)
      × (unexplained_cause kind ≡ Query))))
  cause-query = query_or_last (unexplained_cause kind) (extends_visibility records sequence)
      (updates_admitted kind sequence) (queries_admitted kind records sequence) (is_explained kind records)

-- the named sequence fails no condition exactly if it meets all three
three_pass : (order update query : Bool)
    → ((if not order then Some Order else if not update then Some Update else if not query then Some Query else None) ≡ None)
    ↔ ((order ≡ true) × (update ≡ true) × (query ≡ true))
three_pass true true true = (λ none. (refl, refl, refl), λ all. refl)
three_pass false update query = (λ none. absurd (none-some Order (sym none)), λ all. absurd (cc (all.0)))
three_pass true false query = (λ none. absurd (none-some Update (sym none)), λ all. absurd (cc (all.1)))
three_pass true true false = (λ none. absurd (none-some Query (sym none)), λ all. absurd (cc (all.2)))

pub sequence_cause-none : (kind : Kind) (records : Records) → (sequence_cause kind records ≡ None)
    ↔ ((extends_visibility records (named_sequence kind records) ≡ true)
    × (updates_admitted kind (named_sequence kind records) ≡ true)
    × (queries_admitted kind records (named_sequence kind records) ≡ true))
sequence_cause-none kind records =
    three_pass (extends_visibility records (named_sequence kind records))
    (updates_admitted kind (named_sequence kind records)) (queries_admitted kind records (named_sequence kind records))

-- only three kinds have a condition on the records as a whole
pub explained-others : (kind : Kind) (records : Records) → ¬ (kind ≡ kinds.List) → ¬ (kind ≡ kinds.Any)
    → ¬ (kind ≡ kinds.MvRegister) → is_explained kind records ≡ true
explained-others kinds.List records no_list no_any no_register = absurd (no_list refl)
explained-others kinds.Any records no_list no_any no_register = absurd (no_any refl)
explained-others kinds.MvRegister records no_list no_any no_register = absurd (no_register refl)
explained-others Counter records no_list no_any no_register = refl
explained-others _ records no_list no_any no_register = refl

-- only a list fails the order by it
pub unexplained-order : (kind : Kind) → (unexplained_cause kind ≡ Order) ↔ (kind ≡ kinds.List)
unexplained-order kinds.List = (λ is. refl, λ is. refl)
unexplained-order _ = (λ is. absurd (cc is), λ is. absurd (cc is))

-- the empty records hold
cause_of-nil : (kind : Kind) → cause_of kind [] ≡ None
cause_of-nil Counter = refl
cause_of-nil _ = refl

-- a delivery does not change the cause
cause_of-deliver : (kind : Kind) (to label : ℕ) (before : Records)
    → cause_of kind (Deliver to label ∷ before) ≡ cause_of kind before
cause_of-deliver Counter to label before = refl
cause_of-deliver _ to label before = refl

-- nor does a join
cause_of-join : (kind : Kind) (joined from : ℕ) (before : Records)
    → cause_of kind (Join joined from ∷ before) ≡ cause_of kind before
cause_of-join Counter joined from before = refl
cause_of-join _ joined from before = refl

cause_of-verdict : (kind : Kind) (before : Records) → cause_of kind (Verdict ∷ before) ≡ cause_of kind before
cause_of-verdict Counter before = refl
cause_of-verdict _ before = refl

-- if `option_or` is `None`, so are both values
pub neither : {A : Type 0} (a b : Option A) → option_or a b ≡ None → (a ≡ None) × (b ≡ None)
neither None b none = (refl, none)
neither (Some x) b none = absurd (none-some x (sym none))

pub not_some : {A : Type 0} (o : Option A) → is_some o ≡ false → o ≡ None
not_some None is = refl
not_some (Some x) is = absurd (false≢true (sym is))

pub option_map-none : {A B : Type 0} (f : A → B) (a : Option A) → option_map f a ≡ None → a ≡ None
option_map-none f None none = refl
option_map-none f (Some x) none = absurd (none-some (f x) (sym none))

pub no_cause_from_no_fault : (kind : Kind) (records : Records) → fault_of kind records ≡ None
    → cause_of kind records ≡ None
no_cause_from_no_fault kind [] none = cause_of-nil kind
no_cause_from_no_fault kind (Operate by op clock ∷ before) none =
    option_map-none (fault_at (label_count before)) (cause_of kind (Operate by op clock ∷ before))
    (neither (fault_of kind before) _ none).1
no_cause_from_no_fault kind (Deliver to label ∷ before) none = cause_of-deliver kind to label before
    ∙ no_cause_from_no_fault kind before none
no_cause_from_no_fault kind (Join joined from ∷ before) none = cause_of-join kind joined from before
    ∙ no_cause_from_no_fault kind before none
no_cause_from_no_fault kind (Verdict ∷ before) none = cause_of-verdict kind before
    ∙ no_cause_from_no_fault kind before none

-- if there is no fault, the named sequence is an RA-linearization
pub holds_from_no_fault : (kind : Kind) (records : Records) → fault_of kind records ≡ None → Holds kind records
holds_from_no_fault kind records none = holds_from_no_cause kind records (no_cause_from_no_fault kind records none)

-- the fault of the older records, or else that of this label
pub first_or : {A B : Type 0} (f : A → B) (a : Option B) (b : Option A) (x : B) → option_or a (option_map f b) ≡ Some x
    → (a ≡ Some x) ⊎ ((a ≡ None) × (y : A) × (b ≡ Some y) × (f y ≡ x))
first_or f (Some y) b x is = inl is
first_or f None None x is = absurd (none-some x is)
first_or f None (Some y) x is = inr (refl, y, refl, same_Some (f y) x is)

-- a fault persists in later records
pub fault_stays : (kind : Kind) (later records : Records) (fault : Fault) → fault_of kind records ≡ Some fault
    → fault_of kind (later ++ records) ≡ Some fault
fault_stays kind [] records fault is = is
fault_stays kind (Operate by op clock ∷ later) records fault is =
    ap (λ older. option_or older
    (option_map (fault_at (label_count (later ++ records)))
    (cause_of kind (Operate by op clock ∷ later ++ records)))) (fault_stays kind later records fault is)
fault_stays kind (_ ∷ later) records fault is = fault_stays kind later records fault is

-- the records up to the newest label are all records
records_to-newest : (next : NextOperation) (before : Records) (n : ℕ) → n ≡ label_count before
    → records_to (operate next ∷ before) n ≡ operate next ∷ before
records_to-newest next before n is = cond-true (eqb n (label_count before)) _ _ (eq-eqb _ _ is)

records_to-older : (next : NextOperation) (before : Records) (n : ℕ) → n < label_count before
    → records_to (operate next ∷ before) n ≡ records_to before n
records_to-older next before n below =
    let other : n ≡ label_count before → ⊥ = λ is. absurd (omega arith) in
    cond-false (eqb n (label_count before)) _ _ (ne_eqb _ _ other)

-- if there is no fault, the records up to each label hold
pub each_label_holds : (kind : Kind) (records : Records) → fault_of kind records ≡ None → (n : ℕ)
    → n < label_count records → Holds kind (records_to records n)
each_label_holds kind [] none n below = absurd (omega arith)
each_label_holds kind (Operate by op clock ∷ before) none n below = elim (cases_eq n (label_count before)) [
  | inl is ↦ rw (records_to-newest (next_operation by op clock) before n is)
      (holds_from_no_fault kind (Operate by op clock ∷ before) none)
  | inr other ↦
      let older : n < label_count before = omega arith in
      rw (records_to-older (next_operation by op clock) before n older)
      (each_label_holds kind before (neither (fault_of kind before) _ none).0 n older)
]
each_label_holds kind (_ ∷ before) none n below = each_label_holds kind before none n below

-- and conversely
pub no_fault_from_labels : (kind : Kind) (records : Records)
    → ((n : ℕ) → n < label_count records → Holds kind (records_to records n)) → fault_of kind records ≡ None
no_fault_from_labels kind [] holds = refl
no_fault_from_labels kind (Operate by op clock ∷ before) holds =
    let older = no_fault_from_labels kind before
    (λ n below. subst (Holds kind) (records_to-older (next_operation by op clock) before n below) (holds n (omega arith))) in
    let newest : Holds kind (Operate by op clock ∷ before) = subst (Holds kind)
    (records_to-newest (next_operation by op clock) before (label_count before) refl) (holds (label_count before) (omega arith)) in
    rw (older, no_cause_from_holds kind (Operate by op clock ∷ before) newest)
no_fault_from_labels kind (_ ∷ before) holds = no_fault_from_labels kind before holds

-- the fault is the first label at which the records do not hold
pub fault_is_least : (kind : Kind) (records : Records) (fault : Fault) → fault_of kind records ≡ Some fault
    → IsLeastFault kind records fault
fault_is_least kind [] fault is = absurd (none-some fault is)
fault_is_least kind (Operate by op clock ∷ before) fault is =
    elim (first_or (fault_at (label_count before)) (fault_of kind before)
    (cause_of kind (Operate by op clock ∷ before)) fault is) [
      | inl older ↦
          let known = fault_is_least kind before fault older in
          record {
            there = omega (arith, known.there);
            fails = rw (records_to-older (next_operation by op clock) before fault.label known.there) known.fails;
            holds_before = λ n below. rw (records_to-older (next_operation by op clock) before n (omega (arith, known.there)))
                (known.holds_before n below);
          }
      | inr newest ↦
          let here : label_count before ≡ fault.label = ap (λ (f : Fault). f.label) newest.3 in
          let why : newest.1 ≡ fault.cause = ap (λ (f : Fault). f.cause) newest.3 in
          record {
            there = omega arith;
            fails = rw (records_to-newest (next_operation by op clock) before fault.label (sym here), ← why) newest.2;
            holds_before = λ n below.
                let older : n < label_count before = omega arith in
                rw (records_to-older (next_operation by op clock) before n older) (each_label_holds kind before newest.0 n older);
          }
    ]
fault_is_least kind (_ ∷ before) fault is =
    let known = fault_is_least kind before fault is in
    record { there = known.there; fails = known.fails; holds_before = known.holds_before }

-- there is only one such label, with one cause
fault_from_least : (kind : Kind) (records : Records) (fault : Fault) (found : Option Fault)
    → fault_of kind records ≡ found → IsLeastFault kind records fault → found ≡ Some fault
fault_from_least kind records fault None is least =
    absurd (none-some fault.cause
    (sym (no_cause_from_holds kind (records_to records fault.label)
    (each_label_holds kind records is fault.label least.there)) ∙ least.fails))
fault_from_least kind records fault (Some found) is least =
    let known = fault_is_least kind records found is in
    elim (cases_order found.label fault.label) [
      | inl same ↦
          let causes : Some found.cause ≡ Some fault.cause = sym known.fails
          ∙ ap (λ n. cause_of kind (records_to records n)) same ∙ least.fails in
          let why = same_Some found.cause fault.cause causes in
          λ i. Some (record { label = same i; cause = why i })
      | inr (inl below) ↦
          absurd (none-some found.cause
          (sym (no_cause_from_holds kind (records_to records found.label) (least.holds_before found.label below))
          ∙ known.fails))
      | inr (inr above) ↦
          absurd (none-some fault.cause
          (sym (no_cause_from_holds kind (records_to records fault.label) (known.holds_before fault.label above))
          ∙ least.fails))
    ]

pub only_least_fault : (kind : Kind) (records : Records) (fault : Fault) → IsLeastFault kind records fault
    → fault_of kind records ≡ Some fault
only_least_fault kind records fault least = fault_from_least kind records fault (fault_of kind records) refl least

from_is_none : {A : Type 0} (o : Option A) → is_none o ≡ true → o ≡ None
from_is_none None none = refl
from_is_none (Some x) none = absurd (false≢true none)

-- the records before the fault have no fault
pub no_fault_before : (kind : Kind) (records : Records) → fault_of kind (records_before_fault kind records) ≡ None
no_fault_before kind [] = refl
no_fault_before kind (command ∷ before) =
    cond_both (is_none (fault_of kind (command ∷ before))) (command ∷ before) (records_before_fault kind before)
    (λ kept. fault_of kind kept ≡ None)
    (λ none. from_is_none (fault_of kind (command ∷ before)) none)
    (λ some. no_fault_before kind before)

pub all_before_fault : (kind : Kind) (records : Records) → fault_of kind records ≡ None
    → records_before_fault kind records ≡ records
all_before_fault kind [] none = refl
all_before_fault kind (command ∷ before) none =
    cond-true (is_none (fault_of kind (command ∷ before))) _ _ (ap is_none none)

-- if there is a fault, the records before it are those of the shorter records
passed_over : (o : Option Fault) (fault : Fault) (whole shorter : Records) → o ≡ Some fault
    → label_count (cond (is_none o) whole shorter) ≡ label_count shorter
passed_over o fault whole shorter at = ap (λ b. label_count (cond b whole shorter)) (ap is_none at)

-- the number of labels before a fault is the fault's label number
pub count_before : (kind : Kind) (records : Records) (fault : Fault) → fault_of kind records ≡ Some fault
    → label_count (records_before_fault kind records) ≡ fault.label
count_before kind [] fault at = absurd (cc (at))
count_before kind (Operate by op clock ∷ before) fault at =
    let records = Operate by op clock ∷ before in
    passed_over (fault_of kind records) fault records (records_before_fault kind before) at
    ∙ ⊎_elim
    (λ earlier. count_before kind before fault earlier)
    (λ here. ap label_count (all_before_fault kind before here.0) ∙ ap (λ f. f.label) here.3)
    (first_or (fault_at (label_count before)) (fault_of kind before) (cause_of kind records) fault at)
count_before kind (Deliver to label ∷ before) fault at =
    passed_over (fault_of kind before) fault (Deliver to label ∷ before) (records_before_fault kind before) at
    ∙ count_before kind before fault at
count_before kind (Join joined from ∷ before) fault at =
    passed_over (fault_of kind before) fault (Join joined from ∷ before) (records_before_fault kind before) at
    ∙ count_before kind before fault at
count_before kind (Verdict ∷ before) fault at =
    passed_over (fault_of kind before) fault (Verdict ∷ before) (records_before_fault kind before) at
    ∙ count_before kind before fault at

-- the records before a fault are a suffix of the list, and the longest one without a fault
pub before_fault-prefix : (kind : Kind) (records : Records)
    → (later : Records) × (records ≡ later ++ records_before_fault kind records)
before_fault-prefix kind [] = ([], refl)
before_fault-prefix kind (command ∷ before) =
    cond_both (is_none (fault_of kind (command ∷ before))) (command ∷ before) (records_before_fault kind before)
    (λ kept. (later : Records) × (command ∷ before ≡ later ++ kept))
    (λ none. ([], refl))
    (λ some. let rest = before_fault-prefix kind before in (command ∷ rest.0, ap (λ rs. command ∷ rs) rest.1))

pub before_fault-longest : (kind : Kind) (later before : Records) → fault_of kind before ≡ None
    → (more : Records) × (records_before_fault kind (later ++ before) ≡ more ++ before)
before_fault-longest kind [] before none = ([], all_before_fault kind before none)
before_fault-longest kind (command ∷ later) before none =
    cond_both (is_none (fault_of kind (command ∷ later ++ before))) (command ∷ later ++ before)
    (records_before_fault kind (later ++ before))
    (λ kept. (more : Records) × (kept ≡ more ++ before))
    (λ fine. (command ∷ later, refl))
    (λ some. before_fault-longest kind later before none)
