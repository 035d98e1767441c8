-- Lemmas on the fault of a log: its records end with the label of the fault.
use Rattle.std.proofs.Common.{◌≡◌, ℕ, ◌+◌, ◌<◌, ◌≤◌, Bool, true, false, List, [], ◌∷◌, inl, inr, length, Option, Some, None, refl, sym, ap, ◌∙◌, arith}
use Rattle.std.specs.Prelude.{◌==◌, ◌&&◌, ◌||◌, is_some, is_none, option_map}
use Rattle.std.specs.Option.{option_or}
use Rattle.std.proofs.lemmas.Bool.{cond-false, ne_eqb, cases_Bool, or_parts}
use Rattle.std.proofs.lemmas.List.{length-map}
use Rattle.ra_labels.specs.declared.kind.Kind.{Kind}
use Rattle.ra_labels.specs.declared.command.Command.{Command}
use Rattle.ra_labels.specs.declared.command.Command.TheVariants.{Operate, Verdict}
use Rattle.ra_labels.specs.declared.reply.Cause.{Cause}
use Rattle.ra_labels.specs.declared.reply.Fault.{Fault}
use Rattle.ra_labels.specs.Records.{Records, label_count}
use Rattle.ra_labels.specs.Visibility.{has_delivered, is_update}
use Rattle.ra_labels.specs.Fault.{fault_of, fault_at, cause_of, records_before_fault}
use Rattle.ra_labels.specs.Answer.{refusal_of, records_after, records_after_all, with_accepted}
use Rattle.ra_labels.specs.HistorySoFar.{NextOperation, next_operation, operate}
use Rattle.ra_theorems.proofs.TheoremIndex.{records_before_fault_have_none-all}
use Rattle.ra_seqspec.specs.declared.TheConstants.{FARTHEST_COUNT}
use Rattle.ra_monitor.specs.Limits.{IsLimit}
use Rattle.ra_monitor.specs.declared.setup.Setup.{Setup}
use Rattle.ra_monitor.specs.Monitor.{MonitorEntry, records_of, commands_of}

-- there was no fault before the newest record
abbrev IsSoundBefore : Kind → Records → Type 0
IsSoundBefore kind [] = Unit {0}
IsSoundBefore kind (c ∷ before) = fault_of kind before ≡ None

pub none_is : {A : Type 0} (o : Option A) → is_some o ≡ false → o ≡ None
none_is None is = refl
none_is (Some x) is = absurd (cc is)

with_one : (kind : Kind) (records : Records) (c : Command) → IsSoundBefore kind records → fault_of kind records ≡ None
    → IsSoundBefore kind (with_accepted records c)
with_one kind records Verdict sound none = sound
with_one kind records _ sound none = none

-- a property that holds of the unchanged records, and of those with an accepted command before any fault, holds after
-- each command
after_cases : (kind : Kind) (n : ℕ) (records : Records) (c : Command) (P : Records → Type 0) → P records
    → (fault_of kind records ≡ None → P (with_accepted records c)) → P (records_after kind n records c)
after_cases kind n records c P stay accepted =
    elim (cases_Bool (is_some (fault_of kind records) || is_some (refusal_of kind n records c))) [
      | inl is ↦ rw is stay
      | inr is ↦ rw is (accepted (none_is (fault_of kind records)
          (or_parts (is_some (fault_of kind records)) (is_some (refusal_of kind n records c)) is).0))
    ]

after_one : (kind : Kind) (n : ℕ) (records : Records) (c : Command) → IsSoundBefore kind records
    → IsSoundBefore kind (records_after kind n records c)
after_one kind n records c sound =
    after_cases kind n records c (IsSoundBefore kind) sound (λ none. with_one kind records c sound none)

after_all : (kind : Kind) (n : ℕ) (records : Records) (cs : List Command) → IsSoundBefore kind records
    → IsSoundBefore kind (records_after_all kind n records cs)
after_all kind n records [] sound = sound
after_all kind n records (c ∷ cs) sound =
    after_all kind n (records_after kind n records c) cs (after_one kind n records c sound)

-- the records end with the fault's label
pub record EndsAtFault (kind : Kind) (records : Records) (fault : Fault) (before : Records) (last : NextOperation) : Type 0 where
  pub records_are : records ≡ operate last ∷ before
  pub label : fault.label ≡ label_count before
  pub sound : fault_of kind before ≡ None
  pub before_is : records_before_fault kind records ≡ before

abbrev pub Ends : Kind → Records → Fault → Type 0
Ends kind records fault = (before : Records) × (last : NextOperation) × EndsAtFault kind records fault before last

label_is : (n : ℕ) (why : Option Cause) (fault : Fault) → option_map (fault_at n) why ≡ Some fault → fault.label ≡ n
label_is n None fault is = absurd (cc is)
label_is n (Some why) fault is = let same : fault_at n why ≡ fault = cc is in sym (ap (λ (f : Fault). f.label) same)

ends : (kind : Kind) (records : Records) (fault : Fault) → IsSoundBefore kind records
    → fault_of kind records ≡ Some fault → Ends kind records fault
ends kind [] fault sound is = absurd (cc is)
ends kind (Operate by op clock ∷ before) fault sound is =
    let records : Records = Operate by op clock ∷ before in
    let newest = option_map (fault_at (label_count before)) (cause_of kind records) in
    let led : newest ≡ Some fault = sym (ap (λ (o : Option Fault). option_or o newest) sound) ∙ is in
    let fails : is_none (fault_of kind records) ≡ false = ap is_none is in (
      before,
      next_operation by op clock,
      record {
        records_are = refl;
        label = label_is (label_count before) (cause_of kind records) fault led;
        sound = sound;
        before_is = cond-false (is_none (fault_of kind records)) records (records_before_fault kind before) fails
            ∙ records_before_fault_have_none-all kind before sound;
      },
    )
ends kind (_ ∷ before) fault sound is = absurd (cc (sym sound ∙ is))

pub log_ends : (setup : Setup) (log : List MonitorEntry) (fault : Fault)
    → fault_of setup.kind (records_of setup log) ≡ Some fault → Ends setup.kind (records_of setup log) fault
log_ends setup log fault is =
    ends setup.kind (records_of setup log) fault (after_all setup.kind setup.replicas [] (commands_of log) tt) is

-- a label before the fault was delivered to the replica by then exactly if it is delivered now
or_false : (a b c : Bool) (h : Bool) → b ≡ false → ((a && b && c) || h) ≡ h
or_false true b c h is = ap (λ t. (t && c) || h) is
or_false false b c h is = refl

pub had_before : (setup : Setup) (log : List MonitorEntry) (replica n : ℕ) (o : Option Fault)
    → fault_of setup.kind (records_of setup log) ≡ o
    → n < label_count (records_before_fault setup.kind (records_of setup log))
    → has_delivered (records_of setup log) replica n ≡ has_delivered (records_before_fault setup.kind (records_of setup log)) replica n
had_before setup log replica n None is below =
    ap (λ (rs : Records). has_delivered rs replica n)
    (sym (records_before_fault_have_none-all setup.kind (records_of setup log) is))
had_before setup log replica n (Some fault) is below =
    let (before, last, at) = log_ends setup log fault is in
    let other : n ≡ label_count before → ⊥ = λ same.
    absurd (omega (arith, below, ap label_count at.before_is, same)) in
    ap (λ (rs : Records). has_delivered rs replica n) at.records_are
    ∙ or_false (last.by == replica) (n == label_count before) (is_update last.op) (has_delivered before replica n)
    (ne_eqb n (label_count before) other)
    ∙ ap (λ (rs : Records). has_delivered rs replica n) (sym at.before_is)

-- ---- there are at most as many labels as entries

few_one : (kind : Kind) (n : ℕ) (records : Records) (c : Command)
    → label_count (records_after kind n records c) ≤ label_count records + 1
few_one kind n records c = after_cases kind n records c (λ rs. label_count rs ≤ label_count records + 1) (omega arith)
    (λ none. few_more c)
  where
    few_more : (c : Command) → label_count (with_accepted records c) ≤ label_count records + 1
    few_more Verdict = omega arith
    few_more _ = omega arith

few_all : (kind : Kind) (n : ℕ) (records : Records) (cs : List Command)
    → label_count (records_after_all kind n records cs) ≤ label_count records + length cs
few_all kind n records [] = omega arith
few_all kind n records (c ∷ cs) =
    omega (arith, few_all kind n (records_after kind n records c) cs, few_one kind n records c)

pub few_labels : (setup : Setup) (log : List MonitorEntry) → label_count (records_of setup log) ≤ length log
few_labels setup log =
    let same = length-map log (λ (e : MonitorEntry). e.command) in
    omega (arith, few_all setup.kind setup.replicas [] (commands_of log), same)

-- and at most as many before the fault
pub few_before : (setup : Setup) (log : List MonitorEntry) (o : Option Fault)
    → fault_of setup.kind (records_of setup log) ≡ o
    → label_count (records_before_fault setup.kind (records_of setup log)) ≤ label_count (records_of setup log)
few_before setup log None is =
    omega (arith, ap label_count (records_before_fault_have_none-all setup.kind (records_of setup log) is))
few_before setup log (Some fault) is =
    let (before, last, at) = log_ends setup log fault is in
    omega (arith, ap label_count at.before_is, ap label_count at.records_are)

-- so their number is small enough for a state
pub few_enough : (setup : Setup) (log : List MonitorEntry) → length log ≤ setup.limit → IsLimit setup.limit
    → label_count (records_before_fault setup.kind (records_of setup log)) ≤ FARTHEST_COUNT
few_enough setup log within limit =
    let few = few_before setup log (fault_of setup.kind (records_of setup log)) refl in
    omega (arith, few_labels setup log, few, within, limit.1)
