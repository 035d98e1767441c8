-- Lemmas on the history after a command that is read.
use Rattle.std.proofs.Math.Seq.{drop-cons}
use Rattle.std.proofs.Common.{◌≡◌, ℕ, suc, ◌+◌, ◌<◌, drop, get_or, true, false, ◌∷◌, ◌++◌, [], List, Option, Some, None, length, refl, sym, ap, ◌∙◌, subst, length-append, arith}
use Rattle.std.specs.Prelude.{cond, is_some}
use Rattle.std.proofs.lemmas.Bool.{false≢true}
use Rattle.ra_labels.specs.declared.command.Command.{Command}
use Rattle.ra_labels.specs.declared.command.Command.TheVariants.{Deliver, Join}
use Rattle.ra_labels.specs.declared.refusal.Refusal.{Refusal}
use Rattle.ra_labels.specs.Answer.{refusal_of, with_accepted}
use Rattle.ra_labels.specs.HistorySoFar.{History, history_of, history_with, IsAccepted, NextOperation, operate}
use Rattle.ra_visibility.specs.Tracked.{IsVisibilityOf}
use Rattle.ra_monitor.specs.Monitor.{MonitorEntry}
use Rattle.ra_monitor.specs.UsedKeys.{AreUsedKeysOf}
use Rattle.ra_reported.specs.declared.reading.Reading.{Reading}
use Rattle.ra_reported.specs.Reported.{reported_after, operation_at}
use Rattle.ra_reported.specs.Reading.{IsReadingOf, IsOperationAt}
use Rattle.ra_reported.proofs.Listed.{listed_more}

module _ (past : History) (command : Command) where
  abbrev refusal : Option Refusal
  refusal = refusal_of past.kind past.initial_replicas past.records command

  abbrev with_it : History
  with_it = history_of past.kind past.initial_replicas (with_accepted past.records command)

  pub after_refused : (why : Refusal) → refusal ≡ Some why → reported_after past command ≡ past
  after_refused why is = ap (λ o. cond (is_some o) past with_it) is

  pub after_accepted : IsAccepted past command → reported_after past command ≡ with_it
  after_accepted is = ap (λ o. cond (is_some o) past with_it) is

-- a reading of the past before a command that is rejected, and of the past after it, are the same
pub reads_refused : (log : List MonitorEntry) (reading : Reading) (past : History) (command : Command) (why : Refusal)
    → refusal_of past.kind past.initial_replicas past.records command ≡ Some why → IsReadingOf log reading past
    → IsReadingOf log reading (reported_after past command)
reads_refused log reading past command why is reads =
    subst (IsReadingOf log reading) (sym (after_refused past command why is)) reads

pub reads_accepted : (log : List MonitorEntry) (reading : Reading) (past : History) (command : Command)
    → IsAccepted past command
    → IsReadingOf log reading (history_of past.kind past.initial_replicas (with_accepted past.records command))
    → IsReadingOf log reading (reported_after past command)
reads_accepted log reading past command is reads =
    subst (IsReadingOf log reading) (sym (after_accepted past command is)) reads

-- a label more
pub reads_more : (log : List MonitorEntry) (old new : Reading) (past : History) (next : NextOperation) (place : ℕ)
    → IsReadingOf log old past → IsOperationAt log place (operate next)
    → IsVisibilityOf new.tracker.now (history_with past (operate next))
    → AreUsedKeysOf (operate next ∷ past.records) new.taken
    → new.places.items ≡ old.places.items ++ place ∷ []
    → IsReadingOf log new (history_with past (operate next))
reads_more log old new past next place reads there tracker taken places = record {
  tracker = tracker;
  taken = taken;
  count = ap length places ∙ length-append old.places.items (place ∷ []) ∙ ap (λ k. k + 1) reads.count;
  listed = λ n. ap (λ ps. operation_at log ps n) places
      ∙ (listed_more log old.places.items past.records next place reads.count there reads.listed n);
}

-- a delivery or a join is no label, and has no stamp or identifier
pub reads_delivered : (log : List MonitorEntry) (old new : Reading) (past : History) (to label : ℕ)
    → IsReadingOf log old past → IsVisibilityOf new.tracker.now (history_with past (Deliver to label))
    → new.taken ≡ old.taken → new.places ≡ old.places
    → IsReadingOf log new (history_with past (Deliver to label))
reads_delivered log old new past to label reads tracker taken places = record {
  tracker = tracker;
  taken = record { stamps = rw taken reads.taken.stamps; identifiers = rw taken reads.taken.identifiers };
  count = rw places reads.count;
  listed = rw places reads.listed;
}

pub reads_joined : (log : List MonitorEntry) (old new : Reading) (past : History) (joined from : ℕ)
    → IsReadingOf log old past → IsVisibilityOf new.tracker.now (history_with past (Join joined from))
    → AreUsedKeysOf past.records new.taken → new.places ≡ old.places
    → IsReadingOf log new (history_with past (Join joined from))
reads_joined log old new past joined from reads tracker taken places = record {
  tracker = tracker;
  taken = record { stamps = taken.stamps; identifiers = taken.identifiers };
  count = rw places reads.count;
  listed = rw places reads.listed;
}

-- the kind stays
kind_with : (refusal : Option Refusal) (past accepted : History) → accepted.kind ≡ past.kind
    → (cond (is_some refusal) past accepted).kind ≡ past.kind
kind_with None past accepted same = same
kind_with (Some why) past accepted same = refl

pub kind_kept : (past : History) (command : Command) → (reported_after past command).kind ≡ past.kind
kind_kept past command =
    kind_with (refusal_of past.kind past.initial_replicas past.records command) past
    (history_of past.kind past.initial_replicas (with_accepted past.records command)) refl

pub some_refusal : (refusal : Option Refusal) → is_some refusal ≡ true → (why : Refusal) × (refusal ≡ Some why)
some_refusal (Some why) is = (why, refl)
some_refusal None is = absurd (false≢true is)

pub no_refusal : (refusal : Option Refusal) → is_some refusal ≡ false → refusal ≡ None
no_refusal None is = refl
no_refusal (Some why) is = absurd (false≢true (sym is))

-- the entries that are left to read
pub drop_read : (log : List MonitorEntry) (at : ℕ) (entry : MonitorEntry) → at < length log
    → drop at log ≡ get_or log at entry ∷ drop (at + 1) log
drop_read log at entry within =
    let more : suc at ≡ at + 1 = omega arith in
    drop-cons log at entry within ∙ ap (λ n. get_or log at entry ∷ drop n log) more
