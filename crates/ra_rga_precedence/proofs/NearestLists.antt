-- Lemmas on what is known of the nearest list, if there is one.
use Rattle.std.proofs.Common.{◌≡◌, ℕ, Option, Some, None, refl}
use Rattle.std.specs.Prelude.{IfSome}
use Rattle.ra_labels.specs.declared.operation.Op.{Op}
use Rattle.ra_labels.specs.declared.operation.Op.TheVariants as op
use Rattle.ra_labels.specs.Visibility.{is_update}
use Rattle.ra_labels.specs.HistorySoFar.{History, NextOperation, history_with, operate, next_operation}
use Rattle.ra_visibility.specs.Tracked.{Tracked, IsVisibilityOf}
use Rattle.std.proofs.Common.{List, false}
use Rattle.ra_rga_precedence.specs.Nearest.{IsPastOfRead}
use Rattle.ra_rga_precedence.specs.Situation.{IsHistoryOf}

pub if_some : {A : Type 0} (o : Option A) (P Q : A → Type 0) → ((x : A) → P x → Q x) → IfSome o P → IfSome o Q
if_some None P Q weaker holds = holds
if_some (Some x) P Q weaker holds = weaker x holds

-- once the read is issued, the tracker represents the past with it
pub past_of_read : (old new : Tracked) (operations : List Op) (replica : ℕ)
    → ((past : History) (next : NextOperation) → IsVisibilityOf old past → next.by ≡ replica
    → is_update next.op ≡ false → IsVisibilityOf new (history_with past (operate next)))
    → (past : History) → IsHistoryOf old operations past → IsPastOfRead new operations past replica
past_of_read old new operations replica issued past stands = record {
  visibility = λ list. issued past (next_operation replica (op.RgaRead list) None) stands.visibility refl refl;
  listed = stands.listed;
  kind = stands.kind;
  of_kind = stands.of_kind;
}
