-- A second opinion: the answer about the labels up to an end, and the longest explained prefix.
use Rattle.std.specs.Prelude.{ℕ, List}
use Rattle.ra_labels.specs.declared.kind.Kind.{Kind}
use Rattle.ra_monitor.specs.Monitor.{MonitorEntry}
use Rattle.ra_another_order.specs.declared.opinion.SecondOpinion.{SecondOpinion}
use Rattle.ra_another_order.specs.Answers.{IsAnswer}
use Rattle.ra_another_order.specs.Extent.{records_at, HasExtent}

-- holds if the answer is that about the labels that the first entries report, and the extent that of all labels
pub record IsOpinion (kind : Kind) (replicas : ℕ) (log : List MonitorEntry) (end : ℕ) (it : SecondOpinion) : Type 0
  where
    pub answer : IsAnswer kind (records_at kind replicas log end) it.answer
    pub extent : HasExtent kind replicas log it.extent
