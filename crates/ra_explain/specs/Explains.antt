-- Whether an explanation is that of a log.
use Rattle.std.specs.Prelude.{◌≡◌, List, None, MatchOption}
use Rattle.ra_labels.specs.Records.{replica_count}
use Rattle.ra_monitor.specs.declared.setup.Setup.{Setup}
use Rattle.ra_monitor.specs.Monitor.{MonitorEntry, records_of, fault_in, IsLegalLog}
use Rattle.ra_explain.specs.declared.explanation.Explanation.{Explanation}
use Rattle.ra_explain.specs.declared.explanation.Purpose.{Purpose}
use Rattle.ra_explain.specs.Explanation.{AreNone, HoldWith, IsFound, IsReport, undelivered_for}
use Rattle.ra_explain.specs.Conflicts.{HasConflict}
use Rattle.ra_explain.specs.Opinions.{HasOpinion, KnowsList}
use Rattle.ra_explain.specs.Places.{places_in}
use Rattle.ra_explain.specs.Rejected.{first_rejected}

-- Holds if each fact of the explanation is that of the log: the facts that the clauses of `Explanation::of` state one
-- by one.
pub record Explains (setup : Setup) (log : List MonitorEntry) (purpose : Purpose) (e : Explanation) : Type 0 where
  pub same_setup : e.setup ≡ setup
  pub entries : e.log.items ≡ log
  pub legal : IsLegalLog setup e.log.items
  pub report : IsReport setup log e.report
  pub places : e.places ≡ places_in log
  pub replicas : e.replicas ≡ replica_count setup.replicas (records_of setup log)
  pub undelivered : e.undelivered.items ≡ undelivered_for setup log purpose (fault_in setup log)
  pub rejected : e.rejected.items ≡ first_rejected log
  pub violation : MatchOption e.violation (fault_in setup log ≡ None) (λ v. IsFound setup log purpose v)
  pub conflict : MatchOption e.violation (e.conflict ≡ None) (λ v. HasConflict setup log v e.conflict)
  pub second_opinion : MatchOption e.violation (e.second_opinion ≡ None)
      (λ v. HasOpinion setup log v.place e.second_opinion)
  pub one_list : MatchOption e.violation (e.one_list ≡ None)
      (λ v. KnowsList setup log v.place e.second_opinion e.one_list)
  pub remedies : MatchOption e.violation (AreNone e.remedies) (λ v. HoldWith setup log v.place e.remedies)
