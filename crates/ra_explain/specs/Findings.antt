-- What is found of a violation.
use Rattle.std.specs.Prelude.{◌≡◌, List, None}
use Rattle.ra_monitor.specs.declared.setup.Setup.{Setup}
use Rattle.ra_monitor.specs.Monitor.{MonitorEntry}
use Rattle.ra_explain.specs.declared.findings.Findings.{Findings}
use Rattle.ra_explain.specs.declared.violation.Violation.{Violation}
use Rattle.ra_explain.specs.Conflicts.{HasConflict}
use Rattle.ra_explain.specs.Explanation.{AreNone, HoldWith}
use Rattle.ra_explain.specs.Opinions.{HasOpinion, KnowsList}
use Rattle.ra_explain.specs.PossibleAnswers.{HasPossible}

-- holds if these are the findings on the violation: the conflict, what another order explains, what the read can
-- return, whether it is one of a list, and the remedies
pub record AreFindings (setup : Setup) (log : List MonitorEntry) (v : Violation) (it : Findings) : Type 0 where
  pub conflict : HasConflict setup log v it.conflict
  pub second_opinion : HasOpinion setup log v.place it.second_opinion
  pub possible : HasPossible setup log v it.possible
  pub one_list : KnowsList setup log v.place it.second_opinion it.one_list
  pub remedies : HoldWith setup log v.place it.remedies

-- holds if nothing is found
pub record AreNoFindings (it : Findings) : Type 0 where
  pub conflict : it.conflict ≡ None
  pub second_opinion : it.second_opinion ≡ None
  pub possible : it.possible ≡ None
  pub one_list : it.one_list ≡ None
  pub remedies : AreNone it.remedies
