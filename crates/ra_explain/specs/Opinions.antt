-- Whether another order explains a violation.
use Rattle.std.specs.Prelude.{◌≡◌, ℕ, ◌+◌, Bool, true, false, not, ◌&&◌, List, Option, Some, None, is_some, IfSome}
use Rattle.ra_labels.specs.declared.kind.Kind.{Kind}
use Rattle.ra_labels.specs.declared.kind.Kind.TheVariants as kinds
use Rattle.ra_theorems.specs.AnyOrder.{is_of_any_order}
use Rattle.ra_monitor.specs.declared.setup.Setup.{Setup}
use Rattle.ra_monitor.specs.Monitor.{MonitorEntry}
use Rattle.ra_another_order.specs.declared.opinion.SecondOpinion.{SecondOpinion}
use Rattle.ra_another_order.specs.declared.answer.Answer.{Answer}
use Rattle.ra_another_order.specs.declared.answer.Answer.TheVariants.{NoneExists}
use Rattle.ra_another_order.specs.declared.answer.Reason.TheVariants.{Rga as OfRga}
use Rattle.ra_another_order.specs.Answers.{exists}
use Rattle.ra_another_order.specs.Opinions.{IsOpinion}
use Rattle.ra_rga_precedence.specs.declared.answer.Refutation.TheVariants.{Wrong, Unlisted}
use Rattle.ra_explain.specs.OneList.{is_one_list}

-- Holds if there is an opinion exactly if the kind has one order of several. It is that about the labels up to this
-- place of the log, and about all labels that the log reports.
pub record HasOpinion (setup : Setup) (log : List MonitorEntry) (place : ℕ) (found : Option SecondOpinion) : Type 0
  where
    pub asked : is_some found ≡ not (is_of_any_order setup.kind)
    pub opinion : IfSome found (IsOpinion setup.kind setup.replicas log (place + 1))

-- `true` if the violation is one of an RGA that no order explains
abbrev pub asks_list : Kind → Option SecondOpinion → Bool
asks_list kinds.Rga (Some opinion) = not (exists opinion.answer)
asks_list kind opinion = false

-- `false` if a read lists wrong elements
abbrev pub can_be_one_list : Answer → Bool
can_be_one_list (NoneExists (OfRga (Wrong read element))) = false
can_be_one_list (NoneExists (OfRga (Unlisted read label))) = false
can_be_one_list answer = true

-- `true` if such labels can be those of one list, by the opinion
abbrev pub may_be_one_list : Option SecondOpinion → Bool
may_be_one_list (Some opinion) = can_be_one_list opinion.answer
may_be_one_list None = true

-- Holds if it is known exactly of such a violation whether the labels hold as those of a list: `false` if a read lists
-- wrong elements, and otherwise what a list's monitor says.
pub record KnowsList (setup : Setup) (log : List MonitorEntry) (place : ℕ) (opinion : Option SecondOpinion)
    (found : Option Bool) : Type 0 where
  pub asked : is_some found ≡ asks_list setup.kind opinion
  pub one : IfSome found (λ one. one ≡ (may_be_one_list opinion && is_one_list setup log place))
