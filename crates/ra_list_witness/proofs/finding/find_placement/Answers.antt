use Rattle.std.proofs.Common.{sym, subst}
use Rattle.std.specs.Result.{result_err}
use Rattle.std.proofs.lemmas.Bool.{iff_false}
use Rattle.ra_list_witness.specs.Causes.{IsCauseOfInsertion}
use Rattle.ra_list_witness.proofs.InsertionCauses.{insertion_cause}
use Rattle.ra_list_witness.proofs.finding.find_placement.Goals as goal

pub returns-in-Err-clause-cause : goal.returns-in-Err-clause-cause
returns-in-Err-clause-cause c =
    subst (IsCauseOfInsertion c.args.numbers.now c.args.view.now.marks c.args.insertion) (sym c.in-Err.ensures.cause)
    (insertion_cause c.args.numbers.now c.args.view.now.marks c.args.insertion (result_err c.find_neighbor-left.result)
    (result_err c.find_neighbor-right.result) c.if-insertion-eq0.false (iff_false c.contains.ensures c.if-contains.false)
    c.find_neighbor-left.ensures.cause c.find_neighbor-right.ensures.cause)

pub returns-in-Ok-clause-cause : goal.returns-in-Ok-clause-cause
returns-in-Ok-clause-cause c =
    subst (IsCauseOfInsertion c.args.numbers.now c.args.view.now.marks c.args.insertion) (sym c.in-Ok.ensures.cause)
    (insertion_cause c.args.numbers.now c.args.view.now.marks c.args.insertion (result_err c.find_neighbor-left.result)
    (result_err c.find_neighbor-right.result) c.if-insertion-eq0.false (iff_false c.contains.ensures c.if-contains.false)
    c.find_neighbor-left.ensures.cause c.find_neighbor-right.ensures.cause)
