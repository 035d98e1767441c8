use Rattle.ra_history_lines.proofs.Formats.{alike-others, alike-joins, alike-names}
use Rattle.ra_history_lines.proofs.theorems.rah1_is_rah2_without_joins.Goals as goal

pub returns-clause-others : goal.returns-clause-others
returns-clause-others c = alike-others

pub returns-clause-joins : goal.returns-clause-joins
returns-clause-joins c = alike-joins

pub returns-clause-names : goal.returns-clause-names
returns-clause-names c = alike-names
