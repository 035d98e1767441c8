use Rattle.std.proofs.Common.{rules, nat_lt}
use Rattle.std.proofs.lemmas.Fn.{always_returns_same}
use Rattle.ra_labels.proofs.RisingLists.{rises_answered}
use Rattle.ra_labels.proofs.refusal.rises.Goals as goal

pub returns : goal.returns
returns c =
    rises_answered _ _ (c.is_sorted_by.ensures.cases nat_lt (always_returns_same _ _ _ (λ a r f' called. search rules)))
