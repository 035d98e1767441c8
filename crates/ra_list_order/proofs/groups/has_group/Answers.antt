use Rattle.std.proofs.Common.{is_some, ap, ◌∙◌}
use Rattle.ra_list_order.specs.Chunks.{group_of_number}
use Rattle.ra_list_order.proofs.GroupNumbers.{number_tells}
use Rattle.ra_list_order.proofs.groups.has_group.Goals as goal

pub returns : goal.returns
returns c = number_tells c.number_at.result ∙ ap (λ n. is_some (group_of_number n)) c.number_at.ensures
