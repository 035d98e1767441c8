use Rattle.ra_witness.proofs.KeptLists.{none_done}
use Rattle.ra_list_effects.specs.Past.{empty_past}
use Rattle.ra_witness.proofs.kept_list.KeptList.new.Goals as goal

pub returns : goal.returns
returns c = record { past = empty_past c.args.replicas; stands = c.in_ok-new.ensures; is = none_done c.args.replicas }
