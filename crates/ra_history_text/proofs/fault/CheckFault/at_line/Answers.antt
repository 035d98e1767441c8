use Rattle.std.proofs.Common.{refl}
use Rattle.ra_history_text.proofs.fault.CheckFault.at_line.Goals as goal

pub returns-in-Syntax : goal.returns-in-Syntax
returns-in-Syntax c = rw c.in-Syntax.is refl

pub returns-in-NoMemory : goal.returns-in-NoMemory
returns-in-NoMemory c = rw c.in-NoMemory.is refl
