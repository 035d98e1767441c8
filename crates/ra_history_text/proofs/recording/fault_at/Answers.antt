use Rattle.std.proofs.Common.{refl}
use Rattle.ra_history_text.proofs.recording.fault_at.Goals as goal

pub returns-in-Full : goal.returns-in-Full
returns-in-Full c = rw c.in-Full.is refl
