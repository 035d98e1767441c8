use Rattle.std.proofs.Common.{rules}
use Rattle.ra_visibility.proofs.tracked.Tracked.refusal.Goals as goal

pub returns-in-Some-first_missing : goal.returns-in-Some-first_missing
returns-in-Some-first_missing c = search rules
