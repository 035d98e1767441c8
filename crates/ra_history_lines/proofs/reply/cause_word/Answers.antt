use Rattle.std.proofs.Common.{rules}
use Rattle.ra_history_lines.proofs.reply.cause_word.Goals as goal

pub returns-in-Update : goal.returns-in-Update
returns-in-Update c = search rules steps 100000
