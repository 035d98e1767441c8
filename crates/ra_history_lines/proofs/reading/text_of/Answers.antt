use Rattle.ra_history_lines.proofs.NewNames.{name_is_text}
use Rattle.ra_history_lines.proofs.reading.text_of.Goals as goal

pub unwrap-text-requires : goal.unwrap-text-requires
unwrap-text-requires c = name_is_text _ c.args.name.now c.from_utf8.result c.requires c.from_utf8.ensures.cases
