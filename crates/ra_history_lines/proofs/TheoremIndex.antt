-- Index of the theorems on lines, each under the name of the function whose clause it is; of two facts on options and
-- tests; and of three on names. Other crates use these names, and no other file of this directory.
pub use Rattle.ra_history_lines.proofs.Heads.{word_found as kind_word_read_iff-found, word_only as kind_word_read_iff-only}
pub use Rattle.ra_history_lines.proofs.Numbers.{number_read-Some as number_read_iff-found}
pub use Rattle.ra_history_lines.proofs.Numbers.{number_read-decimal as number_read_iff-only}
pub use Rattle.ra_history_lines.proofs.Heads.{head_found as first_line_read_iff-found, head_only as first_line_read_iff-only}
pub use Rattle.ra_history_lines.proofs.Heads.{names_read-Some as names_line_read_iff-found}
pub use Rattle.ra_history_lines.proofs.Heads.{names_read-listed as names_line_read_iff-only}
pub use Rattle.ra_history_lines.proofs.Heads.{names_read-none as names_line_read_iff-none}
pub use Rattle.ra_history_lines.proofs.Commands.{command_found as command_line_read_iff-found}
pub use Rattle.ra_history_lines.proofs.Commands.{command_only as command_line_read_iff-only}
-- the original of a mapped option's value, and the value that a test selects
pub use Rattle.ra_history_lines.proofs.Lists.{mapped}
pub use Rattle.ra_history_lines.proofs.Operations.{chosen}
-- the bytes of a name, its position among others, and that a name which may join is not among them
pub use Rattle.ra_history_lines.proofs.NewNames.{name_bytes}
pub use Rattle.ra_history_lines.proofs.NameLists.{place_within, not_bad}
