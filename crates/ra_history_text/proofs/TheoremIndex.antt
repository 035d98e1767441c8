-- Index of the theorems on a text, each under the name of the function whose clause it is, and of the one that commands
-- do not reduce the number of replicas. Other crates use these names, and no other file of this directory.
pub use Rattle.ra_history_text.proofs.Texts.{says_found as regular_text_iff_lines-found}
pub use Rattle.ra_history_text.proofs.Texts.{says_only as regular_text_iff_lines-only}
pub use Rattle.ra_history_text.proofs.Texts.{regular_history as regular_text_says_history}
pub use Rattle.ra_history_text.proofs.StoppedBytes.{syntax_found as syntax_iff_line_spells_nothing-found}
pub use Rattle.ra_history_text.proofs.Endings.{syntax_only as syntax_iff_line_spells_nothing-only}
pub use Rattle.ra_history_text.proofs.StoppedBytes.{truncated_found as truncated_iff_ends_early-found}
pub use Rattle.ra_history_text.proofs.Endings.{truncated_only as truncated_iff_ends_early-only}
pub use Rattle.ra_history_text.proofs.StoppedBytes.{long_found as too_long_iff_line_exceeds_limit-found}
pub use Rattle.ra_history_text.proofs.Endings.{long_only as too_long_iff_line_exceeds_limit-only}
pub use Rattle.ra_history_text.proofs.StoppedBytes.{full_found as full_iff_too_many_commands-found}
pub use Rattle.ra_history_text.proofs.Endings.{full_only as full_iff_too_many_commands-only}
pub use Rattle.ra_history_text.proofs.Prefixes.{front_begins as prefix_output_is_prefix}
pub use Rattle.ra_history_text.proofs.Prefixes.{each_is_answered as lines_read_are_answered}
pub use Rattle.ra_history_text.proofs.Prefixes.{unwritten as stopped_output_is_proper_prefix}
pub use Rattle.ra_history_text.proofs.Prefixes.{whole_lines as no_memory_leaves_whole_lines}
pub use Rattle.ra_history_text.proofs.Histories.{counts_grow}
