-- Index of the theorems on what is written, each under the name of the function whose clause it is. Other crates use
-- these names, and no other file of this directory.
pub use Rattle.ra_history_writer.proofs.SpelledLines.{line_spells as written_line_spells_command}
pub use Rattle.ra_history_writer.proofs.WrittenLines.{written-says as written_text_says_history}
pub use Rattle.ra_history_writer.proofs.GivenAgain.{spelled as accepted_command_has_line}
pub use Rattle.ra_history_writer.proofs.GivenAgain.{records_again as records_replay_accepted}
