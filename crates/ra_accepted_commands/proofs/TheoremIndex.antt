-- Index of the theorem on accepted commands, under the name of the function whose clause it is, and of the records of a
-- log with one more entry. Other crates use these names, and no other file of this directory.
pub use Rattle.ra_accepted_commands.proofs.AcceptedCommands.{in_order as accepted_commands_eq_records, records_push}
