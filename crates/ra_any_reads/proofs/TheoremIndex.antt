-- Index of the theorems, each under the name of the function whose clause it is. Other crates use these names, and no
-- other file of this directory.
pub use Rattle.ra_any_reads.proofs.EqualCounts.{same_exactly as same_counts_iff_each_count_same}
pub use Rattle.ra_any_reads.proofs.Entries.{first-same as first_read_by_counts}
