-- A chunk, as contracts describe it.
use Rattle.std.specs.Prelude.{ℕ, List}
use Rattle.ra_time_order.specs.declared.entry.Entry.{Entry}

pub record Chunk : Type 0 where
  pub entries : List Entry
  -- the number of further entries that there is room for
  pub room : ℕ
