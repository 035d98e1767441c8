-- An order of the elements that explains the labels of a list.
use Rattle.std.specs.Prelude.{◌↔◌, ℕ, List, Contains}
use Rattle.ra_labels.specs.Edges.{EachOnce, Extends}
use Rattle.ra_labels.specs.ListHistory.{inserted_elements, required_edges}
use Rattle.ra_labels.specs.Records.{Records}

-- holds if the order has exactly the inserted elements, each once, and extends the edges that the labels require
pub record Explains (order : List ℕ) (records : Records) : Type 0 where
  pub once : EachOnce order
  pub whole : (x : ℕ) → Contains order x ↔ Contains (inserted_elements records) x
  pub extends : Extends order (required_edges records)
