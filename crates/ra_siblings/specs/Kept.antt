-- What is kept of a multi-value register, as contracts describe it.
use Rattle.std.specs.Prelude.{ℕ, List, [], Option, None, get_or, filter_map}
use Rattle.ra_siblings.specs.declared.issued.Issued.{Issued}

pub record Kept : Type 0 where
  -- what each label wrote and replaced, by its number
  pub labels : List Issued
  -- the siblings of each replica
  pub replicas : List (List ℕ)

-- what a label wrote, if it is a write, and the labels that it replaced
abbrev pub issued_as : Option ℕ → List ℕ → Issued
issued_as value replaced = record { value = value; replaced = replaced }

-- the siblings of the replica
abbrev pub siblings_of : Kept → ℕ → List ℕ
siblings_of kept replica = get_or kept.replicas replica []

-- what the label wrote and replaced
abbrev pub issued_at : Kept → ℕ → Issued
issued_at kept label = get_or kept.labels label (issued_as None [])

-- the value that the label wrote, if it is a write
abbrev pub value_at : Kept → ℕ → Option ℕ
value_at kept label = (issued_at kept label).value

-- the values that the labels wrote, in the order of the list
abbrev pub values_of : Kept → List ℕ → List ℕ
values_of kept labels = filter_map (value_at kept) labels
