-- The question whether some sequence explains the records, and the kinds for which conditions on the updates decide it.
use Rattle.std.specs.Prelude.{◌≡◌, ℕ, Bool, true, false, is_some, List, map, filter, Contains}
use Rattle.ra_labels.specs.declared.kind.Kind.{Kind}
use Rattle.ra_labels.specs.declared.kind.Kind.TheVariants.{Register, LwwSet, OrSet}
use Rattle.ra_labels.specs.declared.kind.Kind.TheVariants as kinds
use Rattle.ra_labels.specs.declared.label.Label.{Label}
use Rattle.ra_labels.specs.Records.{Records, labels_of}
use Rattle.ra_labels.specs.Answer.{kind_of}
use Rattle.ra_labels.specs.Rewriting.{Part, update_of}
use Rattle.ra_labels.specs.Linearization.{IsRaLinearization}

-- holds if some sequence is an RA-linearization of the records
abbrev pub SomeOrderExplains : Kind → Records → Type 0
SomeOrderExplains kind records = (sequence : List Part) × IsRaLinearization kind records sequence

-- holds if the operation of each label is of the kind
abbrev pub EachLabelIsOfKind : Kind → Records → Type 0
EachLabelIsOfKind kind records = (label : Label) → Contains (labels_of records) label → kind_of label.op ≡ kind

-- `true` if the conditions of the updates and the plain conditions decide whether some sequence explains the records
abbrev pub is_decided_by_conditions : Kind → Bool
is_decided_by_conditions Register = true
is_decided_by_conditions LwwSet = true
is_decided_by_conditions _ = false

-- `true` if each operation of the kind is one part: no operation of it is a query and an update at once
abbrev pub has_whole_labels : Kind → Bool
has_whole_labels OrSet = false
has_whole_labels kinds.List = false
has_whole_labels _ = true

-- the numbers of the labels of the updates, in the sequence's order
abbrev pub update_order : List Part → List ℕ
update_order sequence = map (λ p. p.label.number) (filter (λ p. is_some (update_of p.act)) sequence)
