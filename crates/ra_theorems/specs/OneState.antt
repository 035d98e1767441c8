-- The kinds whose sequential specification has one state, so that no sequence of their labels fails.
use Rattle.std.specs.Prelude.{◌≡◌, ◌⊎◌, Contains}
use Rattle.ra_labels.specs.declared.kind.Kind.{Kind}
use Rattle.ra_labels.specs.declared.kind.Kind.TheVariants as kinds
use Rattle.ra_labels.specs.declared.label.Label.{Label}
use Rattle.ra_labels.specs.Records.{Records, labels_of}
use Rattle.ra_labels.specs.Answer.{kind_of}

-- holds of an object of any type and of a multi-value register
abbrev pub HasOneState : Kind → Type 0
HasOneState kind = (kind ≡ kinds.Any) ⊎ (kind ≡ kinds.MvRegister)

-- holds if each label is an operation of the kind
abbrev pub EachLabelIsOf : Kind → Records → Type 0
EachLabelIsOf kind records = (label : Label) → Contains (labels_of records) label → kind_of label.op ≡ kind
