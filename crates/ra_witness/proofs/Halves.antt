-- Lemmas on which labels are rewritten into halves: only those of an OR-Set or a list.
use Rattle.std.proofs.Common.{◌≡◌, ℕ, zero, suc, false, List, [], ◌∷◌, map, reverse, Some, refl, sym, ◌∙◌}
use Rattle.std.specs.Prelude.{Contains}
use Rattle.std.specs.List.{slice_get}
use Rattle.std.proofs.lemmas.List.Sorted.{Contains-permutation, IsPermutation-sym, IsPermutation-reverse}
use Rattle.ra_labels.specs.declared.kind.Kind.{Kind}
use Rattle.ra_labels.specs.declared.kind.Kind.TheVariants.{OrSet}
use Rattle.ra_labels.specs.declared.kind.Kind.TheVariants as kinds
use Rattle.ra_labels.specs.declared.operation.Op.{Op}
use Rattle.ra_labels.specs.declared.operation.Op.TheVariants as op
use Rattle.ra_labels.specs.declared.label.Label.{Label}
use Rattle.ra_labels.specs.Records.{Records, labels_of}
use Rattle.ra_labels.specs.Answer.{kind_of}
use Rattle.ra_labels.specs.TheoremTerms.{EachLabelIsWellFormed}
use Rattle.ra_labels.proofs.Members.{at_head, behind_head}
use Rattle.ra_witness.specs.Sequence.{has_query_half}
use Rattle.ra_witness.specs.Labels.{update_in, updates_by_number}

no_half : (operation : Op) → ¬ (kind_of operation ≡ OrSet) → ¬ (kind_of operation ≡ kinds.List)
    → has_query_half (Some (update_in operation)) ≡ false
no_half (op.OrRemove x ids) other nor = absurd (other refl)
no_half (op.List operation) other nor = absurd (nor refl)
no_half _ other nor = refl

none_half : (ls : List Label) (n : ℕ) → ((l : Label) → Contains ls l → ¬ (kind_of l.op ≡ OrSet))
    → ((l : Label) → Contains ls l → ¬ (kind_of l.op ≡ kinds.List)) → has_query_half (slice_get (map (λ (l : Label). update_in l.op) ls) n) ≡ false
none_half [] n other nor = refl
none_half (l ∷ ls) zero other nor = no_half l.op (other l (at_head l ls l refl)) (nor l (at_head l ls l refl))
none_half (l ∷ ls) (suc n) other nor =
    none_half ls n (λ m there. other m (behind_head l ls m there)) (λ m there. nor m (behind_head l ls m there))

-- labels of another kind have no halves
pub none_has_halves : (kind : Kind) (initial_replicas : ℕ) (records : Records) (n : ℕ) → ¬ (kind ≡ OrSet)
    → ¬ (kind ≡ kinds.List) → EachLabelIsWellFormed kind initial_replicas records
    → has_query_half (slice_get (updates_by_number records) n) ≡ false
none_has_halves kind initial_replicas records n other nor fits =
    let labels = labels_of records in
    let of_kind = λ (l : Label) (there : Contains (reverse labels) l).
    (fits l (Contains-permutation (reverse labels) labels l (IsPermutation-sym labels (reverse labels) (IsPermutation-reverse labels)) there)).of_kind in
    none_half (reverse labels) n (λ l there is. other (sym (of_kind l there) ∙ is)) (λ l there is. nor (sym (of_kind l there) ∙ is))
