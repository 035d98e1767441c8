-- Lemmas on the conditions of a read: an order meets one exactly if the last visible update has the value asked for.
use Rattle.std.proofs.Common.{◌≡◌, ℕ, Bool, true, List, Option, Some, refl, subst}
use Rattle.std.specs.Prelude.{◌⊎◌, Contains, IsPermutation, option_and_then, filter}
use Rattle.ra_labels.specs.declared.operation.Op.{Op}
use Rattle.ra_labels.specs.declared.operation.Update.{Update}
use Rattle.ra_labels.specs.declared.label.Label.{Label}
use Rattle.ra_labels.specs.Records.{Records, labels_of}
use Rattle.ra_labels.specs.Visibility.{sees}
use Rattle.ra_labels.specs.Rewriting.{Part}
use Rattle.ra_labels.specs.Linearization.{parts_in}
use Rattle.ra_labels.proofs.Members.{reached, from_where, kept-there, there-kept}
use Rattle.ra_precedence.specs.Conditions.{Meets}
use Rattle.ra_some_order.specs.VisibleUpdates.{visible_labels, numbers_where}
use Rattle.ra_some_order.specs.SomeOrder.{update_order}
use Rattle.ra_some_order.proofs.LastValues.{last_value, where_last}
use Rattle.ra_some_order.proofs.MadeUpdates.{update_made}
use Rattle.ra_some_order.proofs.VisibleValues.{visible_value, HasVisible, last_visible, others_before, last_is}

-- the numbers of the labels whose operation passes a test
pub number_there : (passes : Op → Bool) (labels : List Label) (label : Label) → Contains labels label
    → passes label.op ≡ true → Contains (numbers_where passes labels) label.number
number_there passes labels label there is =
    reached (λ (l : Label). l.number) (filter (λ (l : Label). passes l.op) labels) label
    (kept-there (λ (l : Label). passes l.op) labels label there is)

pub from_numbers : (passes : Op → Bool) (labels : List Label) (m : ℕ) → Contains (numbers_where passes labels) m
    → (label : Label) × Contains labels label × (passes label.op ≡ true) × (label.number ≡ m)
from_numbers passes labels m there =
    let (label, found, is) = from_where (λ (l : Label). l.number)
    (filter (λ (l : Label). passes l.op) labels) m there in
    let kept = there-kept (λ (l : Label). passes l.op) labels label found in
    (label, kept.0, kept.1, is)

module _ (records : Records) (n : ℕ) where
  -- the labels that are visible, and those whose operation passes a test besides
  pub visible_there : (label : Label) → Contains (labels_of records) label → sees records n label.number ≡ true
      → Contains (visible_labels records n) label
  visible_there label there seen = kept-there (λ (l : Label). sees records n l.number)
      (labels_of records) label there seen

  pub there_visible : (label : Label) → Contains (visible_labels records n) label
      → Contains (labels_of records) label × (sees records n label.number ≡ true)
  there_visible label visible = there-kept (λ (l : Label). sees records n l.number) (labels_of records) label visible

  pub where_there : (passes : Op → Bool) (label : Label) → Contains (visible_labels records n) label
      → passes label.op ≡ true → Contains (numbers_where passes (visible_labels records n)) label.number
  where_there passes label visible is = number_there passes (visible_labels records n) label visible is

  pub from_visible : (passes : Op → Bool) (m : ℕ) → Contains (numbers_where passes (visible_labels records n)) m
      → (label : Label) × Contains (visible_labels records n) label × (passes label.op ≡ true) × (label.number ≡ m)
  from_visible passes m there = from_numbers passes (visible_labels records n) m there

module _ (records : Records) (sequence : List Part) (same : IsPermutation (parts_in records) sequence) (n : ℕ)
    {V : Type 0} (h : Update → Option V) where
  abbrev made : Op → Option V
  made operation = option_and_then h (update_made operation)

  pub has_visible : (label : Label) (v : V) → Contains (visible_labels records n) label → made label.op ≡ Some v
      → HasVisible records n h v label.number
  has_visible label v visible makes =
      let (there, seen) = there_visible records n label visible in
      record { label = label; there = there; seen = seen; makes = makes; numbered = refl }

  -- an order in which the value is the last one meets the condition that asks for it
  pub meets_if_last : (v : V) (others its : Op → Bool)
      → ((operation : Op) → others operation ≡ true → (w : V) × (made operation ≡ Some w) × (¬ (w ≡ v)))
      → ((operation : Op) → made operation ≡ Some v → its operation ≡ true)
      → last_value (visible_value records n h) sequence ≡ Some v
      → Meets (update_order sequence)
      (record {
        before = numbers_where others (visible_labels records n);
        after = numbers_where its
            (visible_labels records n);
      })
  meets_if_last v others its other_from its_from is b there =
      let (label, visible, passes, numbered) = from_visible records n others b there in
      let (w, makes, other) = other_from label.op passes in
      let place = where_last (visible_value records n h) sequence v is in
      let last = last_visible records sequence same n h v place in (
        place.last.label.number,
        subst (Contains (numbers_where its (visible_labels records n))) last.numbered
            (where_there records n its last.label (visible_there records n last.label last.there last.seen)
            (its_from last.label.op last.makes)),
        others_before records sequence same n h v place w b
            (subst (HasVisible records n h w) numbered (has_visible label w visible makes)) other,
      )

  -- and in an order that meets it, the value is the last one
  pub last_if_meets : (v : V)
      → ((operation : Op) (w : V) → made operation ≡ Some w → (w ≡ v) ⊎ (¬ (w ≡ v))) → (others its : Op → Bool)
      → ((operation : Op) (w : V) → made operation ≡ Some w → ¬ (w ≡ v) → others operation ≡ true)
      → ((operation : Op) → its operation ≡ true → made operation ≡ Some v)
      → (label : Label) → Contains (visible_labels records n) label → its label.op ≡ true
      → Meets (update_order sequence)
      (record {
        before = numbers_where others (visible_labels records n);
        after = numbers_where its
            (visible_labels records n);
      })
      → last_value (visible_value records n h) sequence ≡ Some v
  last_if_meets v decide others its to_others to_its label visible passes meets =
      last_is records sequence same n h v (λ w b its_value. decide its_value.label.op w its_value.makes)
      label.number
      (has_visible label v visible (to_its label.op passes))
      (λ w b its_value other.
      let seen = visible_there records n its_value.label its_value.there its_value.seen in
      let (c, after, before) = meets b (subst (Contains (numbers_where others (visible_labels records n)))
      its_value.numbered
      (where_there records n others its_value.label seen (to_others its_value.label.op w its_value.makes other))) in
      let (later, later_visible, later_passes, numbered) = from_visible records n its c after in (
        c,
        subst (HasVisible records n h v) numbered (has_visible later v later_visible (to_its later.op later_passes)),
        before,
      ))
