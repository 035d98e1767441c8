-- Lemmas on when a new label of an RGA is admitted among all, and on one that stands behind all passing labels.
use Rattle.std.proofs.Common.{◌≡◌, ℕ, Bool, true, false, List, ◌∷◌, ◌++◌, refl, sym, ap, ◌∙◌, subst, inl, inr}
use Rattle.std.specs.Prelude.{◌↔◌, ◌⊎◌, Contains, flat_map}
use Rattle.std.proofs.lemmas.List.{append-nil}
use Rattle.std.proofs.lemmas.List.Elements.{Contains-append_left}
use Rattle.ra_labels.specs.declared.kind.Kind.{Kind}
use Rattle.ra_labels.specs.declared.kind.Kind.TheVariants.{Rga}
use Rattle.ra_labels.specs.declared.operation.Update.{Update}
use Rattle.ra_labels.specs.declared.operation.Update.TheVariants.{After, RgaRemove}
use Rattle.ra_labels.specs.declared.label.Label.{Label}
use Rattle.ra_labels.specs.Records.{Records}
use Rattle.ra_labels.specs.Rewriting.{parts_of, updates_of}
use Rattle.ra_labels.specs.Specification.{state_after, is_admitted}
use Rattle.ra_labels.specs.Linearization.{updates_admitted}
use Rattle.ra_labels.specs.NamedOrder.{named_labels, named_sequence}
use Rattle.ra_labels.specs.Insertion.{updates_among, updates_passing, or_label, HasUpdate}
use Rattle.ra_labels.specs.Commuting.{then_step}
use Rattle.ra_labels.specs.Pending.{is_present_element, WasInsertedBelow}
use Rattle.ra_labels.specs.HistorySoFar.{NextOperation, operate, label_of}
use Rattle.ra_theorems.proofs.States.{state_after-push}
use Rattle.ra_theorems.proofs.HadUpdates.{among-none}
use Rattle.ra_theorems.proofs.KeptUpdates.{there-exactly}
use Rattle.ra_theorems.proofs.PassingUpdates.{in-labels, each, each_passes, one-more_at, among-from}
use Rattle.ra_theorems.proofs.RgaSteps.{inserted-admitted, removed-admitted}
use Rattle.ra_theorems.proofs.LastUpdates.{among-does}
use Rattle.ra_theorems.proofs.Arrivals.{stands-before, all-with}

-- an element that is present by the labels before is the root, or was inserted by a smaller label
below_from : (records : Records) (before behind : List Label) (label : Label) (x : ℕ)
    → named_labels Rga records ≡ before ++ label ∷ behind → is_present_element x (updates_of (flat_map parts_of before)) ≡ true
    → (x ≡ 0) ⊎ WasInsertedBelow records label x
below_from records before behind label x is there =
    elim ((there-exactly x (updates_of (flat_map parts_of before))).0 there) [
      | inl root ↦ inl root
      | inr (anchor, found) ↦
          let (m, m_there, it, makes) = among-from each before (After anchor x)
          (subst (λ us. Contains us (After anchor x)) (sym (each_passes before)) found) in
          let m_in = in-labels Rga records m
          (subst (λ ls. Contains ls m) (sym is) (Contains-append_left before (label ∷ behind) m m_there)) in
          inr (m, anchor, m_in, makes, (stands-before Rga records before behind label m is m_in).0 m_there)
    ]

from_below : (records : Records) (before behind : List Label) (label : Label) (x : ℕ)
    → named_labels Rga records ≡ before ++ label ∷ behind → WasInsertedBelow records label x
    → is_present_element x (updates_of (flat_map parts_of before)) ≡ true
from_below records before behind label x is (m, anchor, m_in, makes, less) =
    let m_there = (stands-before Rga records before behind label m is m_in).1 less in
    let found = subst (λ us. Contains us (After anchor x)) (each_passes before)
    (among-does each before m (After anchor x) m_there makes refl) in
    (there-exactly x (updates_of (flat_map parts_of before))).1 (inr (anchor, found))

pub offered-insertion : (records : Records) (next : NextOperation) (anchor x : ℕ)
    → HasUpdate next.op (After anchor x) → updates_admitted Rga (named_sequence Rga records) ≡ true
    → (updates_admitted Rga (named_sequence Rga (operate next ∷ records)) ≡ true)
    ↔ ((is_present_element x (updates_of (named_sequence Rga records)) ≡ false)
    × ((anchor ≡ 0) ⊎ WasInsertedBelow (operate next ∷ records)
    (label_of records next) anchor))
offered-insertion records next anchor x makes admitted =
    let now : Records = operate next ∷ records in
    let label = label_of records next in
    let (before, behind, was_named, is_named, was, is) =
    all-with Rga records next (After anchor x) makes in
    let first = updates_of (flat_map parts_of before) in
    let later = updates_of (flat_map parts_of behind) in
    let exactly = inserted-admitted first later anchor x (ap (is_admitted Rga) (sym was) ∙ admitted) in (
      (λ holds.
          let (there, new) = exactly.0 (ap (is_admitted Rga) (sym is) ∙ holds) in
          (ap (is_present_element x) was ∙ new, below_from now before behind label anchor is_named there)),
      (λ known.
          let there : is_present_element anchor first ≡ true = elim known.1 [
            | inl root ↦ (there-exactly anchor first).1 (inl root)
            | inr put ↦ from_below now before behind label anchor is_named put
          ] in
          ap (is_admitted Rga) is ∙ exactly.1 (there, ap (is_present_element x) (sym was) ∙ known.0)),
    )

pub offered-removal : (records : Records) (next : NextOperation) (x : ℕ)
    → HasUpdate next.op (RgaRemove x) → updates_admitted Rga (named_sequence Rga records) ≡ true
    → (updates_admitted Rga (named_sequence Rga (operate next ∷ records)) ≡ true)
    ↔ ((¬ (x ≡ 0)) × WasInsertedBelow (operate next ∷ records) (label_of records next) x)
offered-removal records next x makes admitted =
    let now : Records = operate next ∷ records in
    let label = label_of records next in
    let (before, behind, was_named, is_named, was, is) = all-with Rga records next (RgaRemove x) makes in
    let first = updates_of (flat_map parts_of before) in
    let later = updates_of (flat_map parts_of behind) in
    let exactly = removed-admitted first later x (ap (is_admitted Rga) (sym was) ∙ admitted) in (
      (λ holds.
          let (there, other) = exactly.0 (ap (is_admitted Rga) (sym is) ∙ holds) in (
            other,
            elim (below_from now before behind label x is_named there)
                [ inl root ↦ absurd (other root) | inr put ↦ put ],
          )),
      (λ known. ap (is_admitted Rga) is ∙ exactly.1 (from_below now before behind label x is_named known.1, known.0)),
    )

-- behind all passing labels, one more label is one step of its own update
pub behind-all : (kind : Kind) (records : Records) (passes : ℕ → Bool) (before behind : List Label) (label : Label)
    (u : Update) → named_labels kind records ≡ before ++ label ∷ behind → HasUpdate label.op u → passes label.number ≡ false
    → ((other : Label) → Contains behind other → passes other.number ≡ false)
    → state_after kind (updates_passing kind records (or_label passes label.number))
    ≡ then_step (state_after kind (updates_passing kind records passes)) u
behind-all kind records passes before behind label u is makes new none =
    let (was, now) = one-more_at kind records passes before behind label u is makes new in
    let first = updates_among passes before in
    let nothing = among-none passes behind none in
    ap (state_after kind) (now ∙ ap (λ us. first ++ u ∷ us) nothing)
    ∙ state_after-push kind first u
    ∙ sym (ap (λ us. then_step (state_after kind us) u) (was ∙ ap (λ us. first ++ us) nothing ∙ append-nil first))
