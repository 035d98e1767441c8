-- Lemmas on conditions of fewer labels: an order that extends visibility meets the conditions of all visible labels
-- exactly if it meets those of labels that cover them.
use Rattle.std.proofs.Common.{◌≡◌, ◌↔◌, ℕ, zero, suc, ◌+◌, ◌<◌, Bool, true, false, List, [], ◌∷◌, refl, sym, ap, ◌∙◌, subst, inl, inr, arith}
use Rattle.std.specs.Prelude.{is_some, Contains}
use Rattle.std.specs.Option.{option_map_or}
use Rattle.std.proofs.lemmas.Bool.{cases_Bool, cond-true, cond-false, false≢true, or_cases, or_left, or_right}
use Rattle.std.proofs.lemmas.List.Elements.{Contains-append_cases}
use Rattle.ra_labels.specs.declared.operation.Op.{Op}
use Rattle.ra_labels.specs.declared.label.Label.{Label}
use Rattle.ra_labels.specs.Edges.{EachOnce, IsBefore}
use Rattle.ra_labels.specs.Records.{Records, labels_of}
use Rattle.ra_labels.specs.Visibility.{is_update, sees}
use Rattle.ra_labels.proofs.Members.{head_or_behind, at_head, none_there, reached, from_where, in_piece, piece_of}
use Rattle.ra_list_order.proofs.Befores.{second_there, before_across}
use Rattle.ra_list_order.proofs.JoinedChunks.{once_right, once_apart}
use Rattle.ra_theorems.proofs.TheoremIndex.{sees_earlier_updates-earlier, sees_earlier_updates-updates, label_at_each_number-found, label_at_each_number-one}
use Rattle.ra_precedence.specs.Conditions.{Condition, Meets, MeetsAll}
use Rattle.ra_some_order.specs.VisibleUpdates.{visible_labels, numbers_where}
use Rattle.ra_some_order.specs.UpdateConditions.{precedence, visibility_conditions, read_conditions, conditions_of, conditions_of_label, IsOrderOfUpdates}
use Rattle.ra_some_order.specs.Covering.{anything, either, Cover, ExtendsVisibility}
use Rattle.ra_some_order.proofs.StuckSets.{HasLastMember, none_or_last}
use Rattle.ra_some_order.proofs.MadeUpdates.{update_if_made}
use Rattle.ra_some_order.proofs.UpdateOrders.{update_label}
use Rattle.ra_some_order.proofs.VisibleValues.{before_behind}
use Rattle.ra_some_order.proofs.VisibleOrders.{seen_update}
use Rattle.ra_some_order.proofs.MetConditions.{visible_there, there_visible, number_there, from_numbers}

-- in a list that has each number once, what comes before a number comes before those after it
before_trans : (order : List ℕ) (a b c : ℕ) → EachOnce order → IsBefore order a b → IsBefore order b c
    → IsBefore order a c
before_trans [] a b c once first second = absurd first
before_trans (x ∷ xs) a b c once first second = elim first [
  | inl here ↦ elim second [
    | inl again ↦ inl (here.0, again.1)
    | inr further ↦ inl (here.0, second_there xs b c further)
  ]
  | inr further ↦ elim second [
    | inl here ↦ absurd (once_apart (x ∷ []) xs b once (at_head x [] b here.0) (second_there xs a b further))
    | inr behind ↦ inr (before_trans xs a b c (once_right (x ∷ []) xs once) further behind)
  ]
]

-- an order that meets the conditions has each update after those that it sees
pub conditions_extend : (records : Records) (order : List ℕ) → MeetsAll order (conditions_of records)
    → ExtendsVisibility records order
conditions_extend records order meets n m updates seen =
    let (label, there, numbered, updates_it) = update_label records n updates in
    let (other, other_there, other_numbered, other_updates) = update_label records m
    (sees_earlier_updates-updates records n m seen) in
    let visible = visible_labels records label.number in
    let condition = precedence other.number label.number in
    let among : Contains (conditions_of_label records label) condition =
    subst (λ cs. Contains cs condition) (sym (cond-true (is_update label.op)
    (visibility_conditions visible label.number) (read_conditions visible label.op) updates_it))
    (reached (λ (l : Label). precedence l.number label.number) visible other
    (visible_there records label.number other other_there
    ((λ i. sees records (numbered i) (other_numbered i)) ∙ seen))) in
    let (c, after, before) = meets condition (in_piece (conditions_of_label records) (labels_of records) label condition
    there among) other.number (at_head other.number [] other.number refl) in
    elim (head_or_behind label.number [] c after) [
      | inl here ↦
          subst (λ k. IsBefore order k n) other_numbered
          (subst (IsBefore order other.number) (sym here ∙ numbered) before)
      | inr further ↦ absurd (none_there c further)
    ]

-- and so it does if it meets the conditions of the reads besides
pub conditions_exactly : (records : Records) (order : List ℕ) → MeetsAll order (conditions_of records)
    ↔ (ExtendsVisibility records order × ((label : Label) → Contains (labels_of records) label
    → is_update label.op ≡ false → MeetsAll order (read_conditions (visible_labels records label.number) label.op)))
conditions_exactly records order = (
  (λ meets. (
    conditions_extend records order meets,
    λ label there reads condition among.
        meets condition (in_piece (conditions_of_label records) (labels_of records) label condition there
        (subst (λ cs. Contains cs condition) (sym (cond-false (is_update label.op)
        (visibility_conditions (visible_labels records label.number) label.number)
        (read_conditions (visible_labels records label.number) label.op) reads)) among)),
  )),
  (λ (extended, reads_meet) condition among.
      let (label, there, of_label) = piece_of (conditions_of_label records) (labels_of records) condition among in
      let visible = visible_labels records label.number in
      let by_visibility = visibility_conditions visible label.number in
      let by_read = read_conditions visible label.op in
      elim (cases_Bool (is_update label.op)) [
        | inl updates ↦
            let (seen, seen_there, made) = from_where
            (λ (l : Label). precedence l.number label.number) visible condition
            (subst (λ cs. Contains cs condition) (cond-true (is_update label.op) by_visibility by_read updates)
            of_label) in
            let is_one = ap (λ o. option_map_or (λ (l : Label). is_update l.op) o false)
            (label_at_each_number-found records label there) ∙ updates in
            let before = extended label.number seen.number is_one
            (there_visible records label.number seen seen_there).1 in
            subst (Meets order) made (λ b first. elim (head_or_behind seen.number [] b first) [
              | inl here ↦ (
                label.number,
                at_head label.number [] label.number refl,
                subst (λ m. IsBefore order m label.number) here before,
              )
              | inr further ↦ absurd (none_there b further)
            ])
        | inr reads ↦
            reads_meet label there reads condition
            (subst (λ cs. Contains cs condition) (cond-false (is_update label.op) by_visibility by_read reads) of_label)
      ]),
)

-- ---- visibility
module _ (records : Records) (order : List ℕ) (is : IsOrderOfUpdates records order) (chosen : ℕ → List Label)
    (enough : (label : Label) → Contains (labels_of records) label → is_update label.op ≡ true
    → Cover records label.number anything (chosen label.number)
    × MeetsAll order (visibility_conditions (chosen label.number) label.number)) where
  -- a chosen label comes before
  chosen_before : (label other : Label) → Contains (labels_of records) label → is_update label.op ≡ true
      → Contains (chosen label.number) other → IsBefore order other.number label.number
  chosen_before label other there updates chosen_it =
      let condition = precedence other.number label.number in
      let (c, after, before) = (enough label there updates).1 condition
      (reached (λ (l : Label). precedence l.number label.number) (chosen label.number) other chosen_it) other.number
      (at_head other.number [] other.number refl) in
      elim (head_or_behind label.number [] c after) [
        | inl here ↦ subst (IsBefore order other.number) (sym here) before
        | inr further ↦ absurd (none_there c further)
      ]

  seen_within : (bound : ℕ) (label other : Label) → Contains (labels_of records) label → is_update label.op ≡ true
      → Contains (visible_labels records label.number) other → label.number < other.number + bound
      → IsBefore order other.number label.number
  seen_within zero label other there updates visible near =
      let earlier = sees_earlier_updates-earlier records label.number other.number
      (there_visible records label.number other visible).1 in
      absurd (omega (arith, earlier, near))
  seen_within (suc bound) label other there updates visible near =
      elim ((enough label there updates).0.covered other visible refl) [
        | inl chosen_it ↦ chosen_before label other there updates chosen_it
        | inr (between, between_visible, passes, sees_other) ↦
            let (between_there, sees_between, between_updates) = seen_update records label.number between
            between_visible in
            let before_label = sees_earlier_updates-earlier records label.number between.number sees_between in
            let after_other = sees_earlier_updates-earlier records between.number other.number sees_other in
            let other_there = (there_visible records label.number other visible).0 in
            let first : IsBefore order other.number between.number = seen_within bound between other between_there
            (sym (update_if_made between.op) ∙ ap is_some between_updates.1)
            (visible_there records between.number other other_there sees_other)
            (omega (arith, before_label, near)) in
            let second : IsBefore order between.number label.number = seen_within bound label between there updates
            between_visible
            (omega (arith, after_other, near)) in
            before_trans order other.number between.number label.number is.once first second
      ]

  pub chosen_extend : ExtendsVisibility records order
  chosen_extend n m updates seen =
      let (label, there, numbered, updates_it) = update_label records n updates in
      let (other, other_there, other_numbered, other_updates) = update_label records m
      (sees_earlier_updates-updates records n m seen) in
      let visible = visible_there records label.number other other_there
      ((λ i. sees records (numbered i) (other_numbered i)) ∙ seen) in
      subst (λ k. IsBefore order k n) other_numbered (subst (IsBefore order other.number) numbered
      (seen_within (label.number + 1) label other there updates_it visible (omega arith)))

-- ---- reads
module _ (records : Records) (order : List ℕ) (is : IsOrderOfUpdates records order)
    (extended : ExtendsVisibility records order) (n : ℕ) (first second : Op → Bool)
    (apart : (operation : Op) → first operation ≡ true → second operation ≡ false) where
  abbrev seen : List Label
  seen = visible_labels records n

  abbrev members : List ℕ
  members = numbers_where (either first second) seen

  abbrev Last : Type 0
  Last = HasLastMember members order

  abbrev asks : List Label → Condition
  asks labels = record { before = numbers_where first labels; after = numbers_where second labels }

  in_order : (label : Label) → Contains seen label → Contains order label.number
  in_order label visible =
      (is.all label.number).0 (sees_earlier_updates-updates records n label.number
      (there_visible records n label visible).1)

  member : (label : Label) → Contains seen label → either first second label.op ≡ true → Contains members label.number
  member label visible passes = number_there (either first second) seen label visible passes

  -- no member stands behind the last one
  none_later : (w : Last) (c : ℕ) → Contains members c → ¬ IsBefore order w.last c
  none_later w c there later =
      w.none c (before_behind w.front w.back w.last c (subst EachOnce w.split is.once)
      (subst (λ ns. IsBefore ns w.last c) w.split later)) there

  same_label : (label other : Label) → Contains seen label → Contains seen other → label.number ≡ other.number
      → label ≡ other
  same_label label other visible other_visible numbered =
      label_at_each_number-one records label other (there_visible records n label visible).0
      (there_visible records n other other_visible).0 numbered

  -- some of the visible labels, with the last one
  record HaveLast (labels : List Label) : Type 0 where
    among : (label : Label) → Contains labels label → Contains seen label
    last : (w : Last) → (label : Label) × Contains labels label × (either first second label.op ≡ true)
        × (label.number ≡ w.last)

  -- the last one passes the second test
  abbrev LastPasses : Type 0
  LastPasses = (w : Last) → (label : Label) × Contains seen label × (second label.op ≡ true) × (label.number ≡ w.last)

  passes_if_met : (labels : List Label) → HaveLast labels → Meets order (asks labels) → LastPasses
  passes_if_met labels have meets w =
      let (label, there, passes, numbered) = have.last w in
      elim (or_cases (first label.op) (second label.op) passes) [
        | inl before ↦
            let (c, after, later) = meets w.last (subst (Contains (numbers_where first labels)) numbered
            (number_there first labels label there before)) in
            let (other, other_there, other_passes, other_numbered) = from_numbers second labels c after in
            absurd (none_later w c (subst (Contains members) other_numbered
            (member other (have.among other other_there) (or_right (first other.op) (second other.op) other_passes)))
            later)
        | inr after ↦ (label, have.among label there, after, numbered)
      ]

  met_if_passes : (labels : List Label) → HaveLast labels → LastPasses → Meets order (asks labels)
  met_if_passes labels have last_passes b there =
      let (label, among, passes, numbered) = from_numbers first labels b there in
      let visible = have.among label among in
      let b_member : Contains members b = subst (Contains members) numbered
      (member label visible (or_left (first label.op) (second label.op) passes)) in
      let b_order : Contains order b = subst (Contains order) numbered (in_order label visible) in
      elim (none_or_last members order) [
        | inl none ↦ absurd (none b b_order b_member)
        | inr w ↦ found w (have.last w) (last_passes w) label visible passes numbered b_member b_order
      ]
    where
      found : (w : Last) → (last : Label) × Contains labels last × (either first second last.op ≡ true)
          × (last.number ≡ w.last)
          → (passing : Label) × Contains seen passing × (second passing.op ≡ true) × (passing.number ≡ w.last)
          → (label : Label) → Contains seen label → first label.op ≡ true → label.number ≡ b → Contains members b
          → Contains order b
          → (c : ℕ) × Contains (numbers_where second labels) c × IsBefore order b c
      found w (last, last_there, either_passes, last_numbered)
          (passing, passing_visible, passes_second, passing_numbered)
          label visible passes_first numbered b_member b_order =
          let same = same_label passing last passing_visible (have.among last last_there)
          (passing_numbered ∙ sym last_numbered) in (
            w.last,
            subst (Contains (numbers_where second labels)) last_numbered
                (number_there second labels last last_there
                (ap (λ (l : Label). second l.op) (sym same) ∙ passes_second)),
            subst (λ ns. IsBefore ns b w.last) (sym w.split)
                (elim (Contains-append_cases w.front (w.last ∷ w.back) b
                (subst (λ ns. Contains ns b) w.split b_order)) [
                  | inl near ↦ before_across w.front (w.last ∷ w.back) b w.last near (at_head w.last w.back w.last refl)
                  | inr far ↦ elim (head_or_behind w.last w.back b far) [
                    | inl here ↦
                        let one = same_label label passing visible passing_visible
                        (numbered ∙ sym here ∙ sym passing_numbered) in
                        absurd (false≢true (sym (apart label.op passes_first)
                        ∙ ap (λ (l : Label). second l.op) one ∙ passes_second))
                    | inr further ↦ absurd (w.none b further b_member)
                  ]
                ]),
          )

  all_have_last : HaveLast seen
  all_have_last = record {
    among = λ label there. there;
    last = λ w. from_numbers (either first second) seen w.last w.is;
  }

  cover_has_last : (labels : List Label) → Cover records n (either first second) labels → HaveLast labels
  cover_has_last labels cover = record {
    among = cover.visible;
    last =
        λ w.
        let (label, visible, passes, numbered) = from_numbers (either first second) seen w.last w.is in
        elim (cover.covered label visible passes) [
          | inl there ↦ (label, there, passes, numbered)
          | inr (other, other_visible, other_passes, sees_it) ↦
              let updates = sees_earlier_updates-updates records n other.number
              (there_visible records n other other_visible).1 in
              absurd (none_later w other.number (member other other_visible other_passes)
              (subst (λ m. IsBefore order m other.number) numbered
              (extended other.number label.number updates sees_it)))
        ];
  }

  pub fewer_exactly : (labels : List Label) → Cover records n (either first second) labels
      → Meets order (asks seen) ↔ Meets order (asks labels)
  fewer_exactly labels cover = (
    (λ meets. met_if_passes labels (cover_has_last labels cover) (passes_if_met seen all_have_last meets)),
    (λ meets. met_if_passes seen all_have_last (passes_if_met labels (cover_has_last labels cover) meets)),
  )
