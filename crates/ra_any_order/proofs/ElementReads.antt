-- Lemmas on the condition of one element of a read: the newest visible updates of the element require as much as all.
use Rattle.std.proofs.Common.{◌≡◌, ℕ, ◌<◌, ◌≤◌, Bool, true, false, List, [], Option, Some, None, BTreeMap, length, refl, sym, ap, ◌∙◌, subst, inl, inr}
use Rattle.std.specs.Prelude.{◌⊎◌, ◌==◌, ◌||◌, ◌&&◌, not, slice_get, Contains, if◌then◌else◌}
use Rattle.std.specs.Option.{option_map_or}
use Rattle.std.proofs.lemmas.Bool.{cases_Bool, false≢true, or_cases, or_left, or_right, eqb-true, eq-eqb}
use Rattle.ra_labels.specs.declared.operation.Op.{Op}
use Rattle.ra_labels.specs.declared.operation.Op.TheVariants as op
use Rattle.ra_labels.specs.declared.label.Label.{Label}
use Rattle.ra_labels.specs.Lists.{is_among}
use Rattle.ra_labels.specs.Records.{Records}
use Rattle.ra_labels.specs.Visibility.{sees}
use Rattle.ra_labels.specs.Places.{issuer_of}
use Rattle.ra_labels.proofs.InLists.{among-exactly}
use Rattle.ra_labels.proofs.Members.{head_or_behind, at_head, none_there, kept-there, in_piece, piece_of}
use Rattle.ra_precedence.specs.Conditions.{Condition}
use Rattle.ra_some_order.specs.VisibleUpdates.{adds, removes, elements_changed, elements_in, visible_labels, numbers_where}
use Rattle.ra_some_order.specs.UpdateConditions.{element_condition}
use Rattle.ra_some_order.specs.LabelOrders.{Narrows}
use Rattle.ra_some_order.proofs.MetConditions.{there_visible, from_visible}
use Rattle.ra_any_order.specs.Reading.{passes_at}
use Rattle.ra_any_order.specs.Changes.{changes, AreNewestChanges}
use Rattle.ra_any_order.specs.Elements.{leads, narrow_element, is_possible_element, AreNewestOf}
use Rattle.ra_any_order.specs.Requirements.{IsPossibleElement, IsOverwritten}
use Rattle.ra_any_order.proofs.NarrowSides.{AreListed, no_length, some_length, test_at, narrow_side, number_seen}

-- ---- tests of operations
pub leads_changes : (listed : Bool) (x : ℕ) (operation : Op) → leads listed x operation ≡ true
    → changes x operation ≡ true
leads_changes true x operation is = or_left (adds x operation) (removes x operation) is
leads_changes false x operation is = or_right (adds x operation) (removes x operation) is

sides_of : (listed : Bool) (x : ℕ) (operation : Op) → changes x operation ≡ true
    → (leads (not listed) x operation ≡ true) ⊎ (leads listed x operation ≡ true)
sides_of true x operation is = elim (or_cases (adds x operation) (removes x operation) is) [
  | inl added ↦ inr added
  | inr removed ↦ inl removed
]
sides_of false x operation is = or_cases (adds x operation) (removes x operation) is

pub option_sides : (listed : Bool) (x : ℕ) (operation : Option Op) → option_map_or (changes x) operation false ≡ true
    → (option_map_or (leads (not listed) x) operation false ≡ true)
    ⊎ (option_map_or (leads listed x) operation false ≡ true)
option_sides listed x None is = absurd (false≢true is)
option_sides listed x (Some operation) is = sides_of listed x operation is

pub added : (x : ℕ) (operation : Op) → leads true x operation ≡ true → operation ≡ op.LwwAdd x
added x (op.LwwAdd y) is = ap op.LwwAdd (sym (eqb-true x y is))
added x _ is = absurd (false≢true is)

pub removed : (x : ℕ) (operation : Op) → leads false x operation ≡ true → operation ≡ op.LwwRemove x
removed x (op.LwwRemove y) is = ap op.LwwRemove (sym (eqb-true x y is))
removed x _ is = absurd (false≢true is)

pub adds_itself : (x : ℕ) (operation : Op) → operation ≡ op.LwwAdd x → changes x operation ≡ true
adds_itself x operation is =
    ap (changes x) is ∙ or_left (adds x (op.LwwAdd x)) (removes x (op.LwwAdd x)) (eq-eqb x x refl)

among_changed : (x : ℕ) (operation : Op) → Contains (elements_changed operation) x → changes x operation ≡ true
among_changed x (op.LwwAdd y) there = elim (head_or_behind y [] x there) [
  | inl is ↦ or_left (adds x (op.LwwAdd y)) (removes x (op.LwwAdd y)) (eq-eqb x y (sym is))
  | inr further ↦ absurd (none_there x further)
]
among_changed x (op.LwwRemove y) there = elim (head_or_behind y [] x there) [
  | inl is ↦ or_right (adds x (op.LwwRemove y)) (removes x (op.LwwRemove y)) (eq-eqb x y (sym is))
  | inr further ↦ absurd (none_there x further)
]
among_changed x _ there = absurd (none_there x there)

changed_among : (x : ℕ) (operation : Op) → changes x operation ≡ true → Contains (elements_changed operation) x
changed_among x (op.LwwAdd y) is = elim (or_cases (adds x (op.LwwAdd y)) (removes x (op.LwwAdd y)) is) [
  | inl adds_it ↦ at_head y [] x (sym (eqb-true x y adds_it))
  | inr nothing ↦ absurd (false≢true nothing)
]
changed_among x (op.LwwRemove y) is = elim (or_cases (adds x (op.LwwRemove y)) (removes x (op.LwwRemove y)) is) [
  | inl nothing ↦ absurd (false≢true nothing)
  | inr removes_it ↦ at_head y [] x (sym (eqb-true x y removes_it))
]
changed_among x _ is = absurd (false≢true is)

-- ---- elements that visible labels change
pub changed_by : (labels : List Label) (x : ℕ) → Contains (elements_in labels) x
    → (label : Label) × Contains labels label × (changes x label.op ≡ true)
changed_by labels x there =
    let (label, among, of) = piece_of (λ (l : Label). elements_changed l.op) labels x there in
    (label, among, among_changed x label.op of)

pub change_there : (labels : List Label) (x : ℕ) (label : Label) → Contains labels label
    → changes x label.op ≡ true → Contains (elements_in labels) x
change_there labels x label among is =
    in_piece (λ (l : Label). elements_changed l.op) labels label x among (changed_among x label.op is)

-- the condition of an element that is listed or not
abbrev pub full_element : List Label → Bool → ℕ → Condition
full_element visible listed x =
    record { before = numbers_where (leads (not listed) x) visible; after = numbers_where (leads listed x) visible }

abbrev element_at : List Label → ℕ → Bool → Condition
element_at visible x among =
    if among
    then record { before = numbers_where (removes x) visible; after = numbers_where (adds x) visible }
    else record { before = numbers_where (adds x) visible; after = numbers_where (removes x) visible }

element_at_side : (visible : List Label) (x : ℕ) (listed : Bool)
    → element_at visible x listed ≡ full_element visible listed x
element_at_side visible x true = refl
element_at_side visible x false = refl

pub full_is : (visible : List Label) (list : List ℕ) (x : ℕ) (listed : Bool) → is_among x list ≡ listed
    → element_condition visible list x ≡ full_element visible listed x
full_is visible list x listed is = ap (element_at visible x) is ∙ element_at_side visible x listed

-- an element is changed by visible labels, if its condition names any
pub named_changed : (records : Records) (n : ℕ) (list : List ℕ) (x b : ℕ)
    → Contains (element_condition (visible_labels records n) list x).before b
    ⊎ Contains (element_condition (visible_labels records n) list x).after b
    → Contains (elements_in (visible_labels records n)) x
named_changed records n list x b side =
    let visible = visible_labels records n in
    elim (subst (λ c. Contains c.before b ⊎ Contains c.after b) (full_is visible list x (is_among x list) refl) side) [
      | inl first ↦ of_side (not (is_among x list)) first
      | inr second ↦ of_side (is_among x list) second
    ]
  where
    of_side : (side : Bool) → Contains (numbers_where (leads side x) (visible_labels records n)) b
        → Contains (elements_in (visible_labels records n)) x
    of_side side there =
        let (label, seen, passes, numbered) = from_visible records n (leads side x) b there in
        change_there (visible_labels records n) x label seen (leads_changes side x label.op passes)

module _ (records : Records) (operations : List Op) (listed_ops : AreListed records operations) (n : ℕ)
    (found : BTreeMap (ℕ × ℕ) ℕ) (are : AreNewestChanges records operations (Some n) found) (bound : ℕ)
    (below : (k : ℕ) → sees records n k ≡ true → issuer_of records k < bound) (x : ℕ) (newest : List ℕ)
    (of : AreNewestOf found x bound newest) where
  abbrev visible : List Label
  visible = visible_labels records n

  each_seen : (m : ℕ) → Contains newest m → sees records n m ≡ true
  each_seen m there = let (replica, low, at) = of.each m there in (are.seen x replica m at).0

  module _ (listed : Bool) where
    abbrev full : Condition
    full = full_element visible listed x

    abbrev narrow : Condition
    narrow = narrow_element operations newest listed x

    later_change : (k : ℕ) → sees records n k ≡ true → passes_at operations (changes x) k ≡ true
        → (m : ℕ) × (Contains narrow.before m ⊎ Contains narrow.after m) × (k ≤ m)
        × (issuer_of records k ≡ issuer_of records m)
    later_change k seen passes =
        let (m, at, less) = are.latest x k seen passes in
        let (m_seen, issued, m_passes) = are.seen x (issuer_of records k) m at in
        let among = of.all (issuer_of records k) m (below k seen) at in (
          m,
          elim (option_sides listed x (slice_get operations m) m_passes) [
            | inl first ↦ inl (kept-there (passes_at operations (leads (not listed) x)) newest m among first)
            | inr second ↦ inr (kept-there (passes_at operations (leads listed x)) newest m among second)
          ],
          less,
          sym issued,
        )

    side_changes : (side : Bool) (k : ℕ) → Contains (numbers_where (leads side x) visible) k
        → passes_at operations (changes x) k ≡ true
    side_changes side k there =
        let (label, seen, passes, numbered) = from_visible records n (leads side x) k there in
        subst (λ j. passes_at operations (changes x) j ≡ true) numbered
        (test_at records operations listed_ops n newest each_seen (changes x) label
        (there_visible records n label seen).0 ∙ leads_changes side x label.op passes)

    side_later : (side : Bool) (k : ℕ) → Contains (numbers_where (leads side x) visible) k
        → (m : ℕ) × (Contains narrow.before m ⊎ Contains narrow.after m) × (k ≤ m)
        × (issuer_of records k ≡ issuer_of records m)
    side_later side k there =
        later_change k (number_seen records operations listed_ops n newest each_seen (leads side x) k there)
        (side_changes side k there)

    pub element_narrows : Narrows records full narrow
    element_narrows = record {
      before = narrow_side records operations listed_ops n newest each_seen (leads (not listed) x);
      after = narrow_side records operations listed_ops n newest each_seen (leads listed x);
      kept =
          λ k side. elim side [
            | inl first ↦ side_later (not listed) k first
            | inr second ↦ side_later listed k second
          ];
    }

    -- a visible label that changes the element has a side
    visible_later : (label : Label) → Contains visible label → changes x label.op ≡ true
        → (m : ℕ) × (Contains narrow.before m ⊎ Contains narrow.after m)
    visible_later label seen passes =
        let (there, is) = there_visible records n label seen in
        let (m, side, less, same) = later_change label.number is
        (test_at records operations listed_ops n newest each_seen (changes x) label there ∙ passes) in
        (m, side)

    no_change : length narrow.before ≡ 0 → length narrow.after ≡ 0 → (label : Label) → Contains visible label
        → ¬ (changes x label.op ≡ true)
    no_change first second label seen passes =
        let (m, side) = visible_later label seen passes in
        elim side [
          | inl before ↦ no_length narrow.before first m before
          | inr after ↦ no_length narrow.after second m after
        ]

    leading_label : (c : ℕ) → Contains narrow.after c
        → (label : Label) × Contains visible label × (leads listed x label.op ≡ true)
    leading_label c there =
        let (label, seen, passes, numbered) = from_visible records n (leads listed x) c
        (element_narrows.after c there) in
        (label, seen, passes)

    element_overwritten : ¬ (length narrow.before ≡ 0) → length narrow.after ≡ 0 → IsOverwritten records full
    element_overwritten some none =
        let (b, there) = some_length narrow.before some in record {
          some = (b, element_narrows.before b there);
          followed =
              λ k second.
              let (m, side, later, same) = element_narrows.kept k (inr second) in
              elim side [
                | inl first ↦ (m, element_narrows.before m first, later, same)
                | inr after ↦ absurd (no_length narrow.after none m after)
              ];
        }

  after_test : (listed : Bool) → length (narrow listed).after == 0 ≡ false → (c : ℕ) × Contains (narrow listed).after c
  after_test listed some =
      some_length (narrow listed).after (λ none. false≢true (sym some ∙ eq-eqb (length (narrow listed).after) 0 none))

  possible_cases : (listed : Bool) → is_possible_element (narrow listed) listed ≡ true
      → ((c : ℕ) × Contains (narrow listed).after c)
      ⊎ ((listed ≡ false) × (length (narrow listed).before ≡ 0) × (length (narrow listed).after ≡ 0))
  possible_cases listed possible =
      elim (cases_Bool (length (narrow listed).after == 0)) [
        | inl none ↦ inr (unlisted listed (eqb-true (length (narrow listed).after) 0 none)
            (ap (λ b. not b || (not listed && length (narrow listed).before == 0)) (sym none) ∙ possible))
        | inr some ↦ inl (after_test listed some)
      ]
    where
      unlisted : (l : Bool) → length (narrow listed).after ≡ 0
          → (not l && length (narrow listed).before == 0) ≡ true
          → (l ≡ false) × (length (narrow listed).before ≡ 0) × (length (narrow listed).after ≡ 0)
      unlisted true none is = absurd (false≢true is)
      unlisted false none is = (refl, eqb-true (length (narrow listed).before) 0 is, none)

  pub possible_element : (list : List ℕ) (listed : Bool) → is_among x list ≡ listed
      → is_possible_element (narrow listed) listed ≡ true → IsPossibleElement visible list x
  possible_element list true among possible = elim (possible_cases true possible) [
    | inl leading ↦ (
      λ there.
          let (label, seen, passes) = leading_label true leading.0 leading.1 in (label, seen, added x label.op passes),
      λ changed not_there. absurd (not_there ((among-exactly x list).0 among)),
    )
    | inr none ↦ absurd (false≢true (sym none.0))
  ]
  possible_element list false among possible = (
    λ there. absurd (false≢true (sym among ∙ (among-exactly x list).1 there)),
    λ changed not_there. elim (possible_cases false possible) [
      | inl leading ↦
          let (label, seen, passes) = leading_label false leading.0 leading.1 in
          (label, seen, removed x label.op passes)
      | inr (is, first, second) ↦
          let (label, seen, passes) = changed_by visible x changed in
          absurd (no_change false first second label seen passes)
    ],
  )

  pub impossible_element : (list : List ℕ) (listed : Bool) → is_among x list ≡ listed
      → is_possible_element (narrow listed) listed ≡ false
      → (¬ IsPossibleElement visible list x) ⊎ IsOverwritten records (element_condition visible list x)
  impossible_element list listed among impossible =
      elim (cases_Bool (length (narrow listed).after == 0)) [
        | inl none ↦ elim (cases_Bool (length (narrow listed).before == 0)) [
          | inl empty ↦ inl (not_possible listed among (eqb-true (length (narrow listed).before) 0 empty)
              (eqb-true (length (narrow listed).after) 0 none) impossible)
          | inr some ↦ inr (subst (IsOverwritten records) (sym (full_is visible list x listed among))
              (element_overwritten listed (λ is. false≢true (sym some ∙ eq-eqb (length (narrow listed).before) 0 is))
              (eqb-true (length (narrow listed).after) 0 none)))
        ]
        | inr some ↦ absurd (false≢true (sym impossible
            ∙ ap (λ b. not b || (not listed && length (narrow listed).before == 0)) some))
      ]
    where
      not_possible : (l : Bool) → is_among x list ≡ l → length (narrow l).before ≡ 0 → length (narrow l).after ≡ 0
          → is_possible_element (narrow l) l ≡ false → ¬ IsPossibleElement visible list x
      not_possible true among first second impossible possible =
          let (label, seen, is) = possible.0 ((among-exactly x list).0 among) in
          no_change true first second label seen (adds_itself x label.op is)
      not_possible false among first second impossible possible =
          false≢true (sym impossible ∙ or_right (not (length (narrow false).after == 0))
          (length (narrow false).before == 0) (eq-eqb (length (narrow false).before) 0 first))
