-- Lemmas on the elements that a read checks, and on the conditions of some of them, with one more.
use Rattle.std.proofs.Common.{◌≡◌, ℕ, ◌+◌, ◌<◌, ◌≤◌, Bool, true, false, List, [], ◌∷◌, ◌++◌, length, get_or, take, filter, append_assoc, take_all, BTreeMap, sym, ap, ◌∙◌, subst, inl, inr}
use Rattle.std.specs.Prelude.{◌⊎◌, not, Option, Contains}
use Rattle.std.specs.BTreeSet.{BTreeSet, contains}
use Rattle.std.specs.Ordering.{nat_cmp}
use Rattle.std.proofs.lemmas.Bool.{cases_Bool}
use Rattle.std.proofs.lemmas.List.{take_more}
use Rattle.std.proofs.lemmas.List.Elements.{Contains-append_left, Contains-append_right, Contains-append_cases}
use Rattle.ra_labels.specs.declared.operation.Op.{Op}
use Rattle.ra_labels.specs.Lists.{is_among}
use Rattle.ra_labels.specs.Records.{Records}
use Rattle.ra_labels.proofs.InLists.{among-exactly}
use Rattle.ra_labels.proofs.Members.{head_or_behind, at_head, none_there, kept-there}
use Rattle.ra_precedence.specs.Conditions.{Condition}
use Rattle.ra_any_order.specs.Elements.{narrow_element, is_possible_element, AreNewestOf, AreElementsAdded}
use Rattle.ra_any_order.specs.Finding.{AreFound}

-- ---- the elements to check
module _ (listed known : BTreeSet ℕ) (list last changed mid all : List ℕ)
    (mid_is : mid ≡ changed ++ filter (λ x. not (contains nat_cmp known x)) list)
    (all_is : all ≡ mid ++ filter (λ x. not (contains nat_cmp listed x)) last) where
  pub changed_checked : (x : ℕ) → Contains changed x → Contains all x
  changed_checked x there =
      subst (λ xs. Contains xs x) (sym all_is)
      (Contains-append_left mid (filter (λ y. not (contains nat_cmp listed y)) last) x
      (subst (λ xs. Contains xs x) (sym mid_is)
      (Contains-append_left changed (filter (λ y. not (contains nat_cmp known y)) list) x there)))

  new_checked : (x : ℕ) → Contains list x → contains nat_cmp known x ≡ false → Contains all x
  new_checked x there unknown =
      subst (λ xs. Contains xs x) (sym all_is)
      (Contains-append_left mid (filter (λ y. not (contains nat_cmp listed y)) last) x
      (subst (λ xs. Contains xs x) (sym mid_is)
      (Contains-append_right changed (filter (λ y. not (contains nat_cmp known y)) list) x
      (kept-there (λ y. not (contains nat_cmp known y)) list x there (ap not unknown)))))

  old_checked : (x : ℕ) → Contains last x → contains nat_cmp listed x ≡ false → Contains all x
  old_checked x there unlisted =
      subst (λ xs. Contains xs x) (sym all_is)
      (Contains-append_right mid (filter (λ y. not (contains nat_cmp listed y)) last) x
      (kept-there (λ y. not (contains nat_cmp listed y)) last x there (ap not unlisted)))

  pub flips_checked : ((x : ℕ) → contains nat_cmp known x ≡ is_among x last)
      → ((x : ℕ) → contains nat_cmp listed x ≡ is_among x list) → (x : ℕ)
      → Contains all x ⊎ (contains nat_cmp listed x ≡ is_among x last)
  flips_checked known_is listed_is x = elim (cases_Bool (is_among x list)) [
    | inl in_list ↦ elim (cases_Bool (is_among x last)) [
      | inl in_last ↦ inr (listed_is x ∙ in_list ∙ sym in_last)
      | inr not_last ↦ inl (new_checked x ((among-exactly x list).0 in_list) (known_is x ∙ not_last))
    ]
    | inr not_list ↦ elim (cases_Bool (is_among x last)) [
      | inl in_last ↦ inl (old_checked x ((among-exactly x last).0 in_last) (listed_is x ∙ not_list))
      | inr not_last ↦ inr (listed_is x ∙ not_list ∙ sym not_last)
    ]
  ]

pub found_wider : (records : Records) (operations : List Op) (last : Option ℕ) (n : ℕ) (found : BTreeMap (ℕ × ℕ) ℕ)
    (changed all : List ℕ) → ((x : ℕ) → Contains changed x → Contains all x)
    → AreFound records operations last n found changed → AreFound records operations last n found all
found_wider records operations last n found changed all wider are = record {
  newest = are.newest;
  listed =
      λ x k seen passes. elim (are.listed x k seen passes) [
        | inl known ↦ inl known
        | inr there ↦ inr (wider x there)
      ];
}

-- ---- the conditions of elements
module _ (operations : List Op) (found : BTreeMap (ℕ × ℕ) ℕ) (replicas : ℕ) (is_listed : ℕ → Bool) where
  pub none_added : AreElementsAdded operations found replicas is_listed [] []
  none_added = record {
    each = λ condition there. absurd (none_there condition there);
    all = λ x there. absurd (none_there x there);
  }

  module _ (xs : List ℕ) (i x : ℕ) (within : i < length xs) (x_is : x ≡ get_or xs i 0) (newest : List ℕ)
      (of : AreNewestOf found x replicas newest) (labels : List ℕ) (labels_is : labels ≡ newest) (listed : Bool)
      (listed_is : listed ≡ is_listed x) where
    abbrev made : Condition
    made = narrow_element operations labels listed x

    abbrev condition : Condition
    condition = narrow_element operations newest (is_listed x) x

    made_is : made ≡ condition
    made_is = ap (λ ls. narrow_element operations ls listed x) labels_is
        ∙ ap (λ l. narrow_element operations newest l x) listed_is

    one_added : (added : List Condition) → AreElementsAdded operations found replicas is_listed (take i xs) added
        → is_possible_element made listed ≡ true
        → AreElementsAdded operations found replicas is_listed (take (i + 1) xs) (added ++ made ∷ [])
    one_added added are possible = record {
      each =
          λ other there. elim (Contains-append_cases added (made ∷ []) other there) [
            | inl older ↦ are.each other older
            | inr new ↦ elim (head_or_behind made [] other new) [
              | inl is ↦ (x, (newest, of, sym made_is ∙ is))
              | inr further ↦ absurd (none_there other further)
            ]
          ];
      all =
          λ y there. elim (Contains-append_cases (take i xs) (get_or xs i 0 ∷ []) y
          (subst (λ ys. Contains ys y) (take_more xs i 0 within) there)) [
            | inl older ↦
                let (labels_y, of_y, among, y_possible) = are.all y older in
                let other = narrow_element operations labels_y (is_listed y) y in
                (labels_y, of_y, Contains-append_left added (made ∷ []) other among, y_possible)
            | inr new ↦ elim (head_or_behind (get_or xs i 0) [] y new) [
              | inl is ↦ subst (λ z. (ls : List ℕ) × AreNewestOf found z replicas ls
                  × Contains (added ++ made ∷ []) (narrow_element operations ls (is_listed z) z)
                  × (is_possible_element (narrow_element operations ls (is_listed z) z) (is_listed z) ≡ true)) (x_is ∙ is) (
                    newest,
                    of,
                    Contains-append_right added (made ∷ []) condition (at_head made [] condition made_is),
                    ap (λ l. is_possible_element condition l) (sym listed_is)
                        ∙ ap (λ c. is_possible_element c listed) (sym made_is) ∙ possible,
                  )
              | inr further ↦ absurd (none_there y further)
            ]
          ];
    }

    pub more_added : (old mid new : List Condition)
        → ((added : List Condition) × (mid ≡ old ++ added)
        × AreElementsAdded operations found replicas is_listed (take i xs) added)
        → new ≡ mid ++ made ∷ [] → is_possible_element made listed ≡ true
        → (added : List Condition) × (new ≡ old ++ added)
        × AreElementsAdded operations found replicas is_listed (take (i + 1) xs) added
    more_added old mid new (added, is, are) new_is possible = (
      added ++ made ∷ [],
      new_is ∙ ap (λ cs. cs ++ made ∷ []) is ∙ append_assoc old added (made ∷ []),
      one_added added are possible,
    )

    pub none_possible : is_possible_element made listed ≡ false → (ls : List ℕ) × AreNewestOf found x replicas ls
        × (is_possible_element (narrow_element operations ls (is_listed x) x) (is_listed x) ≡ false)
    none_possible impossible = (
      newest,
      of,
      ap (λ l. is_possible_element condition l) (sym listed_is)
          ∙ ap (λ c. is_possible_element c listed) (sym made_is) ∙ impossible,
    )

  pub all_added : (xs : List ℕ) (i : ℕ) → length xs ≤ i → (old new : List Condition)
      → ((added : List Condition) × (new ≡ old ++ added)
      × AreElementsAdded operations found replicas is_listed (take i xs) added)
      → (added : List Condition) × (new ≡ old ++ added)
      × AreElementsAdded operations found replicas is_listed xs added
  all_added xs i past old new (added, is, are) =
      (added, is, subst (λ ys. AreElementsAdded operations found replicas is_listed ys added) (take_all i xs past) are)
