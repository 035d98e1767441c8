-- Lemmas on what a view has of the updates that it has taken, one update after another.
use Rattle.std.proofs.Common.{◌≡◌, ℕ, ◌+◌, ◌<◌, Bool, true, false, List, [], ◌∷◌, ◌++◌, Option, Some, None, length, get_or, set, refl, sym, ap, subst, ◌∙◌, inl, inr, arith}
use Rattle.std.specs.Prelude.{◌⊎◌, ◌&&◌, not, nat_lt, is_some, slice_get, Contains, IfSome}
use Rattle.std.specs.Option.{option_map_or}
use Rattle.std.proofs.lemmas.Bool.{cases_eq, cases_lt, cases_Bool, false≢true, and_parts, and_from, cond-true, cond-false, ltb-true, lt-ltb}
use Rattle.std.proofs.lemmas.Option.{none-some}
use Rattle.std.proofs.lemmas.List.{get_or-set_same, get_or-set_other, get_or_past, length-set}
use Rattle.std.proofs.lemmas.List.Elements.{Contains-push, Contains-push_cases, Contains-append_left}
use Rattle.ra_labels.specs.declared.operation.Op.{Op}
use Rattle.ra_labels.proofs.Members.{none_there}
use Rattle.ra_visibility.specs.Seen.{Seen, no_row, is_in, count_in}
use Rattle.ra_visibility.specs.Tracked.{Tracked, labels_in, replicas_in, row_at}
use Rattle.ra_visibility.specs.Kept.{AreIssued}
use Rattle.ra_rga_precedence.specs.declared.view.View.{View}
use Rattle.ra_rga_precedence.specs.Operations.{inserted_at}
use Rattle.ra_rga_precedence.specs.Marks.{lacks_need, is_removal, removal_at, removed_at, with_mark, AreMarks}
use Rattle.ra_rga_precedence.specs.Views.{taken_in, IsNewView, HasTaken, IsView, IsBehind, with_insertion, NeedOnly}
use Rattle.ra_rga_precedence.specs.UpdateConditions.{AreBelow}

-- ---- members of sets
-- an update exists
update_there : (tracked : Tracked) (x : ℕ) → (row_at tracked x).is_update ≡ true → x < labels_in tracked
update_there tracked x updates = elim (cases_lt x (labels_in tracked)) [
  | inl below ↦ below
  | inr past ↦
      absurd (false≢true (sym (ap (λ row. row.is_update) (get_or_past tracked.rows x no_row past)) ∙ updates))
]

pub member_there : (tracked : Tracked) (counts : List ℕ) (x : ℕ)
    → is_in (record { rows = tracked.rows; counts = counts }) x ≡ true → x < labels_in tracked
member_there tracked counts x there =
    update_there tracked x (and_parts (row_at tracked x).is_update
    (nat_lt (row_at tracked x).place (get_or counts (row_at tracked x).replica 0)) there).0

-- the set of a view that is behind is among the other one
pub member_more : (tracked : Tracked) (view : View) (seen : Seen) → seen.rows ≡ tracked.rows → IsBehind seen view
    → (x : ℕ) → is_in (taken_in tracked view) x ≡ true → is_in seen x ≡ true
member_more tracked view seen rows behind x there =
    let row = row_at tracked x in
    let (updates, place) = and_parts row.is_update (nat_lt row.place (get_or view.taken.items row.replica 0)) there in
    let less = ltb-true row.place (get_or view.taken.items row.replica 0) place in
    let more = behind row.replica in
    subst (λ rs. is_in (record { rows = rs; counts = seen.counts }) x ≡ true) (sym rows)
    (and_from row.is_update (nat_lt row.place (count_in seen row.replica)) updates
    (lt-ltb row.place (count_in seen row.replica) (omega (arith, less, more))))

-- sets with the same counts have the same members
pub member_same : (tracked : Tracked) (view : View) (seen : Seen) → seen.rows ≡ tracked.rows
    → ((k : ℕ) → get_or view.taken.items k 0 ≡ count_in seen k)
    → (x : ℕ) → is_in (taken_in tracked view) x ≡ is_in seen x
member_same tracked view seen rows same x =
    ap (λ c. (row_at tracked x).is_update && nat_lt (row_at tracked x).place c) (same (row_at tracked x).replica)
    ∙ ap (λ rs. is_in (record { rows = rs; counts = seen.counts }) x) (sym rows)

-- ---- what is removed, and what is needed
removed_parts : (operations : List Op) (needed : List (Option ℕ)) (seen : Seen) (x j : ℕ)
    → removed_at operations needed seen x ≡ Some j → (is_in seen x ≡ true) × (removal_at operations needed x ≡ Some j)
removed_parts operations needed seen x j is =
    let removes = option_map_or is_removal (slice_get operations x) false in
    let needs = get_or needed x None in
    elim (cases_Bool (is_in seen x && removes)) [
      | inl both ↦
          let (visible, its) = and_parts (is_in seen x) removes both in (
            visible,
            cond-true removes needs None its ∙ sym (cond-true (is_in seen x && removes) needs None both) ∙ is,
          )
      | inr not_both ↦ absurd (none-some j (sym (cond-false (is_in seen x && removes) needs None not_both) ∙ is))
    ]

removed_from : (operations : List Op) (needed : List (Option ℕ)) (seen : Seen) (x j : ℕ) → is_in seen x ≡ true
    → removal_at operations needed x ≡ Some j → removed_at operations needed seen x ≡ Some j
removed_from operations needed seen x j visible is =
    let removes = option_map_or is_removal (slice_get operations x) false in
    let needs = get_or needed x None in
    elim (cases_Bool removes) [
      | inl its ↦
          cond-true (is_in seen x && removes) needs None (and_from (is_in seen x) removes visible its)
          ∙ sym (cond-true removes needs None its) ∙ is
      | inr other ↦ absurd (none-some j (sym (cond-false removes needs None other) ∙ is))
    ]

pub marks_same : (operations : List Op) (needed : List (Option ℕ)) (s t : Seen) (count : ℕ) (marks : List Bool)
    → ((x : ℕ) → is_in s x ≡ is_in t x) → AreMarks count (removed_at operations needed s) marks
    → AreMarks count (removed_at operations needed t) marks
marks_same operations needed s t count marks same are = record {
  marked =
      λ m k below is.
      let (visible, removes) = removed_parts operations needed t m k is in
      are.marked m k below (removed_from operations needed s m k (same m ∙ visible) removes);
  only =
      λ k marked.
      let (m, below, is) = are.only k marked in
      let (visible, removes) = removed_parts operations needed s m k is in
      (m, below, removed_from operations needed t m k (sym (same m) ∙ visible) removes);
}

lacks_of : Seen → Option ℕ → Bool
lacks_of s o = option_map_or (λ k. not (is_in s k)) o false

lacks_alike : (s t : Seen) → ((x : ℕ) → is_in s x ≡ is_in t x) → (o : Option ℕ)
    → option_map_or (λ k. not (is_in s k)) o false ≡ option_map_or (λ k. not (is_in t k)) o false
lacks_alike s t same None = refl
lacks_alike s t same (Some k) = ap not (same k)

pub lacks_same : (needed : List (Option ℕ)) (s t : Seen) → ((x : ℕ) → is_in s x ≡ is_in t x) → (m : ℕ)
    → lacks_need needed s m ≡ lacks_need needed t m
lacks_same needed s t same m =
    ap (λ b. b && option_map_or (λ k. not (is_in s k)) (get_or needed m None) false) (same m)
    ∙ ap (λ b. is_in t m && b) (lacks_alike s t same (get_or needed m None))

-- what is needed stays in a larger set
lacks_less : (s t : Seen) → ((x : ℕ) → is_in s x ≡ true → is_in t x ≡ true) → (o : Option ℕ)
    → option_map_or (λ k. not (is_in s k)) o false ≡ false → option_map_or (λ k. not (is_in t k)) o false ≡ false
lacks_less s t more None none = refl
lacks_less s t more (Some k) none = elim (cases_Bool (is_in s k)) [
  | inl there ↦ ap not (more k there)
  | inr missing ↦ absurd (false≢true (sym none ∙ ap not missing))
]

pub needs_more : (needed : List (Option ℕ)) (s t : Seen) → ((x : ℕ) → is_in s x ≡ true → is_in t x ≡ true) → (m : ℕ)
    → is_in s m ≡ true → lacks_need needed s m ≡ false → lacks_need needed t m ≡ false
needs_more needed s t more m there none =
    let lacks = option_map_or (λ k. not (is_in s k)) (get_or needed m None) false in
    let its = option_map_or (λ k. not (is_in t k)) (get_or needed m None) false in
    let none_here : lacks ≡ false = sym (ap (λ b. b && lacks) there) ∙ none in
    ap (λ b. b && its) (more m there) ∙ lacks_less s t more (get_or needed m None) none_here

-- ---- marks
pub mark_length : (marks : List Bool) (o : Option ℕ) → length (with_mark marks o) ≡ length marks
mark_length marks None = refl
mark_length marks (Some k) = length-set marks k true

mark_kept : (marks : List Bool) (o : Option ℕ) (j : ℕ) → get_or marks j false ≡ true → get_or (with_mark marks o) j false ≡ true
mark_kept marks None j marked = marked
mark_kept marks (Some k) j marked = elim (cases_eq j k) [
  | inl same ↦ elim (cases_lt j (length marks)) [
    | inl within ↦
        ap (λ i. get_or (set marks k true) i false) same
        ∙ get_or-set_same marks k true false (subst (λ i. i < length marks) same within)
    | inr past ↦ absurd (false≢true (sym (get_or_past marks j false past) ∙ marked))
  ]
  | inr other ↦ get_or-set_other marks k j true false other ∙ marked
]

mark_from : (marks : List Bool) (o : Option ℕ) (j : ℕ) → get_or (with_mark marks o) j false ≡ true
    → (get_or marks j false ≡ true) ⊎ (o ≡ Some j)
mark_from marks None j marked = inl marked
mark_from marks (Some k) j marked = elim (cases_eq j k) [
  | inl same ↦ inr (ap Some (sym same))
  | inr other ↦ inl (sym (get_or-set_other marks k j true false other) ∙ marked)
]

-- ---- one update more
module _ (tracked : Tracked) (replica : ℕ) (issued : List ℕ) (are : AreIssued tracked replica issued) (old : View)
    (wide : replica < length old.taken.items) (place : ℕ) (taken_is : get_or old.taken.items replica 0 ≡ place)
    (within : place < length issued) where
  -- the update that is taken
  abbrev m : ℕ
  m = get_or issued place 0

  abbrev before : Seen
  before = taken_in tracked old

  abbrev after : Seen
  after = record { rows = tracked.rows; counts = set old.taken.items replica (place + 1) }

  taken_here : get_or (set old.taken.items replica (place + 1)) replica 0 ≡ place + 1
  taken_here = get_or-set_same old.taken.items replica (place + 1) 0 wide

  taken_there : (q : ℕ) → ¬ (q ≡ replica)
      → get_or (set old.taken.items replica (place + 1)) q 0 ≡ get_or old.taken.items q 0
  taken_there q other = get_or-set_other old.taken.items replica q (place + 1) 0 other

  pub grown : (x : ℕ) → is_in before x ≡ true → is_in after x ≡ true
  grown x there =
      let row = row_at tracked x in
      let (updates, lower) = and_parts row.is_update (nat_lt row.place (get_or old.taken.items row.replica 0)) there in
      let less = ltb-true row.place (get_or old.taken.items row.replica 0) lower in
      let now = get_or (set old.taken.items replica (place + 1)) row.replica 0 in
      let less_now : row.place < now = elim (cases_eq row.replica replica) [
        | inl same ↦
            let was = ap (λ q. get_or old.taken.items q 0) same ∙ taken_is in
            let is = ap (λ q. get_or (set old.taken.items replica (place + 1)) q 0) same ∙ taken_here in
            omega (arith, less, was, is)
        | inr other ↦ let is = taken_there row.replica other in omega (arith, less, is)
      ] in
      and_from row.is_update (nat_lt row.place now) updates (lt-ltb row.place now less_now)

  pub newest_in : is_in after m ≡ true
  newest_in =
      let its = are.each place within in
      let row = row_at tracked m in
      let now = get_or (set old.taken.items replica (place + 1)) row.replica 0 in
      let is : now ≡ place + 1 = ap (λ q. get_or (set old.taken.items replica (place + 1)) q 0) its.replica ∙ taken_here in
      let at = its.place in
      and_from row.is_update (nat_lt row.place now) its.update (lt-ltb row.place now (omega (arith, is, at)))

  pub from_either : (x : ℕ) → is_in after x ≡ true → (is_in before x ≡ true) ⊎ (x ≡ m)
  from_either x there =
      let row = row_at tracked x in
      let now = get_or (set old.taken.items replica (place + 1)) row.replica 0 in
      let was = get_or old.taken.items row.replica 0 in
      let (updates, lower) = and_parts row.is_update (nat_lt row.place now) there in
      let less = ltb-true row.place now lower in
      let old_one : row.place < was → is_in before x ≡ true =
      λ lower. and_from row.is_update (nat_lt row.place was) updates (lt-ltb row.place was lower) in
      elim (cases_eq row.replica replica) [
        | inl same ↦
            let is = ap (λ q. get_or (set old.taken.items replica (place + 1)) q 0) same ∙ taken_here in
            let at = ap (λ q. get_or old.taken.items q 0) same ∙ taken_is in
            elim (cases_eq row.place place) [
              | inl last ↦
                  let (inside, found) = are.all place x (record {
                    there = update_there tracked x updates;
                    replica = same;
                    update = updates;
                    place = last;
                  }) in
                  inr (sym found)
              | inr earlier ↦ inl (old_one (omega (arith, less, is, at, earlier)))
            ]
        | inr other ↦ let is = taken_there row.replica other in inl (old_one (omega (arith, less, is)))
      ]

  pub needs_step : (needed : List (Option ℕ)) (seen : Seen) → NeedOnly tracked needed seen old
      → lacks_need needed seen m ≡ false → (x : ℕ) → is_in after x ≡ true → lacks_need needed seen x ≡ false
  needs_step needed seen only none x there = elim (from_either x there) [
    | inl older ↦ only x older
    | inr same ↦ ap (lacks_need needed seen) same ∙ none
  ]

  module _ (operations : List Op) (needed : List (Option ℕ)) (below : AreBelow (labels_in tracked) needed)
      (new : View) (taken : new.taken.items ≡ set old.taken.items replica (place + 1))
      (removed : new.removed.items ≡ with_mark old.removed.items (removal_at operations needed m))
      (present : new.present.items ≡ with_insertion operations old.present.items m)
      (has : HasTaken tracked operations needed old) where
    abbrev removal : Option ℕ
    removal = removal_at operations needed m

    removal_low : (o : Option ℕ) (j : ℕ) → IfSome o (λ k. k < labels_in tracked) → o ≡ Some j → j < labels_in tracked
    removal_low o j low is = subst (λ p. IfSome p (λ k. k < labels_in tracked)) is low

    removal_there : (j : ℕ) → removal ≡ Some j → j < length old.removed.items
    removal_there j is =
        let removes = option_map_or is_removal (slice_get operations m) false in
        let low : j < labels_in tracked = elim (cases_Bool removes) [
          | inl its ↦ removal_low (get_or needed m None) j (below m) (sym (cond-true removes (get_or needed m None) None its) ∙ is)
          | inr other ↦ absurd (none-some j (sym (cond-false removes (get_or needed m None) None other) ∙ is))
        ] in
        subst (λ l. j < l) (sym has.long) low

    are_marks : AreMarks (labels_in tracked) (removed_at operations needed after) (with_mark old.removed.items removal)
    are_marks = record {
      marked = λ x j low is.
          let (visible, removes) = removed_parts operations needed after x j is in
          elim (from_either x visible) [
            | inl older ↦
                mark_kept old.removed.items removal j
                (has.removed.marked x j low (removed_from operations needed before x j older removes))
            | inr same ↦
                let its : removal ≡ Some j = ap (removal_at operations needed) (sym same) ∙ removes in
                ap (λ o. get_or (with_mark old.removed.items o) j false) its
                ∙ get_or-set_same old.removed.items j true false (removal_there j its)
          ];
      only = λ j marked. elim (mark_from old.removed.items removal j marked) [
        | inl older ↦
            let (x, low, is) = has.removed.only j older in
            let (visible, removes) = removed_parts operations needed before x j is in
            (x, low, removed_from operations needed after x j (grown x visible) removes)
        | inr its ↦ (m, (are.each place within).there, removed_from operations needed after m j newest_in its)
      ];
    }

    kept_present : (x : ℕ) → Contains old.present.items x → Contains (with_insertion operations old.present.items m) x
    kept_present x there = elim (cases_Bool (is_some (inserted_at operations m))) [
      | inl inserts ↦
          subst (λ xs. Contains xs x)
          (sym (cond-true (is_some (inserted_at operations m)) (old.present.items ++ m ∷ []) old.present.items inserts))
          (Contains-append_left old.present.items (m ∷ []) x there)
      | inr other ↦
          subst (λ xs. Contains xs x)
          (sym (cond-false (is_some (inserted_at operations m)) (old.present.items ++ m ∷ []) old.present.items other)) there
    ]

    new_present : is_some (inserted_at operations m) ≡ true → Contains (with_insertion operations old.present.items m) m
    new_present inserts =
        subst (λ xs. Contains xs m)
        (sym (cond-true (is_some (inserted_at operations m)) (old.present.items ++ m ∷ []) old.present.items inserts))
        (Contains-push old.present.items m)

    only_present : (x : ℕ) → Contains (with_insertion operations old.present.items m) x
        → Contains old.present.items x ⊎ ((x ≡ m) × (is_some (inserted_at operations m) ≡ true))
    only_present x there = elim (cases_Bool (is_some (inserted_at operations m))) [
      | inl inserts ↦ elim (Contains-push_cases old.present.items m x (subst (λ xs. Contains xs x)
          (cond-true (is_some (inserted_at operations m)) (old.present.items ++ m ∷ []) old.present.items inserts) there)) [
            | inl older ↦ inl older
            | inr same ↦ inr (sym same, inserts)
          ]
      | inr other ↦ inl (subst (λ xs. Contains xs x)
          (cond-false (is_some (inserted_at operations m)) (old.present.items ++ m ∷ []) old.present.items other) there)
    ]

    has_after : (marks : List Bool) → marks ≡ with_mark old.removed.items removal → (x : ℕ) → is_in after x ≡ true
        → is_some (inserted_at operations x) ≡ true → get_or marks x false ≡ false
        → Contains (with_insertion operations old.present.items m) x
    has_after marks is x there inserts free = elim (from_either x there) [
      | inl older ↦ elim (cases_Bool (get_or old.removed.items x false)) [
        | inl marked ↦
            absurd (false≢true (sym free ∙ ap (λ ms. get_or ms x false) is ∙ mark_kept old.removed.items removal x marked))
        | inr unmarked ↦ kept_present x (has.present x older inserts unmarked)
      ]
      | inr same ↦
          subst (Contains (with_insertion operations old.present.items m)) (sym same)
          (new_present (ap (λ y. is_some (inserted_at operations y)) (sym same) ∙ inserts))
    ]

    pub taken_step : HasTaken tracked operations needed new
    taken_step = record {
      wide = ap length taken ∙ length-set old.taken.items replica (place + 1) ∙ has.wide;
      long = ap length removed ∙ mark_length old.removed.items removal ∙ has.long;
      removed = subst (λ cs. AreMarks (labels_in tracked)
          (removed_at operations needed (record { rows = tracked.rows; counts = cs })) new.removed.items) (sym taken)
          (subst (AreMarks (labels_in tracked) (removed_at operations needed after)) (sym removed) are_marks);
      present = λ x there inserts free.
          subst (λ xs. Contains xs x) (sym present) (has_after new.removed.items removed x
          (subst (λ cs. is_in (record { rows = tracked.rows; counts = cs }) x ≡ true) taken there) inserts free);
      only = λ x there.
          let (low, visible, inserts) : (x < labels_in tracked) × (is_in after x ≡ true)
          × (is_some (inserted_at operations x) ≡ true) =
          elim (only_present x (subst (λ xs. Contains xs x) present there)) [
            | inl older ↦ let (low, visible, inserts) = has.only x older in (low, grown x visible, inserts)
            | inr (same, inserts) ↦ (
              subst (λ y. y < labels_in tracked) (sym same) (are.each place within).there,
              subst (λ y. is_in after y ≡ true) (sym same) newest_in,
              subst (λ y. is_some (inserted_at operations y) ≡ true) (sym same) inserts,
            )
          ] in
          (low, subst (λ cs. is_in (record { rows = tracked.rows; counts = cs }) x ≡ true) (sym taken) visible, inserts);
    }

-- ---- new views
module _ (tracked : Tracked) (operations : List Op) (needed : List (Option ℕ)) (view : View)
    (new : IsNewView (replicas_in tracked) (labels_in tracked) view) where
  nothing_in : (x : ℕ) → is_in (taken_in tracked view) x ≡ true → ⊥
  nothing_in x there =
      let row = row_at tracked x in
      let (updates, lower) = and_parts row.is_update (nat_lt row.place (get_or view.taken.items row.replica 0)) there in
      let less = ltb-true row.place (get_or view.taken.items row.replica 0) lower in
      let none = new.none row.replica in
      absurd (omega (arith, less, none))

  pub new_is_view : IsView tracked operations needed view
  new_is_view = record {
    has = record {
      wide = new.wide;
      long = new.long;
      removed = record {
        marked = λ m k below is.
            absurd (nothing_in m (removed_parts operations needed (taken_in tracked view) m k is).0);
        only = λ k marked. absurd (false≢true (sym (new.unmarked k) ∙ marked));
      };
      present = λ m there inserts free. absurd (nothing_in m there);
      only = λ m there. absurd (none_there m (subst (λ xs. Contains xs m) new.empty there));
    };
    closed = λ m there. absurd (nothing_in m there);
  }

  pub new_is_behind : (seen : Seen) → IsBehind seen view
  new_is_behind seen k = let none = new.none k in omega (arith, none)

pub needs_seen : (tracked : Tracked) (operations : List Op) (needed : List (Option ℕ)) (view : View) (seen : Seen)
    → seen.rows ≡ tracked.rows → IsView tracked operations needed view → IsBehind seen view
    → NeedOnly tracked needed seen view
needs_seen tracked operations needed view seen rows is behind m there =
    needs_more needed (taken_in tracked view) seen (member_more tracked view seen rows behind) m there (is.closed m there)

pub brought_up : (tracked : Tracked) (operations : List Op) (needed : List (Option ℕ)) (view : View) (seen : Seen)
    → seen.rows ≡ tracked.rows → HasTaken tracked operations needed view → NeedOnly tracked needed seen view
    → ((k : ℕ) → get_or view.taken.items k 0 ≡ count_in seen k) → IsView tracked operations needed view
brought_up tracked operations needed view seen rows has needs counts = record {
  has = has;
  closed =
      λ m there.
      lacks_same needed (taken_in tracked view) seen (member_same tracked view seen rows counts) m ∙ needs m there;
}

-- ---- the views of all replicas
pub each_set : (Is : ℕ → View → Type 0) (views : List View) (r : ℕ) (view : View)
    → ((i : ℕ) (none : View) → i < length views → Is i (get_or views i none)) → Is r view → (i : ℕ) (none : View)
    → i < length (set views r view) → Is i (get_or (set views r view) i none)
each_set Is views r view each it i none within =
    let there : i < length views = subst (λ k. i < k) (length-set views r view) within in
    elim (cases_eq i r) [
      | inl same ↦
          subst (Is i) (sym (subst (λ k. get_or (set views r view) k none ≡ view) (sym same)
          (get_or-set_same views r view none (subst (λ k. k < length views) same there))))
          (subst (λ k. Is k view) (sym same) it)
      | inr other ↦ subst (Is i) (sym (get_or-set_other views r i view none other)) (each i none there)
    ]
