-- Lemmas on a view that has taken what a read sees, where the list of the read is that of its visible elements.
use Rattle.std.proofs.Common.{◌≡◌, ℕ, ◌<◌, Bool, true, false, List, Option, Some, None, length, get_or, sym, ap, subst, ◌∙◌, inl, inr}
use Rattle.std.specs.Prelude.{◌&&◌, not, is_some, Contains}
use Rattle.std.specs.Option.{option_map_or}
use Rattle.std.proofs.lemmas.Bool.{cases_Bool, false≢true, and_parts, and_from, not-true, not_from_false}
use Rattle.ra_labels.specs.Lists.{is_among}
use Rattle.ra_labels.specs.declared.operation.Op.{Op}
use Rattle.ra_labels.proofs.InLists.{among-exactly}
use Rattle.ra_visibility.specs.Seen.{Seen, is_in, count_in}
use Rattle.ra_visibility.specs.Tracked.{Tracked, labels_in}
use Rattle.ra_rga_precedence.specs.declared.view.View.{View}
use Rattle.ra_rga_precedence.specs.Operations.{inserted_at}
use Rattle.ra_rga_precedence.specs.Marks.{lacks_need, removed_at, AreMarks, AreShown, AreUnmarked, is_unlisted}
use Rattle.ra_rga_precedence.specs.Reads.{AreInsertions, ListsShown}
use Rattle.ra_rga_precedence.specs.Views.{taken_in, IsView}
use Rattle.ra_rga_precedence.proofs.Places.{place_of}
use Rattle.ra_rga_precedence.proofs.TakenUpdates.{member_there, member_same, marks_same, lacks_same}

-- marks that agree are of the same labels
marks_alike : (removed : ℕ → Option ℕ) (count : ℕ) (old new : List Bool)
    → ((k : ℕ) → get_or new k false ≡ get_or old k false) → AreMarks count removed old → AreMarks count removed new
marks_alike removed count old new same are = record {
  marked = λ m k below is. same k ∙ are.marked m k below is;
  only = λ k marked. are.only k (sym (same k) ∙ marked);
}

module _ (tracked : Tracked) (operations : List Op) (inserter : ℕ → Option ℕ) (needed : List (Option ℕ))
    (ranks : List ℕ) (are : AreInsertions operations (labels_in tracked) inserter needed ranks) (seen : Seen)
    (rows : seen.rows ≡ tracked.rows) (view : View) (is : IsView tracked operations needed view)
    (counts : (k : ℕ) → get_or view.taken.items k 0 ≡ count_in seen k) where
  abbrev removed : List Bool
  removed = view.removed.items

  pub same_members : (x : ℕ) → is_in (taken_in tracked view) x ≡ is_in seen x
  same_members = member_same tracked view seen rows counts

  pub removed_are : AreMarks (labels_in tracked) (removed_at operations needed seen) removed
  removed_are =
      marks_same operations needed (taken_in tracked view) seen (labels_in tracked) removed same_members is.has.removed

  pub none_lacks : (m : ℕ) → m < labels_in tracked → lacks_need needed seen m ≡ false
  none_lacks m below = elim (cases_Bool (is_in seen m)) [
    | inl visible ↦
        sym (lacks_same needed (taken_in tracked view) seen same_members m) ∙ is.closed m (same_members m ∙ visible)
    | inr hidden ↦ ap (λ b. b && option_map_or (λ k. not (is_in seen k)) (get_or needed m None) false) hidden
  ]

  module _ (list labels : List ℕ) (now : List Bool) (len : length labels ≡ length list)
      (shown : AreShown inserter seen removed list labels now) where
    pub lists_shown : ListsShown operations (labels_in tracked) inserter needed seen list labels now
    lists_shown = record { marks = removed; removed = removed_are; len = len; shown = shown }

    pub present_unlisted : (m : ℕ) → Contains view.present.items m → get_or now m false ≡ false
        → is_unlisted operations seen now m ≡ true
    present_unlisted m there free =
        let (low, visible, inserts) = is.has.only m there in
        and_from (is_in seen m) (is_some (inserted_at operations m) && not (get_or now m false))
        (sym (same_members m) ∙ visible)
        (and_from (is_some (inserted_at operations m)) (not (get_or now m false)) inserts
        (not_from_false (get_or now m false) free))

    module _ (all : (m : ℕ) → Contains view.present.items m → get_or now m false ≡ true) where
      -- a visible insertion that is not marked now was not marked and is present
      listed_now : (m : ℕ) → is_in seen m ≡ true → is_some (inserted_at operations m) ≡ true → get_or now m false ≡ true
      listed_now m visible inserts = elim (cases_Bool (get_or removed m false)) [
        | inl gone ↦ shown.kept m gone
        | inr free ↦ all m (is.has.present m (same_members m ∙ visible) inserts free)
      ]

      pub none_unlisted : (m : ℕ) → m < labels_in tracked → is_unlisted operations seen now m ≡ false
      none_unlisted m below = elim (cases_Bool (is_unlisted operations seen now m)) [
        | inl unlisted ↦
            let (visible, rest) = and_parts (is_in seen m)
            (is_some (inserted_at operations m) && not (get_or now m false)) unlisted in
            let (inserts, free) = and_parts (is_some (inserted_at operations m)) (not (get_or now m false)) rest in
            absurd (false≢true (sym (not-true (get_or now m false) free) ∙ listed_now m visible inserts))
        | inr listed ↦ listed
      ]

      module _ (new : View) (taken : new.taken.items ≡ view.taken.items) (present : new.present.items ≡ labels)
          (unmarked : AreUnmarked now labels new.removed.items) (long : length now ≡ length removed) where
        -- a label that is not listed is marked now if it was marked before
        was_marked : (k : ℕ) → ¬ Contains labels k → get_or now k false ≡ get_or removed k false
        was_marked k other = elim (cases_Bool (get_or now k false)) [
          | inl marked ↦ elim (shown.only k marked) [
            | inl before ↦ marked ∙ sym before
            | inr there ↦ absurd (other there)
          ]
          | inr free ↦ elim (cases_Bool (get_or removed k false)) [
            | inl before ↦ absurd (false≢true (sym free ∙ shown.kept k before))
            | inr none ↦ free ∙ sym none
          ]
        ]

        marks_back : (k : ℕ) → get_or new.removed.items k false ≡ get_or removed k false
        marks_back k = elim (cases_Bool (is_among k labels)) [
          | inl among ↦
              let there = (among-exactly k labels).0 among in unmarked.gone k there ∙ sym (shown.shown k there).1
          | inr missing ↦
              let other : ¬ Contains labels k =
              λ there. false≢true (sym missing ∙ (among-exactly k labels).1 there) in
              unmarked.kept k other ∙ was_marked k other
        ]

        same_taken : (x : ℕ) → is_in (taken_in tracked new) x ≡ is_in (taken_in tracked view) x
        same_taken x = ap (λ cs. is_in (record { rows = tracked.rows; counts = cs }) x) taken

        present_now : (m : ℕ) → is_in (taken_in tracked new) m ≡ true → is_some (inserted_at operations m) ≡ true
            → get_or new.removed.items m false ≡ false → Contains labels m
        present_now m visible inserts free =
            let its = sym (same_members m) ∙ sym (same_taken m) ∙ visible in
            elim (shown.only m (listed_now m its inserts)) [
              | inl gone ↦ absurd (false≢true (sym free ∙ marks_back m ∙ gone))
              | inr there ↦ there
            ]

        label_inserts : (m : ℕ) → Contains labels m → is_some (inserted_at operations m) ≡ true
        label_inserts m there =
            let (i, at) = place_of labels m there in
            ap is_some (are.inserters.found (get_or list i 0) m (shown.each i at.within ∙ ap Some at.here)).1

        pub view_of_read : IsView tracked operations needed new
        view_of_read = record {
          has = record {
            wide = ap length taken ∙ is.has.wide;
            long = unmarked.len ∙ long ∙ is.has.long;
            removed = marks_same operations needed (taken_in tracked view) (taken_in tracked new) (labels_in tracked)
                new.removed.items (λ x. sym (same_taken x))
                (marks_alike (removed_at operations needed (taken_in tracked view)) (labels_in tracked) removed
                new.removed.items marks_back is.has.removed);
            present = λ m visible inserts free.
                subst (λ xs. Contains xs m) (sym present) (present_now m visible inserts free);
            only = λ m there.
                let its = subst (λ xs. Contains xs m) present there in
                let visible = (shown.shown m its).0 in
                let taken_it = same_taken m ∙ same_members m ∙ visible in
                (member_there tracked new.taken.items m taken_it, taken_it, label_inserts m its);
          };
          closed = λ m there.
              lacks_same needed (taken_in tracked new) (taken_in tracked view) same_taken m
              ∙ is.closed m (sym (same_taken m) ∙ there);
        }
