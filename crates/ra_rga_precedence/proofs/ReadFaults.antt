-- Lemmas on reads: when they are possible, and what is at fault if not.
use Rattle.std.proofs.Common.{◌≡◌, ℕ, ◌+◌, ◌<◌, Bool, true, false, List, Option, Some, None, length, get_or, refl, sym, ap, subst, ◌∙◌, inl, inr, arith}
use Rattle.std.specs.Prelude.{◌&&◌, not, is_some, slice_get, option_and_then, Contains}
use Rattle.std.specs.Option.{option_map_or}
use Rattle.std.proofs.lemmas.Bool.{cases_Bool, false≢true, and_parts, and_from, cond-true, cond-false, not-true, not_from_false}
use Rattle.std.proofs.lemmas.Option.{none-some, same_Some}
use Rattle.std.proofs.lemmas.List.Elements.{Contains-get_or}
use Rattle.ra_labels.specs.declared.operation.Op.{Op}
use Rattle.ra_labels.specs.declared.operation.Op.TheVariants as op
use Rattle.ra_labels.specs.declared.operation.Update.{Update}
use Rattle.ra_labels.specs.declared.operation.Update.TheVariants.{After, RgaRemove}
use Rattle.ra_labels.specs.Records.{Records, label_count}
use Rattle.ra_labels.specs.Visibility.{sees}
use Rattle.ra_labels.specs.TheoremTerms.{WasInserted, HasNoDuplicates}
use Rattle.ra_rga_forks.specs.Forks.{IsUnder}
use Rattle.ra_rga_conditions.specs.Precedence.{HasOperationAt, ListsTogether, updates_seen}
use Rattle.ra_visibility.specs.Seen.{Seen, is_in}
use Rattle.ra_rga_precedence.specs.Operations.{element_needed, inserted_at}
use Rattle.ra_rga_precedence.specs.Needing.{IsNeeded}
use Rattle.ra_rga_precedence.specs.Marks.{lacks_need, is_removal, removed_at, AreMarks, IsWrong, is_unlisted}
use Rattle.ra_rga_precedence.specs.Neighbors.{IsUnderNext}
use Rattle.ra_rga_precedence.specs.Reads.{AreInsertions, ListsShown}
use Rattle.ra_rga_precedence.specs.Answers.{IsOpen, IsWronglyListed, IsUnlisted}
use Rattle.ra_rga_precedence.proofs.ConditionLists.{AreListed}
use Rattle.ra_rga_precedence.proofs.Translations.{listed_inserts, listed_needs}
use Rattle.ra_rga_precedence.proofs.InsertedElements.{inserter_is}
use Rattle.ra_rga_precedence.proofs.Places.{place_of}
use Rattle.ra_rga_precedence.proofs.ListPlaces.{split_pair, once_by}
use Rattle.ra_rga_precedence.proofs.SeenUpdates.{after_of, same_element, no_root, needed_label, seen_there, inserted_seen, removed_seen, seen_below, up_from}

some_there : (o : Option ℕ) → is_some o ≡ true → (x : ℕ) × (o ≡ Some x)
some_there None is = absurd (false≢true is)
some_there (Some x) is = (x, refl)

removal : (o : Option Op) → option_map_or is_removal o false ≡ true → (x : ℕ) × (o ≡ Some (op.RgaRemove x))
removal None is = absurd (false≢true is)
removal (Some operation) is = one operation is
  where
    one : (operation : Op) → is_removal operation ≡ true
        → (x : ℕ) × (◌≡◌ {A = Option Op} (Some operation) (Some (op.RgaRemove x)))
    one (op.RgaRemove x) is = (x, refl)
    one _ is = absurd (false≢true is)

hidden_need : (seen : Seen) (o : Option ℕ) → option_map_or (λ k. not (is_in seen k)) o false ≡ true
    → (k : ℕ) × (o ≡ Some k) × (is_in seen k ≡ false)
hidden_need seen None is = absurd (false≢true is)
hidden_need seen (Some k) is = (k, refl, not-true (is_in seen k) is)

module _ (records : Records) (operations : List Op) (listed : AreListed records operations) (inserter : ℕ → Option ℕ)
    (needed : List (Option ℕ)) (ranks : List ℕ)
    (are : AreInsertions operations (label_count records) inserter needed ranks) (read : ℕ) (seen : Seen)
    (visible : (m : ℕ) → is_in seen m ≡ sees records read m) where
  abbrev us : List Update
  us = updates_seen records read

  abbrev removed : ℕ → Option ℕ
  removed = removed_at operations needed seen

  -- ---- marks are those of removed elements
  pub marked_removed : (marks : List Bool) → AreMarks (label_count records) removed marks → (x k : ℕ)
      → inserter x ≡ Some k → get_or marks k false ≡ true → Contains us (RgaRemove x)
  marked_removed marks marks_are x k is marked =
      let (m, below, its) = marks_are.only k marked in
      let test = is_in seen m && option_map_or is_removal (slice_get operations m) false in
      elim (cases_Bool test) [
        | inl passes ↦
            let parts = and_parts (is_in seen m) (option_map_or is_removal (slice_get operations m) false) passes in
            let (y, at) = removal (slice_get operations m) parts.1 in
            let (j, needs, j_is) = needed_label records operations listed inserter needed ranks are m y
            (ap (option_and_then element_needed) at) in
            let j_same : j ≡ k = same_Some j k (sym needs ∙ sym (cond-true test (get_or needed m None) None passes) ∙ its) in
            let same : y ≡ x = same_element records operations listed inserter needed ranks are y x k
            (j_is ∙ ap Some j_same) is in
            subst (λ z. Contains us (RgaRemove z)) same
            (seen_there records operations listed inserter needed ranks are read seen visible m (op.RgaRemove y)
            (RgaRemove y) at refl parts.0)
        | inr fails ↦
            absurd (none-some k (sym (cond-false test (get_or needed m None) None fails) ∙ its))
      ]

  pub removed_marked : (marks : List Bool) → AreMarks (label_count records) removed marks → (x k : ℕ)
      → inserter x ≡ Some k → Contains us (RgaRemove x) → get_or marks k false ≡ true
  removed_marked marks marks_are x k is there =
      let (m, at, sees_it) = removed_seen records operations listed inserter needed ranks are read seen visible x there in
      let (j, needs, j_is) = needed_label records operations listed inserter needed ranks are m x
      (ap (option_and_then element_needed) at) in
      let test = is_in seen m && option_map_or is_removal (slice_get operations m) false in
      let passes : test ≡ true = and_from (is_in seen m) (option_map_or is_removal (slice_get operations m) false) sees_it
      (ap (λ o. option_map_or is_removal o false) at) in
      marks_are.marked m k (seen_below records operations listed inserter needed ranks are read seen visible m sees_it)
      (cond-true test (get_or needed m None) None passes ∙ needs ∙ sym j_is ∙ is)

  pub was_inserted : (x k : ℕ) → inserter x ≡ Some k → is_in seen k ≡ true → WasInserted x us
  was_inserted x k is sees_it =
      let (a, at) = after_of (slice_get operations k) x (are.inserters.found x k is).1 in (
        a,
        seen_there records operations listed inserter needed ranks are read seen visible k (op.After a x) (After a x)
            at refl sees_it,
      )

  -- ---- faults
  module _ (list : List ℕ) (reads : HasOperationAt records read (op.RgaRead list)) where
    pub open_fault : (m : ℕ) → m < label_count records → lacks_need needed seen m ≡ true → IsOpen records read m
    open_fault m below lacks =
        let parts = and_parts (is_in seen m) (option_map_or (λ k. not (is_in seen k)) (get_or needed m None) false) lacks in
        let (k, needs, hidden) = hidden_need seen (get_or needed m None) parts.1 in
        let len = are.len in
        let (x, its, is) = subst (IsNeeded operations inserter m) needs (are.needs.each m (omega (arith, below, len))) in (
          list,
          reads,
          sym (visible m) ∙ parts.0,
          (
            x,
            (listed_needs records operations listed m x its).0,
            (λ root. no_root records operations listed inserter needed ranks are k (ap inserter (sym root) ∙ is)),
            (λ j inserts.
                let same : k ≡ j = same_Some k j (sym is ∙ inserter_is records operations listed inserter are.inserters j x
                inserts) in
                sym (visible j) ∙ ap (is_in seen) (sym same) ∙ hidden),
          ),
        )

    pub wrong_fault : (marks : List Bool) → AreMarks (label_count records) removed marks → (x : ℕ)
        → IsWrong inserter seen marks list x → IsWronglyListed records read x
    wrong_fault marks marks_are x wrong = (
      list,
      reads,
      subst (Contains list) wrong.here (Contains-get_or list wrong.place 0 wrong.within),
      (λ (once, was, stays).
          let (m, at, sees_it, is) = inserted_seen records operations listed inserter needed ranks are read seen visible
          was.0 x was.1 in
          elim (cases_Bool (get_or marks m false)) [
            | inl marked ↦ stays (marked_removed marks marks_are x m is marked)
            | inr free ↦
                let (i, less, i_is) = wrong.before m is sees_it free in
                once i wrong.place less wrong.within
                (same_element records operations listed inserter needed ranks are (get_or list i 0) x m i_is is)
                wrong.here
          ]),
    )

    module _ (labels : List ℕ) (now : List Bool)
        (shown : ListsShown operations (label_count records) inserter needed seen list labels now) where
      pub at_place : (i : ℕ) → i < length list → inserter (get_or list i 0) ≡ Some (get_or labels i 0)
      at_place i within = let len = shown.len in shown.shown.each i (omega (arith, within, len))

      pub label_in : (i : ℕ) → i < length list → Contains labels (get_or labels i 0)
      label_in i within = let len = shown.len in Contains-get_or labels i 0 (omega (arith, within, len))

      pub label_seen : (i : ℕ) → i < length list → is_in seen (get_or labels i 0) ≡ true
      label_seen i within = (shown.shown.shown (get_or labels i 0) (label_in i within)).0

      pub label_inserts : (i : ℕ) → i < length list → inserted_at operations (get_or labels i 0) ≡ Some (get_or list i 0)
      label_inserts i within =
          (are.inserters.found (get_or list i 0) (get_or labels i 0) (at_place i within)).1

      inserter_of : (x : ℕ) → Contains list x → (k : ℕ) × (inserter x ≡ Some k) × Contains labels k
      inserter_of x there =
          let (i, at) = place_of list x there in
          (get_or labels i 0, ap inserter (sym at.here) ∙ at_place i at.within, label_in i at.within)

      pub list_once : HasNoDuplicates list
      list_once = once_by inserter list labels shown.len shown.shown.each shown.shown.once

      pub listed_right : (x : ℕ) → Contains list x → WasInserted x us × ¬ Contains us (RgaRemove x)
      listed_right x there =
          let (k, is, among) = inserter_of x there in
          let (sees_it, free) = shown.shown.shown k among in (
            was_inserted x k is sees_it,
            (λ gone. false≢true (sym free ∙ removed_marked shown.marks shown.removed x k is gone)),
          )

      pub all_listed : ((m : ℕ) → m < label_count records → is_unlisted operations seen now m ≡ false) → (x : ℕ)
          → WasInserted x us → ¬ Contains us (RgaRemove x) → Contains list x
      all_listed none x (a, there) stays =
          let (m, at, sees_it, is) = inserted_seen records operations listed inserter needed ranks are read seen visible
          a x there in
          let inserts = (are.inserters.found x m is).1 in
          elim (cases_Bool (get_or now m false)) [
            | inl marked ↦ elim (shown.shown.only m marked) [
              | inl before ↦ absurd (stays (marked_removed shown.marks shown.removed x m is before))
              | inr among ↦
                  let (i, at_i) = place_of labels m among in
                  let low = at_i.within in
                  let len = shown.len in
                  let within : i < length list = omega (arith, low, len) in
                  subst (Contains list)
                  (same_element records operations listed inserter needed ranks are (get_or list i 0) x m
                  (at_place i within ∙ ap Some at_i.here) is)
                  (Contains-get_or list i 0 within)
            ]
            | inr free ↦
                absurd (false≢true (sym (none m
                (seen_below records operations listed inserter needed ranks are read seen visible m sees_it))
                ∙ and_from (is_in seen m) (is_some (inserted_at operations m) && not (get_or now m false)) sees_it
                (and_from (is_some (inserted_at operations m)) (not (get_or now m false)) (ap is_some inserts)
                (not_from_false (get_or now m false) free))))
          ]

      pub unlisted_fault : (m : ℕ) → is_unlisted operations seen now m ≡ true → IsUnlisted records read m
      unlisted_fault m is_one =
          let parts = and_parts (is_in seen m) (is_some (inserted_at operations m) && not (get_or now m false)) is_one in
          let rest = and_parts (is_some (inserted_at operations m)) (not (get_or now m false)) parts.1 in
          let free = not-true (get_or now m false) rest.1 in
          let (x, inserts) = some_there (inserted_at operations m) rest.0 in
          let its = listed_inserts records operations listed m x inserts in
          let is = inserter_is records operations listed inserter are.inserters m x its in (
            list,
            reads,
            (
              x,
              its,
              sym (visible m) ∙ parts.0,
              (λ there.
                  let (k, k_is, among) = inserter_of x there in
                  let same : k ≡ m = same_Some k m (sym k_is ∙ is) in
                  false≢true (sym free ∙ ap (λ j. get_or now j false) (sym same) ∙ shown.shown.marked k among)),
              (λ gone. false≢true (sym free ∙ shown.shown.kept m (removed_marked shown.marks shown.removed x m is gone))),
            ),
          )

      pub together_at : (i : ℕ) → i + 1 < length list → ListsTogether records read (get_or list i 0) (get_or list (i + 1) 0)
      together_at i within =
          let (before, after, split) = split_pair list i within in
          (before, after, subst (λ l. HasOperationAt records read (op.RgaRead l)) split reads)

      pub below_fault : ((m : ℕ) → m < label_count records → lacks_need needed seen m ≡ false) → (i : ℕ)
          → IsUnderNext needed labels i
          → ListsTogether records read (get_or list i 0) (get_or list (i + 1) 0)
          × IsUnder us (get_or list i 0) (get_or list (i + 1) 0)
      below_fault closed i (low, leads) =
          let len = shown.len in
          let within : i + 1 < length list = omega (arith, low, len) in
          let first : i < length list = omega (arith, within) in
          let (z, inserts, sees_it, under) = up_from records operations listed inserter needed ranks are read seen visible
          closed (get_or labels i 0) (get_or labels (i + 1) 0) (get_or list i 0) (label_seen i first)
          (label_inserts i first) leads in (
            together_at i within,
            subst (IsUnder us (get_or list i 0)) (same_Some z (get_or list (i + 1) 0) (sym inserts
                ∙ label_inserts (i + 1) within)) under,
          )
