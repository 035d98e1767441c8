-- If some sequence linearizes the records of an RGA, the plain conditions hold.
use Rattle.std.proofs.Common.{◌↔◌, ℕ, Bool, List, ◌∷◌, ◌++◌, Option, refl, sym, ap, ◌∙◌, subst, inl, inr}
use Rattle.std.specs.Prelude.{filter, Contains, IsPermutation}
use Rattle.std.proofs.lemmas.Bool.{cases_eq}
use Rattle.ra_labels.specs.declared.kind.Kind.TheVariants.{Rga}
use Rattle.ra_labels.specs.declared.operation.Op.TheVariants as op
use Rattle.ra_labels.specs.declared.operation.Update.{Update}
use Rattle.ra_labels.specs.declared.operation.Update.TheVariants.{After, RgaRemove}
use Rattle.ra_labels.specs.Edges.{IsBefore}
use Rattle.ra_labels.specs.Records.{Records}
use Rattle.ra_labels.specs.Visibility.{sees}
use Rattle.ra_labels.specs.Rewriting.{Part, update_of, updates_of}
use Rattle.ra_labels.specs.Linearization.{parts_in, is_visible_to, visible_updates, IsRaLinearizationBy}
use Rattle.ra_labels.specs.TheoremTerms.{elements_in, WasInserted, HasNoDuplicates}
use Rattle.ra_labels.proofs.Members.{kept-there, there-kept}
use Rattle.ra_theorems.proofs.FilterMaps.{mapped_from, mapped_there}
use Rattle.ra_theorems.proofs.TheoremIndex.{rga_contents-elements, rga_contents-shown, rga_contents-once, linearization_by_visibility}
use Rattle.ra_rga_forks.specs.Forks.{Names}
use Rattle.ra_rga_forks.proofs.TheoremIndex.{anchor_first, inserted_before_named-root, inserted_before_named-named_in}
use Rattle.ra_rga_forks.proofs.Relatives.{wider_under}
use Rattle.ra_some_order.specs.SomeOrder.{SomeOrderExplains, EachLabelIsOfKind, update_order}
use Rattle.ra_some_order.specs.UpdateConditions.{IsOrderOfUpdates}
use Rattle.ra_some_order.proofs.TheoremIndex.{linearization_meets_conditions-order}
use Rattle.ra_rga_conditions.specs.Precedence.{HasOperationAt, Inserts, Needs, updates_seen, MustStandBefore}
use Rattle.ra_rga_conditions.specs.Plain.{AreInserted, IsPossibleRead, MeetsPlainConditions}
use Rattle.ra_rga_conditions.proofs.ListedReads.{shown_before, shown_once, together}
use Rattle.ra_rga_conditions.proofs.SortedLists.{never_both}
use Rattle.ra_rga_conditions.proofs.VisibleParts.{visible_seen, seen_visible}
use Rattle.ra_rga_conditions.proofs.Precedences.{Makes, makes, admitted, inserted_once, inserted_by, read_right, keeps_precedence}
use Rattle.ra_rga_conditions.proofs.ExplainedReads.{order_explains}

module _ (records : Records) (sequence : List Part) (of_kind : EachLabelIsOfKind Rga records)
    (linearizes : IsRaLinearizationBy (is_visible_to records) Rga records sequence) where
  abbrev same : IsPermutation (parts_in records) sequence
  same = linearizes.each_part_once

  abbrev its : Part → Option Update
  its p = update_of p.act

  -- what a label makes is among the updates
  made_there : (n : ℕ) (u : Update) → Makes records sequence linearizes n u → Contains (updates_of sequence) u
  made_there n u made = mapped_there its sequence made.part u made.there made.does

  abbrev list : List (ℕ × Bool)
  list = (admitted records sequence linearizes).0

  -- the update of a label that needs an element
  pub record IsNaming (n x : ℕ) : Type 0 where
    pub update : Update
    pub made : Makes records sequence linearizes n update
    pub names : Names update x

  naming : (n x : ℕ) → Needs records n x → IsNaming n x
  naming n x (inl (y, behind)) = record {
    update = After x y;
    made = makes records sequence linearizes n (op.After x y) (After x y) behind refl;
    names = inr (inl (y, refl));
  }
  naming n x (inr removes) = record {
    update = RgaRemove x;
    made = makes records sequence linearizes n (op.RgaRemove x) (RgaRemove x) removes refl;
    names = inr (inr refl);
  }

  -- an inserted element is one of a label
  inserting_label : (x : ℕ) → WasInserted x (updates_of sequence) → (m : ℕ) × Inserts records m x
  inserting_label x (b, there) =
      let (p, found, does) = mapped_from its sequence (After b x) there in
      (p.label.number, inserted_by records sequence linearizes p b x found does)

  inserted : AreInserted records
  inserted =
      let kept = inserted_before_named-root (updates_of sequence) list (admitted records sequence linearizes).1 in
      record {
        once = λ m n x first second. inserted_once records sequence linearizes m n x first second;
        not_root = λ n (a, has).
            kept.0 a (made_there n (After a 0) (makes records sequence linearizes n (op.After a 0) (After a 0) has refl));
        root_stays = λ n has.
            kept.1 (made_there n (RgaRemove 0) (makes records sequence linearizes n (op.RgaRemove 0) (RgaRemove 0) has refl));
        needed = λ n x needs apart.
            let named = naming n x needs in
            let there = inserted_before_named-named_in (updates_of sequence) list named.update x (admitted records sequence linearizes).1
            (made_there n named.update named.made) named.names in
            elim ((rga_contents-elements (updates_of sequence) list x (admitted records sequence linearizes).1).0 there) [
              | inl root ↦ absurd (apart root)
              | inr was ↦ inserting_label x was
            ];
      }

  possible : (n : ℕ) (asked : List ℕ) → HasOperationAt records n (op.RgaRead asked) → IsPossibleRead records n asked
  possible n asked read =
      let us = visible_updates records sequence n in
      let (state, state_is, asked_is) = read_right records sequence linearizes n asked read in
      let once = rga_contents-once us state state_is in
      record {
        closed = λ m x seen needs apart.
            let named = naming m x needs in
            let visible : Contains us named.update = mapped_there its
            (filter (λ (p : Part). sees records n p.label.number) sequence) named.made.part named.update
            (kept-there (λ (p : Part). sees records n p.label.number) sequence named.made.part named.made.there
            (ap (sees records n) named.made.number ∙ seen)) named.made.does in
            let there = inserted_before_named-named_in us state named.update x state_is visible named.names in
            elim ((rga_contents-elements us state x state_is).0 there) [
              | inl root ↦ absurd (apart root)
              | inr (b, was) ↦
                  let (p, p_visible, does) = mapped_from its (filter (λ (q : Part). sees records n q.label.number) sequence)
                  (After b x) was in
                  let (p_there, p_seen) = there-kept (λ (q : Part). sees records n q.label.number) sequence p p_visible in
                  (p.label.number, inserted_by records sequence linearizes p b x p_there does, p_seen)
            ];
        once = subst HasNoDuplicates (sym asked_is) (shown_once state once);
        listed = λ x. (
          (λ there.
              let (was, stays) = (rga_contents-shown us state x state_is).0 (subst (λ l. Contains l x) asked_is there) in (
                (was.0, visible_seen records sequence same of_kind n (After was.0 x) was.1),
                (λ removed. stays (seen_visible records sequence same n (RgaRemove x) removed)),
              )),
          (λ both.
              subst (λ l. Contains l x) (sym asked_is) ((rga_contents-shown us state x state_is).1 (
                (both.0.0, seen_visible records sequence same n (After both.0.0 x) both.0.1),
                (λ removed. both.1 (visible_seen records sequence same of_kind n (RgaRemove x) removed)),
              ))),
        );
        below = λ x y (before, after, listing) under.
            let (other, other_is, listed_is) = read_right records sequence linearizes n (before ++ x ∷ y ∷ after) listing in
            let first = shown_before other x y (subst (λ l. IsBefore l x y) listed_is (together before after x y)) in
            let in_us = wider_under (updates_seen records n) us (λ u there. seen_visible records sequence same n u there) x y under in
            let other_once = rga_contents-once us other other_is in
            elim (cases_eq x y) [
              | inl is ↦
                  never_both (elements_in other) x y other_once first
                  (subst (IsBefore (elements_in other) y) (sym is) (subst (λ k. IsBefore (elements_in other) k y) is first))
              | inr apart ↦ never_both (elements_in other) x y other_once first (anchor_first us other x y other_is in_us apart)
            ];
      }

  pub plain_hold : MeetsPlainConditions records
  plain_hold = record { inserted = inserted; reads = possible }

pub some_order_iff : (records : Records) → EachLabelIsOfKind Rga records → SomeOrderExplains Rga records
    ↔ (MeetsPlainConditions records × ((order : List ℕ) × IsOrderOfUpdates records order
    × ((m n : ℕ) → MustStandBefore records m n → IsBefore order m n)))
some_order_iff records of_kind = (
  (λ (sequence, linearizes).
      let by_visibility = linearization_by_visibility Rga records sequence linearizes in (
        plain_hold records sequence of_kind by_visibility,
        (
          update_order sequence,
          linearization_meets_conditions-order Rga records sequence by_visibility,
          (λ m n first. keeps_precedence records sequence by_visibility m n first),
        ),
      )),
  (λ (plain, (order, updates, keeps)).
      let (sequence, linearizes, is) = order_explains records order of_kind plain updates keeps in (sequence, linearizes)),
)
