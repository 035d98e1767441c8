-- Each sequence that linearizes the records of an RGA keeps the precedence of its updates.
use Rattle.std.proofs.Common.{◌≡◌, ℕ, Bool, true, false, List, [], ◌∷◌, ◌++◌, Option, Some, None, refl, sym, ap, ◌∙◌, subst, inl, inr}
use Rattle.std.specs.Prelude.{is_some, map, Contains, IsPermutation}
use Rattle.std.specs.Option.{option_map_or}
use Rattle.std.proofs.lemmas.Bool.{cases_eq, false≢true}
use Rattle.std.proofs.lemmas.List.Elements.{Contains-append_left, Contains-append_right}
use Rattle.std.proofs.lemmas.List.Sorted.{Contains-permutation, IsPermutation-sym}
use Rattle.ra_labels.specs.declared.kind.Kind.TheVariants.{Rga}
use Rattle.ra_labels.specs.declared.operation.Op.{Op}
use Rattle.ra_labels.specs.declared.operation.Op.TheVariants as op
use Rattle.ra_labels.specs.declared.list_operation.ListOp.TheVariants as list
use Rattle.ra_labels.specs.declared.operation.Update.{Update}
use Rattle.ra_labels.specs.declared.operation.Update.TheVariants.{After, RgaRemove}
use Rattle.ra_labels.specs.declared.operation.Query.TheVariants.{RgaRead}
use Rattle.ra_labels.specs.declared.label.Label.{Label}
use Rattle.ra_labels.specs.Edges.{IsBefore}
use Rattle.ra_labels.specs.Lists.{shown}
use Rattle.ra_labels.specs.Records.{Records, labels_of}
use Rattle.ra_labels.specs.Visibility.{sees}
use Rattle.ra_labels.specs.Specification.{State, Listed, state_after, answers, is_answered_after}
use Rattle.ra_labels.specs.Rewriting.{Part, Whole, Asks, part_of, parts_of, acts_of, update_of, updates_of}
use Rattle.ra_labels.specs.Linearization.{parts_in, is_visible_to, visible_updates, is_query_admitted, IsRaLinearizationBy}
use Rattle.ra_labels.specs.TheoremTerms.{StandsBefore}
use Rattle.ra_labels.proofs.InLists.{list_all-contains}
use Rattle.ra_labels.proofs.Members.{at_head, in_piece}
use Rattle.ra_theorems.proofs.FilterMaps.{mapped_there}
use Rattle.ra_theorems.proofs.TheoremIndex.{state_kind, rga_read_answer, label_at_each_number-one}
use Rattle.ra_rga_forks.specs.Forks.{Names}
use Rattle.ra_rga_forks.proofs.ListedOrders.{listed_state}
use Rattle.ra_rga_forks.proofs.Relatives.{wider_fork}
use Rattle.ra_rga_forks.proofs.TheoremIndex.{later_child_first, inserted_before_named-itself, inserted_before_named-named}
use Rattle.ra_some_order.specs.SomeOrder.{update_order}
use Rattle.ra_some_order.proofs.TheoremIndex.{linearization_meets_conditions-visibility}
use Rattle.ra_some_order.proofs.MadeUpdates.{update_made, part_makes}
use Rattle.ra_some_order.proofs.UpdateOrders.{update_in_order}
use Rattle.ra_some_order.proofs.VisibleOrders.{stands_in_order}
use Rattle.ra_rga_conditions.specs.Precedence.{HasOperationAt, Inserts, Needs, updates_seen, IsRead, MustStandBefore, Seen, Needed, Read}
use Rattle.ra_rga_conditions.proofs.SequenceOrders.{stand_from, stand_to, tested, filtered, tested_from, either_before}
use Rattle.ra_rga_conditions.proofs.ListedReads.{shown_before, together}
use Rattle.ra_rga_conditions.proofs.VisibleParts.{seen_visible}

-- a state that is there
listed_if_some : (us : List Update) (o : Option State) → state_after Rga us ≡ o → is_some o ≡ true
    → (list : List (ℕ × Bool)) × (state_after Rga us ≡ Some (Listed list))
listed_if_some us None is some = absurd (false≢true some)
listed_if_some us (Some state) is some =
    let (list, same) = listed_state state (state_kind Rga us state is) in
    (list, is ∙ ap Some same)

-- and what it answers
answered : (us : List Update) (asked : List ℕ) (o : Option State) → state_after Rga us ≡ o
    → option_map_or (λ state. answers state (RgaRead asked)) o false ≡ true
    → (list : List (ℕ × Bool)) × (state_after Rga us ≡ Some (Listed list)) × (asked ≡ shown list)
answered us asked None is right = absurd (false≢true right)
answered us asked (Some state) is right =
    let (list, same) = listed_state state (state_kind Rga us state is) in
    (list, is ∙ ap Some same, (rga_read_answer list asked).0 (sym (ap (λ s. answers s (RgaRead asked)) same) ∙ right))

-- `true` of an insertion
abbrev is_insertion : Option Update → Bool
is_insertion (Some (After anchor x)) = true
is_insertion _ = false

-- the operation that makes an insertion
inserting : (operation : Op) (a x : ℕ) → update_made operation ≡ Some (After a x) → operation ≡ op.After a x
inserting (op.After b y) a x is = let this : Some (After b y) ≡ Some (After a x) = is in cc (this)
inserting (op.List (list.Insert insertion)) a x is = absurd (false≢true (ap is_insertion is))
inserting (op.List (list.Remove y)) a x is = absurd (false≢true (ap is_insertion is))
inserting (op.List (list.Read elements)) a x is = absurd (false≢true (ap is_insertion is))
inserting (op.List (list.Part elements)) a x is = absurd (false≢true (ap is_insertion is))
inserting _ a x is = absurd (false≢true (ap is_insertion is))

stands_first : {A : Type 0} {p q : A} {xs : List A} → StandsBefore p q xs → Contains xs p
stands_first {A} {p} {q} {xs} (before, between, after, split) =
    subst (λ ys. Contains ys p) (sym split)
    (Contains-append_left (before ++ p ∷ between) (q ∷ after) p (Contains-append_right before (p ∷ between) p (at_head p between p refl)))

stands_second : {A : Type 0} {p q : A} {xs : List A} → StandsBefore p q xs → Contains xs q
stands_second {A} {p} {q} {xs} (before, between, after, split) =
    subst (λ ys. Contains ys q) (sym split)
    (Contains-append_right (before ++ p ∷ between) (q ∷ after) q (at_head q after q refl))

module _ (records : Records) (sequence : List Part) (linearizes : IsRaLinearizationBy (is_visible_to records) Rga records sequence) where
  abbrev same : IsPermutation (parts_in records) sequence
  same = linearizes.each_part_once

  -- the part of a label that makes an update
  pub record Makes (n : ℕ) (u : Update) : Type 0 where
    pub part : Part
    pub there : Contains sequence part
    pub number : part.label.number ≡ n
    pub does : update_of part.act ≡ Some u

  pub makes : (n : ℕ) (operation : Op) (u : Update) → HasOperationAt records n operation → update_made operation ≡ Some u
      → Makes n u
  makes n operation u (label, found, numbered, is) made =
      let (p, there, of_label, does) = update_in_order records sequence same label u found (ap update_made is ∙ made) in
      record { part = p; there = there; number = ap (λ (l : Label). l.number) of_label ∙ numbered; does = does }

  -- all updates are admitted
  pub admitted : (list : List (ℕ × Bool)) × (state_after Rga (updates_of sequence) ≡ Some (Listed list))
  admitted = listed_if_some (updates_of sequence) (state_after Rga (updates_of sequence)) refl linearizes.updates

  -- the insertion of an element comes before what names it
  inserted_first : (m n x anchor : ℕ) (named : Update) → Makes m (After anchor x) → Makes n named → Names named x
      → ¬ (m ≡ n) → IsBefore (update_order sequence) m n
  inserted_first m n x anchor named inserts names is apart =
      let p = inserts.part in
      let q = names.part in
      elim (either_before sequence p q inserts.there names.there
      (λ is_same. apart (sym inserts.number ∙ ap (λ (r : Part). r.label.number) is_same ∙ names.number))) [
        | inl first ↦
            subst (λ k. IsBefore (update_order sequence) k n) inserts.number
            (subst (IsBefore (update_order sequence) p.label.number) names.number
            (stands_in_order sequence p q (ap is_some inserts.does) (ap is_some names.does) first))
        | inr later ↦
            absurd (inserted_before_named-named (updates_of sequence) admitted.0 named anchor x admitted.1
            (stand_to (λ (r : Part). update_of r.act) sequence q p named (After anchor x) later names.does inserts.does) is)
      ]

  pub inserted_once : (m n x : ℕ) → Inserts records m x → Inserts records n x → m ≡ n
  inserted_once m n x (a, first) (b, second) = elim (cases_eq m n) [
    | inl is ↦ is
    | inr apart ↦
        let one = makes m (op.After a x) (After a x) first refl in
        let other = makes n (op.After b x) (After b x) second refl in
        elim (either_before sequence one.part other.part one.there other.there
        (λ is_same. apart (sym one.number ∙ ap (λ (r : Part). r.label.number) is_same ∙ other.number))) [
          | inl before ↦
              absurd (inserted_before_named-named (updates_of sequence) admitted.0 (After a x) b x admitted.1
              (stand_to (λ (r : Part). update_of r.act) sequence one.part other.part (After a x) (After b x) before one.does other.does)
              (inl (a, refl)))
          | inr behind ↦
              absurd (inserted_before_named-named (updates_of sequence) admitted.0 (After b x) a x admitted.1
              (stand_to (λ (r : Part). update_of r.act) sequence other.part one.part (After b x) (After a x) behind other.does one.does)
              (inl (b, refl)))
        ]
  ]

  -- no label needs the element that it inserts
  not_own : (m x : ℕ) → Inserts records m x → ¬ Needs records m x
  not_own m x (a, (label, found, numbered, is)) (inl (y, (other, there, again, also))) =
      let one = label_at_each_number-one records label other found there (numbered ∙ sym again) in
      let same_op : op.After a x ≡ op.After x y = sym is ∙ ap (λ (l : Label). l.op) one ∙ also in
      let behind : a ≡ x = cc (same_op) in
      let makes_it = makes m (op.After a x) (After a x) (label, found, numbered, is) refl in
      inserted_before_named-itself (updates_of sequence) admitted.0 x admitted.1
      (mapped_there (λ (r : Part). update_of r.act) sequence makes_it.part (After x x) makes_it.there
      (makes_it.does ∙ ap (λ k. Some (After k x)) behind))
  not_own m x (a, (label, found, numbered, is)) (inr (other, there, again, also)) =
      let one = label_at_each_number-one records label other found there (numbered ∙ sym again) in
      let same_op : op.After a x ≡ op.RgaRemove x = sym is ∙ ap (λ (l : Label). l.op) one ∙ also in
      cc (same_op)

  needed_first : (m n x : ℕ) → Inserts records m x → Needs records n x → IsBefore (update_order sequence) m n
  needed_first m n x inserts needs =
      let apart : ¬ (m ≡ n) = λ is. not_own m x inserts (subst (λ k. Needs records k x) (sym is) needs) in
      let (a, inserting) = inserts in
      let first = makes m (op.After a x) (After a x) inserting refl in
      elim needs [
        | inl (y, behind) ↦
            inserted_first m n x a (After x y) first (makes n (op.After x y) (After x y) behind refl) (inr (inl (y, refl))) apart
        | inr removes ↦
            inserted_first m n x a (RgaRemove x) first (makes n (op.RgaRemove x) (RgaRemove x) removes refl) (inr (inr refl)) apart
      ]

  -- a part that inserts an element is one of a label that does
  pub inserted_by : (p : Part) (a x : ℕ) → Contains sequence p → update_of p.act ≡ Some (After a x) → Inserts records p.label.number x
  inserted_by p a x there does =
      let (found, made) = part_makes records p (After a x)
      (Contains-permutation sequence (parts_in records) p (IsPermutation-sym (parts_in records) sequence same) there) does in
      (a, (p.label, found, refl, inserting p.label.op a x made))

  -- a read is right after the updates that it sees
  pub read_right : (n : ℕ) (asked : List ℕ) → HasOperationAt records n (op.RgaRead asked)
      → (list : List (ℕ × Bool)) × (state_after Rga (visible_updates records sequence n) ≡ Some (Listed list))
      × (asked ≡ shown list)
  read_right n asked (label, found, numbered, is) =
      let part = part_of label (Whole, Asks (RgaRead asked)) in
      let in_parts : Contains (parts_in records) part = in_piece parts_of (labels_of records) label part found
      (subst (λ o. Contains (map (part_of label) (acts_of o)) part) (sym is) (at_head part [] part refl)) in
      let among = Contains-permutation (parts_in records) sequence part same in_parts in
      let right : is_query_admitted Rga records sequence part ≡ true =
      list_all-contains (is_query_admitted Rga records sequence) sequence part linearizes.queries among in
      answered (visible_updates records sequence n) asked (state_after Rga (visible_updates records sequence n)) refl
      (subst (λ k. is_answered_after Rga (visible_updates records sequence k) (RgaRead asked) ≡ true) numbered right)

  read_first : (m n : ℕ) → IsRead records m n → IsBefore (update_order sequence) m n
  read_first m n read =
      let q = read.read in
      let us = visible_updates records sequence q in
      let (before, after, listing) = read.listed in
      let (list, state_is, asked_is) = read_right q (before ++ read.first ∷ read.second ∷ after) listing in
      let first = shown_before list read.first read.second
      (subst (λ ys. IsBefore ys read.first read.second) asked_is (together before after read.first read.second)) in
      let fork = wider_fork (updates_seen records q) us (seen_visible records sequence same q) read.first read.second read.left read.right read.fork in
      let (b, a, stands) = (later_child_first us list read.first read.second read.left read.right state_is fork).0 first in
      let test = λ (r : Part). sees records q r.label.number in
      let update = λ (r : Part). update_of r.act in
      let (p, r, ordered, p_is, r_is) = stand_from (tested update test) sequence (After b read.right) (After a read.left)
      (subst (StandsBefore (After b read.right) (After a read.left)) (filtered update test sequence) stands) in
      let p_does = (tested_from update test p (After b read.right) p_is).1 in
      let r_does = (tested_from update test r (After a read.left) r_is).1 in
      let p_there = stands_first ordered in
      let r_there = stands_second ordered in
      let p_number = inserted_once p.label.number m read.right (inserted_by p b read.right p_there p_does) read.inserts_right in
      let r_number = inserted_once r.label.number n read.left (inserted_by r a read.left r_there r_does) read.inserts_left in
      subst (λ k. IsBefore (update_order sequence) k n) p_number
      (subst (IsBefore (update_order sequence) p.label.number) r_number
      (stands_in_order sequence p r (ap is_some p_does) (ap is_some r_does) ordered))

  pub keeps_precedence : (m n : ℕ) → MustStandBefore records m n → IsBefore (update_order sequence) m n
  keeps_precedence m n (Seen updates seen) =
      linearization_meets_conditions-visibility Rga records sequence linearizes n m updates seen
  keeps_precedence m n (Needed x inserts needs) = needed_first m n x inserts needs
  keeps_precedence m n (Read read) = read_first m n read
