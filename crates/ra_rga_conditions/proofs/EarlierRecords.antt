-- Lemmas on earlier records: an order that explains later ones explains them too, if they insert what they need.
use Rattle.std.proofs.Common.{◌≡◌, ◌↔◌, ℕ, ◌<◌, true, List, [], ◌∷◌, ◌++◌, filter, refl, sym, ap, ◌∙◌, subst, inl, inr, arith}
use Rattle.std.specs.Prelude.{filter_map, Contains}
use Rattle.ra_labels.specs.declared.kind.Kind.TheVariants.{Rga}
use Rattle.ra_labels.specs.declared.operation.Op.{Op}
use Rattle.ra_labels.specs.declared.operation.Op.TheVariants as op
use Rattle.ra_labels.specs.declared.operation.Update.{Update}
use Rattle.ra_labels.specs.declared.operation.Update.TheVariants.{RgaRemove}
use Rattle.ra_labels.specs.declared.label.Label.{Label}
use Rattle.ra_labels.specs.declared.command.Command.TheVariants.{Operate, Deliver, Join, Verdict}
use Rattle.ra_labels.specs.Records.{Records, label_count, labels_of}
use Rattle.ra_labels.specs.Visibility.{is_update, is_update_at}
use Rattle.ra_labels.specs.HistorySoFar.{label_of}
use Rattle.ra_labels.specs.Rewriting.{Part}
use Rattle.ra_labels.specs.Linearization.{is_visible_to, IsRaLinearizationBy}
use Rattle.ra_labels.specs.TheoremTerms.{WasInserted}
use Rattle.ra_labels.proofs.Members.{head_or_behind, behind_head}
use Rattle.ra_theorems.specs.AnyOrder.{NoneLinearizes}
use Rattle.ra_theorems.proofs.LabelNumbers.{label_count-append}
use Rattle.ra_theorems.proofs.TheoremIndex.{linearization_by_visibility, sees_persists, is_update_persists, delivered_are_updates-there, sees_earlier_updates-updates}
use Rattle.ra_rga_forks.specs.Forks.{IsUnder, IsFork}
use Rattle.ra_some_order.specs.SomeOrder.{SomeOrderExplains, EachLabelIsOfKind, update_order}
use Rattle.ra_some_order.proofs.EarlierRecords.{earlier_order}
use Rattle.ra_some_order.proofs.LabelOrders.{before_filtered}
use Rattle.ra_some_order.proofs.LabelSequences.{updates_at as label_updates}
use Rattle.ra_some_order.proofs.NewLabels.{visible_stays, label_below, seen_below}
use Rattle.ra_some_order.proofs.TheoremIndex.{linearization_meets_conditions-order}
use Rattle.ra_rga_conditions.specs.Precedence.{HasOperationAt, Inserts, Needs, MustStandBefore, Seen, Needed, Read, rga_update, updates_seen}
use Rattle.ra_rga_conditions.specs.Plain.{HasWhatItNeeds, IsPossibleRead, MeetsPlainConditions}
use Rattle.ra_rga_conditions.proofs.Precedences.{keeps_precedence}
use Rattle.ra_rga_conditions.proofs.PlainConditions.{plain_hold, some_order_iff}

-- ---- labels that stand for one another are updates
operation_updates : (records : Records) (n : ℕ) (operation : Op) → HasOperationAt records n operation
    → is_update operation ≡ true → is_update_at records n ≡ true
operation_updates records n operation (label, there, numbered, is) updates =
    ap (is_update_at records) (sym numbered) ∙ label_updates records label there ∙ ap is_update is ∙ updates

inserts_updates : (records : Records) (n x : ℕ) → Inserts records n x → is_update_at records n ≡ true
inserts_updates records n x (a, has) = operation_updates records n (op.After a x) has refl

needs_updates : (records : Records) (n x : ℕ) → Needs records n x → is_update_at records n ≡ true
needs_updates records n x (inl (y, has)) = operation_updates records n (op.After x y) has refl
needs_updates records n x (inr has) = operation_updates records n (op.RgaRemove x) has refl

pub precedes_updates : (records : Records) (m n : ℕ) → MustStandBefore records m n
    → (is_update_at records m ≡ true) × (is_update_at records n ≡ true)
precedes_updates records m n (Seen updates seen) = (sees_earlier_updates-updates records n m seen, updates)
precedes_updates records m n (Needed x inserts needs) =
    (inserts_updates records m x inserts, needs_updates records n x needs)
precedes_updates records m n (Read its) =
    (inserts_updates records m its.right its.inserts_right, inserts_updates records n its.left its.inserts_left)

-- ---- labels in later records
label_stays : (later records : Records) (label : Label) → Contains (labels_of records) label
    → Contains (labels_of (later ++ records)) label
label_stays [] records label there = there
label_stays (Operate by op clock ∷ later) records label there =
    behind_head (label_of (later ++ records) (record { by = by; op = op; clock = clock })) (labels_of (later ++ records))
    label (label_stays later records label there)
label_stays (Deliver to m ∷ later) records label there = label_stays later records label there
label_stays (Join joined from ∷ later) records label there = label_stays later records label there
label_stays (Verdict ∷ later) records label there = label_stays later records label there

label_was : (later records : Records) (label : Label) → label.number < label_count records
    → Contains (labels_of (later ++ records)) label → Contains (labels_of records) label
label_was [] records label below there = there
label_was (Operate by op clock ∷ later) records label below there =
    let grows = label_count-append later records in
    elim (head_or_behind (label_of (later ++ records) (record { by = by; op = op; clock = clock }))
    (labels_of (later ++ records)) label there) [
      | inl here ↦
          let number : label.number ≡ label_count (later ++ records) = ap (λ (l : Label). l.number) (sym here) in
          absurd (omega (arith, below, grows, number))
      | inr further ↦ label_was later records label below further
    ]
label_was (Deliver to m ∷ later) records label below there = label_was later records label below there
label_was (Join joined from ∷ later) records label below there = label_was later records label below there
label_was (Verdict ∷ later) records label below there = label_was later records label below there

module _ (later records : Records) where
  abbrev all : Records
  all = later ++ records

  stays : (n : ℕ) (operation : Op) → HasOperationAt records n operation → HasOperationAt all n operation
  stays n operation (label, there, numbered, is) = (label, label_stays later records label there, numbered, is)

  was : (n : ℕ) (operation : Op) → n < label_count records → HasOperationAt all n operation
      → HasOperationAt records n operation
  was n operation below (label, there, numbered, is) =
      (label, label_was later records label (subst (λ k. k < label_count records) (sym numbered) below) there, numbered, is)

  exists : (n : ℕ) (operation : Op) → HasOperationAt records n operation → n < label_count records
  exists n operation (label, there, numbered, is) =
      subst (λ k. k < label_count records) numbered (label_below records label there)

  needs_later : (n x : ℕ) → Needs records n x → Needs all n x
  needs_later n x (inl (y, has)) = inl (y, stays n (op.After x y) has)
  needs_later n x (inr has) = inr (stays n (op.RgaRemove x) has)

  inserts_later : (n x : ℕ) → Inserts records n x → Inserts all n x
  inserts_later n x (a, has) = (a, stays n (op.After a x) has)

  seen_same : (n : ℕ) → n < label_count records → updates_seen all n ≡ updates_seen records n
  seen_same n below =
      ap (λ (visible : List Label). filter_map (λ label. rga_update label.op) visible) (visible_stays later records n below)

  possible_earlier : (n : ℕ) (list : List ℕ) → HasOperationAt records n (op.RgaRead list)
      → IsPossibleRead all n list → IsPossibleRead records n list
  possible_earlier n list has its =
      let below = exists n (op.RgaRead list) has in
      let same = seen_same n below in
      record {
        closed = λ m x seen needs apart.
            let (k, (a, inserts), visible) =
            its.closed m x (sees_persists later records n m below ∙ seen) (needs_later m x needs) apart in
            let sees_it = sym (sees_persists later records n k below) ∙ visible in
            (k, (a, was k (op.After a x) (seen_below records n k sees_it) inserts), sees_it);
        once = its.once;
        listed = subst (λ (us : List Update). (x : ℕ) → Contains list x ↔ (WasInserted x us × ¬ Contains us (RgaRemove x)))
            same its.listed;
        below = λ x y (before, after, together) under.
            its.below x y (before, after, stays n (op.RgaRead (before ++ x ∷ y ∷ after)) together)
            (subst (λ us. IsUnder us x y) (sym same) under);
      }

  plain_earlier : HasWhatItNeeds records → MeetsPlainConditions all → MeetsPlainConditions records
  plain_earlier needed meets = record {
    inserted = record {
      once = λ m n x first second. meets.inserted.once m n x (inserts_later m x first) (inserts_later n x second);
      not_root = λ n inserts. meets.inserted.not_root n (inserts_later n 0 inserts);
      root_stays = λ n removes. meets.inserted.root_stays n (stays n (op.RgaRemove 0) removes);
      needed = needed;
    };
    reads = λ n list has. possible_earlier n list has (meets.reads n list (stays n (op.RgaRead list) has));
  }

  precedes_later : (m n : ℕ) → MustStandBefore records m n → MustStandBefore all m n
  precedes_later m n (Seen updates seen) =
      let below = delivered_are_updates-there records n updates in
      Seen (is_update_persists later records n below ∙ updates) (sees_persists later records n m below ∙ seen)
  precedes_later m n (Needed x inserts needs) = Needed x (inserts_later m x inserts) (needs_later n x needs)
  precedes_later m n (Read its) =
      let (before, after, together) = its.listed in
      let has = op.RgaRead (before ++ its.first ∷ its.second ∷ after) in
      let same = seen_same its.read (exists its.read has together) in
      Read (record {
        read = its.read;
        first = its.first;
        second = its.second;
        listed = (before, after, stays its.read has together);
        left = its.left;
        right = its.right;
        fork = subst (λ us. IsFork us its.first its.second its.left its.right) (sym same) its.fork;
        inserts_left = inserts_later n its.left its.inserts_left;
        inserts_right = inserts_later m its.right its.inserts_right;
      })

  earlier_of_kind : EachLabelIsOfKind Rga all → EachLabelIsOfKind Rga records
  earlier_of_kind of_kind label there = of_kind label (label_stays later records label there)

  explained_earlier : EachLabelIsOfKind Rga all → HasWhatItNeeds records → (sequence : List Part)
      → IsRaLinearizationBy (is_visible_to all) Rga all sequence → SomeOrderExplains Rga records
  explained_earlier of_kind needed sequence linearizes =
      let order = update_order sequence in
      (some_order_iff records (earlier_of_kind of_kind)).1 (
        plain_earlier needed (plain_hold all sequence of_kind linearizes),
        (
          filter (is_update_at records) order,
          earlier_order later records order (linearization_meets_conditions-order Rga all sequence linearizes),
          (λ m n first.
              let (m_updates, n_updates) = precedes_updates records m n first in
              before_filtered (is_update_at records) order m n m_updates n_updates
              (keeps_precedence all sequence linearizes m n (precedes_later m n first))),
        ),
      )

pub none_later : (later records : Records) → EachLabelIsOfKind Rga (later ++ records) → HasWhatItNeeds records
    → NoneLinearizes Rga records → NoneLinearizes Rga (later ++ records)
none_later later records of_kind needed none sequence linearizes =
    let (earlier, explains) = explained_earlier later records of_kind needed sequence linearizes in
    none earlier (linearization_by_visibility Rga records earlier explains)
