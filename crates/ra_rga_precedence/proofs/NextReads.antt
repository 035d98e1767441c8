-- Lemmas on a read that comes next: the operations with that of the read are those of the records with it.
use Rattle.std.proofs.Common.{◌≡◌, ℕ, zero, suc, ◌+◌, ◌<◌, List, [], ◌∷◌, ◌++◌, Option, Some, None, length, refl, sym, ap, ◌∙◌, subst, inl, inr, arith}
use Rattle.std.specs.Prelude.{slice_get, option_map, map, Contains}
use Rattle.std.specs.Borrow.{Bor}
use Rattle.std.proofs.lemmas.Bool.{cases_lt}
use Rattle.std.proofs.lemmas.Option.{none-some}
use Rattle.std.proofs.lemmas.List.{map-append}
use Rattle.ra_labels.specs.declared.kind.Kind.TheVariants.{Rga}
use Rattle.ra_labels.specs.declared.operation.Op.{Op}
use Rattle.ra_labels.specs.declared.operation.Op.TheVariants as op
use Rattle.ra_labels.specs.declared.label.Label.{Label}
use Rattle.ra_labels.specs.Answer.{kind_of}
use Rattle.ra_labels.specs.HistorySoFar.{History, history_with, operate, next_operation, label_of}
use Rattle.ra_labels.specs.Records.{Records, label_count, labels_of, label_at}
use Rattle.ra_labels.proofs.Members.{head_or_behind}
use Rattle.ra_theorems.proofs.LabelNumbers.{label_at-append, label_at-operation, label_there, no_label_there}
use Rattle.ra_some_order.specs.SomeOrder.{EachLabelIsOfKind}
use Rattle.ra_visibility.specs.Tracked.{Tracked}
use Rattle.ra_rga_precedence.specs.Nearest.{with_read, IsPastOfRead}
use Rattle.ra_rga_precedence.specs.Situation.{operations_in, IsHistoryOf}
use Rattle.ra_rga_precedence.proofs.ConditionLists.{AreListed}

-- ---- a list of operations
get_past : (xs : List Op) → slice_get xs (length xs) ≡ None
get_past [] = refl
get_past (x ∷ xs) = get_past xs

get_within : (xs : List Op) (k : ℕ) → k < length xs → (x : Op) × (slice_get xs k ≡ Some x)
get_within [] k within = absurd (omega (arith, within))
get_within (x ∷ xs) zero within = (x, refl)
get_within (x ∷ xs) (suc k) within = get_within xs k (omega (arith, within))

get_first : (xs ys : List Op) (k : ℕ) → k < length xs → slice_get (xs ++ ys) k ≡ slice_get xs k
get_first [] ys k within = absurd (omega (arith, within))
get_first (x ∷ xs) ys zero within = refl
get_first (x ∷ xs) ys (suc k) within = get_first xs ys k (omega (arith, within))

get_last : (xs : List Op) (y : Op) → slice_get (xs ++ y ∷ []) (length xs) ≡ Some y
get_last [] y = refl
get_last (x ∷ xs) y = get_last xs y

get_beyond : (xs : List Op) (y : Op) (k : ℕ) → length xs < k → slice_get (xs ++ y ∷ []) k ≡ None
get_beyond [] y zero beyond = absurd (omega (arith, beyond))
get_beyond [] y (suc k) beyond = refl
get_beyond (x ∷ xs) y zero beyond = absurd (omega (arith, beyond))
get_beyond (x ∷ xs) y (suc k) beyond = get_beyond xs y k (omega (arith, beyond))

module _ (before : Records) (operations : List Op) (listed : AreListed before operations) where
  abbrev n : ℕ
  n = label_count before

  as_long : length operations ≡ n
  as_long = elim (cases_lt (length operations) n) [
    | inl short ↦
        let (label, at, numbered) = label_there before (length operations) short in
        absurd (none-some label.op (sym (get_past operations) ∙ listed (length operations)
        ∙ ap (option_map (λ (l : Label). l.op)) at))
    | inr enough ↦ elim (cases_lt n (length operations)) [
      | inl long ↦
          let (x, is) = get_within operations n long in
          absurd (none-some x (sym (ap (option_map (λ (l : Label). l.op)) (no_label_there before n (omega arith)))
          ∙ sym (listed n) ∙ is))
      | inr few ↦ omega (arith, enough, few)
    ]
  ]

  module _ (by : ℕ) (list : List ℕ) where
    abbrev read : Op
    read = op.RgaRead list

    pub listed_with : AreListed (with_read before by list) (operations ++ read ∷ [])
    listed_with k = elim (cases_lt k n) [
      | inl low ↦
          get_first operations (read ∷ []) k (omega (arith, low, as_long)) ∙ listed k
          ∙ sym (ap (option_map (λ (l : Label). l.op))
          (label_at-append (operate (next_operation by read None) ∷ []) before k low))
      | inr high ↦ elim (cases_lt n k) [
        | inl beyond ↦
            get_beyond operations read k (omega (arith, beyond, as_long))
            ∙ sym (ap (option_map (λ (l : Label). l.op))
            (no_label_there (with_read before by list) k (omega (arith, beyond))))
        | inr last ↦
            let is : k ≡ n = omega (arith, high, last) in
            subst (λ j. slice_get (operations ++ read ∷ []) j
            ≡ option_map (λ (l : Label). l.op) (label_at (with_read before by list) j)) (sym is)
            (subst (λ j. slice_get (operations ++ read ∷ []) j ≡ Some read) as_long (get_last operations read)
            ∙ sym (ap (option_map (λ (l : Label). l.op))
            (label_at-operation [] before (next_operation by read None))))
      ]
    ]

pub of_kind_with : (before : Records) (by : ℕ) (list : List ℕ) → EachLabelIsOfKind Rga before
    → EachLabelIsOfKind Rga (with_read before by list)
of_kind_with before by list of_kind label there =
    elim (head_or_behind (label_of before (next_operation by (op.RgaRead list) None)) (labels_of before) label there) [
      | inl here ↦ subst (λ (l : Label). kind_of l.op ≡ Rga) here refl
      | inr further ↦ of_kind label further
    ]

-- the tracker and all operations represent the past with the read
pub history_of_read : (tracked : Tracked) (operations : List (Bor Op)) (read : Bor Op) (past : History)
    (replica : ℕ) (list : List ℕ) → IsPastOfRead tracked (operations_in operations) past replica
    → read.now ≡ op.RgaRead list
    → IsHistoryOf tracked (operations_in (operations ++ read ∷ []))
    (history_with past (operate (next_operation replica (op.RgaRead list) None)))
history_of_read tracked operations read past replica list its is = record {
  visibility = its.visibility list;
  listed =
      subst (AreListed (with_read past.records replica list))
      (sym (map-append (λ (b : Bor Op). b.now) operations (read ∷ [])
      ∙ ap (λ o. operations_in operations ++ o ∷ []) is))
      (listed_with past.records (operations_in operations) its.listed replica list);
  kind = its.kind;
  of_kind =
      subst (λ k. EachLabelIsOfKind k (with_read past.records replica list)) (sym its.kind)
      (of_kind_with past.records replica list
      (subst (λ k. EachLabelIsOfKind k past.records) its.kind its.of_kind));
}
