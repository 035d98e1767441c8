-- Lemmas on the order with a new label.
use Rattle.std.proofs.Common.{◌≡◌, ℕ, Bool, true, false, List, [], ◌∷◌, ◌++◌, length, Option, Some, None, refl, sym, ap, ◌∙◌, subst, inl, inr, arith}
use Rattle.std.specs.Prelude.{Contains, All, map, take, drop, unwrap_or}
use Rattle.std.specs.List.{insert}
use Rattle.std.specs.List.Sorted.{IsPartitionedBy}
use Rattle.std.proofs.lemmas.Bool.{false≢true, cases_Bool}
use Rattle.std.proofs.lemmas.List.{take-map, drop-map, map-append}
use Rattle.std.proofs.lemmas.List.Elements.{All-weaker, All-contains_itself, All-head, All-tail}
use Rattle.ra_labels.specs.declared.operation.Op.{Op}
use Rattle.ra_labels.specs.declared.operation.Op.TheVariants as op
use Rattle.ra_labels.specs.declared.label.Stamp.{Stamp}
use Rattle.ra_labels.specs.declared.label.Label.{Label}
use Rattle.ra_labels.specs.Answer.{carries_stamp}
use Rattle.ra_labels.specs.NamedOrder.{named_labels}
use Rattle.ra_labels.specs.Records.{Records, label_count, labels_of, next_label}
use Rattle.ra_labels.specs.Visibility.{is_update}
use Rattle.ra_labels.specs.HistorySoFar.{History, history_with, NextOperation, operate, label_of}
use Rattle.ra_labels.proofs.Members.{head_or_behind}
use Rattle.ra_theorems.proofs.TheoremIndex.{well_formed_iff, operation_accepted_iff}
use Rattle.ra_visibility.specs.Seen.{Seen, count_in}
use Rattle.ra_visibility.specs.Order.{ComesNext}
use Rattle.ra_time_order.specs.declared.entry.Entry.{Entry}
use Rattle.ra_time_order.specs.RunningMaxima.{RunningMaxima}
use Rattle.ra_time_order.specs.Sorted.{Sorted}
use Rattle.ra_time_order.specs.Positions.{not_above, IsPositionOf}
use Rattle.ra_time_order.specs.Stamps.{AreGreatestOf, greatest_in, stamps_with}
use Rattle.ra_time_order.specs.Standing.{TimeOrder, time_order_of, entry_of, IsTimeOrderOf}
use Rattle.ra_time_order.proofs.Table.{greatest_with_label}
use Rattle.ra_time_order.proofs.Places.{its_rank, rank_is, rank_before, is_label, inserted, next_there, rank_same, entries_same, splits, position_same}

map_same : (f g : Label → Entry) (xs : List Label) → All (λ l. f l ≡ g l) xs → map f xs ≡ map g xs
map_same f g [] same = refl
map_same f g (x ∷ xs) same =
    ap (λ e. e ∷ map f xs) (All-head (λ l. f l ≡ g l) x xs same)
    ∙ ap (λ es. g x ∷ es) (map_same f g xs (All-tail (λ l. f l ≡ g l) x xs same))

map_insert : (f : Label → Entry) (xs : List Label) (p : ℕ) (x : Label)
    → map f (insert xs p x) ≡ insert (map f xs) p (f x)
map_insert f xs p x =
    map-append f (take p xs) (x ∷ drop p xs)
    ∙ ap (λ es. es ++ f x ∷ map f (drop p xs)) (sym (take-map f p xs))
    ∙ ap (λ es. take p (map f xs) ++ f x ∷ es) (sym (drop-map f p xs))

-- an operation that carries a stamp is an update
carrier_updates : (operation : Op) → carries_stamp operation ≡ true → is_update operation ≡ true
carrier_updates op.Inc carries = refl
carrier_updates op.Dec carries = refl
carrier_updates (op.Count v) carries = carries
carrier_updates (op.Write value) carries = refl
carrier_updates (op.Last value) carries = carries
carrier_updates (op.LwwAdd x) carries = refl
carrier_updates (op.LwwRemove x) carries = refl
carrier_updates (op.LwwRead list) carries = carries
carrier_updates (op.OrAdd x id) carries = refl
carrier_updates (op.OrRemove x ids) carries = refl
carrier_updates (op.OrRead list) carries = carries
carrier_updates (op.After anchor x) carries = refl
carrier_updates (op.RgaRemove x) carries = refl
carrier_updates (op.RgaRead list) carries = carries
carrier_updates (op.List operation) carries = absurd (false≢true carries)
carrier_updates op.AnyUpdate carries = refl
carrier_updates (op.AnyRead value) carries = carries
carrier_updates (op.MvWrite value) carries = refl
carrier_updates (op.MvRead values) carries = carries

stamp_carries : (records : Records) (by : ℕ) (operation : Op) (clock : Option ℕ) (stamp : Stamp)
    → (carries_stamp operation ≡ false → clock ≡ None)
    → (next_label records by operation clock).stamp ≡ Some stamp → carries_stamp operation ≡ true
stamp_carries records by operation None stamp none is = absurd (cc is)
stamp_carries records by operation (Some at) stamp none is = elim (cases_Bool (carries_stamp operation)) [
  | inl carries ↦ carries
  | inr plain ↦ let absent = none plain in absurd (cc absent)
]

pub put_stands : (order after : TimeOrder) (past : History) (next : NextOperation) (seen : Seen) (p : ℕ)
    → (stands : IsTimeOrderOf order past) (comes : ComesNext past next (label_of past.records next) seen)
    → IsPositionOf (its_rank order past next seen stands comes) order.entries p
    → after.entries ≡ insert order.entries p (record {
      rank = its_rank order past next seen stands comes;
      label =
          label_count past.records;
    })
    → after.stamps ≡ stamps_with order.stamps next.by (is_update next.op) (label_of past.records next).stamp
    → IsTimeOrderOf after (history_with past (operate next))
put_stands order after past next seen p stands comes is entries stamps =
    let now = operate next ∷ past.records in
    let x = label_of past.records next in
    let named = named_labels past.kind past.records in
    let new_entry : Label → Entry = entry_of past.kind now in
    let rank = its_rank order past next seen stands comes in
    let free = (operation_accepted_iff past.kind past.initial_replicas past.records next).0 comes.accepted in
    let kept : map (entry_of past.kind past.records) named ≡ map new_entry named =
    map_same (entry_of past.kind past.records) new_entry named
    (All-weaker (Contains named) (λ l. entry_of past.kind past.records l ≡ new_entry l)
    (λ l found. let same = rank_before order past next seen stands comes l
    (is_label order past next seen stands comes l found) in
    λ i. record { rank = sym same i; label = l.number })
    named (All-contains_itself named)) in
    let its : new_entry x ≡ record { rank = rank; label = label_count past.records } =
    ap (λ (r : Stamp). record { rank = r; label = label_count past.records })
    (rank_is order past next seen stands comes) in
    record {
      sorts = stands.sorts;
      entries =
          entries
          ∙ ap (λ es. insert es p (record { rank = rank; label = label_count past.records })) (stands.entries ∙ kept)
          ∙ ap (insert (map new_entry named) p) (sym its)
          ∙ sym (map_insert new_entry named p x)
          ∙ ap (map new_entry) (sym (inserted order past next seen stands comes p is));
      stamps = subst (λ ss. AreGreatestOf ss past.initial_replicas now) (sym stamps)
          (greatest_with_label past.records next order.stamps past.initial_replicas stands.stamps
          (omega (arith, free.0, stands.stamps.replicas)));
      stamped = λ l stamp found has. elim (head_or_behind x (labels_of past.records) l found) [
        | inl newest ↦
            let fits = (well_formed_iff past.kind next).0 free.1 in
            let carries = stamp_carries past.records next.by next.op next.clock stamp fits.2.1
            (ap (λ (m : Label). m.stamp) newest ∙ has) in
            sym (ap (λ (m : Label). is_update m.op) newest) ∙ carrier_updates next.op carries
        | inr older ↦ stands.stamped l stamp older has
      ];
    }

-- the results of the order's parts, in terms of the order
pub put_made : (sorted made : Sorted) (replicas grown : RunningMaxima) (order : TimeOrder)
    (view : time_order_of sorted replicas ≡ order)
    (label : Label) (seen : Seen) (found rank : Stamp) (update : Bool)
    (found_is : found ≡ greatest_in replicas.stamps (count_in seen) (length replicas.stamps))
    (rank_made : rank ≡ unwrap_or label.stamp found)
    (past : History) (next : NextOperation)
    (stands : IsTimeOrderOf order past) (comes : ComesNext past next label seen)
    → (IsPartitionedBy (not_above rank) sorted.entries
    → (p : ℕ) × IsPositionOf rank sorted.entries p × (made.entries
    ≡ insert sorted.entries p (record { rank = rank; label = label.number })))
    → update ≡ is_update label.op → grown.stamps ≡ stamps_with replicas.stamps label.replica update label.stamp
    → IsTimeOrderOf (time_order_of made grown) (history_with past (operate next))
put_made sorted made replicas grown order view label seen found rank update found_is rank_made past next stands comes
    inserted_at update_is grows =
    let split = inserted_at (splits sorted replicas order view label seen found rank found_is rank_made past next stands
    comes) in
    let there = next_there sorted replicas order view label seen found rank found_is rank_made past next stands comes in
    let same = rank_same sorted replicas order view label seen found rank found_is rank_made past next stands comes in
    let entries = entries_same sorted replicas order view label seen found rank found_is rank_made past next stands
    comes in
    let stamps : replicas.stamps ≡ order.stamps = ap (λ (o : TimeOrder). o.stamps) view in
    put_stands order (time_order_of made grown) past next seen split.0 stands there
    (position_same sorted replicas order view label seen found rank found_is rank_made past next stands comes split.0
    split.1)
    (split.2 ∙ (λ i. insert (entries i) split.0 (record { rank = same i; label = (comes.becomes i).number })))
    (grows ∙ ap (λ b. stamps_with replicas.stamps label.replica b label.stamp) update_is
    ∙ (λ i. stamps_with (stamps i) (comes.becomes i).replica (is_update (comes.becomes i).op) (comes.becomes i).stamp))
