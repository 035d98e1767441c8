-- The proof that timestamp order satisfies the theorems of a named order.
use Rattle.std.proofs.Common.{◌≡◌, ℕ, ◌<◌, List, [], ◌∷◌, refl, sym, ap, ◌∙◌, arith}
use Rattle.std.specs.Prelude.{map}
use Rattle.ra_labels.specs.declared.kind.Kind.{Kind}
use Rattle.ra_labels.specs.declared.label.Stamp.{Stamp}
use Rattle.ra_labels.specs.declared.label.Label.{Label}
use Rattle.ra_labels.specs.declared.command.Command.TheVariants.{Deliver, Join}
use Rattle.ra_labels.specs.declared.limits.TheConstants.{MOST_REPLICAS}
use Rattle.ra_labels.specs.NamedOrder.{timestamp_of, rank_of, named_labels}
use Rattle.ra_labels.specs.Records.{Records}
use Rattle.ra_labels.specs.HistorySoFar.{History, history_with, replicas_of}
use Rattle.ra_visibility.specs.Order.{IsByTimestamp, numbers_in}
use Rattle.ra_visibility.proofs.TheoremIndex.{join_preserves_order-order, delivery_preserves_order-order}
use Rattle.ra_time_order.specs.declared.entry.Entry.{Entry}
use Rattle.ra_time_order.specs.Standing.{TimeOrder, entry_of, IsTimeOrderOf}

numbers_of_entries : (kind : Kind) (records : Records) (labels : List Label)
    → map (λ entry. entry.label) (map (entry_of kind records) labels) ≡ map (λ label. label.number) labels
numbers_of_entries kind records [] = refl
numbers_of_entries kind records (label ∷ labels) =
    ap (λ ns. label.number ∷ ns) (numbers_of_entries kind records labels)

-- the list of the order is the named order
pub listed-named : (order : TimeOrder) (past : History)
    → IsTimeOrderOf order past → map (λ entry. entry.label) order.entries ≡ numbers_in past.kind past.records
listed-named order past stands =
    ap (map (λ (entry : Entry). entry.label)) stands.entries
    ∙ numbers_of_entries past.kind past.records (named_labels past.kind past.records)

ranks_same : (kind : Kind) (before after : Records) → IsByTimestamp kind
    → ((label : Label) → timestamp_of before label ≡ timestamp_of after label) → (labels : List Label)
    → map (entry_of kind before) labels ≡ map (entry_of kind after) labels
ranks_same kind before after sorts same [] = refl
ranks_same kind before after sorts same (label ∷ labels) =
    let rank : rank_of kind before label ≡ rank_of kind after label =
    sorts before label ∙ same label ∙ sym (sorts after label) in
    ap (λ (rank : Stamp). record { rank = rank; label = label.number } ∷ map (entry_of kind before) labels) rank
    ∙ ap (λ es. entry_of kind after label ∷ es) (ranks_same kind before after sorts same labels)

-- a join preserves the order: below the largest number of replicas there is a member for one more
pub stands_joined : (order : TimeOrder) (past : History) (joined from : ℕ)
    → IsTimeOrderOf order past → replicas_of past < MOST_REPLICAS
    → IsTimeOrderOf order (history_with past (Join joined from))
stands_joined order past joined from stands few =
    let now = Join joined from ∷ past.records in record {
      sorts = stands.sorts;
      entries =
          stands.entries
          ∙ ranks_same past.kind past.records now stands.sorts (λ label. refl) (named_labels past.kind past.records)
          ∙ ap (map (entry_of past.kind now)) (sym (join_preserves_order-order past.kind past.records joined from));
      stamps = record {
        replicas = omega (arith, few, stands.stamps.places);
        places = stands.stamps.places;
        known = stands.stamps.known;
        updates = stands.stamps.updates;
        above = stands.stamps.above;
        own = stands.stamps.own;
      };
      stamped = stands.stamped;
    }

-- a delivery preserves the order
pub stands_delivered : (order : TimeOrder) (past : History) (to n : ℕ)
    → IsTimeOrderOf order past → IsTimeOrderOf order (history_with past (Deliver to n))
stands_delivered order past to n stands =
    let now = Deliver to n ∷ past.records in record {
      sorts = stands.sorts;
      entries =
          stands.entries
          ∙ ranks_same past.kind past.records now stands.sorts (λ label. refl) (named_labels past.kind past.records)
          ∙ ap (map (entry_of past.kind now)) (sym (delivery_preserves_order-order past.kind past.records to n));
      stamps = record {
        replicas = stands.stamps.replicas;
        places = stands.stamps.places;
        known = stands.stamps.known;
        updates = stands.stamps.updates;
        above = stands.stamps.above;
        own = stands.stamps.own;
      };
      stamped = stands.stamped;
    }
