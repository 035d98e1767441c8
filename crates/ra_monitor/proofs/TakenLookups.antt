-- Lemmas on the look-up of used stamps and identifiers.
use Rattle.std.proofs.Common.{◌≡◌, ℕ, ◌<◌, false, ◌∷◌, Option, Some, None, refl, ap, ◌∙◌}
use Rattle.std.specs.Prelude.{◌||◌, ◌==◌, vec_len}
use Rattle.std.specs.Option.{option_map_or}
use Rattle.ra_labels.specs.declared.kind.Kind.{Kind}
use Rattle.ra_labels.specs.declared.operation.Op.{Op}
use Rattle.ra_labels.specs.declared.operation.Op.TheVariants as op
use Rattle.ra_labels.specs.declared.label.Stamp.{Stamp}
use Rattle.ra_labels.specs.Records.{Records, next_label}
use Rattle.ra_labels.specs.Answer.{form_refusal, carries_stamp, has_stamp, is_stamp_taken, identifier_of, is_identifier_taken}
use Rattle.ra_labels.specs.HistorySoFar.{NextOperation, operate}
use Rattle.ra_theorems.proofs.TheoremIndex.{well_formed_iff}
use Rattle.ra_monitor.specs.declared.used_keys.UsedKeys.{UsedKeys}
use Rattle.ra_monitor.specs.UsedKeys.{HasRoom, CanKeep, is_stamp_in, is_identifier_in, key_with, key_of, key_is_stamp, key_is_identifier, AreUsedKeysOf}

some_none : (n : ℕ) → Some n ≡ None → ⊥
some_none n e = absurd (cc e)

-- an operation that gives an identifier carries no stamp
carries_none : (op : Op) (given : ℕ) → identifier_of op ≡ Some given → carries_stamp op ≡ false
carries_none op.Inc given e = refl
carries_none op.Dec given e = refl
carries_none (op.Count v) given e = refl
carries_none (op.Write value) given e = absurd (cc e)
carries_none (op.Last value) given e = refl
carries_none (op.LwwAdd x) given e = absurd (cc e)
carries_none (op.LwwRemove x) given e = absurd (cc e)
carries_none (op.LwwRead list) given e = refl
carries_none (op.OrAdd x id) given e = refl
carries_none (op.OrRemove x ids) given e = refl
carries_none (op.OrRead list) given e = refl
carries_none (op.After anchor x) given e = absurd (cc e)
carries_none (op.RgaRemove x) given e = refl
carries_none (op.RgaRead list) given e = refl
carries_none (op.List operation) given e = refl
carries_none op.AnyUpdate given e = refl
carries_none (op.AnyRead value) given e = refl
carries_none (op.MvWrite value) given e = refl
carries_none (op.MvRead values) given e = refl

-- so if its form is right, it has no clock
pub no_clock : (kind : Kind) (next : NextOperation) (given : ℕ) → form_refusal kind (operate next) ≡ None
    → identifier_of next.op ≡ Some given → next.clock ≡ None
no_clock kind next given fits gives =
    ((well_formed_iff kind next).0 fits).2.1 (carries_none next.op given gives)

-- an operation adds a stamp exactly if its label has it
stamps_brought : (records : Records) (by : ℕ) (op : Op) (clock gives : Option ℕ) (stamp : Stamp)
    → identifier_of op ≡ gives → ((given : ℕ) → gives ≡ Some given → clock ≡ None)
    → key_is_stamp (key_with by gives clock) stamp ≡ has_stamp stamp (next_label records by op clock)
stamps_brought records by op (Some at) (Some given) stamp is bare = absurd (some_none at (bare given refl))
stamps_brought records by op None (Some given) stamp is bare = refl
stamps_brought records by op (Some at) None stamp is bare = refl
stamps_brought records by op None None stamp is bare = refl

-- an operation adds an identifier exactly if its label gives it
identifiers_brought : (by : ℕ) (op : Op) (clock gives : Option ℕ) (identifier : ℕ) → identifier_of op ≡ gives
    → key_is_identifier (key_with by gives clock) identifier ≡ option_map_or (λ own. own == identifier) gives false
identifiers_brought by op clock (Some given) identifier is = refl
identifiers_brought by op (Some at) None identifier is = refl
identifiers_brought by op None None identifier is = refl

-- the used stamps and identifiers with the newest label
pub taken_more : (kind : Kind) (old new : UsedKeys) (records : Records) (next : NextOperation)
    → form_refusal kind (operate next) ≡ None
    → ((stamp : Stamp) → is_stamp_in new stamp ≡ (key_is_stamp (key_of next) stamp || is_stamp_in old stamp))
    → ((identifier : ℕ) → is_identifier_in new identifier
    ≡ (key_is_identifier (key_of next) identifier || is_identifier_in old identifier))
    → AreUsedKeysOf records old → AreUsedKeysOf (operate next ∷ records) new
taken_more kind old new records next fits stamps identifiers known = record {
  stamps = λ stamp.
      stamps stamp
      ∙ ap (λ b. key_is_stamp (key_of next) stamp || b) (known.stamps stamp)
      ∙ ap (λ b. b || is_stamp_taken records stamp)
      (stamps_brought records next.by next.op next.clock (identifier_of next.op) stamp refl
      (λ given gives. no_clock kind next given fits gives));
  identifiers = λ identifier.
      identifiers identifier
      ∙ ap (λ b. key_is_identifier (key_of next) identifier || b) (known.identifiers identifier)
      ∙ ap (λ b. b || is_identifier_taken records identifier) (identifiers_brought next.by next.op next.clock (identifier_of next.op) identifier refl);
}

-- there is capacity for the label's stamp or identifier
can_keep_with : (taken : UsedKeys) (by : ℕ) (gives clock : Option ℕ) → HasRoom taken by → by < vec_len taken.clocks
    → CanKeep taken (key_with by gives clock)
can_keep_with taken by (Some given) clock room there = room.identifier
can_keep_with taken by None (Some at) room there = (there, room.clock)
can_keep_with taken by None None room there = tt

pub can_keep : (taken : UsedKeys) (next : NextOperation) → HasRoom taken next.by → next.by < vec_len taken.clocks
    → CanKeep taken (key_of next)
can_keep taken next room there = can_keep_with taken next.by (identifier_of next.op) next.clock room there
