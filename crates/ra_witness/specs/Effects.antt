-- The condition that the effects kept of labels and replicas are those of a past, for each kind.
use Rattle.std.specs.Prelude.{◌≡◌, ◌⊎◌, ℕ, ◌≤◌, ◌∷◌, true, nat_eq, List, length, Option}
use Rattle.std.specs.HashMap.{get, hash_map_len}
use Rattle.ra_labels.specs.declared.kind.Kind.TheVariants as variant
use Rattle.ra_labels.specs.declared.operation.Update.{Update}
use Rattle.ra_labels.specs.declared.label.Label.{Label}
use Rattle.ra_labels.specs.Records.{label_count}
use Rattle.ra_labels.specs.Rewriting.{Half, Act, acts_of}
use Rattle.ra_labels.specs.Linearization.{updates_admitted}
use Rattle.ra_labels.specs.NamedOrder.{named_sequence}
use Rattle.ra_labels.specs.HistorySoFar.{History, replicas_of, NextOperation, operate}
use Rattle.ra_visibility.specs.declared.limits.TheConstants.{MOST_LABELS}
use Rattle.ra_visibility.specs.Order.{ComesNext}
use Rattle.ra_visibility.specs.Seen.{Seen}
use Rattle.ra_unordered.specs.Unordered.{IsKeptOf}
use Rattle.ra_witness.specs.declared.commuting.Commuting as commuting
use Rattle.ra_witness.specs.declared.overriding.Overriding as overriding
use Rattle.ra_witness.specs.declared.effects.Found.{Found}
use Rattle.ra_witness.specs.declared.effects.Found.TheVariants.{InRga, InList}
use Rattle.ra_witness.specs.declared.effects.Effects.{Effects}
use Rattle.ra_witness.specs.declared.effects.Effects.TheVariants.{Commuting, Overriding, Rga}
use Rattle.ra_witness.specs.declared.effects.Effects.TheVariants as form
use Rattle.ra_witness.specs.Labels.{update_in}
use Rattle.ra_witness.specs.Standing.{AreStatesOf}
use Rattle.ra_witness.specs.Overriding.{updates_written, labels_in}
use Rattle.ra_witness.specs.Overridden.{AreWritesOf, AreLastOf, AreBelow}
use Rattle.ra_witness.specs.Rga.{IsRgaOf, IsFoundFor}
use Rattle.ra_witness.specs.KeptList as list
use Rattle.ra_witness.specs.Offered.{IsOffered, IsDelivered, IsJoinedFrom}

-- holds if the structure represents the past of a counter or an OR-Set
pub record IsCommutingOf (kept : commuting.Commuting) (past : History) : Type 0 where
  pub one : (past.kind ≡ variant.Counter) ⊎ (past.kind ≡ variant.OrSet)
  pub states : AreStatesOf kept.updates.items kept.states.items past

-- holds if the structure represents the past of a register or an LWW set
pub record IsOverridingOf (kept : overriding.Overriding) (past : History) : Type 0 where
  pub one : (past.kind ≡ variant.Register) ⊎ (past.kind ≡ variant.LwwSet)
  pub states : AreStatesOf (updates_written kept.writes.items) kept.states.items past
  pub writes : AreWritesOf kept.writes.items (get nat_eq kept.numbers.numbers) past.records
  pub lasts : AreLastOf kept.writes.items (labels_in kept.lasts.items) past.records
  pub replicas : length kept.lasts.items ≡ replicas_of past
  pub numbers : AreBelow (get nat_eq kept.numbers.numbers) (hash_map_len kept.numbers.numbers)
  pub few : hash_map_len kept.numbers.numbers ≤ label_count past.records

-- holds if the structure represents the past, and is the one for its kind
abbrev pub AreEffectsOfForm : Effects → History → Type 0
AreEffectsOfForm (Commuting kept) past = IsCommutingOf kept past
AreEffectsOfForm (Overriding kept) past = IsOverridingOf kept past
AreEffectsOfForm (Rga kept) past = (past.kind ≡ variant.Rga) × IsRgaOf kept past.initial_replicas past.records
AreEffectsOfForm (form.List kept) past = (past.kind ≡ variant.List)
    × list.IsListOf kept past.initial_replicas past.records
AreEffectsOfForm (form.Unordered kept) past = IsKeptOf kept past

pub record AreEffectsOf (kept : Effects) (past : History) : Type 0 where
  pub few : label_count past.records ≤ MOST_LABELS
  pub form : AreEffectsOfForm kept past

-- holds if this was found for the label, if the structure is that of an RGA or a list
abbrev pub IsFoundIn : Effects → Label → Found → Type 0
IsFoundIn (Commuting kept) label found = Unit {0}
IsFoundIn (Overriding kept) label found = Unit {0}
IsFoundIn (Rga kept) label (InRga found) = IsFoundFor kept label found
IsFoundIn (form.List kept) label (InList found) = list.IsFoundFor kept label found
IsFoundIn (form.Unordered kept) label found = Unit {0}
IsFoundIn _ label found = ⊥

-- holds if, after some past that the structure represents, the label is offered and has these acts
pub record MayMeet (kept : Effects) (label : Label) (acts : List (Half × Act)) : Type 0 where
  pub past : History
  pub next : NextOperation
  pub stands : AreEffectsOf kept past
  pub offered : IsOffered past next label
  pub acts_are : acts ≡ acts_of next.op

-- Holds if, after some past that the structure represents, the label is offered with what it sees, the updates of all
-- labels are admitted with it, and `update` is its update, if it has one.
pub record MayAdd (kept : Effects) (label : Label) (seen : Seen) (update : Option Update) : Type 0 where
  pub past : History
  pub next : NextOperation
  pub stands : AreEffectsOf kept past
  pub offered : IsOffered past next label
  pub comes : ComesNext past next label seen
  pub admitted : updates_admitted past.kind (named_sequence past.kind (operate next ∷ past.records)) ≡ true
  pub update_is : update ≡ update_in next.op

-- holds if the delivery can be reported after some past that the structure represents
pub record MayDeliver (kept : Effects) (to n : ℕ) : Type 0 where
  pub past : History
  pub stands : AreEffectsOf kept past
  pub told : IsDelivered past to n

-- holds if the next replica can join from this one after some past that the structure represents
pub record MayJoinFrom (kept : Effects) (from : ℕ) : Type 0 where
  pub past : History
  pub stands : AreEffectsOf kept past
  pub joins : IsJoinedFrom past from

-- holds if, after some past that the structure represents, the label is offered and `update` is its update, if any
pub record MayWrite (kept : overriding.Overriding) (label : Label) (update : Option Update) : Type 0 where
  pub past : History
  pub next : NextOperation
  pub stands : IsOverridingOf kept past
  pub offered : IsOffered past next label
  pub update_is : update ≡ update_in next.op
