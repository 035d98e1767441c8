-- Lemmas on what the two formats have in common.
use Rattle.std.proofs.Common.{◌≡◌, ℕ, ◌≤◌, true, false, List, length, arith}
use Rattle.std.specs.Prelude.{◌↔◌}
use Rattle.ra_labels.specs.declared.kind.Kind.{Kind}
use Rattle.ra_labels.specs.declared.command.Command.{Command}
use Rattle.ra_labels.specs.declared.command.Command.TheVariants.{Join}
use Rattle.ra_labels.specs.TheoremTerms.{is_join}
use Rattle.ra_history_lines.specs.declared.format.Format.TheVariants.{Rah1, Rah2}
use Rattle.ra_history_lines.specs.declared.limits.TheConstants.{MOST_NAMES_IN_RAH_1}
use Rattle.ra_history_lines.specs.Grammar.{AreNames, ListsNames, Spells}

pub alike-others : (kind : Kind) (names : List (List ℕ)) (line : List ℕ) (command : Command) → is_join command ≡ false
    → Spells Rah1 kind names line command ↔ Spells Rah2 kind names line command
alike-others kind names line (Join replica from) other = absurd (cc (other))
alike-others kind names line _ other = ((λ spelled. spelled), (λ spelled. spelled))

pub alike-joins : (kind : Kind) (names : List (List ℕ)) (line : List ℕ) (command : Command) → is_join command ≡ true
    → Spells Rah1 kind names line command → ⊥
alike-joins kind names line (Join replica from) is spelled = cc (spelled.joins)
alike-joins kind names line _ is spelled = cc (is)

pub alike-names : (line : List ℕ) (names : List (List ℕ))
    → ListsNames Rah1 line names ↔ (ListsNames Rah2 line names × (length names ≤ MOST_NAMES_IN_RAH_1))
alike-names line names = (
  (λ (are, fields).
      let more : AreNames Rah2 names =
      record { some = are.some; few = omega (arith, are.few); each = are.each; distinct = are.distinct } in
      ((more, fields), are.few)),
  (λ ((are, fields), few).
      (record { some = are.some; few = few; each = are.each; distinct = are.distinct }, fields)),
)
