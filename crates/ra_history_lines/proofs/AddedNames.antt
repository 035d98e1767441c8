-- Lemmas on the reasons for which a name cannot be added to others.
use Rattle.std.proofs.Common.{◌≡◌, ℕ, ◌≤◌, List, length, refl, sym, ap, ◌∙◌, inl, inr, arith}
use Rattle.std.specs.Prelude.{◌↔◌}
use Rattle.std.proofs.lemmas.Bool.{cases_Bool, cases_lt, false≢true}
use Rattle.ra_history_lines.specs.declared.fault.NamesFault.{NamesFault}
use Rattle.ra_history_lines.specs.declared.fault.NamesFault.TheVariants.{BadCount, BadName, NoMemory}
use Rattle.ra_history_lines.specs.declared.format.Format.TheVariants.{Rah2}
use Rattle.ra_history_lines.specs.declared.limits.TheConstants.{MOST_NAMES}
use Rattle.ra_history_lines.specs.Names.{MayJoin, StopsAdding, is_bad_behind}
use Rattle.ra_history_lines.proofs.NameLists.{may_join, not_bad}

memory_alone : (names : List (List ℕ)) (word : List ℕ) → MayJoin Rah2 names word → (fault : NamesFault)
    → StopsAdding names word fault → fault ≡ NoMemory
memory_alone names word may (BadName at) stops =
    absurd (false≢true (sym (not_bad Rah2 names word may) ∙ stops.1))
memory_alone names word may BadCount stops = absurd (omega (arith, may.room, stops.1))
memory_alone names word may NoMemory stops = refl

pub added-exactly : (names : List (List ℕ)) (word : List ℕ) → length names ≤ MOST_NAMES
    → MayJoin Rah2 names word ↔ ((fault : NamesFault) → StopsAdding names word fault → fault ≡ NoMemory)
added-exactly names word few = (
  memory_alone names word,
  (λ alone. elim (cases_Bool (is_bad_behind names word)) [
    | inl bad ↦ absurd (cc (alone (BadName 0) (refl, bad)))
    | inr good ↦ elim (cases_lt (length names) 64) [
      | inl room ↦ may_join Rah2 names word room good
      | inr full ↦ absurd (cc (alone BadCount (good, omega (arith, few, full))))
    ]
  ]),
)

pub stopped-once : (names : List (List ℕ)) (word : List ℕ) (fault other : NamesFault)
    → StopsAdding names word fault → StopsAdding names word other → fault ≡ other
stopped-once names word (BadName at) (BadName other) stops stopped = ap BadName (stops.0 ∙ sym stopped.0)
stopped-once names word (BadName at) BadCount stops stopped = absurd (false≢true (sym stopped.0 ∙ stops.1))
stopped-once names word BadCount (BadName at) stops stopped = absurd (false≢true (sym stops.0 ∙ stopped.1))
stopped-once names word BadCount BadCount stops stopped = refl
stopped-once names word fault NoMemory stops stopped = memory_alone names word stopped fault stops
stopped-once names word NoMemory other stops stopped = sym (memory_alone names word stops other stopped)
