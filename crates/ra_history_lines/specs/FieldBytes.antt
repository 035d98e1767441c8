-- How a line is parsed, byte by byte. Lemmas state that it has the number of the line's first field.
use Rattle.std.specs.Prelude.{◌≡◌, ℕ, ◌^◌, ◌==◌, nat_lt, List, [], ◌∷◌, Option, Some, None, option_map, option_and_then, if◌then◌else◌}
use Rattle.ra_labels.specs.declared.kind.Kind.{Kind}
use Rattle.ra_labels.specs.declared.operation.Op.{Op}
use Rattle.ra_labels.specs.declared.command.Command.{Command}
use Rattle.ra_labels.specs.declared.command.Command.TheVariants.{Operate}
use Rattle.ra_history_lines.specs.Grammar.{fields_of}
use Rattle.ra_history_lines.specs.Reading.{Rest, clock_last, next_digit_read, number_read, replica_command_read, replica_read}

-- the number of the bytes before the first space, behind the number so far, if there is one, with the fields behind it
abbrev pub number_in_field : Option ℕ → List ℕ → Option (Rest ℕ)
number_in_field so_far [] = option_map (λ n. (n, [])) so_far
number_in_field so_far (byte ∷ bytes) =
    if byte == 32 then option_map (λ n. (n, fields_of bytes)) so_far
    else option_and_then (λ n. number_in_field (Some n) bytes) (next_digit_read so_far byte)

-- the same behind a number that may be too large
abbrev pub field_behind : ℕ → List ℕ → Option (Rest ℕ)
field_behind n bytes = if nat_lt n (2 ^ 32) then number_in_field (Some n) bytes else None

-- the number that the only field spells; none if there is no field or another one
abbrev pub only_number : List (List ℕ) → Option ℕ
only_number [] = None
only_number (field ∷ []) = number_read field
only_number (field ∷ another ∷ more) = None

-- an operation that was read at the replica, with the clock that the other fields spell
abbrev pub with_clock_read : ℕ → Option (Rest Op) → Option Command
with_clock_read replica read =
    option_and_then (λ op. option_map (λ clock. Operate replica op.0 clock) (clock_last op.1)) read

-- the command of a replica, from the fields after its name
abbrev pub behind_name_read : Kind → ℕ → List (List ℕ) → Option Command
behind_name_read kind replica [] = None
behind_name_read kind replica (word ∷ fields) = replica_command_read kind replica word fields

-- holds if the line's first field is the name of this replica, and these bytes follow the space behind it
pub record IsLedBy (names : List (List ℕ)) (line : List ℕ) (replica : ℕ) (rest : List ℕ) : Type 0 where
  pub name : List ℕ
  pub who : replica_read names name ≡ Some replica
  pub parts : fields_of line ≡ name ∷ fields_of rest
