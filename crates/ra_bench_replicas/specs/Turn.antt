-- The updates that a replica may make in a round.
use Rattle.std.specs.Prelude.{ℕ, ◌+◌, ◌-◌, ◌*◌, ◌%◌, ◌^◌, min, ◌==◌, Bool, true, false, not, ◌&&◌}
use Rattle.ra_labels.specs.declared.operation.Op.{Op}
use Rattle.ra_labels.specs.declared.operation.Op.TheVariants.{Inc, Dec, Write, LwwAdd, LwwRemove, OrAdd, OrRemove, After, RgaRemove}
use Rattle.ra_labels.specs.declared.operation.Op.TheVariants as op
use Rattle.ra_labels.specs.declared.list_operation.ListOp.TheVariants as list
use Rattle.ra_bench_replicas.specs.declared.turn.Turn.{Turn}

-- a number that no other turn has, up to the largest number
abbrev pub own_number : Turn → ℕ
own_number turn = min (turn.round * turn.replicas + (turn.replica + 1)) (2 ^ 32 - 1)

-- an element that other turns use as well
abbrev pub shared_element : Turn → ℕ
shared_element turn = own_number turn % 8

abbrev pub is_even : ℕ → Bool
is_even n = n % 2 == 0

-- `true` if a counter is incremented
abbrev pub counts_up : Turn → Bool
counts_up turn = is_even (turn.replica + turn.round)

-- `true` if an element is removed, where there is one
abbrev pub takes_out : Turn → Bool
takes_out turn = turn.round % 3 == 2

-- `true` if the turn can make the update; the state determines which element is removed and which one is the anchor
abbrev pub is_of_turn : Turn → Op → Bool
is_of_turn turn Inc = counts_up turn
is_of_turn turn Dec = not (counts_up turn)
is_of_turn turn (Write value) = value == own_number turn
is_of_turn turn (LwwAdd x) = x == shared_element turn
is_of_turn turn (LwwRemove x) = takes_out turn
is_of_turn turn (OrAdd x id) = x == shared_element turn && id == own_number turn
is_of_turn turn (OrRemove x ids) = takes_out turn
is_of_turn turn (After anchor x) = x == own_number turn
is_of_turn turn (RgaRemove x) = takes_out turn
is_of_turn turn (op.List (list.Insert insertion)) = insertion.element == own_number turn
is_of_turn turn (op.List (list.Remove x)) = takes_out turn
is_of_turn turn op.AnyUpdate = true
is_of_turn turn (op.MvWrite value) = value == own_number turn
is_of_turn turn _ = false
