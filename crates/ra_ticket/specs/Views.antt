-- The knowledge of a seat at the lock's table.
use Rattle.std.specs.Prelude.{◌≡◌, ℕ, List, [], ◌∷◌, ◌++◌, max, Option, Some, None}
use Rattle.std.specs.List.{range_with_len}
use mathlib.Core.Option.{some}
use lib.ListN.{get_elem?}
use Rattle.ra_journal.specs.Log.{entries_of, BeginsWith}
use Rattle.ra_journal.specs.declared.entry.Entry.{Entry}
use Rattle.ra_ticket.specs.declared.board.Stage.{Stage}
use Rattle.ra_ticket.specs.declared.board.Stage.TheVariants.{Idle, Waiting, Holding}
use Rattle.ra_ticket.specs.declared.board.Known.{Known}
use Rattle.ra_ticket.specs.declared.board.View.{View}
use Rattle.ra_ticket.specs.declared.board.View.TheVariants.{Spent, Knows, Met}

-- the ticket that the seat has drawn and not released, if any
abbrev pub ticket_at : Stage → Option ℕ
ticket_at Idle = None
ticket_at (Waiting t) = Some t
ticket_at (Holding t) = Some t

-- the ticket by which the seat holds the slot, if it does
abbrev pub held_at : Stage → Option ℕ
held_at Idle = None
held_at (Waiting t) = None
held_at (Holding t) = Some t

-- the first of some numbers alone; below, the others
abbrev pub first_only : List ℕ → List ℕ
first_only [] = []
first_only (x ∷ xs) = x ∷ []

abbrev pub others_only : List ℕ → List ℕ
others_only [] = []
others_only (x ∷ xs) = xs

module _ {C R S : Type 0} where
  -- the stage of the seat; none if it is spent or another one was joined to it
  abbrev pub stage_of : View C R S → Option Stage
  stage_of Spent = None
  stage_of (Knows k) = Some k.stage
  stage_of (Met k l) = None

  -- holds if another seat was joined to it
  abbrev pub IsMet : View C R S → Type 0
  IsMet (Met k l) = Unit {0}
  IsMet _ = ⊥

  -- the numbers of its passes
  abbrev pub numbers_of : View C R S → List ℕ
  numbers_of Spent = []
  numbers_of (Knows k) = k.numbers
  numbers_of (Met k l) = k.numbers ++ l.numbers

  -- a number that the word `next` has reached
  abbrev pub next_of : View C R S → ℕ
  next_of Spent = 0
  next_of (Knows k) = k.next
  next_of (Met k l) = max k.next l.next

  -- a number that the word `serving` has reached
  abbrev pub serving_of : View C R S → ℕ
  serving_of Spent = 0
  serving_of (Knows k) = k.serving
  serving_of (Met k l) = max k.serving l.serving

  -- the setup of the journal; none if it is spent or another one was joined to it
  abbrev pub setup_of : View C R S → Option S
  setup_of Spent = None
  setup_of (Knows k) = Some k.setup
  setup_of (Met k l) = None

  -- the entries that it has seen; none if another one was joined to it
  abbrev pub seen_of : View C R S → List (Entry C R)
  seen_of Spent = []
  seen_of (Knows k) = k.seen
  seen_of (Met k l) = []

  -- holds if what it has seen is a prefix of this log; of two that met, what each has seen
  abbrev pub HasBegun : View C R S → List (Entry C R) → Type 0
  HasBegun Spent log = Unit {0}
  HasBegun (Knows k) log = BeginsWith log k.seen
  HasBegun (Met k l) log = BeginsWith log k.seen × BeginsWith log l.seen

  -- holds if by this knowledge all entries of its passes that are in this log are seen
  abbrev pub SeesOwn : Known C R S → List (Entry C R) → Type 0
  SeesOwn known log = (k number : ℕ) → get_elem? known.numbers k ≡ some number
      → entries_of number known.seen ≡ entries_of number log

  -- holds if it has seen all entries of its passes that are in this log; of two that met, each its own
  abbrev pub HasOwn : View C R S → List (Entry C R) → Type 0
  HasOwn Spent log = Unit {0}
  HasOwn (Knows k) log = SeesOwn k log
  HasOwn (Met k l) log = SeesOwn k log × SeesOwn l log

  -- holds if it has this setup, where it knows of any
  abbrev pub IsSetUp : S → View C R S → Type 0
  IsSetUp setup Spent = Unit {0}
  IsSetUp setup (Knows k) = k.setup ≡ setup
  IsSetUp setup (Met k l) = (k.setup ≡ setup) × (l.setup ≡ setup)

  abbrev pub ticket_of : View C R S → Option ℕ
  ticket_of Spent = None
  ticket_of (Knows k) = ticket_at k.stage
  ticket_of (Met k l) = None

  abbrev pub held_of : View C R S → Option ℕ
  held_of Spent = None
  held_of (Knows k) = held_at k.stage
  held_of (Met k l) = None

  -- the view of the first seat: all passes, idle, both words at `first`, and no entry seen
  abbrev pub starting : ℕ → ℕ → S → View C R S
  starting passes first setup = Knows record {
    numbers = range_with_len 0 passes;
    next = first;
    serving = first;
    stage = Idle;
    setup = setup;
    seen = [];
  }

  -- the view with its first pass alone, and below with its other passes; all else is in both
  abbrev pub first_pass : View C R S → View C R S
  first_pass Spent = Spent
  first_pass (Knows k) = Knows record k { numbers = first_only k.numbers }
  first_pass (Met k l) = Met k l

  abbrev pub other_passes : View C R S → View C R S
  other_passes Spent = Spent
  other_passes (Knows k) = Knows record k { numbers = others_only k.numbers }
  other_passes (Met k l) = Met k l

  -- the view joined with another one
  abbrev pub met : View C R S → View C R S → View C R S
  met (Knows k) (Knows l) = Met k l
  met v w = v
