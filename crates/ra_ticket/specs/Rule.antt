-- The invariant of the lock, which is true between any two steps.
use Rattle.std.specs.Prelude.{◌≡◌, ℕ, ◌+◌, ◌^◌, ◌<◌, ◌≤◌, List, [], ◌∷◌, Option, Some}
use mathlib.Core.Option.{some, none}
use lib.ListN.{get_elem?}
use Rattle.atomic_table.specs.Table.{State}
use Rattle.ra_journal.specs.declared.entry.Entry.{Entry}
use Rattle.ra_ticket.specs.declared.board.View.{View}
use Rattle.ra_journal.specs.Log.{Readings, AllBelow, IsLegal}
use Rattle.ra_ticket.specs.Mark.{IsMarkOf}
use Rattle.ra_ticket.specs.Views.{numbers_of, next_of, serving_of, ticket_of, held_of}
use Rattle.ra_ticket.specs.Views.{seen_of, HasBegun, HasOwn, IsSetUp}

module _ {C R S : Type 0} where
  -- holds if the view at a seat has the value x, by this function of views
  abbrev pub At : {X : Type 0} → (View C R S → Option X) → List (View C R S) → ℕ → X → Type 0
  At of views seat x = (v : View C R S) × (get_elem? views seat ≡ some v) × (of v ≡ Some x)

  -- holds if the pass with this number is the k-th at a seat
  abbrev pub SitsAt : List (View C R S) → ℕ → ℕ → ℕ → Type 0
  SitsAt views seat k number =
      (v : View C R S) × (get_elem? views seat ≡ some v) × (get_elem? (numbers_of v) k ≡ some number)

  -- holds if no seat holds the slot
  abbrev pub NobodyHolds : List (View C R S) → Type 0
  NobodyHolds views = (seat ticket : ℕ) → ¬ (At held_of views seat ticket)

-- the invariant of a lock over a journal with these readings, which was opened with this setup
module _ {M C R S : Type 0} (j : Readings M C R S) (opened : S) where
  pub record TurnsKept (s : State (Option M) (View C R S)) : Type 0 where
    -- the words begin with `next`, `serving` and `mark`
    pub next : ℕ
    pub serving : ℕ
    pub mark : ℕ
    pub others : List ℕ
    pub words : s.words ≡ next ∷ serving ∷ mark ∷ others
    -- bounds: `serving` is at most `next`, which fits its word, and no seat knows of more than the words have reached
    pub order : serving ≤ next
    pub fits : next < 2 ^ 64
    pub reached : (seat : ℕ) (v : View C R S) → get_elem? s.views seat ≡ some v
        → (next_of v ≤ next) × (serving_of v ≤ serving)
    -- tickets: those that are drawn and not released lie from `serving` to below `next`, and no two seats have the same
    pub drawn : (seat ticket : ℕ) → At ticket_of s.views seat ticket → (serving ≤ ticket) × (ticket < next)
    pub tickets_apart : (a b ticket : ℕ) → At ticket_of s.views a ticket → At ticket_of s.views b ticket → a ≡ b
    -- slot: a seat that holds it does so by the ticket that is being served, and then the slot is out
    pub out : (seat ticket : ℕ) → At held_of s.views seat ticket → (ticket ≡ serving) × (s.homes ≡ none ∷ [])
    -- if no seat holds it, the slot is at home with a journal
    pub home : NobodyHolds s.views → (journal : M) × (s.homes ≡ some (Some journal) ∷ [])
    -- front: what the holder has seen, or else the log of the journal at home. All its tickets are below `serving`,
    -- except for that of the holder's own entry.
    pub front : List (Entry C R)
    pub held : (seat ticket : ℕ) (v : View C R S) → get_elem? s.views seat ≡ some v → held_of v ≡ Some ticket
        → seen_of v ≡ front
    pub rests : (journal : M) → s.homes ≡ some (Some journal) ∷ []
        → (j.log journal ≡ front) × AllBelow serving front
    pub served : AllBelow (serving + 1) front
    pub legal : IsLegal (j.reply_of opened) front
    -- mark: that of the front
    pub marked : IsMarkOf j opened front mark
    -- knowledge: each seat has seen a prefix of the front, and all entries of its own passes
    pub begun : (seat : ℕ) (v : View C R S) → get_elem? s.views seat ≡ some v → HasBegun v front
    pub own : (seat : ℕ) (v : View C R S) → get_elem? s.views seat ≡ some v → HasOwn v front
    -- seats: each pass is at a single place of a single seat
    pub passes_apart : (a b k l number : ℕ) → SitsAt s.views a k number → SitsAt s.views b l number
        → (a ≡ b) × (k ≡ l)
    -- setup: each seat has that of the opening, and so has the journal at home
    pub set_up : (seat : ℕ) (v : View C R S) → get_elem? s.views seat ≡ some v → IsSetUp opened v
    pub home_set_up : (journal : M) → s.homes ≡ some (Some journal) ∷ [] → j.setup journal ≡ opened
