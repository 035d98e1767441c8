-- The effect of each step at the table on the seat that makes it.
use Rattle.std.specs.Prelude.{◌≡◌, ◌≢◌, ℕ, ◌+◌, ◌<◌, ◌≤◌, List, [], ◌∷◌, ◌++◌, Option, Some, None, IfSome}
use Rattle.atomic_table.specs.Table.{Me, Step, rest}
use Rattle.atomic_table.specs.Seated.{TableId}
use Rattle.atomic_table.specs.declared.shared.Seat.{Seat}
use Rattle.ra_journal.specs.declared.entry.Entry.{Entry}
use Rattle.ra_ticket.specs.declared.board.View.{View}
use Rattle.ra_ticket.specs.declared.board.Stage.TheVariants.{Idle, Waiting, Holding}
use Rattle.ra_journal.specs.Log.{Readings, AllBelow, entries_of, BeginsWith, MayFollow, IsLegal}
use Rattle.ra_ticket.specs.Mark.{IsMarkOf}
use Rattle.ra_ticket.specs.Views.{stage_of, numbers_of, next_of, serving_of, setup_of}
use Rattle.ra_ticket.specs.Views.{seen_of, IsMet, HasBegun, HasOwn, IsSetUp}

module _ {C R S : Type 0} where
  -- holds if the passes and the setup are the same, and no less is known of the words
  pub record Stays (v w : View C R S) : Type 0 where
    pub numbers : numbers_of w ≡ numbers_of v
    pub setup : setup_of w ≡ setup_of v
    pub next : next_of v ≤ next_of w
    pub serving : serving_of v ≤ serving_of w

  -- holds if moreover the same entries are seen
  abbrev pub SeesTheSame : View C R S → View C R S → Type 0
  SeesTheSame v w = Stays v w × (seen_of w ≡ seen_of v)

  -- holds if the same entries are seen, and possibly more, none of which is of its own passes
  abbrev pub SeesMore : View C R S → View C R S → Type 0
  SeesMore v w = BeginsWith (seen_of w) (seen_of v) × HasOwn v (seen_of w)

  -- Holds if, of two that met, this one has the setup of both, has seen all that either had seen, and sees no other
  -- entries of their passes than they had seen.
  abbrev pub SeesFor : View C R S → View C R S → Type 0
  SeesFor v w = ((setup : S) × (setup_of w ≡ Some setup) × IsSetUp setup v) × HasBegun v (seen_of w)
      × HasOwn v (seen_of w)

  -- holds if the same entries of the only pass at the seat are seen
  abbrev pub KeepsOwn : View C R S → View C R S → Type 0
  KeepsOwn v w = (number : ℕ) → numbers_of v ≡ number ∷ []
      → entries_of number (seen_of w) ≡ entries_of number (seen_of v)

  -- holds if a seat of this one pass went on: it is idle, knows no less, and no entry of its own is new
  pub record GoesOn (v w : View C R S) (number : ℕ) : Type 0 where
    pub idle : stage_of w ≡ Some Idle
    pub numbers : numbers_of w ≡ number ∷ []
    pub next : next_of v ≤ next_of w
    pub serving : serving_of v ≤ serving_of w
    pub setup : setup_of w ≡ setup_of v
    pub begins : BeginsWith (seen_of w) (seen_of v)
    pub mine : entries_of number (seen_of w) ≡ entries_of number (seen_of v)

  -- holds if w is the part with these passes of a seat that was split in two
  pub record IsPart (v w : View C R S) (numbers : List ℕ) : Type 0 where
    pub its : numbers_of w ≡ numbers
    pub stage : stage_of w ≡ stage_of v
    pub next : next_of w ≡ next_of v
    pub serving : serving_of w ≡ serving_of v
    pub setup : setup_of w ≡ setup_of v
    pub seen : seen_of w ≡ seen_of v

module _ {M C R S : Type 0} (j : Readings M C R S) where
  -- holds if the journal is as the seat has seen it
  pub record IsAsSeen (v : View C R S) (journal : M) : Type 0 where
    pub setup : setup_of v ≡ Some (j.setup journal)
    pub log : j.log journal ≡ seen_of v

  -- holds if the seat has entered with this ticket and found this journal: its log is legal, and its tickets are below
  pub record HasEntered (v : View C R S) (ticket : ℕ) (journal : M) : Type 0 where
    pub as_seen : IsAsSeen v journal
    pub below : AllBelow ticket (seen_of v)
    pub legal : IsLegal (j.reply_of (j.setup journal)) (seen_of v)

  -- holds if the journal is one entry, of the seat's pass and with this ticket, ahead of what the seat has seen
  pub record IsAhead (v : View C R S) (ticket : ℕ) (journal : M) : Type 0 where
    pub setup : setup_of v ≡ Some (j.setup journal)
    pub last : Entry C R
    pub log : j.log journal ≡ seen_of v ++ last ∷ []
    pub its_pass : numbers_of v ≡ last.pass ∷ []
    pub its_ticket : last.ticket ≡ ticket
    pub follows : MayFollow (j.reply_of (j.setup journal)) (seen_of v) last

  -- holds if what the seat has seen is a legal log under its setup, and this is its mark
  abbrev pub SeesMarked : View C R S → ℕ → Type 0
  SeesMarked v mark = IfSome (setup_of v) (λ s. IsLegal (j.reply_of s) (seen_of v) × IsMarkOf j s (seen_of v) mark)

abbrev Sat : Type 0 → Type 0 → Type 0 → Type 0 → Type 0
Sat M C R S = Me (Option M) (View C R S)

module _ {M C R S : Type 0} where
  -- the step in which an idle seat learns `next`
  abbrev pub learned : Step (Option M) → Sat M C R S → ℕ → Sat M C R S → Type 0
  learned step m found m' = stage_of m.0 ≡ Some Idle
      → SeesTheSame m.0 m'.0 × (m'.1 ≡ m.1) × (stage_of m'.0 ≡ Some Idle) × (next_of m'.0 ≡ found)
      × (serving_of m.0 ≤ found)

  -- the step in which an idle seat learns `serving`
  abbrev pub learned_serving : Step (Option M) → Sat M C R S → ℕ → Sat M C R S → Type 0
  learned_serving step m found m' = stage_of m.0 ≡ Some Idle
      → SeesTheSame m.0 m'.0 × (m'.1 ≡ m.1) × (stage_of m'.0 ≡ Some Idle) × (serving_of m'.0 ≡ found)

  -- The step in which an idle seat sees the front, which is a legal log with this mark, and learns nothing of the other
  -- words.
  abbrev pub glanced : Readings M C R S → Step (Option M) → Sat M C R S → ℕ → Sat M C R S → Type 0
  glanced j step m found m' = stage_of m.0 ≡ Some Idle
      → Stays m.0 m'.0 × (m'.1 ≡ m.1) × (stage_of m'.0 ≡ Some Idle) × SeesMore m.0 m'.0
      × SeesMarked j m'.0 found × (next_of m'.0 ≡ next_of m.0) × (serving_of m'.0 ≡ serving_of m.0)

  -- The step in which a seat to which another was joined sees the front, which is a legal log with this mark, and
  -- becomes idle. It learns nothing of the other words.
  abbrev pub looked_together : Readings M C R S → Step (Option M) → Sat M C R S → ℕ → Sat M C R S → Type 0
  looked_together j step m found m' = IsMet m.0
      → (numbers_of m'.0 ≡ numbers_of m.0) × (m'.1 ≡ m.1) × (stage_of m'.0 ≡ Some Idle)
      × SeesFor m.0 m'.0 × SeesMarked j m'.0 found × (next_of m'.0 ≡ next_of m.0) × (serving_of m'.0 ≡ serving_of m.0)

  -- the step in which an idle seat draws the ticket, if `next` is that number
  abbrev pub drew : Step (Option M) → Sat M C R S → ℕ → Sat M C R S → Type 0
  drew step m found m' = stage_of m.0 ≡ Some Idle → SeesTheSame m.0 m'.0 × (m'.1 ≡ m.1)
      × (found ≡ step.first → (stage_of m'.0 ≡ Some (Waiting step.first)) × (step.second ≡ step.first + 1))
      × (found ≢ step.first → (stage_of m'.0 ≡ Some Idle) × (next_of m'.0 ≡ found))

  -- The step in which an idle seat draws a ticket that `serving` had reached as far as the seat has seen, if `next` is
  -- that number. It receives the slot, and sees the log of the journal in it.
  abbrev pub drew_served : Readings M C R S → Step (Option M) → Sat M C R S → ℕ → Sat M C R S → Type 0
  drew_served j step m found m' = stage_of m.0 ≡ Some Idle → step.first ≤ serving_of m.0
      → Stays m.0 m'.0 × SeesMore m.0 m'.0
      × (found ≡ step.first → (stage_of m'.0 ≡ Some (Holding step.first))
      × ((journal : M) × (m'.1 ≡ (0, Some journal) ∷ m.1) × HasEntered j m'.0 step.first journal)
      × (step.second ≡ step.first + 1))
      × (found ≢ step.first → (stage_of m'.0 ≡ Some Idle) × (m'.1 ≡ m.1) × (seen_of m'.0 ≡ seen_of m.0)
      × (serving_of m'.0 ≡ serving_of m.0) × (next_of m'.0 ≡ found) × (step.first < found))

  -- the step in which a waiting seat receives the slot and sees the log of the journal in it, if its ticket is served
  abbrev pub looked : Readings M C R S → Step (Option M) → Sat M C R S → ℕ → Sat M C R S → Type 0
  looked j step m found m' = (t : ℕ) → stage_of m.0 ≡ Some (Waiting t)
      → Stays m.0 m'.0 × SeesMore m.0 m'.0
      × (found ≡ t → (stage_of m'.0 ≡ Some (Holding t))
      × ((journal : M) × (m'.1 ≡ (0, Some journal) ∷ m.1) × HasEntered j m'.0 t journal))
      × (found ≢ t → (stage_of m'.0 ≡ Some (Waiting t)) × (m'.1 ≡ m.1) × (seen_of m'.0 ≡ seen_of m.0))

  -- the step in which a holding seat publishes the log of the journal that it carries
  abbrev pub published : Readings M C R S → Step (Option M) → Sat M C R S → ℕ → Sat M C R S → Type 0
  published j step m found m' = (t : ℕ) (journal : M) → stage_of m.0 ≡ Some (Holding t)
      → m.1 ≡ (0, Some journal) ∷ []
      → Stays m.0 m'.0 × (m'.1 ≡ m.1) × (stage_of m'.0 ≡ Some (Holding t)) × (seen_of m'.0 ≡ j.log journal)
      × IsLegal (j.reply_of (j.setup journal)) (j.log journal)

  -- the step in which a holding seat returns the journal, so that the next ticket is served
  abbrev pub released : Step (Option M) → Sat M C R S → ℕ → Sat M C R S → Type 0
  released step m found m' = (t : ℕ) → stage_of m.0 ≡ Some (Holding t)
      → SeesTheSame m.0 m'.0 × (m'.1 ≡ rest m.1) × (stage_of m'.0 ≡ Some Idle) × (serving_of m'.0 ≡ t + 1)
      × (serving_of m.0 ≤ t)

-- holds if it is the same seat, and knows no less of the words
abbrev pub IsSameSeat : {X C R S : Type 0} → Seat X (View C R S) → Seat X (View C R S) → Type 0
IsSameSeat s t = (t.table_id ≡ s.table_id) × (t.id ≡ s.id) × Stays s.me.0 t.me.0

-- holds if the seat is at this table, which has the three words
abbrev pub IsSeated : TableId → TableId → Type 0
IsSeated seat table = (seat ≡ table) × (2 < table.words)

module _ {M C R S : Type 0} (j : Readings M C R S) where
  -- holds if the seat has the slot with the journal that it found
  abbrev pub Carries : Seat (Option M) (View C R S) → ℕ → Type 0
  Carries s ticket = (journal : M) × (s.me.1 ≡ (0, Some journal) ∷ []) × HasEntered j s.me.0 ticket journal

  -- holds if the seat holds the slot by some ticket, and the journal in it is as the seat has seen it
  abbrev pub HoldsPublished : Seat (Option M) (View C R S) → Type 0
  HoldsPublished s = (ticket : ℕ) × (stage_of s.me.0 ≡ Some (Holding ticket))
      × ((journal : M) × (s.me.1 ≡ (0, Some journal) ∷ []) × IsAsSeen j s.me.0 journal)

  -- Holds if the seat holds its slot by some ticket, the slot is empty, and the journal is one entry ahead of what the
  -- seat has seen.
  abbrev pub HoldsAhead : Seat (Option M) (View C R S) → M → Type 0
  HoldsAhead s journal = (ticket : ℕ) × (stage_of s.me.0 ≡ Some (Holding ticket))
      × (s.me.1 ≡ (0, None) ∷ []) × IsAhead j s.me.0 ticket journal

  -- holds if the same is true with the journal in the slot, and this is its mark
  abbrev pub MayPublish : Seat (Option M) (View C R S) → ℕ → Type 0
  MayPublish s mark = (ticket : ℕ) × (stage_of s.me.0 ≡ Some (Holding ticket))
      × ((journal : M) × (s.me.1 ≡ (0, Some journal) ∷ []) × IsAhead j s.me.0 ticket journal
      × IsMarkOf j (j.setup journal) (j.log journal) mark)

  -- Holds if the seat has entered with this ticket and has taken this journal out of its slot, which is empty. It has
  -- seen the log of the journal, which begins with what it had seen before and has no new entry of its own pass.
  pub record HasLifted (s t : Seat (Option M) (View C R S)) (ticket : ℕ) (journal : M) : Type 0 where
    pub holds : stage_of t.me.0 ≡ Some (Holding ticket)
    pub slot : t.me.1 ≡ (0, None) ∷ []
    pub entered : HasEntered j t.me.0 ticket journal
    pub begins : BeginsWith (seen_of t.me.0) (seen_of s.me.0)
    pub own : KeepsOwn s.me.0 t.me.0

  -- Holds if these are the words and the content of the slot after an idle seat with this view closed the table. If
  -- both words are one number, each drawn ticket is served, and the slot has a journal with the setup and all that the
  -- seat had seen, whose tickets are below that number.
  pub record IsLeft (v : View C R S) (next serving : ℕ) (slot : Option M) : Type 0 where
    pub order : serving ≤ next
    pub next_reached : next_of v ≤ next
    pub serving_reached : serving_of v ≤ serving
    pub settled : next ≡ serving → (journal : M) × (slot ≡ Some journal) × BeginsWith (j.log journal) (seen_of v)
        × ((number : ℕ) → numbers_of v ≡ number ∷ []
        → entries_of number (j.log journal) ≡ entries_of number (seen_of v))
        × (setup_of v ≡ Some (j.setup journal)) × IsLegal (j.reply_of (j.setup journal)) (j.log journal)
        × AllBelow serving (j.log journal)
