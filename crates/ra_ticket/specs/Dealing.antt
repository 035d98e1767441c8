-- The passes that are dealt out when a lock is opened.
use Rattle.std.specs.Prelude.{◌≡◌, ℕ, List, [], map, All}
use Rattle.std.specs.List.{range_with_len}
use Rattle.atomic_table.specs.Seated.{TableId}
use Rattle.ra_journal.specs.declared.journal.Journal.{Ghosts}
use Rattle.ra_ticket.specs.declared.board.View.{View}
use Rattle.ra_ticket.specs.declared.pass.Pass.{Pass}
use Rattle.ra_ticket.specs.Passes.{number_of, next_reached, serving_reached, pass_setup, seen}
use Rattle.ra_ticket.specs.Views.{next_of, serving_of, setup_of}

module _ {M C R S : Type 0} {g : Ghosts M C R S} where
  -- Holds if there are this many passes, numbered from 0 in their order, each with a seat at this table. Such a seat
  -- knows what one with this view knew, and has seen no entry.
  pub record AreDealt (table : TableId) (v : View C R S) (count : ℕ) (passes : List (Pass M C R S g)) : Type 0 where
    pub numbers : map number_of passes ≡ range_with_len 0 count
    pub own : All (λ p. p.seat.table_id ≡ table) passes
    pub next : All (λ p. next_reached p ≡ next_of v) passes
    pub serving : All (λ p. serving_reached p ≡ serving_of v) passes
    pub setup : All (λ p. pass_setup p ≡ setup_of v) passes
    pub none_seen : All (λ p. seen p ≡ []) passes
