-- Lemmas on the steps that a seat may make on a word, in the form that the table requires.
use Rattle.std.proofs.Common.{◌≡◌, ℕ, ◌+◌, ◌%◌, ◌^◌, ◌<◌, ◌≤◌, eqb, List, [], ◌∷◌, Option, Some, refl, sym, ap, ◌∙◌}
use Rattle.std.proofs.Common.{le_refl, le_trans, arith}
use mathlib.Core.Logic.{dite}
use native.Mathlib.Decide.{ℕ_discrete}
use prog.Atomic.{either}
use Rattle.atomic_table.specs.Table.{Step, keeps, Allows}
use Rattle.atomic_table.proofs.Lists.{exchanged}
use Rattle.ra_ticket.specs.declared.board.View.{View}
use Rattle.ra_ticket.specs.declared.board.View.TheVariants.{Knows}
use Rattle.ra_ticket.specs.declared.board.Stage.TheVariants.{Idle, Waiting, Holding}
use Rattle.ra_journal.specs.Log.{Readings}
use Rattle.ra_ticket.specs.Mark.{IsMarkOf}
use Rattle.ra_ticket.specs.Views.{stage_of, held_at, serving_of}
use Rattle.ra_ticket.specs.Steps.{IsAsSeen, IsAhead, learned, learned_serving, glanced}
use Rattle.ra_ticket.specs.Steps.{drew, drew_served, looked, published, released}
use Rattle.ra_ticket.proofs.Logs.{begins_same}
use Rattle.ra_ticket.proofs.Changes as changes
use Rattle.ra_ticket.proofs.Steps as steps
use Rattle.ra_ticket.proofs.Steps.{stage_is, knowing, stays}

module _ {M C R S : Type 0} (j : Readings M C R S) (opened : S) where
  abbrev Rule : changes.Table j opened → Type 0
  Rule = changes.Rule j opened

  abbrev Slots : Type 0
  Slots = List (ℕ × Option M)

  -- an idle seat reads `next`
  pub learns : (slots id : ℕ) (v : View C R S) (c : Slots) (st : Step (Option M)) → stage_of v ≡ Some Idle
      → Allows Rule slots id (v, c) 0 (λ n. n) (learned st (v, c))
  learns slots id (Knows k) c st idle s r deep at fits = let low = r.reached id (Knows k) at in
      steps.spelled j opened s r id c 0 (λ n. n) (learned st (Knows k, c))
      (steps.learns_words j opened s r id k at r.next k.serving c (learned st (Knows k, c) r.next)
      (ap held_at (stage_is k Idle idle)) (le_refl r.next, low.1)
      (λ _. (
        (stays k r.next k.serving k.stage k.seen low.0 (le_refl k.serving), refl),
        refl,
        idle,
        refl,
        le_trans low.1 r.order,
      )))
  learns slots id _ c st idle s r deep at fits = absurd (cc)

  -- an idle seat reads `serving`
  pub learns_serving : (slots id : ℕ) (v : View C R S) (c : Slots) (st : Step (Option M)) → stage_of v ≡ Some Idle
      → Allows Rule slots id (v, c) 1 (λ n. n) (learned_serving st (v, c))
  learns_serving slots id (Knows k) c st idle s r deep at fits = let low = r.reached id (Knows k) at in
      steps.spelled j opened s r id c 1 (λ n. n) (learned_serving st (Knows k, c))
      (steps.learns_words j opened s r id k at k.next r.serving c (learned_serving st (Knows k, c) r.serving)
      (ap held_at (stage_is k Idle idle)) (low.0, le_refl r.serving)
      (λ _. ((stays k k.next r.serving k.stage k.seen (le_refl k.next) low.1, refl), refl, idle, refl)))
  learns_serving slots id _ c st idle s r deep at fits = absurd (cc)

  -- an idle seat reads `mark`, and has then seen the front
  pub glances : (slots id : ℕ) (v : View C R S) (c : Slots) (st : Step (Option M)) → stage_of v ≡ Some Idle
      → Allows Rule slots id (v, c) 2 (λ n. n) (glanced j st (v, c))
  glances slots id (Knows k) c st idle s r deep at fits =
      steps.spelled j opened s r id c 2 (λ n. n) (glanced j st (Knows k, c))
      (steps.learns_more j opened s r id k at k.next k.serving r.front c (glanced j st (Knows k, c) r.mark)
      (ap held_at (stage_is k Idle idle)) (r.reached id (Knows k) at) (begins_same r.front r.front refl)
      (λ a n sits. refl)
      (λ _. (
        stays k k.next k.serving k.stage r.front (le_refl k.next) (le_refl k.serving),
        refl,
        idle,
        (r.begun id (Knows k) at, r.own id (Knows k) at),
        steps.front_marked j opened s r id k at,
        refl,
        refl,
      )))
  glances slots id _ c st idle s r deep at fits = absurd (cc)

  -- an idle seat draws ticket t
  pub draws : (slots id : ℕ) (v : View C R S) (c : Slots) (t : ℕ) (st : Step (Option M)) → st.first ≡ t
      → st.second ≡ t + 1 → t + 1 < 2 ^ 64 → stage_of v ≡ Some Idle
      → Allows Rule slots id (v, c) 0 (λ n. either (eqb n t) (t + 1) n) (drew st (v, c))
  draws slots id (Knows k) c t st asked one_more room idle s r deep at fits = let low = r.reached id (Knows k) at in
      let is = stage_is k Idle idle in
      steps.spelled j opened s r id c 0 (λ n. either (eqb n t) (t + 1) n) (drew st (Knows k, c))
      (exchanged r.next t (t + 1)
      (λ (n : ℕ). steps.Goes j opened s id c (n ∷ r.serving ∷ r.mark ∷ r.others) (drew st (Knows k, c) r.next))
      (λ e. (
        knowing k (t + 1) k.serving (Waiting t) k.seen,
        keeps,
        tt,
        steps.drawing j opened s r id k at t is e room,
        λ _. (
          (
            stays k (t + 1) k.serving (Waiting t) k.seen (let l : k.next ≤ r.next = low.0 in omega arith)
                (le_refl k.serving),
            refl,
          ),
          refl,
          (λ _. (ap (λ (n : ℕ). Some (Waiting n)) (sym asked), one_more ∙ ap (λ (n : ℕ). n + 1) (sym asked))),
          λ other. absurd (other (e ∙ sym asked)),
        ),
      ))
      (λ ne. steps.learns_words j opened s r id k at r.next k.serving c (drew st (Knows k, c) r.next) (ap held_at is)
      (le_refl r.next, low.1)
      (λ _. (
        (stays k r.next k.serving k.stage k.seen low.0 (le_refl k.serving), refl),
        refl,
        (λ e. absurd (ne (e ∙ asked))),
        λ _. (idle, refl),
      ))))
  draws slots id _ c t st asked one_more room idle s r deep at fits = absurd (cc)

  -- an idle seat that has seen `serving` at ticket t or above draws it and receives the slot
  pub draws_served : (slots id : ℕ) (v : View C R S) (c : Slots) (t : ℕ) (st : Step (Option M)) → st.first ≡ t
      → st.second ≡ t + 1 → t + 1 < 2 ^ 64 → stage_of v ≡ Some Idle → t ≤ serving_of v
      → Allows Rule slots id (v, c) 0 (λ n. either (eqb n t) (t + 1) n) (drew_served j st (v, c))
  draws_served slots id (Knows k) c t st asked one_more room idle seen s r deep at fits = let low =
      r.reached id (Knows k) at in let is = stage_is k Idle idle in
      steps.spelled j opened s r id c 0 (λ n. either (eqb n t) (t + 1) n) (drew_served j st (Knows k, c))
      (exchanged r.next t (t + 1)
      (λ (n : ℕ). steps.Goes j opened s id c (n ∷ r.serving ∷ r.mark ∷ r.others) (drew_served j st (Knows k, c) r.next))
      (λ e. steps.enters_at_once j opened s r id k at t c st is seen e room asked one_more)
      (λ ne. steps.learns_words j opened s r id k at r.next k.serving c (drew_served j st (Knows k, c) r.next)
      (ap held_at is) (le_refl r.next, low.1)
      (λ _ _. (
        stays k r.next k.serving k.stage k.seen low.0 (le_refl k.serving),
        (begins_same k.seen k.seen refl, λ a n sits. refl),
        (λ e. absurd (ne (e ∙ asked))),
        λ _. (
          idle,
          refl,
          refl,
          refl,
          refl,
          let a : k.serving ≤ r.serving = low.1 in let b = r.order in omega arith,
        ),
      ))))
  draws_served slots id _ c t st asked one_more room idle seen s r deep at fits = absurd (cc)

  -- a waiting seat reads `serving`, and receives the slot if its ticket is served
  pub looks : (slots id : ℕ) (v : View C R S) (c : Slots) (t : ℕ) (st : Step (Option M)) → stage_of v ≡ Some (Waiting t)
      → Allows Rule slots id (v, c) 1 (λ n. n) (looked j st (v, c))
  looks slots id (Knows k) c t st waits s r deep at fits = let is = stage_is k (Waiting t) waits in
      steps.spelled j opened s r id c 1 (λ n. n) (looked j st (Knows k, c))
      (dite (ℕ_discrete t r.serving) (λ e. steps.enters j opened s r id k at t c st is e)
      (λ ne. steps.waits_on j opened s r id k at t c st is (λ e. ne (sym e))))
  looks slots id _ c t st waits s r deep at fits = absurd (cc)

  -- a holding seat returns the journal, and the next ticket is served
  pub releases : (slots id : ℕ) (v : View C R S) (journal : M) (t : ℕ) (st : Step (Option M))
      → stage_of v ≡ Some (Holding t) → IsAsSeen j v journal
      → Allows Rule slots id (v, (0, Some journal) ∷ []) 1 (λ n. (n + 1) % 2 ^ 64)
      (released st (v, (0, Some journal) ∷ []))
  releases slots id (Knows k) journal t st holds seen s r deep at fits =
      steps.spelled j opened s r id ((0, Some journal) ∷ []) 1 (λ n. (n + 1) % 2 ^ 64)
      (released st (Knows k, (0, Some journal) ∷ []))
      (steps.leaves j opened s r id k at t (stage_is k (Holding t) holds) journal st seen)
  releases slots id _ journal t st holds seen s r deep at fits = absurd (cc)

  -- a holding seat stores the mark of its journal, which is one entry ahead
  pub publishes : (slots id : ℕ) (v : View C R S) (journal : M) (t mark : ℕ) (st : Step (Option M))
      → stage_of v ≡ Some (Holding t) → IsAhead j v t journal
      → IsMarkOf j (j.setup journal) (j.log journal) mark
      → Allows Rule slots id (v, (0, Some journal) ∷ []) 2 (λ _. mark)
      (λ _. published j st (v, (0, Some journal) ∷ []) mark)
  publishes slots id (Knows k) journal t mark st holds ahead is_mark s r deep at fits =
      steps.spelled j opened s r id ((0, Some journal) ∷ []) 2 (λ _. mark)
      (λ _. published j st (Knows k, (0, Some journal) ∷ []) mark)
      (steps.publishes_here j opened s r id k at t (stage_is k (Holding t) holds) journal ahead mark st is_mark)
  publishes slots id _ journal t mark st holds ahead is_mark s r deep at fits = absurd (cc)
