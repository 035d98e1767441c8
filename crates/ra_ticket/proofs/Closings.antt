-- Lemmas on a lock whose table is closed.
use Rattle.std.proofs.Common.{◌≡◌, ℕ, List, ◌∷◌, Option, Some, refl, sym, ap, ◌∙◌, subst}
use mathlib.Core.Option.{some, some-injective}
use lib.ListN.{get_elem?}
use Rattle.atomic_table.specs.Table.{Final, Seen}
use Rattle.ra_journal.specs.declared.entry.Entry.{Entry}
use Rattle.ra_ticket.specs.declared.board.View.{View}
use Rattle.ra_ticket.specs.declared.board.View.TheVariants.{Knows}
use Rattle.ra_ticket.specs.declared.board.Stage.TheVariants.{Idle}
use Rattle.ra_journal.specs.Log.{Readings, AllBelow, BeginsWith, IsLegal}
use Rattle.ra_ticket.specs.Views.{stage_of, setup_of, seen_of, HasBegun, HasOwn, IsSetUp}
use Rattle.ra_ticket.specs.Rule.{TurnsKept}
use Rattle.ra_ticket.specs.Steps.{IsLeft}
use Rattle.ra_ticket.proofs.Changes.{nobody_out}
use Rattle.ra_ticket.proofs.OwnPasses.{own_alone}

module _ {C R S : Type 0} where
  begun : (v : View C R S) → stage_of v ≡ Some Idle → (log : List (Entry C R)) → HasBegun v log
      → BeginsWith log (seen_of v)
  begun (Knows k) idle log has = has
  begun _ idle log has = absurd (cc)

  -- an idle view has a setup
  pub idle_set_up : (v : View C R S) → stage_of v ≡ Some Idle → (setup : S) × (setup_of v ≡ Some setup)
  idle_set_up (Knows k) idle = (k.setup, refl)
  idle_set_up _ idle = absurd (cc)

  set_up_as : (v : View C R S) → stage_of v ≡ Some Idle → (opened : S) → IsSetUp opened v → setup_of v ≡ Some opened
  set_up_as (Knows k) idle opened is = ap (λ (x : S). Some x) is
  set_up_as _ idle opened is = absurd (cc)

module _ {M C R S : Type 0} (j : Readings M C R S) (opened : S) where
  pub is_left : (id : ℕ) (v : View C R S) (words : List ℕ) (slots : List (Option M)) (next serving : ℕ)
      (slot : Option M) → Final (Seen (TurnsKept j opened) id v) words slots
      → get_elem? words 0 ≡ some next → get_elem? words 1 ≡ some serving → get_elem? slots 0 ≡ some slot
      → stage_of v ≡ Some Idle → IsLeft j v next serving slot
  is_left id v words slots next serving slot left at_next at_serving at_slot idle = let s = left.0 in
      let r = left.1.0 in let here = left.1.1 in
      let spelled : words ≡ r.next ∷ r.serving ∷ r.mark ∷ r.others = sym left.2 ∙ r.words in
      let is_next : r.next ≡ next =
      some-injective r.next next (sym (ap (λ (ws : List ℕ). get_elem? ws 0) spelled) ∙ at_next) in
      let is_serving : r.serving ≡ serving =
      some-injective r.serving serving (sym (ap (λ (ws : List ℕ). get_elem? ws 1) spelled) ∙ at_serving) in record {
        order = rw (sym is_next, sym is_serving) r.order;
        next_reached = rw (sym is_next) (r.reached id v here).0;
        serving_reached = rw (sym is_serving) (r.reached id v here).1;
        settled = λ same. let found = r.home (nobody_out j opened s r (is_next ∙ (same ∙ sym is_serving))) in
            let journal = found.0 in let log = sym (r.rests journal found.1).0 in
            let set_up = r.home_set_up journal found.1 in (
              journal,
              sym (some-injective (Some journal) slot
                  (sym (left.4 0 (Some journal) (ap (λ hs. get_elem? hs 0) found.1)) ∙ at_slot)),
              begun v idle (j.log journal) (subst (HasBegun v) log (r.begun id v here)),
              (λ n of. sym (own_alone v (j.log journal) n Idle idle of (subst (HasOwn v) log (r.own id v here)))),
              set_up_as v idle opened (r.set_up id v here) ∙ ap (λ (x : S). Some x) (sym set_up),
              subst (λ (x : S). IsLegal (j.reply_of x) (j.log journal)) (sym set_up)
                  (subst (IsLegal (j.reply_of opened)) log r.legal),
              subst (λ (n : ℕ). AllBelow n (j.log journal)) is_serving
                  (subst (AllBelow r.serving) log (r.rests journal found.1).1),
            );
      }
