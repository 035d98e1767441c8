-- Lemmas on each step on a word: it preserves the rule of the lock and has its postcondition.
use Rattle.std.proofs.Common.{◌≡◌, ◌≢◌, ℕ, ◌+◌, ◌%◌, ◌^◌, ◌<◌, ◌≤◌, List}
use Rattle.std.proofs.Common.{[], ◌∷◌, ◌++◌, set, get_or, Option, Some, None}
use Rattle.std.proofs.Common.{refl, sym, ap, ◌∙◌, subst, inl, inr, ◌⊎◌, le_refl, le_trans, mod-eq_of_lt, arith}
use mathlib.Core.Option.{none, some}
use lib.ListN.{get_elem?}
use Rattle.atomic_table.specs.Table.{Step, Act, keeps, takes, gives, Valid, homes_after, carried_after}
use Rattle.ra_journal.specs.declared.entry.Entry.{Entry}
use Rattle.ra_ticket.specs.declared.board.View.{View}
use Rattle.ra_ticket.specs.declared.board.View.TheVariants.{Knows}
use Rattle.ra_ticket.specs.declared.board.Known.{Known}
use Rattle.ra_ticket.specs.declared.board.Stage.{Stage}
use Rattle.ra_ticket.specs.declared.board.Stage.TheVariants.{Idle, Waiting, Holding}
use Rattle.ra_journal.specs.Log.{Readings, AllBelow, BeginsWith, MayFollow, IsLegal}
use Rattle.ra_ticket.specs.Mark.{IsMarkOf}
use Rattle.ra_ticket.specs.Views.{stage_of, ticket_at, ticket_of, held_at, held_of, setup_of, HasOwn}
use Rattle.ra_ticket.specs.Rule.{At, NobodyHolds}
use Rattle.ra_ticket.specs.Steps.{Stays, IsAsSeen, HasEntered, IsAhead, SeesMarked}
use Rattle.ra_ticket.specs.Steps.{drew_served, looked, published, released}
use Rattle.ra_ticket.proofs.Slots.{carries_one}
use Rattle.ra_ticket.proofs.Seats.{at_after, at_back, at_new}
use Rattle.ra_ticket.proofs.Logs.{begins_same, legal_push}
use Rattle.ra_ticket.proofs.Tickets.{below_more}
use Rattle.ra_ticket.proofs.OwnPasses.{own_skip}
use Rattle.std.proofs.lemmas.List.Elements.{All-push}
use Rattle.ra_ticket.proofs.Changes as changes

module _ {C R S : Type 0} where
  pub stage_is : (k : Known C R S) (st : Stage) → stage_of (Knows k) ≡ Some st → k.stage ≡ st
  stage_is k st e = cc

  -- the view of the same seat with these bounds of the words, this stage and this seen log
  abbrev pub knowing : Known C R S → ℕ → ℕ → Stage → List (Entry C R) → View C R S
  knowing k n m st log = Knows (record k { next = n; serving = m; stage = st; seen = log })

  pub stays : (k : Known C R S) (n m : ℕ) (st : Stage) (log : List (Entry C R)) → k.next ≤ n → k.serving ≤ m
      → Stays (Knows k) (knowing k n m st log)
  stays k n m st log up up_too = record { numbers = refl; setup = refl; next = up; serving = up_too }

module _ {M C R S : Type 0} (j : Readings M C R S) (opened : S) where
  abbrev Slots : Type 0
  Slots = List (ℕ × Option M)

  -- a step on word i, which becomes n, has a view and an act that preserve the rule and establish `then`
  abbrev pub Goes : changes.Table j opened → ℕ → Slots → List ℕ → (View C R S × Slots → Type 0) → Type 0
  Goes s id c words then = (w : View C R S) × (a : Act (Option M)) × Valid s.homes c a
      × changes.Rule j opened record { words = words; homes = homes_after s.homes c a; views = set s.views id w }
      × then (w, carried_after c a)

  -- the words, as the rule states them
  pub spelled : (s : changes.Table j opened) (r : changes.Rule j opened s) (id : ℕ) (c : Slots) (i : ℕ) (f : ℕ → ℕ)
      (then : ℕ → View C R S × Slots → Type 0)
      → Goes s id c (set (changes.words j opened s r) i (f (get_or (changes.words j opened s r) i 0)))
      (then (get_or (changes.words j opened s r) i 0))
      → Goes s id c (set s.words i (f (get_or s.words i 0))) (then (get_or s.words i 0))
  spelled s r id c i f then goes =
      subst (λ (ws : List ℕ). Goes s id c (set ws i (f (get_or ws i 0))) (then (get_or ws i 0))) (sym r.words) goes

  module _ (s : changes.Table j opened) (r : changes.Rule j opened s) (id : ℕ) (k : Known C R S)
      (here : get_elem? s.views id ≡ some (Knows k)) where
    -- the rule, for these words and slots and this view of the seat
    abbrev Then : ℕ → ℕ → ℕ → changes.Homes j opened → View C R S → Type 0
    Then next' serving' mark' homes' w = changes.Then j opened s r id next' serving' mark' homes' w

    low : (k.next ≤ r.next) × (k.serving ≤ r.serving)
    low = r.reached id (Knows k) here

    set_up : k.setup ≡ opened
    set_up = r.set_up id (Knows k) here

    -- a seat that does not hold the lock learns more of the words, or sees more of the log
    pub learns_more : (n m : ℕ) (log : List (Entry C R)) (c : Slots) (then : View C R S × Slots → Type 0)
        → held_at k.stage ≡ None → (n ≤ r.next) × (m ≤ r.serving) → BeginsWith r.front log
        → HasOwn (knowing k n m k.stage log) r.front → then (knowing k n m k.stage log, c)
        → Goes s id c (changes.words j opened s r) then
    learns_more n m log c then not_held reached begun own says = (
      knowing k n m k.stage log,
      keeps,
      tt,
      changes.seeing j opened s r id (Knows k) (knowing k n m k.stage log) here r.next r.fits (le_refl r.next) reached
          refl refl set_up begun own (λ t e. absurd (cc)) (λ t e. r.drawn id t (Knows k, here, e))
          (λ seat t e other a. other (r.tickets_apart seat id t a (Knows k, here, e))),
      says,
    )

    -- only of the words
    pub learns_words : (n m : ℕ) (c : Slots) (then : View C R S × Slots → Type 0) → held_at k.stage ≡ None
        → (n ≤ r.next) × (m ≤ r.serving) → then (knowing k n m k.stage k.seen, c)
        → Goes s id c (changes.words j opened s r) then
    learns_words n m c then not_held reached says = learns_more n m k.seen c then not_held reached
        (r.begun id (Knows k) here) (r.own id (Knows k) here) says

    pub front_marked : SeesMarked j (knowing k k.next k.serving k.stage r.front) r.mark
    front_marked = subst (λ (x : S). IsLegal (j.reply_of x) r.front × IsMarkOf j x r.front r.mark) (sym set_up)
        (r.legal, r.marked)

    pub drawing : (t : ℕ) → k.stage ≡ Idle → r.next ≡ t → t + 1 < 2 ^ 64
        → Then (t + 1) r.serving r.mark s.homes (knowing k (t + 1) k.serving (Waiting t) k.seen)
    drawing t idle e room = changes.seeing j opened s r id (Knows k) (knowing k (t + 1) k.serving (Waiting t) k.seen)
        here (t + 1) room (omega arith) (le_refl (t + 1), low.1) refl (sym (ap held_at idle)) set_up
        (r.begun id (Knows k) here) (r.own id (Knows k) here) (λ u e. absurd (cc))
        (λ u same. let is : t ≡ u = cc in (let o = r.order in omega arith, omega arith))
        (λ seat u same other a. let is : t ≡ u = cc in let b = r.drawn seat u a in omega arith)

    pub waits_on : (t : ℕ) (c : Slots) (st : Step (Option M)) → k.stage ≡ Waiting t → r.serving ≢ t
        → Goes s id c (changes.words j opened s r) (looked j st (Knows k, c) r.serving)
    waits_on t c st waits ne = learns_words k.next r.serving c (looked j st (Knows k, c) r.serving) (ap held_at waits)
        (low.0, le_refl r.serving) (λ u is. let same : t ≡ u = cc in (
          stays k k.next r.serving k.stage k.seen (le_refl k.next) low.1,
          (begins_same k.seen k.seen refl, λ a n at. refl),
          (λ e. absurd (ne (e ∙ sym same))),
          λ _. (is, refl, refl),
        ))

    -- the journal is in its slot, and the seat receives it with the ticket that is served
    carrying : (n next' t : ℕ) → next' < 2 ^ 64 → r.next ≤ next' → n ≤ next' → t ≡ r.serving → t < next'
        → ((seat : ℕ) → seat ≢ id → At ticket_of s.views seat t → ⊥)
        → (journal : M) → s.homes ≡ some (Some journal) ∷ [] → NobodyHolds s.views
        → Then next' r.serving r.mark (set s.homes 0 none) (knowing k n r.serving (Holding t) r.front)
    carrying n next' t fits up reached served below alone journal home nobody =
        changes.changed j opened s r id (Knows k) w here next' r.serving r.mark (set s.homes 0 none) r.front record {
          order = le_trans r.order up;
          fits = fits;
          next_up = up;
          serving_up = le_refl r.serving;
          reached = (reached, le_refl r.serving);
          numbers = refl;
          set_up = set_up;
          others_drawn = λ seat u _ a. (r.drawn seat u a).0;
          drawn = λ u e. let is : t ≡ u = cc in (omega arith, omega arith);
          apart = λ seat u e other a. let is : t ≡ u = cc in
              alone seat other (subst (At ticket_of s.views seat) (sym is) a);
          out = λ seat u a. (held_by seat u (at_after held_of s.views id (Knows k) w here seat u a), gone);
          home = λ none_holds. absurd (none_holds id t (at_new held_of s.views id (Knows k) w here t refl));
          grows = begins_same r.front r.front refl;
          others_held = λ seat u v _ at e. absurd (nobody seat u (v, at, e));
          held = λ u e. refl;
          rests = λ other there. let away = gone in absurd (cc);
          served = r.served;
          legal = r.legal;
          marked = r.marked;
          begun = begins_same r.front r.front refl;
          own = λ a n at. refl;
          others_own = λ seat u _ at. r.own seat u at;
          home_set_up = λ other there. let away = gone in absurd (cc);
        }
      where
        w : View C R S
        w = knowing k n r.serving (Holding t) r.front

        gone : set s.homes 0 none ≡ none ∷ []
        gone = ap (λ (hs : changes.Homes j opened). set hs 0 none) home

        held_by : (seat u : ℕ) → ((seat ≡ id) × (held_of w ≡ Some u)) ⊎ ((seat ≢ id) × At held_of s.views seat u)
            → u ≡ r.serving
        held_by seat u (inl h) = let e = h.1 in let is : t ≡ u = cc in sym is ∙ served
        held_by seat u (inr h) = absurd (nobody seat u h.1)

    -- what the seat then knows of the journal
    entered : (n t : ℕ) → t ≡ r.serving → (journal : M) → s.homes ≡ some (Some journal) ∷ []
        → HasEntered j (knowing k n r.serving (Holding t) r.front) t journal
    entered n t served journal home = let so = r.home_set_up journal home in record {
      as_seen = record { setup = ap (λ (x : S). Some x) (set_up ∙ sym so); log = (r.rests journal home).0 };
      below = subst (λ (n : ℕ). AllBelow n r.front) (sym served) (r.rests journal home).1;
      legal = subst (λ (x : S). IsLegal (j.reply_of x) r.front) (sym so) r.legal;
    }

    pub enters : (t : ℕ) (c : Slots) (st : Step (Option M)) → k.stage ≡ Waiting t → t ≡ r.serving
        → Goes s id c (changes.words j opened s r) (looked j st (Knows k, c) r.serving)
    enters t c st waits served = let mine : At ticket_of s.views id t = (Knows k, here, ap ticket_at waits) in
        let nobody = changes.nobody_holds j opened s r id t k here waits served in let found = r.home nobody in (
          knowing k k.next r.serving (Holding t) r.front,
          takes 0 (Some found.0),
          ap (λ (hs : changes.Homes j opened). get_elem? hs 0) found.1,
          carrying k.next r.next t r.fits (le_refl r.next) low.0 served (r.drawn id t mine).1
              (λ seat other a. other (r.tickets_apart seat id t a mine)) found.0 found.1 nobody,
          λ u is. let same : t ≡ u = cc in (
            stays k k.next r.serving (Holding t) r.front (le_refl k.next) low.1,
            (r.begun id (Knows k) here, r.own id (Knows k) here),
            (λ _. (
              ap (λ (n : ℕ). Some (Holding n)) same,
              (
                found.0,
                refl,
                subst (λ (n : ℕ). HasEntered j (knowing k k.next r.serving (Holding t) r.front) n found.0) same
                    (entered k.next t served found.0 found.1),
              ),
            )),
            λ ne. absurd (ne (sym served ∙ same)),
          ),
        )

    -- an idle seat that has seen `serving` at this ticket or above, and reads the ticket from `next`, enters with it
    pub enters_at_once : (t : ℕ) (c : Slots) (st : Step (Option M)) → k.stage ≡ Idle → t ≤ k.serving → r.next ≡ t
        → t + 1 < 2 ^ 64 → st.first ≡ t → st.second ≡ t + 1
        → Goes s id c ((t + 1) ∷ r.serving ∷ r.mark ∷ r.others) (drew_served j st (Knows k, c) r.next)
    enters_at_once t c st idle seen at_next room asked one_more = let served : t ≡ r.serving =
        let a = low.1 in let b = r.order in omega arith in
        let nobody = changes.nobody_out j opened s r (at_next ∙ served) in let found = r.home nobody in (
          knowing k (t + 1) r.serving (Holding t) r.front,
          takes 0 (Some found.0),
          ap (λ (hs : changes.Homes j opened). get_elem? hs 0) found.1,
          carrying (t + 1) (t + 1) t room (omega arith) (le_refl (t + 1)) served (omega arith)
              (λ seat _ a. let b = (r.drawn seat t a).1 in omega arith) found.0 found.1 nobody,
          λ _ _. (
            stays k (t + 1) r.serving (Holding t) r.front (let a = low.0 in omega arith) low.1,
            (r.begun id (Knows k) here, r.own id (Knows k) here),
            (λ _. (
              ap (λ (n : ℕ). Some (Holding n)) (sym asked),
              (
                found.0,
                refl,
                subst (λ (n : ℕ). HasEntered j (knowing k (t + 1) r.serving (Holding t) r.front) n found.0) (sym asked)
                    (entered (t + 1) t served found.0 found.1),
              ),
              one_more ∙ ap (λ (n : ℕ). n + 1) (sym asked),
            )),
            λ ne. absurd (ne (at_next ∙ sym asked)),
          ),
        )

    -- what a holding seat knows of the table
    module _ (t : ℕ) (holds : k.stage ≡ Holding t) where
      mine : At ticket_of s.views id t
      mine = (Knows k, here, ap ticket_at holds)

      slot : (t ≡ r.serving) × (s.homes ≡ none ∷ [])
      slot = r.out id t (Knows k, here, ap held_at holds)

      has_front : k.seen ≡ r.front
      has_front = r.held id t (Knows k) here (ap held_at holds)

      alone : (seat u : ℕ) → seat ≢ id → At held_of s.views seat u → ⊥
      alone seat u other a = other (changes.holder_is j opened s r id t mine slot.0 seat u a)

      opened_so : (journal : M) → setup_of (Knows k) ≡ Some (j.setup journal) → j.setup journal ≡ opened
      opened_so journal e = let same : k.setup ≡ j.setup journal = cc in sym same ∙ set_up

      -- the seat returns the journal
      leaving : (journal : M) → IsAsSeen j (Knows k) journal
          → Then r.next (t + 1) r.mark (set s.homes 0 (some (Some journal))) (knowing k k.next (t + 1) Idle k.seen)
      leaving journal seen = changes.changed j opened s r id (Knows k) w here r.next (t + 1) r.mark
          (set s.homes 0 (some (Some journal))) r.front record {
            order = let d = (r.drawn id t mine).1 in omega arith;
            fits = r.fits;
            next_up = le_refl r.next;
            serving_up = let e = slot.0 in omega arith;
            reached = (low.0, le_refl (t + 1));
            numbers = refl;
            set_up = set_up;
            others_drawn = λ seat u other a. let b = (r.drawn seat u a).0 in let e = slot.0 in
                let ne : u ≢ t = λ is. other
                (r.tickets_apart seat id t (subst (At ticket_of s.views seat) is a) mine) in omega arith;
            drawn = λ u e. absurd (cc);
            apart = λ seat u e _ _. cc;
            out = λ seat u a. nobody seat u (at_after held_of s.views id (Knows k) w here seat u a);
            home = λ _. (journal, back);
            grows = begins_same r.front r.front refl;
            others_held = λ seat u v other at e. absurd (alone seat u other (v, at, e));
            held = λ u e. absurd (cc);
            rests = λ other there. subst (λ (m : M). (j.log m ≡ r.front) × AllBelow (t + 1) r.front) (only other there)
                (seen.log ∙ has_front, below);
            served = below_more r.front (t + 1) below;
            legal = r.legal;
            marked = r.marked;
            begun = r.begun id (Knows k) here;
            own = r.own id (Knows k) here;
            others_own = λ seat u _ at. r.own seat u at;
            home_set_up = λ other there. subst (λ (m : M). j.setup m ≡ opened) (only other there)
                (opened_so journal seen.setup);
          }
        where
          w : View C R S
          w = knowing k k.next (t + 1) Idle k.seen

          below : AllBelow (t + 1) r.front
          below = subst (λ (n : ℕ). AllBelow (n + 1) r.front) (sym slot.0) r.served

          back : set s.homes 0 (some (Some journal)) ≡ some (Some journal) ∷ []
          back = ap (λ (hs : changes.Homes j opened). set hs 0 (some (Some journal))) slot.1

          only : (other : M) → set s.homes 0 (some (Some journal)) ≡ some (Some other) ∷ [] → journal ≡ other
          only other there = let b = back in cc

          nobody : (seat u : ℕ) → ((seat ≡ id) × (held_of w ≡ Some u)) ⊎ ((seat ≢ id) × At held_of s.views seat u)
              → (u ≡ t + 1) × (set s.homes 0 (some (Some journal)) ≡ none ∷ [])
          nobody seat u (inl h) = let e = h.1 in absurd (cc)
          nobody seat u (inr h) = absurd (alone seat u h.0 h.1)

      pub leaves : (journal : M) (st : Step (Option M)) → IsAsSeen j (Knows k) journal
          → Goes s id ((0, Some journal) ∷ []) (r.next ∷ ((r.serving + 1) % 2 ^ 64) ∷ r.mark ∷ r.others)
          (released st (Knows k, (0, Some journal) ∷ []) r.serving)
      leaves journal st seen = (
        knowing k k.next (t + 1) Idle k.seen,
        gives,
        tt,
        subst (λ (n : ℕ). Then r.next n r.mark (set s.homes 0 (some (Some journal)))
            (knowing k k.next (t + 1) Idle k.seen)) (sym up) (leaving journal seen),
        λ u is. let same : t ≡ u = cc in (
          (stays k k.next (t + 1) Idle k.seen (le_refl k.next) (let e = known in omega arith), refl),
          refl,
          refl,
          ap (λ (n : ℕ). n + 1) same,
          subst (λ (n : ℕ). k.serving ≤ n) same known,
        ),
      )
        where
          known : k.serving ≤ t
          known = subst (λ (n : ℕ). k.serving ≤ n) (sym slot.0) low.1

          room : r.serving + 1 < 2 ^ 64
          room = let d = (r.drawn id t mine).1 in let f = r.fits in let e = slot.0 in omega arith

          up : (r.serving + 1) % 2 ^ 64 ≡ t + 1
          up = mod-eq_of_lt room ∙ ap (λ (n : ℕ). n + 1) (sym slot.0)

      -- the seat publishes the log of its journal, which is one entry ahead
      module _ (journal : M) (ahead : IsAhead j (Knows k) t journal) where
        grown : j.log journal ≡ r.front ++ ahead.last ∷ []
        grown = ahead.log ∙ ap (λ (l : List (Entry C R)). l ++ ahead.last ∷ []) has_front

        legal : IsLegal (j.reply_of opened) (j.log journal)
        legal = subst (IsLegal (j.reply_of opened)) (sym grown)
            (legal_push (j.reply_of opened) r.front ahead.last r.legal follows)
          where
            follows : MayFollow (j.reply_of opened) r.front ahead.last
            follows = subst (λ (l : List (Entry C R)). MayFollow (j.reply_of opened) l ahead.last) has_front
                (subst (λ (x : S). MayFollow (j.reply_of x) k.seen ahead.last) (opened_so journal ahead.setup)
                ahead.follows)

        tells : (mark : ℕ) → IsMarkOf j (j.setup journal) (j.log journal) mark
            → Then r.next r.serving mark s.homes (knowing k k.next k.serving k.stage (j.log journal))
        tells mark is_mark = changes.changed j opened s r id (Knows k) w here r.next r.serving mark s.homes
            (j.log journal) record {
              order = r.order;
              fits = r.fits;
              next_up = le_refl r.next;
              serving_up = le_refl r.serving;
              reached = low;
              numbers = refl;
              set_up = set_up;
              others_drawn = λ seat u _ a. (r.drawn seat u a).0;
              drawn = λ u e. r.drawn id u (Knows k, here, e);
              apart = λ seat u e other a. other (r.tickets_apart seat id u a (Knows k, here, e));
              out = λ seat u a. r.out seat u (at_back held_of s.views id (Knows k) w here refl seat u a);
              home = λ nobody. absurd
                  (nobody id t (at_new held_of s.views id (Knows k) w here t (ap held_at holds)));
              grows = (ahead.last ∷ [], grown);
              others_held = λ seat u v other at e. absurd (alone seat u other (v, at, e));
              held = λ u e. refl;
              rests = λ other there. let away = slot.1 in absurd (cc);
              served = subst (AllBelow (r.serving + 1)) (sym grown)
                  (All-push (λ (e : Entry C R). e.ticket < r.serving + 1) r.front ahead.last r.served
                  (let a = ahead.its_ticket in let b = slot.0 in omega arith));
              legal = legal;
              marked = subst (λ (x : S). IsMarkOf j x (j.log journal) mark) (opened_so journal ahead.setup) is_mark;
              begun = begins_same (j.log journal) (j.log journal) refl;
              own = λ a n at. refl;
              others_own = λ seat u other at. subst (HasOwn u) (sym grown) (own_skip u r.front ahead.last
                  (λ a sits. other
                  (r.passes_apart seat id a 0 ahead.last.pass (u, at, sits)
                  (Knows k, here, ap (λ (l : List ℕ). get_elem? l 0) ahead.its_pass)).0) (r.own seat u at));
              home_set_up = λ other there. let away = slot.1 in absurd (cc);
            }
          where
            w : View C R S
            w = knowing k k.next k.serving k.stage (j.log journal)

        pub publishes_here : (mark : ℕ) (st : Step (Option M)) → IsMarkOf j (j.setup journal) (j.log journal) mark
            → Goes s id ((0, Some journal) ∷ []) (r.next ∷ r.serving ∷ mark ∷ r.others)
            (published j st (Knows k, (0, Some journal) ∷ []) mark)
        publishes_here mark st is_mark = (
          knowing k k.next k.serving k.stage (j.log journal),
          keeps,
          tt,
          tells mark is_mark,
          λ u other stands carries. let is : journal ≡ other = carries_one journal other carries in (
            stays k k.next k.serving k.stage (j.log journal) (le_refl k.next) (le_refl k.serving),
            refl,
            stands,
            ap j.log is,
            subst (λ (m : M). IsLegal (j.reply_of (j.setup m)) (j.log m)) is
                (subst (λ (x : S). IsLegal (j.reply_of x) (j.log journal)) (sym (opened_so journal ahead.setup)) legal),
          ),
        )
