-- Lemmas on changes: one seat changes its view, the lock's words may increase, and the rule of the lock is preserved.
use Rattle.std.proofs.Common.{◌≡◌, ◌≢◌, ◌⊎◌, ℕ, ◌+◌, ◌^◌, ◌<◌, ◌≤◌, List, [], ◌∷◌, set, Option, Some, None}
use Rattle.std.proofs.Common.{refl, sym, ap, ◌∙◌, subst, ⊎_elim, le_refl, le_trans, arith}
use Rattle.std.proofs.lemmas.Option.{none-some}
use mathlib.Core.Option.{none, some, some-injective}
use mathlib.Core.Option as maybe
use lib.ListN.{get_elem?}
use Rattle.atomic_table.specs.Table.{State}
use Rattle.atomic_table.proofs.Lists.{at_set}
use Rattle.ra_journal.specs.declared.entry.Entry.{Entry}
use Rattle.ra_ticket.specs.declared.board.View.{View}
use Rattle.ra_ticket.specs.declared.board.View.TheVariants.{Knows}
use Rattle.ra_ticket.specs.declared.board.Known.{Known}
use Rattle.ra_ticket.specs.declared.board.Stage.{Stage}
use Rattle.ra_ticket.specs.declared.board.Stage.TheVariants.{Waiting, Holding}
use Rattle.ra_journal.specs.Log.{Readings, AllBelow, BeginsWith, IsLegal}
use Rattle.ra_ticket.specs.Mark.{IsMarkOf}
use Rattle.ra_ticket.specs.Views.{numbers_of, next_of, serving_of, ticket_at, ticket_of, held_at}
use Rattle.ra_ticket.specs.Views.{held_of, seen_of, HasBegun, HasOwn, IsSetUp}
use Rattle.ra_ticket.specs.Rule.{At, SitsAt, NobodyHolds, TurnsKept}
use Rattle.ra_ticket.proofs.Seats.{each_after, at_after, at_back, at_forth, apart_after}
use Rattle.ra_ticket.proofs.Logs.{begins_same, begun_more}

module _ {M C R S : Type 0} (j : Readings M C R S) (opened : S) where
  abbrev pub Table : Type 0
  Table = State (Option M) (View C R S)

  abbrev pub Homes : Type 0
  Homes = List (maybe.Option (Option M))

  abbrev pub Log : Type 0
  Log = List (Entry C R)

  abbrev pub Rule : Table → Type 0
  Rule = TurnsKept j opened

  -- the words, as the rule states them
  abbrev pub words : (s : Table) → Rule s → List ℕ
  words s r = r.next ∷ r.serving ∷ r.mark ∷ r.others

  -- the rule, for these words and slots and this view of seat id
  abbrev pub Then : (s : Table) → Rule s → ℕ → ℕ → ℕ → ℕ → Homes → View C R S → Type 0
  Then s r id next' serving' mark' homes' w =
      Rule record { words = next' ∷ serving' ∷ mark' ∷ r.others; homes = homes'; views = set s.views id w }

  -- a holding seat has a ticket
  held_at_all : (st : Stage) (t : ℕ) → held_at st ≡ Some t → ticket_at st ≡ Some t
  held_at_all (Holding n) t e = e
  held_at_all _ t e = absurd (cc)

  held_ticket : (v : View C R S) (t : ℕ) → held_of v ≡ Some t → ticket_of v ≡ Some t
  held_ticket (Knows k) t e = held_at_all k.stage t e
  held_ticket _ t e = absurd (cc)

  -- only the seat whose ticket is served can hold the lock
  pub holder_is : (s : Table) (r : Rule s) (id t : ℕ) → At ticket_of s.views id t → t ≡ r.serving → (seat u : ℕ)
      → At held_of s.views seat u → seat ≡ id
  holder_is s r id t mine served seat u a =
      r.tickets_apart seat id t
      (subst (At ticket_of s.views seat) ((r.out seat u a).0 ∙ sym served) (a.0, a.1, held_ticket a.0 u a.2)) mine

  -- so no seat holds the lock while this one is waiting
  pub nobody_holds : (s : Table) (r : Rule s) (id t : ℕ) (k : Known C R S) → get_elem? s.views id ≡ some (Knows k)
      → k.stage ≡ Waiting t → t ≡ r.serving → NobodyHolds s.views
  nobody_holds s r id t k here waits served seat u a =
      let same : seat ≡ id = holder_is s r id t (Knows k, here, ap ticket_at waits) served seat u a in
      let me : Knows k ≡ a.0 = some-injective (Knows k) a.0 (sym here ∙ (ap (get_elem? s.views) (sym same) ∙ a.1)) in
      let held : held_at k.stage ≡ Some u = ap held_of me ∙ a.2 in
      let none_held = ap held_at waits in cc

  -- no seat holds the lock if no ticket is outstanding
  pub nobody_out : (s : Table) (r : Rule s) → r.next ≡ r.serving → NobodyHolds s.views
  nobody_out s r same seat u a = let b = r.drawn seat u (a.0, a.1, held_ticket a.0 u a.2) in omega arith

  -- seat id changes its view from v to w, the words become next', serving' and mark', the slots homes', and the front
  -- front'
  pub record Change (s : Table) (r : Rule s) (id : ℕ) (v w : View C R S) (next' serving' mark' : ℕ) (homes' : Homes)
      (front' : Log) : Type 0 where
    pub order : serving' ≤ next'
    pub fits : next' < 2 ^ 64
    pub next_up : r.next ≤ next'
    pub serving_up : r.serving ≤ serving'
    pub reached : (next_of w ≤ next') × (serving_of w ≤ serving')
    pub numbers : numbers_of w ≡ numbers_of v
    pub set_up : IsSetUp opened w
    pub others_drawn : (seat t : ℕ) → seat ≢ id → At ticket_of s.views seat t → serving' ≤ t
    pub drawn : (t : ℕ) → ticket_of w ≡ Some t → (serving' ≤ t) × (t < next')
    pub apart : (seat t : ℕ) → ticket_of w ≡ Some t → seat ≢ id → At ticket_of s.views seat t → ⊥
    pub out : (seat t : ℕ) → At held_of (set s.views id w) seat t → (t ≡ serving') × (homes' ≡ none ∷ [])
    pub home : NobodyHolds (set s.views id w) → (journal : M) × (homes' ≡ some (Some journal) ∷ [])
    pub grows : BeginsWith front' r.front
    pub others_held : (seat t : ℕ) (u : View C R S) → seat ≢ id → get_elem? s.views seat ≡ some u → held_of u ≡ Some t
        → seen_of u ≡ front'
    pub held : (t : ℕ) → held_of w ≡ Some t → seen_of w ≡ front'
    pub rests : (journal : M) → homes' ≡ some (Some journal) ∷ [] → (j.log journal ≡ front') × AllBelow serving' front'
    pub served : AllBelow (serving' + 1) front'
    pub legal : IsLegal (j.reply_of opened) front'
    pub marked : IsMarkOf j opened front' mark'
    pub begun : HasBegun w front'
    pub own : HasOwn w front'
    pub others_own : (seat : ℕ) (u : View C R S) → seat ≢ id → get_elem? s.views seat ≡ some u → HasOwn u front'
    pub home_set_up : (journal : M) → homes' ≡ some (Some journal) ∷ [] → j.setup journal ≡ opened

  module _ (s : Table) (r : Rule s) (id : ℕ) (v w : View C R S) (here : get_elem? s.views id ≡ some v) where
    sits_back : numbers_of w ≡ numbers_of v → (seat k number : ℕ) → SitsAt (set s.views id w) seat k number
        → SitsAt s.views seat k number
    sits_back same seat k number a = ⊎_elim
        (λ (t : (seat ≡ id) × (w ≡ a.0)). (
          v,
          ap (get_elem? s.views) t.0
              ∙ here,
          ap (λ (l : List ℕ). get_elem? l k) (sym same ∙ ap numbers_of t.1) ∙ a.2,
        ))
        (λ (t : (seat ≢ id) × (get_elem? s.views seat ≡ some a.0)). (a.0, t.1, a.2)) (at_set s.views id seat w a.0 a.1)

    -- such a change preserves the rule
    pub changed : (next' serving' mark' : ℕ) (homes' : Homes) (front' : Log)
        → Change s r id v w next' serving' mark' homes' front' → Then s r id next' serving' mark' homes' w
    changed next' serving' mark' homes' front' c = record {
      next = next';
      serving = serving';
      mark = mark';
      others = r.others;
      words = refl;
      order = c.order;
      fits = c.fits;
      reached = each_after (λ (x : View C R S). (next_of x ≤ next') × (serving_of x ≤ serving')) s.views id w c.reached
          (λ seat u _ at. let low = r.reached seat u at in (le_trans low.0 c.next_up, le_trans low.1 c.serving_up));
      drawn = λ seat t a. ⊎_elim (λ (e : (seat ≡ id) × (ticket_of w ≡ Some t)). c.drawn t e.1)
          (λ (e : (seat ≢ id) × At ticket_of s.views seat t).
          (c.others_drawn seat t e.0 e.1, let b = r.drawn seat t e.1 in let up = c.next_up in omega arith))
          (at_after ticket_of s.views id v w here seat t a);
      tickets_apart = apart_after ticket_of s.views id v w here r.tickets_apart c.apart;
      out = c.out;
      home = c.home;
      front = front';
      held = λ seat t u at. each_after (λ (x : View C R S). held_of x ≡ Some t → seen_of x ≡ front') s.views id w
          (c.held t) (λ a x other there. c.others_held a t x other there) seat u at;
      rests = c.rests;
      served = c.served;
      legal = c.legal;
      marked = c.marked;
      begun = each_after (λ (x : View C R S). HasBegun x front') s.views id w c.begun
          (λ seat u _ at. begun_more u r.front front' c.grows (r.begun seat u at));
      own = each_after (λ (x : View C R S). HasOwn x front') s.views id w c.own c.others_own;
      passes_apart = λ a b k l number p q. r.passes_apart a b k l number (sits_back c.numbers a k number p)
          (sits_back c.numbers b l number q);
      set_up = each_after (IsSetUp opened) s.views id w c.set_up (λ seat u _ at. r.set_up seat u at);
      home_set_up = c.home_set_up;
    }

    -- a change that leaves the slots, `serving` and the front unchanged, after which the seat may see more
    pub seeing : (next' : ℕ) → next' < 2 ^ 64 → r.next ≤ next' → (next_of w ≤ next') × (serving_of w ≤ r.serving)
        → numbers_of w ≡ numbers_of v → held_of w ≡ held_of v
        → IsSetUp opened w → HasBegun w r.front → HasOwn w r.front
        → ((t : ℕ) → held_of w ≡ Some t → seen_of w ≡ r.front)
        → ((t : ℕ) → ticket_of w ≡ Some t → (r.serving ≤ t) × (t < next'))
        → ((seat t : ℕ) → ticket_of w ≡ Some t → seat ≢ id → At ticket_of s.views seat t → ⊥)
        → Then s r id next' r.serving r.mark s.homes w
    seeing next' fits up reached numbers held set_up begun own front drawn apart =
        changed next' r.serving r.mark s.homes r.front record {
          order = le_trans r.order up;
          fits = fits;
          next_up = up;
          serving_up = le_refl r.serving;
          reached = reached;
          numbers = numbers;
          set_up = set_up;
          others_drawn = λ seat t _ a. (r.drawn seat t a).0;
          drawn = drawn;
          apart = apart;
          out = λ seat t a. r.out seat t (at_back held_of s.views id v w here held seat t a);
          home = λ nobody. r.home (λ seat t a. nobody seat t (at_forth held_of s.views id v w here held seat t a));
          grows = begins_same r.front r.front refl;
          others_held = λ seat t u _ at e. r.held seat t u at e;
          held = front;
          rests = r.rests;
          served = r.served;
          legal = r.legal;
          marked = r.marked;
          begun = begun;
          own = own;
          others_own = λ seat u _ at. r.own seat u at;
          home_set_up = r.home_set_up;
        }

  -- a new view that a seat may have with the same words, slots and front: it has no ticket
  pub record Fits (s : Table) (r : Rule s) (u : View C R S) : Type 0 where
    pub reached : (next_of u ≤ r.next) × (serving_of u ≤ r.serving)
    pub no_ticket : ticket_of u ≡ None
    pub set_up : IsSetUp opened u
    pub begun : HasBegun u r.front
    pub own : HasOwn u r.front

  -- each seat keeps its view, or has one that fits
  module _ (s : Table) (r : Rule s) (views : List (View C R S))
      (who : (seat : ℕ) (u : View C R S) → get_elem? views seat ≡ some u
      → (get_elem? s.views seat ≡ some u) ⊎ Fits s r u)
    where
      each : (P : View C R S → Type 0) → ((u : View C R S) → Fits s r u → P u)
          → ((seat : ℕ) (u : View C R S) → get_elem? s.views seat ≡ some u → P u)
          → (seat : ℕ) (u : View C R S) → get_elem? views seat ≡ some u → P u
      each P new old seat u at = ⊎_elim (λ (e : get_elem? s.views seat ≡ some u). old seat u e)
          (λ (f : Fits s r u). new u f) (who seat u at)

      back : (of : View C R S → Option ℕ) → ((u : View C R S) (t : ℕ) → of u ≡ Some t → ticket_of u ≡ Some t)
          → (seat t : ℕ) → At of views seat t → At of s.views seat t
      back of has seat t a = ⊎_elim (λ (e : get_elem? s.views seat ≡ some a.0). (a.0, e, a.2))
          (λ (f : Fits s r a.0). absurd (none-some t (sym f.no_ticket ∙ has a.0 t a.2))) (who seat a.0 a.1)

      pub reseated : ((seat t : ℕ) → At held_of s.views seat t → At held_of views seat t)
          → ((a b k l number : ℕ) → SitsAt views a k number → SitsAt views b l number → (a ≡ b) × (k ≡ l))
          → Rule record { words = s.words; homes = s.homes; views = views }
      reseated holds apart = record {
        next = r.next;
        serving = r.serving;
        mark = r.mark;
        others = r.others;
        words = r.words;
        order = r.order;
        fits = r.fits;
        reached = each (λ (x : View C R S). (next_of x ≤ r.next) × (serving_of x ≤ r.serving))
            (λ u f. f.reached) r.reached;
        drawn = λ seat t a. r.drawn seat t (back ticket_of (λ u n e. e) seat t a);
        tickets_apart = λ a b t p q. r.tickets_apart a b t (back ticket_of (λ u n e. e) a t p)
            (back ticket_of (λ u n e. e) b t q);
        out = λ seat t a. r.out seat t (back held_of held_ticket seat t a);
        home = λ nobody. r.home (λ seat t a. nobody seat t (holds seat t a));
        front = r.front;
        held = λ seat t u at. each (λ (x : View C R S). held_of x ≡ Some t → seen_of x ≡ r.front)
            (λ x f e. absurd (none-some t (sym f.no_ticket ∙ held_ticket x t e))) (λ a x there. r.held a t x there)
            seat u at;
        rests = r.rests;
        served = r.served;
        legal = r.legal;
        marked = r.marked;
        begun = each (λ (x : View C R S). HasBegun x r.front) (λ u f. f.begun) r.begun;
        own = each (λ (x : View C R S). HasOwn x r.front) (λ u f. f.own) r.own;
        passes_apart = apart;
        set_up = each (IsSetUp opened) (λ u f. f.set_up) r.set_up;
        home_set_up = r.home_set_up;
      }
