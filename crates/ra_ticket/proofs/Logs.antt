-- Lemmas on legal logs and their prefixes.
use Rattle.std.proofs.Common.{◌≡◌, ℕ, List, [], ◌∷◌, ◌++◌, Some, refl, sym, ap, ◌∙◌, subst}
use Rattle.std.proofs.lemmas.List.{append-nil, append_assoc}
use Rattle.ra_journal.specs.declared.entry.Entry.{Entry}
use Rattle.ra_ticket.specs.declared.board.View.{View}
use Rattle.ra_ticket.specs.declared.board.View.TheVariants.{Spent, Knows, Met}
use Rattle.ra_journal.specs.Log.{Readings, entry, BeginsWith, MayFollow, IsLegalAfter, IsLegal}
use Rattle.ra_ticket.specs.Steps.{HasEntered, IsAhead}
use Rattle.ra_ticket.specs.Views.{numbers_of, seen_of, HasBegun}
use Rattle.ra_ticket.proofs.Tickets.{above_last}

module _ {C R : Type 0} where
  pub begins_same : (xs ys : List (Entry C R)) → xs ≡ ys → BeginsWith xs ys
  begins_same xs ys e = ([], e ∙ sym (append-nil ys))

  pub begins_trans : (xs ys zs : List (Entry C R)) → BeginsWith xs ys → BeginsWith ys zs → BeginsWith xs zs
  begins_trans xs ys zs p q =
      (q.0 ++ p.0, p.1 ∙ (ap (λ (l : List (Entry C R)). l ++ p.0) q.1 ∙ append_assoc zs q.0 p.0))

  -- what a seat has seen of a log, it has seen of a longer one
  pub begun_more : {S : Type 0} (v : View C R S) (log more : List (Entry C R)) → BeginsWith more log → HasBegun v log
      → HasBegun v more
  begun_more Spent log more grows begun = tt
  begun_more (Knows k) log more grows begun = begins_trans more log k.seen grows begun
  begun_more (Met k l) log more grows begun =
      (begins_trans more log k.seen grows begun.0, begins_trans more log l.seen grows begun.1)

  module _ (answer : List (Entry C R) → C → R) where
    legal_after : (before log : List (Entry C R)) (e : Entry C R) → IsLegalAfter answer before log
        → MayFollow answer (before ++ log) e → IsLegalAfter answer before (log ++ e ∷ [])
    legal_after before [] e legal follows =
        (subst (λ (l : List (Entry C R)). MayFollow answer l e) (append-nil before) follows, tt)
    legal_after before (x ∷ xs) e legal follows = (
      legal.0,
      legal_after (before ++ x ∷ []) xs e legal.1
          (subst (λ (l : List (Entry C R)). MayFollow answer l e) (sym (append_assoc before (x ∷ []) xs)) follows),
    )

    -- a legal log with an entry that may follow it is legal
    pub legal_push : (log : List (Entry C R)) (e : Entry C R) → IsLegal answer log → MayFollow answer log e
        → IsLegal answer (log ++ e ∷ [])
    legal_push log e legal follows = legal_after [] log e legal follows

-- a journal that has answered is one entry ahead of the seat that entered
module _ {M C R S : Type 0} (j : Readings M C R S) where
  pub is_ahead : (v : View C R S) (t p : ℕ) (m m' : M) (c : C) (r : R) → HasEntered j v t m → numbers_of v ≡ p ∷ []
      → j.setup m' ≡ j.setup m → j.log m' ≡ j.log m ++ entry p t c r ∷ []
      → r ≡ j.reply_of (j.setup m) (j.log m) c → IsAhead j v t m'
  is_ahead v t p m m' c r entered numbers setup log reply = record {
    setup = entered.as_seen.setup ∙ ap (λ (x : S). Some x) (sym setup);
    last = entry p t c r;
    log = log ∙ ap (λ (l : List (Entry C R)). l ++ entry p t c r ∷ []) entered.as_seen.log;
    its_pass = numbers;
    its_ticket = refl;
    follows = (
      reply ∙ (ap (λ (s : S). j.reply_of s (j.log m) c) (sym setup)
          ∙ ap (λ (l : List (Entry C R)). j.reply_of (j.setup m') l c) entered.as_seen.log),
      above_last (seen_of v) t entered.below,
    );
  }
