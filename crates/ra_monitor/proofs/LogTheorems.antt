-- Lemmas on legal logs.
use Rattle.std.proofs.Common.{◌≡◌, ℕ, ◌-◌, ◌<◌, true, List, [], ◌∷◌, ◌++◌, length, Option, Some, refl, sym, ap, ◌∙◌, subst, append_assoc, length-append, arith}
use Rattle.std.proofs.lemmas.List.{append-nil}
use Rattle.std.specs.Prelude.{option_map, slice_get}
use Rattle.std.specs.Option.{ForSome}
use Rattle.ra_monitor.specs.declared.setup.Setup.{Setup}
use Rattle.ra_journal.specs.Log.{last_ticket_of, MayFollow, IsLegalAfter}
use Rattle.ra_labels.specs.declared.command.Command.{Command}
use Rattle.ra_labels.specs.declared.reply.Reply.{Reply}
use Rattle.ra_theorems.specs.AnyOrder.{is_of_any_order}
use Rattle.ra_monitor.specs.Replies.{is_yes}
use Rattle.ra_monitor.specs.Monitor.{MonitorEntry, answer_after, IsLegalLog, IsRaLinearizable, IsNoAtFault, IsFinalNo}
use Rattle.ra_monitor.proofs.Legal.{linearizable_after, no_after, final_no}

-- the rest of a legal log is legal after the entries before it
legal-drop : (answer : List MonitorEntry → Command → Reply) (start first rest : List MonitorEntry)
    → IsLegalAfter answer start (first ++ rest) → IsLegalAfter answer (start ++ first) rest
legal-drop answer start [] rest legal = subst (λ (l : List MonitorEntry). IsLegalAfter answer l rest) (sym (append-nil start)) legal
legal-drop answer start (entry ∷ first) rest legal =
    subst (λ (l : List MonitorEntry). IsLegalAfter answer l rest) (append_assoc start (entry ∷ []) first) (legal-drop answer (start ++ entry ∷ []) first rest legal.1)

slice_get-end : (log : List MonitorEntry) (entry : MonitorEntry) → slice_get (log ++ entry ∷ []) (length log) ≡ Some entry
slice_get-end [] entry = refl
slice_get-end (x ∷ log) entry = slice_get-end log entry

-- the last ticket of a log with one more entry
last_ticket_of-push : (log : List MonitorEntry) (entry : MonitorEntry) → last_ticket_of (log ++ entry ∷ []) ≡ Some entry.ticket
last_ticket_of-push log entry =
    let at : length (log ++ entry ∷ []) - 1 ≡ length log = omega (arith, length-append log (entry ∷ [])) in
    ap (λ n. option_map (λ (e : MonitorEntry). e.ticket) (slice_get (log ++ entry ∷ []) n)) at
    ∙ ap (option_map (λ (e : MonitorEntry). e.ticket)) (slice_get-end log entry)

-- the next entry's ticket is greater than the last one
above : (answer : List MonitorEntry → Command → Reply) (before : List MonitorEntry) (p q : MonitorEntry)
    → MayFollow answer (before ++ p ∷ []) q → p.ticket < q.ticket
above answer before p q follows =
    subst (λ (last : Option ℕ). ForSome last (λ t. t < q.ticket)) (last_ticket_of-push before p) follows.1 p.ticket refl

rises : (answer : List MonitorEntry → Command → Reply) (before between after : List MonitorEntry) (p q : MonitorEntry)
    → IsLegalAfter answer (before ++ p ∷ []) (between ++ q ∷ after) → p.ticket < q.ticket
rises answer before [] after p q legal = above answer before p q legal.0
rises answer before (r ∷ between) after p q legal =
    let first = above answer before p r legal.0 in
    let later = rises answer (before ++ p ∷ []) between after r q legal.1 in
    omega (arith, first, later)

pub may_follow : (setup : Setup) (before after : List MonitorEntry) (entry : MonitorEntry)
    → IsLegalLog setup (before ++ entry ∷ after) → MayFollow (answer_after setup) before entry
may_follow setup before after entry legal = (legal-drop (answer_after setup) [] before (entry ∷ after) legal).0

pub tickets_increase : (setup : Setup) (before between after : List MonitorEntry) (earlier later : MonitorEntry)
    → IsLegalLog setup (before ++ earlier ∷ (between ++ later ∷ after)) → earlier.ticket < later.ticket
tickets_increase setup before between after earlier later legal =
    rises (answer_after setup) before between after earlier later (legal-drop (answer_after setup) [] before (earlier ∷ (between ++ later ∷ after)) legal).1

pub yes_is_evidence : (setup : Setup) (before after : List MonitorEntry) (entry : MonitorEntry)
    → IsLegalLog setup (before ++ entry ∷ after) → is_yes entry.reply ≡ true → IsRaLinearizable setup (before ++ entry ∷ [])
yes_is_evidence setup before after entry legal said = linearizable_after setup before entry (may_follow setup before after entry legal).0 said

pub no_is_at_fault : (setup : Setup) (before after : List MonitorEntry) (entry : MonitorEntry)
    → IsLegalLog setup (before ++ entry ∷ after) → IsNoAtFault setup (before ++ entry ∷ []) entry.reply
no_is_at_fault setup before after entry legal = no_after setup before entry (may_follow setup before after entry legal).0

pub no_is_final : (setup : Setup) (before after : List MonitorEntry) (entry : MonitorEntry)
    → is_of_any_order setup.kind ≡ true → IsLegalLog setup (before ++ entry ∷ after)
    → IsFinalNo setup (before ++ entry ∷ []) entry.reply
no_is_final setup before after entry any legal =
    final_no setup (before ++ entry ∷ []) entry.reply (no_is_at_fault setup before after entry legal) any
