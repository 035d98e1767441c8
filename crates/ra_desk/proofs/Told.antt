-- Lemmas that restate the result of a call of the lock in the terms of a report.
use Rattle.std.proofs.Common.{◌≡◌, ℕ, ◌-◌, true, List, [], ◌∷◌, ◌++◌, length, take, Option, Some, IfSome, sym, ap, ◌∙◌, subst, length-append, arith}
use Rattle.std.specs.Prelude.{IfOk, All, map, ◌≢◌}
use Rattle.std.proofs.lemmas.List.Elements.{All-nil, All-cons, All-head, All-tail}
use Rattle.std.proofs.lemmas.Result.{IfOk-weaker, IfErr-weaker}
use Rattle.std.specs.declared.result.Result.{Result}
use Rattle.std.specs.declared.result.Result.TheVariants.{Ok, Err}
use Rattle.std.proofs.Math.Seq.{take-append_seam}
use Rattle.ra_journal.specs.Log.{entry, BeginsWith}
use Rattle.ra_labels.specs.declared.command.Command.{Command}
use Rattle.ra_labels.specs.declared.reply.Reply.{Reply}
use Rattle.ra_theorems.specs.AnyOrder.{is_of_any_order}
use Rattle.ra_monitor.specs.declared.setup.Setup.{Setup}
use Rattle.ra_monitor.specs.Replies.{is_yes}
use Rattle.ra_monitor.specs.Monitor.{MonitorEntry, answer_after, IsLegalLog, IsRaLinearizable, IsNoAtFault, IsFinalNo}
use Rattle.ra_ticket.specs.declared.fault.CallFault.{CallFault}
use Rattle.ra_ticket.specs.Callers.{pass_of}
use Rattle.ra_ticket.specs.Calls.{IsCall}
use Rattle.ra_ticket.specs.Passes.{pass_setup}
use Rattle.ra_desk.specs.declared.reporter.DeskReporter.{DeskReporter}
use Rattle.ra_desk.specs.Calls.{IsReport}
use Rattle.ra_desk.specs.Reports.{number_of, setup_of, log_of, before_last, EndsWith}

pub before_last-push : (log : List MonitorEntry) (e : MonitorEntry) → before_last (log ++ e ∷ []) ≡ log
before_last-push log e =
    let long : length (log ++ e ∷ []) - 1 ≡ length log = omega (arith, length-append log (e ∷ [])) in
    ap (λ n. take n (log ++ e ∷ [])) long ∙ take-append_seam log (e ∷ [])

-- the entries before the last one
pub before_last-of : (log before : List MonitorEntry) (e : MonitorEntry) → log ≡ before ++ e ∷ []
    → before_last log ≡ before
before_last-of log before e is = ap before_last is ∙ before_last-push before e

pub ends_with : (log before : List MonitorEntry) (number ticket : ℕ) (command : Command) (reply : Reply)
    → log ≡ before ++ entry number ticket command reply ∷ [] → EndsWith log number command reply
ends_with log before number ticket command reply is = (
  ticket,
  is ∙ ap (λ l. l ++ entry number ticket command reply ∷ [])
      (sym (before_last-of log before (entry number ticket command reply) is)),
)

-- a property of each reply in a legal log holds of its last reply
told : (setup : Setup) (P : List MonitorEntry → Command → Reply → Type 0)
    → ((before after : List MonitorEntry) (e : MonitorEntry) → IsLegalLog setup (before ++ e ∷ after)
    → P (before ++ e ∷ []) e.command e.reply)
    → (log before : List MonitorEntry) (e : MonitorEntry) → log ≡ before ++ e ∷ [] → IsLegalLog setup log
    → P log e.command e.reply
told setup P law log before e is legal =
    subst (λ (l : List MonitorEntry). P l e.command e.reply) (sym is)
    (law before [] e (subst (IsLegalLog setup) is legal))

-- what holds of a setup that is found to be this one, holds of this one
pub under : (P : Setup → Type 0) (found : Option Setup) (setup : Setup) → found ≡ Some setup → IfSome found P → P setup
under P found setup is holds = subst (λ (o : Option Setup). IfSome o P) is holds

module _ {E : Type 0} where
  -- a property of each reply in a legal log holds of a result that is its last reply
  said : (result : Result Reply E) (setup : Setup) (log : List MonitorEntry) (number : ℕ) (command : Command)
      (P : List MonitorEntry → Command → Reply → Type 0)
      → ((before after : List MonitorEntry) (e : MonitorEntry) → IsLegalLog setup (before ++ e ∷ after)
      → P (before ++ e ∷ []) e.command e.reply)
      → IfOk result (EndsWith log number command) → IfOk result (λ _. IsLegalLog setup log)
      → IfOk result (λ reply. P log command reply)
  said (Ok reply) setup log number command P law ends legal =
      told setup P law log (before_last log) (entry number ends.0 command reply) ends.1 legal
  said (Err e) setup log number command P law ends legal = tt

-- the answer after the entries before the last one
answered_last : (setup : Setup) (before : List MonitorEntry) (e : MonitorEntry)
    → e.reply ≡ answer_after setup before e.command
    → e.reply ≡ answer_after setup (before_last (before ++ e ∷ [])) e.command
answered_last setup before e is =
    subst (λ (l : List MonitorEntry). e.reply ≡ answer_after setup l e.command) (sym (before_last-push before e)) is

-- what the theorem `replies_under_lock` says of a setup
pub record Laws (setup : Setup) : Type 0 where
  pub reply : (before after : List MonitorEntry) (e : MonitorEntry) → IsLegalLog setup (before ++ e ∷ after)
      → e.reply ≡ answer_after setup before e.command
  pub yes : (before after : List MonitorEntry) (e : MonitorEntry) → IsLegalLog setup (before ++ e ∷ after)
      → is_yes e.reply ≡ true → IsRaLinearizable setup (before ++ e ∷ [])
  pub no : (before after : List MonitorEntry) (e : MonitorEntry) → IsLegalLog setup (before ++ e ∷ after)
      → IsNoAtFault setup (before ++ e ∷ []) e.reply
  pub final_no : (before after : List MonitorEntry) (e : MonitorEntry) → is_of_any_order setup.kind ≡ true
      → IsLegalLog setup (before ++ e ∷ after) → IsFinalNo setup (before ++ e ∷ []) e.reply

module _ (old new : DeskReporter) (command : Command) (result : Result Reply (CallFault Command))
    (laws : Laws (setup_of new)) (setup_still : setup_of new ≡ setup_of old)
    (call : IsCall answer_after (λ s. s.limit) (pass_of old.caller) (pass_of new.caller) command result) where
  abbrev setup : Setup
  setup = setup_of new

  abbrev log : List MonitorEntry
  log = log_of new

  ends : IfOk result (EndsWith log (number_of old) command)
  ends = IfOk-weaker result _ _
      (λ reply known. ends_with log known.before (number_of old) known.ticket command reply known.last) call.logged

  legal : IfOk result (λ _. IsLegalLog setup log)
  legal = IfOk-weaker result _ _
      (λ reply known. under (λ s. IsLegalLog s log) (pass_setup (pass_of new.caller)) setup new.same known) call.legal

  not_before : IfOk result (λ reply. BeginsWith (before_last log) (log_of old))
  not_before = IfOk-weaker result _ _
      (λ reply known. subst (λ l. BeginsWith l (log_of old))
      (sym (before_last-of log known.before (entry (number_of old) known.ticket command reply) known.last)) known.begins)
      call.logged

  answer : IfOk result (λ reply. reply ≡ answer_after setup (before_last log) command)
  answer = said result setup log (number_of old) command (λ l asked reply. reply ≡ answer_after setup (before_last l) asked)
      (λ before after e known. answered_last setup before e (laws.reply before after e known)) ends legal

  yes : IfOk result (λ reply. is_yes reply ≡ true → IsRaLinearizable setup log)
  yes = said result setup log (number_of old) command (λ l asked reply. is_yes reply ≡ true → IsRaLinearizable setup l)
      laws.yes ends legal

  no : IfOk result (IsNoAtFault setup log)
  no = said result setup log (number_of old) command (λ l asked reply. IsNoAtFault setup l reply) laws.no ends legal

  final_no : IfOk result (λ reply. is_of_any_order setup.kind ≡ true → IsFinalNo setup log reply)
  final_no = said result setup log (number_of old) command
      (λ l asked reply. is_of_any_order setup.kind ≡ true → IsFinalNo setup l reply)
      (λ before after e known any. laws.final_no before after e any known) ends legal

  -- a call of the lock with a monitor is a report
  pub reported : IsReport old new command result
  reported = record {
    same = record {
      number = call.pass.number;
      desk = call.pass.lock;
      setup = setup_still;
      seen_more = call.pass.seen_more;
      drawn = call.pass.next;
      served = call.pass.serving;
    };
    legal_still = λ was.
        under (λ s. IsLegalLog s log) (pass_setup (pass_of new.caller)) setup new.same
        (call.legal_still (subst (λ (o : Option Setup). IfSome o (λ s. IsLegalLog s (log_of old))) (sym old.same) was));
    logged = ends;
    not_before = not_before;
    mine = call.mine_and_then;
    legal = legal;
    answer = answer;
    yes = yes;
    no = no;
    final_no = final_no;
    handed_back = call.handed_back;
    mine_still = call.mine_still;
    full_at_the_limit = IfErr-weaker result _ _
        (λ fault known full. under (λ s. length log ≡ s.limit) (pass_setup (pass_of new.caller)) setup new.same (known full))
        call.full_at_the_limit;
    no_memory_below_the_limit = IfErr-weaker result _ _
        (λ fault known none. under (λ s. length log ≢ s.limit) (pass_setup (pass_of new.caller)) setup new.same (known none))
        call.no_memory_below_the_limit;
    worn_at_the_end = call.worn_at_the_end;
    served = call.served;
  }

-- a property of each image holds of each element
pub All-of_map : {A B : Type 0} (P : B → Type 0) (f : A → B) (xs : List A) → All P (map f xs) → All (λ x. P (f x)) xs
All-of_map P f [] all = All-nil (λ x. P (f x))
All-of_map P f (x ∷ xs) all =
    All-cons (λ y. P (f y)) x xs (All-head P (f x) (map f xs) all)
    (All-of_map P f xs (All-tail P (f x) (map f xs) all))
