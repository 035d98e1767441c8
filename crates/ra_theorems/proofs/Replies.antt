-- Lemmas on what replies state about the records, and on the answers to consecutive commands.
use Rattle.std.proofs.Common.{◌≡◌, ℕ, ◌<◌, List, [], ◌∷◌, ◌++◌, Option, Some, None, refl, sym, ap, ◌∙◌, subst}
use Rattle.std.specs.Prelude.{◌↔◌}
use Rattle.std.specs.Option.{option_map_or}
use Rattle.std.proofs.lemmas.Bool.{lt-ltb}
use Rattle.std.proofs.lemmas.Option.{none-some, same_Some}
use Rattle.ra_labels.specs.declared.kind.Kind.{Kind}
use Rattle.ra_labels.specs.declared.command.Command.{Command}
use Rattle.ra_labels.specs.declared.command.Command.TheVariants.{Operate, Deliver, Join, Verdict}
use Rattle.ra_labels.specs.declared.refusal.Refusal.{Refusal}
use Rattle.ra_labels.specs.declared.reply.Reply.{Reply}
use Rattle.ra_labels.specs.declared.reply.Reply.TheVariants as reply
use Rattle.ra_labels.specs.declared.reply.Fault.{Fault}
use Rattle.ra_labels.specs.Records.{Records, label_count, replica_count}
use Rattle.ra_labels.specs.Fault.{fault_of, fault_at}
use Rattle.ra_labels.specs.Answer.{no_reply, refusal_of, form_refusal, answer_to_accepted, with_accepted, answer_of, records_after, answers_to, records_after_all}
use Rattle.ra_labels.specs.Rewriting.{Part}
use Rattle.ra_labels.specs.Linearization.{IsRaLinearization}
use Rattle.ra_labels.specs.NamedOrder.{named_sequence}
use Rattle.ra_labels.specs.TheoremTerms.{ReplyMeaning}
use Rattle.ra_labels.specs.HistorySoFar.{NextOperation, next_operation, operate}
use Rattle.ra_theorems.proofs.Faults.{holds_from_no_fault}
use Rattle.ra_theorems.proofs.Joins.{joined-exactly}

module _ (kind : Kind) (replicas : ℕ) (records : Records) (command : Command) where
  -- after a fault each answer reports that fault, and the records do not change
  pub answer_of-fault : (fault : Fault) → fault_of kind records ≡ Some fault
      → answer_of kind replicas records command ≡ no_reply fault
  answer_of-fault fault is = rw is

  pub records_after-fault : (fault : Fault) → fault_of kind records ≡ Some fault
      → records_after kind replicas records command ≡ records
  records_after-fault fault is = rw is

  answer_of-refused : (why : Refusal) → fault_of kind records ≡ None
      → refusal_of kind replicas records command ≡ Some why
      → answer_of kind replicas records command ≡ reply.Refused why
  answer_of-refused why none is = rw (none, is)

  records_after-refused : (why : Refusal) → fault_of kind records ≡ None
      → refusal_of kind replicas records command ≡ Some why → records_after kind replicas records command ≡ records
  records_after-refused why none is = rw (none, is)

  answer_of-accepted : fault_of kind records ≡ None → refusal_of kind replicas records command ≡ None
      → answer_of kind replicas records command ≡ answer_to_accepted kind records command
  answer_of-accepted none fine = rw (none, fine)

  records_after-accepted : fault_of kind records ≡ None → refusal_of kind replicas records command ≡ None
      → records_after kind replicas records command ≡ with_accepted records command
  records_after-accepted none fine = rw (none, fine)

-- the reply to an accepted operation
operation_says : (kind : Kind) (replicas : ℕ) (records : Records) (next : NextOperation)
    (fault : Option Fault) → fault_of kind (operate next ∷ records) ≡ fault
    → records_after kind replicas records (operate next) ≡ operate next ∷ records
    → ReplyMeaning kind replicas records (operate next) (option_map_or no_reply fault (reply.Ok (label_count records)))
operation_says kind replicas records next None is after = (refl, after, is, (next, refl))
operation_says kind replicas records next (Some fault) is after = ap (fault_of kind) after ∙ is

-- the reply to an accepted command
accepted_says : (kind : Kind) (replicas : ℕ) (records : Records) (command : Command) → fault_of kind records ≡ None
    → refusal_of kind replicas records command ≡ None
    → records_after kind replicas records command ≡ with_accepted records command
    → ReplyMeaning kind replicas records command (answer_to_accepted kind records command)
accepted_says kind replicas records (Operate by op clock) none fine after =
    operation_says kind replicas records (next_operation by op clock) _ refl after
accepted_says kind replicas records (Deliver to label) none fine after = (after, none, (to, refl))
accepted_says kind replicas records (Join joined from) none fine after =
    (((joined-exactly replicas records joined from).0 fine).1, after, none, (from, refl))
accepted_says kind replicas records Verdict none fine after = (refl, after, none, refl)

-- the meaning of each reply
says : (kind : Kind) (replicas : ℕ) (records : Records) (command : Command) (fault : Option Fault)
    (refused : Option Refusal) → fault_of kind records ≡ fault → refusal_of kind replicas records command ≡ refused
    → ReplyMeaning kind replicas records command (answer_of kind replicas records command)
says kind replicas records command (Some fault) refused is_fault is_refused =
    subst (ReplyMeaning kind replicas records command) (sym (answer_of-fault kind replicas records command fault is_fault))
    (ap (fault_of kind) (records_after-fault kind replicas records command fault is_fault) ∙ is_fault)
says kind replicas records command None (Some why) is_fault is_refused =
    subst (ReplyMeaning kind replicas records command)
    (sym (answer_of-refused kind replicas records command why is_fault is_refused))
    (is_refused, records_after-refused kind replicas records command why is_fault is_refused, is_fault)
says kind replicas records command None None is_fault is_refused =
    subst (ReplyMeaning kind replicas records command)
    (sym (answer_of-accepted kind replicas records command is_fault is_refused))
    (accepted_says kind replicas records command is_fault is_refused
    (records_after-accepted kind replicas records command is_fault is_refused))

pub reply_says : (kind : Kind) (replicas : ℕ) (records : Records) (command : Command)
    → ReplyMeaning kind replicas records command (answer_of kind replicas records command)
reply_says kind replicas records command = says kind replicas records command _ _ refl refl

-- unless the reply reports a violation, the records that the command leaves have no fault
no_from_fault : (kind : Kind) (replicas : ℕ) (records : Records) (command : Command) (answer : Reply) (fault : Fault)
    → ReplyMeaning kind replicas records command answer → fault_of kind (records_after kind replicas records command)
    ≡ Some fault → answer ≡ no_reply fault
no_from_fault kind replicas records command (reply.Ok n) fault known is =
    absurd (none-some fault (sym (ap (fault_of kind) known.1 ∙ known.2) ∙ is))
no_from_fault kind replicas records command (reply.Got n) fault known is =
    absurd (none-some fault (sym (ap (fault_of kind) known.0 ∙ known.1) ∙ is))
no_from_fault kind replicas records command (reply.Joined n) fault known is =
    absurd (none-some fault (sym (ap (fault_of kind) known.1 ∙ known.2) ∙ is))
no_from_fault kind replicas records command (reply.Yes n) fault known is =
    absurd (none-some fault (sym (ap (fault_of kind) known.1 ∙ known.2) ∙ is))
no_from_fault kind replicas records command (reply.Refused why) fault known is =
    absurd (none-some fault (sym (ap (fault_of kind) known.1 ∙ known.2) ∙ is))
no_from_fault kind replicas records command (reply.No n why) fault known is =
    ap no_reply (same_Some (fault_at n why) fault (sym known ∙ is))

-- the reply reports a violation exactly if the records that the command leaves have that fault
pub no_at_fault : (kind : Kind) (replicas : ℕ) (records : Records) (command : Command) (fault : Fault)
    → (fault_of kind (records_after kind replicas records command) ≡ Some fault)
    ↔ (answer_of kind replicas records command ≡ no_reply fault)
no_at_fault kind replicas records command fault = (
  no_from_fault kind replicas records command _ fault (reply_says kind replicas records command),
  (λ is. subst (ReplyMeaning kind replicas records command) is (reply_says kind replicas records command)),
)

-- the answers to a concatenation of commands are those to the first part, then those to the second
pub answers_to-append : (kind : Kind) (replicas : ℕ) (records : Records) (first then : List Command)
    → answers_to kind replicas records (first ++ then) ≡ answers_to kind replicas records first
    ++ answers_to kind replicas (records_after_all kind replicas records first) then
answers_to-append kind replicas records [] then = refl
answers_to-append kind replicas records (command ∷ first) then =
    ap (λ answers. answer_of kind replicas records command ∷ answers)
    (answers_to-append kind replicas (records_after kind replicas records command) first then)

pub records_after_all-append : (kind : Kind) (replicas : ℕ) (records : Records) (first then : List Command)
    → records_after_all kind replicas records (first ++ then)
    ≡ records_after_all kind replicas (records_after_all kind replicas records first) then
records_after_all-append kind replicas records [] then = refl
records_after_all-append kind replicas records (command ∷ first) then =
    records_after_all-append kind replicas (records_after kind replicas records command) first then

-- if the replica is known, the refusal for the command's own form comes first
pub misfit_refuses : (kind : Kind) (replicas : ℕ) (records : Records) (next : NextOperation)
    (why : Refusal) → next.by < replica_count replicas records → form_refusal kind (operate next) ≡ Some why
    → refusal_of kind replicas records (operate next) ≡ Some why
misfit_refuses kind replicas records next why below is = rw (lt-ltb next.by (replica_count replicas records) below, is)

-- a reply `Ok` or `Yes` implies that some sequence is an RA-linearization of the records that the command leaves
pub ok_is_evidence : (kind : Kind) (replicas : ℕ) (records : Records) (command : Command) (n : ℕ)
    → answer_of kind replicas records command ≡ reply.Ok n → (sequence : List Part)
    × IsRaLinearization kind (records_after kind replicas records command) sequence
ok_is_evidence kind replicas records command n is =
    let known = subst (ReplyMeaning kind replicas records command) is (reply_says kind replicas records command) in (
      named_sequence kind (records_after kind replicas records command),
      holds_from_no_fault kind
          (records_after kind replicas records command) (ap (fault_of kind) known.1 ∙ known.2),
    )

pub yes_is_evidence : (kind : Kind) (replicas : ℕ) (records : Records) (command : Command) (n : ℕ)
    → answer_of kind replicas records command ≡ reply.Yes n → (sequence : List Part)
    × IsRaLinearization kind (records_after kind replicas records command) sequence
yes_is_evidence kind replicas records command n is =
    let known = subst (ReplyMeaning kind replicas records command) is (reply_says kind replicas records command) in (
      named_sequence kind (records_after kind replicas records command),
      holds_from_no_fault kind
          (records_after kind replicas records command) (ap (fault_of kind) known.1 ∙ known.2),
    )
