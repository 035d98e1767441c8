-- Lemmas on the name of a joining replica: it is a new name, and there is room for it.
use Rattle.std.proofs.Common.{◌≡◌, ℕ, true, false, List, [], ◌∷◌, ◌++◌, length, Option, Some, None, refl, sym, ap, subst, ◌∙◌, arith}
use Rattle.ra_labels.specs.declared.kind.Kind.{Kind}
use Rattle.ra_labels.specs.declared.command.Command.{Command}
use Rattle.ra_labels.specs.declared.command.Command.TheVariants.{Join}
use Rattle.ra_labels.specs.declared.refusal.Refusal.{Refusal}
use Rattle.ra_labels.specs.declared.reply.Fault.{Fault}
use Rattle.ra_labels.specs.declared.reply.Reply.{Reply}
use Rattle.ra_labels.specs.declared.reply.Reply.TheVariants.{Joined}
use Rattle.ra_labels.specs.Records.{Records, replica_count}
use Rattle.ra_labels.specs.Fault.{fault_of}
use Rattle.ra_labels.specs.Answer.{answer_of, refusal_of}
use Rattle.ra_labels.specs.TheoremTerms.{ReplyMeaning}
use Rattle.ra_theorems.proofs.TheoremIndex.{reply_meaning, join_accepted_iff, answers_append-records}
use Rattle.ra_history_lines.proofs.TheoremIndex.{place_within, not_bad}
use Rattle.ra_history_lines.specs.declared.fault.NamesFault.TheVariants.{BadName}
use Rattle.ra_history_lines.specs.declared.format.Format.TheVariants.{Rah2}
use Rattle.ra_history_lines.specs.Grammar.{fields_of, second_of, new_name, Spells, SpellsJoin}
use Rattle.ra_history_lines.specs.Names.{MayJoin, StopsAdding}
use Rattle.ra_history_text.specs.Recording.{Recording, RecordsCommand, HasFewNames, LacksName}
use Rattle.ra_history_text.specs.Text.{records_in}

-- a command with this answer is not refused
not_refused : (kind : Kind) (n : ℕ) (records : Records) (c : Command) (replica : ℕ) (fault : Option Fault)
    (refusal : Option Refusal)
    → fault_of kind records ≡ fault → refusal_of kind n records c ≡ refusal
    → answer_of kind n records c ≡ Joined replica → refusal_of kind n records c ≡ None
not_refused kind n records c replica (Some fault) refusal failed refused e =
    absurd (let never = rw failed at e in cc)
not_refused kind n records c replica None (Some why) sound refused e =
    absurd (let never = rw (sound, refused) at e in cc)
not_refused kind n records c replica None None sound fits e = fits

-- what holds after an accepted join
pub record IsNamed (old mid : Recording) (line : List ℕ) : Type 0 where
  pub new : MayJoin Rah2 (mid.first ++ mid.joined) (new_name line)
  pub lacks : LacksName mid

named_behind : (old mid : Recording) (line : List ℕ) (replica from : ℕ) (reply : Reply) → HasFewNames old
    → SpellsJoin old.format (old.first ++ old.joined) (fields_of line) replica from
    → RecordsCommand old mid (Join replica from) reply → reply ≡ Joined replica → IsNamed old mid line
named_behind old mid line replica from reply few spelled records is =
    let n : ℕ = length old.first in
    let before : Records = records_in old.kind old.first old.commands in
    let c : Command = Join replica from in
    let names : List (List ℕ) = old.first ++ old.joined in
    let answer : answer_of old.kind n before c ≡ Joined replica = sym records.answered ∙ is in
    let fits = not_refused old.kind n before c replica (fault_of old.kind before) (refusal_of old.kind n before c)
    refl refl answer in
    let accepted = (join_accepted_iff n before replica from).0 fits in
    let named : new_name line ≡ spelled.name = ap second_of spelled.words in
    let within = place_within names spelled.name in
    let new : MayJoin Rah2 names (new_name line) =
    subst (MayJoin Rah2 names) (sym named) (record {
      room = omega (arith, accepted.1, accepted.2, spelled.who.place, within, few);
      form = spelled.who.form;
      new = omega (arith, accepted.1, spelled.who.place, within, few);
    }) in
    let says : ReplyMeaning old.kind n before c (Joined replica) =
    subst (ReplyMeaning old.kind n before c) answer (reply_meaning old.kind n before c) in
    let grown : Recording = record old { commands = old.commands ++ c ∷ [] } in
    let lacks : LacksName grown =
    omega (
      arith,
      few,
      ap (replica_count n) (answers_append-records old.kind n [] old.commands (c ∷ [])),
      ap (replica_count n) says.1,
    ) in
    subst (λ (history : Recording). IsNamed old history line) (sym records.recorded)
    (record { new = new; lacks = lacks })

pub may_name : (old mid : Recording) (line : List ℕ) (c : Command) (replica : ℕ) (reply : Reply) → HasFewNames old
    → Spells old.format old.kind (old.first ++ old.joined) line c → RecordsCommand old mid c reply
    → reply ≡ Joined replica → IsNamed old mid line
may_name old mid line c replica reply few spelled records is =
    let n : ℕ = length old.first in
    let before : Records = records_in old.kind old.first old.commands in
    let says : ReplyMeaning old.kind n before c (Joined replica) =
    subst (ReplyMeaning old.kind n before c) (sym records.answered ∙ is) (reply_meaning old.kind n before c) in
    let join = says.3.1 in
    named_behind old mid line replica says.3.0 reply few
    (subst (Spells old.format old.kind (old.first ++ old.joined) line) join spelled)
    (subst (λ (command : Command). RecordsCommand old mid command reply) join records) is

-- only an allocation can fail for such a name

pub not_bad_name : (names : List (List ℕ)) (name : List ℕ) (at : ℕ) → MayJoin Rah2 names name
    → StopsAdding names name (BadName at) → ⊥
not_bad_name names name at may stops =
    let both : true ≡ false = sym stops.1 ∙ not_bad Rah2 names name may in
    absurd cc
