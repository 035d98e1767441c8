-- Lemmas on reading a line as a command, which succeeds exactly if the line spells that command.
use Rattle.std.proofs.Common.{◌≡◌, ℕ, ◌+◌, ◌<◌, true, inl, inr, eqb, List, [], ◌∷◌, ◌++◌, length, Option, Some, None, Result}
use Rattle.std.proofs.Common.{Ok, Err, refl, sym, ap, subst, ◌∙◌, arith}
use Rattle.std.specs.Prelude.{bytes_eq, codes, decimal, IfSome, IfOk, option_map, option_and_then}
use Rattle.std.specs.List.{join_with_byte}
use Rattle.std.proofs.lemmas.Bool.{eqb-true, cases_Bool}
use Rattle.std.proofs.lemmas.Option.{option_and_then_some}
use Rattle.ra_labels.specs.declared.kind.Kind.{Kind}
use Rattle.ra_labels.specs.declared.operation.Op.{Op}
use Rattle.ra_labels.specs.declared.command.Command.{Command}
use Rattle.ra_labels.specs.declared.command.Command.TheVariants.{Operate, Deliver, Join, Verdict}
use Rattle.ra_history_lines.specs.declared.format.Format.{Format}
use Rattle.ra_history_lines.specs.declared.format.Format.TheVariants.{Rah1, Rah2}
use Rattle.ra_history_lines.specs.Grammar.{IsSmall, is_name, index_of_name, fields_of, operation_fields, clock_fields, NamesReplica}
use Rattle.ra_history_lines.specs.Grammar.{AreFieldsOfOperation, AreFieldsOf, Spells, IsAtNamedReplica, NameAlike, second_of}
use Rattle.ra_history_lines.specs.Reading.{number_read, mark_first, clock_read, clock_last, delivery_read, operation_read}
use Rattle.ra_history_lines.specs.Reading.{word_first, replica_command_read, replica_read, is_join_word, join_read, command_read}
use Rattle.ra_history_lines.proofs.Pieces.{pieces-joined}
use Rattle.ra_history_lines.proofs.Lists.{mapped}
use Rattle.ra_history_lines.proofs.Numbers.{number_read-Some, number_read-decimal}
use Rattle.ra_history_lines.proofs.Operations.{same_bytes, chosen, word_found, word_of, behind_word, word_is, word_only}

-- ---- a line that is read spells the command

clock_found : (field : List ℕ) (at : ℕ) → clock_read field ≡ Some at → (field ≡ 64 ∷ decimal at) × IsSmall at
clock_found [] at e = absurd cc
clock_found (mark ∷ digits) at e =
    elim (chosen (eqb mark 64) (number_read digits) None (Some at) e) [
      | inl read ↦
          let says = number_read-Some digits at read.1 in
          let is : mark ≡ 64 = eqb-true mark 64 read.0 in
          (ap (λ (m : ℕ). m ∷ digits) is ∙ ap (λ (ds : List ℕ). 64 ∷ ds) says.0, says.1)
      | inr none ↦ absurd (let never = none.1 in cc)
    ]

clock_last_found : (fields : List (List ℕ)) (clock : Option ℕ) → clock_last fields ≡ Some clock
    → (fields ≡ clock_fields clock) × IfSome clock IsSmall
clock_last_found [] clock e =
    let is : None ≡ clock = cc in
    subst (λ (c : Option ℕ). ([] ≡ clock_fields c) × IfSome c IsSmall) is (refl, tt)
clock_last_found (field ∷ []) clock e =
    let m = mapped (λ at. Some at) (clock_read field) clock e in
    let says = clock_found field m.0 m.1 in
    subst (λ (c : Option ℕ). (field ∷ [] ≡ clock_fields c) × IfSome c IsSmall) m.2
    (ap (λ (f : List ℕ). f ∷ []) says.0, says.1)
clock_last_found (field ∷ another ∷ more) clock e = absurd cc

delivery_found : (format : Format) (kind : Kind) (names : List (List ℕ)) (name : List ℕ) (replica : ℕ)
    (fields : List (List ℕ))
    (c : Command)
    → NamesReplica names name replica → delivery_read replica fields ≡ Some c
    → AreFieldsOf format kind names (name ∷ codes "got" ∷ fields) c
delivery_found format kind names name replica [] c who e = absurd cc
delivery_found format kind names name replica (field ∷ []) c who e =
    let m = mapped (λ label. Deliver replica label) (number_read field) c e in
    let says = number_read-Some field m.0 m.1 in
    subst (AreFieldsOf format kind names (name ∷ codes "got" ∷ field ∷ [])) m.2
    (record { name = name; who = who; small = says.1; words = ap (λ (f : List ℕ). name ∷ codes "got" ∷ f ∷ []) says.0 })
delivery_found format kind names name replica (field ∷ another ∷ more) c who e = absurd cc

operation_found : (format : Format) (kind : Kind) (names : List (List ℕ)) (name : List ℕ) (replica : ℕ) (word : List ℕ)
    (fields : List (List ℕ)) (c : Command)
    → NamesReplica names name replica → operation_read kind replica word fields ≡ Some c
    → AreFieldsOf format kind names (name ∷ word ∷ fields) c
operation_found format kind names name replica word fields c who e =
    option_and_then_some (λ op. option_map (λ clock. Operate replica op.0 clock) (clock_last op.1))
    (word_first kind word fields) c e
    (λ op read next.
    let m = mapped (λ clock. Operate replica op.0 clock) (clock_last op.1) c next in
    let of = word_found kind word fields op read in
    let last = clock_last_found op.1 m.0 m.1 in
    let words : word ∷ fields ≡ operation_fields op.0 ++ clock_fields m.0 = of.words
    ∙ ap (λ (fs : List (List ℕ)). operation_fields op.0 ++ fs) last.0 in
    subst (AreFieldsOf format kind names (name ∷ word ∷ fields)) m.2
    (record {
      name = name;
      who = who;
      body = word ∷ fields;
      is_body = record { own = of.own; small = of.small; small_clock = last.1; words = words };
      words = refl;
    }))

replica_command_found : (format : Format) (kind : Kind) (names : List (List ℕ)) (name : List ℕ) (replica : ℕ)
    (word : List ℕ)
    (fields : List (List ℕ)) (c : Command)
    → NamesReplica names name replica → replica_command_read kind replica word fields ≡ Some c
    → AreFieldsOf format kind names (name ∷ word ∷ fields) c
replica_command_found format kind names name replica word fields c who e =
    elim (chosen (bytes_eq word (codes "got")) _ _ _ e) [
      | inl got ↦
          subst (λ (w : List ℕ). AreFieldsOf format kind names (name ∷ w ∷ fields) c)
          (sym (same_bytes word (codes "got") got.0))
          (delivery_found format kind names name replica fields c who got.1)
      | inr other ↦ operation_found format kind names name replica word fields c who other.1
    ]

replica_said : (names : List (List ℕ)) (word : List ℕ) (replica : ℕ) → replica_read names word ≡ Some replica
    → NamesReplica names word replica
replica_said names word replica read =
    elim (chosen (is_name word) _ _ _ read) [
      | inl is ↦ record { form = is.0; place = let some = is.1 in cc }
      | inr none ↦ absurd (let never = none.1 in cc)
    ]

word_joins : (format : Format) (word : List ℕ) → is_join_word format word ≡ true
    → (format ≡ Rah2) × (word ≡ codes "join")
word_joins Rah1 word e = absurd cc
word_joins Rah2 word e = (refl, same_bytes word (codes "join") e)

join_found : (format : Format) (kind : Kind) (names : List (List ℕ)) (name : List ℕ) (fields : List (List ℕ))
    (c : Command) → format ≡ Rah2 → join_read names name fields ≡ Some c
    → AreFieldsOf format kind names (codes "join" ∷ name ∷ fields) c
join_found format kind names name [] c joins e = absurd cc
join_found format kind names name (source ∷ []) c joins e =
    option_and_then_some (λ replica. option_map (λ from. Join replica from) (replica_read names source))
    (replica_read names name) c e
    (λ replica read next.
    let m = mapped (λ from. Join replica from) (replica_read names source) c next in
    subst (AreFieldsOf format kind names (codes "join" ∷ name ∷ source ∷ [])) m.2
    (record {
      joins = joins;
      name = name;
      who = replica_said names name replica read;
      source = source;
      whom = replica_said names source m.0 m.1;
      words = refl;
    }))
join_found format kind names name (source ∷ another ∷ more) c joins e = absurd cc

pub command_found : (format : Format) (kind : Kind) (names fields : List (List ℕ)) (c : Command)
    → command_read format kind names fields ≡ Some c
    → AreFieldsOf format kind names fields c
command_found format kind names [] c e = absurd cc
command_found format kind names (word ∷ []) c e =
    elim (chosen (bytes_eq word (codes "verdict")) _ _ _ e) [
      | inl verdict ↦
          let is : Verdict ≡ c = let some = verdict.1 in cc in
          subst (AreFieldsOf format kind names (word ∷ [])) is
          (ap (λ (w : List ℕ). w ∷ []) (same_bytes word (codes "verdict") verdict.0))
      | inr none ↦ absurd (let never = none.1 in cc)
    ]
command_found format kind names (name ∷ word ∷ fields) c e =
    elim (chosen (is_name name) _ _ _ e) [
      | inl read ↦ replica_command_found format kind names name (index_of_name names name) word fields c
          (record { form = read.0; place = refl }) read.1
      | inr other ↦ elim (chosen (is_join_word format name) _ _ _ other.1) [
        | inl join ↦
            let is = word_joins format name join.0 in
            subst (λ (first : List ℕ). AreFieldsOf format kind names (first ∷ word ∷ fields) c) (sym is.1)
            (join_found format kind names word fields c is.0 join.1)
        | inr none ↦ absurd (let never = none.1 in cc)
      ]
    ]

-- ---- a line that spells a command is read as it

replica_command_only : (format : Format) (kind : Kind) (names : List (List ℕ)) (name word : List ℕ) (fields : List
    (List ℕ)) (replica : ℕ)
    → NamesReplica names name replica
    → command_read format kind names (name ∷ word ∷ fields) ≡ replica_command_read kind replica word fields
replica_command_only format kind names name word fields replica who =
    rw who.form (ap (λ (r : ℕ). replica_command_read kind r word fields) (sym who.place))

clock_last_only : (clock : Option ℕ) → IfSome clock IsSmall → clock_last (clock_fields clock) ≡ Some clock
clock_last_only None small = refl
clock_last_only (Some at) small = rw (number_read-decimal at small) refl

clock_unmarked : (clock : Option ℕ) → mark_first (clock_fields clock) ≡ None
clock_unmarked None = refl
clock_unmarked (Some at) = refl

operation_only : (format : Format) (kind : Kind) (names : List (List ℕ)) (name : List ℕ) (replica : ℕ) (body : List
    (List ℕ)) (op : Op)
    (clock : Option ℕ) → NamesReplica names name replica
    → AreFieldsOfOperation kind body op clock
    → command_read format kind names (name ∷ body) ≡ Some (Operate replica op clock)
operation_only format kind names name replica body op clock who is =
    let word = word_is op in
    let fields = behind_word op ++ clock_fields clock in
    let parts : body ≡ word_of op ∷ fields = is.words ∙ ap (λ (fs : List (List ℕ)). fs ++ clock_fields clock) word.0 in
    let read = word_only kind op is.own is.small (clock_fields clock) (clock_unmarked clock) in
    let next = λ (r : Op × List (List ℕ)). option_map (λ at. Operate replica r.0 at) (clock_last r.1) in
    let last : operation_read kind replica (word_of op) fields ≡ Some (Operate replica op clock) =
    ap (option_and_then next) read
    ∙ ap (option_map (λ at. Operate replica op at)) (clock_last_only clock is.small_clock) in
    ap (λ (fs : List (List ℕ)). command_read format kind names (name ∷ fs)) parts
    ∙ replica_command_only format kind names name (word_of op) fields replica who ∙ rw word.1 last

delivery_only : (format : Format) (kind : Kind) (replica label : ℕ) (names : List (List ℕ)) (name : List ℕ)
    → NamesReplica names name replica → IsSmall label
    → command_read format kind names (name ∷ codes "got" ∷ decimal label ∷ []) ≡ Some (Deliver replica label)
delivery_only format kind replica label names name who small =
    replica_command_only format kind names name (codes "got") (decimal label ∷ []) replica who
    ∙ rw (number_read-decimal label small) refl

read_of : (names : List (List ℕ)) (word : List ℕ) (replica : ℕ) → NamesReplica names word replica
    → replica_read names word ≡ Some replica
read_of names word replica who = rw who.form (ap Some (sym who.place))

join_led : (format : Format) (kind : Kind) (names : List (List ℕ)) (name source : List ℕ) → format ≡ Rah2
    → command_read format kind names (codes "join" ∷ name ∷ source ∷ []) ≡ join_read names name (source ∷ [])
join_led Rah1 kind names name source joins = absurd cc
join_led Rah2 kind names name source joins = refl

pub command_only : (format : Format) (kind : Kind) (names fields : List (List ℕ)) (c : Command)
    → AreFieldsOf format kind names fields c
    → command_read format kind names fields ≡ Some c
command_only format kind names fields Verdict spelled = ap (command_read format kind names) spelled
command_only format kind names fields (Deliver replica label) spelled =
    ap (command_read format kind names) spelled.words
    ∙ delivery_only format kind replica label names spelled.name spelled.who spelled.small
command_only format kind names fields (Operate replica op clock) spelled =
    ap (command_read format kind names) spelled.words
    ∙ operation_only format kind names spelled.name replica spelled.body op clock spelled.who spelled.is_body
command_only format kind names fields (Join replica from) spelled =
    ap (command_read format kind names) spelled.words
    ∙ join_led format kind names spelled.name spelled.source spelled.joins
    ∙ rw (read_of names spelled.name replica spelled.who, read_of names spelled.source from spelled.whom) refl

-- a line spells at most one command
pub one_command : (format : Format) (kind : Kind) (names : List (List ℕ)) (line : List ℕ) (c d : Command)
    → Spells format kind names line c
    → Spells format kind names line d → c ≡ d
one_command format kind names line c d p q =
    let first = command_only format kind names (fields_of line) c p in
    let second = command_only format kind names (fields_of line) d q in
    cc

-- ---- only one line spells a command at a named replica

same_line : (line other : List ℕ) → fields_of line ≡ fields_of other → line ≡ other
same_line line other e = sym (pieces-joined 32 line) ∙ ap (join_with_byte 32) e ∙ pieces-joined 32 other

same_name : (names : List (List ℕ)) (name other : List ℕ) → index_of_name names name ≡ index_of_name names other
    → index_of_name names name < length names → name ≡ other
same_name [] name other same there = absurd (omega arith)
same_name (first ∷ names) name other same there =
    elim (cases_Bool (bytes_eq name first)) [
      | inl here ↦ elim (cases_Bool (bytes_eq other first)) [
        | inl too ↦ same_bytes name first here ∙ sym (same_bytes other first too)
        | inr later ↦ let both : 0 ≡ index_of_name names other + 1 = rw (here, later) at same in absurd (omega arith)
      ]
      | inr later ↦ elim (cases_Bool (bytes_eq other first)) [
        | inl here ↦ let both : index_of_name names name + 1 ≡ 0 = rw (here, later) at same in absurd (omega arith)
        | inr too ↦
            let both : index_of_name names name + 1 ≡ index_of_name names other + 1 = rw (later, too) at same in
            let within : index_of_name names name + 1 < length (first ∷ names) = rw later at there in
            same_name names name other (omega arith) (omega arith)
      ]
    ]

same_replica : (names : List (List ℕ)) (name other : List ℕ) (replica : ℕ) → NamesReplica names name replica
    → NamesReplica names other replica → replica < length names → name ≡ other
same_replica names name other replica p q there =
    same_name names name other (sym p.place ∙ q.place) (subst (λ (r : ℕ). r < length names) p.place there)

same_fields : (format : Format) (kind : Kind) (names : List (List ℕ)) (line other : List ℕ) (c : Command)
    → IsAtNamedReplica names c → Spells format kind names line c → Spells format kind names other c
    → NameAlike c line other
    → fields_of line ≡ fields_of other
same_fields format kind names line other Verdict there p q alike = p ∙ sym q
same_fields format kind names line other (Deliver replica label) there p q alike =
    let same = same_replica names p.name q.name replica p.who q.who there in
    p.words ∙ ap (λ (n : List ℕ). n ∷ codes "got" ∷ decimal label ∷ []) same ∙ sym q.words
same_fields format kind names line other (Operate replica op clock) there p q alike =
    let same = same_replica names p.name q.name replica p.who q.who there in
    p.words ∙ ap (λ (n : List ℕ). n ∷ p.body) same
    ∙ ap (λ (b : List (List ℕ)). q.name ∷ b) (p.is_body.words ∙ sym q.is_body.words) ∙ sym q.words
same_fields format kind names line other (Join replica from) there p q alike =
    let new : p.name ≡ q.name = sym (ap second_of p.words) ∙ alike ∙ ap second_of q.words in
    let source = same_replica names p.source q.source from p.whom q.whom there in
    p.words ∙ ap (λ (n : List ℕ). codes "join" ∷ n ∷ p.source ∷ []) new
    ∙ ap (λ (n : List ℕ). codes "join" ∷ q.name ∷ n ∷ []) source ∙ sym q.words

pub one_spelling : (format : Format) (kind : Kind) (names : List (List ℕ)) (line other : List ℕ) (c : Command)
    → IsAtNamedReplica names c → Spells format kind names line c → Spells format kind names other c
    → NameAlike c line other
    → line ≡ other
one_spelling format kind names line other c there p q alike =
    same_line line other (same_fields format kind names line other c there p q alike)

-- ---- in the terms of the reader's contract

found_in : (format : Format) (kind : Kind) (names : List (List ℕ)) (line : List ℕ) (o : Option Command)
    → o ≡ command_read format kind names (fields_of line) → IfSome o (λ c. Spells format kind names line c)
found_in format kind names line None e = tt
found_in format kind names line (Some c) e = command_found format kind names (fields_of line) c (sym e)

pub reader_found : {E : Type 0} (format : Format) (kind : Kind) (names : List (List ℕ)) (line : List ℕ) (r : Result
    (Option Command) E)
    → IfOk r (λ o. o ≡ command_read format kind names (fields_of line))
    → IfOk r (λ o. IfSome o (λ c. Spells format kind names line c))
reader_found format kind names line (Ok o) e = found_in format kind names line o e
reader_found format kind names line (Err fault) e = tt

pub reader_only : {E : Type 0} (format : Format) (kind : Kind) (names : List (List ℕ)) (line : List ℕ) (r : Result
    (Option Command) E)
    → IfOk r (λ o. o ≡ command_read format kind names (fields_of line))
    → IfOk r (λ o. (c : Command) → Spells format kind names line c → o ≡ Some c)
reader_only format kind names line (Ok o) e = λ c spelled. e ∙ command_only format kind names (fields_of line) c spelled
reader_only format kind names line (Err fault) e = tt
