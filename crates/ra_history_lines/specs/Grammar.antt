-- The text format of a history, RAH 1 or RAH 2: its first two lines, and the command that each further line spells.
use Rattle.std.specs.Prelude.{◌≡◌, ℕ, ◌+◌, ◌^◌, ◌<◌, ◌≤◌, ◌==◌, nat_lt, Bool, true, false, not, ◌&&◌, ◌||◌, List, [], ◌∷◌, ◌++◌, length, map, Option, Some, None, IfSome, All, ◌≢◌, codes, decimal, bytes_eq, FitsSigned, if◌then◌else◌}
use Rattle.std.specs.Char.{is_ascii_lowercase, is_ascii_digit}
use Rattle.std.specs.Fmt.{signed_decimal}
use Rattle.std.specs.Int.{w32}
use Rattle.std.specs.List.{list_all, slice_split, join_with_byte, flat_map, IsDistinct, AllByRecursion}
use Rattle.ra_history_lines.specs.declared.limits.TheConstants.{LONGEST_LINE, LONGEST_NAME, MOST_COMMANDS, MOST_NAMES, MOST_NAMES_IN_RAH_1}
use Rattle.ra_history_lines.specs.declared.format.Format.{Format}
use Rattle.ra_history_lines.specs.declared.format.Format.TheVariants.{Rah1, Rah2}
use Rattle.ra_labels.specs.declared.kind.Kind.{Kind}
use Rattle.ra_labels.specs.declared.kind.Kind.TheVariants.{Counter, Register, LwwSet, OrSet, Rga}
use Rattle.ra_labels.specs.declared.kind.Kind.TheVariants as kinds
use Rattle.ra_labels.specs.declared.operation.Op.{Op}
use Rattle.ra_labels.specs.declared.operation.Op.TheVariants.{Inc, Dec, Count, Write, Last, LwwAdd, LwwRemove, LwwRead, OrAdd, OrRemove, OrRead, After, RgaRemove, RgaRead}
use Rattle.ra_labels.specs.declared.operation.Op.TheVariants as op
use Rattle.ra_labels.specs.declared.list_operation.ListOp.{ListOp}
use Rattle.ra_labels.specs.declared.list_operation.ListOp.TheVariants as list_op
use Rattle.ra_labels.specs.declared.command.Command.{Command}
use Rattle.ra_labels.specs.declared.command.Command.TheVariants.{Operate, Deliver, Join, Verdict}
use Rattle.ra_labels.specs.declared.reply.Reply.{Reply}
use Rattle.ra_labels.specs.declared.reply.Reply.TheVariants.{Joined}
use Rattle.ra_labels.specs.Records.{Records}
use Rattle.ra_labels.specs.Answer.{is_kind, answer_of, records_after}

-- ---- lines

-- Holds if the bytes are a line: no line feed (byte 10), and at most as many bytes as the longest line.
pub record IsLine (line : List ℕ) : Type 0 where
  pub one : All (λ byte. byte ≢ 10) line
  pub short : length line ≤ LONGEST_LINE

-- the bytes of lines, with a line feed after each
abbrev pub bytes_of : List (List ℕ) → List ℕ
bytes_of lines = flat_map (λ line. line ++ 10 ∷ []) lines

-- the fields of a line: the bytes before, between and after its spaces
abbrev pub fields_of : List ℕ → List (List ℕ)
fields_of line = slice_split (λ byte. byte == 32) line

-- ---- names

-- `true` if the byte is a letter from a to z or a digit
abbrev pub may_follow : ℕ → Bool
may_follow byte = is_ascii_lowercase byte || is_ascii_digit byte

-- `true` if the bytes are a letter from a to z and then letters or digits, at most as long as the longest name
abbrev pub has_form_of_name : List ℕ → Bool
has_form_of_name [] = false
has_form_of_name (first ∷ more) =
    is_ascii_lowercase first && nat_lt (length more) LONGEST_NAME && list_all may_follow more

-- `true` if the word is reserved by the format and names no replica
abbrev pub is_reserved : List ℕ → Bool
is_reserved word = bytes_eq word (codes "verdict") || bytes_eq word (codes "join")

abbrev pub is_name : List ℕ → Bool
is_name word = has_form_of_name word && not (is_reserved word)

-- the largest number of names on a second line
abbrev pub most_names : Format → ℕ
most_names Rah1 = MOST_NAMES_IN_RAH_1
most_names Rah2 = MOST_NAMES

-- holds if a history can begin with these names: from one to the largest number, all valid and distinct
pub record AreNames (format : Format) (names : List (List ℕ)) : Type 0 where
  pub some : 0 < length names
  pub few : length names ≤ most_names format
  pub each : list_all is_name names ≡ true
  pub distinct : IsDistinct bytes_eq names

-- the replica that a name represents: its position among the names, from 0; their number if it is not among them
abbrev pub index_of_name : List (List ℕ) → List ℕ → ℕ
index_of_name [] name = 0
index_of_name (first ∷ others) name = if bytes_eq name first then 0 else index_of_name others name + 1

-- ---- the two lines before the commands

abbrev pub kind_word : Kind → List ℕ
kind_word Counter = codes "counter"
kind_word Register = codes "register"
kind_word LwwSet = codes "lwwset"
kind_word OrSet = codes "orset"
kind_word Rga = codes "rga"
kind_word kinds.List = codes "list"
kind_word kinds.Any = codes "any"
kind_word kinds.MvRegister = codes "mvregister"

-- the beginning of a first line
abbrev pub format_word : Format → List ℕ
format_word Rah1 = codes "RAH 1 "
format_word Rah2 = codes "RAH 2 "

abbrev pub first_line : Format → Kind → List ℕ
first_line format kind = format_word format ++ kind_word kind

-- holds if the second line lists these names
abbrev pub ListsNames : Format → List ℕ → List (List ℕ) → Type 0
ListsNames format line names = AreNames format names × (fields_of line ≡ codes "replicas" ∷ names)

-- ---- numbers and lists

-- holds if the number fits in 32 bits
abbrev pub IsSmall : ℕ → Type 0
IsSmall n = n < 2 ^ 32

-- the field of a list: a minus (byte 45) if it is empty, else its numbers joined by commas (byte 44)
abbrev pub list_word : List ℕ → List ℕ
list_word [] = 45 ∷ []
list_word (x ∷ xs) = join_with_byte 44 (map decimal (x ∷ xs))

-- the field of a register's value
abbrev pub value_word : Option ℕ → List ℕ
value_word None = codes "none"
value_word (Some value) = decimal value

-- the field with a number sign (byte 35) before it
abbrev pub marked : List ℕ → List ℕ
marked word = 35 ∷ word

-- ---- commands

-- `true` if lines of this kind of history can spell the operation. A `read` is always the kind's own. A removal without
-- identifiers is an RGA's in an RGA, a list's in a list, and an LWW set's in each other kind. A write is a multi-value
-- register's in such a register, and a register's in each other kind. Only a list has `insert` and `part`, and only any
-- type has `update`. All else can be spelled in every kind.
abbrev pub has_words : Op → Kind → Bool
has_words Inc kind = true
has_words Dec kind = true
has_words (Count value) kind = is_kind kind Counter
has_words (Write value) kind = not (is_kind kind kinds.MvRegister)
has_words (Last value) kind = is_kind kind Register
has_words (LwwAdd x) kind = true
has_words (LwwRemove x) kind = not (is_kind kind Rga || is_kind kind kinds.List)
has_words (LwwRead list) kind = is_kind kind LwwSet
has_words (OrAdd x id) kind = true
has_words (OrRemove x ids) kind = true
has_words (OrRead list) kind = is_kind kind OrSet
has_words (After anchor x) kind = true
has_words (RgaRemove x) kind = is_kind kind Rga
has_words (RgaRead list) kind = is_kind kind Rga
has_words (op.List operation) kind = is_kind kind kinds.List
has_words op.AnyUpdate kind = is_kind kind kinds.Any
has_words (op.AnyRead value) kind = is_kind kind kinds.Any
has_words (op.MvWrite value) kind = is_kind kind kinds.MvRegister
has_words (op.MvRead values) kind = is_kind kind kinds.MvRegister

-- the fields of a list's operation, with its return value
abbrev pub list_operation_fields : ListOp → List (List ℕ)
list_operation_fields (list_op.Insert insertion) =
    codes "insert" ∷ decimal insertion.left ∷ decimal insertion.element ∷ decimal insertion.right ∷ []
list_operation_fields (list_op.Remove x) = codes "remove" ∷ decimal x ∷ []
list_operation_fields (list_op.Read list) = codes "read" ∷ list_word list ∷ []
list_operation_fields (list_op.Part list) = codes "part" ∷ list_word list ∷ []

-- the fields of an operation, with its return value
abbrev pub operation_fields : Op → List (List ℕ)
operation_fields Inc = codes "inc" ∷ []
operation_fields Dec = codes "dec" ∷ []
operation_fields (Count value) = codes "read" ∷ signed_decimal value ∷ []
operation_fields (Write value) = codes "write" ∷ decimal value ∷ []
operation_fields (Last value) = codes "read" ∷ value_word value ∷ []
operation_fields (LwwAdd x) = codes "add" ∷ decimal x ∷ []
operation_fields (LwwRemove x) = codes "remove" ∷ decimal x ∷ []
operation_fields (LwwRead list) = codes "read" ∷ list_word list ∷ []
operation_fields (OrAdd x id) = codes "add" ∷ decimal x ∷ marked (decimal id) ∷ []
operation_fields (OrRemove x ids) = codes "remove" ∷ decimal x ∷ marked (list_word ids) ∷ []
operation_fields (OrRead list) = codes "read" ∷ list_word list ∷ []
operation_fields (After anchor x) = codes "after" ∷ decimal anchor ∷ decimal x ∷ []
operation_fields (RgaRemove x) = codes "remove" ∷ decimal x ∷ []
operation_fields (RgaRead list) = codes "read" ∷ list_word list ∷ []
operation_fields (op.List operation) = list_operation_fields operation
operation_fields op.AnyUpdate = codes "update" ∷ []
operation_fields (op.AnyRead value) = codes "read" ∷ decimal value ∷ []
operation_fields (op.MvWrite value) = codes "write" ∷ decimal value ∷ []
operation_fields (op.MvRead values) = codes "read" ∷ list_word values ∷ []

-- the field of a clock: a commercial at (byte 64) and the number; none without a clock
abbrev pub clock_fields : Option ℕ → List (List ℕ)
clock_fields None = []
clock_fields (Some clock) = (64 ∷ decimal clock) ∷ []

-- holds if the numbers of the list's operation fit in 32 bits
abbrev pub HasSmallElements : ListOp → Type 0
HasSmallElements (list_op.Insert insertion) =
    IsSmall insertion.left × IsSmall insertion.element × IsSmall insertion.right
HasSmallElements (list_op.Remove x) = IsSmall x
HasSmallElements (list_op.Read list) = AllByRecursion IsSmall list
HasSmallElements (list_op.Part list) = AllByRecursion IsSmall list

-- holds if the numbers of the operation fit in 32 bits
abbrev pub HasSmallNumbers : Op → Type 0
HasSmallNumbers Inc = Unit {0}
HasSmallNumbers Dec = Unit {0}
HasSmallNumbers (Count value) = FitsSigned w32 value
HasSmallNumbers (Write value) = IsSmall value
HasSmallNumbers (Last value) = IfSome value IsSmall
HasSmallNumbers (LwwAdd x) = IsSmall x
HasSmallNumbers (LwwRemove x) = IsSmall x
HasSmallNumbers (LwwRead list) = AllByRecursion IsSmall list
HasSmallNumbers (OrAdd x id) = IsSmall x × IsSmall id
HasSmallNumbers (OrRemove x ids) = IsSmall x × AllByRecursion IsSmall ids
HasSmallNumbers (OrRead list) = AllByRecursion IsSmall list
HasSmallNumbers (After anchor x) = IsSmall anchor × IsSmall x
HasSmallNumbers (RgaRemove x) = IsSmall x
HasSmallNumbers (RgaRead list) = AllByRecursion IsSmall list
HasSmallNumbers (op.List operation) = HasSmallElements operation
HasSmallNumbers op.AnyUpdate = Unit {0}
HasSmallNumbers (op.AnyRead value) = IsSmall value
HasSmallNumbers (op.MvWrite value) = IsSmall value
HasSmallNumbers (op.MvRead values) = AllByRecursion IsSmall values

-- holds if the name is valid and represents the replica
pub record NamesReplica (names : List (List ℕ)) (name : List ℕ) (replica : ℕ) : Type 0 where
  pub form : is_name name ≡ true
  pub place : replica ≡ index_of_name names name

-- holds if a line with these fields spells the delivery of the label to the replica
pub record SpellsDelivery (names : List (List ℕ)) (fields : List (List ℕ)) (replica label : ℕ) : Type 0 where
  pub name : List ℕ
  pub who : NamesReplica names name replica
  pub small : IsSmall label
  pub words : fields ≡ name ∷ codes "got" ∷ decimal label ∷ []

-- holds if in this kind of history these fields spell the operation, followed by the clock if there is one
pub record AreFieldsOfOperation (kind : Kind) (fields : List (List ℕ)) (op : Op) (clock : Option ℕ) : Type 0 where
  pub own : has_words op kind ≡ true
  pub small : HasSmallNumbers op
  pub small_clock : IfSome clock IsSmall
  pub words : fields ≡ operation_fields op ++ clock_fields clock

-- holds if a line with these fields spells the operation at the replica, with this clock
pub record SpellsOperation (kind : Kind) (names fields : List (List ℕ)) (replica : ℕ) (op : Op)
    (clock : Option ℕ) : Type 0 where
  pub name : List ℕ
  pub who : NamesReplica names name replica
  pub body : List (List ℕ)
  pub is_body : AreFieldsOfOperation kind body op clock
  pub words : fields ≡ name ∷ body

-- Holds if a line with these fields spells the join of the replica, whose name comes first, from the other one. Only
-- RAH 2 has such lines.
pub record SpellsJoin (format : Format) (names fields : List (List ℕ)) (replica from : ℕ) : Type 0 where
  pub joins : format ≡ Rah2
  pub name : List ℕ
  pub who : NamesReplica names name replica
  pub source : List ℕ
  pub whom : NamesReplica names source from
  pub words : fields ≡ codes "join" ∷ name ∷ source ∷ []

-- holds if in a history of this kind with these names, a line with these fields spells the command
abbrev pub AreFieldsOf : Format → Kind → List (List ℕ) → List (List ℕ) → Command → Type 0
AreFieldsOf format kind names fields Verdict = fields ≡ codes "verdict" ∷ []
AreFieldsOf format kind names fields (Deliver replica label) = SpellsDelivery names fields replica label
AreFieldsOf format kind names fields (Operate replica op clock) = SpellsOperation kind names fields replica op clock
AreFieldsOf format kind names fields (Join replica from) = SpellsJoin format names fields replica from

-- holds if in a history of this kind with these names, the line spells the command
abbrev pub Spells : Format → Kind → List (List ℕ) → List ℕ → Command → Type 0
Spells format kind names line command = AreFieldsOf format kind names (fields_of line) command

-- the second field, which is the new name of a join; empty if there is none
abbrev pub second_of : List (List ℕ) → List ℕ
second_of [] = []
second_of (word ∷ []) = []
second_of (word ∷ name ∷ fields) = name

abbrev pub new_name : List ℕ → List ℕ
new_name line = second_of (fields_of line)

-- the names that joined, after a line with this reply
abbrev pub joined_by : Reply → List (List ℕ) → List ℕ → List (List ℕ)
joined_by (Joined replica) joined line = joined ++ new_name line ∷ []
joined_by _ joined line = joined

-- the names that joined, after a line of this command that follows these records
abbrev pub names_behind : Kind → ℕ → Records → List (List ℕ) → List ℕ → Command → List (List ℕ)
names_behind kind replicas records joined line command =
    joined_by (answer_of kind replicas records command) joined line

-- Holds if each of the lines spells the command at its position, after these records. The lines use the initial names
-- and those that joined so far; `all` are the names that joined in the end.
abbrev pub SpellEach : Format → Kind → List (List ℕ) → Records → List (List ℕ) → List (List ℕ) → List Command
    → List (List ℕ) → Type 0
SpellEach format kind first records joined [] [] all = joined ≡ all
SpellEach format kind first records joined (line ∷ lines) (command ∷ commands) all =
    Spells format kind (first ++ joined) line command
    × SpellEach format kind first (records_after kind (length first) records command)
    (names_behind kind (length first) records joined line command) lines commands all
SpellEach format kind first records joined _ _ all = ⊥

-- holds if the replica of the command, if it has one, is one of the named; of a join, the one that it is from
abbrev pub IsAtNamedReplica : List (List ℕ) → Command → Type 0
IsAtNamedReplica names Verdict = Unit {0}
IsAtNamedReplica names (Deliver replica label) = replica < length names
IsAtNamedReplica names (Operate replica op clock) = replica < length names
IsAtNamedReplica names (Join replica from) = from < length names

-- holds if for a join both lines give the new replica the same name
abbrev pub NameAlike : Command → List ℕ → List ℕ → Type 0
NameAlike (Join replica from) line other = new_name line ≡ new_name other
NameAlike command line other = Unit {0}

-- ---- the text

-- Holds if the text is a first line, a line of the initial names and at most the largest number of lines of commands,
-- and ends after the last line feed. The names in `joined` joined.
pub record Says (text : List ℕ) (format : Format) (kind : Kind) (first joined : List (List ℕ))
    (commands : List Command) : Type 0 where
  pub second : List ℕ
  pub lines : List (List ℕ)
  pub whole : text ≡ bytes_of (first_line format kind ∷ second ∷ lines)
  pub are_lines : AllByRecursion IsLine (first_line format kind ∷ second ∷ lines)
  pub lists : ListsNames format second first
  pub spell : SpellEach format kind first [] [] lines commands joined
  pub few : length commands ≤ MOST_COMMANDS
