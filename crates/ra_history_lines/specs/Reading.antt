-- How a line is parsed, field by field. Theorems state in the terms of Grammar alone that exactly what is spelled is
-- parsed.
use Rattle.std.specs.Prelude.{◌≡◌, ℕ, ◌+◌, ◌-◌, ◌*◌, ◌^◌, ◌==◌, nat_lt, nat_le, Bool, true, false, not, ◌&&◌, List, [], ◌∷◌, length, Option, Some, None, option_map, option_and_then, codes, bytes_eq, zero, suc, ℤ, pos, negsuc, if◌then◌else◌}
use Rattle.std.specs.Char.{is_ascii_digit}
use Rattle.ra_labels.specs.declared.kind.Kind.{Kind}
use Rattle.ra_labels.specs.declared.kind.Kind.TheVariants.{Counter, Register, LwwSet, OrSet, Rga}
use Rattle.ra_labels.specs.declared.kind.Kind.TheVariants as kinds
use Rattle.ra_labels.specs.declared.operation.Op.{Op}
use Rattle.ra_labels.specs.declared.operation.Op.TheVariants.{Inc, Dec, Count, Write, Last, LwwAdd, LwwRemove, LwwRead, OrAdd, OrRemove, OrRead, After, RgaRemove, RgaRead}
use Rattle.ra_labels.specs.declared.operation.Op.TheVariants as op
use Rattle.ra_labels.specs.declared.list_operation.ListOp.TheVariants as list_op
use Rattle.ra_labels.specs.Answer.{is_kind}
use Rattle.ra_labels.specs.declared.command.Command.{Command}
use Rattle.ra_labels.specs.declared.command.Command.TheVariants.{Operate, Deliver, Join, Verdict}
use Rattle.std.specs.List.{list_all, list_any}
use Rattle.std.specs.Option.{option_or}
use Rattle.ra_history_lines.specs.declared.format.Format.{Format}
use Rattle.ra_history_lines.specs.declared.format.Format.TheVariants.{Rah1, Rah2}
use Rattle.ra_history_lines.specs.Grammar.{is_name, index_of_name, kind_word, first_line, fields_of, most_names}
use Rattle.ra_history_lines.specs.Fields.{pieces_at}

-- ---- the two lines before the commands

-- the kind that is spelled by these bytes, given the spelling of each kind; none if none matches
abbrev pub kind_spelled : (Kind → List ℕ) → List ℕ → Option Kind
kind_spelled spelling bytes =
    if bytes_eq bytes (spelling Counter) then Some Counter
    else if bytes_eq bytes (spelling Register) then Some Register
    else if bytes_eq bytes (spelling LwwSet) then Some LwwSet
    else if bytes_eq bytes (spelling OrSet) then Some OrSet
    else if bytes_eq bytes (spelling Rga) then Some Rga
    else if bytes_eq bytes (spelling kinds.List) then Some kinds.List
    else if bytes_eq bytes (spelling kinds.Any) then Some kinds.Any
    else if bytes_eq bytes (spelling kinds.MvRegister) then Some kinds.MvRegister
    else None

-- the kind that a first line of this format names, if any
abbrev pub kind_read : Format → List ℕ → Option Kind
kind_read format line = kind_spelled (first_line format) line

-- the format and the kind that a first line names, if any
abbrev pub head_read : List ℕ → Option (Format × Kind)
head_read line = option_or (option_map (λ kind. (Rah1, kind)) (kind_read Rah1 line))
    (option_map (λ kind. (Rah2, kind)) (kind_read Rah2 line))

-- the kind whose word this is, if any
abbrev pub kind_named : List ℕ → Option Kind
kind_named word = kind_spelled kind_word word

-- `true` if no word is repeated
abbrev pub are_distinct : List (List ℕ) → Bool
are_distinct [] = true
are_distinct (word ∷ words) = not (list_any (bytes_eq word) words) && are_distinct words

-- `true` if a history can begin with these names
abbrev pub are_names : Format → List (List ℕ) → Bool
are_names format words = nat_lt 0 (length words) && nat_le (length words) (most_names format)
    && list_all is_name words && are_distinct words

-- the names after the word that a second line begins with, if they are valid
abbrev pub names_listed : Format → List (List ℕ) → Option (List (List ℕ))
names_listed format [] = None
names_listed format (word ∷ words) =
    if bytes_eq word (codes "replicas") && are_names format words then Some words else None

-- the names that a second line lists, if it is valid
abbrev pub names_read : Format → List ℕ → Option (List (List ℕ))
names_read format line = names_listed format (fields_of line)

-- ---- numbers and lists

-- the number n followed by this digit; none if the byte is no digit or the result exceeds 32 bits
abbrev pub digit_read : ℕ → ℕ → Option ℕ
digit_read n byte =
    if is_ascii_digit byte && nat_lt (n * 10 + (byte - 48)) (2 ^ 32) then Some (n * 10 + (byte - 48)) else None

-- the number so far, if there is one, followed by this digit, on the same conditions; none if the number so far is zero
abbrev pub next_digit_read : Option ℕ → ℕ → Option ℕ
next_digit_read None byte = digit_read 0 byte
next_digit_read (Some zero) byte = None
next_digit_read (Some (suc n)) byte = digit_read (suc n) byte

-- the number n followed by all of these digits, on the same conditions
abbrev pub digits_read : ℕ → List ℕ → Option ℕ
digits_read n [] = Some n
digits_read n (byte ∷ bytes) = option_and_then (λ m. digits_read m bytes) (digit_read n byte)

-- `true` if the field begins with a digit other than zero, or is a single zero
abbrev pub begins_as_number : List ℕ → Bool
begins_as_number [] = false
begins_as_number (first ∷ more) = if first == 48 then length more == 0 else is_ascii_digit first

-- the number that a field spells, if any
unfoldable pub number_read : List ℕ → Option ℕ
number_read field = if begins_as_number field then digits_read 0 field else None

-- the integer of a number below 2 ^ 31; below, of a number after a minus
abbrev pub above_zero : ℕ → Option ℤ
above_zero n = if nat_lt n (2 ^ 31) then Some (pos n) else None

abbrev pub below_zero : ℕ → Option ℤ
below_zero zero = None
below_zero (suc n) = if nat_lt n (2 ^ 31) then Some (negsuc n) else None

-- the signed number that a field spells, if any
abbrev pub signed_read : List ℕ → Option ℤ
signed_read [] = None
signed_read (first ∷ more) =
    if first == 45 then option_and_then below_zero (number_read more)
    else option_and_then above_zero (number_read (first ∷ more))

-- the numbers that the pieces of a list spell, if all are valid
abbrev pub numbers_read : List (List ℕ) → Option (List ℕ)
numbers_read [] = Some []
numbers_read (piece ∷ pieces) =
    option_and_then (λ n. option_map (λ ns. n ∷ ns) (numbers_read pieces)) (number_read piece)

-- the list that a field spells, if any
abbrev pub list_read : List ℕ → Option (List ℕ)
list_read field = if bytes_eq field (codes "-") then Some [] else numbers_read (pieces_at 44 field)

-- the value of a register that a field spells, if any
abbrev pub value_read : List ℕ → Option (Option ℕ)
value_read field = if bytes_eq field (codes "none") then Some None else option_map (λ n. Some n) (number_read field)

-- ---- operations, each with the fields after it

abbrev pub Rest : Type 0 → Type 0
Rest V = V × List (List ℕ)

-- holds if reading yields the value with the remaining fields, or none if there is no value
abbrev pub Reads : {V : Type 0} → Option (Rest V) → Option V → List (List ℕ) → Type 0
Reads read None rest = read ≡ None
Reads read (Some value) rest = read ≡ Some (value, rest)

-- a number in the first field
abbrev pub number_first : List (List ℕ) → Option (Rest ℕ)
number_first [] = None
number_first (field ∷ fields) = option_map (λ n. (n, fields)) (number_read field)

-- the bytes after a number sign, if the field begins with one
abbrev pub mark_of : List ℕ → Option (List ℕ)
mark_of [] = None
mark_of (mark ∷ word) = if mark == 35 then Some word else None

abbrev pub mark_first : List (List ℕ) → Option (List ℕ)
mark_first [] = None
mark_first (field ∷ fields) = mark_of field

abbrev pub behind_first : List (List ℕ) → List (List ℕ)
behind_first [] = []
behind_first (field ∷ fields) = fields

-- the query of the kind, from the field of its return value
abbrev pub query_read : Kind → List ℕ → Option Op
query_read Counter field = option_map (λ value. Count value) (signed_read field)
query_read Register field = option_map (λ value. Last value) (value_read field)
query_read LwwSet field = option_map (λ list. LwwRead list) (list_read field)
query_read OrSet field = option_map (λ list. OrRead list) (list_read field)
query_read Rga field = option_map (λ list. RgaRead list) (list_read field)
query_read kinds.List field = option_map (λ list. op.List (list_op.Read list)) (list_read field)
query_read kinds.Any field = option_map (λ value. op.AnyRead value) (number_read field)
query_read kinds.MvRegister field = option_map (λ list. op.MvRead list) (list_read field)

abbrev pub read_first : Kind → List (List ℕ) → Option (Rest Op)
read_first kind [] = None
read_first kind (field ∷ fields) = option_map (λ op. (op, fields)) (query_read kind field)

-- a write of the value, in a history of the kind
abbrev pub write_of : Kind → ℕ → Op
write_of kind value = if is_kind kind kinds.MvRegister then op.MvWrite value else Write value

abbrev pub write_first : Kind → List (List ℕ) → Option (Rest Op)
write_first kind fields = option_map (λ n. (write_of kind n.0, n.1)) (number_first fields)

-- an addition of x, with an identifier if there is one
abbrev pub addition_read : ℕ → List (List ℕ) → Option (List ℕ) → Option (Rest Op)
addition_read x fields None = Some (LwwAdd x, fields)
addition_read x fields (Some word) = option_map (λ id. (OrAdd x id, behind_first fields)) (number_read word)

abbrev pub add_first : List (List ℕ) → Option (Rest Op)
add_first fields = option_and_then (λ n. addition_read n.0 n.1 (mark_first n.1)) (number_first fields)

-- a removal of x without identifiers
abbrev pub plain_removal : Kind → ℕ → Op
plain_removal Rga x = RgaRemove x
plain_removal Counter x = LwwRemove x
plain_removal Register x = LwwRemove x
plain_removal LwwSet x = LwwRemove x
plain_removal OrSet x = LwwRemove x
plain_removal kinds.List x = op.List (list_op.Remove x)
plain_removal kinds.Any x = LwwRemove x
plain_removal kinds.MvRegister x = LwwRemove x

-- a removal of x, with identifiers if there are any
abbrev pub removal_read : Kind → ℕ → List (List ℕ) → Option (List ℕ) → Option (Rest Op)
removal_read kind x fields None = Some (plain_removal kind x, fields)
removal_read kind x fields (Some word) = option_map (λ ids. (OrRemove x ids, behind_first fields)) (list_read word)

abbrev pub remove_first : Kind → List (List ℕ) → Option (Rest Op)
remove_first kind fields = option_and_then (λ n. removal_read kind n.0 n.1 (mark_first n.1)) (number_first fields)

abbrev pub after_first : List (List ℕ) → Option (Rest Op)
after_first fields =
    option_and_then (λ n. option_map (λ m. (After n.0 m.0, m.1)) (number_first n.1)) (number_first fields)

-- the insertion of x between these neighbours
abbrev pub insertion_of : ℕ → ℕ → ℕ → Op
insertion_of left x right = op.List (list_op.Insert (record { left = left; element = x; right = right }))

-- an insertion: its left neighbour, its element and its right neighbour
abbrev pub insert_first : List (List ℕ) → Option (Rest Op)
insert_first fields =
    option_and_then (λ l. option_and_then (λ x. option_map (λ r. (insertion_of l.0 x.0 r.0, r.1)) (number_first x.1))
    (number_first l.1)) (number_first fields)

-- a read of a part of a list
abbrev pub part_first : List (List ℕ) → Option (Rest Op)
part_first [] = None
part_first (field ∷ fields) = option_map (λ list. (op.List (list_op.Part list), fields)) (list_read field)

-- an operation whose word only a list has
abbrev pub own_word_first : List ℕ → List (List ℕ) → Option (Rest Op)
own_word_first word fields =
    if bytes_eq word (codes "insert") then insert_first fields
    else if bytes_eq word (codes "part") then part_first fields
    else None

-- an update of any type
abbrev pub update_first : List ℕ → List (List ℕ) → Option (Rest Op)
update_first word fields = if bytes_eq word (codes "update") then Some (op.AnyUpdate, fields) else None

-- an operation, from its first word
abbrev pub word_first : Kind → List ℕ → List (List ℕ) → Option (Rest Op)
word_first kind word fields =
    if bytes_eq word (codes "inc") then Some (Inc, fields)
    else if bytes_eq word (codes "dec") then Some (Dec, fields)
    else if bytes_eq word (codes "read") then read_first kind fields
    else if bytes_eq word (codes "write") then write_first kind fields
    else if bytes_eq word (codes "add") then add_first fields
    else if bytes_eq word (codes "remove") then remove_first kind fields
    else if bytes_eq word (codes "after") then after_first fields
    else if is_kind kind kinds.List then own_word_first word fields
    else if is_kind kind kinds.Any then update_first word fields
    else None

-- ---- commands

-- the clock that a field spells, if any
abbrev pub clock_read : List ℕ → Option ℕ
clock_read [] = None
clock_read (mark ∷ digits) = if mark == 64 then number_read digits else None

-- the clock after an operation, if there is one; none if anything else follows
abbrev pub clock_last : List (List ℕ) → Option (Option ℕ)
clock_last [] = Some None
clock_last (field ∷ []) = option_map (λ clock. Some clock) (clock_read field)
clock_last (field ∷ another ∷ more) = None

-- a delivery, from the fields after `got`
abbrev pub delivery_read : ℕ → List (List ℕ) → Option Command
delivery_read replica [] = None
delivery_read replica (field ∷ []) = option_map (λ label. Deliver replica label) (number_read field)
delivery_read replica (field ∷ another ∷ more) = None

-- an operation, from its first word, with the clock after it
abbrev pub operation_read : Kind → ℕ → List ℕ → List (List ℕ) → Option Command
operation_read kind replica word fields =
    option_and_then (λ op. option_map (λ clock. Operate replica op.0 clock) (clock_last op.1))
    (word_first kind word fields)

-- the command of a replica, from the word after its name
abbrev pub replica_command_read : Kind → ℕ → List ℕ → List (List ℕ) → Option Command
replica_command_read kind replica word fields =
    if bytes_eq word (codes "got") then delivery_read replica fields else operation_read kind replica word fields

-- the command of a line with a single field
abbrev pub lone_read : List ℕ → Option Command
lone_read word = if bytes_eq word (codes "verdict") then Some Verdict else None

-- the replica that a word represents, if it is a valid name
abbrev pub replica_read : List (List ℕ) → List ℕ → Option ℕ
replica_read names word = if is_name word then Some (index_of_name names word) else None

-- `true` if a line with this first word is a join
abbrev pub is_join_word : Format → List ℕ → Bool
is_join_word Rah1 word = false
is_join_word Rah2 word = bytes_eq word (codes "join")

-- a join, from the new name and the fields after it
abbrev pub join_read : List (List ℕ) → List ℕ → List (List ℕ) → Option Command
join_read names name [] = None
join_read names name (source ∷ []) =
    option_and_then (λ replica. option_map (λ from. Join replica from) (replica_read names source))
    (replica_read names name)
join_read names name (source ∷ another ∷ more) = None

-- a command, from the fields of its line
abbrev pub command_read : Format → Kind → List (List ℕ) → List (List ℕ) → Option Command
command_read format kind names [] = None
command_read format kind names (word ∷ []) = lone_read word
command_read format kind names (name ∷ word ∷ fields) =
    if is_name name then replica_command_read kind (index_of_name names name) word fields
    else if is_join_word format name then join_read names word fields
    else None

-- ---- memory

-- `true` if a read of this kind returns a list
abbrev pub reads_list : Kind → Bool
reads_list Counter = false
reads_list Register = false
reads_list LwwSet = true
reads_list OrSet = true
reads_list Rga = true
reads_list kinds.List = true
reads_list kinds.Any = false
reads_list kinds.MvRegister = true

-- `true` if this is the first word of an operation that may have a list, for which a reader allocates
abbrev pub asks_for_list : Kind → List ℕ → Bool
asks_for_list kind word =
    if bytes_eq word (codes "read") then reads_list kind
    else if bytes_eq word (codes "part") then is_kind kind kinds.List
    else bytes_eq word (codes "remove")

-- `true` if such a word is at its position among the fields of a line
abbrev pub may_have_list : Kind → List (List ℕ) → Bool
may_have_list kind [] = false
may_have_list kind (word ∷ []) = false
may_have_list kind (name ∷ word ∷ fields) = asks_for_list kind word
