-- What a read can return so that some order explains it, as a member of the JSON object.
use Rattle.std.specs.Prelude.{ℕ, Bool, List, [], ◌++◌, Option, Some, None, codes, if◌then◌else◌}
use Rattle.ra_another_order.specs.declared.possible.PossibleAnswers.{PossibleAnswers}
use Rattle.ra_another_order.specs.declared.possible.PossibleAnswers.TheVariants.{Values, Elements, List as OfList}
use Rattle.ra_another_order.specs.declared.values.PossibleValues.{PossibleValues}
use Rattle.ra_any_order.specs.declared.next_elements.PossibleElements.{PossibleElements}
use Rattle.ra_rga_precedence.specs.declared.nearest.NearestList.{NearestList}
use Rattle.ra_explain_text.specs.Certificates.{numbers_value}
use Rattle.ra_explain_text.specs.Numbers.{size_word}

abbrev pub bool_word : Bool → List ℕ
bool_word is = if is then codes "true" else codes "false"

-- the values of a register's read, and whether it can return none
abbrev pub values_members : PossibleValues → List ℕ
values_members it =
    codes "\"values\":[" ++ (numbers_value it.written.items ++ (codes "],\"none\":" ++ bool_word it.none))

abbrev pub unasked_member : List ℕ → List ℕ
unasked_member elements = codes "],\"unasked\":[" ++ (numbers_value elements ++ codes "]")

-- the elements of an LWW set's read
abbrev pub elements_members : PossibleElements → List ℕ
elements_members it = codes "\"listed\":[" ++ (numbers_value it.listed.items
    ++ (codes "],\"undecided\":[" ++ (numbers_value it.undecided.items ++ unasked_member it.unasked.items)))

abbrev pub places_member : List ℕ → List ℕ
places_member places = codes ",\"undecided\":[" ++ (numbers_value places ++ codes "]")

-- the nearest list of an RGA's read, the number of elements that it keeps, and the places where it can change
abbrev pub list_members : NearestList → List ℕ
list_members it = codes "\"nearest\":[" ++ (numbers_value it.list.items
    ++ (codes "],\"kept\":" ++ (size_word it.kept ++ places_member it.undecided.items)))

abbrev pub answers_members : PossibleAnswers → List ℕ
answers_members (Values it) = values_members it
answers_members (Elements it) = elements_members it
answers_members (OfList it) = list_members it

abbrev pub possible_member : PossibleAnswers → List ℕ
possible_member answers = codes ",\"possible\":{" ++ (answers_members answers ++ codes "}")

-- what the violating read can return, if that is known
abbrev pub possible_text : Option PossibleAnswers → List ℕ
possible_text (Some answers) = possible_member answers
possible_text None = []
