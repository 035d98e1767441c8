-- Whether another order explains a violation, as a row of the text and as members of the JSON object.
use Rattle.std.specs.Prelude.{ℕ, ◌-◌, ◌==◌, nat_lt, Bool, true, false, List, [], ◌++◌, Option, Some, None, codes, decimal, if◌then◌else◌}
use Rattle.ra_another_order.specs.declared.answer.Answer.{Answer}
use Rattle.ra_another_order.specs.declared.answer.Answer.TheVariants.{Exists, NoneExists}
use Rattle.ra_another_order.specs.declared.extent.Extent.{Extent}
use Rattle.ra_another_order.specs.declared.opinion.SecondOpinion.{SecondOpinion}
use Rattle.ra_explain_text.specs.Numbers.{line_number}
use Rattle.ra_explain_text.specs.Quotes.{line_words}
use Rattle.ra_explain_text.specs.Rows.{row}

-- ---- the text

-- what to say where some order explains the labels up to the violation, by the place of the first label that none
-- explains with them
abbrev pub explained_words : Option ℕ → List ℕ
explained_words None = codes "one explains all labels: suspect a clock, a tie-break or a misreported delivery"
explained_words (Some place) = codes "one explains the labels up to here, but none explains those up to "
    ++ line_words place

-- what to say where no order explains label n with those before it, by the length of the longest prefix that one
-- explains
abbrev pub unexplained_words : ℕ → ℕ → List ℕ
unexplained_words n explained = if nat_lt n explained
    then codes "none explains the labels up to here: a later line inserts an element they need"
    else codes "none explains the labels up to here, whatever the clocks are"

abbrev pub answer_words : ℕ → Extent → Answer → List ℕ
answer_words n extent (Exists order) = explained_words extent.stop
answer_words n extent (NoneExists reason) = unexplained_words n extent.explained

abbrev pub known_row : ℕ → SecondOpinion → List ℕ
known_row n it = row (codes "other orders") (answer_words n it.extent it.answer)

-- whether another order explains the violation of label n, if that is known
abbrev pub opinion_row : ℕ → Option SecondOpinion → List ℕ
opinion_row n (Some it) = known_row n it
opinion_row n None = []

-- ---- the object

-- whether some order explains the labels up to the violation
abbrev pub truth : Answer → List ℕ
truth (Exists order) = codes "true"
truth (NoneExists reason) = codes "false"

-- the last label of a prefix of this length, or null
abbrev pub last_value : ℕ → List ℕ
last_value count = if count == 0 then codes "null" else decimal (count - 1)

-- the line of the first label that no order explains, or null
abbrev pub stop_value : Option ℕ → List ℕ
stop_value (Some place) = decimal (line_number place)
stop_value None = codes "null"

abbrev pub opinion_members : SecondOpinion → List ℕ
opinion_members it = codes ",\"another_order\":" ++ (truth it.answer
    ++ (codes ",\"explained_up_to\":" ++ (last_value it.extent.explained
    ++ (codes ",\"unexplained_line\":" ++ stop_value it.extent.stop))))

-- the same if it is known
abbrev pub opinion_text : Option SecondOpinion → List ℕ
opinion_text (Some it) = opinion_members it
opinion_text None = []

-- whether one order of the elements explains the labels, if that is known
abbrev pub list_text : Option Bool → List ℕ
list_text (Some true) = codes ",\"one_list\":true"
list_text (Some false) = codes ",\"one_list\":false"
list_text None = []
