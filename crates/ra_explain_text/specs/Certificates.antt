-- Why no order explains a violation, as members of the JSON object.
use Rattle.std.specs.Prelude.{ℕ, List, [], ◌∷◌, ◌++◌, Option, Some, None, codes, decimal}
use Rattle.ra_explain.specs.declared.certificate.Because.{Because}
use Rattle.ra_explain.specs.declared.certificate.Because.TheVariants as because
use Rattle.ra_explain.specs.declared.certificate.Claim.{Claim}
use Rattle.ra_another_order.specs.declared.opinion.SecondOpinion.{SecondOpinion}
use Rattle.ra_explain_text.specs.Numbers.{label_line}

abbrev pub because_word : Because → List ℕ
because_word because.Sees = codes "sees"
because_word because.Needs = codes "needs"
because_word because.Reads = codes "reads"
because_word because.Repeats = codes "repeats"
because_word because.Root = codes "root"
because_word because.Absent = codes "absent"
because_word because.Open = codes "open"
because_word because.Listed = codes "listed"
because_word because.Unlisted = codes "unlisted"
because_word because.Below = codes "below"
because_word because.Unseen = codes "unseen"

-- each number with a comma (byte 44) before it
abbrev pub more_numbers : List ℕ → List ℕ
more_numbers [] = []
more_numbers (n ∷ ns) = 44 ∷ (decimal n ++ more_numbers ns)

abbrev pub numbers_value : List ℕ → List ℕ
numbers_value [] = []
numbers_value (n ∷ ns) = decimal n ++ more_numbers ns

-- a number, or null
abbrev pub number_value : Option ℕ → List ℕ
number_value (Some n) = decimal n
number_value None = codes "null"

abbrev pub claim_head : Claim → List ℕ
claim_head claim = codes "{\"because\":\"" ++ (because_word claim.because
    ++ (codes "\",\"before\":" ++ number_value claim.before))

abbrev pub claim_lists : Claim → List ℕ
claim_lists claim = codes ",\"after\":[" ++ (numbers_value claim.after.items
    ++ (codes "],\"elements\":[" ++ numbers_value claim.elements.items))

abbrev pub claim_place : List ℕ → Claim → List ℕ
claim_place places claim = (codes "],\"label\":" ++ decimal claim.label)
    ++ ((codes ",\"line\":" ++ decimal (label_line places claim.label)) ++ codes "}")

-- a claim: what it says, the labels and the elements that it is about, and the label that shows it with its line
abbrev pub claim_value : List ℕ → Claim → List ℕ
claim_value places claim = claim_head claim ++ (claim_lists claim ++ claim_place places claim)

-- each claim with a comma before it
abbrev pub more_claims : List ℕ → List Claim → List ℕ
more_claims places [] = []
more_claims places (claim ∷ claims) = 44 ∷ (claim_value places claim ++ more_claims places claims)

abbrev pub claims_value : List ℕ → List Claim → List ℕ
claims_value places [] = []
claims_value places (claim ∷ claims) = claim_value places claim ++ more_claims places claims

abbrev pub certificate_member : List ℕ → List Claim → List ℕ
certificate_member places claims = codes ",\"certificate\":[" ++ (claims_value places claims ++ codes "]")

-- the claims by which no order explains the violation, if it is known whether one does
abbrev pub certificate_text : Option SecondOpinion → List ℕ → List Claim → List ℕ
certificate_text (Some opinion) places claims = certificate_member places claims
certificate_text None places claims = []
