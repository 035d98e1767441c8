-- The parts of a label as the definitions describe them.
use Rattle.std.specs.Prelude.{List, [], ◌∷◌}
use Rattle.ra_labels.specs.Rewriting.{Half, Whole, QueryHalf, UpdateHalf, Act, Does, Asks}
use Rattle.ra_rewrite.specs.declared.part.Parts.{Parts}
use Rattle.ra_rewrite.specs.declared.part.Parts.TheVariants.{One, Two}
use Rattle.ra_rewrite.specs.declared.part.Part.{Part}
use Rattle.ra_rewrite.specs.declared.part.Part.TheVariants as part

abbrev pub act_in : Part → Act
act_in (part.Query query) = Asks query
act_in (part.Update update) = Does update

abbrev pub acts_in : Parts → List (Half × Act)
acts_in (One part) = (Whole, act_in part) ∷ []
acts_in (Two query update) = (QueryHalf, Asks query) ∷ (UpdateHalf, Does update) ∷ []
