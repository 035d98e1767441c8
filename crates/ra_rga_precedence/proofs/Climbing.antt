-- Lemmas on climbing from two insertions until they meet.
use Rattle.std.proofs.Common.{◌≡◌, ℕ, ◌<◌, ◌≤◌, Bool, true, false, List, [], ◌∷◌, Option, Some, None, length, get_or, refl, sym, ap, subst, ◌∙◌, inl, inr, arith}
use Rattle.std.specs.Prelude.{◌==◌, not, IfSome}
use Rattle.std.specs.Option.{option_eq}
use Rattle.std.proofs.lemmas.Bool.{cases_Bool, false≢true, eq-eqb, eqb-true}
use Rattle.std.proofs.lemmas.Option.{none-some, same_Some}
use Rattle.ra_rga_precedence.specs.Ranks.{AreNeedRanks}
use Rattle.ra_rga_precedence.specs.Relations.{LeadsTo, IsRelation, relation_between, next_up, rank_of}
use Rattle.ra_rga_precedence.specs.UpdateConditions.{AreBelow}

-- holds if one stands where the last label on the way from the first one leads; at first at that label itself
abbrev pub IsAt : List (Option ℕ) → ℕ → Option ℕ → Option ℕ → Type 0
IsAt needed first None at = at ≡ Some first
IsAt needed first (Some last) at = LeadsTo needed first last × (at ≡ get_or needed last None)

-- holds if one stands lower than the label, if there is one, or beside it
abbrev pub IsLower : List ℕ → Option ℕ → Option ℕ → Type 0
IsLower ranks at None = Unit {0}
IsLower ranks at (Some label) = (rank_of ranks at ≤ get_or ranks label 0) × ¬ (at ≡ Some label)

abbrev pub AreTwo : Option ℕ → Option ℕ → Type 0
AreTwo (Some left) (Some right) = ¬ (left ≡ right)
AreTwo _ _ = Unit {0}

-- what is known while one climbs
pub record AreClimbing (needed : List (Option ℕ)) (ranks : List ℕ) (first second : ℕ) (left right upper lower : Option ℕ)
    : Type 0 where
  pub upper_at : IsAt needed first left upper
  pub lower_at : IsAt needed second right lower
  pub upper_lower : IsLower ranks upper right
  pub lower_lower : IsLower ranks lower left
  pub two : AreTwo left right
  pub upper_below : IfSome upper (λ n. n < length needed)
  pub lower_below : IfSome lower (λ n. n < length needed)

pub longer : (needed : List (Option ℕ)) (from last m : ℕ) → LeadsTo needed from last → get_or needed last None ≡ Some m
    → LeadsTo needed from m
longer needed from last m ([], is) up = (m ∷ [], (subst (λ k. get_or needed k None ≡ Some m) (sym is) up, refl))
longer needed from last m (k ∷ way, (first, rest)) up =
    let (further, leads) = longer needed k last m (way, rest) up in (k ∷ further, (first, leads))

module _ (needed : List (Option ℕ)) (ranks : List ℕ) (below : AreBelow (length needed) needed)
    (ranked : AreNeedRanks needed ranks) where
  pub up_below : (at : Option ℕ) → IfSome (next_up needed at) (λ n. n < length needed)
  up_below None = tt
  up_below (Some n) = below n

  -- one label up the rank is lower
  pub up_falls : (at : Option ℕ) → IfSome at (λ n. n < length needed) → 0 < rank_of ranks at
      → rank_of ranks (next_up needed at) < rank_of ranks at
  up_falls None within some = absurd (omega (arith, some))
  up_falls (Some n) within some = by (get_or needed n None) refl
    where
      by : (o : Option ℕ) → get_or needed n None ≡ o → rank_of ranks o < get_or ranks n 0
      by None is = some
      by (Some m) is = ranked.falls n m within is

  positive : (at : Option ℕ) → IfSome at (λ n. n < length needed) → ¬ (at ≡ None) → 0 < rank_of ranks at
  positive None within some = absurd (some refl)
  positive (Some n) within some = ranked.positive n within

  at_up : (first : ℕ) (last at : Option ℕ) → IsAt needed first last at → 0 < rank_of ranks at
      → IsAt needed first at (next_up needed at)
  at_up first last None is some = absurd (omega (arith, some))
  at_up first None (Some n) is some = (([], sym (same_Some n first is)), refl)
  at_up first (Some l) (Some n) (leads, is) some = (longer needed first l n leads (sym is), refl)

  lower_up : (at other : Option ℕ) → IfSome at (λ n. n < length needed) → 0 < rank_of ranks at → IsLower ranks at other
      → IsLower ranks (next_up needed at) other
  lower_up at None within some low = tt
  lower_up at (Some label) within some (low, apart) =
      let falls = up_falls at within some in (
        omega (arith, falls, low),
        λ is. let same = ap (rank_of ranks) is in omega (arith, falls, low, same),
      )

  low_from : (at other : Option ℕ) → rank_of ranks at ≤ rank_of ranks other → ¬ (at ≡ other) → IsLower ranks at other
  low_from at None low apart = tt
  low_from at (Some label) low apart = (low, apart)

  two_from_upper : (at right : Option ℕ) → IsLower ranks at right → AreTwo at right
  two_from_upper (Some n) (Some r) (low, apart) = λ is. apart (ap Some is)
  two_from_upper _ _ low = tt

  two_from_lower : (left at : Option ℕ) → IsLower ranks at left → AreTwo left at
  two_from_lower (Some l) (Some n) (low, apart) = λ is. apart (ap Some (sym is))
  two_from_lower _ _ low = tt

  module _ (first second : ℕ) (left right upper lower : Option ℕ)
      (climbing : AreClimbing needed ranks first second left right upper lower) where
    pub climb_upper : rank_of ranks lower < rank_of ranks upper
        → AreClimbing needed ranks first second upper right (next_up needed upper) lower
    climb_upper higher =
        let some : 0 < rank_of ranks upper = omega (arith, higher) in
        record {
          upper_at = at_up first left upper climbing.upper_at some;
          lower_at = climbing.lower_at;
          upper_lower = lower_up upper right climbing.upper_below some climbing.upper_lower;
          lower_lower = low_from lower upper (omega (arith, higher))
              (λ is. let same = ap (rank_of ranks) is in omega (arith, higher, same));
          two = two_from_upper upper right climbing.upper_lower;
          upper_below = up_below upper;
          lower_below = climbing.lower_below;
        }

    pub lower_some : rank_of ranks upper ≤ rank_of ranks lower → ¬ (upper ≡ lower) → 0 < rank_of ranks lower
    lower_some higher apart = by upper lower climbing.upper_below climbing.lower_below higher apart
      where
        by : (x y : Option ℕ) → IfSome x (λ n. n < length needed) → IfSome y (λ n. n < length needed)
            → rank_of ranks x ≤ rank_of ranks y → ¬ (x ≡ y) → 0 < rank_of ranks y
        by None None x_low y_low le differ = absurd (differ refl)
        by (Some n) None x_low y_low le differ =
            let some = ranked.positive n x_low in absurd (omega (arith, le, some))
        by x (Some n) x_low y_low le differ = ranked.positive n y_low

    pub climb_lower : rank_of ranks upper ≤ rank_of ranks lower → ¬ (upper ≡ lower)
        → AreClimbing needed ranks first second left lower upper (next_up needed lower)
    climb_lower higher apart =
        let some = lower_some higher apart in
        record {
          upper_at = climbing.upper_at;
          lower_at = at_up second right lower climbing.lower_at some;
          upper_lower = low_from upper lower higher apart;
          lower_lower = lower_up lower left climbing.lower_below some climbing.lower_lower;
          two = two_from_lower left lower climbing.lower_lower;
          upper_below = climbing.upper_below;
          lower_below = up_below lower;
        }

    pub meet : upper ≡ lower → IsRelation needed first second (relation_between left right)
    meet same = by left right climbing.upper_at climbing.lower_at climbing.two
      where
        by : (l r : Option ℕ) → IsAt needed first l upper → IsAt needed second r lower → AreTwo l r
            → IsRelation needed first second (relation_between l r)
        by None None up low two = ([], same_Some first second (sym up ∙ same ∙ low))
        by (Some l) None (leads, is) low two = longer needed first l second leads (sym is ∙ same ∙ low)
        by None (Some r) up (leads, is) two = longer needed second r first leads (sym is ∙ sym same ∙ up)
        by (Some l) (Some r) (up_leads, up) (low_leads, low) two = record {
          apart = two;
          together = sym up ∙ same ∙ low;
          under_left = up_leads;
          under_right = low_leads;
        }

pub start : (needed : List (Option ℕ)) (ranks : List ℕ) (first second : ℕ) → first < length needed
    → second < length needed → AreClimbing needed ranks first second None None (Some first) (Some second)
start needed ranks first second first_low second_low = record {
  upper_at = refl;
  lower_at = refl;
  upper_lower = tt;
  lower_lower = tt;
  two = tt;
  upper_below = first_low;
  lower_below = second_low;
}

-- ---- the test whether two are the same
abbrev are_equal : Option ℕ → Option ℕ → Bool
are_equal x y = option_eq (λ v w. v == w) x y

pub same_option : (x y : Option ℕ) → false ≡ not (are_equal x y) → x ≡ y
same_option None None is = refl
same_option None (Some y) is = absurd (false≢true is)
same_option (Some x) None is = absurd (false≢true is)
same_option (Some x) (Some y) is = elim (cases_Bool (x == y)) [
  | inl same ↦ ap Some (eqb-true x y same)
  | inr differ ↦ absurd (false≢true (is ∙ ap not differ))
]

pub other_option : (x y : Option ℕ) → true ≡ not (are_equal x y) → ¬ (x ≡ y)
other_option None None is same = false≢true (sym is)
other_option None (Some y) is same = none-some y same
other_option (Some x) None is same = none-some x (sym same)
other_option (Some x) (Some y) is same =
    false≢true (sym (is ∙ ap not (eq-eqb x y (same_Some x y same))))
