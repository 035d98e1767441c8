-- Numbers of a list's elements that are shown one after another: the list is a part, and the whole, of what is shown.
use Rattle.std.proofs.Common.{◌≡◌, ℕ, List, [], ◌∷◌, length, set, Some, refl, sym, ap, ◌∙◌, subst}
use Rattle.std.specs.Prelude.{Contains}
use Rattle.std.specs.List.{slice_get}
use Rattle.std.proofs.lemmas.List.{length-map}
use Rattle.ra_labels.specs.TheoremTerms.{HasNoDuplicates}
use Rattle.ra_labels.proofs.Members.{at_head, behind_head, reached, from_where}
use Rattle.ra_list_replica.specs.declared.mark.Mark.{Mark}
use Rattle.ra_list_replica.specs.declared.mark.Mark.TheVariants.{Shown, Removed}
use Rattle.ra_list_replica.specs.Numbers.{AreNumbersOf, HasUnnumbered, HasOneNumberEach}
use Rattle.ra_list_replica.specs.View.{mark_at, shown_count, IsPart, IsRead}
use Rattle.ra_list_replica.specs.Listing.{AreShownInTurn}
use Rattle.ra_list_replica.proofs.Counts.{each_shown, still_shown, hidden_other, all_where_as_many, as_many_where_all}

module _ (elements : List ℕ) where
  tail_numbers : (x n : ℕ) (list ns : List ℕ) → AreNumbersOf elements (x ∷ list) (n ∷ ns)
      → (slice_get elements n ≡ Some x) × AreNumbersOf elements list ns
  tail_numbers x n list ns are = (cc, cc)

  -- a listed element has a number among them, and each of them is that of a listed element
  number_for : (list ns : List ℕ) (x : ℕ) → AreNumbersOf elements list ns → Contains list x
      → (n : ℕ) × Contains ns n × (slice_get elements n ≡ Some x)
  number_for list ns x are there =
      let there_some = subst (λ os. Contains os (Some x)) (sym are) (reached Some list x there) in
      from_where (slice_get elements) ns (Some x) there_some

  element_for : (list ns : List ℕ) (n : ℕ) → AreNumbersOf elements list ns → Contains ns n
      → (x : ℕ) × Contains list x × (Some x ≡ slice_get elements n)
  element_for list ns n are there =
      let there_some = subst (λ os. Contains os (slice_get elements n)) are (reached (slice_get elements) ns n there) in
      from_where Some list (slice_get elements n) there_some

  pub as_long : (list ns : List ℕ) → AreNumbersOf elements list ns → length ns ≡ length list
  as_long list ns are = sym (length-map ns (slice_get elements)) ∙ ap length are ∙ length-map list Some

  -- a list with an element that has no number is no part of what is shown
  pub unnumbered : (marks : List Mark) (list : List ℕ) → HasUnnumbered elements list → ¬ IsPart elements marks list
  unnumbered marks list (x, there, none) part =
      let (n, is, shown) = part.shown x there in
      none n is

  once_from_turns : (marks : List Mark) (list ns : List ℕ) → HasOneNumberEach elements → AreNumbersOf elements list ns
      → AreShownInTurn marks ns → HasNoDuplicates list
  once_from_turns marks [] ns one are all = tt
  once_from_turns marks (x ∷ list) [] one are all = absurd (cc are)
  once_from_turns marks (x ∷ list) (n ∷ ns) one are all =
      let tail = tail_numbers x n list ns are in (
        (λ again.
            let (m, there, is) = number_for list ns x tail.1 again in
            (still_shown marks n m (each_shown (set marks n Removed) ns m all.1 there)).0 (one x m n is tail.0)),
        once_from_turns (set marks n Removed) list ns one tail.1 all.1,
      )

  pub part_from_turns : (marks : List Mark) (list ns : List ℕ) → HasOneNumberEach elements
      → AreNumbersOf elements list ns → AreShownInTurn marks ns → IsPart elements marks list
  part_from_turns marks list ns one are all = record {
    once = once_from_turns marks list ns one are all;
    shown = λ x there.
        let (n, among, is) = number_for list ns x are there in
        (n, is, each_shown marks ns n all among);
  }

  pub turns_from_part : (marks : List Mark) (list ns : List ℕ) → HasOneNumberEach elements
      → AreNumbersOf elements list ns → IsPart elements marks list → AreShownInTurn marks ns
  turns_from_part marks list [] one are part = tt
  turns_from_part marks [] (n ∷ ns) one are part = absurd (cc are)
  turns_from_part marks (x ∷ list) (n ∷ ns) one are part =
      let tail = tail_numbers x n list ns are in
      let (m, is, shown) = part.shown x (at_head x list x refl) in (
        subst (λ k. mark_at marks k ≡ Shown) (one x m n is tail.0) shown,
        turns_from_part (set marks n Removed) list ns one tail.1 (record {
          once = part.once.1;
          shown = λ y there.
              let (k, at, still) = part.shown y (behind_head x list y there) in (
                k,
                at,
                hidden_other marks n k (λ same. part.once.0 (subst (Contains list)
                    (same_element y x (sym at ∙ ap (slice_get elements) same ∙ tail.0)) there)) ∙ still,
              );
        }),
      )
    where
      same_element : (y x : ℕ) → Some y ≡ Some x → y ≡ x
      same_element y x is = cc

  pub read_from_turns : (marks : List Mark) (list ns : List ℕ) → HasOneNumberEach elements
      → AreNumbersOf elements list ns → AreShownInTurn marks ns → length list ≡ shown_count marks
      → IsRead elements marks list
  read_from_turns marks list ns one are all as_many = record {
    part = part_from_turns marks list ns one are all;
    all = λ n shown.
        let among = all_where_as_many marks ns all (as_long list ns are ∙ as_many) n shown in
        let (y, there, same) = element_for list ns n are among in
        (y, sym same, there);
  }

  pub many_from_read : (marks : List Mark) (list ns : List ℕ) → HasOneNumberEach elements
      → AreNumbersOf elements list ns → IsRead elements marks list → length list ≡ shown_count marks
  many_from_read marks list ns one are read =
      let turns = turns_from_part marks list ns one are read.part in
      sym (as_long list ns are) ∙ as_many_where_all marks ns turns (λ n shown.
      let (x, is, there) = read.all n shown in
      let (m, among, at) = number_for list ns x are there in
      subst (Contains ns) (one x m n at is) among)
