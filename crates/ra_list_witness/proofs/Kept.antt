-- The representation invariant after each operation.
use Rattle.std.proofs.Common.{◌≡◌, ℕ, ◌-◌, ◌<◌, ◌≤◌, List, [], ◌∷◌, ◌++◌, length, take, set, sym, ap, ◌∙◌, subst, inl, inr, arith}
use Rattle.std.specs.Prelude.{Contains, ◌==◌, ◌&&◌, if◌then◌else◌, Option, Some, None, Result, Ok, Err, IfOk, OnErr, MatchOption}
use Rattle.std.specs.List.Sorted.{IsPermutation}
use Rattle.std.proofs.lemmas.List.Sorted.{Contains-permutation}
use Rattle.std.proofs.lemmas.Bool.{cases_eq, cond-true, cond-false, eq-eqb, ne_eqb}
use Rattle.std.proofs.lemmas.List.{length-set, length_push, get_or-set_same, get_or-set_other, take_at}
use Rattle.ra_labels.specs.declared.edge.Edge.{Edge}
use Rattle.ra_labels.specs.Edges.{IsCycle}
use Rattle.ra_list_edges.specs.Pairs.{AddsSome, AddsPairs, with_pairs}
use Rattle.ra_list_replica.specs.declared.mark.Mark.{Mark}
use Rattle.ra_list_replica.specs.declared.mark.Mark.TheVariants.{Missing, Shown, Removed}
use Rattle.ra_list_replica.specs.View.{View, mark_at}
use Rattle.ra_list_witness.specs.Adjacent.{HasPairs}
use Rattle.ra_list_witness.specs.ListWitness.{no_view, view_at, mark_of, IsMarked, ListWitnessKept}
use Rattle.ra_list_witness.specs.Named.{AreBetweenNumbers}
use Rattle.ra_list_witness.proofs.AdjacentPairs.{pairs_after}
use Rattle.ra_list_witness.proofs.NamedEdges.{between_more}
use Rattle.ra_list_witness.proofs.Views.{view_set}

-- with another view of one replica
pub kept_set : (elements elements' : List ℕ) (views : List View) (order order' : List ℕ) (edges edges' : List Edge) (at : ℕ)
    (view : View) → ListWitnessKept elements views order edges → at < length views → length elements ≤ length elements'
    → length elements' < 4294967296 → ((n : ℕ) → n < length elements' → Contains order' n) → AreBetweenNumbers elements' edges'
    → ((xs : List ℕ) → HasPairs edges xs → HasPairs edges' xs)
    → ((n : ℕ) → length elements' ≤ n → mark_at view.marks n ≡ Missing) → HasPairs edges' view.last
    → ListWitnessKept elements' (set views at view) order' edges'
kept_set elements elements' views order order' edges edges' at view kept there long few ordered between wide beyond last = record {
  few = few;
  ordered = ordered;
  between = between;
  beyond = λ replica n past. view_set (λ v. mark_at v.marks n ≡ Missing) views at view replica there (λ is. beyond n past)
      (kept.beyond replica n (omega arith));
  lasts = λ replica. view_set (λ v. HasPairs edges' v.last) views at view replica there (λ is. last)
      (wide (view_at views replica).last (kept.lasts replica));
}

-- with the same views
kept_views : (elements : List ℕ) (views : List View) (order order' : List ℕ) (edges edges' : List Edge)
    → ListWitnessKept elements views order edges → ((n : ℕ) → Contains order n → Contains order' n)
    → AreBetweenNumbers elements edges' → ((xs : List ℕ) → HasPairs edges xs → HasPairs edges' xs)
    → ListWitnessKept elements views order' edges'
kept_views elements views order order' edges edges' kept ordered between pairs = record {
  few = kept.few;
  ordered = λ n there. ordered n (kept.ordered n there);
  between = between;
  beyond = kept.beyond;
  lasts = λ replica. pairs (view_at views replica).last (kept.lasts replica);
}

-- the marks after one is set
pub mark_set : (marks : List Mark) (number n : ℕ) (mark : Mark) → number < length marks
    → mark_at (set marks number mark) n ≡ (if n == number then mark else mark_at marks n)
mark_set marks number n mark room = elim (cases_eq n number) [
  | inl same ↦ ap (mark_at (set marks number mark)) same ∙ get_or-set_same marks number mark Missing room
      ∙ sym (cond-true (n == number) mark (mark_at marks n) (eq-eqb n number same))
  | inr apart ↦ get_or-set_other marks number n mark Missing apart
      ∙ sym (cond-false (n == number) mark (mark_at marks n) (ne_eqb n number apart))
]

-- a replica's view, whose marks are those of the old one and the one of an element that it shows
pub record IsShownIn (old : View) (number : ℕ) (new : View) : Type 0 where
  pub reserved : List Mark
  pub room : number < length reserved
  pub same : (n : ℕ) → mark_at reserved n ≡ mark_at old.marks n
  pub marks : new.marks ≡ set reserved number Shown
  pub last : new.last ≡ old.last

shown_marks : (old : View) (number : ℕ) (new : View) (n : ℕ) → IsShownIn old number new
    → mark_at new.marks n ≡ (if n == number then Shown else mark_at old.marks n)
shown_marks old number new n is =
    ap (λ ms. mark_at ms n) is.marks ∙ mark_set is.reserved number n Shown is.room
    ∙ ap (λ m. if n == number then Shown else m) (is.same n)

pub kept_by_insert : (elements : List ℕ) (views : List View) (order order' : List ℕ) (edges edges' : List Edge) (at x : ℕ)
    (view : View) (label : ℕ) (numbers : List ℕ) → ListWitnessKept elements views order edges → at < length views
    → length elements < 4294967295 → IsShownIn (view_at views at) (length elements) view → ((n : ℕ) → Contains order n → Contains order' n)
    → Contains order' (length elements) → ((n : ℕ) → Contains numbers n → n ≤ length elements)
    → AddsSome label numbers edges edges'
    → ListWitnessKept (elements ++ x ∷ []) (set views at view) order' edges'
kept_by_insert elements views order order' edges edges' at x view label numbers kept there few shown ordered new below adds =
    let more = length_push elements x in
    let wide : (xs : List ℕ) → HasPairs edges xs → HasPairs edges' xs =
    λ xs has. pairs_after label numbers edges edges' xs adds has in
    kept_set elements (elements ++ x ∷ []) views order order' edges edges' at view kept there (omega (arith, more))
    (omega (arith, more, few))
    (λ n within. elim (cases_eq n (length elements)) [
      | inl last ↦ subst (Contains order') (sym last) new
      | inr before ↦ ordered n (kept.ordered n (omega (arith, within, more, before)))
    ])
    (between_more elements (elements ++ x ∷ []) label numbers edges edges' kept.between (omega (arith, more))
    (λ n among. let few = below n among in omega (arith, few, more)) adds)
    wide
    (λ n past. shown_marks (view_at views at) (length elements) view n shown
    ∙ cond-false (n == length elements) Shown (mark_of views at n)
    (ne_eqb n (length elements) (λ same. absurd (omega (arith, same, past, more))))
    ∙ kept.beyond at n (omega (arith, past, more)))
    (subst (HasPairs edges') (sym shown.last) (wide (view_at views at).last (kept.lasts at)))

-- after the delivery of an insertion
pub kept_by_show : (elements : List ℕ) (views : List View) (order : List ℕ) (edges : List Edge) (at number : ℕ)
    (view : View) → ListWitnessKept elements views order edges → at < length views → number < length elements
    → IsShownIn (view_at views at) number view → ListWitnessKept elements (set views at view) order edges
kept_by_show elements views order edges at number view kept there known shown =
    kept_set elements elements views order order edges edges at view kept there (omega arith) kept.few kept.ordered kept.between
    (λ xs has. has)
    (λ n past. shown_marks (view_at views at) number view n shown
    ∙ cond-false (n == number) Shown (mark_of views at n)
    (ne_eqb n number (λ same. absurd (omega (arith, same, past, known))))
    ∙ kept.beyond at n past)
    (subst (HasPairs edges) (sym shown.last) (kept.lasts at))

-- after a removal
pub kept_by_hide : (elements : List ℕ) (views : List View) (order : List ℕ) (edges : List Edge) (at number : ℕ)
    (view : View) → ListWitnessKept elements views order edges → at < length views
    → ¬ (mark_of views at number ≡ Missing) → view.marks ≡ set (view_at views at).marks number Removed
    → view.last ≡ (view_at views at).last → ListWitnessKept elements (set views at view) order edges
kept_by_hide elements views order edges at number view kept there had marks last =
    kept_set elements elements views order order edges edges at view kept there (omega arith) kept.few kept.ordered kept.between
    (λ xs has. has)
    (λ n past. ap (λ ms. mark_at ms n) marks
    ∙ get_or-set_other (view_at views at).marks number n Removed Missing
    (λ same. had (ap (mark_of views at) (sym same) ∙ kept.beyond at n past))
    ∙ kept.beyond at n past)
    (subst (HasPairs edges) (sym last) (kept.lasts at))

-- after a rejected insertion
pub kept_by_rejection : (elements elements' : List ℕ) (views : List View) (order order' : List ℕ) (edges edges' : List Edge)
    (at : ℕ) (view : View) → ListWitnessKept elements views order edges → at < length views → elements' ≡ elements
    → edges' ≡ edges → ((n : ℕ) → mark_at view.marks n ≡ mark_of views at n) → view.last ≡ (view_at views at).last
    → ((n : ℕ) → Contains order n → Contains order' n)
    → ListWitnessKept elements' (set views at view) order' edges'
kept_by_rejection elements elements' views order order' edges edges' at view kept there same_elements same_edges marks last ordered =
    subst (λ xs. ListWitnessKept xs (set views at view) order' edges') (sym same_elements)
    (subst (λ es. ListWitnessKept elements (set views at view) order' es) (sym same_edges)
    (kept_set elements elements views order order' edges edges at view kept there (omega arith) kept.few
    (λ n within. ordered n (kept.ordered n within)) kept.between (λ xs has. has)
    (λ n past. marks n ∙ kept.beyond at n past)
    (subst (HasPairs edges) (sym last) (kept.lasts at))))

pub taken_back : (elements more : List ℕ) (x : ℕ) → more ≡ elements ++ x ∷ [] → take (length more - 1) more ≡ elements
taken_back elements more x is =
    ap (λ xs. take (length xs - 1) xs) is
    ∙ take_at elements (x ∷ []) (length (elements ++ x ∷ []) - 1) (omega (arith, length_push elements x))

-- the marks of all replicas after one shows an element
pub marked_by_insert : (views : List View) (at number : ℕ) (view : View) → at < length views
    → IsShownIn (view_at views at) number view → IsMarked views at number Shown (set views at view)
marked_by_insert views at number view there shown = record {
  as_many = length-set views at view;
  each = λ replica n. elim (cases_eq replica at) [
    | inl same ↦ ap (λ v. mark_at (view_at (set views at view) v).marks n) same
        ∙ ap (λ v. mark_at v.marks n) (get_or-set_same views at view no_view there)
        ∙ shown_marks (view_at views at) number view n shown
        ∙ ap (λ r. if n == number then Shown else mark_of views r n) (sym same)
        ∙ ap (λ b. if b && n == number then Shown else mark_of views replica n) (sym (eq-eqb replica at same))
    | inr apart ↦ ap (λ v. mark_at v.marks n) (get_or-set_other views at replica view no_view apart)
        ∙ ap (λ b. if b && n == number then Shown else mark_of views replica n) (sym (ne_eqb replica at apart))
  ];
}

-- the pairs that have edges after a call of `add_read` or `add_part`, whatever it returned
grown : {T E : Type 0} (items : T → List Edge) (r : Result (Option T) E) (label : ℕ) (list : List ℕ)
    (old new : List Edge)
    → IfOk r (λ found. MatchOption found (AddsPairs label list old new)
    (λ cycle. (new ≡ old) × IsCycle (with_pairs label list old) (items cycle))) → OnErr r (new ≡ old)
    → (xs : List ℕ) → HasPairs old xs → HasPairs new xs
grown items (Ok None) label list old new answer failed xs has = pairs_after label list old new xs answer.some has
grown items (Ok (Some cycle)) label list old new answer failed xs has = subst (λ es. HasPairs es xs) (sym answer.0) has
grown items (Err e) label list old new answer failed xs has = subst (λ es. HasPairs es xs) (sym failed) has

-- the ends of the edges after such a call
between_after : {T E : Type 0} (items : T → List Edge) (r : Result (Option T) E) (elements : List ℕ) (label : ℕ)
    (numbers : List ℕ) (old new : List Edge) → AreBetweenNumbers elements old
    → ((n : ℕ) → Contains numbers n → n < length elements)
    → IfOk r (λ found. MatchOption found (AddsPairs label numbers old new)
    (λ cycle. (new ≡ old) × IsCycle (with_pairs label numbers old) (items cycle))) → OnErr r (new ≡ old)
    → AreBetweenNumbers elements new
between_after items (Ok None) elements label numbers old new between below answer failed =
    between_more elements elements label numbers old new between (omega arith) below answer.some
between_after items (Ok (Some cycle)) elements label numbers old new between below answer failed =
    subst (AreBetweenNumbers elements) (sym answer.0) between
between_after items (Err e) elements label numbers old new between below answer failed =
    subst (AreBetweenNumbers elements) (sym failed) between

-- the representation after such a call
pub kept_by_pairs : {T E : Type 0} (items : T → List Edge) (r : Result (Option T) E) (elements : List ℕ) (views : List View)
    (order order' : List ℕ) (edges edges' : List Edge) (label : ℕ) (numbers : List ℕ)
    → ListWitnessKept elements views order edges → IsPermutation order order'
    → ((n : ℕ) → Contains numbers n → n < length elements)
    → IfOk r (λ found. MatchOption found (AddsPairs label numbers edges edges')
    (λ cycle. (edges' ≡ edges) × IsCycle (with_pairs label numbers edges) (items cycle))) → OnErr r (edges' ≡ edges)
    → ListWitnessKept elements views order' edges'
kept_by_pairs items r elements views order order' edges edges' label numbers kept moved below answer failed =
    kept_views elements views order order' edges edges' kept (λ n there. Contains-permutation order order' n moved there)
    (between_after items r elements label numbers edges edges' kept.between below answer failed)
    (grown items r label numbers edges edges' answer failed)
