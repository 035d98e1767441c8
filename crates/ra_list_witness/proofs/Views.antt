-- The views of the replicas after one of them is changed, and what is kept of each replica's last read.
use Rattle.std.proofs.Common.{◌≡◌, ℕ, ◌<◌, List, [], ◌∷◌, ◌++◌, length, set, replicate, Some, refl, sym, ap, ◌∙◌, subst, inl, inr, arith}
use Rattle.std.specs.Prelude.{Contains}
use Rattle.std.specs.List.{slice_get}
use Rattle.std.proofs.lemmas.Bool.{cases_eq, cases_lt, cases_order}
use Rattle.std.proofs.lemmas.Option.{slice_get_within, get_or_from_slice_get}
use Rattle.std.proofs.lemmas.List.{length-set, length_push, length-replicate, get_or-replicate, get_or_past, get_or_push, get_or_append_left, get_or-set_same, get_or-set_other}
use Rattle.std.proofs.lemmas.List.Elements.{Contains-get_or}
use Rattle.ra_labels.specs.declared.edge.Edge.{Edge}
use Rattle.ra_labels.proofs.Members.{none_there}
use Rattle.ra_list_replica.specs.declared.mark.Mark.TheVariants.{Missing}
use Rattle.ra_list_replica.specs.View.{View, mark_at}
use Rattle.ra_list_witness.specs.Adjacent.{HasPairs}
use Rattle.ra_list_witness.specs.ListWitness.{no_view, view_at, mark_of, AreSameMarks, ListWitnessKept}

pub element_there : (xs : List ℕ) (n x : ℕ) → slice_get xs n ≡ Some x → Contains xs x
element_there xs n x is =
    subst (Contains xs) (get_or_from_slice_get xs n x 0 is) (Contains-get_or xs n 0 (slice_get_within xs n x is))

-- the view of a replica after one is replaced
pub view_set : (P : View → Type 0) (views : List View) (at : ℕ) (view : View) (replica : ℕ) → at < length views
    → (replica ≡ at → P view) → P (view_at views replica) → P (view_at (set views at view) replica)
view_set P views at view replica there here other = elim (cases_eq replica at) [
  | inl same ↦ subst P (sym (ap (view_at (set views at view)) same ∙ get_or-set_same views at view no_view there)) (here same)
  | inr apart ↦ subst P (sym (get_or-set_other views at replica view no_view apart)) other
]

pub same_marks_set : (views : List View) (at : ℕ) (view : View) → at < length views
    → ((n : ℕ) → mark_at view.marks n ≡ mark_of views at n) → AreSameMarks views (set views at view)
same_marks_set views at view there same = record {
  as_many = length-set views at view;
  each = λ replica n. view_set (λ v. mark_at v.marks n ≡ mark_of views replica n) views at view replica there
      (λ is. same n ∙ ap (λ r. mark_of views r n) (sym is)) refl;
}

-- no read
pub nothing_read : (edges : List Edge) → HasPairs edges []
nothing_read edges = λ label edge there. absurd (none_there edge there)

-- the views of replicas that have no elements
pub same_view : (one other : View) → one.marks ≡ other.marks → one.last ≡ other.last → one ≡ other
same_view one other marks last = λ i. record { marks = marks i; last = last i }

pub first_view : (n replica : ℕ) → view_at (replicate n no_view) replica ≡ no_view
first_view n replica = elim (cases_lt replica n) [
  | inl within ↦ get_or-replicate n replica no_view no_view within
  | inr past ↦ get_or_past (replicate n no_view) replica no_view (omega (arith, past, length-replicate n no_view))
]

pub kept_first : (elements : List ℕ) (n : ℕ) (order : List ℕ) (edges : List Edge) → elements ≡ [] → edges ≡ []
    → ListWitnessKept elements (replicate n no_view) order edges
kept_first elements n order edges none nothing = record {
  few = omega (arith, ap length none);
  ordered = λ x there. absurd (omega (arith, there, ap length none));
  between = λ edge there. absurd (none_there edge (subst (λ es. Contains es edge) nothing there));
  beyond = λ replica number past. ap (λ v. mark_at v.marks number) (first_view n replica);
  lasts = λ replica. subst (λ v. HasPairs edges v.last) (sym (first_view n replica)) (nothing_read edges);
}

-- the view of a replica that joins
pub view_push : (P : View → Type 0) (views : List View) (view : View) (replica : ℕ) → P view → P no_view
    → ((r : ℕ) → P (view_at views r)) → P (view_at (views ++ view ∷ []) replica)
view_push P views view replica new none old = elim (cases_order replica (length views)) [
  | inl same ↦ subst P (sym (ap (view_at (views ++ view ∷ [])) same ∙ get_or_push views view no_view (length views) refl)) new
  | inr (inl below) ↦ subst P (sym (get_or_append_left views (view ∷ []) no_view replica below)) (old replica)
  | inr (inr above) ↦ subst P (sym (get_or_past (views ++ view ∷ []) replica no_view
      (omega (arith, above, length_push views view)))) none
]

pub kept_by_join : (elements : List ℕ) (views views' : List View) (order : List ℕ) (edges : List Edge) (from : ℕ)
    → ListWitnessKept elements views order edges → views' ≡ views ++ view_at views from ∷ []
    → ListWitnessKept elements views' order edges
kept_by_join elements views views' order edges from kept is =
    subst (λ vs. ListWitnessKept elements vs order edges) (sym is) (record {
      few = kept.few;
      ordered = kept.ordered;
      between = kept.between;
      beyond = λ replica n past. view_push (λ v. mark_at v.marks n ≡ Missing) views (view_at views from) replica
          (kept.beyond from n past) refl (λ r. kept.beyond r n past);
      lasts = λ replica. view_push (λ v. HasPairs edges v.last) views (view_at views from) replica
          (kept.lasts from) (nothing_read edges) kept.lasts;
    })
