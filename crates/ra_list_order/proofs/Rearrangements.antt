-- The order after a plan is carried out.
use Rattle.std.proofs.Common.{◌≡◌, ◌<◌, ◌∙◌, ℕ, List, [], ◌∷◌, ◌++◌, length, Option, Some, sym, ap, subst, inl, inr}
use Rattle.std.specs.Prelude.{Contains, IfSome}
use Rattle.std.specs.List.Sorted.{IsPermutation}
use Rattle.std.proofs.lemmas.List.Elements.{Contains-append_left, Contains-append_right, Contains-append_cases}
use Rattle.ra_labels.specs.declared.edge.Edge.{Edge}
use Rattle.ra_list_order.specs.declared.search.Plan.{Plan}
use Rattle.ra_list_order.specs.Chunks.{Chunk, joined}
use Rattle.ra_labels.specs.Edges.{EachOnce, Extends}
use Rattle.ra_list_order.specs.Gathering.{gathered}
use Rattle.ra_list_order.specs.ListOrder.{ListOrderKept}
use Rattle.ra_list_order.specs.Plans.{moved_by, left_by, right_by, order_by, CanBeDone}
use Rattle.ra_list_order.proofs.Adds.{once_moved}
use Rattle.ra_list_order.proofs.Gatherings.{gathered_extends}
use Rattle.ra_list_order.proofs.Others.{gathered_elements}
use Rattle.ra_list_order.proofs.Removals.{cut_whole}

-- the moved elements as the code reads them
pub moved_is : (first second none read_first read_second one all read : List ℕ) → none ≡ [] → read_first ≡ first
    → one ≡ none ++ read_first → read_second ≡ second → all ≡ one ++ read_second → read ≡ all → read ≡ first ++ second
moved_is first second none read_first read_second one all read empty first_is one_is second_is all_is reads =
    reads ∙ all_is ∙ ap (λ xs. xs ++ read_second) (one_is ∙ ap (λ xs. xs ++ read_first) empty ∙ first_is)
    ∙ ap (λ xs. first ++ xs) second_is

pub once_read : {T : Type 0} (o : Option T) (x : T) (read read_again : List ℕ) → o ≡ Some x
    → IfSome o (λ index. EachOnce read) → read ≡ read_again → EachOnce read_again
once_read o x read read_again is once same =
    subst EachOnce same (subst (λ p. IfSome p (λ index. EachOnce read)) is once)

module _ (chunks : List Chunk) (edges : List Edge) (edge : Edge) (plan : Plan)
    (there : plan.cut.chunk < length chunks) (can : CanBeDone chunks plan edges edge) where
  whole : joined chunks ≡ left_by chunks plan ++ right_by chunks plan
  whole = cut_whole chunks plan.cut.chunk plan.cut.index there

  pub plan_known : (moved : List ℕ) → moved ≡ moved_by plan → (x : ℕ) → Contains moved x → Contains (joined chunks) x
  plan_known moved is x mine =
      subst (λ xs. Contains xs x) (sym whole)
      (elim (Contains-append_cases plan.ancestors.items plan.descendants.items x (subst (λ xs. Contains xs x) is mine)) [
        | inl first ↦ Contains-append_right (left_by chunks plan) (right_by chunks plan) x (can.behind x first)
        | inr second ↦ Contains-append_left (left_by chunks plan) (right_by chunks plan) x (can.in_front x second)
      ])

  module _ (new : List Chunk) (moved : List ℕ) (is : moved ≡ moved_by plan) (once_too : EachOnce moved)
      (made : joined new ≡ gathered (left_by chunks plan) moved (right_by chunks plan))
      (kept : ListOrderKept (joined chunks) edges) where
    new_is : joined new ≡ order_by chunks plan
    new_is = made ∙ ap (λ xs. gathered (left_by chunks plan) xs (right_by chunks plan)) is

    pub plan_elements : IsPermutation (joined chunks) (joined new)
    plan_elements =
        subst (λ xs. IsPermutation xs (joined new)) (sym whole)
        (subst (λ xs. IsPermutation (left_by chunks plan ++ right_by chunks plan) xs) (sym made)
        (gathered_elements (left_by chunks plan) moved (right_by chunks plan) (subst EachOnce whole kept.once) once_too
        (λ x mine. subst (λ xs. Contains xs x) whole (plan_known moved is x mine))))

    pub plan_kept : (new_edges : List Edge) → new_edges ≡ edges ++ edge ∷ [] → ListOrderKept (joined new) new_edges
    plan_kept new_edges pushed =
        subst (λ es. ListOrderKept (joined new) es) (sym pushed) (record {
          once = once_moved (joined chunks) (joined new) plan_elements kept.once;
          extends = subst (λ xs. Extends xs (edges ++ edge ∷ [])) (sym new_is)
              (gathered_extends (left_by chunks plan) (right_by chunks plan) plan.ancestors.items plan.descendants.items
              edges edge can (subst EachOnce whole kept.once)
              (subst (λ xs. Extends xs edges) whole kept.extends));
        })
