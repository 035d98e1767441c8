-- Lemmas on the removals among the updates of labels.
use Rattle.std.proofs.Common.{◌≡◌, ℕ, Bool, true, false, List, [], ◌∷◌, ◌++◌, filter, refl, sym, ap, ◌∙◌, subst, inl, inr}
use Rattle.std.specs.Prelude.{◌⊎◌, ◌||◌, Contains, flat_map}
use Rattle.std.specs.List.{list_any, cons_option}
use Rattle.std.proofs.lemmas.Bool.{false≢true, eqb-true}
use Rattle.ra_labels.specs.declared.operation.Update.{Update}
use Rattle.ra_labels.specs.declared.operation.Update.TheVariants.{RgaRemove}
use Rattle.ra_labels.specs.declared.operation.Query.{Query}
use Rattle.ra_labels.specs.declared.label.Label.{Label}
use Rattle.ra_labels.specs.Rewriting.{Part, Act, Does, Asks, acts_of, part_of, parts_of, update_of as act_update, updates_of}
use Rattle.ra_labels.specs.Insertion.{updates_among, HasUpdate}
use Rattle.ra_labels.specs.Pending.{removes_element}
use Rattle.ra_labels.proofs.Members.{head_or_behind, at_head, behind_head, none_there, what_passes, there-kept, piece_of, from_where}
use Rattle.ra_labels.proofs.Parts.{part_is_of}

-- a part that does the update
update_part : (parts : List Part) (u : Update) → Contains (updates_of parts) u
    → (p : Part) × Contains parts p × (p.act ≡ Does u)
update_part [] u there = absurd (none_there u there)
update_part (part ∷ parts) u there = elim (of_act part.act) [
  | inl (query, asks) ↦
      let rest = update_part parts u
      (subst (λ us. Contains us u) (ap (λ (a : Act). cons_option (act_update a) (updates_of parts)) asks) there) in
      (rest.0, behind_head part parts rest.0 rest.1, rest.2)
  | inr (v, does) ↦
      elim (head_or_behind v (updates_of parts) u
      (subst (λ us. Contains us u) (ap (λ (a : Act). cons_option (act_update a) (updates_of parts)) does) there)) [
        | inl same ↦ (part, at_head part parts part refl, does ∙ ap (λ (w : Update). Does w) same)
        | inr further ↦
            let rest = update_part parts u further in (rest.0, behind_head part parts rest.0 rest.1, rest.2)
      ]
]
  where
    of_act : (act : Act) → ((query : Query) × (act ≡ Asks query)) ⊎ ((v : Update) × (act ≡ Does v))
    of_act (Asks query) = inl (query, refl)
    of_act (Does v) = inr (v, refl)

makes_it : (label : Label) (p : Part) (u : Update) → Contains (parts_of label) p → p.act ≡ Does u → HasUpdate label.op u
makes_it label p u there does =
    let (act, found, is) = from_where (part_of label) (acts_of label.op) p there in
    let same : act.1 ≡ Does u = ap (λ (q : Part). q.act) is ∙ does in
    (act.0, subst (λ a. Contains (acts_of label.op) (act.0, a)) same found)

is_removal : (x : ℕ) (u : Update) → removes_element x u ≡ true → u ≡ RgaRemove x
is_removal x (RgaRemove y) is = ap (λ z. RgaRemove z) (eqb-true y x is)
is_removal x _ is = absurd (false≢true is)

-- if an element is removed by the updates of the labels that pass a test, such a label removes it
pub removed_by : (passes : ℕ → Bool) (labels : List Label) (x : ℕ)
    → list_any (removes_element x) (updates_among passes labels) ≡ true
    → (m : Label) × Contains labels m × (passes m.number ≡ true) × HasUpdate m.op (RgaRemove x)
removed_by passes labels x is =
    let test = λ (q : Part). passes q.label.number in
    let (u, found, removes) = what_passes (removes_element x) (updates_among passes labels) is in
    let (p, among, does) = update_part (filter test (flat_map parts_of labels)) u found in
    let (p_in, passed) = there-kept test (flat_map parts_of labels) p among in
    let (m, m_there, of_m) = piece_of parts_of labels p p_in in (
      m,
      m_there,
      sym (ap (λ (l : Label). passes l.number) (part_is_of m p of_m)) ∙ passed,
      subst (HasUpdate m.op) (is_removal x u removes) (makes_it m p u of_m does),
    )

-- one more update among others
pub removed_with : (x : ℕ) (before behind : List Update) (u : Update)
    → list_any (removes_element x) (before ++ u ∷ behind)
    ≡ (list_any (removes_element x) (before ++ behind) || removes_element x u)
removed_with x [] behind u = swapped (removes_element x u) (list_any (removes_element x) behind)
  where
    swapped : (a b : Bool) → (a || b) ≡ (b || a)
    swapped true true = refl
    swapped true false = refl
    swapped false true = refl
    swapped false false = refl
removed_with x (v ∷ before) behind u =
    ap (λ b. removes_element x v || b) (removed_with x before behind u)
    ∙ grouped (removes_element x v) (list_any (removes_element x) (before ++ behind)) (removes_element x u)
  where
    grouped : (a b c : Bool) → (a || (b || c)) ≡ ((a || b) || c)
    grouped true b c = refl
    grouped false b c = refl
