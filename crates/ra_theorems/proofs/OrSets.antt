-- Lemmas on the pairs of an OR-Set.
use Rattle.std.proofs.Common.{◌≡◌, ℕ, ◌<◌, true, List, [], ◌∷◌, filter, Option, Some, refl, sym, ap, ◌∙◌, subst, inl, inr, arith}
use Rattle.std.specs.Prelude.{◌↔◌, ◌⊎◌, ◌==◌, ◌&&◌, not, option_and_then, Contains}
use Rattle.std.specs.List.{list_all}
use Rattle.std.specs.List.Sorted.{IsStrictlySortedBy}
use Rattle.std.specs.Ordering.{nat_cmp}
use Rattle.std.specs.declared.cmp.Ordering.TheVariants.{Less, Equal}
use Rattle.std.specs.BTreeSet.{insert_key}
use Rattle.std.specs.Cmp.{IsTotalOrder}
use Rattle.std.proofs.lemmas.Cmp.{ranked, on_total, then_total, nat_cmp_total}
use Rattle.std.proofs.lemmas.Bool.{false≢true, and_parts, and_from, eqb-true, eq-eqb, not-true, not_from_false, false_from_ne_true}
use Rattle.std.proofs.lemmas.Option.{none-some}
use Rattle.std.proofs.lemmas.List.Sums.{fold-append}
use Rattle.std.proofs.lemmas.List.Kept.{IsStrictlySortedBy-filter}
use Rattle.ra_labels.specs.declared.kind.Kind.TheVariants.{OrSet}
use Rattle.ra_labels.specs.declared.operation.Update.{Update}
use Rattle.ra_labels.specs.declared.operation.Update.TheVariants.{OrAdd, TakeOut}
use Rattle.ra_labels.specs.declared.operation.Query.TheVariants.{ReadIds, OrRead}
use Rattle.ra_labels.specs.Lists.{is_among, pair_cmp, identifiers_of, elements_of, without_pairs}
use Rattle.ra_labels.specs.Specification.{State, Pairs, step_of, answers, state_after}
use Rattle.ra_labels.specs.TheoremTerms.{removes_pair, NoneRemovesPair, IsPresentPair}
use Rattle.ra_labels.proofs.InLists.{among-exactly, same-exactly}
use Rattle.ra_labels.proofs.Members.{kept-there, there-kept, reached, from_where}
use Rattle.ra_labels.proofs.StampOrder.{ranked_less, ranked_same}
use Rattle.ra_theorems.proofs.Keys.{inserted-exactly, inserted-sorted}
use Rattle.ra_theorems.proofs.States.{state_from, stuck}

-- the order of pairs
pub pair_total : IsTotalOrder pair_cmp
pair_total = then_total (on_total (λ (p : ℕ × ℕ). p.0) nat_cmp_total) (on_total (λ (p : ℕ × ℕ). p.1) nat_cmp_total)

pub pair_below : (p q : ℕ × ℕ) → (pair_cmp p q ≡ Less) ↔ ((p.0 < q.0) ⊎ ((p.0 ≡ q.0) × (p.1 < q.1)))
pair_below p q =
    ranked_less p.0 q.0 p.1 q.1 (nat_cmp p.0 q.0) (nat_cmp p.1 q.1) (ranked p.0 q.0 _ refl) (ranked p.1 q.1 _ refl)

pub pair_same : (p q : ℕ × ℕ) → (pair_cmp p q ≡ Equal) ↔ (p ≡ q)
pair_same p q =
    let both = ranked_same p.0 q.0 p.1 q.1 (nat_cmp p.0 q.0) (nat_cmp p.1 q.1) (ranked p.0 q.0 _ refl)
    (ranked p.1 q.1 _ refl) in (
      (λ tie. let fields = both.0 tie in λ i. (fields.0 i, fields.1 i)),
      (λ same. both.1 (ap (λ r. r.0) same, ap (λ r. r.1) same)),
    )

pub put : (p q : ℕ × ℕ) (pairs : List (ℕ × ℕ)) → Contains (insert_key pair_cmp pairs p) q ↔ ((q ≡ p) ⊎ Contains pairs q)
put p q pairs = inserted-exactly pair_cmp (λ x y tie. (pair_same x y).0 tie) p q pairs

-- the effect of one addition and of one removal
pub added-exactly : (pairs next : List (ℕ × ℕ)) (x id : ℕ) (p : ℕ × ℕ)
    → step_of (Pairs pairs) (OrAdd x id) ≡ Some (Pairs next) → Contains next p ↔ ((p ≡ (x, id)) ⊎ Contains pairs p)
added-exactly pairs next x id p is =
    let same : insert_key pair_cmp pairs (x, id) ≡ next = cc (is) in
    subst (λ ps. Contains ps p ↔ ((p ≡ (x, id)) ⊎ Contains pairs p)) same (put (x, id) p pairs)

names : (x y : ℕ) (ids : List ℕ) (k : ℕ) → (not (x == y && is_among k ids) ≡ true) ↔ (¬ ((y ≡ x) × Contains ids k))
names x y ids k = (
  (λ passes named. false≢true (sym (not-true (x == y && is_among k ids) passes)
      ∙ and_from (x == y) (is_among k ids) (eq-eqb x y (sym named.0)) ((among-exactly k ids).1 named.1))),
  (λ other. not_from_false (x == y && is_among k ids) (false_from_ne_true (x == y && is_among k ids) (λ is.
      let parts = and_parts (x == y) (is_among k ids) is in
      other (sym (eqb-true x y parts.0), (among-exactly k ids).0 parts.1)))),
)

pub taken_out-exactly : (pairs next : List (ℕ × ℕ)) (x : ℕ) (ids : List ℕ) (y k : ℕ)
    → step_of (Pairs pairs) (TakeOut x ids) ≡ Some (Pairs next)
    → Contains next (y, k) ↔ (Contains pairs (y, k) × ¬ ((y ≡ x) × Contains ids k))
taken_out-exactly pairs next x ids y k is =
    let same : without_pairs x ids pairs ≡ next = cc (is) in
    let test = λ (pair : ℕ × ℕ). not (x == pair.0 && is_among pair.1 ids) in
    subst (λ ps. Contains ps (y, k) ↔ (Contains pairs (y, k) × ¬ ((y ≡ x) × Contains ids k))) same (
      (λ there. let kept = there-kept test pairs (y, k) there in (kept.0, (names x y ids k).0 kept.1)),
      (λ known. kept-there test pairs (y, k) known.0 ((names x y ids k).1 known.1)),
    )

-- a pair of the state was present before or added since, and no update removes it afterwards
came : (ps : List (ℕ × ℕ)) (updates : List Update) (qs : List (ℕ × ℕ)) (x id : ℕ)
    → state_from (Some (Pairs ps)) updates ≡ Some (Pairs qs) → Contains qs (x, id)
    → (Contains ps (x, id) × NoneRemovesPair x id updates) ⊎ IsPresentPair x id updates
came ps [] qs x id is there = let same : ps ≡ qs = cc (is) in
    inl (subst (λ rs. Contains rs (x, id)) (sym same) there, refl)
came ps (OrAdd y k ∷ us) qs x id is there = elim (came (insert_key pair_cmp ps (y, k)) us qs x id is there) [
  | inl old ↦ elim ((put (y, k) (x, id) ps).0 old.0) [
    | inl new ↦ inr ([], us, ap (λ p. OrAdd p.0 p.1 ∷ us) (sym new), old.1)
    | inr older ↦ inl (older, old.1)
  ]
  | inr (first, later, split, none) ↦ inr (OrAdd y k ∷ first, later, ap (λ l. OrAdd y k ∷ l) split, none)
]
came ps (TakeOut y ids ∷ us) qs x id is there = elim (came (without_pairs y ids ps) us qs x id is there) [
  | inl old ↦
      let kept = there-kept (λ pair. not (y == pair.0 && is_among pair.1 ids)) ps (x, id) old.0 in
      inl (kept.0, and_from (not (y == x && is_among id ids)) (list_all (λ u. not (removes_pair x id u)) us) kept.1 old.1)
  | inr (first, later, split, none) ↦ inr (TakeOut y ids ∷ first, later, ap (λ l. TakeOut y ids ∷ l) split, none)
]
came ps (_ ∷ us) qs x id is there = absurd (none-some (Pairs qs) (sym (stuck us) ∙ is))

-- a pair that no update removes remains
stays : (ps : List (ℕ × ℕ)) (updates : List Update) (qs : List (ℕ × ℕ)) (x id : ℕ) → NoneRemovesPair x id updates
    → state_from (Some (Pairs ps)) updates ≡ Some (Pairs qs) → Contains ps (x, id) → Contains qs (x, id)
stays ps [] qs x id none is there = let same : ps ≡ qs = cc (is) in subst (λ rs. Contains rs (x, id)) same there
stays ps (OrAdd y k ∷ us) qs x id none is there =
    stays (insert_key pair_cmp ps (y, k)) us qs x id none is ((put (y, k) (x, id) ps).1 (inr there))
stays ps (TakeOut y ids ∷ us) qs x id none is there =
    let parts = and_parts (not (y == x && is_among id ids)) (list_all (λ u. not (removes_pair x id u)) us) none in
    stays (without_pairs y ids ps) us qs x id parts.1 is
    (kept-there (λ pair. not (y == pair.0 && is_among pair.1 ids)) ps (x, id) there parts.0)
stays ps (_ ∷ us) qs x id none is there = absurd (none-some (Pairs qs) (sym (stuck us) ∙ is))

added : (state : Option State) (x id : ℕ) (us : List Update) (qs : List (ℕ × ℕ)) → NoneRemovesPair x id us
    → state_from state (OrAdd x id ∷ us) ≡ Some (Pairs qs) → Contains qs (x, id)
added (Some (Pairs ps)) x id us qs none is = stays _ us qs x id none is ((put (x, id) (x, id) ps).1 (inl refl))
added _ x id us qs none is = absurd (none-some (Pairs qs) (sym (stuck us) ∙ is))

pub pairs-exactly : (updates : List Update) (pairs : List (ℕ × ℕ)) (x id : ℕ)
    → state_after OrSet updates ≡ Some (Pairs pairs) → Contains pairs (x, id) ↔ IsPresentPair x id updates
pairs-exactly updates pairs x id is = (
  (λ there. elim (came [] updates pairs x id is there) [
    | inl old ↦ absurd (omega (arith, old.0.1))
    | inr known ↦ known
  ]),
  (λ (first, later, split, none).
      added (state_after OrSet first) x id later pairs none
      (sym (fold-append (λ state change. option_and_then (λ s. step_of s change) state) (Some (Pairs [])) first
      (OrAdd x id ∷ later))
      ∙ sym (ap (state_after OrSet) split) ∙ is)),
)

-- the pairs rise strictly
sorted_from : (ps : List (ℕ × ℕ)) (updates : List Update) (qs : List (ℕ × ℕ)) → IsStrictlySortedBy pair_cmp ps
    → state_from (Some (Pairs ps)) updates ≡ Some (Pairs qs) → IsStrictlySortedBy pair_cmp qs
sorted_from ps [] qs up is = let same : ps ≡ qs = cc (is) in subst (IsStrictlySortedBy pair_cmp) same up
sorted_from ps (OrAdd y k ∷ us) qs up is =
    sorted_from (insert_key pair_cmp ps (y, k)) us qs (inserted-sorted pair_cmp pair_total (y, k) ps up) is
sorted_from ps (TakeOut y ids ∷ us) qs up is =
    sorted_from (without_pairs y ids ps) us qs
    (IsStrictlySortedBy-filter pair_cmp (λ pair. not (y == pair.0 && is_among pair.1 ids)) ps up) is
sorted_from ps (_ ∷ us) qs up is = absurd (none-some (Pairs qs) (sym (stuck us) ∙ is))

pub nothing_sorted : IsStrictlySortedBy pair_cmp []
unfolding IsStrictlySortedBy
nothing_sorted = tt

pub pairs-rise : (updates : List Update) (pairs : List (ℕ × ℕ)) → state_after OrSet updates ≡ Some (Pairs pairs)
    → IsStrictlySortedBy pair_cmp pairs
pairs-rise updates pairs is = sorted_from [] updates pairs nothing_sorted is

-- the answers to queries
identifiers : (pairs : List (ℕ × ℕ)) (x k : ℕ) → Contains (identifiers_of x pairs) k ↔ Contains pairs (x, k)
identifiers pairs x k = (
  (λ there.
      let from = from_where (λ (pair : ℕ × ℕ). pair.1) (filter (λ pair. x == pair.0) pairs) k there in
      let kept = there-kept (λ (pair : ℕ × ℕ). x == pair.0) pairs from.0 from.1 in
      let element = eqb-true x from.0.0 kept.1 in
      subst (Contains pairs) (λ i. (sym element i, from.2 i)) kept.0),
  (λ there. reached (λ (pair : ℕ × ℕ). pair.1) (filter (λ pair. x == pair.0) pairs) (x, k)
      (kept-there (λ (pair : ℕ × ℕ). x == pair.0) pairs (x, k) there (eq-eqb x x refl))),
)

pub both_ways : {A B C : Type 0} → (A ↔ B) → (B ↔ C) → A ↔ C
both_ways first second = ((λ a. second.0 (first.0 a)), (λ c. first.1 (second.1 c)))

pub answers-ids : (pairs : List (ℕ × ℕ)) (x : ℕ) (asked : List ℕ)
    → (answers (Pairs pairs) (ReadIds x asked) ≡ true) ↔ ((k : ℕ) → Contains asked k ↔ Contains pairs (x, k))
answers-ids pairs x asked =
    let same = same-exactly asked (identifiers_of x pairs) in (
      (λ is k. both_ways (same.0 is k) (identifiers pairs x k)),
      (λ each. same.1 (λ k. both_ways (each k) ((identifiers pairs x k).1, (identifiers pairs x k).0))),
    )

elements : (pairs : List (ℕ × ℕ)) (x : ℕ) → Contains (elements_of pairs) x ↔ ((k : ℕ) × Contains pairs (x, k))
elements pairs x = (
  (λ there.
      let from = from_where (λ (pair : ℕ × ℕ). pair.0) pairs x there in
      (from.0.1, subst (Contains pairs) (λ i. (from.2 i, from.0.1)) from.1)),
  (λ known. reached (λ (pair : ℕ × ℕ). pair.0) pairs (x, known.0) known.1),
)

pub answers-pairs : (pairs : List (ℕ × ℕ)) (asked : List ℕ) → (answers (Pairs pairs) (OrRead asked) ≡ true)
    ↔ ((x : ℕ) → Contains asked x ↔ ((k : ℕ) × Contains pairs (x, k)))
answers-pairs pairs asked =
    let same = same-exactly asked (elements_of pairs) in (
      (λ is x. both_ways (same.0 is x) (elements pairs x)),
      (λ each. same.1 (λ x. both_ways (each x) ((elements pairs x).1, (elements pairs x).0))),
    )
