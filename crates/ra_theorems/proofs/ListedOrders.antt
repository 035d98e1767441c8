-- Lemmas on the order that a history of a list keeps: it has each inserted element once, and extends each edge between
-- two of them.
use Rattle.std.proofs.Common.{◌≡◌, ℕ, zero, suc, Bool, true, List, [], ◌∷◌, Option, Some, None, refl, sym, ap, ◌∙◌, subst, inl, inr}
use Rattle.std.specs.Prelude.{◌⊎◌, ◌==◌, ◌&&◌, not, find, length, Contains}
use Rattle.std.specs.List.{list_any}
use Rattle.std.specs.Option.{option_map, option_and_then}
use Rattle.std.proofs.lemmas.Bool.{false≢true, cases_Bool, cond-true, cond-false, not-true, and_from, eq-eqb, eqb-true}
use Rattle.std.proofs.lemmas.Option.{none-some, same_Some}
use Rattle.ra_labels.specs.declared.edge.Edge.{Edge}
use Rattle.ra_labels.specs.Edges.{EachOnce, IsBefore}
use Rattle.ra_labels.specs.Listing.{is_free, without, listed, list_order_of}
use Rattle.ra_labels.proofs.Members.{head_or_behind, at_head, behind_head, none_there, kept-there, there-kept}
use Rattle.ra_list_order.proofs.Members.{any_there}
use Rattle.ra_list_order.proofs.Cycles.{AreNew}
use Rattle.ra_list_model.proofs.OnceListed.{once_from_new}

-- what is found is there, and passes
found_there : (p : ℕ → Bool) (xs : List ℕ) (y : ℕ) → find p xs ≡ Some y → Contains xs y × (p y ≡ true)
found_there p [] y is = absurd (none-some y is)
found_there p (x ∷ xs) y is = elim (cases_Bool (p x)) [
  | inl now ↦
      let same : x ≡ y = same_Some x y (sym (cond-true (p x) (Some x) (find p xs) now) ∙ is) in
      (at_head x xs y same, sym (ap p same) ∙ now)
  | inr later ↦
      let rest = found_there p xs y (sym (cond-false (p x) (Some x) (find p xs) later) ∙ is) in
      (behind_head x xs y rest.0, rest.1)
]

-- where elements are listed, the first one was found and the others are listed
first_then : (found : Option ℕ) (rest : ℕ → Option (List ℕ)) (ys : List ℕ)
    → option_and_then (λ y. option_map (λ zs. y ∷ zs) (rest y)) found ≡ Some ys
    → (y : ℕ) × (zs : List ℕ) × (found ≡ Some y) × (rest y ≡ Some zs) × (y ∷ zs ≡ ys)
first_then None rest ys is = absurd (none-some ys is)
first_then (Some y) rest ys is =
    let (zs, listed_behind, same) = tail_of (rest y) is in
    (y, zs, refl, listed_behind, same)
  where
    tail_of : (o : Option (List ℕ)) → option_map (λ zs. y ∷ zs) o ≡ Some ys
        → (zs : List ℕ) × (o ≡ Some zs) × (y ∷ zs ≡ ys)
    tail_of None none = absurd (none-some ys none)
    tail_of (Some zs) some = (zs, refl, same_Some (y ∷ zs) ys some)

-- holds if the order has the elements, each once, and extends the edges between them
record IsListing (edges : List Edge) (elements order : List ℕ) : Type 0 where
  new : AreNew order
  among : (x : ℕ) → Contains order x → Contains elements x
  all : (x : ℕ) → Contains elements x → Contains order x
  extends : (edge : Edge) → Contains edges edge → Contains elements edge.before → Contains elements edge.after
      → IsBefore order edge.before edge.after

-- an element that is not the removed one remains
remains : (y x : ℕ) (xs : List ℕ) → Contains xs x → ¬ (x ≡ y) → Contains (without y xs) x
remains y x xs there other = kept-there (λ z. not (z == y)) xs x there (elim (cases_Bool (x == y)) [
  | inl same ↦ absurd (other (eqb-true x y same))
  | inr differs ↦ ap not differs
])

removed : (y x : ℕ) (xs : List ℕ) → Contains (without y xs) x → Contains xs x × ¬ (x ≡ y)
removed y x xs there =
    let kept = there-kept (λ z. not (z == y)) xs x there in
    (kept.0, λ same. false≢true (sym (not-true (x == y) kept.1) ∙ eq-eqb x y same))

-- no edge leads to a free element from a remaining one
free_has_none : (edges : List Edge) (xs : List ℕ) (y : ℕ) (edge : Edge) → is_free edges xs y ≡ true
    → Contains edges edge → edge.after ≡ y → ¬ Contains xs edge.before
free_has_none edges xs y edge free there leads before =
    let leads_there : Edge → Bool = λ e. (e.after == y) && list_any (λ z. z == e.before) xs in
    let passes : leads_there edge ≡ true = and_from (edge.after == y) (list_any (λ z. z == edge.before) xs)
    (eq-eqb edge.after y leads)
    (any_there (λ z. z == edge.before) xs edge.before before (eq-eqb edge.before edge.before refl)) in
    false≢true (sym (not-true (list_any leads_there edges) free) ∙ any_there leads_there edges edge there passes)

equal_or_not : (x y : ℕ) → (x ≡ y) ⊎ (¬ (x ≡ y))
equal_or_not x y = elim (cases_Bool (x == y)) [
  | inl same ↦ inl (eqb-true x y same)
  | inr differs ↦ inr (λ same. false≢true (sym differs ∙ eq-eqb x y same))
]

with_first : (edges : List Edge) (xs zs : List ℕ) (y : ℕ) → Contains xs y → is_free edges xs y ≡ true
    → IsListing edges (without y xs) zs → IsListing edges xs (y ∷ zs)
with_first edges xs zs y found free rest = record {
  new = ((λ there. (removed y y xs (rest.among y there)).1 refl), rest.new);
  among = λ x there. elim (head_or_behind y zs x there) [
    | inl here ↦ subst (Contains xs) here found
    | inr further ↦ (removed y x xs (rest.among x further)).0
  ];
  all = λ x there. elim (equal_or_not x y) [
    | inl same ↦ at_head y zs x (sym same)
    | inr other ↦ behind_head y zs x (rest.all x (remains y x xs there other))
  ];
  extends = λ edge there before after. elim (equal_or_not edge.after y) [
    | inl last ↦ absurd (free_has_none edges xs y edge free there last before)
    | inr later ↦
        let behind = remains y edge.after xs after later in
        elim (equal_or_not edge.before y) [
          | inl first ↦ inl (sym first, rest.all edge.after behind)
          | inr other ↦ inr (rest.extends edge there (remains y edge.before xs before other) behind)
        ]
  ];
}

is_listing : (n : ℕ) (edges : List Edge) (xs ys : List ℕ) → listed n edges xs ≡ Some ys → IsListing edges xs ys
is_listing n edges [] ys is = subst (IsListing edges []) (same_Some [] ys (nothing_listed n is)) none_listed
  where
    nothing_listed : (k : ℕ) → listed k edges [] ≡ Some ys → Some [] ≡ Some ys
    nothing_listed zero listing = listing
    nothing_listed (suc k) listing = listing

    none_listed : IsListing edges [] []
    none_listed = record {
      new = tt;
      among = λ x there. there;
      all = λ x there. there;
      extends = λ edge there before after. absurd (none_there edge.before before);
    }
is_listing zero edges (x ∷ xs) ys is = absurd (none-some ys is)
is_listing (suc n) edges (x ∷ xs) ys is =
    let whole : List ℕ = x ∷ xs in
    let (y, zs, found, rest, same) =
    first_then (find (is_free edges whole) whole) (λ z. listed n edges (without z whole)) ys is in
    let (there, free) = found_there (is_free edges whole) whole y found in
    subst (IsListing edges whole) same
    (with_first edges whole zs y there free (is_listing n edges (without y whole) zs rest))

-- the order that is kept has the elements, each once, and extends each edge between two of them
pub kept_order : (elements : List ℕ) (edges : List Edge) (order : List ℕ) → list_order_of elements edges ≡ Some order
    → EachOnce order × ((x : ℕ) → Contains elements x → Contains order x)
    × ((edge : Edge) → Contains edges edge → Contains elements edge.before → Contains elements edge.after
    → IsBefore order edge.before edge.after)
kept_order elements edges order is =
    let listing = is_listing (length elements) edges elements order is in
    (once_from_new order listing.new, listing.all, listing.extends)
