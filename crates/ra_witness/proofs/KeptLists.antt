-- Lemmas on the effects of a list: of no labels, of as many elements as labels, and after a join.
use Rattle.std.proofs.Common.{◌≡◌, ℕ, zero, suc, ◌<◌, ◌≤◌, true, List, [], ◌∷◌, ◌++◌, map, length, Some, refl, sym, ap, ◌∙◌, subst, arith}
use Rattle.std.specs.Prelude.{Contains, get_or, eqb}
use Rattle.std.specs.List.{slice_get, IsDistinct}
use Rattle.std.specs.Set.{is_member}
use Rattle.std.specs.Cmp.{nat_eq_equiv}
use Rattle.std.proofs.lemmas.Bool.{ne_eqb}
use Rattle.std.proofs.lemmas.List.{map-append, length-map, length-append, length-replicate}
use Rattle.std.proofs.lemmas.Map.Keys.{IsDistinct-from_apart}
use Rattle.std.proofs.lemmas.Map.Made.{length-le_from_is_member}
use Rattle.ra_labels.specs.declared.kind.Kind.TheVariants as kinds
use Rattle.ra_labels.specs.declared.operation.Op.{Op}
use Rattle.ra_labels.specs.declared.command.Command.TheVariants.{Operate, Deliver, Join, Verdict}
use Rattle.ra_labels.specs.declared.list_operation.ListOp.TheVariants as list
use Rattle.ra_labels.specs.declared.operation.Op.TheVariants as ops
use Rattle.ra_labels.specs.Records.{Records, label_count, replica_count}
use Rattle.ra_labels.specs.ListHistory.{inserted_by, inserted_elements}
use Rattle.ra_labels.specs.Specification.{Listing}
use Rattle.ra_labels.specs.HistorySoFar.{history_of}
use Rattle.ra_labels.proofs.InLists.{among-exactly}
use Rattle.ra_labels.proofs.Members.{none_there}
use Rattle.ra_list_replica.specs.Numbers.{HasOneNumberEach}
use Rattle.ra_list_effects.specs.Past.{Past, empty_past, state_at, with_join}
use Rattle.ra_list_effects.specs.Effects as list_effects
use Rattle.ra_witness.specs.Standing.{AreStatesOf}
use Rattle.ra_witness.specs.KeptList.{as_update, IsPastOf}
use Rattle.ra_witness.specs.Offered.{IsJoinedFrom}
use Rattle.ra_witness.proofs.Joins.{states_joined}
use Rattle.ra_witness.proofs.ListStates.{listing_at, empty_at}

-- before any label
pub none_done : (replicas : ℕ) → IsPastOf (empty_past replicas) replicas []
none_done replicas = record {
  whole = refl;
  states = record {
    labels = refl;
    replicas = length-map (empty_past replicas).replicas Listing ∙ length-replicate replicas _;
    folded = λ r there. ap Some (sym (listing_at (empty_past replicas).replicas r
        (omega (arith, there, length-map (empty_past replicas).replicas Listing)) ∙ ap Listing (empty_at replicas r)));
  };
  inserted = λ x. (λ there. absurd (none_there x there), λ there. absurd (none_there x there));
  edges = refl;
  begins = λ edge there. absurd (none_there edge there);
}

-- a label inserts at most one element
at_most_one : (op : Op) → length (inserted_by op) ≤ 1
at_most_one (ops.List (list.Insert insertion)) = omega arith
at_most_one (ops.List (list.Remove x)) = omega arith
at_most_one (ops.List (list.Read elements)) = omega arith
at_most_one (ops.List (list.Part elements)) = omega arith
at_most_one _ = omega arith

few_inserted : (records : Records) → length (inserted_elements records) ≤ label_count records
few_inserted [] = omega arith
few_inserted (Operate by op clock ∷ before) =
    omega (arith, few_inserted before, at_most_one op, length-append (inserted_elements before) (inserted_by op))
few_inserted (Deliver to label ∷ before) = few_inserted before
few_inserted (Join joined from ∷ before) = few_inserted before
few_inserted (Verdict ∷ before) = few_inserted before

distinct : (elements : List ℕ) → HasOneNumberEach elements → IsDistinct eqb elements
distinct elements once = IsDistinct-from_apart eqb elements (λ i j d less within.
    ne_eqb (get_or elements i d) (get_or elements j d) (λ same.
    let at_j = slice_get_at elements j d within in
    let at_i = slice_get_at elements i d (omega (arith, less, within)) in
    let one = once (get_or elements j d) i j (at_i ∙ ap Some same) at_j in
    omega (arith, one, less)))
  where
    slice_get_at : (xs : List ℕ) (i : ℕ) (d : ℕ) → i < length xs → slice_get xs i ≡ Some (get_or xs i d)
    slice_get_at [] i d there = absurd (omega (arith, there))
    slice_get_at (x ∷ xs) zero d there = refl
    slice_get_at (x ∷ xs) (suc i) d there = slice_get_at xs i d (omega (arith, there))

-- there are at most as many elements as labels
pub elements_few : (effects : list_effects.Effects) (past : Past) (initial_replicas : ℕ) (records : Records)
    → list_effects.AreEffectsOf effects past → IsPastOf past initial_replicas records
    → length effects.witness.elements ≤ label_count records
elements_few effects past initial_replicas records stands is =
    let among = λ (x : ℕ) (there : is_member eqb effects.witness.elements x ≡ true).
    (among-exactly x (inserted_elements records)).1
    ((is.inserted x).0 ((stands.elements x).0 ((among-exactly x effects.witness.elements).0 there))) in
    omega (
      arith,
      few_inserted records,
      length-le_from_is_member nat_eq_equiv effects.witness.elements
          (inserted_elements records) (distinct effects.witness.elements stands.once) among,
    )

-- after a join
pub joined : (past : Past) (initial_replicas : ℕ) (records : Records) (from : ℕ) → IsPastOf past initial_replicas records
    → IsJoinedFrom (history_of kinds.List initial_replicas records) from
    → IsPastOf (with_join past from) initial_replicas (Join (replica_count initial_replicas records) from ∷ records)
joined past initial_replicas records from is joins =
    let there : from < length past.replicas = omega (arith, is.states.replicas, length-map past.replicas Listing, joins.there) in
    record {
      whole = is.whole;
      states = subst (λ ss. AreStatesOf (map as_update past.updates) ss
          (history_of kinds.List initial_replicas (Join (replica_count initial_replicas records) from ∷ records)))
          (ap (λ s. map Listing past.replicas ++ s ∷ []) (listing_at past.replicas from there)
          ∙ sym (map-append Listing past.replicas (state_at past.replicas from ∷ [])))
          (states_joined (map as_update past.updates) (map Listing past.replicas)
          (history_of kinds.List initial_replicas records) from is.states joins.there joins.beyond);
      inserted = is.inserted;
      edges = is.edges;
      begins = is.begins;
    }

-- what a replica has was inserted
pub within : (effects : list_effects.Effects) (past : Past) → list_effects.AreEffectsOf effects past
    → (replica x : ℕ) → Contains (state_at past.replicas replica).inserted x → Contains past.whole.inserted x
within effects past stands replica x there = (stands.elements x).0 ((stands.views replica).among x there)
