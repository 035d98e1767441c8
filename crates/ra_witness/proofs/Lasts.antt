-- Lemmas on the last labels of the replicas, if those of one replica change.
use Rattle.std.proofs.Common.{◌≡◌, ◌≢◌, ℕ, ◌<◌, ◌+◌, cond, List, [], ◌∷◌, ◌++◌, length, replicate, get_or, set, Option, Some, None, refl, sym, ap, ◌∙◌, subst, inl, inr, arith}
use Rattle.std.specs.Prelude.{◌==◌, ◌&&◌, IfSome, option_map}
use Rattle.std.proofs.lemmas.Bool.{cases_eq, eq-eqb, ne_eqb}
use Rattle.std.proofs.lemmas.Option.{slice_get_read, slice_get-map, get_or_from_slice_get}
use Rattle.std.proofs.lemmas.List.{get_or_default, map-append, map-set, replicate_more, length-map, get_or-set_same, get_or-set_other}
use Rattle.ra_witness.specs.declared.overriding.last_updates.LastUpdates.{LastUpdates}
use Rattle.ra_witness.specs.Overriding.{label_on, write_at, later_of, labels_in, last_label, counting, last_with}
use Rattle.ra_witness.specs.declared.overriding.written.Written.{Written}

pub if_some_at : {A : Type 0} (o : Option A) (x : A) (P : A → Type 0) → o ≡ Some x → P x → IfSome o P
if_some_at o x P is p = subst (λ a. IfSome a P) (sym is) p

abbrev labels_of : LastUpdates → List (Option ℕ)
labels_of last = last.labels.items

-- the last labels of this replica
read_at : (lasts : List LastUpdates) (r : ℕ) (old : LastUpdates) → r < length lasts → old ≡ get_or lasts r old → get_or (labels_in lasts) r [] ≡ labels_of old
read_at lasts r old there is =
    get_or_from_slice_get (labels_in lasts) r (labels_of old) [] (slice_get-map labels_of lasts r ∙ ap (λ o. option_map labels_of o) (slice_get_read lasts (length lasts) r old refl there is))

now_at : (lasts : List LastUpdates) (r : ℕ) (new : LastUpdates) → r < length lasts → get_or (labels_in (set lasts r new)) r [] ≡ labels_of new
now_at lasts r new there =
    let within : r < length (labels_in lasts) = omega (arith, length-map lasts labels_of) in
    ap (λ ls. get_or ls r []) (map-set labels_of lasts r new) ∙ get_or-set_same (labels_in lasts) r (labels_of new) [] within

other_at : (lasts : List LastUpdates) (r q : ℕ) (new : LastUpdates) → q ≢ r → get_or (labels_in (set lasts r new)) q [] ≡ get_or (labels_in lasts) q []
other_at lasts r q new other =
    ap (λ ls. get_or ls q []) (map-set labels_of lasts r new) ∙ get_or-set_other (labels_in lasts) r q (labels_of new) [] other

-- one more replica, to which nothing was delivered
pub lasts-more : (lasts : List LastUpdates) (new : LastUpdates) (n : ℕ) → labels_in lasts ≡ replicate n [] → new.labels.items ≡ []
    → labels_in (lasts ++ new ∷ []) ≡ replicate (n + 1) []
lasts-more lasts new n said none =
    map-append labels_of lasts (new ∷ [])
    ∙ ap (λ (ls : List (List (Option ℕ))). ls ++ labels_of new ∷ []) said
    ∙ ap (λ (l : List (Option ℕ)). replicate n [] ++ l ∷ []) none
    ∙ replicate_more n []

-- one more replica, with the same last labels as this one
pub lasts-joined : (lasts : List LastUpdates) (r : ℕ) (old new : LastUpdates) → r < length lasts → old ≡ get_or lasts r old
    → new.labels.items ≡ old.labels.items
    → labels_in (lasts ++ new ∷ []) ≡ labels_in lasts ++ get_or (labels_in lasts) r [] ∷ []
lasts-joined lasts r old new there is same =
    map-append labels_of lasts (new ∷ [])
    ∙ ap (λ (l : List (Option ℕ)). labels_in lasts ++ l ∷ []) (same ∙ sym (read_at lasts r old there is))

pub lasts-same : (lasts : List LastUpdates) (r : ℕ) (old new : LastUpdates) → r < length lasts → old ≡ get_or lasts r old
    → ((c : ℕ) → label_on new.labels.items c ≡ label_on old.labels.items c)
    → (q c : ℕ) → last_label (labels_in (set lasts r new)) q c ≡ last_label (labels_in lasts) q c
lasts-same lasts r old new there is same q c = elim (cases_eq q r) [
  | inl here ↦
      ap (λ k. last_label (labels_in (set lasts r new)) k c) here
      ∙ ap (λ ls. label_on ls c) (now_at lasts r new there)
      ∙ same c
      ∙ sym (ap (λ ls. label_on ls c) (read_at lasts r old there is))
      ∙ sym (ap (λ k. last_label (labels_in lasts) k c) here)
  | inr other ↦ ap (λ ls. label_on ls c) (other_at lasts r q new other)
]

-- with one more last label
with_here : (lasts : List (List (Option ℕ))) (r e label c : ℕ) → last_with lasts r e label r c ≡ cond (c == e) (Some label) (last_label lasts r c)
with_here lasts r e label c = ap (λ b. cond (b && c == e) (Some label) (last_label lasts r c)) (eq-eqb r r refl)

with_elsewhere : (lasts : List (List (Option ℕ))) (r e label q c : ℕ) → q ≢ r → last_with lasts r e label q c ≡ last_label lasts q c
with_elsewhere lasts r e label q c other = ap (λ b. cond (b && c == e) (Some label) (last_label lasts q c)) (ne_eqb q r other)

pub lasts-with : (lasts : List LastUpdates) (r : ℕ) (old new : LastUpdates) (e label : ℕ) → r < length lasts → old ≡ get_or lasts r old
    → ((c : ℕ) → label_on new.labels.items c ≡ cond (c == e) (Some label) (label_on old.labels.items c))
    → (q c : ℕ) → last_label (labels_in (set lasts r new)) q c ≡ last_with (labels_in lasts) r e label q c
lasts-with lasts r old new e label there is says q c = elim (cases_eq q r) [
  | inl here ↦
      ap (λ k. last_label (labels_in (set lasts r new)) k c) here
      ∙ ap (λ ls. label_on ls c) (now_at lasts r new there)
      ∙ says c
      ∙ ap (λ ls. cond (c == e) (Some label) (label_on ls c)) (sym (read_at lasts r old there is))
      ∙ sym (with_here (labels_in lasts) r e label c)
      ∙ ap (λ k. last_with (labels_in lasts) r e label k c) (sym here)
  | inr other ↦ ap (λ ls. label_on ls c) (other_at lasts r q new other) ∙ sym (with_elsewhere (labels_in lasts) r e label q c other)
]

pub write_found : (writes read : List (Option Written)) (n : ℕ) (x : Option Written) (w : Written) → read ≡ writes → n < length writes → x ≡ get_or read n x → x ≡ Some w → write_at writes n ≡ Some w
write_found writes read n x w same there is some =
    get_or_default writes n None x there ∙ sym (is ∙ ap (λ ws. get_or ws n x) same) ∙ some

pub lasts-delivered : (writes read : List (Option Written)) (lasts : List LastUpdates) (r n : ℕ) (w : Written) (old new : LastUpdates) → read ≡ writes → r < length lasts → old ≡ get_or lasts r old
    → ((c : ℕ) → label_on new.labels.items c ≡ cond (c == w.on) (Some (later_of read (label_on old.labels.items w.on) n w.stamp)) (label_on old.labels.items c))
    → (q c : ℕ) → last_label (labels_in (set lasts r new)) q c ≡ last_with (labels_in lasts) r w.on (counting writes (labels_in lasts) r n w) q c
lasts-delivered writes read lasts r n w old new same there is says =
    let counts : later_of read (label_on old.labels.items w.on) n w.stamp ≡ counting writes (labels_in lasts) r n w =
    ap (λ ws. later_of ws (label_on old.labels.items w.on) n w.stamp) same
    ∙ ap (λ ls. later_of writes (label_on ls w.on) n w.stamp) (sym (read_at lasts r old there is)) in
    lasts-with lasts r old new w.on (counting writes (labels_in lasts) r n w) there is
    (λ c. says c ∙ ap (λ k. cond (c == w.on) (Some k) (label_on old.labels.items c)) counts)

pub lasts-taken : (lasts : List LastUpdates) (r : ℕ) (old new : LastUpdates) (e f label n : ℕ) → r < length lasts → old ≡ get_or lasts r old → e ≡ f → label ≡ n
    → ((c : ℕ) → label_on new.labels.items c ≡ cond (c == e) (Some label) (label_on old.labels.items c))
    → (q c : ℕ) → last_label (labels_in (set lasts r new)) q c ≡ last_with (labels_in lasts) r f n q c
lasts-taken lasts r old new e f label n there is same_e same_n says q c =
    lasts-with lasts r old new e label there is says q c
    ∙ ap (λ k. last_with (labels_in lasts) r k label q c) same_e
    ∙ ap (λ k. last_with (labels_in lasts) r f k q c) same_n
