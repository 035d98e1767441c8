-- The invariant of an edge pool: with one more edge, with one edge less, and along the edges from one element.
use Rattle.std.proofs.Common.{◌≡◌, ℕ, ◌+◌, ◌-◌, ◌<◌, ◌≤◌, List, [], ◌∷◌, ◌++◌, length, get_or, take, Option, Some, refl, sym, ap, ◌∙◌, subst, inl, inr, arith, append_assoc, unwrap_or}
use Rattle.std.specs.Prelude.{Contains}
use Rattle.std.proofs.Math.ListN.{get_or-append}
use Rattle.std.proofs.Math.Seq.{get_or-append_seam}
use Rattle.std.proofs.lemmas.Bool.{cases_lt, cases_eq}
use Rattle.std.proofs.lemmas.List.{length_push, length-take, get_or-take, get_or_past, append-nil}
use Rattle.std.proofs.lemmas.List.Elements.{Contains-get_or, Contains-append_left, Contains-push, Contains-push_cases}
use Rattle.ra_labels.specs.declared.edge.Edge.{Edge}
use Rattle.ra_list_order.specs.EdgePool.{no_edge, edge_at, IsLastFrom, EdgesLinked}
use Rattle.ra_list_order.specs.Numbers.{IsSetTo, number_in}
use Rattle.ra_list_order.specs.Sweep.{PushesEdgesFrom}
use Rattle.ra_list_order.proofs.Members.{same_read}

-- holds if the two lists have the same edges at the indexes below n
abbrev pub AgreeBelow : List Edge → List Edge → ℕ → Type 0
AgreeBelow old new n = (k : ℕ) → k < n → edge_at new k ≡ edge_at old k

last_same : (x : ℕ) (old new : List Edge) (n last : ℕ) → AgreeBelow old new n → IsLastFrom x old n last
    → IsLastFrom x new n last
last_same x old new n last agree is = record {
  within = is.within;
  begins = λ some.
      let within = is.within in
      ap (λ (e : Edge). e.before) (agree (last - 1) (omega arith)) ∙ is.begins some;
  others = λ k from below same. is.others k from below (sym (ap (λ (e : Edge). e.before) (agree k below)) ∙ same);
}

module _ (old new : ℕ → ℕ) (edges : List Edge) (edge : Edge) (previous : List ℕ)
    (linked : EdgesLinked old edges previous) (set : IsSetTo edge.before (length edges + 1) old new) where
  abbrev more : List Edge
  more = edges ++ edge ∷ []

  agree : AgreeBelow edges more (length edges)
  agree k below = get_or-append edges (edge ∷ []) no_edge k below

  at_end : edge_at more (length edges) ≡ edge
  at_end = get_or-append_seam edges edge [] no_edge

  push_lasts : (x : ℕ) → IsLastFrom x more (length more) (new x)
  push_lasts x =
      let long = length_push edges edge in
      elim (cases_eq x edge.before) [
        | inl same ↦
            subst (λ n. IsLastFrom x more (length more) n) (sym (ap new same ∙ set.here)) (record {
              within = omega (arith, long);
              begins = λ some.
                  ap (λ (e : Edge). e.before) (ap (edge_at more) (omega arith) ∙ at_end) ∙ sym same;
              others = λ k from below. absurd (omega (arith, long, from, below));
            })
        | inr other ↦
            let before = last_same x edges more (length edges) (old x) agree (linked.lasts x) in
            subst (λ n. IsLastFrom x more (length more) n) (sym (set.apart x other)) (record {
              within = let within = before.within in omega (arith, long, within);
              begins = before.begins;
              others = λ k from below same. elim (cases_lt k (length edges)) [
                | inl low ↦ before.others k from low same
                | inr high ↦
                    let last : k ≡ length edges = omega (arith, long, below, high) in
                    other (sym same ∙ ap (λ (e : Edge). e.before) (ap (edge_at more) last ∙ at_end))
              ];
            })
      ]

  pub pool_push : EdgesLinked new more (previous ++ old edge.before ∷ [])
  pool_push =
      let long = length_push edges edge in
      let link = old edge.before in
      let links = previous ++ link ∷ [] in
      record {
        lasts = push_lasts;
        links = λ k below. elim (cases_lt k (length edges)) [
          | inl low ↦
              let many = linked.as_many in
              let is = last_same (edge_at edges k).before edges more k (get_or previous k 0)
              (λ i less. agree i (omega (arith, less, low))) (linked.links k low) in
              subst (λ n. IsLastFrom (edge_at more k).before more k n)
              (sym (get_or-append previous (link ∷ []) 0 k (omega (arith, many, low))))
              (subst (λ (e : Edge). IsLastFrom e.before more k (get_or previous k 0)) (sym (agree k low)) is)
          | inr high ↦
              let last : length edges ≡ k = omega (arith, long, below, high) in
              subst (λ i. IsLastFrom (edge_at more i).before more i (get_or links i 0)) last
              (subst (λ (e : Edge). IsLastFrom e.before more (length edges) (get_or links (length edges) 0))
              (sym at_end)
              (subst (λ n. IsLastFrom edge.before more (length edges) n)
              (sym (ap (λ i. get_or links i 0) (sym linked.as_many) ∙ get_or-append_seam previous link [] 0))
              (last_same edge.before edges more (length edges) link agree (linked.lasts edge.before))))
        ];
        as_many =
            let one = length_push previous link in
            let many = linked.as_many in
            omega (arith, long, one, many);
      }

-- the last edge of a list is one of those that its element begins
pub last_there : (old : ℕ → ℕ) (edges : List Edge) (previous : List ℕ) → EdgesLinked old edges previous
    → 0 < length edges → 0 < old (edge_at edges (length edges - 1)).before
last_there old edges previous linked some =
    let x = (edge_at edges (length edges - 1)).before in
    elim (cases_lt 0 (old x)) [
      | inl there ↦ there
      | inr none ↦ absurd ((linked.lasts x).others (length edges - 1) (omega (arith, none)) (omega (arith, some)) refl)
    ]

module _ (old new : ℕ → ℕ) (edges : List Edge) (previous : List ℕ) (linked : EdgesLinked old edges previous)
    (some : 0 < length edges)
    (set : IsSetTo (edge_at edges (length edges - 1)).before (get_or previous (length edges - 1) 0) old new) where
  abbrev n : ℕ
  n = length edges - 1

  abbrev fewer : List Edge
  fewer = take n edges

  fewer_length : length fewer ≡ n
  fewer_length = let cut = length-take n edges in omega (arith, cut)

  same_below : AgreeBelow edges fewer n
  same_below k below = get_or-take n edges k no_edge below

  pop_lasts : (x : ℕ) → IsLastFrom x fewer n (new x)
  pop_lasts x = elim (cases_eq x (edge_at edges n).before) [
    | inl same ↦
        subst (λ m. IsLastFrom x fewer n m) (sym (ap new same ∙ set.here))
        (subst (λ y. IsLastFrom y fewer n (get_or previous n 0)) (sym same)
        (last_same (edge_at edges n).before edges fewer n (get_or previous n 0) same_below
        (linked.links n (omega (arith, some)))))
    | inr other ↦
        let is = linked.lasts x in
        let last = old x in
        let not_last : ¬ (last ≡ length edges) =
        λ here. other (sym (is.begins (omega (arith, here, some))) ∙ ap (λ m. (edge_at edges (m - 1)).before) here) in
        let within = is.within in
        let low : last ≤ n = elim (cases_eq last (length edges)) [
          | inl here ↦ absurd (not_last here)
          | inr less ↦ omega (arith, within, less)
        ] in
        subst (λ m. IsLastFrom x fewer n m) (sym (set.apart x other))
        (last_same x edges fewer n last same_below (record {
          within = low;
          begins = is.begins;
          others = λ k from below. is.others k from (omega (arith, below));
        }))
  ]

  pub pool_pop : EdgesLinked new fewer (take n previous)
  pool_pop =
      let many = linked.as_many in
      record {
        lasts = λ x. subst (λ m. IsLastFrom x fewer m (new x)) (sym fewer_length) (pop_lasts x);
        links = λ k within.
            let cut = fewer_length in
            let below : k < n = omega (arith, within, cut) in
            subst (λ m. IsLastFrom (edge_at fewer k).before fewer k m) (sym (get_or-take n previous k 0 below))
            (subst (λ (e : Edge). IsLastFrom e.before fewer k (get_or previous k 0)) (sym (same_below k below))
            (last_same (edge_at edges k).before edges fewer k (get_or previous k 0)
            (λ i less. same_below i (omega (arith, less, below))) (linked.links k (omega (arith, below)))));
        as_many =
            let cut = length-take n previous in
            let here = fewer_length in
            omega (arith, cut, here, many);
      }

-- holds if the edges from x with an index of at least m were appended, and `at` is the number of the next one
pub record IsWalking (x : ℕ) (edges walked now : List Edge) (at : ℕ) : Type 0 where
  pub m : ℕ
  pub begun : List Edge
  pub within : m ≤ length edges
  pub last : IsLastFrom x edges m at
  pub made : now ≡ walked ++ begun
  pub only : (edge : Edge) → Contains begun edge → Contains edges edge × (edge.before ≡ x)
  pub each : (k : ℕ) → m ≤ k → k < length edges → (edge_at edges k).before ≡ x → Contains begun (edge_at edges k)

pub walking_none : (old : ℕ → ℕ) (edges : List Edge) (previous : List ℕ) (x : ℕ) (walked : List Edge) (at : ℕ)
    → EdgesLinked old edges previous → at ≡ old x → IsWalking x edges walked walked at
walking_none old edges previous x walked at linked is = record {
  m = length edges;
  begun = [];
  within = omega arith;
  last = subst (λ n. IsLastFrom x edges (length edges) n) (sym is) (linked.lasts x);
  made = sym (append-nil walked);
  only = λ edge there. absurd (omega (arith, there.1));
  each = λ k from below. absurd (omega (arith, from, below));
}

pub walking_more : (old : ℕ → ℕ) (edges : List Edge) (previous : List ℕ) (x : ℕ) (walked now next : List Edge)
    (at at_next : ℕ) → EdgesLinked old edges previous → IsWalking x edges walked now at → 0 < at
    → next ≡ now ++ edge_at edges (at - 1) ∷ [] → at_next ≡ get_or previous (at - 1) 0
    → IsWalking x edges walked next at_next
walking_more old edges previous x walked now next at at_next linked is some made next_is =
    let low = is.last.within in
    let high = is.within in
    let here : at - 1 < length edges = omega (arith, low, high, some) in
    let edge = edge_at edges (at - 1) in
    record {
      m = at - 1;
      begun = is.begun ++ edge ∷ [];
      within = omega (arith, here);
      last = subst (λ n. IsLastFrom x edges (at - 1) n) (sym next_is)
          (subst (λ y. IsLastFrom y edges (at - 1) (get_or previous (at - 1) 0)) (is.last.begins some)
          (linked.links (at - 1) here));
      made = made ∙ ap (λ es. es ++ edge ∷ []) is.made ∙ append_assoc walked is.begun (edge ∷ []);
      only = λ e there. elim (Contains-push_cases is.begun edge e there) [
        | inl earlier ↦ is.only e earlier
        | inr now_is ↦ subst (λ (f : Edge). Contains edges f × (f.before ≡ x)) now_is
            (Contains-get_or edges (at - 1) no_edge here, is.last.begins some)
      ];
      each = λ k from below begins. elim (cases_lt k is.m) [
        | inl less ↦ elim (cases_eq k (at - 1)) [
          | inl same ↦ subst (λ i. Contains (is.begun ++ edge ∷ []) (edge_at edges i)) (sym same)
              (Contains-push is.begun edge)
          | inr other ↦ absurd (is.last.others k (omega (arith, from, other, some)) less begins)
        ]
        | inr more ↦ Contains-append_left is.begun (edge ∷ []) (edge_at edges k)
            (is.each k (omega (arith, more)) below begins)
      ];
    }

pub walking_done : (x : ℕ) (edges walked now : List Edge) (at : ℕ) → IsWalking x edges walked now at → at ≤ 0
    → PushesEdgesFrom x edges walked now
walking_done x edges walked now at is none = (
  is.begun,
  is.made,
  record {
    only = is.only;
    each = λ edge there begins.
        let k = there.0 in
        let read : edge_at edges k ≡ edge = same_read edges k no_edge edge there.1 ∙ there.2 in
        let starts : (edge_at edges k).before ≡ x = ap (λ (e : Edge). e.before) read ∙ begins in
        subst (λ (e : Edge). Contains is.begun e) read (elim (cases_lt k is.m) [
          | inl less ↦ absurd (is.last.others k (omega (arith, none)) less starts)
          | inr more ↦ is.each k (omega (arith, more)) there.1 starts
        ]);
  },
)

-- the same as the code reads it
pub pool_pushed : (old mid new : ℕ → ℕ) (edges read new_edges : List Edge) (edge : Edge)
    (previous read_previous new_previous : List ℕ) (number link : ℕ)
    → EdgesLinked old edges previous → read ≡ edges → read_previous ≡ previous → number ≡ length edges + 1
    → ((x : ℕ) → mid x ≡ old x) → IsSetTo edge.before number mid new → link ≡ mid edge.before
    → new_edges ≡ read ++ edge ∷ [] → new_previous ≡ read_previous ++ link ∷ []
    → EdgesLinked new new_edges new_previous
pool_pushed old mid new edges read new_edges edge previous read_previous new_previous number link linked reads
    reads_previous number_is same done link_is made made_previous =
    let set : IsSetTo edge.before (length edges + 1) old new = record {
      here = done.here ∙ number_is;
      apart = λ x other. done.apart x other ∙ same x;
    } in
    let pushed = pool_push old new edges edge previous linked set in
    subst (λ es. EdgesLinked new es new_previous) (sym (made ∙ ap (λ es. es ++ edge ∷ []) reads))
    (subst (λ ls. EdgesLinked new (edges ++ edge ∷ []) ls)
    (sym (made_previous ∙ ap (λ ls. ls ++ link ∷ []) reads_previous
    ∙ ap (λ l. previous ++ l ∷ []) (link_is ∙ same edge.before))) pushed)

pub pool_unchanged : (old new : ℕ → ℕ) (edges new_edges : List Edge) (previous new_previous : List ℕ)
    → EdgesLinked old edges previous → ((x : ℕ) → new x ≡ old x) → new_edges ≡ edges → new_previous ≡ previous
    → EdgesLinked new new_edges new_previous
pool_unchanged old new edges new_edges previous new_previous linked same edges_is previous_is =
    subst (λ es. EdgesLinked new es new_previous) (sym edges_is)
    (subst (λ ls. EdgesLinked new edges ls) (sym previous_is) (record {
      lasts = λ x. subst (λ v. IsLastFrom x edges (length edges) v) (sym (same x)) (linked.lasts x);
      links = linked.links;
      as_many = linked.as_many;
    }))

-- the last edge begins at an element that the array has
pub last_within : (lasts : List ℕ) (edges : List Edge) (edge : Edge) (previous : List ℕ)
    → EdgesLinked (number_in lasts) edges previous → 0 < length edges → edge ≡ edge_at edges (length edges - 1)
    → edge.before < length lasts
last_within lasts edges edge previous linked some edge_is = elim (cases_lt edge.before (length lasts)) [
  | inl low ↦ low
  | inr past ↦
      let none = get_or_past lasts edge.before 0 (omega (arith, past)) in
      let there = subst (λ (e : Edge). 0 < number_in lasts e.before) (sym edge_is)
      (last_there (number_in lasts) edges previous linked some) in
      absurd (omega (arith, none, there))
]

pub pool_popped : (old new : ℕ → ℕ) (edges new_edges : List Edge) (edge : Edge)
    (previous new_previous : List ℕ) (link : ℕ) (value : Option ℕ)
    → EdgesLinked old edges previous → 0 < length edges
    → edge ≡ edge_at edges (length edges - 1) → value ≡ Some (get_or previous (length previous - 1) 0)
    → link ≡ unwrap_or value 0 → IsSetTo edge.before link old new
    → new_edges ≡ take (length edges - 1) edges → new_previous ≡ take (length previous - 1) previous
    → EdgesLinked new new_edges new_previous
pool_popped old new edges new_edges edge previous new_previous link value linked some edge_is value_is link_is done
    made made_previous =
    let many : length previous - 1 ≡ length edges - 1 = ap (λ k. k - 1) linked.as_many in
    let set = subst (λ (e : Edge). IsSetTo e.before (get_or previous (length edges - 1) 0) old new) edge_is
    (subst (λ v. IsSetTo edge.before v old new)
    (link_is ∙ ap (λ v. unwrap_or v 0) value_is ∙ ap (λ k. get_or previous k 0) many) done) in
    let popped = pool_pop old new edges previous linked some set in
    subst (λ es. EdgesLinked new es new_previous) (sym made)
    (subst (λ ls. EdgesLinked new (take (length edges - 1) edges) ls)
    (sym (made_previous ∙ ap (λ k. take k previous) many)) popped)

same_some : (e f : Edge) → Some e ≡ Some f → e ≡ f
same_some e f same = cc

-- the edge that is removed is the last one
pub popped_last : (edges : List Edge) (count : ℕ) (read : Option Edge) (edge : Edge) → read ≡ Some edge
    → read ≡ Some (edge_at edges (count - 1)) → count ≡ length edges → edge ≡ edge_at edges (length edges - 1)
popped_last edges count read edge is last long =
    same_some edge (edge_at edges (length edges - 1)) (sym is ∙ last ∙ ap (λ n. Some (edge_at edges (n - 1))) long)

pub walking_within : (x : ℕ) (edges walked now : List Edge) (at : ℕ) → IsWalking x edges walked now at → 0 < at
    → at - 1 < length edges
walking_within x edges walked now at is some =
    let low = is.last.within in
    let high = is.within in
    omega (arith, low, high, some)

pub walking_falls : (old : ℕ → ℕ) (edges : List Edge) (previous : List ℕ) (x : ℕ) (walked now : List Edge)
    (at at_next : ℕ) → EdgesLinked old edges previous → IsWalking x edges walked now at → 0 < at
    → at_next ≡ get_or previous (at - 1) 0 → at_next < at
walking_falls old edges previous x walked now at at_next linked is some next =
    let low = (linked.links (at - 1) (walking_within x edges walked now at is some)).within in
    omega (arith, low, next, some)
