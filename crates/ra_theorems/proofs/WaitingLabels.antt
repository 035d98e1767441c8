-- Lemmas on the pending labels of an RGA that settle one after another.
use Rattle.std.proofs.Common.{◌≡◌, ℕ, Bool, true, false, List, [], ◌∷◌, ◌++◌, sym, ap, ◌∙◌, inl, inr, arith}
use Rattle.std.specs.Prelude.{◌↔◌, ◌⊎◌, ◌==◌, Contains}
use Rattle.std.proofs.lemmas.Bool.{false≢true, cases_Bool, or_cases, or_left, or_right, or_from, eqb-true, eq-eqb, false_from_ne_true}
use Rattle.std.proofs.lemmas.List.Elements.{Contains-append_left, Contains-append_right, Contains-append_cases}
use Rattle.ra_labels.specs.declared.kind.Kind.TheVariants.{Rga}
use Rattle.ra_labels.specs.declared.operation.Update.{Update}
use Rattle.ra_labels.specs.declared.operation.Update.TheVariants.{After}
use Rattle.ra_labels.specs.declared.label.Label.{Label}
use Rattle.ra_labels.specs.Records.{Records, labels_of}
use Rattle.ra_labels.specs.Insertion.{updates_passing, or_label, HasUpdate}
use Rattle.ra_labels.specs.Pending.{inserts_element, is_present_element, dependency_of, elements_inserted_by, IsSettled, IsSettling}
use Rattle.ra_labels.proofs.Members.{head_or_behind, at_head, behind_head}
use Rattle.ra_theorems.proofs.RgaSteps.{there-more, none-waits_more}
use Rattle.ra_theorems.proofs.SettledUpdates.{settled-exactly}

-- the element that an update inserts
puts_it : (x : ℕ) (u : Update) → Contains (elements_inserted_by u) x → inserts_element x u ≡ true
puts_it x (After anchor y) found = elim (head_or_behind y [] x found) [
  | inl is ↦ eq-eqb y x is
  | inr none ↦ absurd (omega (arith, none.1))
]
puts_it x _ found = absurd (omega (arith, found.1))

it_puts : (x : ℕ) (u : Update) → inserts_element x u ≡ true → Contains (elements_inserted_by u) x
it_puts x (After anchor y) puts = at_head y [] x (eqb-true y x puts)
it_puts x _ puts = absurd (false≢true puts)

pub puts-exactly : (x : ℕ) (u : Update) → Contains (elements_inserted_by u) x ↔ (inserts_element x u ≡ true)
puts-exactly x u = (puts_it x u, it_puts x u)

-- a label that does not pass with one more label did not pass before, and is another label
not_before : (passes : ℕ → Bool) (n m : ℕ) → or_label passes n m ≡ false → passes m ≡ false
not_before passes n m fails =
    false_from_ne_true (passes m) (λ it. false≢true (sym fails ∙ or_left (passes m) (m == n) it))

not_it : (passes : ℕ → Bool) (n m : ℕ) → or_label passes n m ≡ false → (m == n) ≡ false
not_it passes n m fails = false_from_ne_true (m == n) (λ is. false≢true (sym fails ∙ or_right (passes m) (m == n) is))

-- with one more label, a pending update is still pending, or depends on the element that this label inserts
waits_more : (records : Records) (passes : ℕ → Bool) (label : Label) (u : Update) (x : ℕ)
    → Contains (labels_of records) label → HasUpdate label.op u → passes label.number ≡ false
    → is_present_element x (updates_passing Rga records passes) ≡ false
    → (is_present_element x (updates_passing Rga records (or_label passes label.number)) ≡ false) ⊎ Contains (elements_inserted_by u) x
waits_more records passes label u x there makes new waits = elim (cases_Bool (inserts_element x u)) [
  | inl puts ↦ inr (it_puts x u puts)
  | inr other ↦
      inl (there-more Rga records passes label u x there makes new
      ∙ or_from (is_present_element x (updates_passing Rga records passes)) (inserts_element x u) waits other)
]

there_now : (records : Records) (passes : ℕ → Bool) (label : Label) (u : Update) (x : ℕ)
    → Contains (labels_of records) label → HasUpdate label.op u → passes label.number ≡ false
    → Contains (elements_inserted_by u) x → is_present_element x (updates_passing Rga records (or_label passes label.number)) ≡ true
there_now records passes label u x there makes new found =
    there-more Rga records passes label u x there makes new
    ∙ or_right (is_present_element x (updates_passing Rga records passes)) (inserts_element x u) (puts_it x u found)

pub settling-starts : (records : Records) (had settled : ℕ → Bool) (label : Label) (u : Update)
    → Contains (labels_of records) label → HasUpdate label.op u → had label.number ≡ false → IsSettled records had settled
    → is_present_element (dependency_of u) (updates_passing Rga records settled) ≡ true
    → IsSettling records (or_label had label.number) (or_label settled label.number) (elements_inserted_by u)
settling-starts records had settled label u there makes new is_settled needs =
    let (had_them, none, others) = (settled-exactly records had settled).0 is_settled in
    let not_yet : settled label.number ≡ false =
    false_from_ne_true (settled label.number) (λ it. false≢true (sym new ∙ had_them label.number it)) in
    record {
      had_them = λ n it. elim (or_cases (settled n) (n == label.number) it) [
        | inl old ↦ or_left (had n) (n == label.number) (had_them n old)
        | inr is ↦ or_right (had n) (n == label.number) is
      ];
      none_waits = none-waits_more records settled label u there makes not_yet none needs;
      there = λ x found. there_now records settled label u x there makes not_yet found;
      others = λ l v l_there l_makes had_it fails. elim (or_cases (had l.number) (l.number == label.number) had_it) [
        | inl old ↦ waits_more records settled label u (dependency_of v) there makes not_yet
            (others l v l_there l_makes old (not_before settled label.number l.number fails))
        | inr is ↦ absurd (false≢true (sym (not_it settled label.number l.number fails) ∙ is))
      ];
    }

pub settling-follows : (records : Records) (had passes : ℕ → Bool) (arrived : List ℕ) (label : Label) (u : Update)
    → IsSettling records had passes arrived → Contains (labels_of records) label → HasUpdate label.op u
    → had label.number ≡ true → passes label.number ≡ false → Contains arrived (dependency_of u)
    → IsSettling records had (or_label passes label.number) (arrived ++ elements_inserted_by u)
settling-follows records had passes arrived label u settling there makes was_had new needs = record {
  had_them = λ n it. elim (or_cases (passes n) (n == label.number) it) [
    | inl old ↦ settling.had_them n old
    | inr is ↦ ap had (eqb-true n label.number is) ∙ was_had
  ];
  none_waits = none-waits_more records passes label u there makes new settling.none_waits
      (settling.there (dependency_of u) needs);
  there = λ x found. elim (Contains-append_cases arrived (elements_inserted_by u) x found) [
    | inl old ↦
        there-more Rga records passes label u x there makes new
        ∙ or_left (is_present_element x (updates_passing Rga records passes)) (inserts_element x u) (settling.there x old)
    | inr now ↦ there_now records passes label u x there makes new now
  ];
  others = λ l v l_there l_makes had_it fails. elim
      (settling.others l v l_there l_makes had_it (not_before passes label.number l.number fails)) [
        | inl waits ↦ elim (waits_more records passes label u (dependency_of v) there makes new waits) [
          | inl still ↦ inl still
          | inr now ↦ inr (Contains-append_right arrived (elements_inserted_by u) (dependency_of v) now)
        ]
        | inr old ↦ inr (Contains-append_left arrived (elements_inserted_by u) (dependency_of v) old)
      ];
}

-- an element on which no pending update depends any more is finished
without : (first later : List ℕ) (x y : ℕ) → Contains (first ++ x ∷ later) y → (x ≡ y) ⊎ Contains (first ++ later) y
without first later x y found = elim (Contains-append_cases first (x ∷ later) y found) [
  | inl early ↦ inr (Contains-append_left first later y early)
  | inr rest ↦ elim (head_or_behind x later y rest) [
    | inl is ↦ inl is
    | inr late ↦ inr (Contains-append_right first later y late)
  ]
]

with_it : (first later : List ℕ) (x y : ℕ) → Contains (first ++ later) y → Contains (first ++ x ∷ later) y
with_it first later x y found = elim (Contains-append_cases first later y found) [
  | inl early ↦ Contains-append_left first (x ∷ later) y early
  | inr late ↦ Contains-append_right first (x ∷ later) y (behind_head x later y late)
]

pub settling-done : (records : Records) (had passes : ℕ → Bool) (first later : List ℕ) (x : ℕ)
    → IsSettling records had passes (first ++ x ∷ later)
    → ((label : Label) (u : Update) → Contains (labels_of records) label → HasUpdate label.op u → had label.number ≡ true
    → passes label.number ≡ false → ¬ (dependency_of u ≡ x)) → IsSettling records had passes (first ++ later)
settling-done records had passes first later x settling none = record {
  had_them = settling.had_them;
  none_waits = settling.none_waits;
  there = λ y found. settling.there y (with_it first later x y found);
  others = λ l v l_there l_makes had_it fails. elim (settling.others l v l_there l_makes had_it fails) [
    | inl waits ↦ inl waits
    | inr arrived ↦ elim (without first later x (dependency_of v) arrived) [
      | inl is ↦ absurd (none l v l_there l_makes had_it fails (sym is))
      | inr other ↦ inr other
    ]
  ];
}

pub settling-ends : (records : Records) (had passes : ℕ → Bool) → IsSettling records had passes []
    → IsSettled records had passes
settling-ends records had passes settling = (settled-exactly records had passes).1 (
  settling.had_them,
  settling.none_waits,
  (λ l v l_there l_makes had_it fails. elim (settling.others l v l_there l_makes had_it fails) [
    | inl waits ↦ waits
    | inr none ↦ absurd (omega (arith, none.1))
  ]),
)
