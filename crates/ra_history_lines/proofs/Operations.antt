-- Lemmas on reading fields as an operation, which succeeds exactly if they are that operation's fields.
use Rattle.std.proofs.Common.{◌≡◌, ℕ, ◌⊎◌, inl, inr, Bool, true, false, not, cond, eqb, List, [], ◌∷◌, ◌++◌, Option, Some, None, refl, sym, ap, subst, ◌∙◌}
use Rattle.std.specs.Prelude.{bytes_eq, codes, decimal, IfSome, option_map, option_and_then, ◌||◌}
use Rattle.std.specs.Fmt.{signed_decimal}
use Rattle.std.proofs.lemmas.Bool.{eqb-true, cases_Bool}
use Rattle.std.proofs.lemmas.Option.{option_and_then_some}
use Rattle.std.proofs.lemmas.Slice.Eq.{bytes_eq-Decides}
use Rattle.ra_labels.specs.declared.kind.Kind.{Kind}
use Rattle.ra_labels.specs.declared.kind.Kind.TheVariants.{Counter, Register, LwwSet, OrSet, Rga}
use Rattle.ra_labels.specs.declared.kind.Kind.TheVariants as kinds
use Rattle.ra_labels.specs.declared.operation.Op.{Op}
use Rattle.ra_labels.specs.declared.operation.Op.TheVariants.{Inc, Dec, Count, Write, Last, LwwAdd, LwwRemove, LwwRead}
use Rattle.ra_labels.specs.declared.operation.Op.TheVariants.{OrAdd, OrRemove, OrRead, After, RgaRemove, RgaRead}
use Rattle.ra_labels.specs.declared.operation.Op.TheVariants as op
use Rattle.ra_labels.specs.declared.list_operation.ListOp.{ListOp}
use Rattle.ra_labels.specs.declared.list_operation.ListOp.TheVariants as list_op
use Rattle.ra_history_lines.specs.Grammar.{IsSmall, list_word, value_word, marked, has_words, operation_fields, HasSmallNumbers, HasSmallElements}
use Rattle.ra_history_lines.specs.Reading.{number_read, signed_read, list_read, value_read, number_first, mark_first}
use Rattle.ra_history_lines.specs.Reading.{behind_first, query_read, read_first, write_of, write_first, addition_read, add_first}
use Rattle.ra_history_lines.specs.Reading.{plain_removal, removal_read, remove_first, after_first, insertion_of, insert_first, part_first, own_word_first, update_first, word_first}
use Rattle.ra_labels.specs.Answer.{is_kind}
use Rattle.ra_labels.proofs.SameKind.{same_kind}
use Rattle.ra_history_lines.proofs.Numbers.{not_number, number_read-Some, number_read-decimal, signed_read-Some, signed_read-decimal}
use Rattle.ra_history_lines.proofs.Lists.{mapped, list_read-Some, list_read-word}

pub same_bytes : (word text : List ℕ) → bytes_eq word text ≡ true → word ≡ text
same_bytes word text e = (bytes_eq-Decides word text).0 e

-- a conditional, by its test
pub chosen : {X : Type 0} (b : Bool) (x y z : X) → cond b x y ≡ z → ((b ≡ true) × (x ≡ z)) ⊎ ((b ≡ false) × (y ≡ z))
chosen true x y z e = inl (refl, e)
chosen false x y z e = inr (refl, e)

-- ---- fields that are read spell the operation

-- these fields are the operation's, followed by the rest
pub record AreOf (kind : Kind) (fields : List (List ℕ)) (read : Op × List (List ℕ)) : Type 0 where
  pub own : has_words read.0 kind ≡ true
  pub small : HasSmallNumbers read.0
  pub words : fields ≡ operation_fields read.0 ++ read.1

number_first-Some : (fields : List (List ℕ)) (r : ℕ × List (List ℕ)) → number_first fields ≡ Some r
    → (fields ≡ decimal r.0 ∷ r.1) × IsSmall r.0
number_first-Some [] r e = absurd cc
number_first-Some (field ∷ fields) r e =
    let m = mapped (λ n. (n, fields)) (number_read field) r e in
    let says = number_read-Some field m.0 m.1 in
    subst (λ (p : ℕ × List (List ℕ)). (field ∷ fields ≡ decimal p.0 ∷ p.1) × IsSmall p.0) m.2
    (ap (λ (f : List ℕ). f ∷ fields) says.0, says.1)

mark_first-Some : (fields : List (List ℕ)) (word : List ℕ) → mark_first fields ≡ Some word
    → fields ≡ marked word ∷ behind_first fields
mark_first-Some [] word e = absurd cc
mark_first-Some ([] ∷ fields) word e = absurd cc
mark_first-Some ((mark ∷ rest) ∷ fields) word e =
    elim (chosen (eqb mark 35) (Some rest) None (Some word) e) [
      | inl is_so ↦
          let is : mark ≡ 35 = eqb-true mark 35 is_so.0 in
          let same : rest ≡ word = let some = is_so.1 in cc in
          ap (λ (m : ℕ). (m ∷ rest) ∷ fields) is ∙ ap (λ (w : List ℕ). marked w ∷ fields) same
      | inr none ↦ absurd (let never = none.1 in cc)
    ]

value_found : (field : List ℕ) (value : Option ℕ) → value_read field ≡ Some value
    → (field ≡ value_word value) × IfSome value IsSmall
value_found field value e =
    elim (chosen (bytes_eq field (codes "none")) _ _ _ e) [
      | inl is_so ↦
          let same : None ≡ value = let some = is_so.1 in cc in
          subst (λ (v : Option ℕ). (field ≡ value_word v) × IfSome v IsSmall) same
          (same_bytes field (codes "none") is_so.0, tt)
      | inr other ↦
          let m = mapped (λ n. Some n) (number_read field) value other.1 in
          subst (λ (v : Option ℕ). (field ≡ value_word v) × IfSome v IsSmall) m.2 (number_read-Some field m.0 m.1)
    ]

-- a read with this field
abbrev IsReadOf : Kind → List ℕ → Op → Type 0
IsReadOf kind field op = (has_words op kind ≡ true) × HasSmallNumbers op
    × (operation_fields op ≡ codes "read" ∷ field ∷ [])

query_found : (kind : Kind) (field : List ℕ) (op : Op) → query_read kind field ≡ Some op → IsReadOf kind field op
query_found Counter field op e =
    let m = mapped (λ value. Count value) (signed_read field) op e in
    let says = signed_read-Some field m.0 m.1 in
    subst (IsReadOf Counter field) m.2 (refl, says.1, ap (λ (f : List ℕ). codes "read" ∷ f ∷ []) (sym says.0))
query_found Register field op e =
    let m = mapped (λ value. Last value) (value_read field) op e in
    let says = value_found field m.0 m.1 in
    subst (IsReadOf Register field) m.2 (refl, says.1, ap (λ (f : List ℕ). codes "read" ∷ f ∷ []) (sym says.0))
query_found LwwSet field op e =
    let m = mapped (λ list. LwwRead list) (list_read field) op e in
    let says = list_read-Some field m.0 m.1 in
    subst (IsReadOf LwwSet field) m.2 (refl, says.1, ap (λ (f : List ℕ). codes "read" ∷ f ∷ []) (sym says.0))
query_found OrSet field op e =
    let m = mapped (λ list. OrRead list) (list_read field) op e in
    let says = list_read-Some field m.0 m.1 in
    subst (IsReadOf OrSet field) m.2 (refl, says.1, ap (λ (f : List ℕ). codes "read" ∷ f ∷ []) (sym says.0))
query_found Rga field op e =
    let m = mapped (λ list. RgaRead list) (list_read field) op e in
    let says = list_read-Some field m.0 m.1 in
    subst (IsReadOf Rga field) m.2 (refl, says.1, ap (λ (f : List ℕ). codes "read" ∷ f ∷ []) (sym says.0))
query_found kinds.List field found e =
    let m = mapped (λ list. op.List (list_op.Read list)) (list_read field) found e in
    let says = list_read-Some field m.0 m.1 in
    subst (IsReadOf kinds.List field) m.2 (refl, says.1, ap (λ (f : List ℕ). codes "read" ∷ f ∷ []) (sym says.0))
query_found kinds.Any field found e =
    let m = mapped (λ value. op.AnyRead value) (number_read field) found e in
    let says = number_read-Some field m.0 m.1 in
    subst (IsReadOf kinds.Any field) m.2 (refl, says.1, ap (λ (f : List ℕ). codes "read" ∷ f ∷ []) (sym says.0))
query_found kinds.MvRegister field found e =
    let m = mapped (λ list. op.MvRead list) (list_read field) found e in
    let says = list_read-Some field m.0 m.1 in
    subst (IsReadOf kinds.MvRegister field) m.2
    (refl, says.1, ap (λ (f : List ℕ). codes "read" ∷ f ∷ []) (sym says.0))

read_found : (kind : Kind) (fields : List (List ℕ)) (r : Op × List (List ℕ)) → read_first kind fields ≡ Some r
    → AreOf kind (codes "read" ∷ fields) r
read_found kind [] r e = absurd cc
read_found kind (field ∷ fields) r e =
    let m = mapped (λ op. (op, fields)) (query_read kind field) r e in
    let says = query_found kind field m.0 m.1 in
    subst (AreOf kind (codes "read" ∷ field ∷ fields)) m.2
    (record { own = says.0; small = says.1; words = ap (λ (fs : List (List ℕ)). fs ++ fields) (sym says.2) })

-- a write is that of the kind
written_of : (kind : Kind) (value : ℕ) (rest : List (List ℕ)) → IsSmall value
    → AreOf kind (codes "write" ∷ decimal value ∷ rest) (write_of kind value, rest)
written_of kinds.MvRegister value rest small = record { own = refl; small = small; words = refl }
written_of _ value rest small = record { own = refl; small = small; words = refl }

write_found : (kind : Kind) (fields : List (List ℕ)) (r : Op × List (List ℕ)) → write_first kind fields ≡ Some r
    → AreOf kind (codes "write" ∷ fields) r
write_found kind fields r e =
    let m = mapped (λ n. (write_of kind n.0, n.1)) (number_first fields) r e in
    let says = number_first-Some fields m.0 m.1 in
    subst (AreOf kind (codes "write" ∷ fields)) m.2
    (subst (λ (fs : List (List ℕ)). AreOf kind (codes "write" ∷ fs) (write_of kind m.0.0, m.0.1)) (sym says.0)
    (written_of kind m.0.0 m.0.1 says.1))

addition_found : (kind : Kind) (x : ℕ) (fields : List (List ℕ)) (word : Option (List ℕ)) (r : Op × List (List ℕ))
    → IsSmall x → mark_first fields ≡ word
    → addition_read x fields word ≡ Some r → AreOf kind (codes "add" ∷ decimal x ∷ fields) r
addition_found kind x fields None r small mark e =
    let is : (LwwAdd x, fields) ≡ r = cc in
    subst (AreOf kind (codes "add" ∷ decimal x ∷ fields)) is (record { own = refl; small = small; words = refl })
addition_found kind x fields (Some word) r small mark e =
    let m = mapped (λ id. (OrAdd x id, behind_first fields)) (number_read word) r e in
    let says = number_read-Some word m.0 m.1 in
    let parts = mark_first-Some fields word mark ∙ ap (λ (w : List ℕ). marked w ∷ behind_first fields) says.0 in
    subst (AreOf kind (codes "add" ∷ decimal x ∷ fields)) m.2
    (record {
      own = refl;
      small = (small, says.1);
      words =
          ap (λ (fs : List (List ℕ)). codes "add" ∷ decimal x ∷ fs) parts;
    })

add_found : (kind : Kind) (fields : List (List ℕ)) (r : Op × List (List ℕ)) → add_first fields ≡ Some r
    → AreOf kind (codes "add" ∷ fields) r
add_found kind fields r e =
    option_and_then_some (λ n. addition_read n.0 n.1 (mark_first n.1)) (number_first fields) r e
    (λ n read next.
    let says = number_first-Some fields n read in
    let found = addition_found kind n.0 n.1 (mark_first n.1) r says.1 refl next in
    subst (λ (fs : List (List ℕ)). AreOf kind (codes "add" ∷ fs) r) (sym says.0) found)

plain_found : (kind : Kind) (x : ℕ) (fields : List (List ℕ)) → IsSmall x
    → AreOf kind (codes "remove" ∷ decimal x ∷ fields) (plain_removal kind x, fields)
plain_found Counter x fields small = record { own = refl; small = small; words = refl }
plain_found _ x fields small = record { own = refl; small = small; words = refl }

removal_found : (kind : Kind) (x : ℕ) (fields : List (List ℕ)) (word : Option (List ℕ)) (r : Op × List (List ℕ))
    → IsSmall x → mark_first fields ≡ word
    → removal_read kind x fields word ≡ Some r → AreOf kind (codes "remove" ∷ decimal x ∷ fields) r
removal_found kind x fields None r small mark e =
    let is : (plain_removal kind x, fields) ≡ r = cc in
    subst (AreOf kind (codes "remove" ∷ decimal x ∷ fields)) is (plain_found kind x fields small)
removal_found kind x fields (Some word) r small mark e =
    let m = mapped (λ ids. (OrRemove x ids, behind_first fields)) (list_read word) r e in
    let says = list_read-Some word m.0 m.1 in
    let parts = mark_first-Some fields word mark ∙ ap (λ (w : List ℕ). marked w ∷ behind_first fields) says.0 in
    subst (AreOf kind (codes "remove" ∷ decimal x ∷ fields)) m.2
    (record {
      own = refl;
      small = (small, says.1);
      words =
          ap (λ (fs : List (List ℕ)). codes "remove" ∷ decimal x ∷ fs) parts;
    })

remove_found : (kind : Kind) (fields : List (List ℕ)) (r : Op × List (List ℕ)) → remove_first kind fields ≡ Some r
    → AreOf kind (codes "remove" ∷ fields) r
remove_found kind fields r e =
    option_and_then_some (λ n. removal_read kind n.0 n.1 (mark_first n.1)) (number_first fields) r e
    (λ n read next.
    let says = number_first-Some fields n read in
    let found = removal_found kind n.0 n.1 (mark_first n.1) r says.1 refl next in
    subst (λ (fs : List (List ℕ)). AreOf kind (codes "remove" ∷ fs) r) (sym says.0) found)

after_found : (kind : Kind) (fields : List (List ℕ)) (r : Op × List (List ℕ)) → after_first fields ≡ Some r
    → AreOf kind (codes "after" ∷ fields) r
after_found kind fields r e =
    option_and_then_some (λ n. option_map (λ m. (After n.0 m.0, m.1)) (number_first n.1)) (number_first fields) r e
    (λ n read next.
    let first = number_first-Some fields n read in
    let m = mapped (λ p. (After n.0 p.0, p.1)) (number_first n.1) r next in
    let second = number_first-Some n.1 m.0 m.1 in
    let parts = first.0 ∙ ap (λ (fs : List (List ℕ)). decimal n.0 ∷ fs) second.0 in
    subst (AreOf kind (codes "after" ∷ fields)) m.2
    (record { own = refl; small = (first.1, second.1); words = ap (λ (fs : List (List ℕ)). codes "after" ∷ fs) parts }))

insert_found : (fields : List (List ℕ)) (r : Op × List (List ℕ)) → insert_first fields ≡ Some r
    → AreOf kinds.List (codes "insert" ∷ fields) r
insert_found fields r e =
    option_and_then_some (λ l. option_and_then (λ x. option_map (λ p. (insertion_of l.0 x.0 p.0, p.1))
    (number_first x.1)) (number_first l.1)) (number_first fields) r e
    (λ l read_left next.
    let left = number_first-Some fields l read_left in
    option_and_then_some (λ x. option_map (λ p. (insertion_of l.0 x.0 p.0, p.1)) (number_first x.1)) (number_first l.1)
    r next
    (λ x read_element last.
    let element = number_first-Some l.1 x read_element in
    let m = mapped (λ p. (insertion_of l.0 x.0 p.0, p.1)) (number_first x.1) r last in
    let right = number_first-Some x.1 m.0 m.1 in
    let parts = left.0 ∙ ap (λ (fs : List (List ℕ)). decimal l.0 ∷ fs) element.0
    ∙ ap (λ (fs : List (List ℕ)). decimal l.0 ∷ decimal x.0 ∷ fs) right.0 in
    subst (AreOf kinds.List (codes "insert" ∷ fields)) m.2
    (record {
      own = refl;
      small = (left.1, element.1, right.1);
      words =
          ap (λ (fs : List (List ℕ)). codes "insert" ∷ fs) parts;
    })))

part_found : (fields : List (List ℕ)) (r : Op × List (List ℕ)) → part_first fields ≡ Some r
    → AreOf kinds.List (codes "part" ∷ fields) r
part_found [] r e = absurd cc
part_found (field ∷ fields) r e =
    let m = mapped (λ list. (op.List (list_op.Part list), fields)) (list_read field) r e in
    let says = list_read-Some field m.0 m.1 in
    subst (AreOf kinds.List (codes "part" ∷ field ∷ fields)) m.2
    (record { own = refl; small = says.1; words = ap (λ (f : List ℕ). codes "part" ∷ f ∷ fields) says.0 })

-- a word that is equal to another is read as it
at_word : (kind : Kind) (word text : List ℕ) (fields : List (List ℕ)) (r : Op × List (List ℕ))
    → bytes_eq word text ≡ true → AreOf kind (text ∷ fields) r → AreOf kind (word ∷ fields) r
at_word kind word text fields r is found =
    subst (λ (w : List ℕ). AreOf kind (w ∷ fields) r) (sym (same_bytes word text is)) found

bare_found : (kind : Kind) (text : List ℕ) (fields : List (List ℕ)) (op : Op) (r : Op × List (List ℕ))
    → has_words op kind ≡ true → HasSmallNumbers op
    → operation_fields op ≡ text ∷ [] → Some (op, fields) ≡ Some r → AreOf kind (text ∷ fields) r
bare_found kind text fields op r own small words e =
    let is : (op, fields) ≡ r = cc in
    subst (AreOf kind (text ∷ fields)) is
    (record { own = own; small = small; words = ap (λ (fs : List (List ℕ)). fs ++ fields) (sym words) })

own_word_found : (word : List ℕ) (fields : List (List ℕ)) (r : Op × List (List ℕ))
    → own_word_first word fields ≡ Some r → AreOf kinds.List (word ∷ fields) r
own_word_found word fields r e =
    let at = at_word kinds.List word in
    elim (chosen (bytes_eq word (codes "insert")) _ _ _ e) [
      | inl here ↦ at (codes "insert") fields r here.0 (insert_found fields r here.1)
      | inr e2 ↦ elim (chosen (bytes_eq word (codes "part")) _ _ _ e2.1) [
        | inl here ↦ at (codes "part") fields r here.0 (part_found fields r here.1)
        | inr none ↦ absurd (let never = none.1 in cc)
      ]
    ]

-- a word that only a list has
listed_found : (kind : Kind) (word : List ℕ) (fields : List (List ℕ)) (r : Op × List (List ℕ))
    → is_kind kind kinds.List ≡ true → own_word_first word fields ≡ Some r → AreOf kind (word ∷ fields) r
listed_found kind word fields r is e =
    subst (λ (k : Kind). AreOf k (word ∷ fields) r) (same_kind kind kinds.List is) (own_word_found word fields r e)

-- a word that only an object of any type has
update_found : (kind : Kind) (word : List ℕ) (fields : List (List ℕ)) (r : Op × List (List ℕ))
    → is_kind kind kinds.Any ≡ true → update_first word fields ≡ Some r → AreOf kind (word ∷ fields) r
update_found kind word fields r is e =
    elim (chosen (bytes_eq word (codes "update")) _ _ _ e) [
      | inl here ↦ at_word kind word (codes "update") fields r here.0
          (bare_found kind (codes "update") fields op.AnyUpdate r is tt refl here.1)
      | inr none ↦ absurd (let never = none.1 in cc)
    ]

pub word_found : (kind : Kind) (word : List ℕ) (fields : List (List ℕ)) (r : Op × List (List ℕ))
    → word_first kind word fields ≡ Some r → AreOf kind (word ∷ fields) r
word_found kind word fields r e =
    let at = λ (text : List ℕ) (is : bytes_eq word text ≡ true)
    (found : AreOf kind (text ∷ fields) r). at_word kind word text fields r is found in
    elim (chosen (bytes_eq word (codes "inc")) _ _ _ e) [
      | inl here ↦ at (codes "inc") here.0 (bare_found kind (codes "inc") fields Inc r refl tt refl here.1)
      | inr e2 ↦ elim (chosen (bytes_eq word (codes "dec")) _ _ _ e2.1) [
        | inl here ↦ at (codes "dec") here.0 (bare_found kind (codes "dec") fields Dec r refl tt refl here.1)
        | inr e3 ↦ elim (chosen (bytes_eq word (codes "read")) _ _ _ e3.1) [
          | inl here ↦ at (codes "read") here.0 (read_found kind fields r here.1)
          | inr e4 ↦ elim (chosen (bytes_eq word (codes "write")) _ _ _ e4.1) [
            | inl here ↦ at (codes "write") here.0 (write_found kind fields r here.1)
            | inr e5 ↦ elim (chosen (bytes_eq word (codes "add")) _ _ _ e5.1) [
              | inl here ↦ at (codes "add") here.0 (add_found kind fields r here.1)
              | inr e6 ↦ elim (chosen (bytes_eq word (codes "remove")) _ _ _ e6.1) [
                | inl here ↦ at (codes "remove") here.0 (remove_found kind fields r here.1)
                | inr e7 ↦ elim (chosen (bytes_eq word (codes "after")) _ _ _ e7.1) [
                  | inl here ↦ at (codes "after") here.0 (after_found kind fields r here.1)
                  | inr e8 ↦ elim (chosen (is_kind kind kinds.List) _ _ _ e8.1) [
                    | inl here ↦ listed_found kind word fields r here.0 here.1
                    | inr e9 ↦ elim (chosen (is_kind kind kinds.Any) _ _ _ e9.1) [
                      | inl here ↦ update_found kind word fields r here.0 here.1
                      | inr none ↦ absurd (let never = none.1 in cc)
                    ]
                  ]
                ]
              ]
            ]
          ]
        ]
      ]
    ]

-- ---- fields that spell an operation are read as it

-- the first field of an operation, and the others
abbrev pub first_field : List (List ℕ) → List ℕ
first_field [] = []
first_field (word ∷ fields) = word

abbrev pub word_of : Op → List ℕ
word_of op = first_field (operation_fields op)

abbrev pub behind_word : Op → List (List ℕ)
behind_word op = behind_first (operation_fields op)

-- the first field of an operation is not the keyword of a delivery
pub word_is : (op : Op) → (operation_fields op ≡ word_of op ∷ behind_word op)
    × (bytes_eq (word_of op) (codes "got") ≡ false)
word_is Inc = (refl, refl)
word_is (op.List (list_op.Insert insertion)) = (refl, refl)
word_is (op.List _) = (refl, refl)
word_is _ = (refl, refl)

value_only : (value : Option ℕ) → IfSome value IsSmall → value_read (value_word value) ≡ Some value
value_only None small = refl
value_only (Some n) small =
    elim (cases_Bool (bytes_eq (decimal n) (codes "none"))) [
      | inl is_so ↦
          let same : decimal n ≡ codes "none" = same_bytes (decimal n) (codes "none") is_so in
          let some : Some n ≡ number_read (codes "none") = sym (number_read-decimal n small) ∙ ap number_read same in
          let none : number_read (codes "none") ≡ None = not_number (codes "none") refl in
          absurd cc
      | inr is_not ↦ rw (is_not, number_read-decimal n small) refl
    ]

-- the fields of an operation are read as it, if those behind them do not begin with a number sign
abbrev pub ReadsAs : Kind → Op → Type 0
ReadsAs kind op = (rest : List (List ℕ)) → mark_first rest ≡ None
    → word_first kind (word_of op) (behind_word op ++ rest) ≡ Some (op, rest)

plain_only : (kind : Kind) (x : ℕ) → not (is_kind kind Rga || is_kind kind kinds.List) ≡ true
    → plain_removal kind x ≡ LwwRemove x
plain_only Rga x own = absurd cc
plain_only kinds.List x own = absurd cc
plain_only _ x own = refl

own_word_only : (operation : ListOp) → HasSmallElements operation → ReadsAs kinds.List (op.List operation)
own_word_only (list_op.Insert insertion) small rest unmarked =
    rw (
      number_read-decimal insertion.left small.0,
      number_read-decimal insertion.element small.1,
      number_read-decimal insertion.right small.2,
    ) refl
own_word_only (list_op.Remove x) small rest unmarked = rw (number_read-decimal x small, unmarked) refl
own_word_only (list_op.Read list) small rest unmarked = rw (list_read-word list small) refl
own_word_only (list_op.Part list) small rest unmarked = rw (list_read-word list small) refl

from_not_false : (b : Bool) → not b ≡ true → b ≡ false
from_not_false true is = sym is
from_not_false false is = refl

pub word_only : (kind : Kind) (op : Op) → has_words op kind ≡ true → HasSmallNumbers op → ReadsAs kind op
word_only kind Inc own small rest unmarked = refl
word_only kind Dec own small rest unmarked = refl
word_only kind (Count value) own small rest unmarked =
    subst (λ (k : Kind). word_first k (codes "read") (signed_decimal value ∷ rest) ≡ Some (Count value, rest))
    (same_kind kind Counter own)
    (rw (signed_read-decimal value small) refl)
word_only kind (Write value) own small rest unmarked =
    rw (number_read-decimal value small, from_not_false (is_kind kind kinds.MvRegister) own) refl
word_only kind (Last value) own small rest unmarked =
    subst (λ (k : Kind). word_first k (codes "read") (value_word value ∷ rest) ≡ Some (Last value, rest))
    (same_kind kind Register own)
    (rw (value_only value small) refl)
word_only kind (LwwAdd x) own small rest unmarked = rw (number_read-decimal x small, unmarked) refl
word_only kind (LwwRemove x) own small rest unmarked =
    rw (number_read-decimal x small, unmarked, plain_only kind x own) refl
word_only kind (LwwRead list) own small rest unmarked =
    subst (λ (k : Kind). word_first k (codes "read") (list_word list ∷ rest) ≡ Some (LwwRead list, rest))
    (same_kind kind LwwSet own)
    (rw (list_read-word list small) refl)
word_only kind (OrAdd x id) own small rest unmarked =
    rw (number_read-decimal x small.0, number_read-decimal id small.1) refl
word_only kind (OrRemove x ids) own small rest unmarked =
    rw (number_read-decimal x small.0, list_read-word ids small.1) refl
word_only kind (OrRead list) own small rest unmarked =
    subst (λ (k : Kind). word_first k (codes "read") (list_word list ∷ rest) ≡ Some (OrRead list, rest))
    (same_kind kind OrSet own)
    (rw (list_read-word list small) refl)
word_only kind (After anchor x) own small rest unmarked =
    rw (number_read-decimal anchor small.0, number_read-decimal x small.1) refl
word_only kind (RgaRemove x) own small rest unmarked =
    subst (λ (k : Kind). word_first k (codes "remove") (decimal x ∷ rest) ≡ Some (RgaRemove x, rest))
    (same_kind kind Rga own)
    (rw (number_read-decimal x small, unmarked) refl)
word_only kind (RgaRead list) own small rest unmarked =
    subst (λ (k : Kind). word_first k (codes "read") (list_word list ∷ rest) ≡ Some (RgaRead list, rest))
    (same_kind kind Rga own)
    (rw (list_read-word list small) refl)
word_only kind (op.List operation) own small rest unmarked =
    subst (λ (k : Kind). word_first k (word_of (op.List operation)) (behind_word (op.List operation) ++ rest)
    ≡ Some (op.List operation, rest)) (same_kind kind kinds.List own) (own_word_only operation small rest unmarked)
word_only kind op.AnyUpdate own small rest unmarked =
    subst (λ (k : Kind). word_first k (codes "update") rest ≡ Some (op.AnyUpdate, rest)) (same_kind kind kinds.Any own) refl
word_only kind (op.AnyRead value) own small rest unmarked =
    subst (λ (k : Kind). word_first k (codes "read") (decimal value ∷ rest) ≡ Some (op.AnyRead value, rest))
    (same_kind kind kinds.Any own)
    (rw (number_read-decimal value small) refl)
word_only kind (op.MvWrite value) own small rest unmarked =
    subst (λ (k : Kind). word_first k (codes "write") (decimal value ∷ rest) ≡ Some (op.MvWrite value, rest))
    (same_kind kind kinds.MvRegister own)
    (rw (number_read-decimal value small) refl)
word_only kind (op.MvRead values) own small rest unmarked =
    subst (λ (k : Kind). word_first k (codes "read") (list_word values ∷ rest) ≡ Some (op.MvRead values, rest))
    (same_kind kind kinds.MvRegister own)
    (rw (list_read-word values small) refl)
