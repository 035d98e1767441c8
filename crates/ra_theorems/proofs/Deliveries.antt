-- Lemmas on deliveries: one delivery is one step of the receiver's state.
use Rattle.std.proofs.Common.{◌≡◌, ℕ, ◌<◌, true, false, List, [], ◌∷◌, ◌++◌, filter, Option, Some, None, refl, sym, ap, ◌∙◌, subst, inl, inr, arith}
use Rattle.std.specs.Prelude.{◌↔◌, ◌⊎◌, ◌==◌, ◌&&◌, not, Contains, IsPermutation, IsSorted, flat_map}
use Rattle.std.specs.List.{cons_option, IsDistinct}
use Rattle.std.specs.Ordering.{is_lt}
use Rattle.std.proofs.lemmas.Bool.{false≢true, true≢false, false_from_ne_true, and_parts, and_from, eq-eqb, eqb-true, cases_order, not_from_false}
use Rattle.std.proofs.lemmas.Option.{none-some, same_Some}
use Rattle.std.proofs.lemmas.List.Elements.{Contains-append_right}
use Rattle.std.proofs.lemmas.List.Sorted.{Contains-permutation, IsPermutation-sym}
use Rattle.ra_labels.specs.declared.kind.Kind.{Kind}
use Rattle.ra_labels.specs.declared.kind.Kind.TheVariants.{Counter, Register, LwwSet, OrSet}
use Rattle.ra_labels.specs.declared.operation.Op.{Op}
use Rattle.ra_labels.specs.declared.operation.Op.TheVariants as op
use Rattle.ra_labels.specs.declared.list_operation.ListOp.TheVariants as list
use Rattle.ra_labels.specs.declared.operation.Update.{Update}
use Rattle.ra_labels.specs.declared.operation.Update.TheVariants.{Inc, Dec, Write, LwwAdd, LwwRemove, OrAdd, TakeOut, After, RgaRemove}
use Rattle.ra_labels.specs.declared.operation.Update.TheVariants as updates
use Rattle.ra_labels.specs.declared.list_operation.ListUpdate.TheVariants as change
use Rattle.ra_labels.specs.declared.operation.Query.{Query}
use Rattle.ra_labels.specs.declared.operation.Query.TheVariants.{ReadIds}
use Rattle.ra_labels.specs.declared.label.Label.{Label}
use Rattle.ra_labels.specs.declared.command.Command.TheVariants.{Deliver}
use Rattle.ra_labels.specs.Records.{Records, labels_of}
use Rattle.ra_labels.specs.Visibility.{has_delivered, sees, IsCausal}
use Rattle.ra_labels.specs.Rewriting.{Part, Half, QueryHalf, UpdateHalf, Act, Does, Asks, acts_of, part_of, parts_of, update_of, updates_of}
use Rattle.ra_labels.specs.Lists.{is_among}
use Rattle.ra_labels.specs.Specification.{State, Pairs, answers, state_after, is_admitted}
use Rattle.ra_labels.specs.Linearization.{parts_in, visible_updates, queries_admitted}
use Rattle.ra_labels.specs.NamedOrder.{label_cmp, named_labels, named_sequence}
use Rattle.ra_labels.specs.Fault.{Holds}
use Rattle.ra_labels.specs.TheoremTerms.{kind_of_state, acts_on, IsPresentPair, IdentifiersAreUnique}
use Rattle.ra_labels.specs.Insertion.{delivered_updates_of, delivered_updates, HasUpdate}
use Rattle.ra_labels.specs.Commuting.{then_step, clash, AddsRemovedPair, NoneClashes, last_written, last_on}
use Rattle.ra_theorems.proofs.SeenLabels.{had_closed, sees_earlier}
use Rattle.ra_labels.proofs.InLists.{list_all-from_contains, among-exactly}
use Rattle.ra_labels.proofs.Members.{head_or_behind, at_head, behind_head, there-kept, from_where, reached, piece_of, in_piece}
use Rattle.ra_labels.proofs.Parts.{part_is_of}
use Rattle.ra_theorems.proofs.Order.{label_cmp-total, label_below, IsSorted-named_labels, IsPermutation-named_labels}
use Rattle.ra_theorems.proofs.UniqueOrder.{head_least, sorted_behind}
use Rattle.ra_theorems.proofs.Meanings.{queries-exactly}
use Rattle.ra_theorems.proofs.States.{state-of_kind}
use Rattle.ra_theorems.proofs.OrSets.{pairs-exactly, answers-ids}
use Rattle.ra_theorems.proofs.Ranks.{named_differ, have_one_number}
use Rattle.ra_theorems.proofs.CommutingUpdates.{counter-late, or_set-late}
use Rattle.ra_theorems.proofs.OverridingUpdates.{writes-late, last_written-behind, set-late, last_on-behind}
use Rattle.ra_theorems.proofs.HadUpdates.{differ_round, delivery-own}

-- an update of the parts is the update of one part
taken : (o : Option Update) (rest : List Update) (u : Update) → Contains (cons_option o rest) u
    → (o ≡ Some u) ⊎ Contains rest u
taken None rest u there = inr there
taken (Some v) rest u there = elim (head_or_behind v rest u there) [
  | inl here ↦ inl (ap Some here)
  | inr further ↦ inr further
]

pub does_it : (act : Act) (u : Update) → update_of act ≡ Some u → act ≡ Does u
does_it (Does v) u is = ap Does (same_Some v u is)
does_it (Asks query) u is = absurd (none-some u is)

pub update_from : (parts : List Part) (u : Update) → Contains (updates_of parts) u
    → (p : Part) × Contains parts p × (p.act ≡ Does u)
update_from [] u there = absurd (omega (arith, there.1))
update_from (part ∷ parts) u there = elim (taken (update_of part.act) (updates_of parts) u there) [
  | inl is ↦ (part, at_head part parts part refl, does_it part.act u is)
  | inr further ↦ let rest = update_from parts u further in (rest.0, behind_head part parts rest.0 rest.1, rest.2)
]

-- and the operation of its label makes it
pub part_makes : (label : Label) (p : Part) (u : Update) → Contains (parts_of label) p → p.act ≡ Does u
    → HasUpdate label.op u
part_makes label p u there does =
    let (act, found, is) = from_where (part_of label) (acts_of label.op) p there in
    let same : act.1 ≡ Does u = ap (λ (q : Part). q.act) is ∙ does in
    (act.0, subst (λ a. Contains (acts_of label.op) (act.0, a)) same found)

-- the operation that makes a given update
abbrev pub op_of : Update → Op
op_of Inc = op.Inc
op_of Dec = op.Dec
op_of (Write value) = op.Write value
op_of (LwwAdd x) = op.LwwAdd x
op_of (LwwRemove x) = op.LwwRemove x
op_of (OrAdd x id) = op.OrAdd x id
op_of (After anchor x) = op.After anchor x
op_of (RgaRemove x) = op.RgaRemove x
op_of (TakeOut x ids) = op.OrRemove x ids
op_of (updates.List (change.Put insertion)) = op.List (list.Insert insertion)
op_of (updates.List (change.Hide x)) = op.List (list.Remove x)
op_of updates.AnyUpdate = op.AnyUpdate
op_of (updates.MvWrite value) = op.MvWrite value

its_act : (half : Half) (act : Act) (which : Half) (u : Update)
    → Contains {X = Half × Act} ((half, act) ∷ []) (which, Does u) → act ≡ Does u
its_act half act which u there = elim (head_or_behind (half, act) [] (which, Does u) there) [
  | inl same ↦ ap (λ (a : Half × Act). a.1) same
  | inr none ↦ absurd (omega (arith, none.1))
]

its_update : (half : Half) (v : Update) (which : Half) (u : Update)
    → Contains {X = Half × Act} ((half, Does v) ∷ []) (which, Does u) → v ≡ u
its_update half v which u there = same_Some v u (ap update_of (its_act half (Does v) which u there))

no_update : (half : Half) (query : Query) (which : Half) (u : Update)
    → Contains {X = Half × Act} ((half, Asks query) ∷ []) (which, Does u) → ⊥
no_update half query which u there = none-some u (ap update_of (its_act half (Asks query) which u there))

second_update : (query : Query) (v : Update) (which : Half) (u : Update)
    → Contains {X = Half × Act} ((QueryHalf, Asks query) ∷ (UpdateHalf, Does v) ∷ []) (which, Does u) → v ≡ u
second_update query v which u there =
    elim (head_or_behind (QueryHalf, Asks query) ((UpdateHalf, Does v) ∷ []) (which, Does u) there) [
      | inl same ↦ absurd (none-some u (ap (λ (a : Half × Act). update_of a.1) same))
      | inr later ↦ its_update UpdateHalf v which u later
    ]

pub made_by : (operation : Op) (u : Update) → HasUpdate operation u → operation ≡ op_of u
made_by (op.Count v) u (half, there) = absurd (no_update _ _ half u there)
made_by (op.Last value) u (half, there) = absurd (no_update _ _ half u there)
made_by (op.LwwRead list) u (half, there) = absurd (no_update _ _ half u there)
made_by (op.OrRead list) u (half, there) = absurd (no_update _ _ half u there)
made_by (op.RgaRead list) u (half, there) = absurd (no_update _ _ half u there)
made_by (op.List (list.Read elements)) u (half, there) = absurd (no_update _ _ half u there)
made_by (op.List (list.Part elements)) u (half, there) = absurd (no_update _ _ half u there)
made_by (op.AnyRead value) u (half, there) = absurd (no_update _ _ half u there)
made_by (op.MvRead values) u (half, there) = absurd (no_update _ _ half u there)
made_by (op.OrRemove x ids) u (half, there) = ap op_of (second_update _ _ half u there)
made_by (op.List (list.Insert insertion)) u (half, there) = ap op_of (second_update _ _ half u there)
made_by (op.List (list.Remove x)) u (half, there) = ap op_of (second_update _ _ half u there)
made_by _ u (half, there) = ap op_of (its_update _ _ half u there)

pub some_pairs : (state : State) → kind_of_state state ≡ OrSet → (ps : List (ℕ × ℕ)) × (state ≡ Pairs ps)
some_pairs (Pairs ps) is = (ps, refl)
some_pairs _ is = absurd (cc (is))

-- the result is known if it equals a known state
led_there : (o : Option State) (s t : State) → o ≡ Some s → s ≡ t → o ≡ Some t
led_there o s t led is = subst (λ r. o ≡ Some r) is led

-- a removal has a query half that asks for its identifiers
asks_first : (operation : Op) (x : ℕ) (ids : List ℕ) → operation ≡ op.OrRemove x ids
    → Contains (acts_of operation) (QueryHalf, Asks (ReadIds x ids))
asks_first operation x ids is = subst (λ o. Contains (acts_of o) (QueryHalf, Asks (ReadIds x ids))) (sym is)
    (0, omega arith, refl)

sees_as : (records : Records) (n : ℕ) (a b : Label) → a ≡ b → sees records n a.number ≡ true
    → sees records n b.number ≡ true
sees_as records n a b same seen = subst (λ (l : Label). sees records n l.number ≡ true) same seen

-- the query of a removal is admitted after the updates that the removal sees, in the sequence's order
abbrev IsAnswered : Records → List Part → Label → ℕ → List ℕ → List (ℕ × ℕ) → Type 0
IsAnswered records sequence l x ids ps =
    (state_after OrSet (visible_updates records sequence l.number) ≡ Some (Pairs ps))
    × (answers (Pairs ps) (ReadIds x ids) ≡ true)

answered_pairs : (records : Records) (sequence : List Part) (l : Label) (x : ℕ) (ids : List ℕ) (state : State)
    → state_after OrSet (visible_updates records sequence l.number) ≡ Some state
    → answers state (ReadIds x ids) ≡ true
    → (ps : List (ℕ × ℕ)) × (state ≡ Pairs ps) → (ps : List (ℕ × ℕ)) × IsAnswered records sequence l x ids ps
answered_pairs records sequence l x ids state led answered (ps, is) = (
  ps,
  (
    led_there (state_after OrSet (visible_updates records sequence l.number)) state (Pairs ps) led is,
    subst (λ s. answers s (ReadIds x ids) ≡ true) is answered,
  ),
)

asked_at : (records : Records) (sequence : List Part) (l : Label) (x : ℕ) (ids : List ℕ)
    → IsPermutation (parts_in records) sequence → queries_admitted OrSet records sequence ≡ true
    → Contains (labels_of records) l → l.op ≡ op.OrRemove x ids
    → (ps : List (ℕ × ℕ)) × IsAnswered records sequence l x ids ps
asked_at records sequence l x ids each queries l_there removes =
    let part : Part = part_of l (QueryHalf, Asks (ReadIds x ids)) in
    let of_l : Contains (parts_of l) part =
    reached (part_of l) (acts_of l.op) (QueryHalf, Asks (ReadIds x ids)) (asks_first l.op x ids removes) in
    let there : Contains sequence part = Contains-permutation (parts_in records) sequence part each
    (in_piece parts_of (labels_of records) l part l_there of_l) in
    let known = (queries-exactly OrSet records sequence).0 queries part (ReadIds x ids) there refl in
    answered_pairs records sequence l x ids known.0 known.1 known.2
    (some_pairs known.0 (state-of_kind OrSet (visible_updates records sequence l.number) known.0 known.1))

-- an addition among the updates that a label sees belongs to a label that it sees
abbrev SeesAddition : Records → ℕ → ℕ → ℕ → Type 0
SeesAddition records n x id = (k : Label) × Contains (labels_of records) k × (k.op ≡ op.OrAdd x id)
    × (sees records n k.number ≡ true)

sees_part : (records : Records) (n x id : ℕ) (p : Part) (k : Label) → Contains (labels_of records) k
    → Contains (parts_of k) p → p.act ≡ Does (OrAdd x id) → sees records n p.label.number ≡ true
    → SeesAddition records n x id
sees_part records n x id p k k_there of_k does seen = (
  k,
  k_there,
  made_by k.op (OrAdd x id) (part_makes k p (OrAdd x id) of_k does),
  sees_as records n p.label k (part_is_of k p of_k) seen,
)

sees_addition : (records : Records) (sequence : List Part) (n x id : ℕ) → IsPermutation (parts_in records) sequence
    → Contains (visible_updates records sequence n) (OrAdd x id) → SeesAddition records n x id
sees_addition records sequence n x id each there =
    let (p, p_there, does) = update_from
    (filter (λ (q : Part). sees records n q.label.number) sequence) (OrAdd x id) there in
    let kept = there-kept (λ (q : Part). sees records n q.label.number) sequence p p_there in
    let in_records = Contains-permutation sequence (parts_in records) p
    (IsPermutation-sym (parts_in records) sequence each) kept.0 in
    let at = piece_of parts_of (labels_of records) p in_records in
    sees_part records n x id p at.0 at.1 at.2 does kept.1

-- a pair that was added and remains was added
pub added_in : (us : List Update) (x id : ℕ) → IsPresentPair x id us → Contains us (OrAdd x id)
added_in us x id (first, later, split, none) = subst (λ vs. Contains vs (OrAdd x id)) (sym split)
    (Contains-append_right first (OrAdd x id ∷ later) (OrAdd x id) (at_head (OrAdd x id) later (OrAdd x id) refl))

added_among : (us : List Update) (x id : ℕ) (ps : List (ℕ × ℕ)) → state_after OrSet us ≡ Some (Pairs ps)
    → Contains ps (x, id) → Contains us (OrAdd x id)
added_among us x id ps led paired = added_in us x id ((pairs-exactly us ps x id led).0 paired)

-- if some sequence of the parts admits the query of a removal, the removal sees each addition whose pair it removes
pub removal-sees_in : (records : Records) (sequence : List Part) → IsPermutation (parts_in records) sequence
    → queries_admitted OrSet records sequence ≡ true → IdentifiersAreUnique records → (l m : Label) (x id : ℕ)
    (ids : List ℕ) → Contains (labels_of records) l → Contains (labels_of records) m → l.op ≡ op.OrRemove x ids
    → m.op ≡ op.OrAdd x id → Contains ids id → sees records l.number m.number ≡ true
removal-sees_in records sequence each queries once l m x id ids l_there m_there removes adds listed =
    by (asked_at records sequence l x ids each queries l_there removes)
  where
    from_addition : SeesAddition records l.number x id → sees records l.number m.number ≡ true
    from_addition (k, k_there, k_adds, seen) =
        sees_as records l.number k m (once k m id k_there m_there (x, k_adds) (x, adds)) seen

    by : (ps : List (ℕ × ℕ)) × IsAnswered records sequence l x ids ps → sees records l.number m.number ≡ true
    by (ps, (led, asked)) =
        from_addition
        (sees_addition records sequence l.number x id each
        (added_among (visible_updates records sequence l.number) x id ps led
        (((answers-ids ps x ids).0 asked id).0 listed)))

-- the named sequence does so if the records hold
pub removal-sees : (records : Records) (l m : Label) (x id : ℕ) (ids : List ℕ) → Holds OrSet records
    → IdentifiersAreUnique records → Contains (labels_of records) l → Contains (labels_of records) m
    → l.op ≡ op.OrRemove x ids → m.op ≡ op.OrAdd x id → Contains ids id → sees records l.number m.number ≡ true
removal-sees records l m x id ids holds once =
    removal-sees_in records (named_sequence OrSet records) holds.each_part_once holds.queries once l m x id ids

-- of two clashing updates, one adds a pair that the other removes
abbrev Clashing : Update → Update → Type 0
Clashing u v = (x id : ℕ) × (ids : List ℕ) × Contains ids id
    × (((u ≡ OrAdd x id) × (v ≡ TakeOut x ids)) ⊎ ((u ≡ TakeOut x ids) × (v ≡ OrAdd x id)))

-- (the case with `Inc` makes the last case split on the second update)
clashing : (u v : Update) → clash u v ≡ true → Clashing u v
clashing (OrAdd x id) (TakeOut y ids) is =
    let parts = and_parts (y == x) (is_among id ids) is in
    (x, id, ids, (among-exactly id ids).0 parts.1, inl (refl, ap (λ z. TakeOut z ids) (eqb-true y x parts.0)))
clashing (TakeOut y ids) (OrAdd x id) is =
    let parts = and_parts (y == x) (is_among id ids) is in
    (x, id, ids, (among-exactly id ids).0 parts.1, inr (ap (λ z. TakeOut z ids) (eqb-true y x parts.0), refl))
clashing _ Inc is = absurd (false≢true is)
clashing _ _ is = absurd (false≢true is)

pub clash-exactly : (u v : Update) → (clash u v ≡ true) ↔ (AddsRemovedPair u v ⊎ AddsRemovedPair v u)
clash-exactly u v = (
  (λ is.
      let (x, id, ids, listed, which) = clashing u v is in
      elim which [
        | inl (adds, removes) ↦ inl (x, id, ids, listed, adds, removes)
        | inr (removes, adds) ↦ inr (x, id, ids, listed, adds, removes)
      ]),
  (λ known. elim known [
    | inl (x, id, ids, listed, adds, removes) ↦ (λ i. clash (adds i) (removes i)) ∙ taken_out x id ids listed
    | inr (x, id, ids, listed, adds, removes) ↦ (λ i. clash (removes i) (adds i)) ∙ taken_out x id ids listed
  ]),
)
  where
    taken_out : (x id : ℕ) (ids : List ℕ) → Contains ids id → (x == x && is_among id ids) ≡ true
    taken_out x id ids listed = and_from (x == x) (is_among id ids) (eq-eqb x x refl) ((among-exactly id ids).1 listed)

-- each update delivered to a replica is the update of one of the labels
had_from : (records : Records) (replica : ℕ) (labels : List Label) (u : Update)
    → Contains (delivered_updates_of records replica labels) u → (m : Label) × Contains labels m
    × (has_delivered records replica m.number ≡ true) × HasUpdate m.op u
had_from records replica labels u there =
    let (p, found, does) =
    update_from (filter (λ (q : Part). has_delivered records replica q.label.number) (flat_map parts_of labels)) u there in
    let (p_in, had_p) = there-kept (λ (q : Part). has_delivered records replica q.label.number)
    (flat_map parts_of labels) p found in
    let (m, m_there, of_m) = piece_of parts_of labels p p_in in (
      m,
      m_there,
      sym (ap (λ (n : Label). has_delivered records replica n.number) (part_is_of m p of_m))
          ∙ had_p,
      part_makes m p u of_m does,
    )

pub sorted_from : (kind : Kind) (records : Records) (before behind : List Label) (label : Label)
    → IsSorted (label_cmp kind records) (before ++ label ∷ behind) → IsSorted (label_cmp kind records) (label ∷ behind)
sorted_from kind records [] behind label sorted = sorted
sorted_from kind records (x ∷ before) behind label sorted =
    sorted_from kind records before behind label
    (sorted_behind (label_cmp kind records) (label_cmp-total kind records) x (before ++ label ∷ behind) sorted)

-- in execution order, a label that stands behind another was accepted later
stands_later : (records : Records) (before behind : List Label) (label m : Label)
    → named_labels OrSet records ≡ before ++ label ∷ behind → Contains behind m → label.number < m.number
stands_later records before behind label m is there =
    let sorted = sorted_from OrSet records before behind label
    (subst (IsSorted (label_cmp OrSet records)) is (IsSorted-named_labels OrSet records)) in
    let least = head_least (label_cmp OrSet records) (label_cmp-total OrSet records) label behind sorted m
    (behind_head label behind m there) in
    let other =
    (differ_round before behind label (subst (IsDistinct have_one_number) is (named_differ OrSet records))).1 m
    there in
    elim (cases_order m.number label.number) [
      | inl same ↦ absurd (other same)
      | inr (inl below) ↦
          absurd (true≢false (sym (ap is_lt ((label_below OrSet records m label).1 (inr (refl, below)))) ∙ least))
      | inr (inr above) ↦ above
    ]

pub counter-delivered : (records : Records) (to : ℕ) (label : Label) (update : Update)
    → Contains (labels_of records) label → HasUpdate label.op update → has_delivered records to label.number ≡ false
    → state_after Counter (delivered_updates Counter (Deliver to label.number ∷ records) to)
    ≡ then_step (state_after Counter (delivered_updates Counter records to)) update
counter-delivered records to label update there makes new =
    let (before, behind, is, was, now) = delivery-own Counter records to label update there makes new in
    ap (state_after Counter) now
    ∙ counter-late (delivered_updates_of records to before) (delivered_updates_of records to behind) update
    ∙ sym (ap (λ us. then_step (state_after Counter us) update) was)

pub register-delivered : (records : Records) (to : ℕ) (label : Label) (value last : ℕ)
    → Contains (labels_of records) label → HasUpdate label.op (Write value) → has_delivered records to label.number ≡ false
    → is_admitted Register (delivered_updates Register (Deliver to label.number ∷ records) to) ≡ true
    → last_written (delivered_updates Register (Deliver to label.number ∷ records) to) ≡ Some last
    → state_after Register (delivered_updates Register (Deliver to label.number ∷ records) to)
    ≡ then_step (state_after Register (delivered_updates Register records to)) (Write last)
register-delivered records to label value last there makes new admitted found =
    let (before, behind, is, was, now) = delivery-own Register records to label (Write value) there makes new in
    let first = delivered_updates_of records to before in
    let later = delivered_updates_of records to behind in
    ap (state_after Register) now
    ∙ writes-late first later value last (subst (λ us. is_admitted Register us ≡ true) now admitted)
    (last_written-behind first later value last (subst (λ us. last_written us ≡ Some last) now found))
    ∙ sym (ap (λ us. then_step (state_after Register us) (Write last)) was)

pub set-delivered : (records : Records) (to : ℕ) (label : Label) (update last : Update) (x : ℕ)
    → Contains (labels_of records) label → HasUpdate label.op update → has_delivered records to label.number ≡ false
    → is_admitted LwwSet (delivered_updates LwwSet (Deliver to label.number ∷ records) to) ≡ true → acts_on x update ≡ true
    → last_on x (delivered_updates LwwSet (Deliver to label.number ∷ records) to) ≡ Some last
    → state_after LwwSet (delivered_updates LwwSet (Deliver to label.number ∷ records) to)
    ≡ then_step (state_after LwwSet (delivered_updates LwwSet records to)) last
set-delivered records to label update last x there makes new admitted acts found =
    let (before, behind, is, was, now) = delivery-own LwwSet records to label update there makes new in
    let first = delivered_updates_of records to before in
    let later = delivered_updates_of records to behind in
    ap (state_after LwwSet) now
    ∙ set-late first later update last x (subst (λ us. is_admitted LwwSet us ≡ true) now admitted) acts
    (last_on-behind first later update last x acts (subst (λ us. last_on x us ≡ Some last) now found))
    ∙ sym (ap (λ us. then_step (state_after LwwSet us) last) was)

pub or_set-delivered : (records : Records) (to : ℕ) (label : Label) (update : Update)
    → Contains (labels_of records) label → HasUpdate label.op update → Holds OrSet records → IdentifiersAreUnique records
    → IsCausal (Deliver to label.number ∷ records) → state_after OrSet
    (delivered_updates OrSet (Deliver to label.number ∷ records) to)
    ≡ then_step (state_after OrSet (delivered_updates OrSet records to)) update
or_set-delivered records to label update there makes holds once causal =
    let (before, behind, is, was, now) = delivery-own OrSet records to label update there makes causal.0 in
    let later = delivered_updates_of records to behind in
    let named_there : (m : Label) → Contains behind m → Contains (labels_of records) m = λ m found.
    Contains-permutation (named_labels OrSet records) (labels_of records) m
    (IsPermutation-sym (labels_of records) (named_labels OrSet records) (IsPermutation-named_labels OrSet records))
    (subst (λ ls. Contains ls m) (sym is)
    (Contains-append_right before (label ∷ behind) m (behind_head label behind m found))) in
    let none : NoneClashes update later = list_all-from_contains (λ v. not (clash update v)) later
    (λ v v_there. not_from_false (clash update v) (false_from_ne_true (clash update v) (λ clashes.
    let (m, m_there, m_had, m_makes) = had_from records to behind v v_there in
    let (x, id, ids, listed, which) = clashing update v clashes in
    let m_op = made_by m.op v m_makes in
    let l_op = made_by label.op update makes in
    let m_in = named_there m m_there in
    elim which [
      | inl (adds, removes) ↦
          let seen = removal-sees records m label x id ids holds once m_in there (m_op ∙ ap op_of removes)
          (l_op ∙ ap op_of adds) listed in
          false≢true (sym causal.0 ∙ had_closed records causal.2 to m.number label.number m_had seen)
      | inr (removes, adds) ↦
          let seen = removal-sees records label m x id ids holds once there m_in (l_op ∙ ap op_of removes)
          (m_op ∙ ap op_of adds) listed in
          let earlier = (sees_earlier records label.number m.number seen).0 in
          let later_one = stands_later records before behind label m is m_there in
          absurd (omega (arith, earlier, later_one))
    ]))) in
    ap (state_after OrSet) now
    ∙ or_set-late (delivered_updates_of records to before) later update none
    ∙ sym (ap (λ us. then_step (state_after OrSet us) update) was)
