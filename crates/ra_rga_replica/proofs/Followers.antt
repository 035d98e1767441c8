-- Lemmas on the next label that follows, for each kind of edit.
use Rattle.std.proofs.Common.{◌≡◌, ℕ, Bool, true, false, List, [], ◌∷◌, ◌++◌, Option, Some, None, sym, ap, ◌∙◌, subst}
use Rattle.std.specs.Prelude.{IsPermutation}
use Rattle.std.proofs.lemmas.Option.{none-some, same_Some}
use Rattle.std.proofs.lemmas.List.{append-nil}
use Rattle.std.proofs.lemmas.List.Sums.{fold-append}
use Rattle.ra_labels.specs.Records.{Records}
use Rattle.ra_rga_elements.specs.ElementList.{ElementList, is_marked}
use Rattle.ra_rga_replica.specs.declared.edit.Edit.{Edit}
use Rattle.ra_rga_replica.specs.declared.edit.Edit.TheVariants.{PutsIn, Removes}
use Rattle.ra_rga_replica.specs.PendingLabels.{labels_under}
use Rattle.ra_rga_replica.specs.Edits.{edit_at, needed_number, AreElementsOf}
use Rattle.ra_rga_replica.specs.ReplicaList.{IsListWith}
use Rattle.ra_rga_replica.specs.Cascade.{shown_with, shown_after, IsFreeing, IsAmidst}
use Rattle.ra_rga_replica.proofs.Edits.{edits_stand, root_marked, AreMarksWith}
use Rattle.ra_rga_replica.proofs.ShownElements.{shown_alike, shown_step}
use Rattle.ra_rga_replica.proofs.TakenLabels.{or_nothing}
use Rattle.ra_rga_replica.proofs.FreedLabels.{first_freed, freed_by, freed_in_order, none_freed, last_there, follows}

module _ {shows : ℕ → Bool} {marks : List Bool} {labels : List ℕ} {waiting : List (ℕ × List ℕ)} {all : ElementList}
    {edits : List (Option Edit)} {records : Records} {had settled : ℕ → Bool} {first : ℕ} where
  -- the next label does not pass yet, and its dependency is marked
  next_waits : (ready : List ℕ) (label : ℕ) (amidst : IsAmidst shows marks labels (ready ++ label ∷ []) waiting all
      edits records had settled first) → (edit : Edit) → edit_at edits label ≡ Some edit
      → (amidst.freeing.passes label ≡ false) × (is_marked marks (needed_number all.arrivals edit) ≡ true)
  next_waits ready label amidst edit is =
      let (its, its_is, its_had, its_new, its_needs) = amidst.freeing.next label (last_there ready label) in
      let same : its ≡ edit = same_Some its edit (sym its_is ∙ is) in
      (its_new, ap (λ (d : Edit). is_marked marks (needed_number all.arrivals d)) (sym same) ∙ its_needs)

  pub insertion_follows : (ready : List ℕ) (label : ℕ) (next : ℕ → Bool) (next_marks : List Bool)
      (next_labels next_ready more : List ℕ) (number : ℕ)
      → IsAmidst shows marks labels (ready ++ label ∷ []) waiting all edits records had settled first
      → edit_at edits label ≡ Some (PutsIn number)
      → ((k : ℕ) → next k ≡ shown_with (Some (PutsIn number)) shows k) → AreMarksWith marks next_marks (PutsIn number)
      → next_labels ≡ labels ++ label ∷ []
      → IsPermutation (labels_under waiting number) more → next_ready ≡ ready ++ more
      → IsAmidst next next_marks next_labels next_ready waiting all edits records had settled first
  insertion_follows ready label next next_marks next_labels next_ready more number amidst is stepped with_it gone
      shuffled grown =
      let free = amidst.freeing in
      let stand = edits_stand amidst.elements in
      let (its_new, needs) = next_waits ready label amidst (PutsIn number) is in
      record {
        elements = amidst.elements;
        settles = amidst.settles;
        waiting_labels = amidst.waiting_labels;
        new = amidst.new;
        freeing = subst (λ (ls : List ℕ). IsFreeing next next_marks next_labels ls all.arrivals edits records had
            settled first) (sym grown)
            (subst (λ (ls : List ℕ). IsFreeing next next_marks ls (ready ++ more) all.arrivals edits records had settled
            first) (sym gone)
            (follows ready next next_marks more label (PutsIn number) stand free is
            (shown_step stand free.none_waits free.there free.shown next label (PutsIn number) is its_new stepped)
            with_it
            (freed_in_order (labels_under waiting number) more shuffled
            (freed_by waiting amidst.waiting_labels number))));
      }

  pub removal_follows : (ready : List ℕ) (label : ℕ) (next : ℕ → Bool) (next_labels : List ℕ) (number : ℕ)
      → IsAmidst shows marks labels (ready ++ label ∷ []) waiting all edits records had settled first
      → edit_at edits label ≡ Some (Removes number)
      → ((k : ℕ) → next k ≡ shown_with (Some (Removes number)) shows k) → next_labels ≡ labels ++ label ∷ []
      → IsAmidst next marks next_labels ready waiting all edits records had settled first
  removal_follows ready label next next_labels number amidst is stepped gone =
      let free = amidst.freeing in
      let stand = edits_stand amidst.elements in
      let (its_new, needs) = next_waits ready label amidst (Removes number) is in
      record {
        elements = amidst.elements;
        settles = amidst.settles;
        waiting_labels = amidst.waiting_labels;
        new = amidst.new;
        freeing = subst (λ (ls : List ℕ). IsFreeing next marks ls ready all.arrivals edits records had settled first)
            (sym gone)
            (subst (λ (ls : List ℕ). IsFreeing next marks (labels ++ label ∷ []) ls all.arrivals edits records had
            settled first) (append-nil ready)
            (follows ready next marks [] label (Removes number) stand free is
            (shown_step stand free.none_waits free.there free.shown next label (Removes number) is its_new stepped)
            (λ n. or_nothing (is_marked marks n)) (none_freed number)));
      }

  pub some_follows : (ready : List ℕ) (label : ℕ) → IsAmidst shows marks labels (ready ++ label ∷ []) waiting all edits
      records had settled first → ¬ (None ≡ edit_at edits label)
  some_follows ready label amidst none =
      let (its, its_is, its_had, its_new, its_needs) = amidst.freeing.next label (last_there ready label) in
      none-some its (none ∙ its_is)

pub root_amidst : {shows : ℕ → Bool} {marks : List Bool} {labels ready : List ℕ} {waiting : List (ℕ × List ℕ)}
    {all : ElementList} {edits : List (Option Edit)} {records : Records} {had settled : ℕ → Bool} {first : ℕ}
    → IsAmidst shows marks labels ready waiting all edits records had settled first → is_marked marks 0 ≡ true
root_amidst amidst = root_marked amidst.elements amidst.freeing.there

-- the edit that was found is the label's edit
pub edit_found : (edits : List (Option Edit)) (label : ℕ) (found : Option Edit) (field edit : Edit)
    → found ≡ edit_at edits label → found ≡ Some field → field ≡ edit → edit_at edits label ≡ Some edit
edit_found edits label found field edit at is same = sym at ∙ is ∙ ap (λ (d : Edit). Some d) same

-- before any label has followed
pub none_followed : {shows : ℕ → Bool} {marks : List Bool} {waiting : List (ℕ × List ℕ)} {all : ElementList}
    {edits : List (Option Edit)} {records : Records} {had settled : ℕ → Bool}
    (labels ready : List ℕ) (first : ℕ) (edit : Edit)
    → AreElementsOf all edits records → IsListWith shows marks waiting all.arrivals edits records had settled
    → edit_at edits first ≡ Some edit → had first ≡ false → is_marked marks (needed_number all.arrivals edit) ≡ true
    → labels ≡ [] → ready ≡ first ∷ [] → IsAmidst (shown_after edits shows labels) marks labels ready waiting
    all edits records had settled first
none_followed {shows = shows} {marks = marks} {all = all} {edits = edits} {records = records} {had = had}
    {settled = settled} labels ready first edit stand kept is new needs no_labels one =
    record {
      elements = stand;
      settles = kept.settles;
      waiting_labels = kept.waiting_labels;
      new = new;
      freeing = subst (λ (ls : List ℕ). IsFreeing (shown_after edits shows ls) marks ls ready all.arrivals edits records
          had settled first) (sym no_labels)
          (subst (λ (ls : List ℕ). IsFreeing shows marks [] ls all.arrivals edits records had settled first) (sym one)
          (first_freed first edit (edits_stand stand) kept is new needs));
    }

-- one more label
pub one_more_shown : (edits : List (Option Edit)) (shows : ℕ → Bool) (labels next : List ℕ) (label k : ℕ)
    → next ≡ labels ++ label ∷ []
    → shown_after edits shows next k ≡ shown_with (edit_at edits label) (shown_after edits shows labels) k
one_more_shown edits shows labels next label k is =
    ap (λ ls. shown_after edits shows ls k) is
    ∙ ap (λ (test : ℕ → Bool). test k)
    (fold-append (λ test n. shown_with (edit_at edits n) test) shows labels (label ∷ []))

-- tests that agree show the same
pub amidst_alike : {shows next : ℕ → Bool} {marks : List Bool} {labels ready : List ℕ} {waiting : List (ℕ × List ℕ)}
    {all : ElementList} {edits : List (Option Edit)} {records : Records} {had settled : ℕ → Bool} {first : ℕ}
    → ((k : ℕ) → next k ≡ shows k)
    → IsAmidst shows marks labels ready waiting all edits records had settled first
    → IsAmidst next marks labels ready waiting all edits records had settled first
amidst_alike same amidst =
    let free = amidst.freeing in
    record {
      elements = amidst.elements;
      settles = amidst.settles;
      waiting_labels = amidst.waiting_labels;
      new = amidst.new;
      freeing = record {
        passes = free.passes;
        had_them = free.had_them;
        none_waits = free.none_waits;
        shown = shown_alike same free.shown;
        there = free.there;
        older = free.older;
        only = free.only;
        gone = free.gone;
        next = free.next;
        others = free.others;
        itself = free.itself;
        once = free.once;
        count = free.count;
      };
    }
