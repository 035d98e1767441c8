use Rattle.std.proofs.Common.{◌≡◌, ℕ, ◌+◌, true, false, [], ◌∷◌, ◌++◌, Some, length, sym, ap, ◌∙◌, subst}
use Rattle.std.specs.Prelude.{◌==◌, ◌||◌}
use Rattle.ra_labels.specs.declared.operation.Update.TheVariants.{After}
use Rattle.ra_labels.specs.Visibility.{has_delivered}
use Rattle.ra_labels.specs.NamedOrder.{greater_of}
use Rattle.ra_labels.specs.HistorySoFar.{operate}
use Rattle.ra_labels.proofs.Results.{on_err_any}
use Rattle.ra_rga_elements.specs.ElementList.{Arrival, is_marked}
use Rattle.ra_rga_replica.specs.declared.edit.Edit.TheVariants.{PutsIn}
use Rattle.ra_rga_replica.specs.PendingLabels.{labels_under}
use Rattle.ra_rga_replica.specs.Edits.{element_at}
use Rattle.ra_rga_replica.specs.ReplicaList.{ReplicaList, IsGreatestOf, IsListOf, settled_count}
use Rattle.ra_rga_replica.specs.Cascade.{AreAlike}
use Rattle.ra_rga_replica.proofs.AlikeLists.{kept_in, list_alike, unadded}
use Rattle.ra_rga_replica.proofs.Edits.{AreMarksWith}
use Rattle.ra_rga_replica.proofs.HadLabels.{IsAdded}
use Rattle.ra_rga_replica.proofs.OwnLabels.{owned, own_stamp, own_put, own_waits}
use Rattle.ra_rga_replica.proofs.replica_list.ReplicaList.put_own.Goals as goal

pub returns-in_err-add-clause-err : goal.returns-in_err-add-clause-err
returns-in_err-add-clause-err c =
    let inside = c.self.inside in
    let later : ReplicaList = record {
      marks = inside.there.marks.items;
      shown = inside.shown;
      greatest =
          inside.greatest;
      waiting = c.add.new.self;
    } in
    let alike : AreAlike c.args.self.now later = record {
      marks = λ number. ap (λ (l : ReplicaList). is_marked l.marks number) c.self.view_is;
      shown = λ number. ap (λ (l : ReplicaList). is_marked l.shown number) c.self.view_is;
      greatest = ap (λ (l : ReplicaList). l.greatest) c.self.view_is;
      waiting = λ number. unadded inside.waiting c.add.new.self c.args.anchor c.in_err-add.ensures.err
          c.in_err-add.ensures.others number ∙ ap (λ (l : ReplicaList). labels_under l.waiting number) c.self.view_is;
    } in
    on_err_any c.from_residual.result (λ arrivals edits records replica held.
    list_alike c.args.self.now later alike held)

pub returns-then-not-has-clause-put : goal.returns-then-not-has-clause-put
returns-then-not-has-clause-put c = λ edits records next element stand held label_is makes stamped extended admitted.
    let all = c.args.all.now in
    let inside = c.self.inside in
    let new : Arrival = record { element = element; stamp = c.args.stamp; anchor = c.args.anchor } in
    let kept = kept_in c.args.self.now _ c.self.view_is held.kept in
    let missing : is_marked inside.there.marks.items c.args.anchor ≡ false = sym c.has.ensures ∙ c.if-not-has.true in
    let added = subst (λ (n : ℕ). IsAdded inside.waiting c.add.new.self c.args.anchor n) label_is
    (record { added = c.in_ok-add.ensures.added; others = c.in_ok-add.ensures.others }) in
    let later : ReplicaList = record {
      marks = inside.there.marks.items;
      shown = inside.shown;
      greatest =
          greater_of inside.greatest c.args.stamp;
      waiting = c.add.new.self;
    } in
    let after = own_waits next new c.add.new.self stand kept makes c.requires.anchor admitted missing added in
    let top = subst (λ (l : ReplicaList). IsGreatestOf records (has_delivered records next.by) l.greatest) (sym c.self.view_is)
    held.greatest in
    subst
    (λ (l : ReplicaList). (is : IsListOf l (all.arrivals ++ new ∷ [])
    (edits ++ Some (PutsIn (length all.arrivals)) ∷ [])
    (operate next ∷ records) next.by) × (settled_count is ≡ settled_count held + 0))
    (sym c.observe_stamp.ensures)
    (owned next (After (element_at all.arrivals c.args.anchor) element) later held 0 makes after
    (own_stamp next c.args.stamp top stamped))

pub returns-clause-put : goal.returns-clause-put
returns-clause-put c = λ edits records next element stand held label_is makes stamped extended admitted.
    let all = c.args.all.now in
    let inside = c.self.inside in
    let new : Arrival = record { element = element; stamp = c.args.stamp; anchor = c.args.anchor } in
    let kept = kept_in c.args.self.now _ c.self.view_is held.kept in
    let there : is_marked inside.there.marks.items c.args.anchor ≡ true = sym c.has.ensures ∙ c.if-not-has.false in
    let later : ReplicaList = record {
      marks = c.put_in.new.there.marks.items;
      shown = c.put_in.new.shown;
      greatest =
          greater_of inside.greatest c.args.stamp;
      waiting = inside.waiting;
    } in
    let with_it : AreMarksWith inside.there.marks.items c.put_in.new.there.marks.items (PutsIn (length all.arrivals)) =
    λ k. c.in_ok-put_in.ensures.marks k ∙ ap (λ (n : ℕ). is_marked inside.there.marks.items k || k == n)
    c.len-number.ensures in
    let shown_it : (k : ℕ) → is_marked c.put_in.new.shown k
    ≡ (is_marked inside.shown k || k == length all.arrivals) =
    λ k. c.in_ok-put_in.ensures.shown k ∙ ap (λ (n : ℕ). is_marked inside.shown k || k == n) c.len-number.ensures in
    let after = own_put next new (λ k. is_marked c.put_in.new.shown k) c.put_in.new.there.marks.items stand kept makes
    c.requires.anchor admitted there shown_it with_it in
    let top = subst (λ (l : ReplicaList). IsGreatestOf records (has_delivered records next.by) l.greatest) (sym c.self.view_is)
    held.greatest in
    subst
    (λ (l : ReplicaList). (is : IsListOf l (all.arrivals ++ new ∷ [])
    (edits ++ Some (PutsIn (length all.arrivals)) ∷ [])
    (operate next ∷ records) next.by) × (settled_count is ≡ settled_count held + 1))
    (sym c.observe_stamp-2.ensures)
    (owned next (After (element_at all.arrivals c.args.anchor) element) later held 1 makes after
    (own_stamp next c.args.stamp top stamped))
