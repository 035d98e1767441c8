use Rattle.std.proofs.Common.{◌≡◌, ℕ, ◌+◌, ◌++◌, ◌∷◌, [], length, cond, Some, sym, ap, ◌∙◌, subst, arith}
use Rattle.std.specs.Prelude.{nat_eq, nat_lt, ◌==◌, ◌&&◌}
use Rattle.std.specs.Vec.{vec_len, vec_capacity}
use Rattle.std.specs.HashMap.{get, spare}
use Rattle.std.proofs.lemmas.Bool.{and_parts, ltb-true}
use Rattle.ra_labels.specs.TheoremTerms.{elements_in}
use Rattle.ra_labels.specs.Late.{insert_late_after}
use Rattle.ra_rga_elements.specs.Chunks.{joined, offset, IsSpotFor}
use Rattle.ra_rga_elements.specs.Entries.{IsNumberAt}
use Rattle.ra_rga_elements.specs.ElementList.{Arrival, ElementList, arrival_at, IsBelowByStamp}
use Rattle.ra_rga_elements.specs.Kept.{have_room}
use Rattle.ra_rga_elements.proofs.ElementPlaces.{arrival_is}
use Rattle.ra_rga_elements.proofs.ElementNumbers.{numbers_with, fresh_among, known_as}
use Rattle.ra_rga_elements.proofs.InsertedElements.{on_ok, anchor_in, before_known, chunks_after, elements_after, arrivals_with}
use Rattle.ra_rga_elements.proofs.element_list.ElementList.insert.Goals as goal

pub spot_behind-spot-requires-clause-among : goal.spot_behind-spot-requires-clause-among
spot_behind-spot-requires-clause-among c =
    let known = known_as _ _ _ (ap (λ (l : ElementList). l.arrivals) c.self.view_is) c.requires.anchor in
    anchor_in _ _ _ _ _ _ _ _ c.self.invariant.chunks_kept known c.index.ensures c.index-place.ensures
    c.deref.ensures.value

pub index-requires-3 : goal.index-requires-3
index-requires-3 c =
    let spot = c.spot_behind-spot.result in
    let found =
    subst (λ cs. IsSpotFor cs c.args.anchor c.args.stamp spot) c.deref.ensures.value c.spot_behind-spot.ensures in
    let known = before_known _ _ _ _ _ c.self.invariant _ _ _ found _ _ c.index-2.ensures c.number-before.ensures in
    omega (arith, known, c.self.inside.elements.ok.0)

pub invariant_of-self : goal.invariant_of-self
invariant_of-self c =
    let inside = c.self.inside in
    let spot = c.spot_behind-spot.result in
    let arrived = ap (λ (l : ElementList). l.arrivals) c.self.view_is in
    let room = and_parts (have_room inside.chunks.items)
    (nat_lt (vec_len inside.elements) (vec_capacity inside.elements) && nat_lt 0 (spare inside.numbers))
    (ap (λ (l : ElementList). l.has_room) c.self.view_is ∙ c.requires.room) in
    let fits = and_parts (nat_lt (vec_len inside.elements) (vec_capacity inside.elements))
    (nat_lt 0 (spare inside.numbers)) room.1 in
    let found =
    subst (λ cs. IsSpotFor cs c.args.anchor c.args.stamp spot) c.deref.ensures.value c.spot_behind-spot.ensures in
    let at = subst (λ cs. IsNumberAt (joined cs) (offset cs spot.place + spot.position) c.number_behind-next.result)
    c.deref-2.ensures.value c.number_behind-next.ensures in
    let counted : c.len-number.result ≡ length inside.elements.items =
    omega (arith, c.len-number.ensures, inside.elements.ok.0) in
    let put : (y : ℕ) → get nat_eq c.insert-2.new.self y
    ≡ cond (c.args.element == y) (Some (length inside.elements.items)) (get nat_eq inside.numbers y) =
    λ y.
    (on_ok c.insert-2.result c.insert-2.ensures.updates
    (c.insert-2.ensures.succeeds (ltb-true 0 (spare inside.numbers) fits.1))).0 y
    ∙ ap (λ n. cond (c.args.element == y) (Some n) (get nat_eq inside.numbers y)) counted in
    record {
      numbers =
          numbers_with _ _ _ _ _ _ c.link.ensures c.self.invariant.numbers
          (fresh_among _ _ _ arrived c.requires.new) put;
      chunks_kept =
          chunks_after _ _ _ _ _ c.self.invariant _ _ _ found _ _ c.index-2.ensures c.number-before.ensures _ _ at _
          c.index-3.ensures _ counted _ _ c.index_mut.ensures.value c.insert.ensures _ c.link.ensures
          (known_as _ _ _ arrived c.requires.anchor) room.0;
    }

pub returns-clause-arrivals : goal.returns-clause-arrivals
returns-clause-arrivals c =
    arrivals_with _ _ _ _ c.link.ensures
    ∙ ap (λ xs. xs ++ (record { element = c.args.element; stamp = c.args.stamp; anchor = c.args.anchor }) ∷ [])
    (ap (λ (l : ElementList). l.arrivals) c.self.view_is)

pub returns-clause-elements : goal.returns-clause-elements
returns-clause-elements c = λ below all says same.
    let elements = c.self.inside.elements.items in
    let spot = c.spot_behind-spot.result in
    let arrived = ap (λ (l : ElementList). l.arrivals) c.self.view_is in
    let known = known_as _ _ _ arrived c.requires.anchor in
    let found =
    subst (λ cs. IsSpotFor cs c.args.anchor c.args.stamp spot) c.deref.ensures.value c.spot_behind-spot.ensures in
    let at = subst (λ cs. IsNumberAt (joined cs) (offset cs spot.place + spot.position) c.number_behind-next.result)
    c.deref-2.ensures.value c.number_behind-next.ensures in
    let counted : c.len-number.result ≡ length elements =
    omega (arith, c.len-number.ensures, c.self.inside.elements.ok.0) in
    elements_after _ _ _ _ _ c.self.invariant _ _ _ found _ _ c.index-2.ensures c.number-before.ensures _ _ at _
    c.index-3.ensures _ counted _ _ c.index_mut.ensures.value c.insert.ensures _ c.link.ensures known all below
    (same ∙ sym (ap (λ (l : ElementList). l.elements) c.self.view_is))
    (subst (IsBelowByStamp below c.args.element c.args.stamp) (sym arrived) says)
    ∙ ap (λ (a : Arrival). elements_in (insert_late_after below a.element c.args.element all))
    (sym (arrival_is elements c.args.anchor known) ∙ ap (λ xs. arrival_at xs c.args.anchor) arrived)
