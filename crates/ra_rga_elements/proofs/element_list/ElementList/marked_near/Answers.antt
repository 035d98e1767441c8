use Rattle.std.proofs.Common.{◌≡◌, ◌<◌, ℕ, sym, ap, ◌∙◌, subst, arith, Some, None, Option}
use Rattle.std.specs.Prelude.{IfSome, nat_lt, ◌&&◌}
use Rattle.std.specs.HashMap.{spare}
use Rattle.std.specs.Vec.{vec_len, vec_capacity}
use Rattle.std.proofs.lemmas.List.{get_or_read}
use Rattle.ra_rga_elements.specs.declared.element.Element.{Element}
use Rattle.ra_rga_elements.specs.Groups.{no_element}
use Rattle.ra_rga_elements.specs.ElementList.{ElementList, IsMarkedBefore}
use Rattle.ra_rga_elements.proofs.ElementNumbers.{known_as}
use Rattle.ra_rga_elements.proofs.ElementOrder.{on_first, next_on, next_known, on_marked, told_if}
use Rattle.ra_rga_elements.proofs.element_list.ElementList.marked_near.Goals as goal

known_behind : (behind : Option ℕ) (count n : ℕ) → IfSome behind (λ m. m < count) → behind ≡ Some n → n < count
known_behind (Some m) count n known is = let same : m ≡ n = cc in omega (arith, known, same)
known_behind None count n known is = absurd (cc is)

pub loop-step-init : goal.loop-step-init
loop-step-init c =
    let known = known_as _ _ _ (ap (λ (l : ElementList). l.arrivals) c.self.view_is)
    (known_behind _ _ _ c.requires c.in_ok-found.was) in
    on_first _ _ _ _ _ c.self.invariant c.args.behind c.in_ok-found.found c.in_ok-found.was known

pub index-requires-then-is_marked : goal.index-requires-then-is_marked
index-requires-then-is_marked c =
    let inside = c.self.inside in
    let fits = nat_lt (vec_len inside.elements) (vec_capacity inside.elements) && nat_lt 0 (spare inside.numbers) in
    omega (
      arith,
      next_known _ _ _ _ _ c.self.invariant fits c.args.behind c.loop-step.found c.loop-step.invariant
          c.if-found-eq-ROOT.false _ c.index.ensures,
      c.self.inside.elements.ok.0,
    )

pub returns-then-is_marked : goal.returns-then-is_marked
returns-then-is_marked c =
    let inside = c.self.inside in
    let fits = nat_lt (vec_len inside.elements) (vec_capacity inside.elements) && nat_lt 0 (spare inside.numbers) in
    let known = next_known _ _ _ _ _ c.self.invariant fits c.args.behind c.loop-step.found c.loop-step.invariant
    c.if-found-eq-ROOT.false _ c.index.ensures in
    let read = get_or_read inside.elements.items c.index.result.now.before _ known c.index-then-is_marked.ensures
    no_element in
    told_if c.args.self.now c.args.marks.now c.args.behind c.index-then-is_marked.result.now.element c.args.element
    c.index.result.now.before c.then_some.result c.then_some.ensures
    (λ same. subst (λ (l : ElementList). IsMarkedBefore l c.args.marks.now c.args.behind c.args.element
    c.index.result.now.before) c.self.view_is
    (on_marked _ _ _ _ _ c.self.invariant fits c.args.behind c.loop-step.found c.loop-step.invariant
    c.if-found-eq-ROOT.false _ c.index.ensures c.args.marks.now c.args.element
    (sym c.is_marked.ensures ∙ c.if-is_marked.true)
    (ap (λ (e : Element). e.element) (sym read) ∙ same)))

pub loop-step-preserved : goal.loop-step-preserved
loop-step-preserved c =
    let inside = c.self.inside in
    let fits = nat_lt (vec_len inside.elements) (vec_capacity inside.elements) && nat_lt 0 (spare inside.numbers) in
    (next_on _ _ _ _ _ c.self.invariant fits c.args.behind c.loop-step.found c.loop-step.invariant
    c.if-found-eq-ROOT.false _ c.index.ensures).0
