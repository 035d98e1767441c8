use Rattle.std.proofs.Common.{ℕ, List, length, refl, sym, ap, ◌∙◌, subst}
use Rattle.std.specs.Prelude.{nat_lt, ◌&&◌}
use Rattle.std.specs.HashMap.{spare}
use Rattle.std.specs.Vec.{vec_len, vec_capacity}
use Rattle.std.proofs.lemmas.Bool.{false≢true}
use Rattle.ra_rga_elements.proofs.ComparedElements.{IsNumbered, list_numbered, compared_more, compared_all, next_found}
use Rattle.ra_rga_elements.proofs.element_list.ElementList.lists.Goals as goal

pub returns-then-listed-count : goal.returns-then-listed-count
returns-then-listed-count c = λ keep says beyond many.
    let inside = c.self.inside in
    let fits = nat_lt (vec_len inside.elements) (vec_capacity inside.elements) && nat_lt 0 (spare inside.numbers) in
    let numbered = subst IsNumbered c.self.view_is (list_numbered _ _ _ _ _ c.self.invariant fits) in (
      λ never. absurd (false≢true never),
      λ same. absurd (c.if-listed-count.true
          (ap (λ (xs : List ℕ). length xs) same ∙ numbered.counted keep c.args.marks.now says beyond ∙ sym many)),
    )

pub returns-in_default-marked_before : goal.returns-in_default-marked_before
returns-in_default-marked_before c = λ keep says beyond many.
    let inside = c.self.inside in
    let fits = nat_lt (vec_len inside.elements) (vec_capacity inside.elements) && nat_lt 0 (spare inside.numbers) in
    let numbered = subst IsNumbered c.self.view_is (list_numbered _ _ _ _ _ c.self.invariant fits) in (
      λ never. absurd (false≢true never),
      λ same.
          let (n, found) = next_found c.args.marks.now c.in-Some.rest.now c.in-Some.element.now numbered
          c.in-Some.ensures.cases.0 keep says same c.loop-element.behind c.loop-element.invariant in
          absurd (c.marked_before.ensures.none c.in_default-marked_before.is n found),
    )

pub loop-element-preserved : goal.loop-element-preserved
loop-element-preserved c =
    let inside = c.self.inside in
    let fits = nat_lt (vec_len inside.elements) (vec_capacity inside.elements) && nat_lt 0 (spare inside.numbers) in
    let numbered = subst IsNumbered c.self.view_is (list_numbered _ _ _ _ _ c.self.invariant fits) in
    compared_more c.in-Some.rest.now c.in-Some.element.now c.in-Some-marked_before.number numbered
    c.loop-element.invariant c.in-Some.ensures.cases.0 c.in-Some-marked_before.ensures.found

pub returns : goal.returns
returns c = λ keep says beyond many.
    let inside = c.self.inside in
    let fits = nat_lt (vec_len inside.elements) (vec_capacity inside.elements) && nat_lt 0 (spare inside.numbers) in
    let numbered = subst IsNumbered c.self.view_is (list_numbered _ _ _ _ _ c.self.invariant fits) in (
      λ holds. compared_all numbered c.loop-element.invariant (sym c.in_default.ensures.cases)
          (c.if-listed-count.false ∙ many) keep says beyond,
      λ same. refl,
    )
