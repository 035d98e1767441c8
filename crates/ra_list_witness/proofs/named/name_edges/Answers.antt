use Rattle.std.proofs.Common.{◌≡◌, ◌<◌, length, get_or, set, sym, ap, ◌∙◌, inl, inr, arith}
use Rattle.std.specs.Prelude.{unwrap_or}
use Rattle.std.proofs.lemmas.Bool.{cases_eq}
use Rattle.std.proofs.lemmas.Option.{unwrap_or-slice_get}
use Rattle.std.proofs.lemmas.List.{length-set, length-map, get_or-map, get_or-set_same, get_or-set_other, ext_get_or, get_or_default}
use Rattle.ra_labels.specs.declared.edge.Edge.{Edge}
use Rattle.ra_list_order.specs.EdgePool.{no_edge}
use Rattle.ra_list_witness.specs.Named.{element_at, named, all_named}
use Rattle.ra_list_witness.proofs.named.name_edges.Goals as goal

-- the edge at the index, which is not named yet
edge_there : (c : goal.After-edges-1) → c.index-edge.result.now ≡ get_or c.args.edges.now.items c.loop-i.i no_edge
edge_there c =
    c.index-edge.ensures
    ∙ get_or_default c.loop-i.edges.items c.loop-i.i _ no_edge
    (omega (arith, c.loop-i-test.true, c.len-i-end.ensures, c.loop-i.invariant.as_many))
    ∙ c.loop-i.invariant.others c.loop-i.i (omega arith)

-- the edge that is stored at the index
abbrev stored : goal.After-edges-1 → Edge
stored c = record { before = c.unwrap_or.result; after = c.unwrap_or-in-loop-i.result; label = c.index-edge.result.now.label }

stored_is : (c : goal.After-edges-1) → stored c ≡ named c.args.numbers.now (get_or c.args.edges.now.items c.loop-i.i no_edge)
stored_is c =
    let elements = c.args.numbers.now in
    let before : c.unwrap_or.result ≡ element_at elements c.index-edge.result.now.before =
    c.unwrap_or.ensures ∙ ap (λ o. unwrap_or o 0) c.element.ensures
    ∙ unwrap_or-slice_get elements c.index-edge.result.now.before 0 in
    let after : c.unwrap_or-in-loop-i.result ≡ element_at elements c.index-edge.result.now.after =
    c.unwrap_or-in-loop-i.ensures ∙ ap (λ o. unwrap_or o 0) c.element-in-loop-i.ensures
    ∙ unwrap_or-slice_get elements c.index-edge.result.now.after 0 in
    let is : stored c ≡ named elements c.index-edge.result.now =
    λ i. record { before = before i; after = after i; label = c.index-edge.result.now.label } in
    is ∙ ap (named elements) (edge_there c)

pub loop-i-preserved : goal.loop-i-preserved
loop-i-preserved c =
    let items = c.loop-i.edges.items in
    let i = c.loop-i.i in
    let so_far = c.loop-i.invariant in
    let there : i < length items = omega (arith, c.loop-i-test.true, c.len-i-end.ensures, so_far.as_many) in
    record {
      as_many = length-set items i (stored c) ∙ so_far.as_many;
      done = λ m below. elim (cases_eq m i) [
        | inl same ↦ ap (λ k. get_or (set items i (stored c)) k no_edge) same
            ∙ get_or-set_same items i (stored c) no_edge there ∙ stored_is c
            ∙ ap (λ k. named c.args.numbers.now (get_or c.args.edges.now.items k no_edge)) (sym same)
        | inr apart ↦ get_or-set_other items i m (stored c) no_edge apart ∙ so_far.done m (omega (arith, below, apart))
      ];
      others = λ m above. get_or-set_other items i m (stored c) no_edge (λ same. absurd (omega (arith, same, above)))
          ∙ so_far.others m (omega (arith, above));
    }

pub returns : goal.returns
returns c =
    let old = c.args.edges.now.items in
    let elements = c.args.numbers.now in
    let as_many = c.loop-i.invariant.as_many in
    ext_get_or no_edge c.loop-i.edges.items (all_named elements old) (as_many ∙ sym (length-map old (named elements)))
    (λ m within. c.loop-i.invariant.done m (omega (arith, within, as_many, c.loop-i-test.false, c.len-i-end.ensures))
    ∙ sym (get_or-map (named elements) old m no_edge no_edge (omega (arith, within, as_many))))
