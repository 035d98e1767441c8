use Rattle.std.proofs.Common.{◌≡◌, ◌∙◌, ◌++◌, ◌+◌, ◌<◌, ◌∷◌, [], List, ℕ, take, length, get_or, sym, ap}
use Rattle.std.specs.Prelude.{flat_map}
use Rattle.std.proofs.lemmas.List.{take_more, take_all, append-nil}
use Rattle.std.proofs.lemmas.Grind.{flat_map-append}
use Rattle.ra_witness.specs.Labels.{updates_by_number}
use Rattle.ra_witness.specs.Sequence.{refs_at}
use Rattle.ra_witness.specs.declared.part_ref.PartRef.{PartRef}
use Rattle.ra_witness.proofs.sequence.part_refs.Goals as goal

flat_map_next : {A : Type 0} (f : ℕ → List A) (ns : List ℕ) (i d : ℕ) → i < length ns
    → flat_map f (take (i + 1) ns) ≡ flat_map f (take i ns) ++ f (get_or ns i d)
flat_map_next f ns i d within =
    ap (flat_map f) (take_more ns i d within)
    ∙ flat_map-append f (take i ns) (get_or ns i d ∷ [])
    ∙ ap (λ xs. flat_map f (take i ns) ++ xs) (append-nil (f (get_or ns i d)))

pub loop-number-preserved : goal.loop-number-preserved
loop-number-preserved g c = λ past stands fits.
    let f = refs_at (updates_by_number past.records) in
    let items = c.deref-number-items.result.now in
    let i = c.loop-number.number-index in
    let number = get_or items i 0 in
    c.in_ok-push_parts.ensures past stands fits
    ∙ ap (λ (rs : List PartRef). rs ++ f number) (c.loop-number.invariant past stands fits)
    ∙ sym (flat_map_next f items i 0 c.loop-number-test.true)

pub returns : goal.returns
returns g c = λ past stands fits.
    let f = refs_at (updates_by_number past.records) in
    c.loop-number.invariant past stands fits
    ∙ ap (flat_map f) (take_all c.loop-number.number-index c.deref-number-items.result.now c.loop-number-test.false)
    ∙ ap (flat_map f) (c.deref-number-items.ensures.value ∙ c.in_ok-numbers.ensures)
