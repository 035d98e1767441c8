use Rattle.std.proofs.Common.{◌≡◌, ◌<◌, ◌+◌, ◌++◌, ◌∷◌, [], List, ℕ, length, get_or, map, sym, ap, ◌∙◌, subst, arith, rules}
use Rattle.std.proofs.lemmas.Bool.{ltb-true}
use Rattle.std.proofs.lemmas.List.{length-map, take_at}
use Rattle.ra_rga_elements.specs.Groups.{shifted, IsRegrouped}
use Rattle.ra_rga_elements.proofs.Splits.{places_under, right_known, split_kept, split_room, split_joined, room_already}
use Rattle.ra_rga_elements.proofs.room.reserve_place.Goals as goal

pub returns-then-has_room-clause-room : goal.returns-then-has_room-clause-room
returns-then-has_room-clause-room c =
    room_already _ _ _ _ _ c.requires c.index.ensures
    (ltb-true 0 c.index.result.now.room (sym c.has_room.ensures.room ∙ c.if-has_room.true))

pub shift-requires-clause-last : goal.shift-requires-clause-last
shift-requires-clause-last c = λ k d low.
    let same : c.as_mut_slice.result.now ≡ c.args.places.now.items = c.as_mut_slice.ensures.value
    ∙ c.reserve.ensures.items in
    let short : k < length c.args.places.now.items = omega (arith, low, ap (λ (ps : List ℕ). length ps) same) in
    let under = places_under _ _ _ _ _ c.requires c.in_ok-split.ensures.split k d short in
    omega (arith, under, ap (λ (ps : List ℕ). get_or ps k d) same, c.len.ensures, c.split.new.chunks.ok.0)

pub regroup-requires : goal.regroup-requires
regroup-requires c =
    right_known _ _ _ _ _ c.requires c.in_ok-split.ensures.split _ _ c.index-2.ensures c.entries.ensures

pub push_reserved-requires : goal.push_reserved-requires
push_reserved-requires c = search rules

pub returns-clause-kept : goal.returns-clause-kept
returns-clause-kept c =
    let groups : c.len-2.result ≡ length c.args.places.now.items = search rules in
    let same : c.as_mut_slice.result.now ≡ c.args.places.now.items = c.as_mut_slice.ensures.value
    ∙ c.reserve.ensures.items in
    let long : length c.shift.new.places ≡ c.reserve.new.self.len =
    omega (
      arith,
      ap (λ (ps : List ℕ). length ps) c.shift.ensures,
      length-map c.as_mut_slice.result.now (shifted c.args.newest),
      c.as_mut_slice.ensures.len,
    ) in
    let shifts =
    c.push_reserved.ensures.items
    ∙ ap (λ ps. ps ++ (c.args.newest + 1) ∷ []) (take_at c.shift.new.places _ c.reserve.new.self.len long
    ∙ c.shift.ensures ∙ ap (map (shifted c.args.newest)) same) in
    split_kept _ _ _ _ _ c.requires c.in_ok-split.ensures.split _ _ c.index-2.ensures c.entries.ensures _
    (subst (λ g. IsRegrouped c.args.elements.now c.entries.result.now g c.regroup.new.elements) groups
    c.regroup.ensures) _ shifts

pub returns-clause-joined : goal.returns-clause-joined
returns-clause-joined c = split_joined _ _ _ _ _ c.requires c.in_ok-split.ensures.split

pub returns-clause-room : goal.returns-clause-room
returns-clause-room c =
    let groups : c.len-2.result ≡ length c.args.places.now.items = search rules in
    split_room _ _ _ _ _ c.requires c.in_ok-split.ensures.split _ _ c.index-2.ensures c.entries.ensures _
    (subst (λ g. IsRegrouped c.args.elements.now c.entries.result.now g c.regroup.new.elements) groups
    c.regroup.ensures)
