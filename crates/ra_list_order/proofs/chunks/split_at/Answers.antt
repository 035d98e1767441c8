use Rattle.std.proofs.Common.{ℕ, ◌+◌, ◌<◌, ◌∙◌, sym, subst, get_or, arith}
use Rattle.std.specs.Prelude.{Contains, IsSome}
use Rattle.ra_list_order.specs.Chunks.{IsRaised, AreMovedTo, group_in}
use Rattle.ra_list_order.proofs.Halves.{chosen, split_failed, split_failed_joined, split_moves, split_joined, split_grouped}
use Rattle.ra_list_order.proofs.chunks.split_at.Goals as goal

pub returns-in_err-right-clause-grouped : goal.returns-in_err-right-clause-grouped
returns-in_err-right-clause-grouped c =
    split_failed (group_in c.args.groups.now.items) c.args.chunks.now.items c.reserve-2.new.self.items
    c.args.places.now.items c.reserve.new.self.items c.args.place c.index_mut.result.now c.split_off.new.self
    c.split_off.new.self c.requires.grouped (let low = c.requires.place in let size = c.args.chunks.now.ok.0 in
    omega (arith, low, size))
    c.in_ok-reserve-2.ensures.items c.in_ok-reserve.ensures.items c.index_mut.ensures.value c.split_off.ensures.group
    c.in_err-right.ensures.failed

pub returns-in_err-right-clause-joined : goal.returns-in_err-right-clause-joined
returns-in_err-right-clause-joined c =
    split_failed_joined (group_in c.args.groups.now.items) c.args.chunks.now.items c.reserve-2.new.self.items
    c.args.places.now.items c.reserve.new.self.items c.args.place c.index_mut.result.now c.split_off.new.self
    c.split_off.new.self c.requires.grouped (let low = c.requires.place in let size = c.args.chunks.now.ok.0 in
    omega (arith, low, size))
    c.in_ok-reserve-2.ensures.items c.in_ok-reserve.ensures.items c.index_mut.ensures.value c.split_off.ensures.group
    c.in_err-right.ensures.failed

pub move_to-requires-clause-known : goal.move_to-requires-clause-known
move_to-requires-clause-known c =
    subst (λ xs. (x : ℕ) → Contains xs x → IsSome (group_in c.args.groups.now.items x)) (sym c.elements.ensures)
    (split_moves (group_in c.args.groups.now.items) c.args.chunks.now.items c.reserve-2.new.self.items
    c.args.places.now.items c.reserve.new.self.items c.args.place c.index_mut.result.now c.split_off.new.self
    c.in_ok-right.right c.requires.grouped (let low = c.requires.place in let size = c.args.chunks.now.ok.0 in
    omega (arith, low, size))
    c.in_ok-reserve-2.ensures.items c.in_ok-reserve.ensures.items c.index_mut.ensures.value c.split_off.ensures.group
    c.in_ok-right.ensures.elements)

pub returns-clause-grouped : goal.returns-clause-grouped
returns-clause-grouped c =
    let room = c.in_ok-reserve-2.ensures.ok in
    let low = c.requires.place in
    let size = c.args.chunks.now.ok.0 in
    let small = c.args.chunks.now.small in
    split_grouped (group_in c.args.groups.now.items) c.args.chunks.now.items c.reserve-2.new.self.items
    c.args.places.now.items c.reserve.new.self.items c.args.place c.index_mut.result.now c.split_off.new.self
    c.in_ok-right.right c.requires.grouped (omega (arith, low, size))
    c.in_ok-reserve-2.ensures.items c.in_ok-reserve.ensures.items c.index_mut.ensures.value c.split_off.ensures.group
    c.in_ok-right.ensures.elements c.insert.new.self.items
    (chosen _ _ _ _ (c.insert.ensures.succeeds (omega (arith, room))) c.insert.ensures.items)
    (group_in c.move_to.new.groups.items) c.in_ok-group.group c.raise.new.places.items c.push_reserved.new.self.items
    c.in_ok-right.ensures.new_group (c.in_ok-group.ensures.index ∙ c.len.ensures ∙ c.reserve.new.self.ok.0)
    (subst (λ xs. AreMovedTo xs c.in_ok-group.group (group_in c.args.groups.now.items) (group_in c.move_to.new.groups.items))
    c.elements.ensures c.move_to.ensures)
    (sym c.raise.new.places.ok.0 ∙ c.raise.ensures.len ∙ c.reserve.new.self.ok.0) (omega (arith, size, small))
    (subst (λ n. (m : ℕ) → m < n → IsRaised (c.args.place + 1) (get_or c.reserve.new.self.items m 0)
    (get_or c.raise.new.places.items m 0)) c.reserve.new.self.ok.0 c.raise.ensures.raised)
    c.push_reserved.ensures.items

pub returns-clause-joined : goal.returns-clause-joined
returns-clause-joined c =
    let room = c.in_ok-reserve-2.ensures.ok in
    let low = c.requires.place in
    let size = c.args.chunks.now.ok.0 in
    split_joined (group_in c.args.groups.now.items) c.args.chunks.now.items c.reserve-2.new.self.items
    c.args.places.now.items c.reserve.new.self.items c.args.place c.index_mut.result.now c.split_off.new.self
    c.in_ok-right.right c.requires.grouped (omega (arith, low, size))
    c.in_ok-reserve-2.ensures.items c.in_ok-reserve.ensures.items c.index_mut.ensures.value c.split_off.ensures.group
    c.in_ok-right.ensures.elements c.insert.new.self.items
    (chosen _ _ _ _ (c.insert.ensures.succeeds (omega (arith, room))) c.insert.ensures.items)
