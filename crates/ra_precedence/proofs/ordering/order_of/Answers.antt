use Rattle.std.proofs.Common.{◌≡◌, ◌∙◌, ◌<◌, ℕ, length, get_or, sym, subst, inl, inr, arith}
use Rattle.std.specs.Prelude.{◌↔◌, Contains, vec_len}
use Rattle.std.proofs.lemmas.Bool.{cases_eq, eqb-true, eqb-false}
use Rattle.ra_precedence.specs.Conditions.{HasEachBelow, MeetsAll}
use Rattle.ra_precedence.proofs.Solutions.{has_each, meets_all, stuck, set_below}
use Rattle.ra_precedence.proofs.ordering.order_of.Goals as goal

pub returns-then-not-is_empty : goal.returns-then-not-is_empty
returns-then-not-is_empty c =
    let numbers = c.place_all.new.numbers.items in
    let len = c.place_all.ensures.len ∙ c.in_ok-numbers.ensures.len in
    let all = c.in_ok-placed.ensures.placed in
    let set_is : (b : ℕ) → Contains c.in_ok-stuck.stuck.items b ↔ (0 < get_or numbers b 0) =
    subst (λ ns. (b : ℕ) → Contains c.in_ok-stuck.stuck.items b ↔ (0 < get_or ns b 0)) c.as_slice.ensures.value c.in_ok-stuck.ensures in
    let some : 0 < length c.in_ok-stuck.stuck.items =
    let more = eqb-false (vec_len c.in_ok-stuck.stuck) 0 (sym c.is_empty.ensures ∙ c.if-not-is_empty.true) in
    let long = c.in_ok-stuck.stuck.ok.0 in
    omega (arith, more, long) in (
      stuck c.args.count c.args.conditions.now numbers c.in_ok-placed.placed.items c.requires len all c.in_ok-stuck.stuck.items set_is some,
      set_below c.args.count c.args.conditions.now numbers c.in_ok-placed.placed.items c.requires len all c.in_ok-stuck.stuck.items set_is,
    )

pub returns : goal.returns
returns c =
    let numbers = c.place_all.new.numbers.items in
    let len = c.place_all.ensures.len ∙ c.in_ok-numbers.ensures.len in
    let all = c.in_ok-placed.ensures.placed in
    let none : (b : ℕ) → get_or numbers b 0 ≡ 0 = λ b. elim (cases_eq (get_or numbers b 0) 0) [
      | inl is ↦ is
      | inr some ↦
          let there = (c.in_ok-stuck.ensures b).1
          (subst (λ ns. 0 < get_or ns b 0) (sym c.as_slice.ensures.value) (omega (arith, some))) in
          let low = there.1 in
          let empty = eqb-true (vec_len c.in_ok-stuck.stuck) 0 (sym c.is_empty.ensures ∙ c.if-not-is_empty.false) in
          let long = c.in_ok-stuck.stuck.ok.0 in
          absurd (omega (arith, low, empty, long))
    ] in
    subst (λ order. HasEachBelow c.args.count order × MeetsAll order c.args.conditions.now) (sym c.reverse.ensures.items) (
      has_each c.args.count c.args.conditions.now numbers c.in_ok-placed.placed.items c.requires len all none,
      meets_all c.args.count c.args.conditions.now numbers c.in_ok-placed.placed.items c.requires len all none,
    )
