-- An element is inserted before it is named.
use Rattle.std.proofs.Common.{◌≡◌, ℕ, List, [], ◌∷◌, ◌++◌, refl, sym, ap, ◌∙◌, subst, inl, inr, reverse}
use Rattle.std.specs.Prelude.{Contains, Bool, Some}
use Rattle.std.proofs.lemmas.List.{append_assoc}
use Rattle.ra_labels.specs.declared.kind.Kind.TheVariants.{Rga}
use Rattle.ra_labels.specs.declared.operation.Update.{Update}
use Rattle.ra_labels.specs.declared.operation.Update.TheVariants.{After, RgaRemove}
use Rattle.ra_labels.specs.Specification.{Listed, state_after}
use Rattle.ra_labels.specs.TheoremTerms.{elements_in, StandsBefore}
use Rattle.ra_labels.proofs.Members.{at_head, head_or_behind, none_there, split_at}
use Rattle.ra_rga_forks.specs.Forks.{Names}
use Rattle.ra_rga_forks.proofs.Behind.{still_there}
use Rattle.ra_rga_forks.proofs.Orders.{IsOrder, newest_or_past, past_removal, root_in, inserted_in}
use Rattle.ra_rga_forks.proofs.ForkOrders.{anchor_differs}
use Rattle.ra_rga_forks.proofs.ListedOrders.{split_reverse}
use Rattle.ra_rga_forks.proofs.Trees.{order_after, there_reverse}

-- the order after earlier updates, whose elements are all there later
pub record IsEarlier (past : List Update) (es : List ℕ) : Type 0 where
  pub before : List ℕ
  pub order : IsOrder past before
  pub stay : (p : ℕ) → Contains before p → Contains es p

earlier : (later past : List Update) (es : List ℕ) → IsOrder (later ++ past) es → IsEarlier past es
earlier [] past es is = record { before = es; order = is; stay = λ p there. there }
earlier (After anchor x ∷ later) past es (before, order, anchored, new, is) =
    let rest = earlier later past before order in record {
      before = rest.before;
      order = rest.order;
      stay = λ p there. subst (λ ys. Contains ys p) (sym is) (still_there anchor x before p (rest.stay p there));
    }
earlier (RgaRemove x ∷ later) past es is = earlier later past es is.0
earlier (_ ∷ later) past es is = absurd is

-- what an update names is there after it
named_there : (update : Update) (past : List Update) (es : List ℕ) (x : ℕ) → IsOrder (update ∷ past) es → Names update x
    → Contains es x
named_there update past es x is (inl (anchor, inserts)) =
    (inserted_in (update ∷ past) es anchor x is (at_head update past (After anchor x) inserts)).0
named_there update past es x is (inr (inl (y, behind_it))) =
    (inserted_in (update ∷ past) es x y is (at_head update past (After x y) behind_it)).1
named_there update past es x is (inr (inr removes)) =
    (subst (λ u. IsOrder (u ∷ past) es) removes is).1

pub not_named_before : (us : List Update) (list : List (ℕ × Bool)) (named : Update) (anchor x : ℕ)
    → state_after Rga us ≡ Some (Listed list) → StandsBefore named (After anchor x) us → ¬ Names named x
not_named_before us list named anchor x is (first, between, after, split) names =
    let past = ap reverse split ∙ split_reverse first between after named (After anchor x) in
    let order = subst (λ vs. IsOrder vs (elements_in list)) (past ∙ append_assoc (reverse after) (After anchor x ∷ reverse between) (named ∷ reverse first)) (order_after us list is) in
    let at = earlier (reverse after) (After anchor x ∷ reverse between ++ named ∷ reverse first) (elements_in list) order in
    let (before, older, anchored, new, is_behind) = at.order in
    let then = earlier (reverse between) (named ∷ reverse first) before older in
    new (then.stay x (named_there named (reverse first) then.before x then.order names))

pub not_itself : (us : List Update) (list : List (ℕ × Bool)) (x : ℕ) → state_after Rga us ≡ Some (Listed list)
    → ¬ Contains us (After x x)
not_itself us list x is there =
    anchor_differs (reverse us) (elements_in list) x x (order_after us list is) (there_reverse us (After x x) there) refl

-- the root is neither inserted nor removed
root_kept : (past : List Update) (es : List ℕ) → IsOrder past es
    → ((anchor : ℕ) → ¬ Contains past (After anchor 0)) × (¬ Contains past (RgaRemove 0))
root_kept [] es is = ((λ anchor there. none_there (After anchor 0) there), (λ there. none_there (RgaRemove 0) there))
root_kept (After a x ∷ past) es (before, order, anchored, new, is) =
    let rest = root_kept past before order in (
      (λ anchor there. elim (newest_or_past anchor 0 a x past there) [
        | inl both ↦ new (subst (Contains before) (sym both.1) (root_in past before order))
        | inr older ↦ rest.0 anchor older
      ]),
      (λ there. elim (head_or_behind (After a x) past (RgaRemove 0) there) [
        | inl same ↦ let this : After a x ≡ RgaRemove 0 = same in cc (this)
        | inr older ↦ rest.1 older
      ]),
    )
root_kept (RgaRemove x ∷ past) es is =
    let rest = root_kept past es is.0 in (
      (λ anchor there. rest.0 anchor (past_removal anchor 0 x past there)),
      (λ there. elim (head_or_behind (RgaRemove x) past (RgaRemove 0) there) [
        | inl same ↦ let this : RgaRemove x ≡ RgaRemove 0 = same in is.2 (cc (this))
        | inr older ↦ rest.1 older
      ]),
    )
root_kept (_ ∷ past) es is = absurd is

pub root_stays : (us : List Update) (list : List (ℕ × Bool)) → state_after Rga us ≡ Some (Listed list)
    → ((anchor : ℕ) → ¬ Contains us (After anchor 0)) × (¬ Contains us (RgaRemove 0))
root_stays us list is =
    let kept = root_kept (reverse us) (elements_in list) (order_after us list is) in (
      (λ anchor there. kept.0 anchor (there_reverse us (After anchor 0) there)),
      (λ there. kept.1 (there_reverse us (RgaRemove 0) there)),
    )

-- what an update names is in the list after all
pub named_in : (us : List Update) (list : List (ℕ × Bool)) (named : Update) (x : ℕ) → state_after Rga us ≡ Some (Listed list)
    → Contains us named → Names named x → Contains (elements_in list) x
named_in us list named x is there names =
    let (before, after, split) = split_at (reverse us) named (there_reverse us named there) in
    let at = earlier before (named ∷ after) (elements_in list)
    (subst (λ vs. IsOrder vs (elements_in list)) split (order_after us list is)) in
    at.stay x (named_there named after at.before x at.order names)
