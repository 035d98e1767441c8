use Rattle.std.proofs.Common.{◌∙◌, ap, subst, inl, inr}
use Rattle.std.specs.Prelude.{Contains, IfSome}
use Rattle.std.proofs.lemmas.List.Elements.{Contains-push_cases}
use Rattle.ra_rga_precedence.specs.Nearest.{IsTurned}
use Rattle.ra_rga_precedence.proofs.turned.add_turned.Goals.{in-Some+in_ok-push-in-Some, in-None+in_ok-push-in-None}
use Rattle.ra_rga_precedence.proofs.turned.add_turned.Goals as goal

pub loop-pair-preserved : goal.loop-pair-preserved
loop-pair-preserved c =
    let list = c.args.list.now in
    let other = c.args.other.now in
    elim c.match-turned_place.branch [
      | in-Some+in_ok-push-in-Some w ↦ λ place there. elim (Contains-push_cases c.loop-pair.places.items w.in-Some.place place
          (subst (λ xs. Contains xs place) (ap (λ v. v.items) w.places-is ∙ w.in_ok-push-in-Some.ensures.items) there)) [
            | inl older ↦ c.loop-pair.invariant place older
            | inr same ↦ inr (subst (IsTurned list other) same
                (subst (λ o. IfSome o (IsTurned list other)) w.in-Some.is c.turned_place.ensures))
          ]
      | in-None+in_ok-push-in-None w ↦ λ place there.
          c.loop-pair.invariant place (subst (λ v. Contains v.items place) w.places-is there)
    ]
