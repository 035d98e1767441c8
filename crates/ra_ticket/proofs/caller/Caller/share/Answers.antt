use Rattle.std.proofs.Common.{◌≡◌, [], ◌∷◌, ◌++◌, ap, ◌∙◌, subst, append_assoc}
use mathlib.Core.List.{map-append}
use Rattle.std.specs.Arc.{arc_value}
use Rattle.std.proofs.lemmas.List.Elements.{All-rest}
use Rattle.ra_ticket.specs.Passes.{IsPassOf}
use Rattle.ra_ticket.specs.Callers.{pass_of}
use Rattle.ra_ticket.proofs.caller.Caller.share.Goals as goal

pub loop-pass-preserved : goal.loop-pass-preserved
loop-pass-preserved g c =
    let was = c.loop-pass.invariant in
    let dealt = c.loop-pass.yielded in
    let pass = c.in-Some.pass in
    let steps = c.in-Some.ensures.steps.0 in record {
      given = rw c.in_ok-push.ensures.items
          (map-append pass_of c.loop-pass.callers.items _ ∙ ap (λ ps. ps ++ pass ∷ []) was.given);
      left = rw (append_assoc dealt (pass ∷ []) _)
          (subst (λ rest. c.args.passes.items ≡ dealt ++ rest) steps was.left);
      own = All-rest (IsPassOf (arc_value c.args.lock.now)) pass _ _ steps was.own;
    }
