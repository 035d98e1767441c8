use Rattle.std.proofs.Common.{◌≡◌, [], ◌∷◌, ◌++◌, Some, refl, sym, ap, ◌∙◌, append_assoc}
use mathlib.Core.List.{map-append}
use Rattle.std.proofs.lemmas.List.Elements.{All-rest, All-same, All-push}
use Rattle.ra_ticket.specs.Callers.{pass_of}
use Rattle.ra_ticket.specs.Passes.{pass_setup}
use Rattle.ra_desk.specs.Reports.{setup_of}
use Rattle.ra_desk.proofs.reporter.DeskReporter.set_up.Goals as goal

pub loop-caller-preserved : goal.loop-caller-preserved
loop-caller-preserved c =
    let was = c.loop-caller.invariant in
    let dealt = c.loop-caller.yielded in
    let caller = c.in-Some.caller in
    let steps = c.in-Some.ensures.steps.0 in record {
      given = rw c.in_ok-push.ensures.items
          (map-append (λ r. r.caller) c.loop-caller.all.items _ ∙ ap (λ cs. cs ++ caller ∷ []) was.given);
      left = was.left ∙ (ap (λ rest. dealt ++ rest) steps ∙ sym (append_assoc dealt (caller ∷ []) _));
      alike = All-same (λ r. setup_of r ≡ c.args.setup) _ _ c.in_ok-push.ensures.items
          (All-push (λ r. setup_of r ≡ c.args.setup) c.loop-caller.all.items _ was.alike refl);
      same = All-rest (λ d. pass_setup (pass_of d) ≡ Some c.args.setup) caller _ _ steps was.same;
    }
