use Rattle.std.proofs.Common.{◌≡◌, ◌++◌, ◌∷◌, [], List, refl, sym, subst}
use Rattle.std.specs.Prelude.{Contains}
use Rattle.std.proofs.lemmas.List.Elements.{All-nil, All-cons, All-contains, Contains-append_left, Contains-append_right}
use Rattle.ra_labels.proofs.Members.{at_head}
use Rattle.ra_ticket.specs.Callers.{pass_of}
use Rattle.ra_ticket.specs.Passes.{IsPassOf}
use Rattle.ra_desk.specs.declared.reporter.DeskReporter.{DeskReporter}
use Rattle.ra_desk.proofs.Told.{All-of_map}
use Rattle.ra_tests_threads.proofs.callers.two_reporters.Goals as goal

-- the last element of a list is in it
last_in : (all rest : List DeskReporter) (last : DeskReporter) → all ≡ rest ++ last ∷ [] → Contains all last
last_in all rest last is = subst (λ rs. Contains rs last) (sym is)
    (Contains-append_right rest (last ∷ []) last (at_head last [] last refl))

pub returns : goal.returns
returns g c =
    let all = c.reporters_of-reporters.result.items in
    let others = c.last_reporter-second.new.reporters.items in
    let first = c.last_reporter.result in
    let second = c.last_reporter-second.result in
    let (lock, each) = c.reporters_of-reporters.ensures in
    let own = All-of_map (IsPassOf lock) (λ r. pass_of r.caller) all each in
    let second_in = last_in all others second c.last_reporter-second.ensures in
    let first_in = subst (λ rs. Contains rs first) (sym c.last_reporter-second.ensures)
    (Contains-append_left others (second ∷ []) first
    (last_in others c.last_reporter.new.reporters.items first c.last_reporter.ensures)) in (
      lock,
      All-cons (IsPassOf lock) (pass_of first.caller) (pass_of second.caller ∷ [])
          (All-contains (λ r. IsPassOf lock (pass_of r.caller)) all first own first_in)
          (All-cons (IsPassOf lock) (pass_of second.caller) []
          (All-contains (λ r. IsPassOf lock (pass_of r.caller)) all second own second_in)
          (All-nil (IsPassOf lock))),
    )
