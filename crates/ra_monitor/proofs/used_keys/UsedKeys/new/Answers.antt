use Rattle.std.proofs.Common.{◌≡◌, ℕ, zero, suc, List, [], map, false, replicate, get_or, refl, sym, ap, ◌∙◌}
use Rattle.std.specs.Prelude.{nat_eq}
use Rattle.std.specs.List.{list_any}
use Rattle.std.proofs.Math.ListN.{get_or-map}
use Rattle.ra_monitor.specs.Clocks.{Clocks}
use Rattle.ra_monitor.proofs.used_keys.UsedKeys.new.Goals as goal

none_in : (n replica : ℕ) → get_or (replicate {A = List ℕ} n []) replica [] ≡ []
none_in zero replica = refl
none_in (suc n) zero = refl
none_in (suc n) (suc replica) = none_in n replica

no_clock : (all : List Clocks) (n replica clock : ℕ) → map (λ (clocks : Clocks). clocks.clocks) all ≡ replicate n []
    → list_any (nat_eq clock) (get_or all replica (record { clocks = []; room = 0 })).clocks ≡ false
no_clock all n replica clock none =
    ap (list_any (nat_eq clock))
    (sym (get_or-map (λ (clocks : Clocks). clocks.clocks) all replica (record { clocks = []; room = 0 }))
    ∙ ap (λ (lists : List (List ℕ)). get_or lists replica []) none
    ∙ none_in n replica)

pub returns-clause-stamps : goal.returns-clause-stamps
returns-clause-stamps c = λ stamp. no_clock c.loop.clocks.items c.loop.counter stamp.replica stamp.clock c.loop.invariant
