use Rattle.std.proofs.Common.{◌≡◌, ℕ, ◌+◌, ◌<◌, List, get_or, Some, sym, ap, ◌∙◌, subst, arith}
use Rattle.ra_visibility.specs.Replica.{Replica}
use Rattle.ra_visibility.specs.Seen.{Seen, count_in}
use Rattle.ra_visibility.specs.Tracked.{replicas_in, replica_at, delivered_count, seen_count}
use Rattle.ra_visibility.specs.Least.{lesser_of}
use Rattle.ra_visibility.specs.Kept.{issued_at}
use Rattle.ra_visibility.proofs.MissingLabels.{IsLeastOf, lacked_at, least_skips, least_takes, least_found}
use Rattle.ra_visibility.proofs.tracked.Tracked.first_missing.Goals as goal
use Rattle.ra_visibility.proofs.tracked.Tracked.first_missing.Goals.{then-count, else-count}

pub loop-from-preserved : goal.loop-from-preserved
loop-from-preserved c =
    let t = c.args.self.now in
    let to = c.args.replica in
    let label = c.args.label in
    let end = c.loop-from.from in
    let had : c.counts-had.result.now ≡ (replica_at t to).counts = c.counts-had.ensures ∙ ap (λ (r : Replica). r.counts) c.replica.ensures in
    let count : get_or c.counts-had.result.now end 0 ≡ delivered_count t to end = ap (λ (xs : List ℕ). get_or xs end 0) had in
    let sees : c.count.result ≡ seen_count t label end = c.count.ensures ∙ ap (λ (s : Seen). count_in s end) c.vis-seen.ensures in
    let known : end < replicas_in t = omega (arith, c.len-from-end.ensures, ap replicas_in c.self.view_is, c.loop-from-test.true) in
    elim c.if-count.branch [
      | then-count w ↦
          let issued : w.issued.result.now ≡ (replica_at t end).issued = w.issued.ensures ∙ ap (λ (r : Replica). r.issued) w.replica-then-count.ensures in
          let missing : get_or w.issued.result.now (get_or c.counts-had.result.now end 0) 0 ≡ lacked_at t to end =
          ap (λ (xs : List ℕ). get_or xs (get_or c.counts-had.result.now end 0) 0) issued ∙ ap (issued_at t end) count in
          let least : c.if-count.least ≡ Some (lesser_of c.loop-from.least (lacked_at t to end)) =
          w.least-is ∙ ap Some (w.lesser.ensures ∙ ap (lesser_of c.loop-from.least) missing) in
          subst (IsLeastOf t to label (end + 1)) (sym least)
          (least_takes t to label end c.loop-from.least known (omega (arith, w.if-count.true, count, sees)) c.loop-from.invariant)
      | else-count w ↦
          subst (IsLeastOf t to label (end + 1)) (sym w.least-is)
          (least_skips t to label end c.loop-from.least c.loop-from.invariant (omega (arith, w.if-count.false, count, sees)))
    ]

pub returns : goal.returns
returns c =
    let t = c.args.self.now in
    let all : c.loop-from.from ≡ replicas_in t =
    omega (arith, c.len-from-end.ensures, ap replicas_in c.self.view_is, c.loop-from-test.false, c.loop-from.auto.from-end) in
    least_found t c.args.replica c.args.label c.loop-from.least c.requires.kept c.requires.label
    (subst (λ (k : ℕ). IsLeastOf t c.args.replica c.args.label k c.loop-from.least) all c.loop-from.invariant)
