use Rattle.std.proofs.Common.{◌≡◌, ◌∙◌, ◌<◌, length, ℕ, sym, subst, ap, arith}
use Rattle.std.specs.Prelude.{Contains}
use Rattle.ra_rga_precedence.proofs.ListedElements.{low_more}
use Rattle.ra_rga_precedence.proofs.reported.reported_labels.Goals.{in-Some+then-is_marked+in_ok-push, in-Some+else-is_marked, in_default}
use Rattle.ra_rga_precedence.proofs.reported.reported_labels.Goals as goal

pub loop-element-preserved : goal.loop-element-preserved
loop-element-preserved c =
    let bound = length c.args.shown.now.items in
    let kept = c.loop-element.invariant in
    elim c.match-get.branch [
      | in-Some+then-is_marked+in_ok-push w ↦
          let wide = kept.wide in
          let fits = w.is_marked.ensures w.if-is_marked.true in
          let deref = ap length w.deref.ensures.value in
          record {
            wide = ap (λ v. length v.items) w.open-is ∙ w.remove_mark.ensures ∙ kept.wide;
            low =
                subst (λ ls. (m : ℕ) → Contains ls m → m < bound)
                (sym (ap (λ v. v.items) w.labels-is ∙ w.in_ok-push.ensures.items))
                (low_more c.loop-element.labels.items _ bound kept.low (omega (arith, fits, deref, wide)));
          }
      | in-Some+else-is_marked w ↦ record {
        wide = ap (λ v. length v.items) w.open-is ∙ kept.wide;
        low = subst (λ ls. (m : ℕ) → Contains ls m → m < bound) (sym (ap (λ v. v.items) w.labels-is)) kept.low;
      }
      | in_default w ↦ record {
        wide = ap (λ v. length v.items) w.open-is ∙ kept.wide;
        low = subst (λ ls. (m : ℕ) → Contains ls m → m < bound) (sym (ap (λ v. v.items) w.labels-is)) kept.low;
      }
    ]
