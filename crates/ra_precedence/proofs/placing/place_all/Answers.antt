use Rattle.std.proofs.Common.{◌≡◌, ◌∙◌, ℕ, false, length, get_or, replicate, sym, ap, subst, refl, arith}
use Rattle.std.proofs.lemmas.List.{length-replicate}
use Rattle.ra_precedence.specs.Placing.{times}
use Rattle.ra_precedence.proofs.AllUnmet.{made_long, all_unmet}
use Rattle.ra_precedence.proofs.FreeLabels.{free_below, placed_at_first}
use Rattle.ra_precedence.proofs.OpenCounts.{open_unmet}
use Rattle.ra_precedence.proofs.placing.place_all.Goals as goal

pub loop-next-init : goal.loop-next-init
loop-next-init c =
    let n = length c.args.conditions.now in
    let met = c.resize.new.self.items in
    let is : met ≡ replicate n false = made_long n _ _ met c.new-met.ensures.items c.new-met.ensures.len c.in_ok-resize.ensures.items in
    let unmet : (i : ℕ) → get_or met i false ≡ false = λ i. ap (λ m. get_or m i false) is ∙ all_unmet n i in
    record {
      used = placed_at_first c.args.conditions.now met c.args.numbers.now.items c.in_ok-placed.placed.items
          (ap length is ∙ length-replicate n false) unmet
          (λ b. c.requires.open b ∙ sym (open_unmet c.args.conditions.now met b unmet)) c.requires.named.before
          (subst (λ numbers. (b : ℕ) → times b c.in_ok-placed.placed.items ≡ free_below numbers (length numbers) b)
          c.as_slice.ensures.value c.in_ok-placed.ensures);
      reached = omega arith;
      len = refl;
    }
