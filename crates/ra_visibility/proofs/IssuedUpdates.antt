-- Lemmas on the list of the updates of a replica.
use Rattle.std.proofs.Common.{◌≡◌, ℕ, ◌<◌, refl, sym, ap, subst, ◌∙◌}
use Rattle.ra_visibility.specs.Tracked.{Tracked, replicas_in, row_at, replica_at}
use Rattle.ra_visibility.specs.Kept.{TrackedKept, AreIssued, issued_count, issued_at}

pub issued_are : (t : Tracked) → TrackedKept t → (by : ℕ) → by < replicas_in t → AreIssued t by (replica_at t by).issued
issued_are t kept by there = record {
  len = refl;
  each = λ at within. kept.issued_row by at there within;
  all =
      λ at n its.
      let (within, is) = kept.row_issued n its.there its.update in
      let within_by : (row_at t n).place < issued_count t by =
      subst (λ q. (row_at t n).place < issued_count t q) its.replica within in
      let is_by : issued_at t by (row_at t n).place ≡ n = ap (λ q. issued_at t q (row_at t n).place) (sym its.replica) ∙ is in (
        subst (λ p. p < issued_count t by) its.place within_by,
        ap (λ p. issued_at t by p) (sym its.place) ∙ is_by,
      );
}
