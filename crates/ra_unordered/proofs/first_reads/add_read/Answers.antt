use Rattle.std.proofs.Common.{◌≡◌, true, List, ℕ, Some, None, nat_eq, sym, ap, ◌∙◌, subst}
use Rattle.std.specs.Prelude.{if◌then◌else◌}
use Rattle.std.proofs.lemmas.Bool.{eqb-true}
use Rattle.ra_any_reads.specs.Counts.{have_same_counts}
use Rattle.ra_any_reads.specs.Firsts.{first_in, first_of}
use Rattle.ra_unordered.proofs.FirstReads.{agrees_with_none, agrees_with_first, after_known, after_added}
use Rattle.ra_unordered.proofs.first_reads.add_read.Goals as goal

pub returns-in-Some-clause-judged : goal.returns-in-Some-clause-judged
returns-in-Some-clause-judged c = λ records next stands reads.
    let found = ap (first_in c.args.reads.now) (sym (c.as_slice.ensures.value ∙ c.in_ok-counts.ensures))
    ∙ sym c.in-Some.ensures in
    agrees_with_first c.args.reads.now records next stands c.args.value c.args.label c.args.seen.now.counts reads
    c.in-Some.first found

pub returns-in-Some-clause-taken : goal.returns-in-Some-clause-taken
returns-in-Some-clause-taken c = λ records next stands reads same.
    let found = ap (first_in c.args.reads.now) (sym (c.as_slice.ensures.value ∙ c.in_ok-counts.ensures))
    ∙ sym c.in-Some.ensures in
    let is : nat_eq c.in-Some.first.value c.args.value ≡ true = let ok = same in cc in
    after_known c.args.reads.now records next stands c.args.value c.args.label c.args.seen.now.counts reads
    c.in-Some.first found (eqb-true c.in-Some.first.value c.args.value is)

pub returns-clause-judged : goal.returns-clause-judged
returns-clause-judged c = λ records next stands reads.
    let none = ap (first_in c.args.reads.now) (sym (c.as_slice.ensures.value ∙ c.in_ok-counts.ensures))
    ∙ sym c.in-None.ensures in
    sym (agrees_with_none c.args.reads.now records next stands c.args.value c.args.label c.args.seen.now.counts reads none)

pub returns-clause-taken : goal.returns-clause-taken
returns-clause-taken c = λ records next stands reads same.
    let old = c.args.reads.now in
    let none = ap (first_in old) (sym (c.as_slice.ensures.value ∙ c.in_ok-counts.ensures)) ∙ sym c.in-None.ensures in
    let known = c.as_slice-in-None.ensures.value ∙ c.in_ok-counts.ensures in
    after_added old records next stands c.args.value c.args.label c.args.seen.now.counts reads c.add.new.self none
    (subst (λ cs. (other : List ℕ) → first_in c.add.new.self other
    ≡ (if have_same_counts other cs then Some (first_of c.args.value c.args.label) else first_in old other)) known
    c.in_ok-add-in-None.ensures.added)
