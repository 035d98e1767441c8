-- Lemmas on the first reads that are kept of an object of any type, after one more record.
use Rattle.std.proofs.Common.{◌≡◌, ◌↔◌, ℕ, ◌<◌, ◌+◌, eqb, Bool, true, false, List, [], ◌∷◌, get_or, cond, refl, sym, ap, ◌∙◌, subst, inl, inr, arith}
use Rattle.std.specs.Prelude.{◌==◌, Option, Some, None, Contains, if◌then◌else◌}
use Rattle.std.proofs.lemmas.Bool.{false≢true, cases_Bool, cases_eq, cond-true, cond-false, eq-eqb, ne_eqb, eqb-true, false_from_ne_true}
use Rattle.std.proofs.lemmas.Option.{none-some, same_Some}
use Rattle.std.proofs.lemmas.List.Elements.{All-contains}
use Rattle.ra_labels.specs.declared.operation.Op.{Op}
use Rattle.ra_labels.specs.declared.label.Label.{Label}
use Rattle.ra_labels.specs.declared.command.Command.TheVariants.{Operate, Deliver, Join}
use Rattle.ra_labels.specs.Records.{Records, label_count, labels_of, next_label}
use Rattle.ra_labels.specs.Visibility.{has_delivered, sees}
use Rattle.ra_labels.specs.Explained.{value_read}
use Rattle.ra_labels.specs.Agreement.{sees_the_same, reads_agree}
use Rattle.ra_labels.specs.HistorySoFar.{NextOperation, operate, label_of}
use Rattle.ra_labels.proofs.Counted.{numbers_below_count}
use Rattle.ra_labels.proofs.Members.{head_or_behind, at_head, behind_head}
use Rattle.ra_any_model.proofs.TheoremIndex.{sees_the_same_iff_delivered, new_read_decides_agreement-read, new_read_decides_agreement-other}
use Rattle.ra_any_reads.specs.declared.first.First.{First}
use Rattle.ra_any_reads.specs.Counts.{have_same_counts, HaveSameCounts}
use Rattle.ra_any_reads.specs.Firsts.{first_in, first_of}
use Rattle.ra_any_reads.proofs.TheoremIndex.{same_counts_iff_each_count_same, first_read_by_counts}
use Rattle.ra_unordered.specs.FirstReads.{AreCountsOf, IsReadOf, IsFoundIn, AreFirstReadsOf, IsNextRead}
use Rattle.ra_unordered.proofs.Counts.{older_sees, newest_sees, counts_later, same_seen, same_counts, counts_alike}

-- a label has a number below the count
number_below : (records : Records) (label : Label) → Contains (labels_of records) label
    → label.number < label_count records
number_below records label there =
    All-contains (λ l. l.number < label_count records) (labels_of records) label (numbers_below_count records) there

read_below : (records : Records) (n value : ℕ) → IsReadOf records n value → n < label_count records
read_below records n value read = omega (arith, number_below records read.label read.there, read.number)

none_read : (value : ℕ) (n : ℕ) → ¬ IsReadOf [] n value
none_read value n read = absurd (omega (arith, read.there.1))

-- without records nothing was read
pub first_none : AreFirstReadsOf [] []
first_none = record {
  found = λ n value read. absurd (none_read value n read);
  from = λ counts first is. absurd (none-some first is);
}

-- a read among some labels is one among the same labels
read_among : (before after : Records) (n value : ℕ) → labels_of before ≡ labels_of after → IsReadOf before n value
    → IsReadOf after n value
read_among before after n value same read = record {
  label = read.label;
  there = subst (λ labels. Contains labels read.label) same read.there;
  number = read.number;
  read = read.read;
}

-- the first reads are the same where the labels are, and what they see
same_labels : (firsts : List (List ℕ × First)) (before after : Records) → labels_of before ≡ labels_of after
    → ((n : ℕ) (counts : List ℕ) → AreCountsOf before n counts → AreCountsOf after n counts)
    → AreFirstReadsOf firsts before → AreFirstReadsOf firsts after
same_labels firsts before after same seen stands = record {
  found = λ m value read.
      let at = stands.found m value (read_among after before m value (sym same) read) in
      record {
        counts = at.counts;
        first = at.first;
        seen = seen m at.counts at.seen;
        is = at.is;
        value_is = at.value_is;
      };
  from = λ counts first is.
      let (read, counted) = stands.from counts first is in
      (read_among before after first.label first.value same read, seen first.label counts counted);
}

-- deliveries and joins change neither labels nor what they see
pub after_delivery : (firsts : List (List ℕ × First)) (before : Records) (to n : ℕ) → AreFirstReadsOf firsts before
    → AreFirstReadsOf firsts (Deliver to n ∷ before)
after_delivery firsts before to n = same_labels firsts before (Deliver to n ∷ before) refl
    (λ m counts seen. record { first = seen.first; issued = seen.issued })

pub after_join : (firsts : List (List ℕ × First)) (before : Records) (joined from : ℕ) → AreFirstReadsOf firsts before
    → AreFirstReadsOf firsts (Join joined from ∷ before)
after_join firsts before joined from = same_labels firsts before (Join joined from ∷ before) refl
    (λ m counts seen. record { first = seen.first; issued = seen.issued })

module _ (firsts : List (List ℕ × First)) (before : Records) (next : NextOperation)
    (stands : AreFirstReadsOf firsts before) where
  abbrev now : Records
  now = operate next ∷ before

  -- an earlier read, found among those of before
  found_earlier : (n value : ℕ) → IsReadOf before n value → IsFoundIn firsts now n value
  found_earlier n value read =
      let at = stands.found n value read in
      record {
        counts = at.counts;
        first = at.first;
        seen = counts_later before next n at.counts (read_below before n value read) at.seen;
        is = at.is;
        value_is = at.value_is;
      }

  from_earlier : (counts : List ℕ) (first : First) → first_in firsts counts ≡ Some first
      → IsReadOf now first.label first.value × AreCountsOf now first.label counts
  from_earlier counts first is =
      let (read, seen) = stands.from counts first is in (
        record {
          label = read.label;
          there = behind_head (label_of before next) (labels_of before) read.label read.there;
          number = read.number;
          read = read.read;
        },
        counts_later before next first.label counts (read_below before first.label first.value read) seen,
      )

  -- a read is the newest label, or an earlier one
  newest_or_earlier : (P : Type 0) (n value : ℕ) → IsReadOf now n value
      → (value_read next.op ≡ Some value → label_count before ≡ n → P) → (IsReadOf before n value → P) → P
  newest_or_earlier P n value read newest earlier =
      elim (head_or_behind (label_of before next) (labels_of before) read.label read.there) [
        | inl here ↦ newest (ap (λ (l : Label). value_read l.op) here ∙ read.read)
            (ap (λ (l : Label). l.number) here ∙ read.number)
        | inr behind ↦ earlier (record {
          label = read.label;
          there = behind;
          number = read.number;
          read = read.read;
        })
      ]

  -- an operation that read nothing changes nothing
  pub after_other : value_read next.op ≡ None → AreFirstReadsOf firsts now
  after_other none = record {
    found = λ n value read. newest_or_earlier (IsFoundIn firsts now n value) n value read
        (λ is number. absurd (none-some value (sym none ∙ is))) (found_earlier n value);
    from = from_earlier;
  }

  module _ (value n : ℕ) (counts : List ℕ) (reads : IsNextRead before next value n counts) where
    -- an earlier read that sees the same updates is found by the same counts
    found_by_same : (earlier : Label) (other : ℕ) → Contains (labels_of before) earlier
        → value_read earlier.op ≡ Some other → sees_the_same before next.by earlier.number ≡ true
        → (first : First) × (first_in firsts counts ≡ Some first) × (first.value ≡ other)
    found_by_same earlier other there read same =
        let at = stands.found earlier.number other
        (record { label = earlier; there = there; number = refl; read = read }) in
        let below = number_below before earlier there in
        let later = counts_later before next earlier.number at.counts below at.seen in
        let each = (sees_the_same_iff_delivered before next.by earlier.number).0 same in
        let alike = same_counts now (label_count before) earlier.number counts at.counts reads.seen later
        (λ k. newest_sees before next k ∙ sym (each k) ∙ sym (older_sees before next earlier.number k below)) in
        (at.first, first_read_by_counts firsts counts at.counts alike ∙ at.is, at.value_is)

    agree_if : ((earlier : Label) (other : ℕ) → Contains (labels_of before) earlier
        → value_read earlier.op ≡ Some other → sees_the_same before next.by earlier.number ≡ true → value ≡ other)
        → reads_agree value_read now ≡ true
    agree_if each = (new_read_decides_agreement-read value_read before next.by next.op next.clock value reads.read).1
        (reads.agree, each)

    -- if none is found by the counts, the read agrees with all
    pub agrees_with_none : first_in firsts counts ≡ None → reads_agree value_read now ≡ true
    agrees_with_none none = agree_if (λ earlier other there read same.
        let (first, is, value_is) = found_by_same earlier other there read same in
        absurd (none-some first (sym none ∙ is)))

    -- a first read with another value disagrees
    disagrees : (first : First) → first_in firsts counts ≡ Some first → reads_agree value_read now ≡ true
        → value ≡ first.value
    disagrees first is agree =
        let (read, seen) = stands.from counts first is in
        let below = read_below before first.label first.value read in
        let later = counts_later before next first.label counts below seen in
        let alike = same_seen now first.label (label_count before) counts counts later reads.seen (λ of. refl) in
        let same : sees_the_same before next.by first.label ≡ true =
        (sees_the_same_iff_delivered before next.by first.label).1
        (λ k. sym (older_sees before next first.label k below) ∙ alike k ∙ newest_sees before next k) in
        ((new_read_decides_agreement-read value_read before next.by next.op next.clock value reads.read).0 agree).1
        read.label first.value read.there read.read
        (subst (λ l. sees_the_same before next.by l ≡ true) (sym read.number) same)

    -- if one is found, the read agrees exactly if it returned the same value
    pub agrees_with_first : (first : First) → first_in firsts counts ≡ Some first
        → (first.value == value) ≡ reads_agree value_read now
    agrees_with_first first is = elim (cases_eq first.value value) [
      | inl same ↦
          eq-eqb first.value value same
          ∙ sym (agree_if (λ earlier other there read alike.
          let (found, found_is, value_is) = found_by_same earlier other there read alike in
          let one : first ≡ found = same_Some first found (sym is ∙ found_is) in
          sym same ∙ ap (λ (f : First). f.value) one ∙ value_is))
      | inr differs ↦
          ne_eqb first.value value differs
          ∙ sym (false_from_ne_true (reads_agree value_read now) (λ agree. differs (sym (disagrees first is agree))))
    ]

    -- the reads after one whose value was found
    pub after_known : (first : First) → first_in firsts counts ≡ Some first → first.value ≡ value
        → AreFirstReadsOf firsts now
    after_known first is same = record {
      found = λ m other read. newest_or_earlier (IsFoundIn firsts now m other) m other read
          (λ now_read number. record {
            counts = counts;
            first = first;
            seen = subst (λ l. AreCountsOf now l counts) number reads.seen;
            is = is;
            value_is = same ∙ same_Some value other (sym reads.read ∙ now_read);
          })
          (found_earlier m other);
      from = from_earlier;
    }

    -- and after one that was added
    module _ (new : List (List ℕ × First)) (none : first_in firsts counts ≡ None)
        (added : (other : List ℕ) → first_in new other
        ≡ (if have_same_counts other counts then Some (first_of value n) else first_in firsts other)) where
      kept_earlier : (m other : ℕ) → IsReadOf before m other → IsFoundIn new now m other
      kept_earlier m other read =
          let at = found_earlier m other read in
          record {
            counts = at.counts;
            first = at.first;
            seen = at.seen;
            is = elim (cases_Bool (have_same_counts at.counts counts)) [
              | inl same ↦
                  let alike = (same_counts_iff_each_count_same at.counts counts).0 same in
                  absurd (none-some at.first (sym none ∙ sym (first_read_by_counts firsts at.counts counts alike) ∙ at.is))
              | inr differs ↦
                  added at.counts
                  ∙ cond-false (have_same_counts at.counts counts) (Some (first_of value n)) (first_in firsts at.counts)
                  differs
                  ∙ at.is
            ];
            value_is = at.value_is;
          }

      pub after_added : AreFirstReadsOf new now
      after_added = record {
        found = λ m other read. newest_or_earlier (IsFoundIn new now m other) m other read
            (λ now_read number. record {
              counts = counts;
              first = first_of value n;
              seen = subst (λ l. AreCountsOf now l counts) number reads.seen;
              is = added counts
                  ∙ cond-true (have_same_counts counts counts) (Some (first_of value n)) (first_in firsts counts)
                  ((same_counts_iff_each_count_same counts counts).1 (λ of. refl));
              value_is = same_Some value other (sym reads.read ∙ now_read);
            })
            (kept_earlier m other);
        from = λ other first is. elim (cases_Bool (have_same_counts other counts)) [
          | inl same ↦
              let alike = (same_counts_iff_each_count_same other counts).0 same in
              let it : first_of value n ≡ first = same_Some (first_of value n) first
              (sym (cond-true (have_same_counts other counts) (Some (first_of value n)) (first_in firsts other) same)
              ∙ sym (added other) ∙ is) in
              subst (λ (f : First). IsReadOf now f.label f.value × AreCountsOf now f.label other) it (
                record {
                  label = label_of before next;
                  there = at_head (label_of before next) (labels_of before) (label_of before next) refl;
                  number = sym reads.number;
                  read = reads.read;
                },
                subst (λ l. AreCountsOf now l other) (sym reads.number)
                    (counts_alike now (label_count before) counts other reads.seen (λ of. sym (alike of))),
              )
          | inr differs ↦
              from_earlier other first
              (sym (cond-false (have_same_counts other counts) (Some (first_of value n)) (first_in firsts other) differs)
              ∙ sym (added other) ∙ is)
        ];
      }
