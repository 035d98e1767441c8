-- Lemmas on the list of a replica to which no label was delivered.
use Rattle.std.proofs.Common.{◌≡◌, ℕ, ◌<◌, ◌≤◌, Bool, true, false, List, [], ◌∷◌, length, get_or, set, refl, sym, ◌∙◌, subst, inl, arith}
use Rattle.std.proofs.lemmas.Bool.{false≢true}
use Rattle.std.proofs.lemmas.List.{get_or-set_same, get_or-set_other}
use Rattle.ra_labels.specs.NamedOrder.{lowest_rank}
use Rattle.ra_rga_elements.specs.ElementList.{root, is_marked}
use Rattle.ra_rga_replica.specs.PendingLabels.{labels_under}
use Rattle.ra_rga_replica.specs.ReplicaList.{is_shown_element, IsListOf}
use Rattle.std.specs.Prelude.{Contains}
use Rattle.ra_labels.specs.TheoremTerms.{HasNoDuplicates}
use Rattle.ra_labels.specs.Pending.{is_present_element}
use Rattle.ra_labels.proofs.Members.{none_there}

root_alone : (marks : List Bool) (number : ℕ) → 0 < length marks → ((k : ℕ) → is_marked marks k ≡ false) → 1 ≤ number
    → is_marked (set marks 0 true) number ≡ false
root_alone marks number some none beyond =
    get_or-set_other marks 0 number true false (λ is. omega (arith, is)) ∙ none number

starts_with : (marks : List Bool) (waiting : List (ℕ × List ℕ)) (replica : ℕ)
    → 0 < length marks → ((k : ℕ) → is_marked marks k ≡ false) → waiting ≡ []
    → IsListOf (record { marks = set marks 0 true; shown = []; greatest = lowest_rank; waiting = waiting })
    (root ∷ []) [] [] replica
starts_with marks waiting replica some none empty = record {
  settled = λ n. false;
  kept = record {
    settles = record {
      had_them = λ n it. it;
      where_needed = λ l u l_in makes it. absurd (none_there l l_in);
    };
    shown = record {
      shown = λ number known.
          let zero_it : number ≡ 0 = omega (arith, known) in
          subst (λ (k : ℕ). false ≡ is_shown_element (get_or (root ∷ []) k root).element []) (sym zero_it) refl;
      others = λ number beyond. refl;
    };
    there = record {
      there = λ number known.
          let zero_it : number ≡ 0 = omega (arith, known) in
          subst (λ (k : ℕ). is_marked (set marks 0 true) k ≡ is_present_element (get_or (root ∷ []) k root).element [])
          (sym zero_it) (get_or-set_same marks 0 true false some);
      others = λ number beyond. root_alone marks number some none (omega (arith, beyond));
    };
    waiting_labels = record {
      waits = λ n d d_is it fails. absurd (false≢true it);
      only =
          λ number n found.
          absurd (none_there n (subst (λ (w : List (ℕ × List ℕ)). Contains (labels_under w number) n) empty found));
      once = λ number. subst (λ (w : List (ℕ × List ℕ)). HasNoDuplicates (labels_under w number)) (sym empty) tt;
    };
  };
  greatest = record {
    above = λ l t l_in it t_is. absurd (none_there l l_in);
    own = inl refl;
  };
}

pub starts : (shown marks next : List Bool) (waiting : List (ℕ × List ℕ)) (replica : ℕ) → shown ≡ []
    → 0 < length marks → ((k : ℕ) → is_marked marks k ≡ false) → next ≡ set marks 0 true → waiting ≡ []
    → IsListOf (record { marks = next; shown = shown; greatest = lowest_rank; waiting = waiting }) (root ∷ []) [] []
    replica
starts shown marks next waiting replica is some none put empty =
    subst (λ (ss : List Bool). IsListOf (record { marks = next; shown = ss; greatest = lowest_rank; waiting = waiting })
    (root ∷ []) [] [] replica) (sym is)
    (subst (λ (ms : List Bool). IsListOf (record { marks = ms; shown = []; greatest = lowest_rank; waiting = waiting })
    (root ∷ []) [] [] replica) (sym put) (starts_with marks waiting replica some none empty))
