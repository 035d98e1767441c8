-- Lemmas on the places of one label more.
use Rattle.std.proofs.Common.{◌≡◌, ℕ, zero, suc, List, [], ◌∷◌, ◌++◌, Option, Some, None, length, refl, sym, ap, ◌∙◌, inl, inr}
use Rattle.std.specs.Prelude.{◌==◌, cond, option_map, option_and_then}
use Rattle.std.specs.List.{slice_get}
use Rattle.std.proofs.lemmas.Bool.{cases_eq, eq-eqb, ne_eqb}
use Rattle.ra_labels.specs.declared.label.Label.{Label}
use Rattle.ra_labels.specs.Records.{Records, label_count, label_at, next_label}
use Rattle.ra_labels.specs.HistorySoFar.{NextOperation, operate}
use Rattle.ra_monitor.specs.Monitor.{MonitorEntry}
use Rattle.ra_reported.specs.Reported.{operation_of, operation_at}
use Rattle.ra_reported.specs.Reading.{IsOperationAt}

-- the element pushed, and the others
pub at_end : {X : Type 0} (xs : List X) (x : X) → slice_get (xs ++ x ∷ []) (length xs) ≡ Some x
at_end [] x = refl
at_end (y ∷ ys) x = at_end ys x

pub elsewhere : {X : Type 0} (xs : List X) (x : X) (n : ℕ) → ¬ (n ≡ length xs)
    → slice_get (xs ++ x ∷ []) n ≡ slice_get xs n
elsewhere [] x zero other = absurd (other refl)
elsewhere [] x (suc n) other = refl
elsewhere (y ∷ ys) x zero other = refl
elsewhere (y ∷ ys) x (suc n) other = elsewhere ys x n (λ same. other (ap suc same))

pub none_listed : (log : List MonitorEntry) (places : List ℕ) → places ≡ []
    → (n : ℕ) → operation_at log places n ≡ option_map (λ (l : Label). l.op) (label_at [] n)
none_listed log places none n = ap (λ ps. operation_at log ps n) none ∙ nothing n
  where
    nothing : (n : ℕ) → operation_at log [] n ≡ None
    nothing zero = refl
    nothing (suc n) = refl

module _ (log : List MonitorEntry) (places : List ℕ) (records : Records) (next : NextOperation) (place : ℕ)
    (count : length places ≡ label_count records) (there : IsOperationAt log place (operate next)) where
  found : (n : ℕ) → option_map (λ (l : Label). l.op) (label_at (operate next ∷ records) n)
      ≡ option_map (λ (l : Label). l.op)
      (cond (label_count records == n) (Some (next_label records next.by next.op next.clock)) (label_at records n))
  found n = refl

  command_read : (entry : Option MonitorEntry) → option_map (λ (e : MonitorEntry). e.command) entry ≡ Some (operate next)
      → option_and_then (λ (e : MonitorEntry). operation_of e.command) entry ≡ Some next.op
  command_read (Some entry) is = ap (λ o. option_and_then operation_of o) is
  command_read None is = absurd (cc is)

  pub listed_more : ((n : ℕ) → operation_at log places n ≡ option_map (λ (l : Label). l.op) (label_at records n))
      → (n : ℕ) → operation_at log (places ++ place ∷ []) n
      ≡ option_map (λ (l : Label). l.op) (label_at (operate next ∷ records) n)
  listed_more listed n = elim (cases_eq n (length places)) [
    | inl is ↦
        ap (option_and_then (λ p. option_and_then (λ (e : MonitorEntry). operation_of e.command) (slice_get log p)))
        (ap (slice_get (places ++ place ∷ [])) is ∙ at_end places place)
        ∙ command_read (slice_get log place) there
        ∙ sym (ap (λ b. option_map (λ (l : Label). l.op)
        (cond b (Some (next_label records next.by next.op next.clock)) (label_at records n)))
        (eq-eqb (label_count records) n (sym (is ∙ count))))
    | inr other ↦
        ap (option_and_then (λ p. option_and_then (λ (e : MonitorEntry). operation_of e.command) (slice_get log p)))
        (elsewhere places place n other)
        ∙ listed n
        ∙ sym (ap (λ b. option_map (λ (l : Label). l.op)
        (cond b (Some (next_label records next.by next.op next.clock)) (label_at records n)))
        (ne_eqb (label_count records) n (λ same. other (sym same ∙ sym count))))
  ]
