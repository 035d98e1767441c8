-- The effects of nothing.
use Rattle.std.proofs.Common.{◌≡◌, ℕ, List, [], length, replicate, Option, sym, ap, ◌∙◌, subst, inl, inr, arith}
use Rattle.std.specs.Prelude.{Contains}
use Rattle.std.proofs.lemmas.Bool.{cases_lt}
use Rattle.std.proofs.lemmas.List.{length-replicate, get_or-replicate, get_or_past}
use Rattle.ra_labels.proofs.Members.{none_there}
use Rattle.ra_list_replica.specs.declared.mark.Mark.TheVariants.{Missing}
use Rattle.ra_list_witness.specs.ListWitness.{ListWitness, view_at, mark_of}
use Rattle.ra_list_witness.proofs.Views.{element_there}
use Rattle.ra_labels.specs.FreeList.{empty_list}
use Rattle.ra_list_effects.specs.declared.list_effects.Change.{Change}
use Rattle.ra_list_effects.specs.Past.{empty_past, state_at}
use Rattle.ra_list_effects.specs.Effects.{AreEffectsOf}
use Rattle.ra_list_effects.specs.Views.{IsViewOf}

pub empty_state : (n replica : ℕ) → state_at (replicate n empty_list) replica ≡ empty_list
empty_state n replica = elim (cases_lt replica n) [
  | inl within ↦ get_or-replicate n replica empty_list empty_list within
  | inr past ↦ get_or_past (replicate n empty_list) replica empty_list (omega (arith, past, length-replicate n empty_list))
]

pub first_effects : (witness : ListWitness) (changes : List (Option Change)) (n : ℕ) → witness.elements ≡ []
    → witness.edges ≡ [] → length witness.views ≡ n
    → ((replica number : ℕ) → mark_of witness.views replica number ≡ Missing) → changes ≡ []
    → AreEffectsOf (record { witness = witness; changes = changes }) (empty_past n)
first_effects witness changes n elements edges views marks none =
    let nothing : (x : ℕ) → ¬ Contains witness.elements x = λ x there. none_there x (subst (λ xs. Contains xs x) elements there) in
    record {
      once = λ x m n is other. absurd (nothing x (element_there witness.elements m x is));
      elements = λ x. ((λ there. absurd (nothing x there)), (λ there. absurd (none_there x there)));
      replicas = views ∙ sym (length-replicate n empty_list);
      views = λ replica. subst (λ s. IsViewOf witness.elements (view_at witness.views replica).marks s)
          (sym (empty_state n replica)) (record {
            marked = λ number x is. absurd (nothing x (element_there witness.elements number x is));
            only = λ x there. absurd (none_there x there);
            among = λ x there. absurd (none_there x there);
            beyond = λ number past. marks replica number;
          });
      changes = record {
        as_many = ap length none;
        each = λ k within. absurd (omega arith);
      };
      required = λ edge there. absurd (none_there edge (subst (λ es. Contains es edge) edges there));
      has = λ edge there. absurd (none_there edge there);
    }
