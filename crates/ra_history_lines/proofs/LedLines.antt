-- Lemmas on lines that begin with the name of a replica and a space.
use Rattle.std.proofs.Common.{◌≡◌, ℕ, ◌<◌, ◌≤◌, ◌≢◌, true, List, [], ◌∷◌, ◌++◌, length, Option, Some, Result, Ok, refl, sym, ap, subst, ◌∙◌, arith}
use Rattle.std.specs.Prelude.{slice_get, IfOk, codes, option_map}
use Rattle.std.specs.Global as global
use Rattle.std.specs.List.{AllByRecursion}
use Rattle.std.proofs.lemmas.List.{length-map}
use Rattle.std.proofs.lemmas.List.Elements.{All-from_recursion}
use Rattle.ra_labels.specs.declared.kind.Kind.{Kind}
use Rattle.ra_labels.specs.declared.command.Command.{Command}
use Rattle.ra_labels.specs.declared.command.Command.TheVariants.{Deliver}
use Rattle.ra_history_lines.specs.declared.format.Format.{Format}
use Rattle.ra_history_lines.specs.FieldBytes.{IsLedBy, only_number, behind_name_read}
use Rattle.ra_history_lines.specs.Grammar.{fields_of, is_name, Spells}
use Rattle.ra_history_lines.specs.Names.{bytes_of_each}
use Rattle.ra_history_lines.specs.NamesKept.{NamesKept}
use Rattle.ra_history_lines.specs.Reading.{command_read, may_have_list, replica_read}
use Rattle.ra_history_lines.proofs.Commands.{reader_found}
use Rattle.ra_history_lines.proofs.FieldBytes.{delivery_only}
use Rattle.ra_history_lines.proofs.NameLists.{place_of_key, placed_is_name, replica_is_read, replica_leads}
use Rattle.ra_history_lines.proofs.NewNames.{name_bytes}
use Rattle.ra_history_lines.proofs.Pieces.{fields-cut, some_piece}

no_space : (bytes : List ℕ) → AllByRecursion (λ b. (48 ≤ b) × (b ≤ 122)) bytes → AllByRecursion (λ b. b ≢ 32) bytes
no_space [] each = tt
no_space (b ∷ bytes) each = ((λ same. omega (arith, same, each.0)), no_space bytes each.1)

-- a line that begins with the key at this place and a space
pub led : (keys : List (global.Vec ℕ)) (names : List (List ℕ)) (line rest : List ℕ) (at : ℕ) (key : global.Vec ℕ)
    → NamesKept keys → bytes_of_each keys ≡ names → slice_get keys at ≡ Some key → at < length keys
    → line ≡ key.items ++ 32 ∷ rest → IsLedBy names line at rest
led keys names line rest at key kept view there within parts =
    let place = place_of_key keys key.items at key kept there refl in
    let is : is_name key.items ≡ true =
    placed_is_name (bytes_of_each keys) key.items kept.each
    (omega (arith, place, within, length-map keys (λ name. name.items))) in
    let first = All-from_recursion (λ b. b ≢ 32) key.items (no_space key.items (name_bytes key.items is).1) in
    record {
      name = key.items;
      who = subst (λ (ns : List (List ℕ)). replica_read ns key.items ≡ Some at) view
          (sym (replica_is_read (bytes_of_each keys) key.items at is place));
      parts = fields-cut line key.items rest (record { parts = parts; first = first });
    }

-- the fields of such a line, where those behind the name are known
led_at : {E : Type 0} (format : Format) (kind : Kind) (names : List (List ℕ)) (entry : List (List ℕ)) (replica : ℕ)
    (name : List ℕ) (fields : List (List ℕ)) (r : Result (Option Command) E)
    → entry ≡ name ∷ fields → replica_read names name ≡ Some replica → (fields ≡ [] → ⊥)
    → IfOk r (λ c. c ≡ behind_name_read kind replica fields) → IfOk r (λ c. c ≡ command_read format kind names entry)
led_at format kind names entry replica name [] r parts who some holds = absurd (some refl)
led_at format kind names entry replica name (word ∷ fields) r parts who some holds =
    replica_leads format kind names name word fields entry replica r parts who holds

pub led_is_read : {E : Type 0} (format : Format) (kind : Kind) (names : List (List ℕ)) (line : List ℕ) (replica : ℕ)
    (rest : List ℕ) (r : Result (Option Command) E)
    → IsLedBy names line replica rest → IfOk r (λ c. c ≡ behind_name_read kind replica (fields_of rest))
    → IfOk r (λ c. c ≡ command_read format kind names (fields_of line))
led_is_read format kind names line replica rest r leads holds =
    led_at format kind names (fields_of line) replica leads.name (fields_of rest) r leads.parts leads.who
    (some_piece 32 rest) holds

same_list : (kind : Kind) (name : List ℕ) (fields : List (List ℕ))
    → may_have_list kind ([] ∷ fields) ≡ may_have_list kind (name ∷ fields)
same_list kind name [] = refl
same_list kind name (word ∷ fields) = refl

pub led_may_have_list : (kind : Kind) (names : List (List ℕ)) (line : List ℕ) (replica : ℕ) (rest : List ℕ)
    → IsLedBy names line replica rest → may_have_list kind ([] ∷ fields_of rest) ≡ true
    → may_have_list kind (fields_of line) ≡ true
led_may_have_list kind names line replica rest leads may =
    ap (may_have_list kind) leads.parts ∙ sym (same_list kind leads.name (fields_of rest)) ∙ may

-- the delivery of such a line
pub led_delivery : (format : Format) (kind : Kind) (names : List (List ℕ)) (line : List ℕ) (replica : ℕ)
    (bytes behind : List ℕ) (label : ℕ)
    → IsLedBy names line replica bytes → bytes ≡ codes "got" ++ 32 ∷ behind
    → Some label ≡ only_number (fields_of behind)
    → command_read format kind names (fields_of line) ≡ Some (Deliver replica label)
led_delivery format kind names line replica bytes behind label leads parts is =
    let read : Some (Deliver replica label) ≡ behind_name_read kind replica (fields_of bytes) =
    ap (option_map (λ l. Deliver replica l)) is ∙ sym (delivery_only replica (fields_of behind))
    ∙ sym (ap (λ (bs : List ℕ). behind_name_read kind replica (fields_of bs)) parts) in
    sym (led_is_read {E = ℕ} format kind names line replica bytes (Ok (Some (Deliver replica label))) leads read)

pub spells_delivery : (format : Format) (kind : Kind) (names : List (List ℕ)) (line : List ℕ) (replica label : ℕ)
    → command_read format kind names (fields_of line) ≡ Some (Deliver replica label)
    → Spells format kind names line (Deliver replica label)
spells_delivery format kind names line replica label read =
    reader_found {E = ℕ} format kind names line (Ok (Some (Deliver replica label))) (sym read)
