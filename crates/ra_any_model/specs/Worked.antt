-- Histories of the worked examples, newest command first.
use Rattle.std.specs.Prelude.{ℕ, [], ◌∷◌, None}
use Rattle.ra_labels.specs.declared.operation.Op.TheVariants.{AnyUpdate, AnyRead}
use Rattle.ra_labels.specs.declared.command.Command.{Command}
use Rattle.ra_labels.specs.declared.command.Command.TheVariants.{Operate, Deliver}
use Rattle.ra_labels.specs.Records.{Records}

abbrev pub update_by : ℕ → Command
update_by replica = Operate replica AnyUpdate None

abbrev pub read_by : ℕ → ℕ → Command
read_by replica value = Operate replica (AnyRead value) None

-- `a update`; `b got 0`; `a read 7`; `b read 7`
abbrev pub read_alike : Records
read_alike = read_by 1 7 ∷ read_by 0 7 ∷ Deliver 1 0 ∷ update_by 0 ∷ []

-- `a update`; `b update`; `a got 1`; `b got 0`; `a read 7`; `b read 8`
abbrev pub read_apart : Records
read_apart =
    read_by 1 8 ∷ read_by 0 7 ∷ Deliver 1 0 ∷ Deliver 0 1 ∷ update_by 1 ∷ update_by 0 ∷ []

-- `a update`; `a read 7`; `b update`; `a read 8`
abbrev pub read_again : Records
read_again = read_by 0 8 ∷ update_by 1 ∷ read_by 0 7 ∷ update_by 0 ∷ []

-- `a update`; `a read 7`; `b read 7`: b reads what the update led to before its delivery
abbrev pub read_too_soon : Records
read_too_soon = read_by 1 7 ∷ read_by 0 7 ∷ update_by 0 ∷ []
