-- Vocabulary of the theorems about a text and its output.
use Rattle.std.specs.Prelude.{◌≡◌, ◌==◌, ◌-◌, ◌<◌, ℕ, List, ◌++◌, length, count_by, flat_map, ⊤}
use Rattle.ra_labels.specs.declared.reply.Reply.{Reply}
use Rattle.ra_history_text.specs.declared.fault.CheckFault.{CheckFault}
use Rattle.ra_history_text.specs.declared.fault.CheckFault.TheVariants.{Read, Endless}
use Rattle.ra_history_lines.specs.Replies.{reply_line}

-- the number of line feeds, which is that of whole lines
abbrev pub line_feeds : List ℕ → ℕ
line_feeds bytes = count_by (λ byte. byte == 10) bytes

-- holds if the fault is one of the reader
abbrev pub IsOfReader : CheckFault → Type 0
IsOfReader Read = ⊤
IsOfReader Endless = ⊤
IsOfReader _ = ⊥

-- holds if all bytes begin with this part and there are more
abbrev pub IsLess : List ℕ → List ℕ → Type 0
IsLess part all = (more : List ℕ) × (all ≡ part ++ more) × (0 < length more)

-- holds if the bytes grow by a part of the others, and not by all of them
abbrev pub GrowsByPart : List ℕ → List ℕ → List ℕ → Type 0
GrowsByPart old new all = (part : List ℕ) × (new ≡ old ++ part) × IsLess part all

-- holds if the bytes grow by whole reply lines
abbrev pub GrowsByReplies : List ℕ → List ℕ → Type 0
GrowsByReplies old new = (replies : List Reply) × (new ≡ old ++ flat_map reply_line replies)

-- holds if the bytes grow by one reply line for each whole line that was read except the first two
abbrev pub AnswersEach : List ℕ → List ℕ → List ℕ → Type 0
AnswersEach read old new =
    (replies : List Reply) × (new ≡ old ++ flat_map reply_line replies) × (length replies ≡ line_feeds read - 2)
