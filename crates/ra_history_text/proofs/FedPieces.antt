-- Lemmas on a piece of a text that is consumed line by line.
use Rattle.std.proofs.Common.{◌≡◌, ℕ, ◌+◌, ◌≤◌, List, [], ◌∷◌, ◌++◌, length, Option, Some, None, Result, Ok, Err, IfErr, refl, sym, ap, subst, ◌∙◌, arith}
use Rattle.std.specs.Prelude.{MatchOption, OnOk}
use Rattle.std.proofs.lemmas.List.{append_assoc, append-nil}
use Rattle.ra_history_lines.specs.Fields.{IsCutAt}
use Rattle.ra_history_text.specs.Faults.{ending_told}
use Rattle.ra_history_text.specs.declared.fault.CheckFault.{CheckFault}
use Rattle.ra_history_text.specs.declared.fault.CheckFault.TheVariants.{NoMemory}
use Rattle.ra_history_text.specs.Output.{replies_of}
use Rattle.ra_history_text.specs.Sessions.{AddsReplies, StopsExtending, StopsClosing, StopsInside, IsFedUpTo, TakesMemory}
use Rattle.ra_history_text.specs.Text.{Said, Progress, Ending, stop_at, line_taken, taken}
use Rattle.ra_history_text.proofs.TakenBytes.{taken_then, stopped_then, taken_line}

-- ---- reply lines

pub adds_none : (said : Said) (out : List ℕ) → AddsReplies said said out out
adds_none said out = record { more = []; replies = sym (append-nil (replies_of said)); out = sym (append-nil out) }

pub adds_then : (a b c : Said) (x y z : List ℕ) → AddsReplies a b x y → AddsReplies b c y z → AddsReplies a c x z
adds_then a b c x y z p q = record {
  more = p.more ++ q.more;
  replies = q.replies ∙ ap (λ (bs : List ℕ). bs ++ q.more) p.replies ∙ append_assoc (replies_of a) p.more q.more;
  out = q.out ∙ ap (λ (bs : List ℕ). bs ++ q.more) p.out ∙ append_assoc x p.more q.more;
}

-- ---- lines of a piece

pub fed_none : (p : Progress) (piece out : List ℕ) → IsFedUpTo p p piece piece out out
fed_none p piece out = record { front = []; parts = refl; is_taken = refl; replied = adds_none p.said out }

-- one more line is consumed
pub fed_line : (first old new : Progress) (piece rest line behind out_first out_old out_new : List ℕ)
    → IsFedUpTo first old piece rest out_first out_old → IsCutAt 10 rest line behind
    → taken old (line ++ 10 ∷ []) ≡ Ok new
    → AddsReplies old.said new.said out_old out_new → IsFedUpTo first new piece behind out_first out_new
fed_line first old new piece rest line behind out_first out_old out_new fed cut is replied = record {
  front = fed.front ++ (line ++ 10 ∷ []);
  parts =
      fed.parts ∙ ap (λ (bs : List ℕ). fed.front ++ bs) (cut.parts ∙ sym (append_assoc line (10 ∷ []) behind))
      ∙ sym (append_assoc fed.front (line ++ 10 ∷ []) behind);
  is_taken = taken_then first old fed.front (line ++ 10 ∷ []) fed.is_taken ∙ is;
  replied = adds_then first.said old.said new.said out_first out_old out_new fed.replied replied;
}

-- ---- where the piece stops

-- the piece stops after the consumed part: at these bytes, or at a failed allocation
stops_behind : (first old : Progress) (piece rest part behind out_first out_old out_new : List ℕ) (fault : CheckFault)
    → IsFedUpTo first old piece rest out_first out_old
    → rest ≡ part ++ behind → out_new ≡ out_old → (o : Option Ending) → ending_told fault ≡ o
    → MatchOption o (fault ≡ NoMemory) (λ ending. taken old part ≡ Err (stop_at old.said ending))
    → StopsInside first piece out_first out_new fault
stops_behind first old piece rest part behind out_first out_old out_new fault fed parts same None told why =
    let front : taken first fed.front ≡ Ok (record { said = old.said; partial = old.partial }) = fed.is_taken in
    record {
      said = old.said;
      front = fed.front;
      behind = rest;
      parts = fed.parts;
      why = rw told (why, (old.partial, front));
      replied = subst (AddsReplies first.said old.said out_first) (sym same) fed.replied;
    }
stops_behind first old piece rest part behind out_first out_old out_new fault fed parts same (Some ending) told why =
    record {
      said = old.said;
      front = fed.front ++ part;
      behind = behind;
      parts = fed.parts ∙ ap (λ (bs : List ℕ). fed.front ++ bs) parts ∙ sym (append_assoc fed.front part behind);
      why = rw told (taken_then first old fed.front part fed.is_taken ∙ why);
      replied = subst (AddsReplies first.said old.said out_first) (sym same) fed.replied;
    }

-- the weaker statement on a failed allocation
memory_alone : (fault : CheckFault) (A : Type 0) (P : Ending → Type 0) (o : Option Ending)
    → MatchOption o ((fault ≡ NoMemory) × A) P
    → MatchOption o (fault ≡ NoMemory) P
memory_alone fault A P None why = why.0
memory_alone fault A P (Some ending) why = why

pub stop_line : (first old : Progress) (piece rest line behind out_first out_old out_new : List ℕ) (fault : CheckFault)
    → IsFedUpTo first old piece rest out_first out_old
    → IsCutAt 10 rest line behind → StopsClosing old line fault → out_new ≡ out_old
    → StopsInside first piece out_first out_new fault
stop_line first old piece rest line behind out_first out_old out_new fault fed cut stops same =
    stops_behind first old piece rest (line ++ 10 ∷ []) behind out_first out_old out_new fault fed
    (cut.parts ∙ sym (append_assoc line (10 ∷ []) behind)) same (ending_told fault) refl
    (memory_alone fault (old.partial ≡ [] → TakesMemory old.said line)
    (λ ending. taken old (line ++ 10 ∷ []) ≡ Err (stop_at old.said ending)) (ending_told fault) stops)

-- ---- a line that arrived in parts

-- a line that arrived in parts is too long, or its allocation fails
pub stop_gathering : (old : Progress) (last : List ℕ) (fault : CheckFault) (o : Option Ending)
    → (old.partial ≡ [] → length last ≤ 1048576 → ⊥)
    → MatchOption o ((fault ≡ NoMemory) × (length old.partial + length last ≤ 1048576))
    (λ ending. taken old last ≡ Err (stop_at old.said ending))
    → MatchOption o ((fault ≡ NoMemory) × (old.partial ≡ [] → TakesMemory old.said last))
    (λ ending. taken old (last ++ 10 ∷ []) ≡ Err (stop_at old.said ending))
stop_gathering old last fault None in_parts stops =
    (stops.0, λ nothing. absurd (in_parts nothing (omega (arith, stops.1))))
stop_gathering old last fault (Some ending) in_parts stops =
    stopped_then old (stop_at old.said ending) last (10 ∷ []) stops

-- a line that arrived in parts is rejected
pub stop_gathered : (old mid : Progress) (last : List ℕ) (fault : CheckFault) (o : Option Ending)
    → taken old last ≡ Ok mid → mid.said ≡ old.said
    → (old.partial ≡ [] → mid.partial ≡ last)
    → MatchOption o ((fault ≡ NoMemory) × TakesMemory mid.said mid.partial)
    (λ ending. line_taken mid.said mid.partial ≡ Err (stop_at mid.said ending))
    → MatchOption o ((fault ≡ NoMemory) × (old.partial ≡ [] → TakesMemory old.said last))
    (λ ending. taken old (last ++ 10 ∷ []) ≡ Err (stop_at old.said ending))
stop_gathered old mid last fault None is same whole stops = (
  stops.0,
  λ nothing. subst (λ (bs : List ℕ). TakesMemory old.said bs) (whole nothing)
      (subst (λ (s : Said). TakesMemory s mid.partial) same stops.1),
)
stop_gathered old mid last fault (Some ending) is same whole stops =
    taken_line old mid last is ∙ stops ∙ ap (λ (s : Said). Err (stop_at s ending)) same

-- ---- in the terms of the contracts

pub feed_taken : {T E : Type 0} (r : Result T E) (first old new : Progress) (piece rest out_first out_old : List ℕ)
    → IsFedUpTo first old piece rest out_first out_old
    → OnOk r (taken old rest ≡ Ok new) → OnOk r (taken first piece ≡ Ok new)
feed_taken (Ok x) first old new piece rest out_first out_old fed is =
    ap (taken first) fed.parts ∙ taken_then first old fed.front rest fed.is_taken ∙ is
feed_taken (Err e) first old new piece rest out_first out_old fed is = tt

pub feed_replied : {T E : Type 0} (r : Result T E) (first old new : Progress) (piece rest out_first out_old : List ℕ)
    → IsFedUpTo first old piece rest out_first out_old
    → new.said ≡ old.said → OnOk r (AddsReplies first.said new.said out_first out_old)
feed_replied (Ok x) first old new piece rest out_first out_old fed same =
    subst (λ (s : Said). AddsReplies first.said s out_first out_old) (sym same) fed.replied
feed_replied (Err e) first old new piece rest out_first out_old fed same = tt

pub feed_stops : {T : Type 0} (r : Result T CheckFault) (first old : Progress) (piece rest out_first out_old : List ℕ)
    → IsFedUpTo first old piece rest out_first out_old
    → IfErr r (StopsExtending old rest) → IfErr r (StopsInside first piece out_first out_old)
feed_stops (Ok x) first old piece rest out_first out_old fed stops = tt
feed_stops (Err fault) first old piece rest out_first out_old fed stops =
    stops_behind first old piece rest rest [] out_first out_old out_old fault fed (sym (append-nil rest)) refl
    (ending_told fault) refl
    (memory_alone fault (length old.partial + length rest ≤ 1048576)
    (λ ending. taken old rest ≡ Err (stop_at old.said ending)) (ending_told fault) stops)
