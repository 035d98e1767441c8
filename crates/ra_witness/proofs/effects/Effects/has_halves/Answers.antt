use Rattle.std.proofs.Common.{◌≡◌, ℕ, false, sym, ap, ◌∙◌, inl, inr}
use Rattle.std.specs.Prelude.{◌⊎◌}
use Rattle.std.specs.List.{slice_get}
use Rattle.ra_labels.specs.TheoremTerms.{EachLabelIsWellFormed}
use Rattle.ra_labels.specs.HistorySoFar.{History}
use Rattle.ra_witness.specs.declared.overriding.Overriding as overriding
use Rattle.ra_witness.specs.declared.rga.Rga as rga
use Rattle.ra_witness.specs.declared.effects.Effects.{Effects}
use Rattle.ra_witness.specs.declared.effects.Effects.TheVariants.{Overriding, Rga}
use Rattle.ra_witness.specs.declared.effects.Effects.TheVariants as form
use Rattle.ra_unordered.specs.declared.unordered.Unordered as unordered
use Rattle.ra_witness.specs.Labels.{updates_by_number}
use Rattle.ra_witness.specs.Effects.{AreEffectsOf}
use Rattle.ra_labels.specs.declared.kind.Kind.TheVariants as variant
use Rattle.ra_witness.specs.Sequence.{has_query_half}
use Rattle.ra_witness.proofs.Halves.{none_has_halves}
use Rattle.ra_witness.proofs.CommutingKinds.{is_commuting, is_overriding, is_rga, is_list, is_unordered, not_or_set-overriding, not_list-overriding}
use Rattle.ra_witness.proofs.TakenUnordered.{has_one_state, one_no_or_set, one_no_list}
use Rattle.ra_witness.proofs.effects.Effects.has_halves.Goals as goal

pub returns-in-Commuting : goal.returns-in-Commuting
returns-in-Commuting c = λ past stands fits.
    let kept = c.in-Commuting.kept in
    let known = is_commuting c.args.self.now past stands kept c.in-Commuting.is in
    c.has_query_half.ensures
    ∙ ap (λ us. has_query_half (slice_get us c.args.label)) (c.deref.ensures.value ∙ known.states.labels)

-- a register, an LWW set, an RGA, any type and a multi-value register have no labels with two halves
no_halves : (self : Effects) (past : History) (n : ℕ) → AreEffectsOf self past
    → EachLabelIsWellFormed past.kind past.initial_replicas past.records
    → ((kept : overriding.Overriding) × (self ≡ Overriding kept)) ⊎ ((kept : rga.Rga) × (self ≡ Rga kept))
    ⊎ ((kept : unordered.Unordered) × (self ≡ form.Unordered kept))
    → false ≡ has_query_half (slice_get (updates_by_number past.records) n)
no_halves self past n stands fits (inl (kept, is)) =
    let one = (is_overriding self past stands kept is).one in
    sym (none_has_halves past.kind past.initial_replicas past.records n (not_or_set-overriding past.kind one)
    (not_list-overriding past.kind one) fits)
no_halves self past n stands fits (inr (inr (kept, is))) =
    let one = has_one_state kept past (is_unordered self past stands kept is) in
    sym (none_has_halves past.kind past.initial_replicas past.records n (one_no_or_set past.kind one)
    (one_no_list past.kind one) fits)
no_halves self past n stands fits (inr (inl (kept, is))) =
    let of : past.kind ≡ variant.Rga = (is_rga self past stands kept is).0 in
    sym (none_has_halves past.kind past.initial_replicas past.records n
    (λ other. let e : variant.Rga ≡ variant.OrSet = sym of ∙ other in cc (e))
    (λ other. let e : variant.Rga ≡ variant.List = sym of ∙ other in cc (e)) fits)

pub returns-in-Overriding : goal.returns-in-Overriding
returns-in-Overriding c = λ past stands fits.
    no_halves c.args.self.now past c.args.label stands fits c.in-Overriding.is

pub returns-in-Overriding-2 : goal.returns-in-Overriding-2
returns-in-Overriding-2 c = λ past stands fits.
    no_halves c.args.self.now past c.args.label stands fits c.in-Overriding.is

pub returns-in-Overriding-3 : goal.returns-in-Overriding-3
returns-in-Overriding-3 c = λ past stands fits.
    no_halves c.args.self.now past c.args.label stands fits c.in-Overriding.is

pub returns-in-List : goal.returns-in-List
returns-in-List c = λ past stands fits.
    let known = is_list c.args.self.now past stands c.in-List.kept c.in-List.is in
    c.has_update.ensures past.initial_replicas past.records known.1
