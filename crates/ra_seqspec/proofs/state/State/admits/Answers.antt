use Rattle.ra_seqspec.proofs.Queries.{asked_identifiers, asked_elements, asked}
use Rattle.ra_seqspec.proofs.state.State.admits.Goals as goal

pub returns-in-LwwSet-LwwRead : goal.returns-in-LwwSet-LwwRead
returns-in-LwwSet-LwwRead c =
    asked c.self.inside.form c.in-LwwSet-LwwRead.elements _ _ c.in-LwwSet-LwwRead.answer _ _ c.self.invariant
    c.self.view_is c.in-LwwSet-LwwRead.is-0 c.in-LwwSet-LwwRead.is-1 c.requires c.as_slice.ensures
    c.are_elements.ensures

pub returns-in-OrSet-ReadIds : goal.returns-in-OrSet-ReadIds
returns-in-OrSet-ReadIds c =
    asked_identifiers c.self.inside.form c.in-OrSet-ReadIds.pairs _ _ c.in-OrSet-ReadIds.element c.in-OrSet-ReadIds.ids
    _ _ c.self.invariant c.self.view_is c.in-OrSet-ReadIds.is-0 c.in-OrSet-ReadIds.is-1 c.requires
    c.as_slice-in-OrSet-ReadIds.ensures c.are_identifiers.ensures

pub returns-in-OrSet-OrRead : goal.returns-in-OrSet-OrRead
returns-in-OrSet-OrRead c =
    asked_elements c.self.inside.form c.in-OrSet-OrRead.pairs _ _ c.in-OrSet-OrRead.answer _ _ c.self.invariant
    c.self.view_is c.in-OrSet-OrRead.is-0 c.in-OrSet-OrRead.is-1 c.requires c.as_slice-in-OrSet-OrRead.ensures
    c.are_elements-in-OrSet-OrRead.ensures
