use Rattle.ra_rga_replica.proofs.Followers.{none_followed}
use Rattle.ra_rga_replica.proofs.cascade.free.Goals as goal

pub follow-requires : goal.follow-requires
follow-requires c =
    let asked = c.requires in
    let start = c.in_ok-followers in
    record {
      amidst = record {
        all = asked.all;
        records = asked.records;
        had = asked.had;
        settled = asked.settled;
        first = c.args.first;
        amidst = none_followed start.followers.labels.items start.followers.ready.items
            c.args.first asked.edit asked.elements asked.kept asked.edit_of asked.new asked.needed
            start.ensures.labels start.ensures.ready;
      };
    }

pub returns-in-Ok-clause-freed : goal.returns-in-Ok-clause-freed
returns-in-Ok-clause-freed c = λ all records had settled edit stand kept is new needs.
    let start = c.in_ok-followers in
    c.in-Ok.ensures.followed all records had settled c.args.first
    (none_followed start.followers.labels.items start.followers.ready.items c.args.first
    edit stand kept is new needs start.ensures.labels start.ensures.ready)
