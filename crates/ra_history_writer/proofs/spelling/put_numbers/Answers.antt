use Rattle.std.proofs.Common.{◌≡◌, ◌∷◌, rules}
use Rattle.ra_history_writer.proofs.PutBytes.{list_put_on, all_small}
use Rattle.ra_history_writer.proofs.spelling.put_numbers.Goals as goal

pub returns-in_ok-put_number-in-Some-clause-put : goal.returns-in_ok-put_number-in-Some-clause-put
returns-in_ok-put_number-in-Some-clause-put c =
    let parts : c.args.numbers.now ≡ c.in-Some.first.now ∷ c.in-Some.more.now = search rules in
    list_put_on c.put_more.result c.args.out.now.items c.put_number.new.out.items c.put_more.new.out.items
    c.in-Some.first.now c.in-Some.more.now c.args.numbers.now parts
    c.in_ok-put_number-in-Some.ensures.put c.put_more.ensures

pub returns-in_ok-put_number-in-Some-clause-small : goal.returns-in_ok-put_number-in-Some-clause-small
returns-in_ok-put_number-in-Some-clause-small c = all_small c.args.numbers.now (λ i. (c.type_inv.numbers i).fits)
