use Rattle.std.proofs.Common.{◌≡◌, ◌++◌, drop}
use Rattle.ra_explain_text.specs.Certificates.{more_numbers}
use Rattle.ra_explain_text.proofs.json_certificate.put_more_numbers.Given as goal

-- the numbers so far are written
abbrev pub invariant-loop-number : goal.invariant-loop-number
invariant-loop-number l = l.out.items ++ more_numbers (drop l.number-index l.numbers)
    ≡ l.initial.out.items ++ more_numbers l.numbers
