use Rattle.std.proofs.Common.{rules}
use Rattle.std.proofs.lemmas.Str.Ascii.{trim_ascii_end_is}
use Rattle.ra_explain_text.proofs.quotes.trimmed.Goals as goal

pub returns : goal.returns
returns c = search (rules, trim_ascii_end_is)
