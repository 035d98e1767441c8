-- What the answer states.
use Rattle.std.specs.Prelude.{Bool, true, false}
use Rattle.ra_labels.specs.declared.kind.Kind.{Kind}
use Rattle.ra_labels.specs.Records.{Records}
use Rattle.ra_theorems.specs.AnyOrder.{NoneLinearizes}
use Rattle.ra_some_order.specs.LabelOrders.{OrderExplains}
use Rattle.ra_any_order.specs.Answers as lww
use Rattle.ra_any_order.specs.declared.answer.AnyOrder as lww_order
use Rattle.ra_any_order.specs.declared.answer.AnyOrder.TheVariants as lww_answers
use Rattle.ra_rga_precedence.specs.Answers as rga
use Rattle.ra_rga_precedence.specs.declared.answer.AnyOrder as rga_order
use Rattle.ra_rga_precedence.specs.declared.answer.AnyOrder.TheVariants as rga_answers
use Rattle.ra_another_order.specs.declared.answer.Answer.{Answer}
use Rattle.ra_another_order.specs.declared.answer.Answer.TheVariants.{Exists, NoneExists}
use Rattle.ra_another_order.specs.declared.answer.Reason.{Reason}
use Rattle.ra_another_order.specs.declared.answer.Reason.TheVariants.{Lww, Rga as OfRga}

-- holds if the reason is one
abbrev pub IsReason : Records → Reason → Type 0
IsReason records (Lww reason) = lww.IsReason records reason
IsReason records (OfRga reason) = rga.IsReason records reason

-- holds if the order explains the records; or if the reason is one, and no sequence at all linearizes the records
abbrev pub IsAnswer : Kind → Records → Answer → Type 0
IsAnswer kind records (Exists order) = OrderExplains kind records order.items
IsAnswer kind records (NoneExists reason) = IsReason records reason × NoneLinearizes kind records

-- `true` if the answer is an order
abbrev pub exists : Answer → Bool
exists (Exists order) = true
exists (NoneExists reason) = false

-- the answer of a register or an LWW set
abbrev pub of_lww : lww_order.AnyOrder → Answer
of_lww (lww_answers.Exists order) = Exists order
of_lww (lww_answers.NoneExists reason) = NoneExists (Lww reason)

-- the answer of an RGA
abbrev pub of_rga : rga_order.AnyOrder → Answer
of_rga (rga_answers.Exists order) = Exists order
of_rga (rga_answers.NoneExists reason) = NoneExists (OfRga reason)
