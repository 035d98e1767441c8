use Rattle.std.proofs.Common.{sym, subst, inl, inr}
use Rattle.ra_visibility.specs.Order.{IsByExecution, IsByTimestamp}
use Rattle.ra_exec_order.proofs.TheoremIndex.{execution_order_kinds-counter, execution_order_kinds-or_set, execution_order_kinds-list, execution_order_kinds-any, execution_order_kinds-mv_register}
use Rattle.ra_time_order.proofs.TheoremIndex.{timestamp_order_kinds-register, timestamp_order_kinds-lww_set, timestamp_order_kinds-rga}
use Rattle.ra_monitor.proofs.order.Order.of.Goals as goal

pub returns-in-Counter : goal.returns-in-Counter
returns-in-Counter c =
    let by_execution : IsByExecution c.args.kind = elim c.in-Counter.is [
      | inl counter ↦ subst IsByExecution (sym counter) execution_order_kinds-counter
      | inr other ↦ elim other [
        | inl or_set ↦ subst IsByExecution (sym or_set) execution_order_kinds-or_set
        | inr another ↦ elim another [
          | inl list ↦ subst IsByExecution (sym list) execution_order_kinds-list
          | inr last ↦ elim last [
            | inl any ↦ subst IsByExecution (sym any) execution_order_kinds-any
            | inr mv_register ↦ subst IsByExecution (sym mv_register) execution_order_kinds-mv_register
          ]
        ]
      ]
    ] in
    c.new.ensures.stands c.args.kind c.args.replicas by_execution

pub returns-in_ok-new-in-Register : goal.returns-in_ok-new-in-Register
returns-in_ok-new-in-Register c =
    let by_timestamp : IsByTimestamp c.args.kind = elim c.in-Register.is [
      | inl register ↦ subst IsByTimestamp (sym register) timestamp_order_kinds-register
      | inr other ↦ elim other [
        | inl lww_set ↦ subst IsByTimestamp (sym lww_set) timestamp_order_kinds-lww_set
        | inr rga ↦ subst IsByTimestamp (sym rga) timestamp_order_kinds-rga
      ]
    ] in
    c.in_ok-new-in-Register.ensures.stands c.args.kind by_timestamp
