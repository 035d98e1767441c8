-- Index of the theorems on the definitions. Each is exported under the name of the function whose clause it is; a
-- theorem with several clauses has one name for each, THEOREM-CLAUSE. Other crates use these names, and no other file
-- of this directory.
use Rattle.std.proofs.Common.{◌≡◌, ℕ, ◌<◌, true, false, List, [], ◌∷◌, Some, None, ap, refl}
use Rattle.std.specs.Prelude.{◌↔◌, flat_map, reverse}
use Rattle.ra_labels.specs.declared.kind.Kind.{Kind}
use Rattle.ra_labels.specs.declared.kind.Kind.TheVariants.{Counter, Register, LwwSet, OrSet, Rga}
use Rattle.ra_labels.specs.declared.operation.Op.{Op}
use Rattle.ra_labels.specs.declared.label.Stamp.{Stamp}
use Rattle.ra_labels.specs.declared.label.Label.{Label}
use Rattle.ra_labels.specs.contracts.label.StampOrd.TheImpl as derived
use Rattle.ra_labels.specs.declared.command.Command.{Command}
use Rattle.ra_labels.specs.declared.command.Command.TheVariants.{Deliver, Join, Verdict}
use Rattle.ra_labels.specs.declared.reply.Fault.{Fault}
use Rattle.ra_labels.specs.Lists.{shown}
use Rattle.ra_labels.specs.Specification.{Written, state_after}
use Rattle.ra_labels.specs.Records.{Records, label_count, next_label, records_to, labels_of}
use Rattle.ra_labels.specs.Visibility.{is_update_at, has_delivered, sees, IsCausal}
use Rattle.ra_labels.specs.Rewriting.{parts_of}
use Rattle.ra_labels.specs.Linearization.{visible_updates}
use Rattle.ra_labels.specs.NamedOrder.{lowest_rank, stamp_cmp, timestamp_of, rank_of, named_sequence}
use Rattle.ra_labels.specs.Fault.{Holds, cause_of, fault_of}
use Rattle.ra_labels.specs.Answer.{form_refusal, refusal_of, records_after_all}
use Rattle.ra_labels.specs.TheoremTerms.{IsLeastFault}
use Rattle.ra_labels.specs.Insertion.{updates_passing, delivered_updates}
use Rattle.ra_theorems.proofs.SeenLabels.{sees_earlier}
use Rattle.ra_theorems.proofs.Faults.{holds_from_no_cause, no_cause_from_holds, each_label_holds, no_fault_from_labels, fault_is_least, only_least_fault}
use Rattle.ra_theorems.proofs.Order.{named_labels-by_number}
use Rattle.ra_theorems.proofs.MissingLabels.{records_after_all-causal}
-- theorems::specification
pub use Rattle.ra_theorems.proofs.States.{state_after-nil as state_after_nil}
pub use Rattle.ra_theorems.proofs.States.{state_after-push as state_after_snoc}
pub use Rattle.ra_theorems.proofs.States.{counter_within as counter_bounded_by_updates}
pub use Rattle.ra_theorems.proofs.Meanings.{answers-count as counter_read_answer}
pub use Rattle.ra_theorems.proofs.States.{state-of_kind as state_kind}
pub use Rattle.ra_theorems.proofs.States.{admitted-only as kind_updates_admitted-only}
pub use Rattle.ra_theorems.proofs.States.{admitted-of_kind as kind_updates_admitted-exactly}
pub use Rattle.ra_theorems.proofs.States.{register-last as register_value-last}
pub use Rattle.ra_theorems.proofs.States.{answers-last as register_read_answer}
pub use Rattle.ra_theorems.proofs.States.{set-added as lww_set_contents-added}
pub use Rattle.ra_theorems.proofs.States.{set-removed as lww_set_contents-removed}
pub use Rattle.ra_theorems.proofs.States.{set-never as lww_set_contents-never}
pub use Rattle.ra_theorems.proofs.States.{set-rises as lww_set_contents-rises}
pub use Rattle.ra_theorems.proofs.States.{answers-elements as lww_set_read_answer}
pub use Rattle.ra_theorems.proofs.StateKinds.{answers-of_kind as other_kind_query_rejected, acts-of_kind as part_kind}
-- theorems::or_set
pub use Rattle.ra_theorems.proofs.OrSets.{pair_below as pair_order_lexicographic-less}
pub use Rattle.ra_theorems.proofs.OrSets.{pair_same as pair_order_lexicographic-equal}
pub use Rattle.ra_theorems.proofs.OrSets.{pairs-exactly as or_set_contents-pairs}
pub use Rattle.ra_theorems.proofs.OrSets.{pairs-rise as or_set_contents-rises}
pub use Rattle.ra_theorems.proofs.OrSets.{added-exactly as addition_adds_pair}
pub use Rattle.ra_theorems.proofs.OrSets.{taken_out-exactly as removal_removes_named_pairs}
pub use Rattle.ra_theorems.proofs.OrSets.{answers-ids as or_set_identifiers_answer}
pub use Rattle.ra_theorems.proofs.OrSets.{answers-pairs as or_set_read_answer}
-- theorems::commuting
pub use Rattle.ra_theorems.proofs.CommutingUpdates.{counter-steps as counter_steps_commute}
pub use Rattle.ra_theorems.proofs.CommutingUpdates.{or_set-steps as or_set_steps_commute}
pub use Rattle.ra_theorems.proofs.CommutingUpdates.{counter-late as late_update_commutes_to_end-counter}
pub use Rattle.ra_theorems.proofs.CommutingUpdates.{or_set-late as late_update_commutes_to_end-or_set}
-- theorems::any_order
pub use Rattle.ra_theorems.proofs.AnyOrder.{any_order-admitted as any_order_same_state-admitted}
pub use Rattle.ra_theorems.proofs.AnyOrder.{any_order-counter as any_order_same_state-counter}
pub use Rattle.ra_theorems.proofs.AnyOrder.{any_order-or_set as any_order_same_state-or_set}
pub use Rattle.ra_theorems.proofs.AnyOrder.{named-where_any as named_sequence_complete}
pub use Rattle.ra_theorems.proofs.AnyOrder.{by_visibility as linearization_by_visibility}
pub use Rattle.ra_theorems.proofs.AnyOrder.{no-final as violation_is_final}
pub use Rattle.ra_theorems.proofs.AnyOrder.{none_where_final as final_excludes_linearization}
-- theorems::ordered_lists
pub use Rattle.ra_theorems.proofs.OrderedLists.{linearization_decided as order_decides_linearization}
pub use Rattle.ra_theorems.proofs.ListVerdicts.{linearizes_iff_some as linearization_iff_some_order}
pub use Rattle.ra_theorems.proofs.ListVerdicts.{holds_iff_some as list_holds_iff_some_order-named}
pub use Rattle.ra_theorems.proofs.ListVerdicts.{holds_iff_any as list_holds_iff_some_order-any}
pub use Rattle.ra_theorems.proofs.ListVerdicts.{no_fault_iff_one as no_fault_iff_one_order}
pub use Rattle.ra_theorems.proofs.ListVerdicts.{violation_excludes as list_violation_excludes_orders-fault}
pub use Rattle.ra_theorems.proofs.ListVerdicts.{final_iff_no_order as list_violation_excludes_orders-finality}
pub use Rattle.ra_theorems.proofs.ListVerdicts.{same_read as same_updates_same_read}
-- theorems::one_step
pub use Rattle.ra_theorems.proofs.Deliveries.{clash-exactly as clash_iff_removal_of_added_pair}
pub use Rattle.ra_theorems.proofs.Deliveries.{removal-sees as or_removal_sees_removed_pairs}
pub use Rattle.ra_theorems.proofs.Deliveries.{counter-delivered as delivery_is_one_step-counter}
pub use Rattle.ra_theorems.proofs.Deliveries.{register-delivered as delivery_is_one_step-register}
pub use Rattle.ra_theorems.proofs.Deliveries.{set-delivered as delivery_is_one_step-lww_set}
pub use Rattle.ra_theorems.proofs.Deliveries.{or_set-delivered as delivery_is_one_step-or_set}
pub use Rattle.ra_theorems.proofs.LastUpdates.{counter-more as new_label_is_one_step-counter}
pub use Rattle.ra_theorems.proofs.LastUpdates.{register-more as new_label_is_one_step-register}
pub use Rattle.ra_theorems.proofs.LastUpdates.{set-more as new_label_is_one_step-lww_set}
pub use Rattle.ra_theorems.proofs.LastUpdates.{or_set-issued as or_set_operation_is_one_step}
pub use Rattle.ra_theorems.proofs.LastUpdates.{register-last_label as last_label_has_last_update-register}
pub use Rattle.ra_theorems.proofs.LastUpdates.{set-last_label as last_label_has_last_update-lww_set}
pub use Rattle.ra_theorems.proofs.LastUpdates.{register-overridden as overridden_label_changes_nothing-register}
pub use Rattle.ra_theorems.proofs.LastUpdates.{set-overridden as overridden_label_changes_nothing-lww_set}
pub use Rattle.ra_theorems.proofs.NewLabels.{behind-all as last_label_is_one_step}
-- theorems::overriding
pub use Rattle.ra_theorems.proofs.OverridingUpdates.{writes-last as register_last_write_wins-last}
pub use Rattle.ra_theorems.proofs.OverridingUpdates.{writes-late as register_last_write_wins-late}
pub use Rattle.ra_theorems.proofs.OverridingUpdates.{set-has as lww_set_last_update_wins-has}
pub use Rattle.ra_theorems.proofs.OverridingUpdates.{set-same as lww_set_last_update_wins-same}
pub use Rattle.ra_theorems.proofs.OverridingUpdates.{set-late as lww_set_last_update_wins-late}
-- theorems::rga
pub use Rattle.ra_theorems.proofs.Rgas.{after-admitted as insertion_after_present_anchor-admitted}
pub use Rattle.ra_theorems.proofs.Rgas.{after-puts as insertion_after_present_anchor-behind}
pub use Rattle.ra_theorems.proofs.Rgas.{removed-admitted as removal_of_present_element-admitted}
pub use Rattle.ra_theorems.proofs.Rgas.{removed-places as removal_of_present_element-places}
pub use Rattle.ra_theorems.proofs.Rgas.{removed-shown as removal_of_present_element-shown}
pub use Rattle.ra_theorems.proofs.Rgas.{removed-anchor as removed_element_is_tombstone-anchor}
pub use Rattle.ra_theorems.proofs.Rgas.{removed-again as removed_element_is_tombstone-again}
pub use Rattle.ra_theorems.proofs.Rgas.{removed-twice as removed_element_is_tombstone-twice}
pub use Rattle.ra_theorems.proofs.Rgas.{list-exactly as rga_contents-elements}
pub use Rattle.ra_theorems.proofs.Rgas.{list-root as rga_contents-root}
pub use Rattle.ra_theorems.proofs.Rgas.{list-once as rga_contents-once}
pub use Rattle.ra_theorems.proofs.Rgas.{list-stays as rga_contents-stays}
pub use Rattle.ra_theorems.proofs.Rgas.{shown-append as shown_elements_in_order-all}
pub use Rattle.ra_theorems.proofs.Rgas.{answers-shown as rga_read_answer}
pub use Rattle.ra_theorems.proofs.ShownElements.{list-shown as rga_contents-shown}
-- theorems::late
pub use Rattle.ra_theorems.proofs.LateUpdates.{newest-behind as newest_element_after_anchor}
pub use Rattle.ra_theorems.proofs.LateUpdates.{late-later as late_updates_commute-insertions}
pub use Rattle.ra_theorems.proofs.LateUpdates.{late-hidden as late_updates_commute-late_removed}
pub use Rattle.ra_theorems.proofs.LateUpdates.{inserted-hidden as late_updates_commute-removed}
pub use Rattle.ra_theorems.proofs.LateUpdates.{hidden-hidden as late_updates_commute-removals}
pub use Rattle.ra_theorems.proofs.LateUpdates.{late-insertion as late_insertion_skips_greater}
pub use Rattle.ra_theorems.proofs.LateUpdates.{late-one as late_insertion_is_one_step}
pub use Rattle.ra_theorems.proofs.LateUpdates.{late-removal as late_removal_commutes_to_end}
pub use Rattle.ra_theorems.proofs.KeptEntries.{kept-inserted as kept_entries_preserve_order-kept}
pub use Rattle.ra_theorems.proofs.KeptEntries.{kept-dropped as kept_entries_preserve_order-dropped}
pub use Rattle.ra_theorems.proofs.KeptEntries.{kept-hidden as kept_entries_preserve_order-removed}
pub use Rattle.ra_theorems.proofs.KeptEntries.{kept-nearest as insertion_after_nearest_kept}
-- theorems::passing
pub use Rattle.ra_theorems.proofs.PassingUpdates.{had-delivery as delivered_extends_by_one-delivery}
pub use Rattle.ra_theorems.proofs.PassingUpdates.{had-operation as delivered_extends_by_one-operation}
pub use Rattle.ra_theorems.proofs.PassingUpdates.{passing-alike as updates_passing_congruent}
pub use Rattle.ra_theorems.proofs.PassingUpdates.{passing-fewer as updates_passing_monotone}
pub use Rattle.ra_theorems.proofs.PassingUpdates.{passing-of_kind as updates_passing_admitted}
pub use Rattle.ra_theorems.proofs.PassingUpdates.{passing-delivery as later_command_preserves_updates_passing-delivery}
pub use Rattle.ra_theorems.proofs.PassingUpdates.{passing-join as later_command_preserves_updates_passing-join}
pub use Rattle.ra_theorems.proofs.PassingUpdates.{passing-operation as later_command_preserves_updates_passing-operation}
pub use Rattle.ra_theorems.proofs.PassingUpdates.{one-more as updates_passing_insert-place}
pub use Rattle.ra_theorems.proofs.PassingUpdates.{one-more_at as updates_passing_insert-at}
pub use Rattle.ra_theorems.proofs.RgaSteps.{length-more as updates_passing_insert-count, there-more as updates_passing_insert-there}
-- theorems::waiting
pub use Rattle.ra_theorems.proofs.RgaSteps.{inserted-admitted as update_admitted_iff_dependency_present-insertion}
pub use Rattle.ra_theorems.proofs.RgaSteps.{removed-admitted as update_admitted_iff_dependency_present-removal}
pub use Rattle.ra_theorems.proofs.RgaSteps.{put_in-once as element_inserted_by_one_label-one}
pub use Rattle.ra_theorems.proofs.RgaSteps.{put_in-other as element_inserted_by_one_label-other}
pub use Rattle.ra_theorems.proofs.RgaSteps.{insertion-step as new_update_is_one_step-insertion}
pub use Rattle.ra_theorems.proofs.RgaSteps.{removal-step as new_update_is_one_step-removal}
pub use Rattle.ra_theorems.proofs.RgaSteps.{none-waits_more as new_update_is_one_step-none_waits}
pub use Rattle.ra_theorems.proofs.KeptUpdates.{needed-other as other_kind_depends_on_root}
pub use Rattle.ra_theorems.proofs.KeptUpdates.{there-list as element_present_iff_label_passes-list}
pub use Rattle.ra_theorems.proofs.PassingUpdates.{there-label as element_present_iff_label_passes-label}
pub use Rattle.ra_theorems.proofs.PassingUpdates.{passing-admitted as updates_admitted_iff_none_pending-exactly}
pub use Rattle.ra_theorems.proofs.PassingUpdates.{passing-list as updates_admitted_iff_none_pending-list}
pub use Rattle.ra_theorems.proofs.PassingUpdates.{passing-shown as updates_admitted_iff_none_pending-shown}
-- theorems::settled
pub use Rattle.ra_theorems.proofs.WaitingLabels.{settling-starts as pending_updates_settle-starts}
pub use Rattle.ra_theorems.proofs.WaitingLabels.{settling-follows as pending_updates_settle-follows}
pub use Rattle.ra_theorems.proofs.WaitingLabels.{settling-done as pending_updates_settle-done}
pub use Rattle.ra_theorems.proofs.WaitingLabels.{settling-ends as pending_updates_settle-ends}
pub use Rattle.ra_theorems.proofs.WaitingLabels.{puts-exactly as pending_updates_settle-element}
pub use Rattle.ra_theorems.proofs.SettledUpdates.{needed-before as dependency_inserted_before}
pub use Rattle.ra_theorems.proofs.SettledUpdates.{settled-admitted as settled_updates_admitted-settled}
pub use Rattle.ra_theorems.proofs.SettledUpdates.{settled-all as settled_updates_admitted-all}
pub use Rattle.ra_theorems.proofs.SettledUpdates.{settled-same as settled_updates_admitted-same}
pub use Rattle.ra_theorems.proofs.SettledUpdates.{settled-exactly as settled_not_pending}
pub use Rattle.ra_theorems.proofs.SettledUpdates.{settled-waiting as settled_persists-waiting}
pub use Rattle.ra_theorems.proofs.SettledUpdates.{settled-delivery as settled_persists-delivery}
pub use Rattle.ra_theorems.proofs.SettledUpdates.{settled-join as settled_persists-join}
pub use Rattle.ra_theorems.proofs.SettledUpdates.{settled-operation as settled_persists-operation}
pub use Rattle.ra_theorems.proofs.SettledUpdates.{settled-alike as settled_persists-alike}
pub use Rattle.ra_theorems.proofs.SettledUpdates.{settled-once as settled_determined_by_delivered}
pub use Rattle.ra_theorems.proofs.SettledUpdates.{settled-before as new_label_settles_only_later-before}
pub use Rattle.ra_theorems.proofs.SettledUpdates.{settled-count as new_label_settles_only_later-count}
-- theorems::arriving
pub use Rattle.ra_theorems.proofs.Arrivals.{stands-before as label_position_by_order-before}
pub use Rattle.ra_theorems.proofs.Arrivals.{stands-behind as label_position_by_order-behind}
pub use Rattle.ra_theorems.proofs.Arrivals.{one-place as label_position_by_order-place}
pub use Rattle.ra_theorems.proofs.Arrivals.{own-stamps as stamped_labels_sorted}
pub use Rattle.ra_theorems.proofs.Arrivals.{all-with as operation_inserts_among_all-update}
pub use Rattle.ra_theorems.proofs.Arrivals.{all-without as operation_inserts_among_all-query}
pub use Rattle.ra_theorems.proofs.Arrivals.{there-all as present_element_has_insertion-all}
pub use Rattle.ra_theorems.proofs.Arrivals.{there-among as present_element_has_insertion-passing}
pub use Rattle.ra_theorems.proofs.Arrivals.{insertion-all as new_label_in_full_list-insertion}
pub use Rattle.ra_theorems.proofs.Arrivals.{removal-all as new_label_in_full_list-removal}
pub use Rattle.ra_theorems.proofs.NewLabels.{offered-insertion as new_update_admitted_iff_dependency_below-insertion}
pub use Rattle.ra_theorems.proofs.NewLabels.{offered-removal as new_update_admitted_iff_dependency_below-removal}
pub use Rattle.ra_theorems.proofs.ElementsBetween.{between-later as between_anchor_and_element_later}
-- theorems::joins
pub use Rattle.ra_theorems.proofs.Joins.{beyond-one as nothing_delivered_before_join-one, beyond-all as nothing_delivered_before_join-all}
pub use Rattle.ra_theorems.proofs.Joins.{beyond-operation as nothing_delivered_before_join-operation}
pub use Rattle.ra_theorems.proofs.Joins.{beyond-delivery as nothing_delivered_before_join-delivery}
pub use Rattle.ra_theorems.proofs.Joins.{beyond-join as nothing_delivered_before_join-join}
pub use Rattle.ra_theorems.proofs.Joins.{joined-issued as join_copies_delivered-issued}
pub use Rattle.ra_theorems.proofs.Joins.{joined-labels as join_copies_delivered-labels}
pub use Rattle.ra_theorems.proofs.Joins.{joined-own as join_copies_delivered-own}
pub use Rattle.ra_theorems.proofs.Joins.{joined-others as join_copies_delivered-others}
pub use Rattle.ra_theorems.proofs.Joins.{joined-order as join_copies_delivered-order}
-- theorems::records
pub use Rattle.ra_theorems.proofs.Joins.{joins-counted as replica_count_counts_joins}
pub use Rattle.ra_theorems.proofs.LabelNumbers.{label_at-operation as operation_found_as_label-found}
pub use Rattle.ra_theorems.proofs.LabelNumbers.{records_to-operation as records_to_ends_with_label-there}
pub use Rattle.ra_theorems.proofs.LabelNumbers.{records_to-none as records_to_ends_with_label-none}
-- theorems::visibility
pub use Rattle.ra_theorems.proofs.Meanings.{had-exactly as delivered_cases, sees-exactly as sees_iff_delivered_before}
pub use Rattle.ra_theorems.proofs.SeenLabels.{sees-append as sees_persists, is_update_at-append as is_update_persists}
pub use Rattle.ra_theorems.proofs.SeenLabels.{had_update as delivered_are_updates-updates, is_update_at-below as delivered_are_updates-there}
pub use Rattle.ra_theorems.proofs.FirstUpdates.{had-next as delivered_are_updates-next}
pub use Rattle.ra_theorems.proofs.Extensions.{sees_not_itself as sees_earlier_updates-itself}
pub use Rattle.ra_theorems.proofs.SeenLabels.{had-append as delivered_persists, causal-exactly as causal_iff_deliveries_causal}
pub use Rattle.ra_theorems.proofs.SeenLabels.{had_closed as causal_delivery_transitive-delivered}
pub use Rattle.ra_theorems.proofs.SeenLabels.{sees_through as causal_delivery_transitive-sees}
pub use Rattle.ra_theorems.proofs.MissingLabels.{least_missing as first_missing_is_least-some, none_missing as first_missing_is_least-none}
-- theorems::counts
pub use Rattle.ra_theorems.proofs.Updates.{issuer_of-operation as operation_position-issuer}
pub use Rattle.ra_theorems.proofs.Updates.{place_of-operation as operation_position-place}
pub use Rattle.ra_theorems.proofs.Updates.{updates_of-counted as operation_position-count}
pub use Rattle.ra_theorems.proofs.Updates.{place-below as position_has_update-below}
pub use Rattle.ra_theorems.proofs.Updates.{place-there as position_has_update-there}
pub use Rattle.ra_theorems.proofs.Updates.{place-only as position_has_update-only}
pub use Rattle.ra_theorems.proofs.FirstUpdates.{had-first as delivered_prefix_of_each_replica-delivered, sees-first as delivered_prefix_of_each_replica-sees}
-- theorems::sequence
pub use Rattle.ra_theorems.proofs.LabelNumbers.{numbers_of_labels as labels_numbered_consecutively}
pub use Rattle.ra_theorems.proofs.LabelNumbers.{label_there as label_at_each_number-there}
pub use Rattle.ra_theorems.proofs.LabelNumbers.{no_label_there as label_at_each_number-none}
pub use Rattle.ra_theorems.proofs.UniqueOrder.{label_found as label_at_each_number-found, named_labels-only as named_order_unique}
pub use Rattle.ra_theorems.proofs.RgaSteps.{same_number as label_at_each_number-one}
pub use Rattle.ra_theorems.proofs.Faults.{IsPermutation-named_sequence as named_sequence_has_each_part_once}
pub use Rattle.ra_labels.proofs.StampOrder.{stamp_below as stamp_order_lexicographic-less}
pub use Rattle.ra_labels.proofs.StampOrder.{stamp_same as stamp_order_lexicographic-equal}
pub use Rattle.ra_labels.proofs.StampOrder.{lowest_below as lowest_rank_below_stamps}
pub use Rattle.ra_theorems.proofs.Order.{label_below as label_order_lexicographic}
pub use Rattle.ra_theorems.proofs.Order.{IsPermutation-named_labels as named_labels_sorted-same}
pub use Rattle.ra_theorems.proofs.Order.{IsSorted-named_labels as named_labels_sorted-sorted}
pub use Rattle.ra_theorems.proofs.PassingUpdates.{named-exactly as named_labels_sorted-among}
pub use Rattle.ra_theorems.proofs.Insertion.{rank_later as later_command_preserves_order-rank}
pub use Rattle.ra_theorems.proofs.Insertion.{order_later as later_command_preserves_order-labels}
pub use Rattle.ra_theorems.proofs.Order.{named_labels-by_number as execution_order_is_acceptance_order-labels}
pub use Rattle.ra_theorems.proofs.Ranks.{execution-extends as execution_order_extends_visibility-labels}
pub use Rattle.ra_theorems.proofs.Ranks.{counter-extends as execution_order_extends_visibility-counter}
pub use Rattle.ra_theorems.proofs.Ranks.{or_set-extends as execution_order_extends_visibility-or_set}
pub use Rattle.ra_theorems.proofs.Ranks.{ranks-extend as extends_visibility_iff_ranks}
-- theorems::timestamps
pub use Rattle.ra_theorems.proofs.Timestamps.{timestamp-own as timestamp_is_greatest_seen-own}
pub use Rattle.ra_theorems.proofs.Timestamps.{timestamp-reached as timestamp_is_greatest_seen-seen}
pub use Rattle.ra_theorems.proofs.Timestamps.{timestamp-bounds as timestamp_is_greatest_seen-greatest}
pub use Rattle.ra_theorems.proofs.Timestamps.{timestamp-append as timestamp_persists}
pub use Rattle.ra_theorems.proofs.Stamps.{taken-exactly as stamp_taken_iff_label_has_it}
pub use Rattle.ra_theorems.proofs.Stamps.{stamps-once as stamps_unique-one}
pub use Rattle.ra_theorems.proofs.Stamps.{stamps-once_all as stamps_unique-all}
pub use Rattle.ra_theorems.proofs.Stamps.{fits-exactly as well_formed_iff}
pub use Rattle.ra_theorems.proofs.Stamps.{stamp_taken-exactly as stamp_taken_iff}
pub use Rattle.ra_theorems.proofs.Stamps.{id_taken-exactly as id_taken_iff}
pub use Rattle.ra_theorems.proofs.Stamps.{operated-exactly as operation_accepted_iff}
pub use Rattle.ra_theorems.proofs.Stamps.{labels-fit as accepted_labels_well_formed-one, labels-fit_all as accepted_labels_well_formed-all}
-- theorems::identifiers
pub use Rattle.ra_theorems.proofs.Identifiers.{identifier-exactly as identifier_taken_iff-taken}
pub use Rattle.ra_theorems.proofs.Identifiers.{gives-exactly as identifier_taken_iff-gives}
pub use Rattle.ra_theorems.proofs.Identifiers.{identifiers-once as identifiers_unique-one}
pub use Rattle.ra_theorems.proofs.Identifiers.{identifiers-once_all as identifiers_unique-all}
-- theorems::insertion
pub use Rattle.ra_theorems.proofs.RgaSteps.{made-exactly as operation_update_unique-exactly, made-once as operation_update_unique-one}
pub use Rattle.ra_theorems.proofs.Insertion.{order-inserted as new_label_preserves_order}
pub use Rattle.ra_theorems.proofs.Insertion.{others-see as new_label_preserves_visibility-others}
pub use Rattle.ra_theorems.proofs.Insertion.{own-sees as new_label_preserves_visibility-own}
pub use Rattle.ra_theorems.proofs.Insertion.{decides-order as new_label_decides-order}
pub use Rattle.ra_theorems.proofs.Insertion.{decides-query as new_label_decides-query}
pub use Rattle.ra_theorems.proofs.Insertion.{decides-all as new_label_decides-all}
pub use Rattle.ra_theorems.proofs.HadUpdates.{operation-own as operation_extends_delivered-own}
pub use Rattle.ra_theorems.proofs.HadUpdates.{operation-query as operation_extends_delivered-query}
pub use Rattle.ra_theorems.proofs.HadUpdates.{operation-others as operation_extends_delivered-others}
pub use Rattle.ra_theorems.proofs.HadUpdates.{delivery-own as delivery_extends_delivered-own}
pub use Rattle.ra_theorems.proofs.HadUpdates.{delivery-order as delivery_extends_delivered-order}
pub use Rattle.ra_theorems.proofs.HadUpdates.{delivery-others as delivery_extends_delivered-others}
-- theorems::linearization
pub use Rattle.ra_theorems.proofs.Meanings.{visible-exactly as must_precede_cases-visible}
pub use Rattle.ra_theorems.proofs.Meanings.{earlier-exactly as must_precede_cases-earlier}
pub use Rattle.ra_theorems.proofs.Meanings.{halves-exactly as must_precede_cases-halves}
pub use Rattle.ra_theorems.proofs.Meanings.{must_precede-exactly as must_precede_cases-cases}
pub use Rattle.ra_theorems.proofs.Meanings.{updates_of-append as visible_updates_in_order-all}
pub use Rattle.ra_theorems.proofs.Meanings.{visible_updates-append as visible_updates_in_order-visible}
pub use Rattle.ra_theorems.proofs.Meanings.{updates-exactly as updates_admitted_iff_state}
pub use Rattle.ra_theorems.proofs.Meanings.{queries-exactly as queries_admitted_iff_answered}
pub use Rattle.ra_theorems.proofs.Extensions.{must_precede-irreflexive as must_precede_irreflexive}
pub use Rattle.ra_theorems.proofs.Extensions.{extends-stands as extends_iff_stands_before-stands}
pub use Rattle.ra_theorems.proofs.Extensions.{stands-extends as extends_iff_stands_before-extends}
pub use Rattle.ra_theorems.proofs.Extensions.{linearization_by-stands as linearization_by_respects_order}
pub use Rattle.ra_theorems.proofs.Extensions.{linearization_by-weaker as linearization_by_weaker_order}
pub use Rattle.ra_theorems.proofs.Extensions.{linearization-stands as linearization_respects_order}
pub use Rattle.ra_theorems.proofs.Extensions.{is_update-acts as update_iff_part_is_update}
-- theorems::one_state
pub use Rattle.ra_theorems.proofs.OneState.{no_sequence_cause as one_state_meets_conditions}
pub use Rattle.ra_theorems.proofs.OneState.{holds_if_explained as condition_decides-holds, no_fault_if_explained as condition_decides-fault}
-- theorems::fault
pub use Rattle.ra_theorems.proofs.Faults.{cause-order as cause_is_first_failed-order}
pub use Rattle.ra_theorems.proofs.Faults.{explained-others as conditions_of_kinds-others, unexplained-order as conditions_of_kinds-order}
pub use Rattle.ra_theorems.proofs.Faults.{sequence_cause-none as sequence_cause_none_iff}
pub use Rattle.ra_theorems.proofs.Faults.{cause-update as cause_is_first_failed-update}
pub use Rattle.ra_theorems.proofs.Faults.{cause-query as cause_is_first_failed-query}
pub use Rattle.ra_theorems.proofs.Faults.{holds_from_no_fault as fault_none_implies_holds, fault_stays as fault_persists}
pub use Rattle.ra_theorems.proofs.Faults.{no_fault_before as records_before_fault_have_none-none}
pub use Rattle.ra_theorems.proofs.Faults.{all_before_fault as records_before_fault_have_none-all}
pub use Rattle.ra_theorems.proofs.Faults.{count_before as records_before_fault_have_none-count}
pub use Rattle.ra_theorems.proofs.Faults.{before_fault-prefix as records_before_fault_longest-prefix}
pub use Rattle.ra_theorems.proofs.Faults.{before_fault-longest as records_before_fault_longest-longest}
-- theorems::answer
pub use Rattle.ra_theorems.proofs.Replies.{reply_says as reply_meaning, ok_is_evidence as ok_and_yes_imply_linearization-ok}
pub use Rattle.ra_theorems.proofs.Replies.{yes_is_evidence as ok_and_yes_imply_linearization-yes}
pub use Rattle.ra_theorems.proofs.Replies.{no_at_fault as no_iff_fault}
pub use Rattle.ra_theorems.proofs.Replies.{answer_of-fault as no_persists-reply}
pub use Rattle.ra_theorems.proofs.Replies.{records_after-fault as no_persists-records}
pub use Rattle.ra_theorems.proofs.Replies.{answers_to-append as answers_append-replies}
pub use Rattle.ra_theorems.proofs.Replies.{records_after_all-append as answers_append-records}
pub use Rattle.ra_theorems.proofs.Replies.{misfit_refuses as malformed_commands_refused-operation}
pub use Rattle.ra_theorems.proofs.MissingLabels.{not_causal-exactly as not_causal_iff_seen_label_missing}
pub use Rattle.ra_theorems.proofs.MissingLabels.{delivered-exactly as delivery_accepted_iff_causal}
pub use Rattle.ra_theorems.proofs.Joins.{joined-exactly as join_accepted_iff}
pub use Rattle.ra_theorems.proofs.Joins.{refused-unknown as join_refusal_cases-unknown}
pub use Rattle.ra_theorems.proofs.Joins.{refused-there as join_refusal_cases-there}
pub use Rattle.ra_theorems.proofs.Joins.{refused-full as join_refusal_cases-full}
pub use Rattle.ra_theorems.proofs.MissingLabels.{records_after-causal as answers_preserve_causality-one}

pub register_value-none : state_after Register [] ≡ Some (Written None)
register_value-none = refl

pub shown_elements_in_order-one : (x : ℕ) → shown ((x, true) ∷ []) ≡ x ∷ []
shown_elements_in_order-one x = refl

pub shown_elements_in_order-hidden : (x : ℕ) → shown ((x, false) ∷ []) ≡ []
shown_elements_in_order-hidden x = refl

pub operation_found_as_label-stamped : (before : Records) (by : ℕ) (op : Op) (clock : ℕ)
    → next_label before by op (Some clock)
    ≡ record {
      number = label_count before;
      replica = by;
      op = op;
      stamp =
          Some (record { clock = clock; replica = by });
    }
operation_found_as_label-stamped before by op clock = refl

pub operation_found_as_label-unstamped : (before : Records) (by : ℕ) (op : Op) → next_label before by op None
    ≡ record { number = label_count before; replica = by; op = op; stamp = None }
operation_found_as_label-unstamped before by op = refl

pub malformed_commands_refused-delivery : (kind : Kind) (to label : ℕ) → form_refusal kind (Deliver to label) ≡ None
malformed_commands_refused-delivery kind to label = refl

pub malformed_commands_refused-join : (kind : Kind) (replica from : ℕ) → form_refusal kind (Join replica from) ≡ None
malformed_commands_refused-join kind replica from = refl

pub malformed_commands_refused-verdict : (kind : Kind) (replicas : ℕ) (records : Records)
    → refusal_of kind replicas records Verdict ≡ None
malformed_commands_refused-verdict kind replicas records = refl

pub sees_earlier_updates-earlier : (records : Records) (n m : ℕ) → sees records n m ≡ true → m < n
sees_earlier_updates-earlier records n m seen = (sees_earlier records n m seen).0

pub sees_earlier_updates-updates : (records : Records) (n m : ℕ) → sees records n m ≡ true
    → is_update_at records m ≡ true
sees_earlier_updates-updates records n m seen = (sees_earlier records n m seen).1

pub stamp_order_lexicographic-derived : (s t : Stamp) → derived.ghosts.cmp s t ≡ stamp_cmp s t
stamp_order_lexicographic-derived s t = refl

pub kind_order-counter : (records : Records) (label : Label) → rank_of Counter records label ≡ lowest_rank
kind_order-counter records label = refl

pub kind_order-register : (records : Records) (label : Label)
    → rank_of Register records label ≡ timestamp_of records label
kind_order-register records label = refl

pub kind_order-lww_set : (records : Records) (label : Label)
    → rank_of LwwSet records label ≡ timestamp_of records label
kind_order-lww_set records label = refl

pub kind_order-or_set : (records : Records) (label : Label) → rank_of OrSet records label ≡ lowest_rank
kind_order-or_set records label = refl

pub kind_order-rga : (records : Records) (label : Label)
    → rank_of Rga records label ≡ timestamp_of records label
kind_order-rga records label = refl

pub execution_order_is_acceptance_order-or_set : (records : Records)
    → named_sequence OrSet records ≡ flat_map parts_of (reverse (labels_of records))
execution_order_is_acceptance_order-or_set records =
    ap (flat_map parts_of) (named_labels-by_number OrSet records (λ label. refl))

pub execution_order_is_acceptance_order-counter : (records : Records)
    → named_sequence Counter records ≡ flat_map parts_of (reverse (labels_of records))
execution_order_is_acceptance_order-counter records =
    ap (flat_map parts_of) (named_labels-by_number Counter records (λ label. refl))

pub cause_none_iff_holds : (kind : Kind) (records : Records)
    → (cause_of kind records ≡ None) ↔ Holds kind records
cause_none_iff_holds kind records = (holds_from_no_cause kind records, no_cause_from_holds kind records)

pub fault_none_iff_prefixes_hold : (kind : Kind) (records : Records)
    → (fault_of kind records ≡ None) ↔ ((n : ℕ) → n < label_count records → Holds kind (records_to records n))
fault_none_iff_prefixes_hold kind records = (each_label_holds kind records, no_fault_from_labels kind records)

pub fault_is_least_label : (kind : Kind) (records : Records) (fault : Fault)
    → (fault_of kind records ≡ Some fault) ↔ IsLeastFault kind records fault
fault_is_least_label kind records fault = (fault_is_least kind records fault, only_least_fault kind records fault)

pub answers_preserve_causality-all : (kind : Kind) (replicas : ℕ) (commands : List Command)
    → IsCausal (records_after_all kind replicas [] commands)
answers_preserve_causality-all kind replicas commands = records_after_all-causal kind replicas [] commands tt

pub delivered_updates_eq_filter-delivered : (kind : Kind) (records : Records) (replica : ℕ)
    → delivered_updates kind records replica ≡ updates_passing kind records (has_delivered records replica)
delivered_updates_eq_filter-delivered kind records replica = refl

pub delivered_updates_eq_filter-seen : (kind : Kind) (records : Records) (n : ℕ)
    → visible_updates records (named_sequence kind records) n ≡ updates_passing kind records (sees records n)
delivered_updates_eq_filter-seen kind records n = refl
