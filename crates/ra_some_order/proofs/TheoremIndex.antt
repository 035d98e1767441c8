-- Index of the theorems, each under the name of the function whose clause it is; a theorem with several clauses has one
-- name for each, THEOREM-CLAUSE. Other crates use these names, and no other file of this directory.
pub use Rattle.ra_some_order.proofs.Linearizations.{plain_met as linearization_meets_conditions-plain, updates_ordered as linearization_meets_conditions-order}
pub use Rattle.ra_some_order.proofs.Linearizations.{updates_extended as linearization_meets_conditions-visibility}
pub use Rattle.ra_some_order.proofs.SequencedQueries.{sequenced as queries_fit_each_order}
pub use Rattle.ra_some_order.proofs.Linearizations.{conditions_met as linearization_meets_conditions-conditions}
pub use Rattle.ra_some_order.proofs.Linearizations.{plain_final as stuck_set_is_final-plain, stuck_final as stuck_set_is_final-stuck, following_final as stuck_set_is_final-following}
pub use Rattle.ra_some_order.proofs.EarlierRecords.{none_later as no_order_persists}
pub use Rattle.ra_some_order.proofs.Explanations.{explaining_sequence as order_explains, some_order_exactly as some_order_iff}
pub use Rattle.ra_some_order.proofs.AcceptedKinds.{formed_of_kind as accepted_labels_of_kind-formed, accepted_of_kind as accepted_labels_of_kind-accepted}
pub use Rattle.ra_some_order.proofs.LabelOrders.{names_before as conditions_name_updates-before, names_after as conditions_name_updates-after, names_below as conditions_name_updates-below}
pub use Rattle.ra_some_order.proofs.LabelOrders.{order_in as updates_of_label_order-order, met_in as updates_of_label_order-conditions}
pub use Rattle.ra_some_order.proofs.NewLabels.{conditions-new as conditions_after_command-label, plain-new as conditions_after_command-plain}
pub use Rattle.ra_some_order.proofs.NewLabels.{conditions-delivery as conditions_after_command-delivery, conditions-join as conditions_after_command-join}
pub use Rattle.ra_some_order.proofs.AppendedUpdates.{order_with_update as order_after_label-update, conditions_with_update as order_after_label-conditions, order_with_read as order_after_label-read}
pub use Rattle.ra_some_order.proofs.FewerConditions.{conditions_exactly as conditions_iff}
pub use Rattle.ra_some_order.proofs.FewerConditions.{chosen_extend as cover_requires_as_much-visibility, fewer_exactly as cover_requires_as_much-read}
pub use Rattle.ra_some_order.proofs.KeptExplanations.{explained_if_holds as updates_stay_explained-holds, explained_with_update as updates_stay_explained-update}
pub use Rattle.ra_some_order.proofs.KeptExplanations.{explained_with_delivery as updates_stay_explained-delivery, explained_with_join as updates_stay_explained-join}
pub use Rattle.ra_some_order.proofs.KeptExplanations.{explained_at_update as updates_stay_explained-fault}
pub use Rattle.ra_some_order.proofs.LabelSequences.{label_order_explaining as label_order_explains, order_of_linearization as linearization_orders_labels, label_order_sequenced as label_order_has_sequence}
pub use Rattle.ra_some_order.proofs.NarrowedConditions.{narrow_exactly as narrow_condition_requires_as_much}
pub use Rattle.ra_some_order.proofs.LabelSequences.{linearized_labels as linearization_has_label_order-order, linearized_updates as linearization_has_label_order-updates, label_order_exactly as label_order_iff}
