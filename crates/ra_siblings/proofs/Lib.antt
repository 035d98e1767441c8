pub mod KeptLabels
pub mod SortedValues
