pub mod NamedOrderTheorems
