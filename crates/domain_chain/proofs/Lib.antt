pub mod PathKinds
