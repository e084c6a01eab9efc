pub mod ChangedBy
