pub mod Laws
pub mod Size
pub mod Test
pub mod Solver
pub mod Machine
pub mod Sign
pub mod Half
