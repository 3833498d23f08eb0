pub mod Equator
pub mod Cones
pub mod Arcs
