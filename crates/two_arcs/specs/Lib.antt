pub mod TwoArcs
