pub mod LinkBits
pub mod PastPlaces
