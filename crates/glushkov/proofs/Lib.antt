mod LinkLaws
mod CountLaws
mod WidthSums
mod TableMade
