mod CountsUsed
mod PlaceTold
