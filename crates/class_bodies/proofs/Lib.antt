mod BodyEnds
mod UnitCodes
