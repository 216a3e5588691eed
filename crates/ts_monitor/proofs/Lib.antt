mod Moves
mod Readings
