mod Fields
mod Files
mod Filling
mod Lineups
mod Many
mod Slots
mod Stands
