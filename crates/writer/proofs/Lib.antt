mod Files
mod Lays
