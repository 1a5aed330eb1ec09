mod Hashes
mod LittleEndian
mod Registers
mod Stripes
mod Tables
