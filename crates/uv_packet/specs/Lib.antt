pub mod Opcodes
pub mod Places
pub mod Fields
pub mod Packets
pub mod Reading
pub mod Refusal
pub mod Room
pub mod Syndromes
