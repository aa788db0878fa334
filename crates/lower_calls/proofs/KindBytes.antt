-- The bytes of kinds, for the crates above too.
pub use Rattle.opcodes.proofs.KindBytes.{byte-is, other-kind, constant-kinds}
