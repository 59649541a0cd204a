-- Little-endian numbers by their bytes. Assumes nothing.
use Rattle.std.specs.Prelude.{ℕ, ◌+◌, ◌*◌, ◌≡◌, List, get_or}
use Rattle.std.proofs.Common.{arith}
use Rattle.std.proofs.Math.Numerals.{towards_suc}
use Rattle.rows.specs.Records.{little_endian}

module _ (file : List ℕ) (at : ℕ) where
  pub two_bytes : little_endian 2 file at ≡ get_or file at 0 + 256 * get_or file (at + 1) 0
  unfolding little_endian
  two_bytes = simp towards_suc (omega arith)

  pub four_bytes : little_endian 4 file at ≡ get_or file at 0 + 256 * get_or file (at + 1) 0 + 65536 * get_or file (at + 2) 0 + 16777216 * get_or file (at + 3) 0
  unfolding little_endian
  four_bytes = simp towards_suc (omega arith)

  pub eight_bytes : little_endian 8 file at
      ≡ get_or file at 0 + 256 * get_or file (at + 1) 0 + 65536 * get_or file (at + 2) 0 + 16777216 * get_or file (at + 3) 0
      + 4294967296 * get_or file (at + 4) 0 + 1099511627776 * get_or file (at + 5) 0 + 281474976710656 * get_or file (at + 6) 0
      + 72057594037927936 * get_or file (at + 7) 0
  unfolding little_endian
  eight_bytes = simp towards_suc (omega arith)
