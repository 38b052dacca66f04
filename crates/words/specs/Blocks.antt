-- Blocks and fingerprints (document 01, "Words").
use Rattle.std.specs.Prelude.{ℕ}

-- "A block is 512 bytes"; "A fingerprint is 16 bytes"; "PBN 65,535 is unmapped"
abbrev pub block_size : ℕ
block_size = 512

abbrev pub print_size : ℕ
print_size = 16

abbrev pub unmapped : ℕ
unmapped = 65535
