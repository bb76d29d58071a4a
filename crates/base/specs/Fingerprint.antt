-- Numbers that tell values apart: what has another fingerprint is another value. They are this program's own, and no
-- contract of a public call of the workbench shows one.
use Rattle.std.specs.Prelude.{ℕ, ◌+◌, ◌*◌, ◌^◌, ◌%◌}

-- a fingerprint with one more number
unfoldable pub mix : ℕ → ℕ → ℕ
mix fingerprint number = ((fingerprint * 0x5851F42D4C957F2D) % 2 ^ 64 + number) % 2 ^ 64
