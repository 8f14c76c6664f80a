-- 32-bit FNV-1a (document 01, "The ring"), over any bytes. Assumes nothing.
use Rattle.std.specs.Prelude.{ℕ, ◌*◌, ◌/◌, ◌%◌, ◌^◌, List, [], ◌∷◌, bit_xor}

-- one byte: exclusive-or it in, then multiply modulo 2 ^ 32
unfoldable pub mixed : ℕ → ℕ → ℕ
mixed hash byte = bit_xor hash byte * 16777619 % 2 ^ 32

unfoldable pub mixed_all : ℕ → List ℕ → ℕ
mixed_all hash [] = hash
mixed_all hash (byte ∷ bytes) = mixed_all (mixed hash byte) bytes

unfoldable pub fnv : List ℕ → ℕ
fnv bytes = mixed_all 2166136261 bytes

-- the four bytes of a 32-bit number, lowest byte first
unfoldable pub four_bytes : ℕ → List ℕ
four_bytes n = n % 256 ∷ n / 256 % 256 ∷ n / 65536 % 256 ∷ n / 16777216 % 256 ∷ []
