-- How a number stands in bytes (document 01, "Roster file"): 32 bits, lowest byte first. Assumes nothing.
use Rattle.std.specs.Prelude.{List, ℕ, ◌+◌, ◌*◌, get_or}

-- it takes so many bytes
abbrev pub number_bytes : ℕ
number_bytes = 4

-- the number whose bytes start at an offset
unfoldable pub number_at : List ℕ → ℕ → ℕ
number_at b at = get_or b at 0 + get_or b (at + 1) 0 * 256 + get_or b (at + 2) 0 * 65536 + get_or b (at + 3) 0 * 16777216
