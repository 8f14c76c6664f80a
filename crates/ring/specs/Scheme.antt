-- Which schemes there are, and where a number stands on the ring under each (document 01, "The ring"). Assumes nothing.
use Rattle.std.specs.Prelude.{ℕ, Bool, cond, ◌||◌, ◌∷◌, ◌==◌}
use Rattle.ring.specs.Fnv.{fnv, four_bytes}

-- the byte that goes before the number
abbrev pub relay_tag : ℕ
relay_tag = 0x52

abbrev pub tablet_tag : ℕ
tablet_tag = 0x54

unfoldable pub known : ℕ → Bool
known scheme = scheme == 0 || scheme == 1

-- Scheme 0: the number itself. Scheme 1: FNV-1a over the tag and the number's bytes. (Every call refuses an unknown scheme, so
-- what this says of one is never used.)
unfoldable pub position : ℕ → ℕ → ℕ → ℕ
position scheme tag n = cond (scheme == 0) n (fnv (tag ∷ four_bytes n))

-- an assignment of positions: all that placement knows of a scheme
pub record Positions : Type 0 where
  pub relay_at : ℕ → ℕ
  pub tablet_at : ℕ → ℕ

unfoldable pub positions : ℕ → Positions
positions scheme = record { relay_at = position scheme relay_tag; tablet_at = position scheme tablet_tag }
