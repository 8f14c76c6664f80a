-- The distance clockwise, and the clockwise order of a tablet (document 01, "The ring"). Assumes nothing.
use Rattle.std.specs.Prelude.{ℕ, ◌+◌, ◌-◌, ◌*◌, ◌%◌, ◌^◌, Bool, ◌&&◌, ◌||◌, ◌==◌, nat_lt}
use Rattle.ring.specs.Scheme.{Positions}

-- the other position less the one, modulo 2 ^ 32
unfoldable pub clockwise : ℕ → ℕ → ℕ
clockwise one other = (other + (2 ^ 32 - one)) % 2 ^ 32

-- how far clockwise tablet t has to relay r
unfoldable pub distance : Positions → ℕ → ℕ → ℕ
distance p t r = clockwise (p.tablet_at t) (p.relay_at r)

-- relay r stands ahead of relay q in the clockwise order of tablet t: by distance, equal distances by relay number
unfoldable pub sooner : Positions → ℕ → ℕ → ℕ → Bool
sooner p t r q = nat_lt (distance p t r) (distance p t q) || (distance p t r == distance p t q && nat_lt r q)

-- the same order as one number, for relay numbers below 2 ^ 32
unfoldable pub key : Positions → ℕ → ℕ → ℕ
key p t r = distance p t r * 2 ^ 32 + r
