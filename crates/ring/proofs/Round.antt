-- The distance clockwise, onwards and past the top of the ring (document 01, "The ring").
--   distance_own                      a relay at the tablet's own position is at distance 0
--   clockwise_on, clockwise_round     onwards it is the difference; past the top of the ring it comes round
-- Assumes nothing.
use Rattle.std.proofs.Common.{◌≡◌, ℕ, ◌+◌, ◌-◌, ◌^◌, ◌<◌, ◌≤◌, arith}
use Rattle.ring.specs.Scheme.{Positions}
use Rattle.ring.specs.Clockwise.{clockwise, distance}

pub clockwise_on : (one other : ℕ) → one ≤ other → other < 2 ^ 32 → clockwise one other ≡ other - one
unfolding clockwise
clockwise_on one other h s = omega arith

pub clockwise_round : (one other : ℕ) → other < one → one < 2 ^ 32 → clockwise one other ≡ other + (2 ^ 32 - one)
unfolding clockwise
clockwise_round one other h s = omega arith

pub distance_own : (p : Positions) (t r : ℕ) → p.relay_at r ≡ p.tablet_at t → p.tablet_at t < 2 ^ 32 → distance p t r
    ≡ 0
unfolding distance clockwise
distance_own p t r e s = omega arith
