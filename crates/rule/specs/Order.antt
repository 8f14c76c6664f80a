-- A tablet's clockwise order (document 01, "The ring"), over any assignment of positions. Assumes nothing.
use Rattle.std.specs.Prelude.{true, false, List, [], ◌∷◌, ℕ}
use Rattle.std.proofs.Math.Option.{Option}
use Rattle.ring.specs.Scheme.{Positions}
use Rattle.ring.specs.Clockwise.{sooner}
use Rattle.rule.specs.Entry.{Entry, first}

-- a relay put in behind those that stand ahead of it
unfoldable pub queued : Positions → ℕ → Entry → List Entry → List Entry
queued p t e [] = e ∷ []
queued p t e (f ∷ fs) = elim (sooner p t e.number f.number) [ true ↦ e ∷ f ∷ fs | false ↦ f ∷ queued p t e fs ]

-- all relays, by distance from the tablet's position, equal distances by relay number
unfoldable pub order : Positions → ℕ → List Entry → List Entry
order p t [] = []
order p t (e ∷ es) = queued p t e (order p t es)

-- the first of them
unfoldable pub home : Positions → ℕ → List Entry → Option Entry
home p t relays = first (λ e. true) (order p t relays)
