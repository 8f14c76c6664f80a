-- The walks of an enrolment and of a withdrawal (document 01, "The rule of placement") in one sweep each, as the loops of the library make them.
-- The laws `turn_placement` and `holes_placement` say that they end in the rule's placement. Assumes nothing.
use Rattle.std.specs.Prelude.{true, false, List, [], ◌∷◌, ◌++◌, ℕ, ltb}
use Rattle.ring.specs.Scheme.{Positions}
use Rattle.rule.specs.declared.Move.{Move}
use Rattle.rule.specs.Entry.{Entry, put}
use Rattle.rule.specs.Calls.{move}
use Rattle.rule.specs.Walks.{greatest, had_passed}

-- these tablets sit down, each at its new relay
unfoldable pub seated : List Move → List Entry → List Entry
seated [] tablets = tablets
seated (m ∷ ms) tablets = seated ms (put m.tablet.0 m.new.0 tablets)

-- ---- enrolling: one turn over the full relays ahead of the first with room, in the newcomer's order

-- who walks, from which relay (the newcomer from 0), and who sat down so far
pub record Turn : Type 0 where
  pub walker : ℕ
  pub from : ℕ
  pub chain : List Move

-- everybody who sat down, once the walker has sat down at relay r
unfoldable pub seats : Turn → ℕ → List Move
seats s r = s.chain ++ (move s.walker s.from r ∷ [])

-- the walker takes the place of the greatest number at a full relay where that is greater, and that one walks on
unfoldable pub turn_at : List Entry → Turn → Entry → Turn
turn_at tablets s r =
    elim (ltb s.walker (greatest tablets r.number)) [
      | true ↦ record { walker = greatest tablets r.number; from = r.number; chain = seats s r.number }
      | false ↦ s
    ]

unfoldable pub turn : List Entry → Turn → List Entry → Turn
turn tablets s [] = s
turn tablets s (r ∷ rs) = turn tablets (turn_at tablets s r) rs

unfoldable pub newcomer : ℕ → Turn
newcomer t = record { walker = t; from = 0; chain = [] }

-- ---- withdrawing: one pass over the tablets of greater number

-- each that had passed the hole takes it, and leaves its own
unfoldable pub holes : Positions → ℕ → List Entry → List Move
holes p r [] = []
holes p r (e ∷ es) =
    elim (had_passed p r e) [ true ↦ move e.number e.beside r ∷ holes p e.beside es | false ↦ holes p r es ]
