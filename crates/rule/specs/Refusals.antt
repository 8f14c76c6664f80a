-- The refusals and their numbers (document 01, "Replies"). Assumes nothing.
use Rattle.std.specs.Prelude.{Bool, true, false, List, [], ◌∷◌, ℕ, eqb}
use Rattle.rule.specs.declared.Refusal.{Refusal}
use Rattle.rule.specs.declared.Refusal.TheVariants.{Done, SchemeUnknown, TablesNotRight, NumberZero, TooLarge}
use Rattle.rule.specs.declared.Refusal.TheVariants.{NotThere, ThereAlready, NoUnusedPlace, LimitsTooSmall}
use Rattle.rule.specs.declared.Refusal.TheVariants.{MoveListTooShort, RosterShapeWrong, RosterContentWrong}
use Rattle.rule.specs.declared.Refusal.TheVariants.{OutputUnfit}
use Rattle.rule.specs.declared.Reply.{Reply}

abbrev pub number_of : Refusal → ℕ
number_of Done = 0
number_of SchemeUnknown = 1
number_of TablesNotRight = 2
number_of NumberZero = 3
number_of TooLarge = 4
number_of NotThere = 5
number_of ThereAlready = 6
number_of NoUnusedPlace = 7
number_of LimitsTooSmall = 8
number_of MoveListTooShort = 9
number_of RosterShapeWrong = 10
number_of RosterContentWrong = 11
number_of OutputUnfit = 12

unfoldable pub is_done : Refusal → Bool
is_done r = eqb (number_of r) 0

-- a reply: the refusal, the relay, the relays passed and the moves
abbrev pub replied : Refusal → ℕ → ℕ → ℕ → Reply
replied r relay passed moves = record { refusal = r; relay = record { 0 = relay }; passed = passed; moves = moves }

-- 0 for the last three: so refused calls reply, and sheet, reading and balance also when done
abbrev pub bare_reply : Refusal → Reply
bare_reply r = replied r 0 0 0

-- ---- in their order

-- a refusal, and whether it applies
pub record Bar : Type 0 where
  pub applies : Bool
  pub refusal : Refusal

abbrev pub bar : Bool → Refusal → Bar
bar b r = record { applies = b; refusal = r }

-- the first that applies; written by rising number, that is the lowest
unfoldable pub first_bar : List Bar → Refusal
first_bar [] = Done
first_bar (b ∷ bs) = elim b.applies [ true ↦ b.refusal | false ↦ first_bar bs ]
