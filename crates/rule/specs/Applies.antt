-- Which refusal is given where several apply, and what it means that none does (document 01, "Replies"). Assumes nothing.
use Rattle.std.specs.Prelude.{true, false, not, ◌&&◌, List, [], ◌∷◌, ◌++◌, ◌⊎◌, ◌≡◌, ℕ, ◌≤◌, ltb, length}
use Rattle.ring.specs.Scheme.{Positions}
use Rattle.rule.specs.declared.Refusal.{Refusal}
use Rattle.rule.specs.declared.Refusal.TheVariants.{SchemeUnknown, TablesNotRight, LimitsTooSmall, MoveListTooShort}
use Rattle.rule.specs.declared.Call.{Call}
use Rattle.rule.specs.Entry.{total}
use Rattle.rule.specs.Rule.{Ring, right}
use Rattle.rule.specs.Refusals.{is_done, Bar, bar, first_bar}
use Rattle.rule.specs.Calls.{Lent, edited, moves, wrong_numbers}

-- ---- of any refusals

abbrev pub OneOf : Bar → List Bar → Type 0
OneOf b [] = ⊥
OneOf b (c ∷ cs) = (b ≡ c) ⊎ OneOf b cs

-- a refusal that applies
pub record Given (bs : List Bar) (r : Refusal) : Type 0 where
  pub bar : Bar
  pub among : OneOf bar bs
  pub applies : bar.applies ≡ true
  pub is : r ≡ bar.refusal

-- of all that apply, the refusal r is the first by rank, and Done stands for none: a rank is the refusal's number, or its turn where the paper gives
-- an order for one call
pub record Lowest (rank : Refusal → ℕ) (bs : List Bar) (r : Refusal) : Type 0 where
  pub given : is_done r ≡ false → Given bs r
  pub first : (b : Bar) → OneOf b bs → b.applies ≡ true → rank r ≤ rank b.refusal
  pub none_applies : is_done r ≡ true → (b : Bar) → OneOf b bs → b.applies ≡ false

-- ---- of a call

-- all its refusals
abbrev pub bars : Positions → Lent → Ring → Call → List Bar
bars p m g c =
    bar (not m.known) SchemeUnknown ∷ bar (not (m.fit && right p g)) TablesNotRight
    ∷ (wrong_numbers m g c ++ (bar (ltb (total (edited g c).relays) (length (edited g c).tablets)) LimitsTooSmall
    ∷ bar (ltb m.move_places (length (moves p g c))) MoveListTooShort ∷ []))

-- none applies
pub record Accepted (p : Positions) (m : Lent) (g : Ring) (c : Call) : Type 0 where
  pub known : m.known ≡ true
  pub fit : m.fit ≡ true
  pub tables : right p g ≡ true
  pub numbers : is_done (first_bar (wrong_numbers m g c)) ≡ true
  pub enough : length (edited g c).tablets ≤ total (edited g c).relays
  pub list : length (moves p g c) ≤ m.move_places
