-- The sets of a ring, which are its relays with their limits and its tablets, and how those of two rings differ (document 01, "The rule of
-- placement"). Assumes nothing.
use Rattle.std.specs.Prelude.{true, false, List, ◌≡◌, ℕ, ◌≤◌}
use Rattle.rule.specs.declared.Call.{Call}
use Rattle.rule.specs.declared.Call.TheVariants.{Add, Remove, Set, Enrol, Withdraw, Find}
use Rattle.rule.specs.Entry.{Entry, numbers, has, beside_of}
use Rattle.rule.specs.Rule.{Ring}

-- the same relays with the same limits, and the same tablets
pub record SameSets (g₁ g₂ : Ring) : Type 0 where
  pub relays : (r : ℕ) → has g₁.relays r ≡ has g₂.relays r
  pub limits : (r : ℕ) → beside_of g₁.relays r ≡ beside_of g₂.relays r
  pub tablets : (t : ℕ) → has g₁.tablets t ≡ has g₂.tablets t

-- no relay less, no limit lower, no tablet more: each relay of the first is on the second with at least its limit, and each tablet of the second
-- is on the first
pub record Roomier (g₁ g₂ : Ring) : Type 0 where
  pub there : (r : ℕ) → has g₁.relays r ≡ true → has g₂.relays r ≡ true
  pub limits : (r : ℕ) → has g₁.relays r ≡ true → beside_of g₁.relays r ≤ beside_of g₂.relays r
  pub tablets : (t : ℕ) → has g₂.tablets t ≡ true → has g₁.tablets t ≡ true

-- ---- one entry changed

-- every other number is there as before, with the same beside it
pub record Others (n : ℕ) (before now_there : List Entry) : Type 0 where
  pub there : (q : ℕ) → (q ≡ n → ⊥) → has now_there q ≡ has before q
  pub beside : (q : ℕ) → (q ≡ n → ⊥) → beside_of now_there q ≡ beside_of before q

-- the number n is there with v beside it
pub record With (es : List Entry) (n v : ℕ) : Type 0 where
  pub there : has es n ≡ true
  pub beside : beside_of es n ≡ v

-- the same tablets are there, but for that one
abbrev pub OtherTablets : ℕ → Ring → Ring → Type 0
OtherTablets t g h = (q : ℕ) → (q ≡ t → ⊥) → has h.tablets q ≡ has g.tablets q

-- h has the sets of g with the call's own entry changed
abbrev pub Changed : Ring → Call → Ring → Type 0
Changed g (Add r l) h =
    Others r.0 g.relays h.relays × (With h.relays r.0 l × (numbers h.tablets ≡ numbers g.tablets))
Changed g (Remove r) h =
    Others r.0 g.relays h.relays × ((has h.relays r.0 ≡ false)
    × (numbers h.tablets ≡ numbers g.tablets))
Changed g (Set r l) h =
    Others r.0 g.relays h.relays × (With h.relays r.0 l × (numbers h.tablets ≡ numbers g.tablets))
Changed g (Enrol t) h = (h.relays ≡ g.relays) × (OtherTablets t.0 g h × (has h.tablets t.0 ≡ true))
Changed g (Withdraw t) h = (h.relays ≡ g.relays) × (OtherTablets t.0 g h × (has h.tablets t.0 ≡ false))
Changed g (Find t) h = h ≡ g
