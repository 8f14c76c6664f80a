-- A tablet's clockwise order (document 01, "The ring") by the slots of the ring order: from its home on, once round. Assumes nothing.
use Rattle.std.specs.Prelude.{cond, List, ℕ, ◌+◌, ◌-◌, ltb, leb}
use Rattle.rule.specs.Entry.{Entry}
use Rattle.tables.specs.Table.{relay_number, relay_limit}
use Rattle.order.specs.Keys.{slot_relay}
use Rattle.meaning.specs.Meaning.{places}

-- the slot d steps clockwise from slot h, of n
unfoldable pub slot_at : ℕ → ℕ → ℕ → ℕ
slot_at n h d = cond (ltb (h + d) n) (h + d) (h + d - n)

-- how many steps clockwise slot k is from slot h
unfoldable pub steps_to : ℕ → ℕ → ℕ → ℕ
steps_to n h k = cond (leb h k) (k - h) (k + n - h)

-- the number and the limit of the relay d steps from slot h
unfoldable pub round_number : List ℕ → List ℕ → ℕ → ℕ → ℕ → ℕ
round_number rs keys n h d = relay_number rs (slot_relay keys (slot_at n h d))

unfoldable pub round_limit : List ℕ → List ℕ → ℕ → ℕ → ℕ → ℕ
round_limit rs keys n h d = relay_limit rs (slot_relay keys (slot_at n h d))

-- the relays of the first d steps from slot h
abbrev pub round : List ℕ → List ℕ → ℕ → ℕ → ℕ → List Entry
round rs keys n h d = places (round_number rs keys n h) (round_limit rs keys n h) d
