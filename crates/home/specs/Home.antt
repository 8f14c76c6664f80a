-- The home of a position among the relays in ring order (document 01, "The ring"), and where a walk to it may begin. Assumes nothing.
use Rattle.std.specs.Prelude.{List, ◌≡◌, ℕ, ◌*◌, ◌^◌, ◌≤◌, ◌<◌, length, get_or}

-- the least ring key that a relay at position p can have
abbrev pub key_at : ℕ → ℕ
key_at p = p * 2 ^ 32

-- a walk to the key x may begin at slot h: the keys before that are below x
pub record Begins (keys : List ℕ) (n x h : ℕ) : Type 0 where
  pub within : h ≤ n
  pub passed : (k : ℕ) → k < h → get_or keys k 0 < x

-- and it ends there: the other keys are not. The home of position p is the slot where a walk to key_at p ends, and the first slot where that is n.
pub record Home (keys : List ℕ) (n x h : ℕ) : Type 0 where
  pub begins : Begins keys n x h
  pub ahead : (k : ℕ) → h ≤ k → k < n → x ≤ get_or keys k 0

-- the ring is cut into so many arcs, each of so many positions
abbrev pub arcs : ℕ
arcs = 1024

abbrev pub arc : ℕ
arc = 2 ^ 22

-- a slot for each of the first m arcs, where a walk to its first position may begin
pub record Starts (keys : List ℕ) (n m : ℕ) (start : List ℕ) : Type 0 where
  pub begins : (b : ℕ) → b < m → Begins keys n (key_at (b * arc)) (get_or start b 0)

-- in b the arcs from `from` up to r, which is past `top`, have slot k; the arcs before are as in a
pub record Marked (from top k : ℕ) (a b : List ℕ) (r : ℕ) : Type 0 where
  pub size : length b ≡ length a
  pub onward : from ≤ r
  pub past : top < r
  pub within : r ≤ arcs
  pub rest : (c : ℕ) → c < from → get_or b c 0 ≡ get_or a c 0
  pub done : (c : ℕ) → from ≤ c → c < r → get_or b c 0 ≡ k
