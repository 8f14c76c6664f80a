-- What a stretch promises (document 01, "Sheet, balance, tally"): which part of the lent sheet is handed back, its content and its place, also
-- where it is empty. Assumes nothing.
use Rattle.std.specs.Prelude.{List, [], ◌≡◌, ℕ, ◌+◌, ◌*◌, take, drop}
use Rattle.std.specs.Borrow.{Bor}
use Rattle.ring.specs.Scheme.{positions}
use Rattle.rule.specs.Sheet.{Stretch, stretch}
use Rattle.meaning.specs.Meaning.{ring_of, lent_of}

-- document 01's stretch, for what is lent; no move list is
unfoldable pub stretch_of : ℕ → List ℕ → List ℕ → List ℕ → ℕ → Stretch
stretch_of scheme rs ts lent r = stretch (positions scheme) (lent_of scheme rs ts []) (ring_of rs ts) lent r

-- r is that part of s: it points as many numbers of four bytes behind where s points as the part's start says
pub record PartOf (s r : Bor (List ℕ)) (part : Stretch) : Type 0 where
  pub place : r.ref_ptr ≡ (s.ref_ptr.0, part.start * 4 + s.ref_ptr.1)
  pub content : r.now ≡ take part.len (drop part.start s.now)
