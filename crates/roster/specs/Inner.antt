-- What the parts of a reading promise one another (document 01, "Roster file", "Replies"). Assumes nothing.
use Rattle.std.specs.Prelude.{Bool, true, false, ◌&&◌, List, ◌≡◌, ℕ, ◌*◌, ◌+◌, ◌≤◌, eqb, length}
use Rattle.ring.specs.Scheme.{known}
use Rattle.tables.specs.Table.{relay_places, tablet_places}
use Rattle.tables.specs.Shape.{relays_used, tablets_used}
use Rattle.meaning.specs.Meaning.{tables_right}
use Rattle.write.specs.Tables.{flat, filled}
use Rattle.layout.specs.declared.Trailer.{Trailer}
use Rattle.layout.specs.Roster.{entry_bytes, shape_right, block}
use Rattle.layout.specs.Opened.{opened}
use Rattle.roster.specs.Content.{tables_fit}

-- past the refusals that come before the content: what the trailer says
pub record Open (b rs ts : List ℕ) (t : Trailer) : Type 0 where
  pub shape : shape_right b ≡ true
  pub says : t ≡ opened b
  pub known : known t.scheme ≡ true
  pub fit : tables_fit t.relays t.tablets rs ts ≡ true

-- right tables with an entry in every place
unfoldable pub full_tables : ℕ → List ℕ → List ℕ → Bool
full_tables scheme rs ts =
    tables_right scheme rs ts && (eqb (relays_used rs) (relay_places rs) && eqb (tablets_used ts) (tablet_places ts))

-- the bytes have n and m entries, scratch has as many places, and what is lent has at least as many
pub record Room (b : List ℕ) (n m : ℕ) (own own₂ rs ts : List ℕ) : Type 0 where
  pub there : entry_bytes * n + entry_bytes * m ≤ length b
  pub scratch : length own ≡ 2 * n
  pub scratch₂ : length own₂ ≡ 2 * m
  pub relays : 2 * n ≤ length rs
  pub tablets : 2 * m ≤ length ts

-- the bytes' first entries and those behind them: are they full tables?
unfoldable pub full_blocks : List ℕ → Trailer → Bool
full_blocks b t = full_tables t.scheme (flat (block b 0 t.relays)) (flat (block b (entry_bytes * t.relays) t.tablets))

-- if so, they stand in what is lent, with zeros behind them
pub record TakenOver (b : List ℕ) (t : Trailer) (rs ts rs' ts' : List ℕ) : Type 0 where
  pub full : full_blocks b t ≡ true
  pub relays : rs' ≡ filled (length rs) (flat (block b 0 t.relays))
  pub tablets : ts' ≡ filled (length ts) (flat (block b (entry_bytes * t.relays) t.tablets))

-- if not, what is lent stays
pub record NotTaken (b : List ℕ) (t : Trailer) (rs ts rs' ts' : List ℕ) : Type 0 where
  pub full : full_blocks b t ≡ false
  pub relays : rs' ≡ rs
  pub tablets : ts' ≡ ts
