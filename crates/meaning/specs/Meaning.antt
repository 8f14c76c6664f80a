-- What the lent numbers mean (document 01, "The lent tables"): the entries of the tables, when the tables are right, and how they are lent. Assumes
-- nothing.
use Rattle.std.specs.Prelude.{Bool, not, ◌&&◌, ◌||◌, List, [], ◌∷◌, ◌++◌, ℕ, zero, suc, ◌/◌, ◌^◌, ◌<◌, ltb, length, get_or}
use Rattle.ring.specs.Scheme.{known, positions}
use Rattle.rule.specs.declared.Refusal.{Refusal}
use Rattle.rule.specs.declared.Refusal.TheVariants.{SchemeUnknown, TablesNotRight}
use Rattle.rule.specs.Entry.{Entry, entry}
use Rattle.rule.specs.Rule.{Ring, right}
use Rattle.rule.specs.Refusals.{Bar, bar, first_bar}
use Rattle.rule.specs.Calls.{Lent}
use Rattle.tables.specs.Table.{number_in, beside_in, relay_places, relay_number, relay_limit, tablet_places, tablet_number, tablet_relay}
use Rattle.tables.specs.Shape.{all, unused, relays_used, tablets_used, relay_fits, tablet_fits}

-- the first n places of a table as entries: the number there, and what stands beside it
unfoldable pub places : (ℕ → ℕ) → (ℕ → ℕ) → ℕ → List Entry
places number beside zero = []
places number beside (suc i) = places number beside i ++ (entry (number i) (beside i) ∷ [])

abbrev pub entries_in : List ℕ → ℕ → List Entry
entries_in t n = places (number_in t) (beside_in t) n

abbrev pub relays_in : List ℕ → ℕ → List Entry
relays_in = entries_in

abbrev pub tablets_in : List ℕ → ℕ → List Entry
tablets_in = entries_in

-- entries come first, so they are as many of the first places as have a number
unfoldable pub ring_of : List ℕ → List ℕ → Ring
ring_of rs ts = record { relays = relays_in rs (relays_used rs); tablets = tablets_in ts (tablets_used ts) }

-- every place behind the first n is zeros
unfoldable pub rest_unused : (ℕ → ℕ) → (ℕ → ℕ) → ℕ → ℕ → Bool
rest_unused number beside n most = all (λ i. ltb i n || unused (number i) (beside i)) most

-- whole places and not too many, entries first and zeros behind them
unfoldable pub fit_tables : List ℕ → List ℕ → Bool
fit_tables rs ts =
    relay_fits rs && (tablet_fits ts && (rest_unused (relay_number rs) (relay_limit rs) (relays_used rs) (relay_places rs)
    && rest_unused (tablet_number ts) (tablet_relay ts) (tablets_used ts) (tablet_places ts)))

-- right tables: such as may be lent, and every tablet at the relay that the rule gives it
unfoldable pub tables_right : ℕ → List ℕ → List ℕ → Bool
tables_right scheme rs ts = fit_tables rs ts && right (positions scheme) (ring_of rs ts)

-- the two refusals of what is lent, before those that follow
unfoldable pub tables_bars : ℕ → List ℕ → List ℕ → List Bar → List Bar
tables_bars scheme rs ts later =
    bar (not (known scheme)) SchemeUnknown ∷ bar (not (tables_right scheme rs ts)) TablesNotRight ∷ later

-- the refusal that every call gives for what is lent, whatever else it is given
unfoldable pub tables_refusal : ℕ → List ℕ → List ℕ → Refusal
tables_refusal scheme rs ts = first_bar (tables_bars scheme rs ts [])

-- a move takes three numbers of the list
unfoldable pub lent_of : ℕ → List ℕ → List ℕ → List ℕ → Lent
lent_of scheme rs ts ms =
    record {
      known = known scheme;
      fit = fit_tables rs ts;
      relay_places = relay_places rs;
      tablet_places = tablet_places ts;
      move_places = length ms / 3;
    }

-- ---- for the loops

-- every number of a lent slice is a 32-bit number
pub record Words (l : List ℕ) : Type 0 where
  pub fit : (i : ℕ) → get_or l i 0 < 2 ^ 32
