-- What a plan asks and answers (document 01, "Replies"): the refusals 8 and 9, and where neither applies the tablets' new relays. Assumes nothing.
use Rattle.std.specs.Prelude.{false, List, [], ◌∷◌, ◌≡◌, ℕ, ◌≤◌, ◌<◌, ltb, length, get_or, Result, MatchResult}
use Rattle.ring.specs.Most.{most_limit}
use Rattle.ring.specs.Scheme.{Positions}
use Rattle.rule.specs.declared.Refusal.{Refusal}
use Rattle.rule.specs.declared.Refusal.TheVariants.{Done, LimitsTooSmall, MoveListTooShort}
use Rattle.rule.specs.Entry.{total}
use Rattle.rule.specs.Refusals.{is_done, bar, first_bar}
use Rattle.tables.specs.Table.{relay_places, relay_number, relay_limit, RelaysIn, TabletsIn}
use Rattle.meaning.specs.Meaning.{relays_in}
use Rattle.meaning.specs.Ascending.{Ascending}
use Rattle.ring_edit.specs.declared.Around.{Around}
use Rattle.ring_edit.specs.Homes.{Homes}
use Rattle.refill.specs.Refilled.{Refilled}
use Rattle.plan.specs.Changes.{changes_to, ruled_changes}

-- n relays with limits within bounds
pub record Limited (rs : List ℕ) (n : ℕ) : Type 0 where
  pub relays : RelaysIn rs n
  pub limits : (i : ℕ) → i < n → relay_limit rs i ≤ most_limit

-- by rising number, in ring order, with m tablets and their homes
pub record Plans (rs ts : List ℕ) (n m : ℕ) (around : Around) : Type 0 where
  pub limited : Limited rs n
  pub rising : Ascending (relay_number rs) n
  pub tablets : TabletsIn ts m
  pub positions : Positions
  pub homes : Homes positions rs ts n m around.keys around.home

-- each of the first m tablets has a place among the relays
pub record Assigned (rs relay ts : List ℕ) (m : ℕ) : Type 0 where
  pub tablets : TabletsIn ts m
  pub relays : (j : ℕ) → j < m → get_or relay j 0 < relay_places rs

-- the first of the two refusals that applies, for a move list of so many places
unfoldable pub plan_refusal : Positions → List ℕ → List ℕ → ℕ → ℕ → ℕ → Refusal
plan_refusal p rs ts n m places =
    first_bar
    (bar (ltb (total (relays_in rs n)) m) LimitsTooSmall
    ∷ bar (ltb places (length (ruled_changes p rs ts n m))) MoveListTooShort
    ∷ [])

-- neither applies: each tablet's relay, and room for the moves
pub record Settled (p : Positions) (rs ts : List ℕ) (n m places : ℕ) (relay : List ℕ) : Type 0 where
  pub refusal : plan_refusal p rs ts n m places ≡ Done
  pub enough : m ≤ total (relays_in rs n)
  pub refilled : Refilled p rs ts n m relay
  pub fits : length (changes_to rs relay ts m) ≤ places

-- the relays, or the refusal that applies
abbrev pub Planned : Positions → List ℕ → List ℕ → ℕ → ℕ → ℕ → Result (List ℕ) Refusal → Type 0
Planned p rs ts n m places r =
    MatchResult r (Settled p rs ts n m places) (λ why. (plan_refusal p rs ts n m places ≡ why) × (is_done why ≡ false))
