-- What each of the six calls does (document 01, "The rule of placement", "Replies"): its own entry is changed, the rule is applied, and the
-- reply tells the difference. Over any assignment of positions. Assumes nothing.
use Rattle.std.specs.Prelude.{Bool, true, false, not, ◌&&◌, List, [], ◌∷◌, ℕ, eqb, ltb, leb, length}
use Rattle.std.proofs.Math.Option.{Option, none, some}
use Rattle.ring.specs.Most.{most_limit}
use Rattle.ring.specs.Scheme.{Positions}
use Rattle.rule.specs.declared.Refusal.{Refusal}
use Rattle.rule.specs.declared.Refusal.TheVariants.{Done, SchemeUnknown, TablesNotRight, NumberZero, TooLarge}
use Rattle.rule.specs.declared.Refusal.TheVariants.{NotThere, ThereAlready, NoUnusedPlace, LimitsTooSmall}
use Rattle.rule.specs.declared.Refusal.TheVariants.{MoveListTooShort}
use Rattle.rule.specs.declared.Call.{Call}
use Rattle.rule.specs.declared.Call.TheVariants.{Add, Remove, Set, Enrol, Withdraw, Find}
use Rattle.rule.specs.declared.Reply.{Reply}
use Rattle.rule.specs.declared.Move.{Move}
use Rattle.rule.specs.Entry.{Entry, numbers, has, beside_of, insert, delete, put, total, count, up_to}
use Rattle.rule.specs.Order.{order}
use Rattle.rule.specs.Rule.{Ring, full, has_room, placement, right}
use Rattle.rule.specs.Refusals.{is_done, replied, bare_reply, Bar, bar, first_bar}

-- ---- what is lent, besides the entries

pub record Lent : Type 0 where
  -- the scheme is known
  pub known : Bool
  -- lengths and places are such as tables may have
  pub fit : Bool
  pub relay_places : ℕ
  pub tablet_places : ℕ
  pub move_places : ℕ

-- the number that a call is about
unfoldable pub subject : Call → ℕ
subject (Add r limit) = r.0
subject (Remove r) = r.0
subject (Set r limit) = r.0
subject (Enrol t) = t.0
subject (Withdraw t) = t.0
subject (Find t) = t.0

-- ---- the sets and the placement afterwards

-- the call's own entry is changed and nothing else; a newcomer has no relay yet
unfoldable pub edited : Ring → Call → Ring
edited g (Add r limit) = record { relays = insert r.0 limit g.relays; tablets = g.tablets }
edited g (Remove r) = record { relays = delete r.0 g.relays; tablets = g.tablets }
edited g (Set r limit) = record { relays = put r.0 limit g.relays; tablets = g.tablets }
edited g (Enrol t) = record { relays = g.relays; tablets = insert t.0 0 g.tablets }
edited g (Withdraw t) = record { relays = g.relays; tablets = delete t.0 g.tablets }
edited g (Find t) = g

unfoldable pub or_nobody : Option (List Entry) → List Entry
or_nobody none = []
or_nobody (some placed) = placed

-- the rule's tables for the tablets, relays and limits then current
unfoldable pub after : Positions → Ring → Call → Ring
after p g c =
    let d : Ring = edited g c in
    record { relays = d.relays; tablets = or_nobody (placement p d.relays (numbers d.tablets)) }

-- ---- the move list

-- a tablet, and the relays that it leaves and reaches
abbrev pub move : ℕ → ℕ → ℕ → Move
move tablet old new = record { tablet = record { 0 = tablet }; old = record { 0 = old }; new = record { 0 = new } }

-- every tablet that stood in the old table, at another relay than in the new one, by rising number
unfoldable pub moved : List Entry → List Entry → List Move
moved old [] = []
moved old (e ∷ es) =
    elim (has old e.number && not (eqb (beside_of old e.number) e.beside))
    [ true ↦ move e.number (beside_of old e.number) e.beside ∷ moved old es | false ↦ moved old es ]

unfoldable pub moves : Positions → Ring → Call → List Move
moves p g c = moved g.tablets (after p g c).tablets

-- ---- the number passed, before the call

-- the relays ahead of the tablet's own
unfoldable pub ahead_of : Positions → Ring → ℕ → ℕ
ahead_of p g t = length (up_to (λ e. eqb e.number (beside_of g.tablets t)) (order p t g.relays))

-- the full relays ahead of the first with room
unfoldable pub full_ahead : Positions → Ring → ℕ → ℕ
full_ahead p g t = count (full g.tablets) (up_to (has_room g.tablets) (order p t g.relays))

unfoldable pub passed : Positions → Ring → Call → ℕ
passed p g (Add r limit) = 0
passed p g (Remove r) = 0
passed p g (Set r limit) = 0
passed p g (Enrol t) = full_ahead p g t.0
passed p g (Withdraw t) = ahead_of p g t.0
passed p g (Find t) = ahead_of p g t.0

-- ---- the relay replied

unfoldable pub relay_of : Positions → Ring → Call → ℕ
relay_of p g (Add r limit) = r.0
relay_of p g (Remove r) = r.0
relay_of p g (Set r limit) = r.0
relay_of p g (Enrol t) = beside_of (after p g (Enrol t)).tablets t.0
relay_of p g (Withdraw t) = beside_of g.tablets t.0
relay_of p g (Find t) = beside_of g.tablets t.0

-- ---- refusals

-- those that come of the numbers handed over, each call's by rising number
unfoldable pub wrong_numbers : Lent → Ring → Call → List Bar
wrong_numbers m g (Add r limit) =
    bar (eqb r.0 0) NumberZero ∷ bar (ltb most_limit limit) TooLarge ∷ bar (has g.relays r.0) ThereAlready
    ∷ bar (leb m.relay_places (length g.relays)) NoUnusedPlace ∷ []
wrong_numbers m g (Remove r) = bar (eqb r.0 0) NumberZero ∷ bar (not (has g.relays r.0)) NotThere ∷ []
wrong_numbers m g (Set r limit) =
    bar (eqb r.0 0) NumberZero ∷ bar (ltb most_limit limit) TooLarge ∷ bar (not (has g.relays r.0)) NotThere
    ∷ []
wrong_numbers m g (Enrol t) =
    bar (eqb t.0 0) NumberZero ∷ bar (has g.tablets t.0) ThereAlready
    ∷ bar (leb m.tablet_places (length g.tablets)) NoUnusedPlace ∷ []
wrong_numbers m g (Withdraw t) = bar (eqb t.0 0) NumberZero ∷ bar (not (has g.tablets t.0)) NotThere ∷ []
wrong_numbers m g (Find t) = bar (eqb t.0 0) NumberZero ∷ bar (not (has g.tablets t.0)) NotThere ∷ []

-- all, by rising number
unfoldable pub refusal : Positions → Lent → Ring → Call → Refusal
refusal p m g c =
    first_bar
    (bar (not m.known) SchemeUnknown
    ∷ bar (not (m.fit && right p g)) TablesNotRight
    ∷ bar (not (is_done (first_bar (wrong_numbers m g c)))) (first_bar (wrong_numbers m g c))
    ∷ bar (ltb (total (edited g c).relays) (length (edited g c).tablets)) LimitsTooSmall
    ∷ bar (ltb m.move_places (length (moves p g c))) MoveListTooShort
    ∷ [])

-- ---- the outcome

pub record Outcome : Type 0 where
  pub reply : Reply
  pub ring : Ring
  pub moves : List Move

unfoldable pub accepted : Positions → Ring → Call → Outcome
accepted p g c =
    record {
      reply = replied Done (relay_of p g c) (passed p g c) (length (moves p g c));
      ring = after p g c;
      moves = moves p g c;
    }

-- the tables stay as they are, and no move is written
unfoldable pub declined : Ring → Refusal → Outcome
declined g r = record { reply = bare_reply r; ring = g; moves = [] }

unfoldable pub outcome : Positions → Lent → Ring → Call → Outcome
outcome p m g c = elim (is_done (refusal p m g c)) [ true ↦ accepted p g c | false ↦ declined g (refusal p m g c) ]
