-- Reading a roster (document 01, "Roster file", "Replies"): the full reply and every lent place afterwards. Assumes nothing.
use Rattle.std.specs.Prelude.{not, cond, List, [], ◌∷◌, ℕ, suc, eqb, length, Result, Ok, Err}
use Rattle.ring.specs.Scheme.{known}
use Rattle.rule.specs.declared.Refusal.{Refusal}
use Rattle.rule.specs.declared.Refusal.TheVariants.{Done, SchemeUnknown, RosterShapeWrong, RosterContentWrong, OutputUnfit}
use Rattle.rule.specs.declared.Reply.{Reply}
use Rattle.rule.specs.Refusals.{number_of, bare_reply, Bar, bar, first_bar}
use Rattle.promise.specs.Promise.{After, settled}
use Rattle.write.specs.Tables.{relay_table, tablet_table}
use Rattle.layout.specs.Roster.{shape_right, relay_count, tablet_count, roster_scheme, roster_ring}
use Rattle.roster.specs.Content.{content_right, tables_fit}

abbrev pub reading_bars : List ℕ → List ℕ → List ℕ → List Bar
reading_bars b rs ts =
    bar (not (shape_right b)) RosterShapeWrong
    ∷ bar (not (known (roster_scheme b))) SchemeUnknown
    ∷ bar (not (tables_fit (relay_count b) (tablet_count b) rs ts)) OutputUnfit
    ∷ bar (not (content_right b)) RosterContentWrong
    ∷ []

-- in the order 10, 1, 12, 11
unfoldable pub refusal : List ℕ → List ℕ → List ℕ → Refusal
refusal b rs ts = first_bar (reading_bars b rs ts)

-- how many of these numbers stand ahead of that one
unfoldable pub ahead_in : List ℕ → ℕ → ℕ
ahead_in [] n = 0
ahead_in (x ∷ xs) n = cond (eqb x n) 0 (suc (ahead_in xs n))

-- a refusal's turn, from 1
abbrev pub turn_of : Refusal → ℕ
turn_of r = suc (ahead_in (10 ∷ 1 ∷ 12 ∷ 11 ∷ []) (number_of r))

-- a reading's reply, and the roster's scheme: 0 when refused
pub record Reading : Type 0 where
  pub reply : Reply
  pub scheme : ℕ

-- the roster's entries, zeros in every place left over, and the trailer's scheme
unfoldable pub taken : List ℕ → List ℕ → List ℕ → After Reading (List ℕ × List ℕ)
taken b rs ts =
    record {
      reply = record { reply = bare_reply Done; scheme = roster_scheme b };
      lent = (relay_table (length rs) (roster_ring b), tablet_table (length ts) (roster_ring b));
    }

abbrev pub refused_reading : Refusal → Reading
refused_reading why = record { reply = bare_reply why; scheme = 0 }

-- what a reading gives comes to this: the scheme when it is done
abbrev pub reading_of : Result ℕ Refusal → Reading
reading_of (Ok scheme) = record { reply = bare_reply Done; scheme = scheme }
reading_of (Err why) = refused_reading why

unfoldable pub after : List ℕ → List ℕ → List ℕ → After Reading (List ℕ × List ℕ)
after b rs ts =
    let why : Refusal = refusal b rs ts in
    settled why (refused_reading why) (rs, ts) (taken b rs ts)
