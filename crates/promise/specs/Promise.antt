-- What a promise is (document 01, "How the statements must bind"): the full reply and all that is lent afterwards, for accepted and refused calls
-- alike. Whatever is asked of the library is a call here, and what is lent to it may be one list or several. Assumes nothing.
use Rattle.std.specs.Prelude.{true, false, ◌≡◌}
use Rattle.rule.specs.declared.Refusal.{Refusal}
use Rattle.rule.specs.Refusals.{is_done}

-- the reply, and what is lent once the call is over
pub record After (R L : Type 0) : Type 0 where
  pub reply : R
  pub lent : L

-- a refused call gives that reply and leaves all that is lent as it was
unfoldable pub settled : {R L : Type 0} → Refusal → R → L → After R L → After R L
settled why reply lent done = elim (is_done why) [ true ↦ done | false ↦ record { reply = reply; lent = lent } ]

-- with a tally, which counts refused calls too
unfoldable pub with_tally : {R L T : Type 0} → (R → T) → After R L → After R (L × T)
with_tally counted a = record { reply = a.reply; lent = (a.lent, counted a.reply) }

-- the reply and what is lent are those
pub record Answers {R L : Type 0} (a : After R L) (r : R) (l : L) : Type 0 where
  pub reply : r ≡ a.reply
  pub lent : l ≡ a.lent
