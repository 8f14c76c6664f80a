-- Ways to answer the six calls (document 01, "How the statements must bind"). Assumes nothing.
use Rattle.std.specs.Prelude.{List, ℕ}
use Rattle.rule.specs.declared.Call.{Call}
use Rattle.rule.specs.declared.Reply.{Reply}
use Rattle.promise.specs.Promise.{After, Answers}
use Rattle.call_start.specs.Promise.{Lists, after}

-- what answers every call, whatever is lent
abbrev pub Way : Type 0
Way = ℕ → List ℕ → List ℕ → List ℕ → Call → After Reply (Lists ℕ)

-- it keeps the promise of the six calls
abbrev pub Kept : Way → Type 0
Kept f =
    (s : ℕ) (rs ts ms : List ℕ) (c : Call) → Answers (after s rs ts ms c) (f s rs ts ms c).reply (f s rs ts ms c).lent
