-- A table as the list of its entries (document 01, "The lent tables"). Assumes nothing.
use Rattle.std.specs.Prelude.{Bool, true, false, ◌||◌, cond, List, [], ◌∷◌, ℕ, ◌+◌, eqb, ltb}
use Rattle.std.proofs.Math.Option.{Option, none, some}

-- A number and what stands beside it: a relay's limit, a tablet's relay.
pub record Entry : Type 0 where
  pub number : ℕ
  pub beside : ℕ

abbrev pub entry : ℕ → ℕ → Entry
entry n v = record { number = n; beside = v }

unfoldable pub numbers : List Entry → List ℕ
numbers [] = []
numbers (e ∷ es) = e.number ∷ numbers es

unfoldable pub has : List Entry → ℕ → Bool
has [] n = false
has (e ∷ es) n = eqb e.number n || has es n

-- what stands beside that number, 0 where it is not there
unfoldable pub beside_of : List Entry → ℕ → ℕ
beside_of [] n = 0
beside_of (e ∷ es) n = cond (eqb e.number n) e.beside (beside_of es n)

-- ---- an entry put in at its place, taken out, changed

unfoldable pub insert : ℕ → ℕ → List Entry → List Entry
insert n v [] = entry n v ∷ []
insert n v (e ∷ es) = elim (ltb n e.number) [ true ↦ entry n v ∷ e ∷ es | false ↦ e ∷ insert n v es ]

unfoldable pub delete : ℕ → List Entry → List Entry
delete n [] = []
delete n (e ∷ es) = elim (eqb e.number n) [ true ↦ es | false ↦ e ∷ delete n es ]

unfoldable pub put : ℕ → ℕ → List Entry → List Entry
put n v [] = []
put n v (e ∷ es) = elim (eqb e.number n) [ true ↦ entry n v ∷ es | false ↦ e ∷ put n v es ]

-- ---- sums and counts

-- of limits: how many tablets the relays take together
unfoldable pub total : List Entry → ℕ
total [] = 0
total (e ∷ es) = e.beside + total es

-- those that meet a test, and how many they are
unfoldable pub keep : (Entry → Bool) → List Entry → List Entry
keep f [] = []
keep f (e ∷ es) = elim (f e) [ true ↦ e ∷ keep f es | false ↦ keep f es ]

unfoldable pub count : (Entry → Bool) → List Entry → ℕ
count f [] = 0
count f (e ∷ es) = cond (f e) 1 0 + count f es

-- how many tablets a relay has
unfoldable pub load : List Entry → ℕ → ℕ
load tablets r = count (λ e. eqb e.beside r) tablets

-- how many tablets these relays have together
unfoldable pub loads : List Entry → List Entry → ℕ
loads [] tablets = 0
loads (r ∷ rs) tablets = load tablets r.number + loads rs tablets

-- ---- the first of a list that meets a test, and those ahead of it

unfoldable pub first : (Entry → Bool) → List Entry → Option Entry
first f [] = none
first f (e ∷ es) = elim (f e) [ true ↦ some e | false ↦ first f es ]

unfoldable pub up_to : (Entry → Bool) → List Entry → List Entry
up_to f [] = []
up_to f (e ∷ es) = elim (f e) [ true ↦ [] | false ↦ e ∷ up_to f es ]
