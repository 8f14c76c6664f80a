-- The rule told by the room that is left (document 01, "The rule of placement"), as the loops of the library keep it: `key t r` is less where
-- relay r stands earlier in the order of tablet t. The law `placement_fill` says that it is the same rule. Assumes nothing.
use Rattle.std.specs.Prelude.{◌&&◌, cond, List, [], ◌∷◌, ℕ, ◌+◌, ◌-◌, eqb, ltb}
use Rattle.std.proofs.Math.Option.{Option, none, some}
use Rattle.rule.specs.Entry.{Entry, entry, load}

-- what all entries of that number hold together: 0 where there is none
unfoldable pub held : List Entry → ℕ → ℕ
held [] q = 0
held (e ∷ es) q = cond (eqb e.number q) e.beside 0 + held es q

-- what these tablets leave of the relays' limits
unfoldable pub rooms : List Entry → List Entry → List Entry
rooms [] tablets = []
rooms (r ∷ rs) tablets = entry r.number (r.beside - load tablets r.number) ∷ rooms rs tablets

-- the better of what was found so far and an entry
unfoldable pub better : (ℕ → ℕ) → Option ℕ → Entry → Option ℕ
better k none e = cond (ltb 0 e.beside) (some e.number) none
better k (some b) e = cond (ltb 0 e.beside && ltb (k e.number) (k b)) (some e.number) (some b)

unfoldable pub choose_from : (ℕ → ℕ) → Option ℕ → List Entry → Option ℕ
choose_from k b [] = b
choose_from k b (e ∷ es) = choose_from k (better k b e) es

-- the number of the least key among the entries with room
unfoldable pub choose : (ℕ → ℕ) → List Entry → Option ℕ
choose k es = choose_from k none es

unfoldable pub or_zero : Option ℕ → ℕ
or_zero none = 0
or_zero (some r) = r

-- one room less at relay c
unfoldable pub less : ℕ → List Entry → List Entry
less c [] = []
less c (e ∷ es) = cond (eqb e.number c && ltb 0 e.beside) (entry e.number (e.beside - 1) ∷ es) (e ∷ less c es)

-- the tablets, by rising number, each with its relay
unfoldable pub fill : (ℕ → ℕ → ℕ) → List Entry → List ℕ → List Entry
fill key rooms [] = []
fill key rooms (t ∷ ts) =
    let c : ℕ = or_zero (choose (key t) rooms) in
    entry t c ∷ fill key (less c rooms) ts
