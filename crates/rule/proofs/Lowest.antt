-- Where several refusals apply, the lowest is given: by number, or by its turn where the paper gives an order for one call.
--   lowest_first      of refusals that stand by rising rank, the first that applies
--   refusal_lowest    a call's refusal is the lowest number of all that apply
--   balance_lowest    and so is a balance's
--   done_is           only one refusal is none
-- Assumes nothing.
use mathlib.Core.Bool.{Bool, true, false, not}
use mathlib.Core.List.{List, [], ◌∷◌, ◌++◌}
use mathlib.Core.Logic.{inl, inr, ⊎_elim}
use mathlib.Core.Path.{◌≡◌, refl, sym, ap, ◌∙◌}
use Prim.Native.Nat.{ℕ, ◌≤◌, ◌<◌}
use native.Mathlib.Omega.{arith}
use borrow.Author.Tests.{ne_eqb}
use Rattle.ring.specs.Scheme.{Positions}
use Rattle.ring.proofs.Tests.{split, true_false}
use Rattle.rule.specs.declared.Refusal.{Refusal}
use Rattle.rule.specs.declared.Refusal.TheVariants.{Done, SchemeUnknown, TablesNotRight, NumberZero, TooLarge}
use Rattle.rule.specs.declared.Refusal.TheVariants.{NotThere, ThereAlready, NoUnusedPlace, LimitsTooSmall}
use Rattle.rule.specs.declared.Refusal.TheVariants.{MoveListTooShort, RosterShapeWrong, RosterContentWrong}
use Rattle.rule.specs.declared.Refusal.TheVariants.{OutputUnfit}
use Rattle.rule.specs.declared.Call.{Call}
use Rattle.rule.specs.declared.Call.TheVariants.{Add, Remove, Set, Enrol, Withdraw, Find}
use Rattle.rule.specs.Rule.{Ring}
use Rattle.rule.specs.Refusals.{number_of, is_done, Bar, bar, first_bar}
use Rattle.rule.specs.Calls.{Lent, wrong_numbers, refusal}
use Rattle.rule.specs.Balance.{balance_bars, balance_refusal}
use Rattle.rule.specs.Applies.{OneOf, Given, Lowest, bars}

-- only one refusal is none
pub done_is : (r : Refusal) → is_done r ≡ true → r ≡ Done
unfolding is_done
done_is Done h = refl
done_is SchemeUnknown h = absurd (true_false (sym h))
done_is TablesNotRight h = absurd (true_false (sym h))
done_is NumberZero h = absurd (true_false (sym h))
done_is TooLarge h = absurd (true_false (sym h))
done_is NotThere h = absurd (true_false (sym h))
done_is ThereAlready h = absurd (true_false (sym h))
done_is NoUnusedPlace h = absurd (true_false (sym h))
done_is LimitsTooSmall h = absurd (true_false (sym h))
done_is MoveListTooShort h = absurd (true_false (sym h))
done_is RosterShapeWrong h = absurd (true_false (sym h))
done_is RosterContentWrong h = absurd (true_false (sym h))
done_is OutputUnfit h = absurd (true_false (sym h))

-- ---- in any list of refusals

-- they stand by rising rank, above `low`
abbrev pub Ranked : (Refusal → ℕ) → ℕ → List Bar → Type 0
Ranked rank low [] = Unit {0}
Ranked rank low (b ∷ bs) = (low < rank b.refusal) × Ranked rank (rank b.refusal) bs

-- each is a refusal, and not that the call is done
abbrev pub Real : List Bar → Type 0
Real [] = Unit {0}
Real (b ∷ bs) = (is_done b.refusal ≡ false) × Real bs

module _ (rank : Refusal → ℕ) where
  ranked_above : (low : ℕ) (bs : List Bar) → Ranked rank low bs → (b : Bar) → OneOf b bs → low < rank b.refusal
  ranked_above low [] r b x = elim x [ ]
  ranked_above low (c ∷ cs) r b (inl e) = rw e r.0
  ranked_above low (c ∷ cs) r b (inr i) = omega (arith, r.0, ranked_above (rank c.refusal) cs r.1 b i)

  first_lowest : (low : ℕ) (bs : List Bar) → Ranked rank low bs → (b : Bar) → OneOf b bs → b.applies ≡ true
      → rank (first_bar bs) ≤ rank b.refusal
  unfolding first_bar
  first_lowest low [] r b x h = elim x [ ]
  first_lowest low (c ∷ cs) r b (inl e) h =
      let a : c.applies ≡ true = ap (λ (x : Bar). x.applies) (sym e) ∙ h in
      rw (a, first_bar, e) (omega arith)
  first_lowest low (c ∷ cs) r b (inr i) h =
      split c.applies
      (λ s. rw (s, first_bar) (omega (arith, ranked_above (rank c.refusal) cs r.1 b i)))
      (λ s. rw (s, first_bar) (first_lowest (rank c.refusal) cs r.1 b i h))

first_applies : (bs : List Bar) → is_done (first_bar bs) ≡ false → Given bs (first_bar bs)
unfolding first_bar is_done
first_applies [] h = absurd (true_false h)
first_applies (c ∷ cs) h = go c.applies refl (λ k. first_applies cs k)
  where
    go : (b : Bool) → c.applies ≡ b → (is_done (first_bar cs) ≡ false → Given cs (first_bar cs))
        → Given (c ∷ cs) (first_bar (c ∷ cs))
    go true s later = record { bar = c; among = inl refl; applies = s; is = rw (s, first_bar) refl }
    go false s later =
        let g : Given cs (first_bar cs) = later (rw (s, first_bar) at h) in
        record { bar = g.bar; among = inr g.among; applies = g.applies; is = rw (s, first_bar) g.is }

first_none : (bs : List Bar) → Real bs → is_done (first_bar bs) ≡ true → (b : Bar) → OneOf b bs → b.applies ≡ false
unfolding first_bar
first_none [] r d b i = elim i [ ]
first_none (c ∷ cs) r d b i =
    split c.applies
    (λ s. absurd (true_false (sym (rw (s, first_bar) at d) ∙ r.0)))
    (λ s. ⊎_elim (λ e. ap (λ (x : Bar). x.applies) e ∙ s) (λ j. first_none cs r.1 (rw (s, first_bar) at d) b j) i)

pub lowest_first : (rank : Refusal → ℕ) (bs : List Bar) → Ranked rank 0 bs → Real bs → Lowest rank bs (first_bar bs)
lowest_first rank bs r real =
    record { given = first_applies bs; first = first_lowest rank 0 bs r; none_applies = first_none bs real }

numbers_are_real : (low : ℕ) (bs : List Bar) → Ranked number_of low bs → Real bs
unfolding is_done
numbers_are_real low [] r = tt
numbers_are_real low (b ∷ bs) r = (
  ne_eqb (number_of b.refusal) 0 (λ (e : number_of b.refusal ≡ 0). omega (arith, r.0)),
  numbers_are_real
      (number_of b.refusal) bs r.1,
)

-- by number
pub lowest_number : (bs : List Bar) → Ranked number_of 0 bs → Lowest number_of bs (first_bar bs)
lowest_number bs r = lowest_first number_of bs r (numbers_are_real 0 bs r)

-- ---- of a call

first_here : (x : Bar) (xs : List Bar) → x.applies ≡ true → first_bar (x ∷ xs) ≡ x.refusal
unfolding first_bar
first_here x xs s = rw (s, first_bar) refl

first_past : (x : Bar) (xs : List Bar) → x.applies ≡ false → first_bar (x ∷ xs) ≡ first_bar xs
unfolding first_bar
first_past x xs s = rw (s, first_bar) refl

-- a list that stands as one bar in another
chain_flat : (xs ys : List Bar) → Real xs → first_bar (bar (not (is_done (first_bar xs))) (first_bar xs) ∷ ys)
    ≡ first_bar (xs ++ ys)
chain_flat [] ys r = unfold is_done first_bar in refl
chain_flat (x ∷ xs) ys r =
    split x.applies
    (λ s. rw (first_here x xs s, r.0, first_here x (xs ++ ys) s) (unfold first_bar in refl))
    (λ s. rw (first_past x xs s, first_past x (xs ++ ys) s) (chain_flat xs ys r.1))

numbers_real : (m : Lent) (g : Ring) (c : Call) → Real (wrong_numbers m g c)
unfolding wrong_numbers is_done
numbers_real m g (Add r l) = (refl, (refl, (refl, (refl, tt))))
numbers_real m g (Remove r) = (refl, (refl, tt))
numbers_real m g (Set r l) = (refl, (refl, (refl, tt)))
numbers_real m g (Enrol t) = (refl, (refl, (refl, tt)))
numbers_real m g (Withdraw t) = (refl, (refl, tt))
numbers_real m g (Find t) = (refl, (refl, tt))

bar_before : (b : Bar) (bs bs' : List Bar) → first_bar bs ≡ first_bar bs' → first_bar (b ∷ bs) ≡ first_bar (b ∷ bs')
unfolding first_bar
bar_before b bs bs' e = split b.applies (λ s. rw (s, first_bar) refl) (λ s. rw (s, first_bar) e)

refusal_first : (p : Positions) (m : Lent) (g : Ring) (c : Call) → refusal p m g c ≡ first_bar (bars p m g c)
unfolding refusal
refusal_first p m g c = bar_before _ _ _ (bar_before _ _ _ (chain_flat (wrong_numbers m g c) _ (numbers_real m g c)))

bars_rise : (p : Positions) (m : Lent) (g : Ring) (c : Call) → Ranked number_of 0 (bars p m g c)
unfolding wrong_numbers
bars_rise p m g (Add r l) = (
  omega arith,
  (
    omega arith,
    (
      omega arith,
      (omega arith, (omega arith, (omega arith, (omega arith, (omega arith, tt))))),
    ),
  ),
)
bars_rise p m g (Remove r) =
    (omega arith, (omega arith, (omega arith, (omega arith, (omega arith, (omega arith, tt))))))
bars_rise p m g (Set r l) =
    (omega arith, (omega arith, (omega arith, (omega arith, (omega arith, (omega arith, (omega arith, tt)))))))
bars_rise p m g (Enrol t) =
    (omega arith, (omega arith, (omega arith, (omega arith, (omega arith, (omega arith, (omega arith, tt)))))))
bars_rise p m g (Withdraw t) =
    (omega arith, (omega arith, (omega arith, (omega arith, (omega arith, (omega arith, tt))))))
bars_rise p m g (Find t) = (omega arith, (omega arith, (omega arith, (omega arith, (omega arith, (omega arith, tt))))))

pub refusal_lowest : (p : Positions) (m : Lent) (g : Ring) (c : Call) → Lowest number_of (bars p m g c) (refusal p m g c)
refusal_lowest p m g c = rw (refusal_first p m g c) (lowest_number (bars p m g c) (bars_rise p m g c))

-- ---- of a balance

pub balance_lowest : (p q tablets relays : ℕ) → Lowest number_of (balance_bars p q tablets relays)
    (balance_refusal p q tablets relays)
unfolding balance_refusal
balance_lowest p q tablets relays = lowest_number (balance_bars p q tablets relays) (omega arith, (omega arith, tt))
