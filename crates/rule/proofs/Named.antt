-- The move list of an accepted call names every other tablet whose relay changed, once, and no more (document 01, "The lent tables").
--   moves_named                              all of these, nobody else, and each once
--   enrol_not_listed, withdraw_not_listed    the tablet that is enrolled or withdrawn is in no move
-- Assumes nothing.
use mathlib.Core.Bool.{true}
use mathlib.Core.Path.{◌≡◌, sym, ap, ◌∙◌}
use mathlib.Core.List.{List}
use Prim.Native.Nat.{◌^◌, ◌<◌}
use Rattle.ring.specs.Scheme.{Positions}
use Rattle.ring.specs.declared.TabletNumber.{TabletNumber}
use Rattle.ring.proofs.Tests.{true_false}
use Rattle.rule.specs.declared.Call.{Call}
use Rattle.rule.specs.declared.Call.TheVariants.{Enrol, Withdraw}
use Rattle.rule.specs.declared.Move.{Move}
use Rattle.rule.specs.Entry.{Entry, numbers, has, beside_of}
use Rattle.rule.specs.Rule.{Ring}
use Rattle.rule.specs.Refusals.{is_done}
use Rattle.rule.specs.Calls.{Lent, subject, after, moves, refusal}
use Rattle.rule.specs.Stability.{Rising}
use Rattle.rule.specs.Moves.{Listed, Moved, Names}
use Rattle.rule.proofs.Sets.{sits_in}
use Rattle.rule.proofs.Demand3.{in_has, has_sits, sits_beside}
use Rattle.rule.proofs.Accepted.{accepted_is, after_right}
use Rattle.rule.proofs.Moves.{Moves, moved_is, moved_all, moved_rising}
use Rattle.rule.proofs.Own.{edit_is, told_is, own_entry}

module _ (p : Positions) (m : Lent) (g : Ring) where
  module _ (c : Call) (done : is_done (refusal p m g c) ≡ true) (small : subject c < 2 ^ 32) where
    abbrev ts : List Entry
    ts = (after p g c).tablets

    rises : Rising 0 (numbers ts)
    rises = (after_right p g c (edit_is p m g c done small) (accepted_is p m g c done).enough).tablets.up

    named_all : (v : Move) → Moved g (after p g c) v → Listed v (moves p g c)
    unfolding moves
    named_all v h =
        rw (h.old, h.new)
        (moved_all g.tablets ts v.tablet.0 (beside_of ts v.tablet.0) h.before
        (has_sits ts 0 v.tablet.0 rises h.now_there)
        (λ e. h.other (h.old ∙ e ∙ sym h.new)))

    named_only : (v : Move) → Listed v (moves p g c) → Moved g (after p g c) v
    unfolding moves
    named_only v i =
        let h : Moves g.tablets ts v = moved_is g.tablets ts v i in
        record {
          before = h.was;
          now_there = in_has ts v.tablet.0 (sits_in ts v.tablet.0 v.new.0 h.to);
          old = h.from;
          new = sym (sits_beside ts 0 v.tablet.0 v.new.0 rises h.to);
          other = h.other;
        }

    pub moves_named : Names g (after p g c) (moves p g c)
    moves_named =
        record { all = named_all; only = named_only; once = unfold moves in (moved_rising g.tablets ts 0 rises) }

  module _ (t : TabletNumber) where
    pub enrol_not_listed : is_done (refusal p m g (Enrol t)) ≡ true → (v : Move) → Listed v (moves p g (Enrol t))
        → v.tablet.0 ≡ t.0 → ⊥
    unfolding moves
    enrol_not_listed d v i e =
        true_false (sym (moved_is g.tablets (after p g (Enrol t)).tablets v i).was ∙ ap (has g.tablets) e
        ∙ told_is p m g (Enrol t) d)

    pub withdraw_not_listed : is_done (refusal p m g (Withdraw t)) ≡ true → t.0 < 2 ^ 32 → (v : Move)
        → Listed v (moves p g (Withdraw t)) → v.tablet.0 ≡ t.0 → ⊥
    unfolding subject
    withdraw_not_listed d small v i e =
        true_false
        (sym (named_only (Withdraw t) d small v i).now_there
        ∙ ap (has (after p g (Withdraw t)).tablets) e ∙ (own_entry p m g (Withdraw t) d small).1.1)
