-- `relay_edit::found::find_relay` meets its contract: the look's refusal, and past it the relay's place among ascending numbers. Assumes nothing.
use Rattle.call_start.proofs.Refusals.{start_rises}
use Rattle.relay_edit.proofs.found.find_relay.Goals as goal

pub spot-requires : goal.spot-requires
spot-requires c =
    let r = start_rises c.in_ok-look_into.ensures.1 in
    (r.relays_fit.there, r.relays)
