use Rattle.network.proofs.Invariant.{arcs_within}
use Rattle.network.proofs.network.Network.new.Goals as goal

pub unreachable-requires : goal.unreachable-requires
unreachable-requires c =
    let fault = c.in-Err-OutOfLimits in
    let beyond = rw (fault.field-0-is, c.in_ok-arcs.ensures, c.deref.ensures.value) at fault.ensures in
    beyond (arcs_within _ _ c.requires)
