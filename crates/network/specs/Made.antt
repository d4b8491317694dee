-- What comes of nodes and links.
use Rattle.std.specs.Prelude.{◌≡◌, ℕ, List, Ok, Err, Result}
use Rattle.network.specs.declared.fault.LinksFault.{LinksFault}
use Rattle.network.specs.declared.fault.LinksFault.TheVariants.{OutOfLimits, NoMemory}
use Rattle.network.specs.declared.link.Link.{Link}
use Rattle.network.specs.declared.network.Network.{Network}
use Rattle.network.specs.Limits.{Sound}
use Rattle.network.specs.Networks.{node_count, link_list}

-- the network of n nodes and these links, or a fault; want of memory is told only within the limits
abbrev pub Made : ℕ → List Link → Result Network LinksFault → Type 0
Made n links (Ok net) = Sound n links × (node_count net ≡ n) × (link_list net ≡ links)
Made n links (Err OutOfLimits) = Sound n links → ⊥
Made n links (Err NoMemory) = Sound n links
