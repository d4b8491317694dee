-- What a network consists of.
use Rattle.std.specs.Prelude.{ℕ, List, vec_items}
use Rattle.network.specs.declared.link.Link.{Link}
use Rattle.network.specs.declared.network.Network.{Network}

-- how many nodes a network has
abbrev pub node_count : Network → ℕ
node_count net = net.nodes

-- the links of a network, by number
abbrev pub link_list : Network → List Link
link_list net = vec_items net.links
