-- A refused search as the refusal of an order.
use Rattle.routing.specs.declared.search.SearchFault.{SearchFault}
use Rattle.routing.specs.declared.search.SearchFault.TheVariants as search
use Rattle.orders.specs.declared.refusal.Refusal.{Refusal}
use Rattle.orders.specs.declared.refusal.Refusal.TheVariants.{NoSuchNode, SameNode, ShortBuffer}

abbrev pub from_search : SearchFault → Refusal
from_search search.NoSuchNode = NoSuchNode
from_search search.SameNode = SameNode
from_search search.ShortBuffer = ShortBuffer
