use Rattle.small_cases.proofs.Known.{diamond_10, parallel_3, parallel_0, single_none}
use Rattle.small_cases.proofs.small_networks_stand.Goals as goal

pub returns : goal.returns
returns c = record {
  diamond_costs_10 = diamond_10;
  parallel_costs_3 = parallel_3;
  parallel_works_on_0 = parallel_0;
  single_has_no_pair = single_none;
}
