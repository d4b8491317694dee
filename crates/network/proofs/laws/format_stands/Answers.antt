use Rattle.network.proofs.Lawful.{one_fault, one_answer, one_network, one_list, reads_back, cuts}
use Rattle.network.proofs.laws.format_stands.Goals as goal

pub returns : goal.returns
returns c = record {
  one_fault = one_fault;
  one_answer = one_answer;
  one_network = one_network;
  one_list = one_list;
  reads_back = reads_back;
  cuts = cuts;
}
