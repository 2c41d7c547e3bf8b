use Rattle.vl_runs.proofs.Orders.{ordered}
use Rattle.vl_runs.proofs.settle_laws.a_levelled_list_of_all_processes_is_an_order.Goals as goal

pub returns : goal.returns
returns c = λ d order each levelled. ordered d order each levelled
