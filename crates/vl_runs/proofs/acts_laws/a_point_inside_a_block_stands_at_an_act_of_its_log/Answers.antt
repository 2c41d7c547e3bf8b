use Rattle.vl_runs.proofs.Standing.{inside, before_a_call}
use Rattle.vl_runs.proofs.acts_laws.a_point_inside_a_block_stands_at_an_act_of_its_log.Goals as goal

pub returns : goal.returns
returns c = record {
  after = λ o n q rest from committed u h a. inside o u h q rest from committed a;
  before = λ o n task q rest from committed u h b. before_a_call o u h q rest from committed b;
}
