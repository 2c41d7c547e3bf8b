use Rattle.vl_base.proofs.Orders.{comes_before-self, comes_before-one_way, comes_before-place, comes_before-number, comes_before-chain}
use Rattle.vl_base.proofs.laws.faults_come_in_one_order.Goals as goal

pub returns : goal.returns
returns c =
    let a = c.args in
    record {
      not_itself = comes_before-self a.p a.m;
      one_way = comes_before-one_way a.p a.m a.q a.n;
      same_place = comes_before-place a.p a.m a.q a.n;
      same_number = comes_before-number a.p a.m a.q a.n;
      chain = comes_before-chain a.p a.m a.q a.n a.r a.k;
    }
