use Rattle.ten_core.proofs.Fronts.{always_front}
use Rattle.ten_core.proofs.front_laws.what_a_run_has_printed_is_a_front.Goals as goal

pub returns : goal.returns
returns c = λ o order n i r.
    let near = c.each_act_comes_nearer.ensures in
    let rest = c.a_run_at_rest_is_at_a_boundary.ensures in
    always_front (record {
      cycle = near.cycle;
      call = near.call;
      cycle_nearer = near.cycle_nearer;
      call_nearer = near.call_nearer;
      boundary = rest.boundary;
      ends = rest.ends;
      once = c.ends_once.ensures;
    }) o order n i r
