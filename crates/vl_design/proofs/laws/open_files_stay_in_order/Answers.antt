use Rattle.vl_design.proofs.Opening.{boundary_open, acts_open, calls_open}
use Rattle.vl_design.proofs.laws.open_files_stay_in_order.Goals as goal

pub returns : goal.returns
returns c = record {
  boundary = λ o k q h x. boundary_open h x;
  after = λ o c p h x. acts_open h x;
  before = λ o c task p h x. calls_open h x;
}
