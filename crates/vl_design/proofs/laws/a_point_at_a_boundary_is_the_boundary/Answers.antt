use Rattle.vl_design.proofs.Returning.{at_boundary_is, finished_is}
use Rattle.vl_design.proofs.laws.a_point_at_a_boundary_is_the_boundary.Goals as goal

pub returns : goal.returns
returns c = record {
  between = λ o c p u h a e. at_boundary_is o u h p a e;
  finished = λ o c p u h a e. finished_is o u h p a e;
}
