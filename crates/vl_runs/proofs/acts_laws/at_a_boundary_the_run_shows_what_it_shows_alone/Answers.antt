use Rattle.std.proofs.Common.{refl, ap, ◌∙◌}
use Rattle.vl_paths.specs.vl_design.specs.Acts.{queue_at}
use Rattle.vl_paths.specs.vl_design.proofs.Counting.{count_is}
use Rattle.vl_paths.specs.vl_design.proofs.Returning.{at_boundary_is, finished_is}
use Rattle.vl_runs.proofs.Ticking.{shown_after}
use Rattle.vl_runs.proofs.acts_laws.at_a_boundary_the_run_shows_what_it_shows_alone.Goals as goal

pub returns : goal.returns
returns c = record {
  boundary = λ o n p u h a e. (queue_at p, at_boundary_is o u h p a e, refl, count_is o u h n p a);
  finished = λ o n p u h a e. let x = finished_is o u h p a e in (x.0, x.1, ap (λ s. s.printed) x.2, ap (λ s. s.count) x.2 ∙ count_is o u h n p a);
  back = λ o k n bytes u h s. shown_after o u h s;
}
