use Rattle.std.proofs.Common.{ℕ, List, subst, sym, ◌∙◌}
use Rattle.vl_check.specs.vl_design.specs.Seen.{placed}
use Rattle.vl_check.specs.vl_design.specs.Trees.{flat_of}
use Rattle.vl_runs.specs.vl_paths.specs.Graph.{Edge}
use Rattle.cell_level.specs.Cycles.{IsLowestCycle}
use Rattle.vl_accept.specs.declared.fault.Fault.TheVariants.{Loop}
use Rattle.vl_accept.specs.Accepted.{IsLoop}
use Rattle.vl_accept.proofs.accept.loop_of.Goals as goal

pub place_of-place-requires : goal.place_of-place-requires
place_of-place-requires c = subst (λ (xs : List ℕ). IsLowestCycle (Edge (flat_of c.args.design.now)) xs) (sym c.as_slice.ensures.value) c.requires

pub returns : goal.returns
returns c = subst (λ (xs : List ℕ). IsLoop (placed c.args.design.now) (Loop c.place_of-place.result xs)) (c.as_slice.ensures.value ∙ sym c.from_vec.ensures) c.place_of-place.ensures
