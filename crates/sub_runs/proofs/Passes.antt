-- Where a run settles, its nets are those of one pass.
use Rattle.std.proofs.Common.{ℕ, List, refl, subst}
use Rattle.vl_sites.specs.vl_design.specs.Queue.{Queue, wave_ended, updates_done}
use Rattle.vl_sites.specs.vl_design.specs.Alone.{Origin, first_queue, resumed}
use Rattle.vl_sites.specs.vl_design.specs.Acts.{Calms}
use Rattle.vl_sites.specs.vl_design.specs.Laws.{StartsFine, IsUnrolled}
use Rattle.vl_runs.specs.Checked.{IsChecked, IsOrder}
use Rattle.vl_runs.specs.Runs.{Comes, begins, with_values}
use Rattle.vl_runs.proofs.Onward.{OnePass, one_pass, wave_passes, update_passes}
use Rattle.sub_nodes.specs.Code.{table_of}
use Rattle.sub_nodes.specs.Stands.{Settle, AreNets, CanRun}
use Rattle.sub_nodes.proofs.Coded.{table_implements}
use Rattle.sub_runs.specs.Nets.{nets_of}

module _ (o : Origin) (checked : IsChecked o.flat) (u : IsUnrolled o.flat) (order : List ℕ) (ord : IsOrder o.flat order) (fine : StartsFine o.flat.rows o.resume) where
  settles : (q : Queue) → OnePass o checked u order ord fine q → Settle o.flat o.files (nets_of o.flat o.files order) q
  settles q c = (c.0.pending, subst (λ v. Calms o.flat o.files q (with_values q v c.0.pending)) c.1 c.0.calms)

  pub are_nets : AreNets o (nets_of o.flat o.files order)
  are_nets = record {
    ended = λ n p left q a f e r. (let c = wave_passes o checked u order ord fine p left q a f e r in settles (wave_ended q) (c.0, c.1));
    updated = λ n q a f e. (let c = update_passes o checked u order ord fine q a e in settles (updates_done o.flat o.files q) (c.0, c.1));
    resumed = λ s e. settles (resumed o.flat s) (one_pass o checked u order ord fine (resumed o.flat s) (subst (λ z. Comes o (first_queue o z)) e begins) refl);
  }

  pub can_run : CanRun o (table_of o.flat) (nets_of o.flat o.files order)
  can_run = record { unrolled = u; table = table_implements o.flat; settle = are_nets }
