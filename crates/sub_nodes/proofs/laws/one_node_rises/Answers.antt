use Rattle.std.proofs.Common.{subst, sym, true, ◌≡◌}
use Rattle.std.specs.Prelude.{slice_get}
use Rattle.sub_nodes.specs.Code.{table_of}
use Rattle.sub_nodes.specs.Cycles.{rises}
use Rattle.sub_nodes.proofs.Rising.{rises_once, rise_rises}
use Rattle.sub_nodes.proofs.laws.one_node_rises.Goals as goal

pub returns : goal.returns
returns c = λ d n. (λ h. rises_once d n h, λ e. subst (λ k. rises (slice_get (table_of d).nodes k) ≡ true) (sym e) (rise_rises d))
