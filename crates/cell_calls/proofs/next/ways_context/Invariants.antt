use Rattle.std.proofs.Common.{◌≡◌, drop}
use Rattle.vl_design.specs.Sound.{IsWidth}
use Rattle.vl_design.specs.Trees.{exp_of, flat_of}
use Rattle.vl_design.specs.Width.{names_of, form}
use Rattle.ten_form.specs.sub_nodes.specs.Cycles.{ways_form}
use Rattle.cell_calls.specs.Next.{ways_view}
use Rattle.cell_calls.proofs.next.ways_context.Given as goal

-- joined with the ways that are left, it is what all are joined to
abbrev pub invariant-loop-way : goal.invariant-loop-way
invariant-loop-way l =
    let names = names_of (flat_of l.design) in
    record {
      width : IsWidth l.all.width;
      leads : ways_form names l.all (ways_view (drop l.way-index l.ways)) ≡ ways_form names (form names (exp_of l.subject)) (ways_view l.ways);
    }
