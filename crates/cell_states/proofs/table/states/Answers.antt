use Rattle.std.proofs.Common.{◌≡◌, ◌∙◌, ℕ, List, map, take, sym, ap}
use Rattle.std.proofs.lemmas.List.{take-map}
use Rattle.vl_design.specs.Syntax.{Flat}
use Rattle.vl_design.specs.Trees.{flat_of}
use Rattle.ten_form.specs.sub_nodes.specs.Early.{early_from}
use Rattle.ten_form.specs.sub_nodes.specs.Code.{table_of}
use Rattle.ten_form.specs.sub_split.specs.Views.{node_view}
use Rattle.ten_form.specs.sub_split.specs.declared.table.Node.{Node}
use Rattle.ten_form.specs.Banks.{cell_nodes}
use Rattle.cell_states.proofs.table.states.Goals as goal

first-nodes : (d : Flat) (early : ℕ) (nodes all : List Node) → nodes ≡ all → map node_view all ≡ (table_of d).nodes → early ≡ early_from d → map node_view (take early nodes) ≡ cell_nodes d
first-nodes d early nodes all same table is =
    ap (λ xs. map node_view (take early xs)) same ∙ sym (take-map node_view early all) ∙ ap (take early) table ∙ ap (λ n. take n (table_of d).nodes) is

pub stores_of-requires-clause-table : goal.stores_of-requires-clause-table
stores_of-requires-clause-table c = first-nodes (flat_of c.args.design.now) c.args.table.now.early c.as_slice-nodes.result.now c.args.table.now.nodes.items c.as_slice-nodes.ensures.value c.requires.table c.requires.early

pub all_built-requires-clause-table : goal.all_built-requires-clause-table
all_built-requires-clause-table c = first-nodes (flat_of c.args.design.now) c.args.table.now.early c.as_slice-nodes.result.now c.args.table.now.nodes.items c.as_slice-nodes.ensures.value c.requires.table c.requires.early
