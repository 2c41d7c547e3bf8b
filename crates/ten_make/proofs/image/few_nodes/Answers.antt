use Rattle.ten_core.specs.vl_design.specs.Trees.{flat_of}
use Rattle.ten_make.proofs.Imaging.{nodes-are, rise-is}
use Rattle.ten_make.proofs.image.few_nodes.Goals as goal

pub returns-clause-nodes : goal.returns-clause-nodes
returns-clause-nodes c = nodes-are (flat_of c.args.design.now) c.in_ok-table.table c.in_ok-table.ensures.table

pub returns-clause-rise : goal.returns-clause-rise
returns-clause-rise c = rise-is (flat_of c.args.design.now) c.in_ok-table.table c.in_ok-table.ensures.table
