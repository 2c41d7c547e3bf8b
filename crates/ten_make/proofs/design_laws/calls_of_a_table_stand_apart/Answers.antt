use Rattle.ten_make.proofs.Late.{late-paired}
use Rattle.ten_make.proofs.Nodes.{apart}
use Rattle.ten_make.proofs.design_laws.calls_of_a_table_stand_apart.Goals as goal

pub returns : goal.returns
returns c = record { apart = λ d. apart d; paired = λ d. late-paired d }
