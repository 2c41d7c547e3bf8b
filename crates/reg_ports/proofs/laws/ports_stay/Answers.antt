use Rattle.reg_ports.proofs.Beside.{written-map}
use Rattle.reg_ports.proofs.Restoring.{restored-map, shape-map}
use Rattle.reg_ports.proofs.laws.ports_stay.Goals as goal

pub returns-clause-written : goal.returns-clause-written
returns-clause-written c = written-map

pub returns-clause-restored : goal.returns-clause-restored
returns-clause-restored c = λ ports b ws. restored-map ports ws b

pub returns-clause-same_shape : goal.returns-clause-same_shape
returns-clause-same_shape c = shape-map
