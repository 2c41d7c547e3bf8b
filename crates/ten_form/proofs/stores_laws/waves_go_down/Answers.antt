use Rattle.ten_form.proofs.Waves.{down-but-to-traps, traps-down}
use Rattle.ten_form.proofs.stores_laws.waves_go_down.Goals as goal

pub returns-clause-segments : goal.returns-clause-segments
returns-clause-segments c = λ d n m g on h l t. down-but-to-traps d n m g on h l t

pub returns-clause-traps : goal.returns-clause-traps
returns-clause-traps c = λ d n m to g task h k. traps-down d n m to g task h k
