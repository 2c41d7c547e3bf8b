use Rattle.ten_core.proofs.Taking.{map-is, words-are}
use Rattle.ten_core.proofs.hold_laws.a_stage_is_captured.Goals as goal

pub returns : goal.returns
returns c = λ d least b i can for fine stage.
    (map-is d can b i.state i.committed fine stage.holds least for, words-are d can b i.state i.committed fine stage.holds)
