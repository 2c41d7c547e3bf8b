use Rattle.std.proofs.Common.{◌∙◌}
use Rattle.ten_form.specs.States.{idle_before}
use Rattle.ten_core.proofs.Restoring.{shape-stays, now-holds, node-stays, idle-stays}
use Rattle.ten_core.proofs.hold_laws.words_are_restored.Goals as goal

pub returns-clause-holds : goal.returns-clause-holds
returns-clause-holds c = λ d least node b s words can for zero-values none-later stage fit.
    record {
      node = node-stays d can least b for s zero-values none-later stage.holds words fit ∙ stage.node;
      holds = now-holds d can least b for s zero-values none-later stage.holds words fit;
      idle = λ x e. idle-stays d can least b for s zero-values none-later stage.holds words fit (idle_before node x) (stage.idle x e);
    }

pub returns-clause-shape : goal.returns-clause-shape
returns-clause-shape c = λ d b words is-map fit. shape-stays _ words b is-map fit
