use Rattle.std.proofs.Common.{rules, sym, ap, ◌∙◌, ℕ, List, Option}
use Rattle.elab_kinds.proofs.Placing.{is-place}
use Rattle.elab_kinds.proofs.index.module_at.Goals as goal

pub returns-clause-place : goal.returns-clause-place
returns-clause-place c = search rules

pub returns-clause-module : goal.returns-clause-module
returns-clause-module c = λ ms e. is-place ms c.args.name.now _ (ap (λ (f : List ℕ → Option ℕ). f c.args.name.now) (sym e) ∙ sym (returns-clause-place c))
