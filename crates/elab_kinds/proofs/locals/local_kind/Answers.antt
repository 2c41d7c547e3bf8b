use Rattle.std.proofs.Common.{sym, ap, ◌∙◌, ℕ, List}
use Rattle.elab_kinds.specs.Facts.{BodyFacts, body_facts, free_kind}
use Rattle.elab_kinds.proofs.locals.local_kind.Goals as goal

pub returns-clause-local : goal.returns-clause-local
returns-clause-local c = λ a l told free named.
    c.kind_known.ensures
    ∙ (ap (λ (f : List ℕ → BodyFacts). free_kind c.args.is_free (f c.args.name.now)) told
    ∙ (ap (λ b. free_kind b (body_facts a.body c.args.name.now)) (sym free)
    ∙ ap (λ n. free_kind l.is_free (body_facts a.body n)) (sym named)))
