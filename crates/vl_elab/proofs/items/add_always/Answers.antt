use Rattle.std.proofs.Common.{refl, ap, sym, ◌∙◌, ◌∷◌, [], map}
use Rattle.std.specs.Prelude.{None}
use Rattle.elab_plain.specs.vl_flat.specs.Processes as p
use Rattle.elab_plain.specs.vl_flat.specs.Scopes.{plainly}
use Rattle.elab_plain.specs.vl_flat.specs.Statements as s
use Rattle.vl_design.specs.Seen.{func_of}
use Rattle.vl_design.specs.Stops.{earliest}
use Rattle.elab_plain.specs.SeenStatements.{seen_statement}
use Rattle.elab_constant.specs.Seen.{look}
use Rattle.vl_elab.specs.Standing.{seen_here}
use Rattle.vl_elab.specs.Parts.{part}
use Rattle.vl_elab.proofs.Growth.{one-grows, keeps-nothing}
use Rattle.vl_elab.proofs.items.add_always.Goals as goal

pub returns-in_ok-push_made-in-None : goal.returns-in_ok-push_made-in-None
returns-in_ok-push_made-in-None c =
    let old = c.args.making.now in
    let env = look c.args.here.names.now in
    let a = seen_statement c.args.a.now in
    let made = p.process (seen_here c.args.here) c.args.at (p.trigger_kind c.args.trigger.now) (p.events env c.args.trigger.now) (s.statement (plainly env) a) in
    let faults = c.statement_faults.ensures ∙ ap (λ e. earliest None (s.statement_faults e a)) c.module_scope.ensures in
    one-grows old _ (part [] [] (made ∷ []) (s.statement_faults (plainly env) a))
    (sym faults ∙ c.in-None.is)
    refl
    (keeps-nothing old.signals.items)
    (keeps-nothing (map func_of old.funcs.items))
    (c.in_ok-push_made-in-None.ensures made c.always.ensures)
