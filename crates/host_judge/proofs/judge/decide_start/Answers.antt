use Rattle.std.proofs.Common.{ℕ, List, Option, Bor, sym, subst}
use Rattle.std.specs.Prelude.{option_map}
use Rattle.ten_core.specs.vl_design.specs.Trees.{flat_of}
use Rattle.host_judge.specs.declared.judge.Decision.TheVariants as decision
use Rattle.host_judge.specs.declared.starting.Start.{Start}
use Rattle.host_files.specs.host_form.specs.declared.refusal.Refusal.{Refusal}
use Rattle.host_judge.specs.Deciding.{IsDecided, IsStarted}
use Rattle.host_judge.proofs.Decided.{misstarted}
use Rattle.host_judge.proofs.judge.decide_start.Goals as goal

pub returns-in_ok-kind-in-Bad : goal.returns-in_ok-kind-in-Bad
returns-in_ok-kind-in-Bad c =
    let d = flat_of c.args.image.now.design in
    let bytes : Option (List ℕ) = option_map (λ (b : Bor (List ℕ)). b.now) c.args.snapshot in
    let bad = subst (λ (s : Start). IsStarted d c.args.files.now c.args.line.now.budget bytes s) c.in-Bad.is c.in_ok-held.ensures in
    subst (λ (r : Refusal). IsDecided c.args.fabrics.now c.args.line.now d c.args.files.now bytes (decision.Refused r)) (sym c.elsewhere.ensures)
    (misstarted c.args.fabrics.now c.args.line.now d c.args.files.now bytes c.in-Bad.fault c.in_ok-kind-in-Bad.kind c.requires.room bad c.in_ok-kind-in-Bad.ensures)
