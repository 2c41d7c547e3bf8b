use Rattle.std.proofs.Common.{◌≡◌, true, false, sym, ◌∙◌}
use Rattle.std.proofs.lemmas.Result.{on_ok_weaker}
use Rattle.vl_eval.specs.vl_design.specs.declared.design.ProcKind.TheVariants.{Fall}
use Rattle.vl_eval.specs.vl_design.specs.Queue.{is_fall}
use Rattle.vl_eval.specs.vl_design.specs.Alone.{blocks, falls}
use Rattle.vl_eval.specs.vl_design.specs.Trees.{flat_of}
use Rattle.plain_run.specs.Runs.{wave_of, has_fall, SettlesAs, Completes}
use Rattle.plain_run.proofs.Boundaries.{completes-here, completes-fall}
use Rattle.plain_run.proofs.run.fall.Goals as goal

pub returns-then-falls-clause-completes : goal.returns-then-falls-clause-completes
returns-then-falls-clause-completes c =
    let d = flat_of c.args.design.now in
    let files = c.args.files.now in
    let m = c.args.m.now in
    let n = c.settle.new.m in
    let has : has_fall d ≡ true = sym c.requires.falls ∙ c.if-falls.true in
    let step : SettlesAs d files (wave_of d Fall) m n → Completes d files (falls (blocks is_fall d.procs)) m n = λ h. completes-fall d files m n c.if-m.false has h in
    on_ok_weaker _ step c.settle.ensures.settles

pub returns-else-falls-clause-completes : goal.returns-else-falls-clause-completes
returns-else-falls-clause-completes c =
    let d = flat_of c.args.design.now in
    let none : has_fall d ≡ false = sym c.requires.falls ∙ c.if-falls.false in
    completes-here d c.args.files.now c.args.m.now none
