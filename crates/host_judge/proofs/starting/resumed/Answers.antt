use Rattle.std.proofs.Common.{arith}
use Rattle.ten_core.specs.vl_design.specs.Trees.{flat_of}
use Rattle.host_files.specs.host_form.specs.Origins.{late, misspelt}
use Rattle.host_judge.proofs.Begun.{starts}
use Rattle.host_judge.proofs.starting.resumed.Goals as goal

pub returns-then-budget-held : goal.returns-then-budget-held
returns-then-budget-held c = late _ c.in-Ok.ensures.read c.if-budget-held.true

pub returns-else-budget-held : goal.returns-else-budget-held
returns-else-budget-held c = (
  starts (flat_of c.args.design.now) c.args.files.now c.args.budget c.args.bytes.now c.in-Ok.held c.in-Ok.ensures.read c.if-budget-held.false,
  record { words = c.in-Ok.ensures.words; table = c.in-Ok.ensures.table; tick = omega (arith, c.if-budget-held.false, c.requires.budget) },
)

pub returns-in-Err-Bad : goal.returns-in-Err-Bad
returns-in-Err-Bad c = misspelt c.in-Err-Bad.fault c.in-Err-Bad.field-0-1 (c.in-Err-Bad.ensures.bad c.in-Err-Bad.fault c.in-Err-Bad.field-0-1 (cc))
