use Rattle.std.proofs.Common.{◌∙◌, sym}
use Rattle.vl_base.proofs.FileSets.{contents-found, contents-absent}
use Rattle.vl_base.proofs.files.FileSet.find.Goals as goal

pub returns-in-Some : goal.returns-in-Some
returns-in-Some c =
    sym (contents-found c.args.self.now c.args.name.now c.in-Some.number c.in-Some.ensures.number ∙ c.bytes.ensures)

pub returns-in-None : goal.returns-in-None
returns-in-None c = sym (contents-absent c.args.self.now c.args.name.now c.in-None.ensures.number)
