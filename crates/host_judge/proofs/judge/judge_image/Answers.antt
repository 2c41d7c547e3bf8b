use Rattle.std.proofs.Common.{ℕ, List, Option, subst}
use Rattle.ten_core.specs.vl_design.specs.Trees.{flat_of}
use Rattle.host_files.specs.Reading.{bytes_in}
use Rattle.host_judge.specs.declared.judge.Decision.{Decision}
use Rattle.host_judge.specs.Deciding.{IsDecided}
use Rattle.host_judge.proofs.Moved.{moved-refusal}
use Rattle.host_judge.proofs.Runs.{ready}
use Rattle.host_judge.proofs.judge.judge_image.Goals as goal

pub returns-in-Runs : goal.returns-in-Runs
returns-in-Runs c = λ text is.
    let d = flat_of c.args.image.design in
    let bytes : Option (List ℕ) = bytes_in c.args.snapshot.now in
    let here = subst (λ (b : Option (List ℕ)). IsDecided c.args.fabrics.now c.args.line.now d c.args.files b c.in_ok-plan.field-0) c.bytes_of.ensures c.in_ok-plan.ensures in
    let runs = subst (λ (x : Decision). IsDecided c.args.fabrics.now c.args.line.now d c.args.files bytes x) c.in-Runs.is here in
    ready c.args.fabrics.now c.args.line.now text c.args.image is c.args.files bytes c.in-Runs.plan c.in-Runs.start c.requires.line c.requires.spelt runs
    c.are_a_set.ensures c.an_elaborated_design_names_its_snapshots.ensures c.a_tenants_image_can_be_run.ensures

pub returns-in-Refused : goal.returns-in-Refused
returns-in-Refused c = λ text is.
    let d = flat_of c.args.image.design in
    let bytes : Option (List ℕ) = bytes_in c.args.snapshot.now in
    let here = subst (λ (b : Option (List ℕ)). IsDecided c.args.fabrics.now c.args.line.now d c.args.files b c.in_ok-plan.field-0) c.bytes_of.ensures c.in_ok-plan.ensures in
    let refused = subst (λ (x : Decision). IsDecided c.args.fabrics.now c.args.line.now d c.args.files bytes x) c.in-Refused.is here in
    moved-refusal d is.design is.runs.rows is.runs.cost c.args.fabrics.now c.args.line.now c.args.files bytes refused
