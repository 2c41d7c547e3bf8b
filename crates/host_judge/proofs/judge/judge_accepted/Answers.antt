use Rattle.host_files.specs.Reading.{bytes_in}
use Rattle.std.proofs.Common.{Option, subst}
use Rattle.host_files.specs.host_form.specs.declared.refusal.Refusal.{Refusal}
use Rattle.host_judge.specs.Deciding.{IsWeighedOf}
use Rattle.host_judge.proofs.judge.judge_accepted.Goals as goal

pub judge_fitting-requires-clause-accepted : goal.judge_fitting-requires-clause-accepted
judge_fitting-requires-clause-accepted c =
    let r = c.requires.accepted in
    (r.0, r.1, subst (λ (x : Option Refusal). IsWeighedOf r.0 c.args.fabrics.now c.args.line.now x) c.in-None.is (c.in_ok-refusal.ensures r.0 r.1))

pub returns-in-Some : goal.returns-in-Some
returns-in-Some c = λ text is.
    let w = subst (λ (x : Option Refusal). IsWeighedOf text c.args.fabrics.now c.args.line.now x) c.in-Some.is (c.in_ok-refusal.ensures text is) in
    (w.0, w.1, w.2 c.args.files (bytes_in c.args.snapshot.now))
