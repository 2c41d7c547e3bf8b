use Rattle.std.proofs.Common.{ℕ, List, [], Bor, ap, ◌∙◌, Err, get_or}
use Rattle.host_text.specs.Drafts.{drafted}
use Rattle.host_text.proofs.Faults.{line-of, turn-script, turn-fault, turn-stop, turn-end, script-end}
use Rattle.host_text.proofs.read.add_lines.Goals as goal

-- what a read past the end would give
abbrev nowhere : Bor (List ℕ)
nowhere = record { ref_ptr = (0, 0); now = [] }

pub loop-i-preserved : goal.loop-i-preserved
loop-i-preserved c =
    let refs = c.args.lines.now in
    let i = c.loop-i.i in
    let x = (get_or refs i nowhere).now in
    let s = drafted c.loop-i.reading in
    let v = c.loop-i.invariant in
    let at = line-of refs i nowhere c.loop-i-test.true in
    record {
      kept = c.in-Ok.ensures.kept;
      script = turn-script refs i x s (drafted c.add_line.new.reading) c.loop-i-test.true at v.script c.in-Ok.ensures.with;
      fault = turn-fault refs i x s c.loop-i-test.true at v.script c.in-Ok.ensures.none v.fault;
    }

pub returns-in-Err-Cause-clause-fault : goal.returns-in-Err-Cause-clause-fault
returns-in-Err-Cause-clause-fault c = λ line why e.
    let refs = c.args.lines.now in
    let i = c.loop-i.i in
    let v = c.loop-i.invariant in
    let cause = c.in-Err-Cause.cause in
    turn-stop refs i (get_or refs i nowhere).now (drafted c.loop-i.reading) cause _ line why c.loop-i-test.true (line-of refs i nowhere c.loop-i-test.true) v.script
    (c.in-Err-Cause.ensures.cause cause (ap Err c.in-Err-Cause.field-0-is)) c.in-Err-Cause.cause-is v.fault e

pub returns-clause-none : goal.returns-clause-none
returns-clause-none c = turn-end c.args.lines.now c.loop-i.i c.loop-i-test.false c.loop-i.invariant.fault

pub returns-clause-script : goal.returns-clause-script
returns-clause-script c = c.loop-i.invariant.script ∙ script-end c.args.lines.now c.loop-i.i c.loop-i-test.false
