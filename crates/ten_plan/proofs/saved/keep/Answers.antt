use Rattle.ten_plan.proofs.Kept.{kept-in-place, kept-at-the-end}
use Rattle.ten_plan.proofs.saved.keep.Goals as goal

pub returns-in-Some-clause-kept : goal.returns-in-Some-clause-kept
returns-in-Some-clause-kept c rows =
    kept-in-place rows c.args.new c.args.saved.now.items c.as_slice.result.now c.as_slice-2.result.now c.in-Some.place c.as_slice.ensures.value c.as_slice-2.ensures c.in-Some.ensures

pub returns-in_ok-push-in-None-clause-kept : goal.returns-in_ok-push-in-None-clause-kept
returns-in_ok-push-in-None-clause-kept c rows =
    kept-at-the-end rows c.args.new c.args.saved.now.items c.as_slice.result.now c.push.new.self.items c.as_slice-2.result.now c.as_slice.ensures.value c.as_slice-2.ensures c.in-None.ensures c.in_ok-push-in-None.ensures.items
