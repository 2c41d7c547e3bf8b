use Rattle.std.proofs.Common.{[], sym, ap, ◌∙◌}
use Rattle.std.proofs.lemmas.Result.{IfOk-weaker, on_ok_weaker}
use Rattle.std.specs.Prelude.{◌≡◌, ◌++◌}
use Rattle.vl_design.specs.Laws.{can_act}
use Rattle.vl_design.specs.Trees.{exp_of, then_of}
use Rattle.sub_split.specs.Marks.{marks_of}
use Rattle.sub_split.proofs.Trees.{case-of, list-of}
use Rattle.sub_split.proofs.Marking.{case-acts, case-marks}
use Rattle.sub_split.proofs.marks.+mark.Goals as goal

pub mark-returns-in-Seq-clause-acts : goal.mark-returns-in-Seq-clause-acts
mark-returns-in-Seq-clause-acts t c =
    IfOk-weaker c.mark_list.result _ _ (λ b k. k ∙ sym (ap can_act (list-of [] c.args.a.now c.in-Seq.list c.as_slice.result.now c.in-Seq.is c.as_slice.ensures.value))) c.mark_list.ensures.acts

pub mark-returns-in-Seq-clause-marks : goal.mark-returns-in-Seq-clause-marks
mark-returns-in-Seq-clause-marks t c =
    let old = c.args.all.now.items in
    let x = c.args.a.now in
    let xs = c.as_slice.result.now in
    let same = list-of [] x c.in-Seq.list xs c.in-Seq.is c.as_slice.ensures.value in
    on_ok_weaker c.mark_list.result (λ (k : c.mark_list.new.all.items ≡ old ++ marks_of (then_of [] xs)). k ∙ sym (ap (λ z. old ++ marks_of z) same)) c.mark_list.ensures.marks

pub mark-returns-in_ok-settle-in-Case-clause-acts : goal.mark-returns-in_ok-settle-in-Case-clause-acts
mark-returns-in_ok-settle-in-Case-clause-acts t c =
    let i = c.in-Case in
    let x = c.args.a.now in
    let xs = c.as_slice-in-Case.result.now in
    let ys = c.as_slice-in-Case-2.result.now in
    let same : ys ≡ xs = c.as_slice-in-Case-2.ensures.value ∙ sym c.as_slice-in-Case.ensures.value in
    case-acts x (exp_of i.field-0) xs ys c.in_ok-labelled-in-Case.labelled c.in_ok-mark_default-in-Case.field-0 c.either-acts-in-Case.result (case-of [] x i.field-0 i.items i.field-2 xs i.is c.as_slice-in-Case.ensures.value) same
    c.in_ok-labelled-in-Case.ensures.acts c.in_ok-mark_default-in-Case.ensures.acts c.either-acts-in-Case.ensures

pub mark-returns-in_ok-settle-in-Case-clause-marks : goal.mark-returns-in_ok-settle-in-Case-clause-marks
mark-returns-in_ok-settle-in-Case-clause-marks t c =
    let i = c.in-Case in
    let x = c.args.a.now in
    let xs = c.as_slice-in-Case.result.now in
    let ys = c.as_slice-in-Case-2.result.now in
    let same : ys ≡ xs = c.as_slice-in-Case-2.ensures.value ∙ sym c.as_slice-in-Case.ensures.value in
    let is = case-of [] x i.field-0 i.items i.field-2 xs i.is c.as_slice-in-Case.ensures.value in
    let acts =
    case-acts x (exp_of i.field-0) xs ys c.in_ok-labelled-in-Case.labelled c.in_ok-mark_default-in-Case.field-0 c.either-acts-in-Case.result is same
    c.in_ok-labelled-in-Case.ensures.acts c.in_ok-mark_default-in-Case.ensures.acts c.either-acts-in-Case.ensures in
    case-marks x (exp_of i.field-0) xs ys c.either-acts-in-Case.result c.args.all.now.items c.push-in-Case.new.self.items c.mark_items.new.all.items c.mark_default.new.all.items c.settle-in-Case.new.all.items c.len-here-in-Case.result
    is same acts (c.len-here-in-Case.ensures ∙ c.args.all.now.ok.0) c.in_ok-push-in-Case.ensures.items c.in_ok-labelled-in-Case.ensures.marks c.in_ok-mark_default-in-Case.ensures.marks c.in_ok-settle-in-Case.ensures
