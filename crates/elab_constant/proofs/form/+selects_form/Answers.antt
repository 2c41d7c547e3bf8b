use Rattle.elab_constant.specs.Seen.{seen_scope}
use Rattle.elab_constant.proofs.Kept.{form-nothing, form-index, form-range}
use Rattle.elab_constant.proofs.form.+selects_form.Goals as goal

pub returns-in-empty : goal.returns-in-empty
returns-in-empty t c = form-nothing (seen_scope c.args.scope.now) c.args.form c.args.selects.now c.min.result c.in-empty.len_below c.min.ensures

pub returns-in-Index : goal.returns-in-Index
returns-in-Index t c =
    form-index (seen_scope c.args.scope.now) c.args.form c.unsigned.result c.selects_form.result c.args.selects.now c.first-item.result c.in-Index.field-0 c.in-Index.field-1
    c.in-len1-up.len_at_least c.first-item.is c.in-Index.is c.selects_form.ensures c.unsigned.ensures

pub returns-in-Range : goal.returns-in-Range
returns-in-Range t c =
    form-range (seen_scope c.args.scope.now) c.args.form c.unsigned-in-Range.result c.selects_form-in-Range.result c.taken.result c.args.selects.now c.first-item.result c.in-Range.field-0 c.in-Range.mark c.in-Range.left c.in-Range.right
    c.in-len1-up.len_at_least c.first-item.is c.in-Range.is c.selects_form-in-Range.ensures c.unsigned-in-Range.ensures c.taken.ensures.same
