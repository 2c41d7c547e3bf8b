use Rattle.std.proofs.Common.{sym, ◌∙◌}
use Rattle.std.specs.Prelude.{option_map}
use Rattle.elab_constant.specs.Seen.{seen_scope, binding_of}
use Rattle.elab_constant.proofs.Kept.{name-word, name-bit, name-range}
use Rattle.elab_constant.proofs.form.named_form.Goals as goal

pub returns-in-Range : goal.returns-in-Range
returns-in-Range c =
    name-range (seen_scope c.args.scope.now) (option_map binding_of c.args.known) c.unsigned-in-Range.result c.selects_form-in-Range.result c.taken.result c.args.selects.now c.first-item.result c.in-Range.field-0 c.in-Range.mark c.in-Range.left c.in-Range.right
    c.in-len1-up.len_at_least c.first-item.is c.in-Range.is c.selects_form-in-Range.ensures c.unsigned-in-Range.ensures c.taken.ensures.same

pub returns-then-is_memory : goal.returns-then-is_memory
returns-then-is_memory c =
    name-word (seen_scope c.args.scope.now) (option_map binding_of c.args.known) c.known_form-then-is_memory.result c.selects_form.result c.args.selects.now c.first-item.result c.in-Index.field-0 c.in-Index.field-1
    c.in-len1-up.len_at_least c.first-item.is c.in-Index.is (sym c.is_memory.ensures ∙ c.if-is_memory.true) c.selects_form.ensures c.known_form-then-is_memory.ensures

pub returns-else-is_memory : goal.returns-else-is_memory
returns-else-is_memory c =
    name-bit (seen_scope c.args.scope.now) (option_map binding_of c.args.known) c.unsigned.result c.selects_form-else-is_memory.result c.args.selects.now c.first-item.result c.in-Index.field-0 c.in-Index.field-1
    c.in-len1-up.len_at_least c.first-item.is c.in-Index.is (sym c.is_memory.ensures ∙ c.if-is_memory.false) c.selects_form-else-is_memory.ensures c.unsigned.ensures
