-- The form and the value of a constant, by recursion on what the source has; 0 where it is none.
use Rattle.std.specs.Prelude.{ℕ, Option, Some, None, if◌then◌else◌, ◌==◌}
use Rattle.vl_base.specs.declared.bits.UnOp.{UnOp}
use Rattle.vl_base.specs.Value.{resized, unary_value, binary_value}
use Rattle.vl_design.specs.declared.design.Form.{Form}
use Rattle.vl_design.specs.Width.{unsigned, joined, binary_form, operand_form, left_form, right_form}
use Rattle.elab_plain.specs.vl_flat.specs.declared.binding.Binding.{Binding}
use Rattle.elab_plain.specs.vl_flat.specs.declared.binding.Binding.TheVariants.{Constant}
use Rattle.elab_plain.specs.vl_flat.specs.Surface.{Ex, Number, Text, Named, Paren, Unary, Binary, Choice}
use Rattle.elab_plain.specs.vl_flat.specs.Scopes.{Env}
use Rattle.elab_plain.specs.vl_flat.specs.Expressions.{unary_of, operation, text_form, text_value, marked_form}

abbrev pub known_form : Option Binding → Form
known_form (Some (Constant c)) = record { width = c.width; signed = c.signed }
known_form b = unsigned 1

abbrev pub known_value : Option Binding → ℕ
known_value (Some (Constant c)) = c.value
known_value b = 0

abbrev pub folded_form : Env → Ex → Form
folded_form env (Number at n) = record { width = n.width; signed = n.signed }
folded_form env (Text at text) = text_form text
folded_form env (Named at name ss) = known_form (env name)
folded_form env (Paren at a) = folded_form env a
folded_form env (Unary at op a) = marked_form (unary_of op) (folded_form env a)
folded_form env (Binary at op a b) = binary_form (operation op) (folded_form env a) (folded_form env b)
folded_form env (Choice at t a b) = joined (folded_form env a) (folded_form env b)
folded_form env e = unsigned 1

-- the operand's context, and the value from the operand's in it
abbrev pub mark_context : Option UnOp → Form → Form → Form
mark_context None f c = c
mark_context (Some op) f c = operand_form op f c

abbrev pub mark_value : Option UnOp → ℕ → ℕ → ℕ
mark_value None w v = v
mark_value (Some op) w v = unary_value op w v

abbrev pub folded : Env → Ex → Form → ℕ
folded env (Number at n) c = resized c.signed n.width c.width n.value
folded env (Text at text) c = resized c.signed (text_form text).width c.width (text_value text)
folded env (Named at name ss) c = resized c.signed (known_form (env name)).width c.width (known_value (env name))
folded env (Paren at a) c = folded env a c
folded env (Unary at op a) c =
    let f = mark_context (unary_of op) (folded_form env a) c in
    mark_value (unary_of op) f.width (folded env a f)
folded env (Binary at op a b) c =
    let l = left_form (operation op) (folded_form env a) (folded_form env b) c in
    let r = right_form (operation op) (folded_form env a) (folded_form env b) c in
    binary_value (operation op) l.signed l.width (folded env a l) (folded env b r)
folded env (Choice at t a b) c =
    if folded env t (folded_form env t) == 0 then folded env b c else folded env a c
folded env e c = 0
