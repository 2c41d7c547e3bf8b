use Rattle.cell_expr.proofs.Sizes.{exp_size, exps_size, exp-part}
use Rattle.cell_expr.proofs.Answering.{AreGiven}
use Rattle.cell_expr.proofs.Calling.{call-at, call-at-none, function-at, takes-many, begun-first}
use Rattle.cell_expr.proofs.Falling.{falls-one, falls-two, falls-own, falls-in, falls-own-first, falls-own-second, falls-first, falls-second, falls-middle, falls-last, falls-node, falls-parts, falls-list, falls-arguments, has-bit, as-wide, as-narrow, one-wide, one-cell, no-wider, within, same-sum}
use Rattle.cell_expr.proofs.Giving.{many-count, passed-more, passed-all, input-at, inputs-more}
use Rattle.cell_expr.proofs.Nodes.{pick-compiles, slice-compiles, unary-compiles, binary-compiles, choice-compiles, cat-compiles, rep-compiles, rep-multiplies, cast-compiles, num-compiles, label-compiles, signal-compiles, time-compiles, answer-compiles}
use Rattle.cell_expr.proofs.Parts.{joins, part-count, sided-first, sided-more, sided-all, sided-some, part-fits, parts-extended}
use Rattle.cell_expr.proofs.Passing.{passes-one}
use Rattle.cell_expr.proofs.Spotting.{room-one}
use Rattle.cell_expr.proofs.Wording.{word-compiles}
use Rattle.cell_expr.specs.Bodies.{IsCellFun}
use Rattle.cell_expr.specs.Compiled.{Compiles}
use Rattle.cell_expr.specs.Contexts.{names_of, scope_of, body_of}
use Rattle.cell_expr.specs.Counts.{own_count, exp_count, in_count, parts_own, parts_wide, is_plain}
use Rattle.cell_expr.proofs.Counting.{in-own, in-most, node-few, unary-few, binary-few, choice-own, cat-few, rep-few, rep-many, leaf-few, call-few, resize-few}
use Rattle.cell_expr.proofs.Holding.{holds-plain, holds-wider}
use Rattle.cell_expr.proofs.Widening.{wide-none, wide-at-once, wide-behind, wide-cast}
use Rattle.cell_emit.specs.cell_form.specs.Views.{list_of}
use Rattle.cell_emit.proofs.Staying.{fits-stays}
use Rattle.cell_emit.specs.Envs.{env_of, HasOneWord, entry, held_or, Fits}
use Rattle.cell_emit.proofs.Frames.{in-stays, grows-same, grows-then, width-stays}
use Rattle.cell_emit.proofs.Newest.{ok-gives}
use Rattle.cell_emit.specs.Counts.{resizes}
use Rattle.cell_emit.specs.Slots.{held, width_at, Gives, Nothing}
use Rattle.std.proofs.Common.{◌≡◌, ◌∙◌, arith, ap, refl, sym, subst, [], ℤ, ◌+◌, w32, to_z, of_z, rules, drop, ◌*◌, ◌≤◌, ◌<◌, length, get_or, ◌-◌, true, false}
use Rattle.std.proofs.lemmas.Int.{to_z-of_z}
use Rattle.std.proofs.lemmas.List.{drop_all}
use Rattle.vl_base.specs.Value.{resized}
use Rattle.vl_design.specs.Sound.{IsNamed, IsSignal, IsSoundFun, IsWidth}
use Rattle.vl_design.specs.Syntax.{Word, Pick, Slice, Un, Bin, Cond, Cat, Rep, Cast, Call}
use Rattle.vl_design.specs.Trees.{exp_of, exps_of, fun_of}
use Rattle.vl_design.specs.Value.{value}
use Rattle.vl_design.specs.Width.{form, total_width, Names, names_in, assigned, signal_form, unsigned}
use Rattle.vl_design.specs.declared.design.Form.{Form}
use Rattle.vl_eval.proofs.Names.{signal-named, named-there}
use Rattle.vl_eval.proofs.Rows.{exps-more, cat-of, rep-of, call-of}
use Rattle.vl_eval.proofs.Widths.{form-width}
use Rattle.vl_run.proofs.Bodies.{deep}
use Rattle.vl_run.proofs.Inputs.{all-at}
use Rattle.cell_expr.proofs.context.Context.+expression.Goals as goal
use Rattle.cell_expr.proofs.context.Context.+expression.Goals.{repeated_in-then-count-le2-via-then-count-le2, repeated_in-then-count-le2-via-else-count-le2+then-own-eq1}

pub own_in-returns-clause-gives : goal.own_in-returns-clause-gives
own_in-returns-clause-gives g t c =
    let n = names_of c.args.self.now in
    let body = body_of c.args.self.now in
    let e = exp_of c.args.e.now in
    let h = rw c.form_of.ensures.value at c.compile_in.ensures.gives in
    ok-gives c.compile_in.result _ _
    (λ r k files. subst (λ z. Compiles n (scope_of c.args.self.now files) z e (form n e) (env_of c.args.at.now) (list_of c.args.cells.now) (list_of c.compile_in.new.cells) r) (in-own n body e (form n e).width refl) (k files)) h

pub word_in-read_word-requires-clause-address : goal.word_in-read_word-requires-clause-address
word_in-read_word-requires-clause-address g t c = (c.in_ok-address.ensures.gives []).slot.there

pub word_in-returns-clause-gives : goal.word_in-returns-clause-gives
word_in-returns-clause-gives g t c =
    ok-gives c.read_word.result _ (AreGiven (names_of c.args.self.now) (scope_of c.args.self.now) (body_of c.args.self.now) c.args.c (Word c.args.memory (exp_of c.args.a.now)) (env_of c.args.at.now) (list_of c.args.cells.now) (list_of c.read_word.new.cells))
    (λ r g files. word-compiles (scope_of c.args.self.now files) c.args.c (env_of c.args.at.now) (own_count (body_of c.args.self.now) (exp_of c.args.a.now)) (in_count (names_of c.args.self.now) (body_of c.args.self.now) c.args.c.width (Word c.args.memory (exp_of c.args.a.now))) c.args.memory (exp_of c.args.a.now) c.form_of-signed.result.signed
    (list_of c.args.cells.now) (list_of c.own_in.new.cells) (list_of c.read_word.new.cells) c.in_ok-address.address r (ap (λ (f : Form). f.signed) c.form_of-signed.ensures.value) c.requires.memory c.requires.fits (node-few (names_of c.args.self.now) (body_of c.args.self.now) (own_count (body_of c.args.self.now) (exp_of c.args.a.now)) _ c.args.c.width) (c.in_ok-address.ensures.gives files) g)
    c.read_word.ensures.gives

pub pick_in-select-requires-clause-base : goal.pick_in-select-requires-clause-base
pick_in-select-requires-clause-base g t c = in-stays (list_of c.own_in.new.cells) (list_of c.own_in-2.new.cells) c.in_ok-base.base c.in_ok-index.ensures.grows (c.in_ok-base.ensures.gives []).slot.there

pub pick_in-select-requires-clause-index : goal.pick_in-select-requires-clause-index
pick_in-select-requires-clause-index g t c = (c.in_ok-index.ensures.gives []).slot.there

pub pick_in-returns-clause-gives : goal.pick_in-returns-clause-gives
pick_in-returns-clause-gives g t c =
    ok-gives c.select.result _ (AreGiven (names_of c.args.self.now) (scope_of c.args.self.now) (body_of c.args.self.now) c.args.c (Pick (exp_of c.args.base.now) (exp_of c.args.index.now) c.args.from c.args.bits) (env_of c.args.at.now) (list_of c.args.cells.now) (list_of c.select.new.cells))
    (λ r g files. pick-compiles (scope_of c.args.self.now files) c.args.c (env_of c.args.at.now) (own_count (body_of c.args.self.now) (exp_of c.args.base.now)) (own_count (body_of c.args.self.now) (exp_of c.args.index.now))
    (in_count (names_of c.args.self.now) (body_of c.args.self.now) c.args.c.width (Pick (exp_of c.args.base.now) (exp_of c.args.index.now) c.args.from c.args.bits))
    (exp_of c.args.base.now) (exp_of c.args.index.now) c.args.from c.args.bits c.form_of-signed.result.signed (list_of c.args.cells.now) (list_of c.own_in.new.cells) (list_of c.own_in-2.new.cells) (list_of c.select.new.cells)
    c.in_ok-base.base c.in_ok-index.index r (node-few (names_of c.args.self.now) (body_of c.args.self.now) (own_count (body_of c.args.self.now) (exp_of c.args.base.now) + own_count (body_of c.args.self.now) (exp_of c.args.index.now)) c.args.bits c.args.c.width) (ap (λ (f : Form). f.signed) c.form_of-signed.ensures.value) c.requires.wide c.requires.fits (c.in_ok-base.ensures.gives files) (c.in_ok-index.ensures.gives files) g)
    c.select.ensures.gives

pub slice_in-slice-requires-clause-base : goal.slice_in-slice-requires-clause-base
slice_in-slice-requires-clause-base g t c = (c.in_ok-base.ensures.gives []).slot.there

pub slice_in-slice-requires-clause-here : goal.slice_in-slice-requires-clause-here
slice_in-slice-requires-clause-here g t c = in-stays (list_of c.args.cells.now) (list_of c.own_in.new.cells) c.args.at.now.here c.in_ok-base.ensures.grows c.requires.fits.here.there

pub slice_in-slice-requires-clause-zero : goal.slice_in-slice-requires-clause-zero
slice_in-slice-requires-clause-zero g t c = (fits-stays (names_of c.args.self.now) (list_of c.args.cells.now) (list_of c.own_in.new.cells) (env_of c.args.at.now) c.in_ok-base.ensures.grows c.requires.fits).is_here

pub slice_in-returns-clause-gives : goal.slice_in-returns-clause-gives
slice_in-returns-clause-gives g t c =
    let z : ℤ = to_z w32 (of_z w32 c.args.low) in
    let same : z ≡ c.args.low = to_z-of_z w32 c.args.low (search rules) in
    ok-gives c.slice.result _ _
    (λ r g files. subst (λ (y : ℤ). Compiles (names_of c.args.self.now) (scope_of c.args.self.now files) (in_count (names_of c.args.self.now) (body_of c.args.self.now) c.args.c.width (Slice (exp_of c.args.base.now) y c.args.bits)) (Slice (exp_of c.args.base.now) y c.args.bits) c.args.c (env_of c.args.at.now) (list_of c.args.cells.now) (list_of c.slice.new.cells) r) same
    (slice-compiles (scope_of c.args.self.now files) c.args.c (env_of c.args.at.now) (own_count (body_of c.args.self.now) (exp_of c.args.base.now)) (in_count (names_of c.args.self.now) (body_of c.args.self.now) c.args.c.width (Slice (exp_of c.args.base.now) z c.args.bits))
    (exp_of c.args.base.now) z c.args.bits (list_of c.args.cells.now) (list_of c.own_in.new.cells) (list_of c.slice.new.cells)
    c.in_ok-base.base r (node-few (names_of c.args.self.now) (body_of c.args.self.now) (own_count (body_of c.args.self.now) (exp_of c.args.base.now)) c.args.bits c.args.c.width) c.requires.wide c.requires.fits (c.in_ok-base.ensures.gives files) g))
    c.slice.ensures.gives

pub unary_in-returns-clause-gives : goal.unary_in-returns-clause-gives
unary_in-returns-clause-gives g t c =
    let form = rw c.form_of.ensures.value at c.operand_form-form.ensures.value in
    ok-gives c.operate.result _ (AreGiven (names_of c.args.self.now) (scope_of c.args.self.now) (body_of c.args.self.now) c.args.c (Un c.args.op (exp_of c.args.a.now)) (env_of c.args.at.now) (list_of c.args.cells.now) (list_of c.operate.new.cells))
    (λ r g files. unary-compiles (scope_of c.args.self.now files) c.args.c (env_of c.args.at.now) (in_count (names_of c.args.self.now) (body_of c.args.self.now) c.operand_form-form.result.width (exp_of c.args.a.now)) (in_count (names_of c.args.self.now) (body_of c.args.self.now) c.args.c.width (Un c.args.op (exp_of c.args.a.now))) c.args.op (exp_of c.args.a.now) c.operand_form-form.result
    (list_of c.args.cells.now) (list_of c.compile_in.new.cells) (list_of c.operate.new.cells) c.in_ok-a.a r (unary-few (names_of c.args.self.now) (body_of c.args.self.now) c.args.op (exp_of c.args.a.now) c.args.c c.operand_form-form.result form) form (c.operand_form-form.ensures.within c.requires.context.wide) c.requires.fits (c.in_ok-a.ensures.gives files) g)
    c.operate.ensures.gives

pub unary_in-operate-requires-clause-there : goal.unary_in-operate-requires-clause-there
unary_in-operate-requires-clause-there g t c = (c.in_ok-a.ensures.gives []).slot.there

pub unary_in-operate-requires-clause-own : goal.unary_in-operate-requires-clause-own
unary_in-operate-requires-clause-own g t c =
    let w = (c.in_ok-a.ensures.gives []).slot.width in
    let f = form-width (names_of c.args.self.now) (exp_of c.args.a.now) c.requires.expression in
    let wide = f.wide in
    let own = rw c.form_of.ensures.value at (c.operand_form-form.ensures.wide (rw c.form_of.ensures.value c.requires.wide)) in
    as-wide _ _ _ w wide own

pub unary_in-operate-requires-clause-own_narrow : goal.unary_in-operate-requires-clause-own_narrow
unary_in-operate-requires-clause-own_narrow g t c =
    let w = (c.in_ok-a.ensures.gives []).slot.width in
    let f = form-width (names_of c.args.self.now) (exp_of c.args.a.now) c.requires.expression in
    let narrow = c.operand_form-form.ensures.narrow (rw c.form_of.ensures.value f.narrow) c.requires.context.narrow in
    as-narrow _ _ w narrow

pub binary_in-combine-requires-clause-first : goal.binary_in-combine-requires-clause-first
binary_in-combine-requires-clause-first g t c = in-stays (list_of c.compile_in.new.cells) (list_of c.compile_in-2.new.cells) c.in_ok-a.a c.in_ok-b.ensures.grows (c.in_ok-a.ensures.gives []).slot.there

pub binary_in-combine-requires-clause-second : goal.binary_in-combine-requires-clause-second
binary_in-combine-requires-clause-second g t c = (c.in_ok-b.ensures.gives []).slot.there

pub binary_in-combine-requires-clause-own : goal.binary_in-combine-requires-clause-own
binary_in-combine-requires-clause-own g t c =
    let n = names_of c.args.self.now in
    let slot = (c.in_ok-a.ensures.gives []).slot in
    let same = width-stays (list_of c.compile_in.new.cells) (list_of c.compile_in-2.new.cells) c.in_ok-a.a c.in_ok-b.ensures.grows slot.there in
    let w = slot.width in
    let f = form-width n (exp_of c.args.a.now) c.requires.first in
    let h = form-width n (exp_of c.args.b.now) c.requires.second in
    let i = c.form_of-first.ensures.value in
    let j = c.form_of-second.ensures.value in
    let wide = f.wide in
    let own = rw i at (c.left_form-left.ensures.wide (rw (i, j) c.requires.wide)) in
    as-wide _ _ _ (same ∙ w) wide own

pub binary_in-combine-requires-clause-own_narrow : goal.binary_in-combine-requires-clause-own_narrow
binary_in-combine-requires-clause-own_narrow g t c =
    let n = names_of c.args.self.now in
    let slot = (c.in_ok-a.ensures.gives []).slot in
    let same = width-stays (list_of c.compile_in.new.cells) (list_of c.compile_in-2.new.cells) c.in_ok-a.a c.in_ok-b.ensures.grows slot.there in
    let w = slot.width in
    let f = form-width n (exp_of c.args.a.now) c.requires.first in
    let h = form-width n (exp_of c.args.b.now) c.requires.second in
    let i = c.form_of-first.ensures.value in
    let j = c.form_of-second.ensures.value in
    let narrow = c.left_form-left.ensures.narrow (rw i f.narrow) (rw j h.narrow) c.requires.context.narrow in
    as-narrow _ _ (same ∙ w) narrow

pub binary_in-combine-requires-clause-one_width : goal.binary_in-combine-requires-clause-one_width
binary_in-combine-requires-clause-one_width g t c = λ e.
    let n = names_of c.args.self.now in
    let slot = (c.in_ok-a.ensures.gives []).slot in
    let same = width-stays (list_of c.compile_in.new.cells) (list_of c.compile_in-2.new.cells) c.in_ok-a.a c.in_ok-b.ensures.grows slot.there in
    let w = slot.width in
    let v = (c.in_ok-b.ensures.gives []).slot.width in
    let left = ap (λ f. f.width) c.left_form-left.ensures.value in
    let right = c.right_form-right.ensures.same e in
    same ∙ w ∙ left ∙ right ∙ sym v

pub binary_in-returns-clause-gives : goal.binary_in-returns-clause-gives
binary_in-returns-clause-gives g t c =
    let i = c.form_of-first.ensures.value in
    let j = c.form_of-second.ensures.value in
    let left = rw (i, j) at c.left_form-left.ensures.value in
    let right = rw (i, j) at c.right_form-right.ensures.value in
    ok-gives c.combine.result _ (AreGiven (names_of c.args.self.now) (scope_of c.args.self.now) (body_of c.args.self.now) c.args.c (Bin c.args.op (exp_of c.args.a.now) (exp_of c.args.b.now)) (env_of c.args.at.now) (list_of c.args.cells.now) (list_of c.combine.new.cells))
    (λ r g files. binary-compiles (scope_of c.args.self.now files) c.args.c (env_of c.args.at.now) (in_count (names_of c.args.self.now) (body_of c.args.self.now) c.left_form-left.result.width (exp_of c.args.a.now)) (in_count (names_of c.args.self.now) (body_of c.args.self.now) c.right_form-right.result.width (exp_of c.args.b.now)) (in_count (names_of c.args.self.now) (body_of c.args.self.now) c.args.c.width (Bin c.args.op (exp_of c.args.a.now) (exp_of c.args.b.now))) c.args.op
    (exp_of c.args.a.now) (exp_of c.args.b.now) c.left_form-left.result c.right_form-right.result (list_of c.args.cells.now) (list_of c.compile_in.new.cells) (list_of c.compile_in-2.new.cells) (list_of c.combine.new.cells)
    c.in_ok-a.a c.in_ok-b.b r left right (λ e. ap (λ f. f.width) c.left_form-left.ensures.value ∙ c.right_form-right.ensures.same e) (binary-few (names_of c.args.self.now) (body_of c.args.self.now) c.args.op (exp_of c.args.a.now) (exp_of c.args.b.now) c.args.c c.left_form-left.result c.right_form-right.result left right) (c.left_form-left.ensures.within c.requires.context.wide) c.requires.fits (c.in_ok-a.ensures.gives files) (c.in_ok-b.ensures.gives files) g)
    c.combine.ensures.gives

pub choice_in-choose-requires-clause-test : goal.choice_in-choose-requires-clause-test
choice_in-choose-requires-clause-test g t c =
    in-stays (list_of c.own_in.new.cells) (list_of c.compile_in-2.new.cells) c.in_ok-test.test (grows-then (list_of c.own_in.new.cells) (list_of c.compile_in.new.cells) (list_of c.compile_in-2.new.cells) c.in_ok-a.ensures.grows c.in_ok-b.ensures.grows) (c.in_ok-test.ensures.gives []).slot.there

pub choice_in-choose-requires-clause-first : goal.choice_in-choose-requires-clause-first
choice_in-choose-requires-clause-first g t c = in-stays (list_of c.compile_in.new.cells) (list_of c.compile_in-2.new.cells) c.in_ok-a.a c.in_ok-b.ensures.grows (c.in_ok-a.ensures.gives []).slot.there

pub choice_in-choose-requires-clause-second : goal.choice_in-choose-requires-clause-second
choice_in-choose-requires-clause-second g t c = (c.in_ok-b.ensures.gives []).slot.there

pub choice_in-choose-requires-clause-own : goal.choice_in-choose-requires-clause-own
choice_in-choose-requires-clause-own g t c =
    let n = names_of c.args.self.now in
    let slot = (c.in_ok-a.ensures.gives []).slot in
    let same = width-stays (list_of c.compile_in.new.cells) (list_of c.compile_in-2.new.cells) c.in_ok-a.a c.in_ok-b.ensures.grows slot.there in
    let w = slot.width in
    let wide = c.requires.context.wide in
    one-wide _ _ (same ∙ w) wide

pub choice_in-choose-requires-clause-own_narrow : goal.choice_in-choose-requires-clause-own_narrow
choice_in-choose-requires-clause-own_narrow g t c =
    let n = names_of c.args.self.now in
    let slot = (c.in_ok-a.ensures.gives []).slot in
    let same = width-stays (list_of c.compile_in.new.cells) (list_of c.compile_in-2.new.cells) c.in_ok-a.a c.in_ok-b.ensures.grows slot.there in
    let w = slot.width in
    let narrow = c.requires.context.narrow in
    as-narrow _ _ (same ∙ w) narrow

pub choice_in-choose-requires-clause-one_width : goal.choice_in-choose-requires-clause-one_width
choice_in-choose-requires-clause-one_width g t c =
    let n = names_of c.args.self.now in
    let slot = (c.in_ok-a.ensures.gives []).slot in
    let same = width-stays (list_of c.compile_in.new.cells) (list_of c.compile_in-2.new.cells) c.in_ok-a.a c.in_ok-b.ensures.grows slot.there in
    let w = slot.width in
    let v = (c.in_ok-b.ensures.gives []).slot.width in
    v ∙ sym w ∙ sym same

pub choice_in-returns-clause-gives : goal.choice_in-returns-clause-gives
choice_in-returns-clause-gives g t c =
    let fits = fits-stays (names_of c.args.self.now) (list_of c.args.cells.now) (list_of c.own_in.new.cells) (env_of c.args.at.now) c.in_ok-test.ensures.grows c.requires.fits in
    ok-gives c.choose.result _ (AreGiven (names_of c.args.self.now) (scope_of c.args.self.now) (body_of c.args.self.now) c.args.c (Cond (exp_of c.args.test.now) (exp_of c.args.a.now) (exp_of c.args.b.now)) (env_of c.args.at.now) (list_of c.args.cells.now) (list_of c.choose.new.cells))
    (λ r g files. choice-compiles (scope_of c.args.self.now files) c.args.c (env_of c.args.at.now) (own_count (body_of c.args.self.now) (exp_of c.args.test.now)) (in_count (names_of c.args.self.now) (body_of c.args.self.now) c.args.c.width (exp_of c.args.a.now)) (in_count (names_of c.args.self.now) (body_of c.args.self.now) c.args.c.width (exp_of c.args.b.now)) (in_count (names_of c.args.self.now) (body_of c.args.self.now) c.args.c.width (Cond (exp_of c.args.test.now) (exp_of c.args.a.now) (exp_of c.args.b.now)))
    (exp_of c.args.test.now) (exp_of c.args.a.now) (exp_of c.args.b.now) (list_of c.args.cells.now) (list_of c.own_in.new.cells) (list_of c.compile_in.new.cells) (list_of c.compile_in-2.new.cells) (list_of c.choose.new.cells)
    c.in_ok-test.test c.in_ok-a.a c.in_ok-b.b r (choice-own (names_of c.args.self.now) (body_of c.args.self.now) (exp_of c.args.test.now) (exp_of c.args.a.now) (exp_of c.args.b.now) c.args.c.width) c.requires.fits fits (c.in_ok-test.ensures.gives files) (c.in_ok-a.ensures.gives files) (c.in_ok-b.ensures.gives files) g)
    c.choose.ensures.gives

pub parts_in-loop-part-init : goal.parts_in-loop-part-init
parts_in-loop-part-init g t c =
    record {
      grows = grows-same (list_of c.args.cells.now);
      fits = c.requires.fits;
      sound = c.requires.sound;
      sided = λ files. sided-first (scope_of c.args.self.now files) (body_of c.args.self.now) c.args.more (env_of c.args.at.now) (list_of c.args.cells.now) (exps_of c.args.parts.now);
    }

pub parts_in-joined-requires-clause-all : goal.parts_in-joined-requires-clause-all
parts_in-joined-requires-clause-all g t c =
    let n = names_of c.args.self.now in
    let l = c.loop-part.invariant in
    let e = exps-more c.args.parts.now c.loop-part.part-index c.part-item.result c.loop-part-test.true c.part-item.is in
    let h = rw e at l.sound in
    let w = form-width n (exp_of c.part-item.result) h.0 in
    let s = l.sided [] in
    let part = rw c.bits_before.ensures at c.in_ok-next.ensures.gives in
    let j = joins n c.args.more (list_of c.loop-part.cells) (list_of c.wide_in.new.cells) c.loop-part.all c.in_ok-next.next (exp_of c.part-item.result) (exps_of (drop (c.loop-part.part-index + 1) c.args.parts.now)) (exps_of (drop c.loop-part.part-index c.args.parts.now)) (exps_of c.args.parts.now)
    c.in_ok-next.ensures.grows e s.there (part []).slot w.wide s.width c.requires.narrow in j.there

pub parts_in-joined-requires-clause-part : goal.parts_in-joined-requires-clause-part
parts_in-joined-requires-clause-part g t c = (c.in_ok-next.ensures.gives []).slot.there

pub parts_in-joined-requires-clause-wide : goal.parts_in-joined-requires-clause-wide
parts_in-joined-requires-clause-wide g t c =
    let n = names_of c.args.self.now in
    let l = c.loop-part.invariant in
    let e = exps-more c.args.parts.now c.loop-part.part-index c.part-item.result c.loop-part-test.true c.part-item.is in
    let h = rw e at l.sound in
    let w = form-width n (exp_of c.part-item.result) h.0 in
    let s = l.sided [] in
    let part = rw c.bits_before.ensures at c.in_ok-next.ensures.gives in
    let j = joins n c.args.more (list_of c.loop-part.cells) (list_of c.wide_in.new.cells) c.loop-part.all c.in_ok-next.next (exp_of c.part-item.result) (exps_of (drop (c.loop-part.part-index + 1) c.args.parts.now)) (exps_of (drop c.loop-part.part-index c.args.parts.now)) (exps_of c.args.parts.now)
    c.in_ok-next.ensures.grows e s.there (part []).slot w.wide s.width c.requires.narrow in j.wide

pub parts_in-joined-requires-clause-narrow : goal.parts_in-joined-requires-clause-narrow
parts_in-joined-requires-clause-narrow g t c =
    let n = names_of c.args.self.now in
    let l = c.loop-part.invariant in
    let e = exps-more c.args.parts.now c.loop-part.part-index c.part-item.result c.loop-part-test.true c.part-item.is in
    let h = rw e at l.sound in
    let w = form-width n (exp_of c.part-item.result) h.0 in
    let s = l.sided [] in
    let part = rw c.bits_before.ensures at c.in_ok-next.ensures.gives in
    let j = joins n c.args.more (list_of c.loop-part.cells) (list_of c.wide_in.new.cells) c.loop-part.all c.in_ok-next.next (exp_of c.part-item.result) (exps_of (drop (c.loop-part.part-index + 1) c.args.parts.now)) (exps_of (drop c.loop-part.part-index c.args.parts.now)) (exps_of c.args.parts.now)
    c.in_ok-next.ensures.grows e s.there (part []).slot w.wide s.width c.requires.narrow in j.narrow

pub parts_in-loop-part-preserved : goal.parts_in-loop-part-preserved
parts_in-loop-part-preserved g t c =
    let n = names_of c.args.self.now in
    let l = c.loop-part.invariant in
    let e = exps-more c.args.parts.now c.loop-part.part-index c.part-item.result c.loop-part-test.true c.part-item.is in
    let h = rw e at l.sound in
    let l0 = list_of c.args.cells.now in
    let l1 = list_of c.loop-part.cells in
    let l2 = list_of c.wide_in.new.cells in
    let l3 = list_of c.joined.new.cells in
    let part = rw c.bits_before.ensures at c.in_ok-next.ensures.gives in
    let others = exps_of (drop (c.loop-part.part-index + 1) c.args.parts.now) in
    let many = part-count (body_of c.args.self.now) c.args.more c.loop-part.all (exp_of c.part-item.result) others in
    let g = grows-then l1 l2 l3 c.in_ok-next.ensures.grows c.in_ok-slot.ensures.grows in
    record {
      grows = grows-then l0 l1 l3 l.grows g;
      fits = fits-stays n l1 l3 (env_of c.args.at.now) g l.fits;
      sound = h.1;
      sided = λ files. sided-more (scope_of c.args.self.now files) (body_of c.args.self.now) c.args.more (env_of c.args.at.now) l0 l1 l2 l3 c.loop-part.all _ c.in_ok-next.next c.in_ok-slot.slot (exp_of c.part-item.result)
          (exps_of (drop (c.loop-part.part-index + 1) c.args.parts.now)) (exps_of (drop c.loop-part.part-index c.args.parts.now)) (exps_of c.args.parts.now) many e c.requires.fits (l.sided files) (part files) c.in_ok-slot.ensures.gives;
    }

pub parts_in-unreachable-requires : goal.parts_in-unreachable-requires
parts_in-unreachable-requires g t c =
    let none = ap exps_of (drop_all c.loop-part.part-index c.args.parts.now c.loop-part-test.false) in
    sided-some (scope_of c.args.self.now []) (body_of c.args.self.now) c.args.more (env_of c.args.at.now) (list_of c.args.cells.now) (list_of c.loop-part.cells) c.loop-part.all _ (exps_of c.args.parts.now) none c.in-None.is c.requires.some (c.loop-part.invariant.sided [])

pub parts_in-returns-clause-gives : goal.parts_in-returns-clause-gives
parts_in-returns-clause-gives g t c =
    let none = ap exps_of (drop_all c.loop-part.part-index c.args.parts.now c.loop-part-test.false) in
    λ files. sided-all (scope_of c.args.self.now files) (body_of c.args.self.now) c.args.more (env_of c.args.at.now) (list_of c.args.cells.now) (list_of c.loop-part.cells) c.loop-part.all c.in-Some.slot _ (exps_of c.args.parts.now) none c.in-Some.is (c.loop-part.invariant.sided files)

pub joined_in-read-requires-clause-there : goal.joined_in-read-requires-clause-there
joined_in-read-requires-clause-there g t c = (c.in_ok-all.ensures.gives []).slot.there

pub joined_in-returns-clause-gives : goal.joined_in-returns-clause-gives
joined_in-returns-clause-gives g t c =
    ok-gives c.read.result _ (AreGiven (names_of c.args.self.now) (scope_of c.args.self.now) (body_of c.args.self.now) c.args.c (Cat (exps_of c.args.parts.now)) (env_of c.args.at.now) (list_of c.args.cells.now) (list_of c.read.new.cells))
    (λ r g files. cat-compiles (scope_of c.args.self.now files) c.args.c (env_of c.args.at.now) (parts_own (body_of c.args.self.now) (exps_of c.args.parts.now)) (in_count (names_of c.args.self.now) (body_of c.args.self.now) c.args.c.width (Cat (exps_of c.args.parts.now)))
    (exps_of c.args.parts.now) (list_of c.args.cells.now) (list_of c.parts_in.new.cells) (list_of c.read.new.cells) c.in_ok-all.all r (cat-few (names_of c.args.self.now) (body_of c.args.self.now) (parts_own (body_of c.args.self.now) (exps_of c.args.parts.now)) (total_width (names_of c.args.self.now) (exps_of c.args.parts.now)) c.args.c.width) c.requires.wide c.requires.fits
    (holds-plain (names_of c.args.self.now) (env_of c.args.at.now) (parts_own (body_of c.args.self.now) (exps_of c.args.parts.now)) (total_width (names_of c.args.self.now) (exps_of c.args.parts.now)) (list_of c.args.cells.now) (list_of c.parts_in.new.cells) c.in_ok-all.all _ (c.in_ok-all.ensures.gives files)) g)
    c.read.ensures.gives

pub cast_in-read-requires-clause-there : goal.cast_in-read-requires-clause-there
cast_in-read-requires-clause-there g t c = (c.in_ok-a.ensures.gives []).slot.there

pub cast_in-returns-clause-gives : goal.cast_in-returns-clause-gives
cast_in-returns-clause-gives g t c =
    ok-gives c.read.result _ _
    (λ r g files signed. cast-compiles (scope_of c.args.self.now files) c.args.c (env_of c.args.at.now) (own_count (body_of c.args.self.now) (exp_of c.args.a.now)) (in_count (names_of c.args.self.now) (body_of c.args.self.now) c.args.c.width (Cast signed (exp_of c.args.a.now))) signed
    (exp_of c.args.a.now) (list_of c.args.cells.now) (list_of c.own_in.new.cells) (list_of c.read.new.cells) c.in_ok-a.a r (cat-few (names_of c.args.self.now) (body_of c.args.self.now) (own_count (body_of c.args.self.now) (exp_of c.args.a.now)) (form (names_of c.args.self.now) (exp_of c.args.a.now)).width c.args.c.width) c.requires.fits (c.in_ok-a.ensures.gives files) g)
    c.read.ensures.gives

pub argument_in-signal_form-width-requires : goal.argument_in-signal_form-width-requires
argument_in-signal_form-width-requires g t c =
    let n = names_of c.args.self.now in
    let inside = names_in n (fun_of c.args.func.now) in
    let named = signal-named inside c.args.input c.requires.input in subst (λ (m : Names). IsNamed m c.args.input) (sym c.inner.ensures.names) named

pub argument_in-read-requires-clause-there : goal.argument_in-read-requires-clause-there
argument_in-read-requires-clause-there g t c = (c.in_ok-value.ensures.gives []).slot.there

pub argument_in-pass-requires-clause-there : goal.argument_in-pass-requires-clause-there
argument_in-pass-requires-clause-there g t c =
    let n = names_of c.args.self.now in
    let inside = names_in n (fun_of c.args.func.now) in
    let named = signal-named inside c.args.input c.requires.input in
    let there = named-there inside c.args.input named in
    let many = c.requires.inside.many in
    omega (arith, there, many)

pub argument_in-returns-clause-passes : goal.argument_in-returns-clause-passes
argument_in-returns-clause-passes g t c =
    let n = names_of c.args.self.now in
    let inside = names_in n (fun_of c.args.func.now) in
    let named = signal-named inside c.args.input c.requires.input in
    let w = c.signal_form-width.result.width in
    let width : w ≡ (signal_form inside.rows c.args.input).width = ap (λ (f : Form). f.width) (subst (λ (m : Names). c.signal_form-width.result ≡ signal_form m.rows c.args.input) c.inner.ensures.names c.signal_form-width.ensures.value) in
    let form-is : c.assigned-context.result ≡ assigned w (form n (exp_of c.args.e.now)) = c.assigned-context.ensures ∙ ap (assigned w) c.form_of.ensures.value in
    let l0 = list_of c.args.cells.now in
    let l1 = list_of c.compile_in.new.cells in
    let l2 = list_of c.read.new.cells in
    λ files.
    let scope = scope_of c.args.self.now files in
    let k = exp_count (body_of c.args.self.now) (exp_of c.args.e.now) in
    let h = subst (λ (f : Form). Compiles n scope k (exp_of c.args.e.now) f (env_of c.args.at.now) l0 l1 c.in_ok-value.value) form-is
    (holds-wider n (env_of c.args.at.now) (in_count n (body_of c.args.self.now) c.assigned-context.result.width (exp_of c.args.e.now)) k l0 l1 c.in_ok-value.value c.assigned-context.result.width (λ x. value scope x (exp_of c.args.e.now) c.assigned-context.result)
    (in-most n (body_of c.args.self.now) (exp_of c.args.e.now) c.assigned-context.result.width) (c.in_ok-value.ensures.gives files)) in
    rw (c.pass.ensures, sym width)
    (passes-one n inside (env_of c.args.at.now) k c.args.input w _ c.in_ok-cut.cut c.in_ok-value.value (env_of c.args.body.now) l0 l1 l2 (λ x. value scope x (exp_of c.args.e.now) (assigned w (form n (exp_of c.args.e.now))))
    (record { one = subst (λ (m : Names). HasOneWord m.rows) c.inner.ensures.names (room-one c.inner.result); fits = c.requires.inside; is_signal = c.requires.input; width = sym width; first = c.requires.first })
    c.requires.fits h c.in_ok-cut.ensures.gives)

pub arguments_in-loop-number-init : goal.arguments_in-loop-number-init
arguments_in-loop-number-init g t c =
    record {
      grows = grows-same (list_of c.args.cells.now);
      fits = c.requires.fits;
      inside = c.requires.inside;
      first = c.requires.first;
      sound = c.requires.sound;
      leads = λ files last new h. h;
    }

pub arguments_in-bounds-inputs-number : goal.arguments_in-bounds-inputs-number
arguments_in-bounds-inputs-number g t c =
    let many = c.requires.many in
    let count = many-count c.args.arguments.now in
    let below = c.loop-number-test.true in
    rw c.as_slice-inputs.ensures (omega (arith, many, count, below))

pub arguments_in-loop-number-preserved : goal.arguments_in-loop-number-preserved
arguments_in-loop-number-preserved g t c =
    let n = names_of c.args.self.now in
    let g = fun_of c.args.func.now in
    let i = c.loop-number.number in
    let l = c.loop-number.invariant in
    let x = c.index-arguments-number.result in
    let e = exps-more c.args.arguments.now i x c.loop-number-test.true c.index-arguments-number.is in
    let h = rw e at l.sound in
    let ks = c.args.func.now.inputs in
    let many = c.requires.many in
    let count = many-count c.args.arguments.now in
    let below = c.loop-number-test.true in
    let lt : i < length ks = omega (arith, many, count, below) in
    let k = get_or ks i 0 in
    let l0 = list_of c.args.cells.now in
    let l1 = list_of c.loop-number.cells in
    let l2 = list_of c.argument_in.new.cells in
    let p = rw c.as_slice-inputs.ensures at c.in_ok-argument_in.ensures.passes in
    let one = p [] in
    record {
      grows = grows-then l0 l1 l2 l.grows c.in_ok-argument_in.ensures.grows;
      fits = fits-stays n l1 l2 (env_of c.args.at.now) c.in_ok-argument_in.ensures.grows l.fits;
      inside = one.fits;
      first = one.keeps.first ∙ l.first;
      sound = h.1;
      leads = λ files. passed-more n g (scope_of c.args.self.now files) (body_of c.args.self.now) (env_of c.args.at.now) (env_of c.args.body.now) (env_of c.loop-number.body) (env_of c.argument_in.new.body) l0 l1 l2 (exp_of x) (exps_of (drop (i + 1) c.args.arguments.now)) (exps_of (drop i c.args.arguments.now)) (exps_of c.args.arguments.now)
          k (drop (i + 1) ks) (drop i ks) ks e (inputs-more ks i lt) l.fits (p files) (l.leads files);
    }

pub arguments_in-returns-clause-passes : goal.arguments_in-returns-clause-passes
arguments_in-returns-clause-passes g t c =
    let n = names_of c.args.self.now in
    let i = c.loop-number.number in
    let l = c.loop-number.invariant in
    let ks = c.args.func.now.inputs in
    let many = c.requires.many in
    let count = many-count c.args.arguments.now in
    let over = c.loop-number-test.false in
    let none = ap exps_of (drop_all i c.args.arguments.now over) in
    let all = drop_all i ks (omega (arith, many, count, over)) in
    λ files. passed-all n (fun_of c.args.func.now) (scope_of c.args.self.now files) (body_of c.args.self.now) (env_of c.args.at.now) (env_of c.args.body.now) (env_of c.loop-number.body) (list_of c.args.cells.now) (list_of c.loop-number.cells)
    (exps_of (drop i c.args.arguments.now)) (exps_of c.args.arguments.now) (drop i ks) ks none all l.inside (l.leads files)

pub call_in-returns-then-self-eq0-clause-gives : goal.call_in-returns-then-self-eq0-clause-gives
call_in-returns-then-self-eq0-clause-gives g t c =
    ok-gives c.nothing.result _ (AreGiven (names_of c.args.self.now) (scope_of c.args.self.now) (body_of c.args.self.now) c.args.c (Call c.args.function (exps_of c.args.arguments.now)) (env_of c.args.at.now) (list_of c.args.cells.now) (list_of c.nothing.new.cells))
    (λ r g files. call-at-none (names_of c.args.self.now) files c.args.self.now.depth c.args.function (exps_of c.args.arguments.now) c.args.c (env_of c.args.at.now) (list_of c.args.cells.now) (list_of c.nothing.new.cells) r (in_count (names_of c.args.self.now) (body_of c.args.self.now) c.args.c.width (Call c.args.function (exps_of c.args.arguments.now))) c.if-self-eq0.true
    (call-few (names_of c.args.self.now) (body_of c.args.self.now) _ 1 (exp_count (body_of c.args.self.now) (Call c.args.function (exps_of c.args.arguments.now))) (omega arith)) c.requires.fits g)
    c.nothing.ensures.gives

pub call_in-compile_body-requires : goal.call_in-compile_body-requires
call_in-compile_body-requires g t c =
    let n = names_of c.args.self.now in
    let room = c.args.self.now.room in
    let value = c.index-self-function.result in
    let func = fun_of (get_or room.funcs.now c.args.function value) in
    let there = function-at room c.args.function _ value c.requires.there in
    let passes = c.in_ok-arguments_in.ensures.passes in
    let one = passes [] in
    let depth = c.args.self.now.depth in
    c.requires.functions.callable (depth - 1) c.args.function func _ _ (deep depth c.if-self-eq0.false) there one.fits (one.keeps.first ∙ begun-first room _ c.in_ok-body.ensures.first)

pub call_in-read_signal-requires-clause-fits : goal.call_in-read_signal-requires-clause-fits
call_in-read_signal-requires-clause-fits g t c =
    let n = names_of c.args.self.now in
    let room = c.args.self.now.room in
    let value = c.index-self-function.result in
    let func = fun_of (get_or room.funcs.now c.args.function value) in
    let there = function-at room c.args.function _ value c.requires.there in
    let depth = c.args.self.now.depth in
    let does = rw c.in_ok-compile_body.was at (c.requires.functions.does (depth - 1) c.args.function func _ _ _ _ _ (deep depth c.if-self-eq0.false) there c.compile_body.ensures) in
    subst (λ (z : Names). Fits z (list_of c.compile_body.new.arg2) (env_of c.compile_body.new.arg3)) (sym c.inner.ensures.names) (does []).fits

pub call_in-returns-in_err-compile_body-clause-grows : goal.call_in-returns-in_err-compile_body-clause-grows
call_in-returns-in_err-compile_body-clause-grows g t c =
    let l0 = list_of c.args.cells.now in
    let l1 = list_of c.begin.new.cells in
    let l2 = list_of c.arguments_in.new.cells in
    let l3 = list_of c.compile_body.new.arg2 in
    grows-then l0 l2 l3 (grows-then l0 l1 l2 c.in_ok-body.ensures.grows c.in_ok-arguments_in.ensures.grows) (c.requires.functions.grows c.args.function _ _ _ _ _ c.compile_body.ensures)

pub call_in-returns-clause-grows : goal.call_in-returns-clause-grows
call_in-returns-clause-grows g t c =
    let l0 = list_of c.args.cells.now in
    let l1 = list_of c.begin.new.cells in
    let l2 = list_of c.arguments_in.new.cells in
    let l3 = list_of c.compile_body.new.arg2 in
    let l4 = list_of c.read_signal.new.cells in
    let before = grows-then l0 l2 l3 (grows-then l0 l1 l2 c.in_ok-body.ensures.grows c.in_ok-arguments_in.ensures.grows) (c.requires.functions.grows c.args.function _ _ _ _ _ c.compile_body.ensures) in
    grows-then l0 l3 l4 before c.read_signal.ensures.grows

pub call_in-read_signal-requires-clause-signal : goal.call_in-read_signal-requires-clause-signal
call_in-read_signal-requires-clause-signal g t c =
    let n = names_of c.args.self.now in
    let room = c.args.self.now.room in
    let value = c.index-self-function.result in
    let func = fun_of (get_or room.funcs.now c.args.function value) in
    let there = function-at room c.args.function _ value c.requires.there in
    let s = all-at (IsSoundFun n) n.funs c.args.function func c.requires.functions.sound there in
    subst (λ (m : Names). IsSignal m func.result) (sym c.inner.ensures.names) s.result

pub call_in-returns-clause-gives : goal.call_in-returns-clause-gives
call_in-returns-clause-gives g t c =
    let n = names_of c.args.self.now in
    let room = c.args.self.now.room in
    let value = c.index-self-function.result in
    let func = fun_of (get_or room.funcs.now c.args.function value) in
    let there = function-at room c.args.function _ value c.requires.there in
    let s = all-at (IsSoundFun n) n.funs c.args.function func c.requires.functions.sound there in
    let l0 = list_of c.args.cells.now in
    let l1 = list_of c.begin.new.cells in
    let l2 = list_of c.arguments_in.new.cells in
    let passes = c.in_ok-arguments_in.ensures.passes in
    let depth = c.args.self.now.depth in
    let is = deep depth c.if-self-eq0.false in
    let l3 = list_of c.compile_body.new.arg2 in
    let new = list_of c.read_signal.new.cells in
    let body0 = env_of c.in_ok-body.body in
    let body1 = env_of c.arguments_in.new.body in
    let body2 = env_of c.compile_body.new.arg3 in
    let does = rw c.in_ok-compile_body.was at (c.requires.functions.does (depth - 1) c.args.function func _ _ _ _ _ is there c.compile_body.ensures) in
    ok-gives c.read_signal.result _ (AreGiven (names_of c.args.self.now) (scope_of c.args.self.now) (body_of c.args.self.now) c.args.c (Call c.args.function (exps_of c.args.arguments.now)) (env_of c.args.at.now) (list_of c.args.cells.now) (list_of c.read_signal.new.cells))
    (λ r h files.
    let G : Names → Type 0 = λ z. Gives Nothing 1 l3 new r c.args.c.width (λ b. resized c.args.c.signed (signal_form z.rows func.result).width c.args.c.width (held_or b l3 (entry body2 func.result))) in
    call-at n files depth (depth - 1) func c.args.function (exps_of c.args.arguments.now) c.args.c (env_of c.args.at.now) body0 body1 body2 l0 l1 l2 l3 new r (in_count n (body_of c.args.self.now) c.args.c.width (Call c.args.function (exps_of c.args.arguments.now))) is
    (call-few n (body_of c.args.self.now) _ (exp_count (body_of c.args.self.now) (Call c.args.function (exps_of c.args.arguments.now))) (exp_count (body_of c.args.self.now) (Call c.args.function (exps_of c.args.arguments.now))) (omega arith)) there s.result c.requires.fits
    c.in_ok-body.ensures.begins (passes files) (does files) (subst G c.inner.ensures.names h))
    c.read_signal.ensures.gives

pub compile_in-returns-in-Num-clause-gives : goal.compile_in-returns-in-Num-clause-gives
compile_in-returns-in-Num-clause-gives g t c =
    rw c.in-Num.is (ok-gives c.number_in.result _ _ (λ r g files. num-compiles (scope_of c.args.self.now files) c.args.c (env_of c.args.at.now) _ _ c.in-Num.field-1 _ (list_of c.args.cells.now) (list_of c.number_in.new.cells) r (leaf-few (names_of c.args.self.now) (body_of c.args.self.now) _ 1 one-cell) c.requires.fits g) c.number_in.ensures.gives)

pub compile_in-returns-in-Label-clause-gives : goal.compile_in-returns-in-Label-clause-gives
compile_in-returns-in-Label-clause-gives g t c =
    rw c.in-Label.is (ok-gives c.number_in-in-Label.result _ _ (λ r g files. label-compiles (scope_of c.args.self.now files) c.args.c (env_of c.args.at.now) _ c.in-Label.label.care _ c.in-Label.label.signed _ (list_of c.args.cells.now) (list_of c.number_in-in-Label.new.cells) r (leaf-few (names_of c.args.self.now) (body_of c.args.self.now) _ 1 one-cell) c.requires.fits g) c.number_in-in-Label.ensures.gives)

pub compile_in-returns-in-Sig-clause-gives : goal.compile_in-returns-in-Sig-clause-gives
compile_in-returns-in-Sig-clause-gives g t c =
    rw c.in-Sig.is (ok-gives c.read_signal.result _ _ (λ r g files. signal-compiles (scope_of c.args.self.now files) c.args.c (env_of c.args.at.now) _ _ (list_of c.args.cells.now) (list_of c.read_signal.new.cells) r (leaf-few (names_of c.args.self.now) (body_of c.args.self.now) _ 1 one-cell) (rw c.in-Sig.is at c.requires.expression) c.requires.fits g) c.read_signal.ensures.gives)

pub compile_in-returns-in-Word-clause-gives : goal.compile_in-returns-in-Word-clause-gives
compile_in-returns-in-Word-clause-gives g t c =
    let g = rw c.deref.ensures at c.word_in.ensures.gives in
    rw c.in-Word.is g

pub compile_in-returns-in-Pick-clause-gives : goal.compile_in-returns-in-Pick-clause-gives
compile_in-returns-in-Pick-clause-gives g t c =
    let g = rw (c.deref-in-Pick.ensures, c.deref-in-Pick-2.ensures) at c.pick_in.ensures.gives in
    rw c.in-Pick.is g

pub compile_in-returns-in-Slice-clause-gives : goal.compile_in-returns-in-Slice-clause-gives
compile_in-returns-in-Slice-clause-gives g t c =
    let same : to_z w32 (of_z w32 c.in-Slice.low) ≡ c.in-Slice.low = to_z-of_z w32 c.in-Slice.low (search rules) in
    let g = rw (c.deref-in-Slice.ensures, same) at c.slice_in.ensures.gives in
    rw c.in-Slice.is g

pub compile_in-returns-in-Un-clause-gives : goal.compile_in-returns-in-Un-clause-gives
compile_in-returns-in-Un-clause-gives g t c =
    let g = rw c.deref-in-Un.ensures at c.unary_in.ensures.gives in
    rw c.in-Un.is g

pub compile_in-returns-in-Bin-clause-gives : goal.compile_in-returns-in-Bin-clause-gives
compile_in-returns-in-Bin-clause-gives g t c =
    let g = rw (c.deref-in-Bin.ensures, c.deref-in-Bin-2.ensures) at c.binary_in.ensures.gives in
    rw c.in-Bin.is g

pub compile_in-returns-in-Cond-clause-gives : goal.compile_in-returns-in-Cond-clause-gives
compile_in-returns-in-Cond-clause-gives g t c =
    let g = rw (c.deref-in-Cond.ensures, c.deref-in-Cond-2.ensures, c.deref-in-Cond-3.ensures) at c.choice_in.ensures.gives in
    rw c.in-Cond.is g

pub compile_in-returns-in-Cat-clause-gives : goal.compile_in-returns-in-Cat-clause-gives
compile_in-returns-in-Cat-clause-gives g t c =
    let g = rw c.deref-in-Cat.ensures.value at c.joined_in.ensures.gives in
    rw (cat-of c.args.e.now c.in-Cat.parts c.in-Cat.is) g

pub compile_in-returns-in-Rep-clause-gives : goal.compile_in-returns-in-Rep-clause-gives
compile_in-returns-in-Rep-clause-gives g t c =
    let g = rw c.deref-in-Rep.ensures.value at c.repeated_in.ensures.gives in
    rw (rep-of c.args.e.now _ c.in-Rep.parts c.in-Rep.is) g

pub compile_in-returns-in-Cast-clause-gives : goal.compile_in-returns-in-Cast-clause-gives
compile_in-returns-in-Cast-clause-gives g t c =
    let g = rw c.deref-in-Cast.ensures at c.cast_in.ensures.gives in
    rw c.in-Cast.is (ok-gives c.cast_in.result _ _ (λ r h files. h files c.in-Cast.field-0) g)

pub compile_in-returns-in-Call-clause-gives : goal.compile_in-returns-in-Call-clause-gives
compile_in-returns-in-Call-clause-gives g t c =
    let g = rw c.deref-in-Call.ensures.value at c.call_in.ensures.gives in
    rw (call-of c.args.e.now _ c.in-Call.arguments c.in-Call.is) g

pub compile_in-returns-in-Time-clause-gives : goal.compile_in-returns-in-Time-clause-gives
compile_in-returns-in-Time-clause-gives g t c =
    rw c.in-Time.is (ok-gives c.read.result _ _ (λ r g files. time-compiles (scope_of c.args.self.now files) c.args.c (env_of c.args.at.now) _ (list_of c.args.cells.now) (list_of c.read.new.cells) r (resize-few (names_of c.args.self.now) (body_of c.args.self.now) 64 c.args.c.width) (rw c.in-Time.is at c.requires.wide) c.requires.fits g) c.read.ensures.gives)

pub compile_in-returns-in-Sys-clause-gives : goal.compile_in-returns-in-Sys-clause-gives
compile_in-returns-in-Sys-clause-gives g t c =
    rw c.in-Sys.is (ok-gives c.read-in-Sys.result _ _ (λ r g files. answer-compiles (scope_of c.args.self.now files) c.args.c (env_of c.args.at.now) _ (list_of c.args.cells.now) (list_of c.read-in-Sys.new.cells) r (resize-few (names_of c.args.self.now) (body_of c.args.self.now) 32 c.args.c.width) c.requires.fits g) c.read-in-Sys.ensures.gives)

pub own_in-compile_in-requires : goal.own_in-compile_in-requires
own_in-compile_in-requires g t c =
    let m : 6 * exp_size (exp_of c.args.e.now) + 1 ≡ t = c.decreases in
    let v = ap (λ (f : Form). f.width) c.form_of.ensures.value in
    λ κs lives. (falls-one _ t m, (lives, (c.requires.functions, (c.requires.expression, (no-wider _ _ v, (c.form_of.ensures.width.narrow, c.requires.fits))))))

pub word_in-own_in-requires : goal.word_in-own_in-requires
word_in-own_in-requires g t c =
    let m : 6 * exp_size (exp_of c.args.a.now) + 3 ≡ t = c.decreases in
    λ κs lives. (falls-own _ t m, (lives, (c.requires.functions, (c.requires.expression, c.requires.fits))))

pub pick_in-own_in-requires : goal.pick_in-own_in-requires
pick_in-own_in-requires g t c =
    let m : 6 * (exp_size (exp_of c.args.base.now) + exp_size (exp_of c.args.index.now)) + 3 ≡ t = c.decreases in
    λ κs lives. (falls-own-first _ _ t m, (lives, (c.requires.functions, (c.requires.base, c.requires.fits))))

pub pick_in-own_in-requires-2 : goal.pick_in-own_in-requires-2
pick_in-own_in-requires-2 g t c =
    let m : 6 * (exp_size (exp_of c.args.base.now) + exp_size (exp_of c.args.index.now)) + 3 ≡ t = c.decreases in
    λ κs lives. (falls-own-second _ _ t m, (lives, (c.requires.functions, (c.requires.index, fits-stays (names_of c.args.self.now) (list_of c.args.cells.now) (list_of c.own_in.new.cells) (env_of c.args.at.now) c.in_ok-base.ensures.grows c.requires.fits))))

pub slice_in-own_in-requires : goal.slice_in-own_in-requires
slice_in-own_in-requires g t c =
    let m : 6 * exp_size (exp_of c.args.base.now) + 3 ≡ t = c.decreases in
    λ κs lives. (falls-own _ t m, (lives, (c.requires.functions, (c.requires.base, c.requires.fits))))

pub unary_in-compile_in-requires : goal.unary_in-compile_in-requires
unary_in-compile_in-requires g t c =
    let m : 6 * exp_size (exp_of c.args.a.now) + 3 ≡ t = c.decreases in
    let f = form-width (names_of c.args.self.now) (exp_of c.args.a.now) c.requires.expression in
    let wide = rw c.form_of.ensures.value at (c.operand_form-form.ensures.wide (rw c.form_of.ensures.value c.requires.wide)) in
    let narrow = c.operand_form-form.ensures.narrow (rw c.form_of.ensures.value f.narrow) c.requires.context.narrow in
    λ κs lives. (falls-in _ t m, (lives, (c.requires.functions, (c.requires.expression, (wide, (narrow, c.requires.fits))))))

pub binary_in-compile_in-requires : goal.binary_in-compile_in-requires
binary_in-compile_in-requires g t c =
    let m : 6 * (exp_size (exp_of c.args.a.now) + exp_size (exp_of c.args.b.now)) + 3 ≡ t = c.decreases in
    let n = names_of c.args.self.now in
    let f = form-width n (exp_of c.args.a.now) c.requires.first in
    let h = form-width n (exp_of c.args.b.now) c.requires.second in
    let i = c.form_of-first.ensures.value in
    let j = c.form_of-second.ensures.value in
    let wide = rw i at (c.left_form-left.ensures.wide (rw (i, j) c.requires.wide)) in
    let narrow = c.left_form-left.ensures.narrow (rw i f.narrow) (rw j h.narrow) c.requires.context.narrow in
    λ κs lives. (falls-first _ _ t m, (lives, (c.requires.functions, (c.requires.first, (wide, (narrow, c.requires.fits))))))

pub binary_in-compile_in-requires-2 : goal.binary_in-compile_in-requires-2
binary_in-compile_in-requires-2 g t c =
    let m : 6 * (exp_size (exp_of c.args.a.now) + exp_size (exp_of c.args.b.now)) + 3 ≡ t = c.decreases in
    let n = names_of c.args.self.now in
    let f = form-width n (exp_of c.args.a.now) c.requires.first in
    let h = form-width n (exp_of c.args.b.now) c.requires.second in
    let i = c.form_of-first.ensures.value in
    let j = c.form_of-second.ensures.value in
    let wide = rw j at (c.right_form-right.ensures.wide (rw (i, j) c.requires.wide)) in
    let narrow = c.right_form-right.ensures.narrow (rw i f.narrow) (rw j h.narrow) c.requires.context.narrow in
    let fits = fits-stays n (list_of c.args.cells.now) (list_of c.compile_in.new.cells) (env_of c.args.at.now) c.in_ok-a.ensures.grows c.requires.fits in
    λ κs lives. (falls-second _ _ t m, (lives, (c.requires.functions, (c.requires.second, (wide, (narrow, fits))))))

pub choice_in-own_in-requires : goal.choice_in-own_in-requires
choice_in-own_in-requires g t c =
    let m : 6 * (exp_size (exp_of c.args.test.now) + (exp_size (exp_of c.args.a.now) + exp_size (exp_of c.args.b.now))) + 3 ≡ t = c.decreases in
    λ κs lives. (falls-own-first _ _ t m, (lives, (c.requires.functions, (c.requires.test, c.requires.fits))))

pub choice_in-compile_in-requires : goal.choice_in-compile_in-requires
choice_in-compile_in-requires g t c =
    let m : 6 * (exp_size (exp_of c.args.test.now) + (exp_size (exp_of c.args.a.now) + exp_size (exp_of c.args.b.now))) + 3 ≡ t = c.decreases in
    let fits = fits-stays (names_of c.args.self.now) (list_of c.args.cells.now) (list_of c.own_in.new.cells) (env_of c.args.at.now) c.in_ok-test.ensures.grows c.requires.fits in
    λ κs lives. (falls-middle _ _ _ t m, (lives, (c.requires.functions, (c.requires.first, (c.requires.first_wide, (c.requires.context.narrow, fits))))))

pub choice_in-compile_in-requires-2 : goal.choice_in-compile_in-requires-2
choice_in-compile_in-requires-2 g t c =
    let m : 6 * (exp_size (exp_of c.args.test.now) + (exp_size (exp_of c.args.a.now) + exp_size (exp_of c.args.b.now))) + 3 ≡ t = c.decreases in
    let fits = fits-stays (names_of c.args.self.now) (list_of c.args.cells.now) (list_of c.compile_in.new.cells) (env_of c.args.at.now) (grows-then (list_of c.args.cells.now) (list_of c.own_in.new.cells) (list_of c.compile_in.new.cells) c.in_ok-test.ensures.grows c.in_ok-a.ensures.grows) c.requires.fits in
    λ κs lives. (falls-last _ _ _ t m, (lives, (c.requires.functions, (c.requires.second, (c.requires.second_wide, (c.requires.context.narrow, fits))))))

pub parts_in-wide_in-requires : goal.parts_in-wide_in-requires
parts_in-wide_in-requires g t c =
    let m : 6 * exps_size (exps_of c.args.parts.now) + 4 ≡ t = c.decreases in
    let n = names_of c.args.self.now in
    let l = c.loop-part.invariant in
    let p = exp-part c.args.parts.now c.loop-part.part-index c.part-item.result c.loop-part-test.true c.part-item.is in
    let e = exps-more c.args.parts.now c.loop-part.part-index c.part-item.result c.loop-part-test.true c.part-item.is in
    let h = rw e at l.sound in
    let width = rw e at (l.sided []).width in
    let narrow = c.requires.narrow in
    let before = c.bits_before.ensures in
    λ κs lives. (omega arith, (lives, (c.requires.functions, (h.0, (omega (arith, width, narrow, before), l.fits)))))

pub joined_in-parts_in-requires : goal.joined_in-parts_in-requires
joined_in-parts_in-requires g t c =
    let m : 6 * exps_size (exps_of c.args.parts.now) + 5 ≡ t = c.decreases in
    let w = c.requires.wide in
    let n = c.requires.context.narrow in
    λ κs lives. (falls-list _ t m, (lives, (c.requires.functions, (c.requires.sound, (c.requires.some, (within _ _ w n, c.requires.fits))))))

pub cast_in-own_in-requires : goal.cast_in-own_in-requires
cast_in-own_in-requires g t c =
    let m : 6 * exp_size (exp_of c.args.a.now) + 3 ≡ t = c.decreases in
    λ κs lives. (falls-own _ t m, (lives, (c.requires.functions, (c.requires.expression, c.requires.fits))))

pub argument_in-compile_in-requires : goal.argument_in-compile_in-requires
argument_in-compile_in-requires g t c =
    let m : 6 * exp_size (exp_of c.args.e.now) + 1 ≡ t = c.decreases in
    let i = ap (λ (f : Form). f.width) c.form_of.ensures.value in
    let a = ap (λ (f : Form). f.width) c.assigned-context.ensures in
    let v = c.signal_form-width.ensures.width.narrow in
    let w = c.form_of.ensures.width.narrow in
    λ κs lives. (falls-one _ t m, (lives, (c.requires.functions, (c.requires.expression, (omega (arith, i, a), (omega (arith, a, v, w), c.requires.fits))))))

pub arguments_in-argument_in-requires : goal.arguments_in-argument_in-requires
arguments_in-argument_in-requires g t c =
    let m : 6 * exps_size (exps_of c.args.arguments.now) + 2 ≡ t = c.decreases in
    let n = names_of c.args.self.now in
    let i = c.loop-number.number in
    let l = c.loop-number.invariant in
    let x = c.index-arguments-number.result in
    let p = exp-part c.args.arguments.now i x c.loop-number-test.true c.index-arguments-number.is in
    let e = exps-more c.args.arguments.now i x c.loop-number-test.true c.index-arguments-number.is in
    let h = rw e at l.sound in
    let ks = c.args.func.now.inputs in
    let many = c.requires.many in
    let count = many-count c.args.arguments.now in
    let below = c.loop-number-test.true in
    let lt : i < length ks = omega (arith, many, count, below) in
    let own = input-at (λ q. length n.signals ≤ q) ks i c.requires.own.inputs lt in
    let first = l.first in
    rw c.as_slice-inputs.ensures (λ κs lives. (omega arith, (lives, (c.requires.functions, (h.0, (c.requires.function, (c.requires.own, (input-at (IsSignal (names_in n (fun_of c.args.func.now))) ks i c.requires.function.inputs lt, (omega (arith, own, first), (l.inside, l.fits))))))))))

pub call_in-arguments_in-requires : goal.call_in-arguments_in-requires
call_in-arguments_in-requires g t c =
    let m : 6 * exps_size (exps_of c.args.arguments.now) + 3 ≡ t = c.decreases in
    let n = names_of c.args.self.now in
    let room = c.args.self.now.room in
    let value = c.index-self-function.result in
    let func = fun_of (get_or room.funcs.now c.args.function value) in
    let there = function-at room c.args.function _ value c.requires.there in
    let fits = fits-stays n (list_of c.args.cells.now) (list_of c.begin.new.cells) (env_of c.args.at.now) c.in_ok-body.ensures.grows c.requires.fits in
    λ κs lives. (
      falls-arguments _ t m,
      (
        lives,
        (
          c.requires.functions,
          (
            c.requires.sound,
            (
              takes-many _ func _ there c.requires.there,
              (
                all-at (IsSoundFun n) n.funs c.args.function func c.requires.functions.sound there,
                (all-at (IsCellFun n) n.funs c.args.function func c.requires.functions.cells there, (begun-first room _ c.in_ok-body.ensures.first, (c.in_ok-body.ensures.begins.fits, fits))),
              ),
            ),
          ),
        ),
      ),
    )

pub compile_in-word_in-requires : goal.compile_in-word_in-requires
compile_in-word_in-requires g t c =
    let is = c.in-Word.is in
    let m = rw is at c.decreases in
    let s = rw is at c.requires.expression in
    let f = (form-width (names_of c.args.self.now) (exp_of c.args.e.now) c.requires.expression).wide in
    let wide = c.requires.wide in
    let context : IsWidth c.args.c.width = record { wide = has-bit _ _ f wide; narrow = c.requires.narrow } in
    rw c.deref.ensures (λ κs lives. (falls-node _ t m, (lives, (c.requires.functions, (s.0, (s.1, (context, c.requires.fits)))))))

pub compile_in-pick_in-requires : goal.compile_in-pick_in-requires
compile_in-pick_in-requires g t c =
    let is = c.in-Pick.is in
    let m = rw is at c.decreases in
    let s = rw is at c.requires.expression in
    let w = rw is at c.requires.wide in
    let f = (form-width (names_of c.args.self.now) (exp_of c.args.e.now) c.requires.expression).wide in
    let wide = c.requires.wide in
    let context : IsWidth c.args.c.width = record { wide = has-bit _ _ f wide; narrow = c.requires.narrow } in
    rw (c.deref-in-Pick.ensures, c.deref-in-Pick-2.ensures) (λ κs lives. (falls-node _ t m, (lives, (c.requires.functions, (s.1, (s.2, (s.0.wide, (w, (context, c.requires.fits)))))))))

pub compile_in-slice_in-requires : goal.compile_in-slice_in-requires
compile_in-slice_in-requires g t c =
    let is = c.in-Slice.is in
    let m = rw is at c.decreases in
    let s = rw is at c.requires.expression in
    let w = rw is at c.requires.wide in
    let f = (form-width (names_of c.args.self.now) (exp_of c.args.e.now) c.requires.expression).wide in
    let wide = c.requires.wide in
    let context : IsWidth c.args.c.width = record { wide = has-bit _ _ f wide; narrow = c.requires.narrow } in
    rw c.deref-in-Slice.ensures (λ κs lives. (falls-node _ t m, (lives, (c.requires.functions, (s.1, (s.0.wide, (w, (context, c.requires.fits))))))))

pub compile_in-unary_in-requires : goal.compile_in-unary_in-requires
compile_in-unary_in-requires g t c =
    let is = c.in-Un.is in
    let m = rw is at c.decreases in
    let s = rw is at c.requires.expression in
    let w = rw is at c.requires.wide in
    let f = (form-width (names_of c.args.self.now) (exp_of c.args.e.now) c.requires.expression).wide in
    let wide = c.requires.wide in
    let context : IsWidth c.args.c.width = record { wide = has-bit _ _ f wide; narrow = c.requires.narrow } in
    rw c.deref-in-Un.ensures (λ κs lives. (falls-node _ t m, (lives, (c.requires.functions, (s, (w, (context, c.requires.fits)))))))

pub compile_in-binary_in-requires : goal.compile_in-binary_in-requires
compile_in-binary_in-requires g t c =
    let is = c.in-Bin.is in
    let m = rw is at c.decreases in
    let s = rw is at c.requires.expression in
    let w = rw is at c.requires.wide in
    let f = (form-width (names_of c.args.self.now) (exp_of c.args.e.now) c.requires.expression).wide in
    let wide = c.requires.wide in
    let context : IsWidth c.args.c.width = record { wide = has-bit _ _ f wide; narrow = c.requires.narrow } in
    rw (c.deref-in-Bin.ensures, c.deref-in-Bin-2.ensures) (λ κs lives. (falls-node _ t m, (lives, (c.requires.functions, (s.0, (s.1, (w, (context, c.requires.fits))))))))

pub compile_in-choice_in-requires : goal.compile_in-choice_in-requires
compile_in-choice_in-requires g t c =
    let is = c.in-Cond.is in
    let m = rw is at c.decreases in
    let s = rw is at c.requires.expression in
    let w = rw is at c.requires.wide in
    let f = (form-width (names_of c.args.self.now) (exp_of c.args.e.now) c.requires.expression).wide in
    let wide = c.requires.wide in
    let context : IsWidth c.args.c.width = record { wide = has-bit _ _ f wide; narrow = c.requires.narrow } in
    rw (c.deref-in-Cond.ensures, c.deref-in-Cond-2.ensures, c.deref-in-Cond-3.ensures) (λ κs lives. (falls-node _ t m, (lives, (c.requires.functions, (s.0, (s.1, (s.2, (omega (arith, w), (omega (arith, w), (context, c.requires.fits))))))))))

pub compile_in-joined_in-requires : goal.compile_in-joined_in-requires
compile_in-joined_in-requires g t c =
    let is = cat-of c.args.e.now c.in-Cat.parts c.in-Cat.is in
    let m = rw is at c.decreases in
    let s = rw is at c.requires.expression in
    let w = rw is at c.requires.wide in
    let f = (form-width (names_of c.args.self.now) (exp_of c.args.e.now) c.requires.expression).wide in
    let wide = c.requires.wide in
    let context : IsWidth c.args.c.width = record { wide = has-bit _ _ f wide; narrow = c.requires.narrow } in
    rw c.deref-in-Cat.ensures.value (λ κs lives. (falls-parts _ t m, (lives, (c.requires.functions, (s.1, (s.0.wide, (w, (context, c.requires.fits))))))))

pub compile_in-repeated_in-requires : goal.compile_in-repeated_in-requires
compile_in-repeated_in-requires g t c =
    let is = rep-of c.args.e.now _ c.in-Rep.parts c.in-Rep.is in
    let m = rw is at c.decreases in
    let s = rw is at c.requires.expression in
    let w = rw is at c.requires.wide in
    let f = (form-width (names_of c.args.self.now) (exp_of c.args.e.now) c.requires.expression).wide in
    let wide = c.requires.wide in
    let context : IsWidth c.args.c.width = record { wide = has-bit _ _ f wide; narrow = c.requires.narrow } in
    rw c.deref-in-Rep.ensures.value (λ κs lives. (falls-parts _ t m, (lives, (c.requires.functions, (s.1, (s.0.wide, (w, (context, c.requires.fits))))))))

pub compile_in-cast_in-requires : goal.compile_in-cast_in-requires
compile_in-cast_in-requires g t c =
    let is = c.in-Cast.is in
    let m = rw is at c.decreases in
    let s = rw is at c.requires.expression in
    let f = (form-width (names_of c.args.self.now) (exp_of c.args.e.now) c.requires.expression).wide in
    let wide = c.requires.wide in
    let context : IsWidth c.args.c.width = record { wide = has-bit _ _ f wide; narrow = c.requires.narrow } in
    rw c.deref-in-Cast.ensures (λ κs lives. (falls-node _ t m, (lives, (c.requires.functions, (s, (context, c.requires.fits))))))

pub compile_in-call_in-requires : goal.compile_in-call_in-requires
compile_in-call_in-requires g t c =
    let is = call-of c.args.e.now _ c.in-Call.arguments c.in-Call.is in
    let m = rw is at c.decreases in
    let s = rw is at c.requires.expression in
    let f = (form-width (names_of c.args.self.now) (exp_of c.args.e.now) c.requires.expression).wide in
    let wide = c.requires.wide in
    let context : IsWidth c.args.c.width = record { wide = has-bit _ _ f wide; narrow = c.requires.narrow } in
    rw c.deref-in-Call.ensures.value (λ κs lives. (falls-node _ t m, (lives, (c.requires.functions, (s.0, (s.2, (context, c.requires.fits)))))))

pub extended_in-returns-then-more-eq0-clause-gives : goal.extended_in-returns-then-more-eq0-clause-gives
extended_in-returns-then-more-eq0-clause-gives g t c =
    ok-gives c.own_in.result _ _
    (λ r h files. wide-none (scope_of c.args.self.now files) (body_of c.args.self.now) c.args.more (env_of c.args.at.now) (exp_of c.args.e.now) (list_of c.args.cells.now) (list_of c.own_in.new.cells) r c.if-more-eq0.true (h files))
    c.own_in.ensures.gives

pub extended_in-own_in-requires : goal.extended_in-own_in-requires
extended_in-own_in-requires g t c =
    let m : 6 * exp_size (exp_of c.args.e.now) + 2 ≡ t = c.decreases in
    λ κs lives. (falls-two _ t m, (lives, (c.requires.functions, (c.requires.expression, c.requires.fits))))

pub extended_in-returns-then-is_plain-clause-gives : goal.extended_in-returns-then-is_plain-clause-gives
extended_in-returns-then-is_plain-clause-gives g t c =
    let n = names_of c.args.self.now in
    let body = body_of c.args.self.now in
    let e = exp_of c.args.e.now in
    let at = env_of c.args.at.now in
    let l0 = list_of c.args.cells.now in
    let l1 = list_of c.compile_in.new.cells in
    let w = ap (λ (f : Form). f.width) c.form_of.ensures.value in
    let from = c.from.ensures in
    let width : c.form_of.result.width + c.from.result ≡ (form n e).width + c.args.more = same-sum _ _ _ _ w from in
    let context : c.unsigned.result ≡ unsigned ((form n e).width + c.args.more) = c.unsigned.ensures ∙ ap unsigned width in
    let plain : is_plain e ≡ true = sym c.is_plain.ensures ∙ c.if-is_plain.true in
    ok-gives c.compile_in.result _ _
    (λ r h files. wide-at-once (scope_of c.args.self.now files) body c.args.more at e l0 l1 r c.if-more-eq0.false plain c.requires.expression
    (subst (λ (f : Form). Compiles n (scope_of c.args.self.now files) (in_count n body f.width e) e f at l0 l1 r) context (h files)))
    c.compile_in.ensures.gives

pub extended_in-read-requires-clause-there : goal.extended_in-read-requires-clause-there
extended_in-read-requires-clause-there g t c = (c.in_ok-slot.ensures.gives []).slot.there

pub extended_in-returns-clause-gives : goal.extended_in-returns-clause-gives
extended_in-returns-clause-gives g t c =
    let n = names_of c.args.self.now in
    let body = body_of c.args.self.now in
    let e = exp_of c.args.e.now in
    let at = env_of c.args.at.now in
    let l0 = list_of c.args.cells.now in
    let l1 = list_of c.own_in-2.new.cells in
    let l2 = list_of c.read.new.cells in
    let a = c.in_ok-slot.slot in
    let w = ap (λ (f : Form). f.width) c.form_of.ensures.value in
    let from = c.from.ensures in
    let width : c.form_of.result.width + c.from.result ≡ (form n e).width + c.args.more = same-sum _ _ _ _ w from in
    let plain : is_plain e ≡ false = sym c.is_plain.ensures ∙ c.if-is_plain.false in
    ok-gives c.read.result _ _
    (λ r h files. wide-behind (scope_of c.args.self.now files) body c.args.more at e l0 l1 l2 a r c.if-more-eq0.false plain c.requires.own c.requires.fits (c.in_ok-slot.ensures.gives files)
    (subst (λ z. Gives Nothing (resizes (width_at l1 a) z) l1 l2 r z (λ b. resized false (width_at l1 a) z (held b l1 a))) width h))
    c.read.ensures.gives

pub wide_in-returns-in-Cast-clause-gives : goal.wide_in-returns-in-Cast-clause-gives
wide_in-returns-in-Cast-clause-gives g t c =
    let h = rw c.deref.ensures at c.wide_in.ensures.gives in
    rw c.in-Cast.is
    (ok-gives c.wide_in.result _ _
    (λ r k files. wide-cast (scope_of c.args.self.now files) (body_of c.args.self.now) c.args.more (env_of c.args.at.now) c.in-Cast.field-0 (exp_of c.in-Cast.a.value) (list_of c.args.cells.now) (list_of c.wide_in.new.cells) r (k files))
    h)

pub repeated_in-repeat-requires-clause-there : goal.repeated_in-repeat-requires-clause-there
repeated_in-repeat-requires-clause-there g t c = (c.in_ok-all.ensures.gives []).slot.there

pub repeated_in-repeat-requires-clause-own : goal.repeated_in-repeat-requires-clause-own
repeated_in-repeat-requires-clause-own g t c =
    let w = (holds-plain (names_of c.args.self.now) (env_of c.args.at.now) (parts_own (body_of c.args.self.now) (exps_of c.args.parts.now)) (total_width (names_of c.args.self.now) (exps_of c.args.parts.now)) (list_of c.args.cells.now) (list_of c.parts_in.new.cells) c.in_ok-all.all _ (c.in_ok-all.ensures.gives [])).slot.width in
    rw w c.requires.some

pub repeated_in-repeat-requires-clause-own_narrow : goal.repeated_in-repeat-requires-clause-own_narrow
repeated_in-repeat-requires-clause-own_narrow g t c =
    let w = (holds-plain (names_of c.args.self.now) (env_of c.args.at.now) (parts_own (body_of c.args.self.now) (exps_of c.args.parts.now)) (total_width (names_of c.args.self.now) (exps_of c.args.parts.now)) (list_of c.args.cells.now) (list_of c.parts_in.new.cells) c.in_ok-all.all _ (c.in_ok-all.ensures.gives [])).slot.width in
    let wide = c.requires.wide in
    let narrow = c.requires.context.narrow in
    rw w (omega (arith, wide, narrow))

pub repeated_in-repeat-requires-clause-few : goal.repeated_in-repeat-requires-clause-few
repeated_in-repeat-requires-clause-few g t c =
    let w = (c.in_ok-all.ensures.gives []).slot.width in
    let own = c.parts_width-own.ensures in
    elim c.then-count-le2.branch [
      | repeated_in-then-count-le2-via-then-count-le2 k ↦ λ h. absurd (let le = k.if-count-le2.true in omega (arith, le, h))
      | repeated_in-then-count-le2-via-else-count-le2+then-own-eq1 k ↦ λ h. (let one = k.if-own-eq1.true in omega (arith, one, own, w))
    ]

pub repeated_in-returns-then-count-le2-clause-gives : goal.repeated_in-returns-then-count-le2-clause-gives
repeated_in-returns-then-count-le2-clause-gives g t c =
    let n = names_of c.args.self.now in
    let body = body_of c.args.self.now in
    let es = exps_of c.args.parts.now in
    let at = env_of c.args.at.now in
    let l0 = list_of c.args.cells.now in
    let l1 = list_of c.parts_in.new.cells in
    ok-gives c.repeat.result _ (AreGiven (names_of c.args.self.now) (scope_of c.args.self.now) (body_of c.args.self.now) c.args.c (Rep c.args.count (exps_of c.args.parts.now)) (env_of c.args.at.now) (list_of c.args.cells.now) (list_of c.repeat.new.cells))
    (λ r h files. rep-compiles (scope_of c.args.self.now files) c.args.c at (parts_own body es) (in_count n body c.args.c.width (Rep c.args.count es)) c.args.count
    es l0 l1 (list_of c.repeat.new.cells) c.in_ok-all.all r (rep-few n body c.args.count es c.args.c.width) c.requires.wide c.requires.fits
    (holds-plain n at (parts_own body es) (total_width n es) l0 l1 c.in_ok-all.all _ (c.in_ok-all.ensures.gives files)) h)
    c.repeat.ensures.gives

pub repeated_in-multiply-requires-clause-there : goal.repeated_in-multiply-requires-clause-there
repeated_in-multiply-requires-clause-there g t c = (c.in_ok-all-2.ensures.gives []).slot.there

pub repeated_in-multiply-requires-clause-fits : goal.repeated_in-multiply-requires-clause-fits
repeated_in-multiply-requires-clause-fits g t c =
    let n = names_of c.args.self.now in
    let es = exps_of c.args.parts.now in
    let w = (c.in_ok-all-2.ensures.gives []).slot.width in
    let own = c.parts_width-own.ensures in
    let some = c.requires.some in
    let wide = c.requires.wide in
    let few = part-fits c.args.count (total_width n es) c.args.c.width some wide in
    let all = ap (λ z. c.args.count * z) own in
    omega (arith, w, own, wide, few, all)

pub repeated_in-multiply-requires-clause-narrow : goal.repeated_in-multiply-requires-clause-narrow
repeated_in-multiply-requires-clause-narrow g t c =
    let n = names_of c.args.self.now in
    let es = exps_of c.args.parts.now in
    let w = (c.in_ok-all-2.ensures.gives []).slot.width in
    let own = c.parts_width-own.ensures in
    let narrow = c.requires.context.narrow in
    let few = part-fits c.args.count (total_width n es) c.args.c.width c.requires.some c.requires.wide in
    omega (arith, w, own, narrow, few)

pub repeated_in-returns-clause-gives : goal.repeated_in-returns-clause-gives
repeated_in-returns-clause-gives g t c =
    let n = names_of c.args.self.now in
    let body = body_of c.args.self.now in
    let es = exps_of c.args.parts.now in
    let at = env_of c.args.at.now in
    let l0 = list_of c.args.cells.now in
    let l1 = list_of c.parts_in-2.new.cells in
    let own = c.parts_width-own.ensures in
    let few = part-fits c.args.count (total_width n es) c.args.c.width c.requires.some c.requires.wide in
    let width : total_width n es + (c.args.c.width - c.parts_width-own.result) ≡ c.args.c.width = omega (arith, own, few) in
    ok-gives c.multiply.result _ (AreGiven (names_of c.args.self.now) (scope_of c.args.self.now) (body_of c.args.self.now) c.args.c (Rep c.args.count (exps_of c.args.parts.now)) (env_of c.args.at.now) (list_of c.args.cells.now) (list_of c.multiply.new.cells))
    (λ r h files. rep-multiplies (scope_of c.args.self.now files) c.args.c at (parts_wide body es) (in_count n body c.args.c.width (Rep c.args.count es)) c.args.count c.parts_width-own.result
    es l0 l1 (list_of c.multiply.new.cells) c.in_ok-all-2.all r (rep-many n body c.args.count es c.args.c.width) own c.requires.wide c.requires.fits
    (parts-extended n body (c.args.c.width - c.parts_width-own.result) at es l0 l1 c.in_ok-all-2.all c.args.c.width _ width (c.in_ok-all-2.ensures.gives files)) h)
    c.multiply.ensures.gives

pub own_in-returns-clause-grows : goal.own_in-returns-clause-grows
own_in-returns-clause-grows g t c = c.compile_in.ensures.grows

pub word_in-returns-in_err-address-clause-grows : goal.word_in-returns-in_err-address-clause-grows
word_in-returns-in_err-address-clause-grows g t c = c.own_in.ensures.grows

pub word_in-returns-clause-grows : goal.word_in-returns-clause-grows
word_in-returns-clause-grows g t c =
    let l0 = list_of c.args.cells.now in
    let l1 = list_of c.own_in.new.cells in
    let l2 = list_of c.read_word.new.cells in
    grows-then l0 l1 l2 c.in_ok-address.ensures.grows c.read_word.ensures.grows

pub pick_in-returns-in_err-base-clause-grows : goal.pick_in-returns-in_err-base-clause-grows
pick_in-returns-in_err-base-clause-grows g t c = c.own_in.ensures.grows

pub pick_in-returns-in_err-index-clause-grows : goal.pick_in-returns-in_err-index-clause-grows
pick_in-returns-in_err-index-clause-grows g t c =
    let l0 = list_of c.args.cells.now in
    let l1 = list_of c.own_in.new.cells in
    let l2 = list_of c.own_in-2.new.cells in
    grows-then l0 l1 l2 c.in_ok-base.ensures.grows c.own_in-2.ensures.grows

pub pick_in-returns-clause-grows : goal.pick_in-returns-clause-grows
pick_in-returns-clause-grows g t c =
    let l0 = list_of c.args.cells.now in
    let l1 = list_of c.own_in.new.cells in
    let l2 = list_of c.own_in-2.new.cells in
    let l3 = list_of c.select.new.cells in
    grows-then l0 l1 l3 c.in_ok-base.ensures.grows (grows-then l1 l2 l3 c.in_ok-index.ensures.grows c.select.ensures.grows)

pub slice_in-returns-in_err-base-clause-grows : goal.slice_in-returns-in_err-base-clause-grows
slice_in-returns-in_err-base-clause-grows g t c = c.own_in.ensures.grows

pub slice_in-returns-clause-grows : goal.slice_in-returns-clause-grows
slice_in-returns-clause-grows g t c =
    let l0 = list_of c.args.cells.now in
    let l1 = list_of c.own_in.new.cells in
    let l2 = list_of c.slice.new.cells in
    grows-then l0 l1 l2 c.in_ok-base.ensures.grows c.slice.ensures.grows

pub unary_in-returns-in_err-a-clause-grows : goal.unary_in-returns-in_err-a-clause-grows
unary_in-returns-in_err-a-clause-grows g t c = c.compile_in.ensures.grows

pub unary_in-returns-clause-grows : goal.unary_in-returns-clause-grows
unary_in-returns-clause-grows g t c =
    let l0 = list_of c.args.cells.now in
    let l1 = list_of c.compile_in.new.cells in
    let l2 = list_of c.operate.new.cells in
    grows-then l0 l1 l2 c.in_ok-a.ensures.grows c.operate.ensures.grows

pub binary_in-returns-in_err-a-clause-grows : goal.binary_in-returns-in_err-a-clause-grows
binary_in-returns-in_err-a-clause-grows g t c = c.compile_in.ensures.grows

pub binary_in-returns-in_err-b-clause-grows : goal.binary_in-returns-in_err-b-clause-grows
binary_in-returns-in_err-b-clause-grows g t c =
    let l0 = list_of c.args.cells.now in
    let l1 = list_of c.compile_in.new.cells in
    let l2 = list_of c.compile_in-2.new.cells in
    grows-then l0 l1 l2 c.in_ok-a.ensures.grows c.compile_in-2.ensures.grows

pub binary_in-returns-clause-grows : goal.binary_in-returns-clause-grows
binary_in-returns-clause-grows g t c =
    let l0 = list_of c.args.cells.now in
    let l1 = list_of c.compile_in.new.cells in
    let l2 = list_of c.compile_in-2.new.cells in
    let l3 = list_of c.combine.new.cells in
    grows-then l0 l1 l3 c.in_ok-a.ensures.grows (grows-then l1 l2 l3 c.in_ok-b.ensures.grows c.combine.ensures.grows)

pub choice_in-returns-in_err-test-clause-grows : goal.choice_in-returns-in_err-test-clause-grows
choice_in-returns-in_err-test-clause-grows g t c = c.own_in.ensures.grows

pub choice_in-returns-in_err-a-clause-grows : goal.choice_in-returns-in_err-a-clause-grows
choice_in-returns-in_err-a-clause-grows g t c =
    let l0 = list_of c.args.cells.now in
    let l1 = list_of c.own_in.new.cells in
    let l2 = list_of c.compile_in.new.cells in
    grows-then l0 l1 l2 c.in_ok-test.ensures.grows c.compile_in.ensures.grows

pub choice_in-returns-in_err-b-clause-grows : goal.choice_in-returns-in_err-b-clause-grows
choice_in-returns-in_err-b-clause-grows g t c =
    let l0 = list_of c.args.cells.now in
    let l1 = list_of c.own_in.new.cells in
    let l2 = list_of c.compile_in.new.cells in
    let l3 = list_of c.compile_in-2.new.cells in
    grows-then l0 l1 l3 c.in_ok-test.ensures.grows (grows-then l1 l2 l3 c.in_ok-a.ensures.grows c.compile_in-2.ensures.grows)

pub choice_in-returns-clause-grows : goal.choice_in-returns-clause-grows
choice_in-returns-clause-grows g t c =
    let l0 = list_of c.args.cells.now in
    let l1 = list_of c.own_in.new.cells in
    let l2 = list_of c.compile_in.new.cells in
    let l3 = list_of c.compile_in-2.new.cells in
    let l4 = list_of c.choose.new.cells in
    grows-then l0 l1 l4 c.in_ok-test.ensures.grows (grows-then l1 l2 l4 c.in_ok-a.ensures.grows (grows-then l2 l3 l4 c.in_ok-b.ensures.grows c.choose.ensures.grows))

pub extended_in-returns-then-more-eq0-clause-grows : goal.extended_in-returns-then-more-eq0-clause-grows
extended_in-returns-then-more-eq0-clause-grows g t c = c.own_in.ensures.grows

pub extended_in-returns-then-is_plain-clause-grows : goal.extended_in-returns-then-is_plain-clause-grows
extended_in-returns-then-is_plain-clause-grows g t c = c.compile_in.ensures.grows

pub extended_in-returns-in_err-slot-clause-grows : goal.extended_in-returns-in_err-slot-clause-grows
extended_in-returns-in_err-slot-clause-grows g t c = c.own_in-2.ensures.grows

pub extended_in-returns-clause-grows : goal.extended_in-returns-clause-grows
extended_in-returns-clause-grows g t c =
    let l0 = list_of c.args.cells.now in
    let l1 = list_of c.own_in-2.new.cells in
    let l2 = list_of c.read.new.cells in
    grows-then l0 l1 l2 c.in_ok-slot.ensures.grows c.read.ensures.grows

pub joined_in-returns-in_err-all-clause-grows : goal.joined_in-returns-in_err-all-clause-grows
joined_in-returns-in_err-all-clause-grows g t c = c.parts_in.ensures.grows

pub joined_in-returns-clause-grows : goal.joined_in-returns-clause-grows
joined_in-returns-clause-grows g t c =
    let l0 = list_of c.args.cells.now in
    let l1 = list_of c.parts_in.new.cells in
    let l2 = list_of c.read.new.cells in
    grows-then l0 l1 l2 c.in_ok-all.ensures.grows c.read.ensures.grows

pub repeated_in-returns-in_err-all-clause-grows : goal.repeated_in-returns-in_err-all-clause-grows
repeated_in-returns-in_err-all-clause-grows g t c = c.parts_in.ensures.grows

pub repeated_in-returns-then-count-le2-clause-grows : goal.repeated_in-returns-then-count-le2-clause-grows
repeated_in-returns-then-count-le2-clause-grows g t c =
    let l0 = list_of c.args.cells.now in
    let l1 = list_of c.parts_in.new.cells in
    let l2 = list_of c.repeat.new.cells in
    grows-then l0 l1 l2 c.in_ok-all.ensures.grows c.repeat.ensures.grows

pub repeated_in-returns-in_err-all-2-clause-grows : goal.repeated_in-returns-in_err-all-2-clause-grows
repeated_in-returns-in_err-all-2-clause-grows g t c = c.parts_in-2.ensures.grows

pub repeated_in-returns-clause-grows : goal.repeated_in-returns-clause-grows
repeated_in-returns-clause-grows g t c =
    let l0 = list_of c.args.cells.now in
    let l1 = list_of c.parts_in-2.new.cells in
    let l2 = list_of c.multiply.new.cells in
    grows-then l0 l1 l2 c.in_ok-all-2.ensures.grows c.multiply.ensures.grows

pub cast_in-returns-in_err-a-clause-grows : goal.cast_in-returns-in_err-a-clause-grows
cast_in-returns-in_err-a-clause-grows g t c = c.own_in.ensures.grows

pub cast_in-returns-clause-grows : goal.cast_in-returns-clause-grows
cast_in-returns-clause-grows g t c =
    let l0 = list_of c.args.cells.now in
    let l1 = list_of c.own_in.new.cells in
    let l2 = list_of c.read.new.cells in
    grows-then l0 l1 l2 c.in_ok-a.ensures.grows c.read.ensures.grows

pub argument_in-returns-in_err-value-clause-grows : goal.argument_in-returns-in_err-value-clause-grows
argument_in-returns-in_err-value-clause-grows g t c = c.compile_in.ensures.grows

pub argument_in-returns-in_err-cut-clause-grows : goal.argument_in-returns-in_err-cut-clause-grows
argument_in-returns-in_err-cut-clause-grows g t c =
    let l0 = list_of c.args.cells.now in
    let l1 = list_of c.compile_in.new.cells in
    let l2 = list_of c.read.new.cells in
    grows-then l0 l1 l2 c.in_ok-value.ensures.grows c.read.ensures.grows

pub argument_in-returns-clause-grows : goal.argument_in-returns-clause-grows
argument_in-returns-clause-grows g t c =
    let l0 = list_of c.args.cells.now in
    let l1 = list_of c.compile_in.new.cells in
    let l2 = list_of c.read.new.cells in
    grows-then l0 l1 l2 c.in_ok-value.ensures.grows c.in_ok-cut.ensures.grows

pub call_in-returns-in_err-body-clause-grows : goal.call_in-returns-in_err-body-clause-grows
call_in-returns-in_err-body-clause-grows g t c = c.begin.ensures.grows

pub call_in-returns-in_err-arguments_in-clause-grows : goal.call_in-returns-in_err-arguments_in-clause-grows
call_in-returns-in_err-arguments_in-clause-grows g t c =
    let l0 = list_of c.args.cells.now in
    let l1 = list_of c.begin.new.cells in
    let l2 = list_of c.arguments_in.new.cells in
    grows-then l0 l1 l2 c.in_ok-body.ensures.grows c.arguments_in.ensures.grows

pub call_in-returns-then-self-eq0-clause-grows : goal.call_in-returns-then-self-eq0-clause-grows
call_in-returns-then-self-eq0-clause-grows g t c = c.nothing.ensures.grows

pub compile_in-returns-in-Num-clause-grows : goal.compile_in-returns-in-Num-clause-grows
compile_in-returns-in-Num-clause-grows g t c = c.number_in.ensures.grows

pub compile_in-returns-in-Label-clause-grows : goal.compile_in-returns-in-Label-clause-grows
compile_in-returns-in-Label-clause-grows g t c = c.number_in-in-Label.ensures.grows

pub compile_in-returns-in-Sig-clause-grows : goal.compile_in-returns-in-Sig-clause-grows
compile_in-returns-in-Sig-clause-grows g t c = c.read_signal.ensures.grows

pub compile_in-returns-in-Word-clause-grows : goal.compile_in-returns-in-Word-clause-grows
compile_in-returns-in-Word-clause-grows g t c = c.word_in.ensures.grows

pub compile_in-returns-in-Pick-clause-grows : goal.compile_in-returns-in-Pick-clause-grows
compile_in-returns-in-Pick-clause-grows g t c = c.pick_in.ensures.grows

pub compile_in-returns-in-Slice-clause-grows : goal.compile_in-returns-in-Slice-clause-grows
compile_in-returns-in-Slice-clause-grows g t c = c.slice_in.ensures.grows

pub compile_in-returns-in-Un-clause-grows : goal.compile_in-returns-in-Un-clause-grows
compile_in-returns-in-Un-clause-grows g t c = c.unary_in.ensures.grows

pub compile_in-returns-in-Bin-clause-grows : goal.compile_in-returns-in-Bin-clause-grows
compile_in-returns-in-Bin-clause-grows g t c = c.binary_in.ensures.grows

pub compile_in-returns-in-Cond-clause-grows : goal.compile_in-returns-in-Cond-clause-grows
compile_in-returns-in-Cond-clause-grows g t c = c.choice_in.ensures.grows

pub compile_in-returns-in-Cat-clause-grows : goal.compile_in-returns-in-Cat-clause-grows
compile_in-returns-in-Cat-clause-grows g t c = c.joined_in.ensures.grows

pub compile_in-returns-in-Rep-clause-grows : goal.compile_in-returns-in-Rep-clause-grows
compile_in-returns-in-Rep-clause-grows g t c = c.repeated_in.ensures.grows

pub compile_in-returns-in-Cast-clause-grows : goal.compile_in-returns-in-Cast-clause-grows
compile_in-returns-in-Cast-clause-grows g t c = c.cast_in.ensures.grows

pub compile_in-returns-in-Call-clause-grows : goal.compile_in-returns-in-Call-clause-grows
compile_in-returns-in-Call-clause-grows g t c = c.call_in.ensures.grows

pub compile_in-returns-in-Time-clause-grows : goal.compile_in-returns-in-Time-clause-grows
compile_in-returns-in-Time-clause-grows g t c = c.read.ensures.grows

pub compile_in-returns-in-Sys-clause-grows : goal.compile_in-returns-in-Sys-clause-grows
compile_in-returns-in-Sys-clause-grows g t c = c.read-in-Sys.ensures.grows
