use Rattle.std.proofs.Common.{◌≡◌, Option, Some, None, true, ap, ◌∙◌, sym, arith}
use Rattle.std.proofs.lemmas.Grind.{common_steps}
use Rattle.vl_tree.specs.declared.source_tree.VariableMore.TheVariants as v
use Rattle.vl_tree.specs.declared.tree.Identifier.{Identifier}
use Rattle.elab_plain.specs.vl_flat.specs.Items as x
use Rattle.elab_plain.specs.vl_flat.specs.Surface as y
use Rattle.elab_plain.specs.vl_flat.specs.Declarations as f
use Rattle.elab_plain.specs.Seen.{seen}
use Rattle.elab_plain.specs.SeenItems.{seen_bounds}
use Rattle.elab_items.proofs.signals.variable.Goals as goal

-- a variable's declaration
abbrev made : x.DataType → Identifier → Option x.Bounds → Option y.Ex → x.Declared
made type n words value = record { name = n; direction = None; variable = true; type = type; words = words; value = value }

pub returns-in-None : goal.returns-in-None
returns-in-None c = λ type.
    let a = c.args.a.now in
    c.declaration.ensures type
    ∙ (ap (λ n. made type n None None) c.in_ok-name.ensures
    ∙ ap (λ m. made type a.name (f.words_in m) (f.value_in m)) (sym c.in-None.is))

pub returns-in_ok-words-in-Some-Words : goal.returns-in_ok-words-in-Some-Words
returns-in_ok-words-in-Some-Words c = λ type.
    let a = c.args.a.now in
    let more = c.in-Some-Words in
    let words = c.in_ok-words-in-Some-Words in
    let is : a.more ≡ Some (v.Words more.range) = grind (arith, common_steps, more.is, more.field-0-is, more.range-is) in
    c.declaration-in-Some-Words.ensures type
    ∙ (ap (λ n. made type n (Some (seen_bounds words.words)) None) c.in_ok-name.ensures
    ∙ (ap (λ b. made type a.name (Some b) None) words.ensures
    ∙ ap (λ m. made type a.name (f.words_in m) (f.value_in m)) (sym is)))

pub returns-in_ok-value-in-Some-Value : goal.returns-in_ok-value-in-Some-Value
returns-in_ok-value-in-Some-Value c = λ type.
    let a = c.args.a.now in
    let more = c.in-Some-Value in
    let value = c.in_ok-value-in-Some-Value in
    let is : a.more ≡ Some (v.Value more.e) = grind (arith, common_steps, more.is, more.field-0-is, more.e-is) in
    c.declaration-in-Some-Value.ensures type
    ∙ (ap (λ n. made type n None (Some (seen value.value))) c.in_ok-name.ensures
    ∙ (ap (λ e. made type a.name None (Some e)) value.ensures
    ∙ ap (λ m. made type a.name (f.words_in m) (f.value_in m)) (sym is)))
