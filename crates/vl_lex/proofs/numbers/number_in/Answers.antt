use Rattle.std.proofs.Common.{◌≡◌, ◌%◌, ◌^◌, refl, ap, ◌∙◌}
use Rattle.vl_tree.specs.Numbers.{value_of, z_bits}
use Rattle.vl_lex.proofs.Values.{cut_again}
use Rattle.vl_lex.proofs.numbers.number_in.Goals as goal

pub returns : goal.returns
returns c =
    let width = c.args.width in
    let value : c.cut.result ≡ value_of c.args.radix c.args.digits.now % 2 ^ width = c.cut.ensures ∙ ap (λ n. n % 2 ^ width) c.wrapped_value.ensures ∙ cut_again _ width c.requires.narrow in
    let z : c.cut-2.result ≡ z_bits c.args.radix c.args.digits.now % 2 ^ width = c.cut-2.ensures ∙ ap (λ n. n % 2 ^ width) c.wrapped_z.ensures ∙ cut_again _ width c.requires.narrow in
    rw (value, c.all_ones.ensures, z) refl
