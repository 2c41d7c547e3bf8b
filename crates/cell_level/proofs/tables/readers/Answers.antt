use Rattle.std.proofs.Common.{◌≡◌, length, sym, ap, ◌∙◌, subst}
use Rattle.std.specs.Prelude.{◌||◌, ◌&&◌, ◌==◌, nat_lt}
use Rattle.vl_bits.specs.Masks.{in_parts, AreOf}
use Rattle.cell_level.specs.declared.nets.Net.{Net}
use Rattle.cell_level.specs.Nets as spec
use Rattle.cell_level.proofs.Users.{more_nets, other_nets}
use Rattle.cell_level.proofs.Edges.{reads_at, reads_past, all_through}
use Rattle.cell_level.proofs.tables.readers.Goals as goal

pub add_parts-requires : goal.add_parts-requires
add_parts-requires c =
    let x = c.index-nets-number.result in
    let n = c.args.signals in
    let first : AreOf n x.reads.items = subst (λ (y : Net). AreOf n y.reads.items) (sym c.index-nets-number.is) (c.requires.within c.loop-number.number x c.loop-number-test.true).0 in
    let same : AreOf n c.as_slice.result.now = subst (λ ps. AreOf n ps) (sym c.as_slice.ensures.value) first in
    subst (λ k. AreOf k c.as_slice.result.now) (sym c.loop-number.invariant.long) same

pub loop-number-preserved : goal.loop-number-preserved
loop-number-preserved c =
    let nets = c.args.nets.now in
    let i = c.loop-number.number in
    let ps = c.as_slice.result.now in
    record {
      long = c.in_ok-add_parts.ensures.long ∙ c.loop-number.invariant.long;
      nets = λ p b.
          c.in_ok-add_parts.ensures.parts p b
          ∙ ap (λ z. z || ((i == p) && in_parts ps b)) (c.loop-number.invariant.nets p b)
          ∙ ap (λ z. (nat_lt p i && spec.reads nets p b) || z)
          (other_nets i p (in_parts ps b) (spec.reads nets p b)
          (λ k. subst (λ q. in_parts ps b ≡ spec.reads nets q b) k (sym (reads_at nets i c.index-nets-number.result ps b c.loop-number-test.true c.index-nets-number.is c.as_slice.ensures.value))))
          ∙ more_nets i p (spec.reads nets p b);
    }

pub returns-clause-table : goal.returns-clause-table
returns-clause-table c p b =
    let nets = c.args.nets.now in
    c.loop-number.invariant.nets p b ∙ all_through c.loop-number.number (length nets) p (spec.reads nets p b) c.loop-number-test.false (λ l. reads_past nets p b l)
