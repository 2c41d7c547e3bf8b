use Rattle.std.proofs.Common.{◌≡◌, ◌<◌, true, false, length, sym, ap, ◌∙◌, subst}
use Rattle.vl_bits.specs.vl_paths.specs.Bits.{Bit}
use Rattle.vl_bits.specs.Masks.{in_parts, AreOf}
use Rattle.cell_level.specs.declared.nets.Net.{Net}
use Rattle.cell_level.specs.Nets as spec
use Rattle.cell_level.specs.Tables.{listed}
use Rattle.cell_level.specs.Walks.{on}
use Rattle.cell_level.proofs.Edges.{reads_at, drives_below, if_some}
use Rattle.cell_level.proofs.tables.unmarked_driver.Goals as goal

pub unmarked_user-requires-clause-parts : goal.unmarked_user-requires-clause-parts
unmarked_user-requires-clause-parts c =
    subst (λ ps. AreOf (length c.args.drivers.now) ps) (sym c.as_slice.ensures.value) (c.requires.within c.args.net c.index-nets-net.result c.requires.net).0

pub unmarked_user-requires-clause-flags : goal.unmarked_user-requires-clause-flags
unmarked_user-requires-clause-flags c p b h =
    subst (λ n. p < n) (sym c.requires.flags) (drives_below c.args.nets.now p b (sym (c.requires.table p b) ∙ h))

pub returns-clause-none : goal.returns-clause-none
returns-clause-none c =
    let own : c.as_slice.result.now ≡ c.index-nets-net.result.reads.items = c.as_slice.ensures.value ∙ ap (λ (x : Net). x.reads.items) (sym c.index-nets-net.is) in
    λ e p edge. c.unmarked_user.ensures.none e p edge.0
    (c.requires.table p edge.0 ∙ edge.1)
    (sym (reads_at c.args.nets.now c.args.net c.index-nets-net.result c.as_slice.result.now edge.0 c.requires.net c.index-nets-net.is own) ∙ edge.2)

pub returns-clause-some : goal.returns-clause-some
returns-clause-some c =
    let own : c.as_slice.result.now ≡ c.index-nets-net.result.reads.items = c.as_slice.ensures.value ∙ ap (λ (x : Net). x.reads.items) (sym c.index-nets-net.is) in
    if_some (λ p. (on c.args.flags.now.items p ≡ false) × ((b : Bit) × (listed c.args.drivers.now p b ≡ true) × (in_parts c.as_slice.result.now b ≡ true)))
    (λ p. (on c.args.flags.now.items p ≡ false) × spec.Edge c.args.nets.now p c.args.net) c.unmarked_user.result
    (λ p f. (
      f.0,
      (
        f.1.0,
        sym (c.requires.table p f.1.0) ∙ f.1.1,
        reads_at c.args.nets.now c.args.net c.index-nets-net.result c.as_slice.result.now f.1.0 c.requires.net c.index-nets-net.is own ∙ f.1.2,
      ),
    ))
    c.unmarked_user.ensures.some

pub returns-clause-within : goal.returns-clause-within
returns-clause-within c =
    if_some (λ p. (on c.args.flags.now.items p ≡ false) × ((b : Bit) × (listed c.args.drivers.now p b ≡ true) × (in_parts c.as_slice.result.now b ≡ true)))
    (λ p. p < length c.args.nets.now) c.unmarked_user.result
    (λ p f. drives_below c.args.nets.now p f.1.0 (sym (c.requires.table p f.1.0) ∙ f.1.1))
    c.unmarked_user.ensures.some
