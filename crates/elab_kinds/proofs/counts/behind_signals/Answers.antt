use Rattle.std.proofs.Common.{refl, ◌∙◌, arith}
use Rattle.elab_plain.specs.vl_flat.specs.Environments.{Counts, plus}
use Rattle.elab_kinds.specs.Sized.{counts_of, kept_number}
use Rattle.elab_kinds.proofs.Keeping.{counts-same, kept-plus}
use Rattle.elab_kinds.proofs.counts.behind_signals.Goals as goal

pub returns : goal.returns
returns c =
    let next = counts_of c.args.next in
    let given : Counts = record { signals = c.args.own; functions = 0 } in
    let known : Counts = record { signals = kept_number c.args.own; functions = 0 } in
    c.in_ok-exactly.ensures (plus next given)
    (c.plus.ensures ∙ kept-plus next (record { signals = c.min.result; functions = 0 }) next given refl (counts-same _ _ (omega (arith, c.min.ensures)) refl))
