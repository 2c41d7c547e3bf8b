use Rattle.std.proofs.Common.{refl, ap, ◌∙◌, ℕ, false, List, [], length}
use Rattle.std.specs.Prelude.{Option}
use Rattle.vl_design.specs.Placed.{Exp}
use Rattle.elab_plain.specs.vl_flat.specs.Environments as e
use Rattle.elab_plain.specs.vl_flat.specs.Kinds.{signals_in}
use Rattle.elab_plain.specs.vl_flat.specs.Processes.{signals}
use Rattle.elab_plain.specs.SeenItems.{seen_item}
use Rattle.elab_kinds.specs.Sized.{counts_of}
use Rattle.elab_instance.specs.Given.{overrides_of}
use Rattle.vl_elab.specs.Standing.{seen_here}
use Rattle.vl_elab.proofs.Numbers.{no-fewer, so-many}
use Rattle.vl_elab.proofs.instances.add_own.Goals as goal

-- an instance that is given these overrides
abbrev given : (List ℕ → Option Exp) → e.Given
given overrides = record { path = []; base = e.no_more; overrides = overrides; clocks = λ t. false; wired = λ t. false }

pub overflow_sub-own : goal.overflow_sub-own
overflow_sub-own c =
    let grown = c.in_ok-add_item.ensures (given (overrides_of c.args.above.now)) refl in
    no-fewer c.args.making.now.signals.items c.add_item.new.making.signals.items _ (length c.as_slice-first.result.now) (length c.as_slice.result.now) (ap length c.as_slice-first.ensures.value) (ap length c.as_slice.ensures.value) grown.signals

pub returns-clause-behind : goal.returns-clause-behind
returns-clause-behind c = λ sizes own.
    let here = seen_here c.args.here in
    let item = seen_item c.args.item.now in
    let next = counts_of c.args.next in
    let found = signals here next.signals (signals_in item) in
    let grown = c.in_ok-add_item.ensures (given (overrides_of c.args.above.now)) refl in
    let many = so-many c.args.making.now.signals.items c.add_item.new.making.signals.items found (length c.as_slice-first.result.now) (length c.as_slice.result.now) (ap length c.as_slice-first.ensures.value) (ap length c.as_slice.ensures.value) grown.signals in
    c.in_ok-sum.ensures
    ∙ (ap (λ z. e.plus z (counts_of c.functions_in.result)) (c.in_ok-behind.ensures ∙ ap (λ k. e.plus next (record { signals = k; functions = 0 })) many)
    ∙ ap (e.plus (e.plus next (record { signals = length found; functions = 0 }))) (c.functions_in.ensures sizes own))
