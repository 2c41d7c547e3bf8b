use Rattle.std.proofs.Common.{◌≡◌, ◌∙◌, ap, ℕ, List, map}
use Rattle.vl_design.specs.declared.design.Signal.{Signal}
use Rattle.vl_design.specs.Placed as p
use Rattle.vl_design.specs.Seen.{func_of, process_of}
use Rattle.vl_unroll.specs.Bodies.{func_at, process_at}
use Rattle.vl_unroll.proofs.Bodies.{funcs-at, processes-at, design-same}
use Rattle.vl_unroll.proofs.designs.unrolled.Goals as goal

pub funcs-requires : goal.funcs-requires
funcs-requires c = funcs-at c.args.design.now c.requires.fit c.requires.signals c.requires.locals c.as_slice-names.result.now c.as_slice.result.now c.as_slice-names.ensures c.as_slice.ensures

pub processes-requires : goal.processes-requires
processes-requires c = processes-at c.args.design.now c.requires.fit c.requires.signals c.as_slice-names.result.now c.as_slice-2.result.now c.as_slice-names.ensures c.as_slice-2.ensures

pub returns : goal.returns
returns c =
    let design = c.args.design.now in
    let names : c.as_slice-names.result.now ≡ design.signals = c.as_slice-names.ensures in
    let fs : List p.Func = map func_of c.in_ok-funcs.funcs in
    let as' : List p.Process = map process_of c.in_ok-processes.processes in
    let f : fs ≡ map (func_at design.signals) design.funcs = c.in_ok-funcs.ensures ∙ (ap (λ (z : List Signal). map (func_at z) c.as_slice.result.now) names ∙ ap (map (func_at design.signals)) c.as_slice.ensures) in
    let a : as' ≡ map (process_at design.signals) design.processes = c.in_ok-processes.ensures ∙ (ap (λ (z : List Signal). map (process_at z) c.as_slice-2.result.now) names ∙ ap (map (process_at design.signals)) c.as_slice-2.ensures) in
    let with_top : List ℕ → p.Design = λ z. record { top = z; signals = c.in_ok-signals.signals; funcs = fs; processes = as' } in
    let with_signals : List Signal → p.Design = λ z. record { top = design.top; signals = z; funcs = fs; processes = as' } in
    ap with_top c.in_ok-top.ensures
    ∙ (ap with_signals (c.in_ok-signals.ensures ∙ names)
    ∙ design-same design c.requires.fit c.requires.signals fs as' f a c.requires.locals)
