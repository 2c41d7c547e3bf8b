use Rattle.std.proofs.Common.{◌≡◌, map, take, drop}
use Rattle.elab_plain.specs.vl_flat.specs.Surface as x
use Rattle.elab_plain.specs.vl_flat.specs.Binding as f
use Rattle.elab_plain.specs.Seen as s
use Rattle.elab_plain.specs.Listed as g
use Rattle.elab_bind.proofs.expressions.+bind.Given as goal

abbrev pub invariant-bind_all-loop-e : goal.invariant-bind_all-loop-e
invariant-bind_all-loop-e l = map s.seen l.all.items ≡ map f.ex (take l.e-index l.es)

abbrev pub invariant-bind_binary-loop-link : goal.invariant-bind_binary-loop-link
invariant-bind_binary-loop-link l = g.linked (drop l.link-index l.link-items) (s.seen l.all) ≡ g.linked l.link-items (s.seen l.initial.all)

abbrev pub invariant-bind_selects-loop-one : goal.invariant-bind_selects-loop-one
invariant-bind_selects-loop-one l = (o : x.Selects) → s.selects_before l.all.items o ≡ g.selects_before (take l.one-index l.ss) o

abbrev pub invariant-bind_arguments-loop-a : goal.invariant-bind_arguments-loop-a
invariant-bind_arguments-loop-a l = (o : x.Args) → s.args_before l.all.items o ≡ g.args_before (take l.a-index l.given) o
