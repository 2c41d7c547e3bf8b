-- An accepted design of few signals is a tenant's.
use Rattle.std.proofs.Common.{◌≡◌, ◌≤◌, ℕ, Bool, true, false, length, sym, ap, ◌∙◌, arith, subst}
use Rattle.std.specs.Prelude.{All, nat_lt, if◌then◌else◌}
use Rattle.std.proofs.lemmas.List.{length-map}
use Rattle.vl_loops.specs.vl_design.specs.Laws.{IsUnrolled}
use Rattle.vl_loops.specs.vl_design.specs.Placed as p
use Rattle.vl_loops.specs.vl_design.specs.Plainly as plain
use Rattle.vl_loops.specs.vl_design.specs.Seen.{placed}
use Rattle.vl_loops.specs.vl_design.specs.Syntax.{Flat}
use Rattle.vl_loops.specs.vl_design.specs.Trees.{flat_of}
use Rattle.vl_loops.specs.vl_design.specs.Width.{names_of}
use Rattle.vl_loops.specs.Unroll.{unrolled_flat}
use Rattle.vl_loops.specs.Placed.{unrolled_placed}
use Rattle.vl_loops.proofs.Bare.{all_bare}
use Rattle.vl_loops.proofs.Placing.{flat_plain}
use Rattle.elab_laws.specs.vl_accept.specs.Fit.{IsFit}
use Rattle.elab_laws.specs.vl_check.specs.Written.{HasWriters}
use Rattle.sub_runs.specs.vl_sites.specs.Others.{WritesNoOthers}
use Rattle.sub_runs.specs.vl_runs.specs.Checked.{IsChecked}
use Rattle.sub_runs.specs.vl_runs.proofs.Orders.{ordered}
use Rattle.elab_laws.specs.vl_accept.specs.declared.accept.Accepted.{Accepted}
use Rattle.elab_laws.specs.vl_accept.specs.Accepted.{Stands}
use Rattle.elab_laws.specs.vl_accept.proofs.Fitting.{unrolls, stays}
use Rattle.elab_laws.specs.vl_accept.proofs.Rules.{checked}
use Rattle.ten_make.specs.cell_emit.specs.Envs.{HasOneWord}
use Rattle.ten_make.specs.cell_emit.proofs.Assigning.{one-word}
use Rattle.ten_make.specs.cell_expr.specs.Bodies.{IsCellFun}
use Rattle.ten_make.specs.cell_states.specs.Designs.{ComputesAlone}
use Rattle.sub_runs.specs.Memories.{SetsNoMemories}
use Rattle.sub_runs.specs.Nets.{WritesNoNets}
use Rattle.ten_make.specs.Designs.{IsTenantDesign}
use Rattle.ten_build.proofs.Writers.{alone, leave_memories}

one-time : (q : Bool) (n : ℕ) → n ≡ (if q then 1 else 0) → n ≤ 1
one-time true n e = omega (arith, e)
one-time false n e = omega (arith, e)

module _ (d : p.Design) (fit : IsFit d) (w : HasWriters d) (a : Accepted) (s : Stands d a) where
  abbrev next : Flat
  next = unrolled_flat (plain.flat d)

  same : flat_of a.design ≡ next
  same = ap plain.flat s.design ∙ flat_plain d (unrolls d fit s.accepted.uses)

  -- what the unrolled design meets, the program's meets
  there : (P : Flat → Type 0) → P next → P (flat_of a.design)
  there P h = subst P (sym same) h

  placed_there : (P : p.Design → Type 0) → P (unrolled_placed d) → P (placed a.design)
  placed_there P h = subst P (sym s.design) h

  pub tenants : All (IsCellFun (names_of (plain.flat (unrolled_placed d)))) (plain.flat (unrolled_placed d)).funs → WritesNoNets next → WritesNoOthers (flat_of a.design) → length a.design.signals ≤ 268435456 → IsTenantDesign (flat_of a.design) a.order.items
  tenants functions nets others few = record {
    sound = stays d a.design fit s.accepted.uses s.design;
    unrolled = there IsUnrolled (all_bare (plain.flat d));
    functions = placed_there (λ x. All (IsCellFun (names_of (plain.flat x))) (plain.flat x).funs) functions;
    checked = placed_there (λ x. IsChecked (plain.flat x)) (checked d fit s.accepted);
    ordered = ordered (flat_of a.design) a.order.items s.order.once s.order.levelled;
    once = λ k. one-time (nat_lt k (length (flat_of a.design).procs)) _ (s.order.once k);
    alone = there ComputesAlone (alone d fit w s.accepted);
    nets = there WritesNoNets nets;
    others = others;
    words = there (λ x. HasOneWord x.rows) (one-word d.signals);
    few = rw length-map few;
    memories = there SetsNoMemories (leave_memories d fit w s.accepted);
  }
