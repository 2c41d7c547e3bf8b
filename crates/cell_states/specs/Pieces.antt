-- Which nodes are compiled to states of cells (own).
use Rattle.std.specs.Prelude.{false, All, ⊤}
use Rattle.vl_design.specs.declared.design.Expr.{Expr}
use Rattle.vl_design.specs.declared.design.Target.{Target}
use Rattle.vl_design.specs.Sound.{IsSoundExp, AreSound, IsSoundTarget, IsSoundTask}
use Rattle.vl_design.specs.Trees.{exp_of, exps_of, target_of}
use Rattle.vl_design.specs.Width.{Names}
use Rattle.cell_expr.specs.vl_paths.specs.Nets.{IsPlain}
use Rattle.cell_expr.specs.Bodies.{IsSegmentStm}
use Rattle.ten_form.specs.sub_split.specs.declared.table.Piece.{Piece}
use Rattle.ten_form.specs.sub_split.specs.declared.table.Piece.TheVariants as p
use Rattle.ten_form.specs.sub_split.specs.declared.table.WayOn.{WayOn}
use Rattle.ten_form.specs.sub_split.specs.declared.table.WayOn.TheVariants as w
use Rattle.ten_form.specs.sub_split.specs.declared.table.Node.{Node}
use Rattle.ten_form.specs.sub_split.specs.declared.table.Node.TheVariants as v
use Rattle.ten_form.specs.sub_split.specs.Views.{call_view}

-- an assignment of a sound expression
pub record IsCellAssignment (names : Names) (target : Target) (source : Expr) : Type 0 where
  pub target_sound : IsSoundTarget names (target_of target)
  pub source_sound : IsSoundExp names (exp_of source)

-- a statement without loops and calls, or an assignment of a call's answer; blocking assignments are to signals or bits of them
abbrev pub IsCellPiece : Names → Piece → Type 0
IsCellPiece names (p.Whole a) = IsSegmentStm names a.now
IsCellPiece names (p.Loop path a) = IsSegmentStm names a.now
IsCellPiece names (p.Set target source) = IsCellAssignment names target.now source.now × IsPlain (λ k. false) (target_of target.now)
IsCellPiece names (p.Later target source) = IsCellAssignment names target.now source.now

abbrev pub IsCellWay : Names → WayOn → Type 0
IsCellWay names (w.Go to) = ⊤
IsCellWay names (w.Branch test first second) = IsSoundExp names (exp_of test.now)
IsCellWay names (w.Switch subject ways otherwise) = IsSoundExp names (exp_of subject.now) × All (λ way. AreSound names (exps_of way.labels.now)) ways.items
IsCellWay names (w.Commit to) = ⊤

abbrev pub IsCellNode : Names → Node → Type 0
IsCellNode names (v.Run g on) = All (IsCellPiece names) g.statements.items × IsCellWay names on
IsCellNode names (v.Trap path call to) = IsSoundTask names (call_view path.now call.now)
IsCellNode names (v.Apply to) = ⊤
