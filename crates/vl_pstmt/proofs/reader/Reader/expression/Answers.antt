use Rattle.std.proofs.Common.{◌+◌, arith, ap, length, length-take}
use Rattle.vl_tree.specs.Expressions.{expr}
use Rattle.vl_tree.proofs.Sound.{follows_expr}
use Rattle.vl_tree.specs.Bounds.{most_tokens}
use Rattle.vl_pstmt.proofs.Windows.{narrows, leaves}
use Rattle.vl_pstmt.proofs.reader.Reader.expression.Goals as goal

pub expression_at-requires : goal.expression_at-requires
expression_at-requires c = omega (arith, c.requires, ap length c.window-window.ensures, length-take (most_tokens + 1) c.args.tokens.now)

pub within_limit-requires-clause-leaves : goal.within_limit-requires-clause-leaves
within_limit-requires-clause-leaves c = leaves (expr c.args.self.now.depth) (follows_expr c.args.self.now.depth) c.expression_at.result c.window-window.result.now c.expression_at.ensures.reads c.expression_at.ensures.shorter

pub returns-clause-reads : goal.returns-clause-reads
returns-clause-reads c =
    rw (narrows (expr c.args.self.now.depth) (follows_expr c.args.self.now.depth) most_tokens c.args.tokens.now c.window-window.result.now c.window-window.ensures) (c.within_limit.ensures.reads (expr c.args.self.now.depth c.window-window.result.now) c.expression_at.ensures.reads)
