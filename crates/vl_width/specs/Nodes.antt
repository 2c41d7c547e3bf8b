-- How many nodes an expression has.
use Rattle.std.specs.Prelude.{ℕ, ◌+◌}
use Rattle.vl_design.specs.Syntax.{Exp, Num, Label, Sig, Word, Pick, Slice, Un, Bin, Cond, Cat, Rep, Cast, Call, Time, LastAnswer, Exps, NoExps, MoreExps}

abbrev mutual
  pub nodes : Exp → ℕ
  nodes (Num v w s) = 1
  nodes (Label v care w s) = 1
  nodes (Sig k) = 1
  nodes (Word m a) = 1 + nodes a
  nodes (Pick b i from w) = 1 + nodes b + nodes i
  nodes (Slice b low w) = 1 + nodes b
  nodes (Un op a) = 1 + nodes a
  nodes (Bin op a b) = 1 + nodes a + nodes b
  nodes (Cond t a b) = 1 + nodes t + nodes a + nodes b
  nodes (Cat es) = 1 + all_nodes es
  nodes (Rep n es) = 1 + all_nodes es
  nodes (Cast s a) = 1 + nodes a
  nodes (Call f es) = 1 + all_nodes es
  nodes Time = 1
  nodes LastAnswer = 1

  pub all_nodes : Exps → ℕ
  all_nodes NoExps = 0
  all_nodes (MoreExps e es) = nodes e + all_nodes es
