-- Expressions and left sides that stand in no other: the parts of a grammar take tokens.
use Rattle.std.proofs.Common.{ℕ, ◌<◌, ◌≤◌, length, List, Option, arith}
use Rattle.vl_tree.specs.declared.token.Token.{Token}
use Rattle.vl_tree.specs.declared.tree.Expression.{Expression}
use Rattle.vl_tree.specs.declared.tree.Select.{Select}
use Rattle.vl_tree.specs.declared.tree.Bound.{Bound}
use Rattle.vl_tree.proofs.Complete.{shorter_expression}
use Rattle.vl_tree.specs.declared.source_tree.Lvalue.{Lvalue}
use Rattle.vl_tree.specs.Bounds.{Bounds}
use Rattle.vl_tree.specs.Statements.{ReadsIndexBound, ReadsIndices, ReadsLvalue, ReadsMoreLvalues, ReadsWhole, ReadsTarget}

pub shorter_whole : {b : Bounds} {e : Expression} {ts rest : List Token} → ReadsWhole b e ts rest → length rest < length ts
shorter_whole d = shorter_expression d.reads

pub no_longer_index_bound : {b : Bounds} {n m : ℕ} {e : Option Bound} {ts rest : List Token} → ReadsIndexBound b n m e ts rest → length rest ≤ length ts
no_longer_index_bound ReadsIndexBound.no_bound = omega arith
no_longer_index_bound (ReadsIndexBound.bound w h d) = omega (arith, shorter_whole d)

pub no_longer_indices : {b : Bounds} {n m : ℕ} {ss : List Select} {ts rest : List Token} → ReadsIndices b n m ss ts rest → length rest ≤ length ts
no_longer_indices ReadsIndices.no_index = omega arith
no_longer_indices (ReadsIndices.index w h d f z i r) = omega (arith, shorter_whole d, no_longer_index_bound f, no_longer_indices r)

mutual
  pub shorter_lvalue : {b : Bounds} {n m : ℕ} {v : Lvalue} {ts rest : List Token} → ReadsLvalue b n m v ts rest → length rest < length ts
  shorter_lvalue (ReadsLvalue.name w h d) = omega (arith, no_longer_indices d)
  shorter_lvalue (ReadsLvalue.concatenation w h d f z i) = omega (arith, shorter_lvalue d, no_longer_lvalues f)

  pub no_longer_lvalues : {b : Bounds} {n m : ℕ} {vs : List Lvalue} {ts rest : List Token} → ReadsMoreLvalues b n m vs ts rest → length rest ≤ length ts
  no_longer_lvalues ReadsMoreLvalues.no_more = omega arith
  no_longer_lvalues (ReadsMoreLvalues.more w c d f) = omega (arith, shorter_lvalue d, no_longer_lvalues f)

pub shorter_target : {b : Bounds} {v : Lvalue} {ts rest : List Token} → ReadsTarget b v ts rest → length rest < length ts
shorter_target d = shorter_lvalue d.reads
