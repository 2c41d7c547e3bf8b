-- Tokens are a source or have one fault, by their reading.
use Rattle.std.proofs.Common.{◌≡◌, ℕ, ◌+◌, ◌<◌, ◌≤◌, ◌⊎◌, inl, inr, length, drop, List, [], Ok, Err, None, refl, sym, ap, arith, ◌∙◌, length-drop}
use Rattle.std.specs.Prelude.{codes}
use Rattle.vl_base.specs.declared.place.Place.{Place}
use Rattle.vl_tree.specs.declared.token.Token.{Token}
use Rattle.vl_tree.specs.MarksOfGrammar.{IsKeyword}
use Rattle.vl_tree.specs.declared.tree.Expression.{Expression}
use Rattle.vl_tree.specs.declared.source_tree.Source.{Source}
use Rattle.vl_tree.specs.declared.source_tree.Statement.{Statement}
use Rattle.vl_tree.specs.declared.source_tree.Statement.TheVariants as st
use Rattle.vl_tree.specs.declared.source_fault.Cause.{Cause}
use Rattle.vl_tree.specs.declared.source_fault.Cause.TheVariants as c
use Rattle.vl_tree.specs.Bounds.{Bounds}
use Rattle.vl_tree.specs.GrammarOfSource.{ReadsSource}
use Rattle.vl_tree.specs.FaultsOfSource.{IsSource, limits, statement_limit, expression_limit, IsSyntaxFault, IsPassing}
use Rattle.vl_tree.specs.Lists.{Next}
use Rattle.vl_tree.specs.Statements.{ReadsStatement, ReadsInside}
use Rattle.vl_tree.specs.Parsers.{Outcome}
use Rattle.vl_tree.specs.Parsing.{source}
use Rattle.vl_tree.proofs.FollowsOfSource.{err_parts}
use Rattle.vl_tree.proofs.SourceLaws.{took_all, stuck, FaultAt}
use Rattle.vl_tree.proofs.Outcomes.{read_within, read_only, accepts, refuses, passes_statements, passes_tokens}

-- an `if` without an `else` isn't followed by one
no_else_inside : {b : Bounds} {d : ℕ} {x : Statement} {ts rest : List Token} → ReadsInside b d x ts rest → (p : Place) (e : Expression) (a : Statement) → x ≡ st.If p e a None → Next (IsKeyword (codes "else")) rest → ⊥
no_else_inside (ReadsInside.null h) p e a q n = cc
no_else_inside (ReadsInside.block h l f i) p e a q n = cc
no_else_inside (ReadsInside.when w f g free) p e a q n = free n
no_else_inside (ReadsInside.when_else w f g i j) p e a q n = cc
no_else_inside (ReadsInside.cases h f g i j) p e a q n = cc
no_else_inside (ReadsInside.loop h i f j g k l m o) p e a q n = cc
no_else_inside (ReadsInside.repeat h f g) p e a q n = cc
no_else_inside (ReadsInside.assign f h g i) p e a q n = cc
no_else_inside (ReadsInside.task f h) p e a q n = cc

no_else_at : {b : Bounds} {d : ℕ} {x : Statement} {ts rest : List Token} → ReadsStatement b d x ts rest → (p : Place) (e : Expression) (a : Statement) → x ≡ st.If p e a None → Next (IsKeyword (codes "else")) rest → ⊥
no_else_at (ReadsStatement.statement h f) p e a q n = no_else_inside f p e a q n

pub no_else_behind : {b : Bounds} {d : ℕ} {ts rest : List Token} (p : Place) (e : Expression) (a : Statement) → ReadsStatement b d (st.If p e a None) ts rest → Next (IsKeyword (codes "else")) rest → ⊥
no_else_behind p e a f n = no_else_at f p e a refl n

abbrev pub Judged : List Token → Type 0
Judged ts = ((s : Source) × ReadsSource (limits 0) s ts []) ⊎ (((i : ℕ) × IsSyntaxFault ts i) ⊎ (((i : ℕ) × IsPassing statement_limit ts i) ⊎ ((i : ℕ) × IsPassing expression_limit ts i)))

by_cause : (ts : List Token) (cause : Cause) (i : ℕ) → FaultAt ts cause i → Judged ts
by_cause ts c.Syntax i f = inr (inl (i, f))
by_cause ts c.Statements i f = inr (inr (inl (i, f)))
by_cause ts c.Tokens i f = inr (inr (inr (i, f)))

module _ (ts : List Token) where
  size : ℕ
  size = length ts + 2

  by_outcome : (o : Outcome Source) → source size ts ≡ o → Judged ts
  unfolding size
  by_outcome (Ok (s, rest)) e = inl (s, read_within (length ts + 2) ts (omega arith) s (e ∙ ap (λ z. Ok (s, z)) (took_all (length ts + 2) ts s rest e)))
  by_outcome (Err (cause, rest)) e = by_cause ts cause _ (stuck (length ts + 2) ts (omega arith) cause rest e).2

  pub judged : Judged ts
  judged = by_outcome (source size ts) refl

  room : length ts + 1 < size
  unfolding size
  room = omega arith

  pub one_tree : (s other : Source) → ReadsSource (limits 0) s ts [] → IsSource other ts → other ≡ s
  one_tree s other d f = read_only size ts room s (accepts size ts room s d) other f

  same_place : {p q : Cause} (i j : ℕ) → i ≤ length ts → j ≤ length ts → source size ts ≡ Err (p, drop i ts) → source size ts ≡ Err (q, drop j ts) → i ≡ j
  same_place {p} {q} i j h l e f = let w : drop i ts ≡ drop j ts = ap (λ x. x.1) (err_parts (sym e ∙ f)) in omega (arith, h, l, ap length w, length-drop i ts, length-drop j ts)

  same_cause : {p q : Cause} (i j : ℕ) → source size ts ≡ Err (p, drop i ts) → source size ts ≡ Err (q, drop j ts) → p ≡ q
  same_cause {p} {q} i j e f = ap (λ x. x.0) (err_parts (sym e ∙ f))

  pub syntax_once : (i j : ℕ) → IsSyntaxFault ts i → IsSyntaxFault ts j → i ≡ j
  syntax_once i j f g = same_place i j f.within g.within (refuses size ts room i f) (refuses size ts room j g)

  pub statements_once : (i j : ℕ) → IsPassing statement_limit ts i → IsPassing statement_limit ts j → i ≡ j
  statements_once i j f g = same_place i j (omega (arith, f.inside)) (omega (arith, g.inside)) (passes_statements size ts room i f) (passes_statements size ts room j g)

  pub tokens_once : (i j : ℕ) → IsPassing expression_limit ts i → IsPassing expression_limit ts j → i ≡ j
  tokens_once i j f g = same_place i j (omega (arith, f.inside)) (omega (arith, g.inside)) (passes_tokens size ts room i f) (passes_tokens size ts room j g)

  pub one_limit : (i j : ℕ) → IsPassing statement_limit ts i → IsPassing expression_limit ts j → ⊥
  one_limit i j f g = let e = same_cause i j (passes_statements size ts room i f) (passes_tokens size ts room j g) in cc e

  pub syntax_or_statements : (i j : ℕ) → IsSyntaxFault ts i → IsPassing statement_limit ts j → ⊥
  syntax_or_statements i j f g = let e = same_cause i j (refuses size ts room i f) (passes_statements size ts room j g) in cc e

  pub syntax_or_tokens : (i j : ℕ) → IsSyntaxFault ts i → IsPassing expression_limit ts j → ⊥
  syntax_or_tokens i j f g = let e = same_cause i j (refuses size ts room i f) (passes_tokens size ts room j g) in cc e

  not_both : {s : Source} {p : Cause} {rest : List Token} → source size ts ≡ Ok (s, []) → source size ts ≡ Err (p, rest) → ⊥
  not_both e f = cc (e, f)

  pub no_syntax : (s : Source) (i : ℕ) → ReadsSource (limits 0) s ts [] → IsSyntaxFault ts i → ⊥
  no_syntax s i d f = not_both (accepts size ts room s d) (refuses size ts room i f)

  pub no_limit : (s : Source) (i : ℕ) → ReadsSource (limits 0) s ts [] → IsPassing statement_limit ts i ⊎ IsPassing expression_limit ts i → ⊥
  no_limit s i d (inl f) = not_both (accepts size ts room s d) (passes_statements size ts room i f)
  no_limit s i d (inr f) = not_both (accepts size ts room s d) (passes_tokens size ts room i f)
