-- Expressions: what is read follows the grammar.
use Rattle.std.proofs.Common.{◌≡◌, ℕ, zero, suc, ◌⊎◌, inl, inr, length, List, [], ◌∷◌, ◌++◌, Ok, Err, Option, Some, None, Bool, true, false, cond, refl, ap, subst, arith, ◌∙◌}
use Rattle.std.specs.Prelude.{codes}
use Rattle.std.specs.Str.{bytes_eq}
use Rattle.std.proofs.lemmas.Slice.Eq.{bytes_eq-Decides}
use Rattle.vl_base.specs.declared.number.Number.{Number}
use Rattle.vl_base.specs.declared.place.Place.{Place}
use Rattle.vl_tree.specs.declared.token.Token.{Token}
use Rattle.vl_tree.specs.declared.token.TokenKind.{TokenKind}
use Rattle.vl_tree.specs.declared.token.TokenKind.TheVariants as k
use Rattle.vl_tree.specs.declared.tree.Expression.{Expression}
use Rattle.vl_tree.specs.declared.tree.Choice.{Choice}
use Rattle.vl_tree.specs.declared.tree.Primary.{Primary}
use Rattle.vl_tree.specs.declared.tree.Primary.TheVariants as x
use Rattle.vl_tree.specs.declared.tree.Select.{Select}
use Rattle.vl_tree.specs.declared.tree.Bound.{Bound}
use Rattle.vl_tree.specs.declared.tree.SystemCall.{SystemCall}
use Rattle.vl_tree.specs.declared.tree.SystemArgument.{SystemArgument}
use Rattle.vl_tree.specs.MarksOfGrammar.{IsMark, binary_operator, unary_operator, select_mark}
use Rattle.vl_tree.specs.Grammar.{ReadsOperators, ReadsExpression, ReadsChoice, ReadsBinary, ReadsLinks, ReadsUnary, ReadsPrimary, ReadsExpressions, ReadsMore, ReadsName, ReadsSelects, ReadsBound, ReadsSystemCall, ReadsArgument, ReadsArguments, expression_of, choice_of, binary_of, link_of, unary_of, name_of, select_of, bound_of, call_of, system_of, argument_of}
use Rattle.vl_tree.specs.Reading.{Parser, Outcome, and_then, ◌>>=◌, pure, mark, many}
use Rattle.vl_tree.specs.Expressions.{expr, level, choice, branches, binary, links, unary, operators, primary, primary_by, primary_kind, parenthesized, braced, concatenation, replication, expressions, more, named, selects, select, bound, system, system_primary, arguments, argument, ends_argument}
use Rattle.vl_tree.proofs.Follows.{Follows, Then, After, Either, Nothing, follows_weaker, follows_pure, follows_fault, follows_bind, follows_if, follows_must, follows_mark, follows_many, follows_ahead, follows_placed}
use Rattle.vl_tree.proofs.MarkLemmas.{mark_some}
use Rattle.vl_tree.proofs.Complete.{shorter_unary, no_longer_links, no_longer_operators, shorter_primary, shorter_binary, no_longer_choice, shorter_expression}

-- ---- what stands behind the first tokens

abbrev Branches : Choice → List Token → List Token → Type 0
Branches = Then ReadsExpression (λ a. After (mark (codes ":")) (λ _ _. Then ReadsExpression (λ b. Nothing (choice_of a b))))

abbrev pub Selects : Place → Select → List Token → List Token → Type 0
Selects p = Then ReadsExpression (λ e. Then ReadsBound (λ b. After (mark (codes "]")) (λ _ _. Nothing (select_of p e b))))

abbrev Named : Place → List ℕ → Primary → List Token → List Token → Type 0
Named p s = Either (mark (codes "(")) (λ _ _. Then ReadsExpressions (λ es. After (mark (codes ")")) (λ _ _. Nothing (call_of p s es)))) (Then ReadsSelects (λ ss. Nothing (x.Name (name_of p s ss))))

abbrev Arguments : List SystemArgument → List Token → List Token → Type 0
Arguments = Then ReadsArgument (λ a. Then ReadsArguments (λ others. After (mark (codes ")")) (λ _ _. Nothing (a ∷ others))))

abbrev System : Place → List ℕ → SystemCall → List Token → List Token → Type 0
System p s = Either (mark (codes "(")) (λ _ _. Then Arguments (λ given. Nothing (system_of p s (Some given)))) (Nothing (system_of p s None))

abbrev Parenthesized : Place → Primary → List Token → List Token → Type 0
Parenthesized p = Then ReadsExpression (λ e. After (mark (codes ")")) (λ _ _. Nothing (x.Parenthesized p e)))

abbrev Replication : Place → Expression → Primary → List Token → List Token → Type 0
Replication p e = Then ReadsExpressions (λ es. After (mark (codes "}")) (λ _ _. After (mark (codes "}")) (λ _ _. Nothing (x.Replication p e es))))

abbrev Concatenation : Place → Expression → Primary → List Token → List Token → Type 0
Concatenation p e = Then ReadsMore (λ es. After (mark (codes "}")) (λ _ _. Nothing (x.Concatenation p (e ∷ es))))

abbrev Braced : Place → Primary → List Token → List Token → Type 0
Braced p = Then ReadsExpression (λ e. Either (mark (codes "{")) (λ _ _. Replication p e) (Concatenation p e))

-- what stands behind the first token of a primary, by its kind
abbrev Behind : Place → TokenKind → Primary → List Token → List Token → Type 0
Behind p (k.Number n) e ts rest = Nothing (x.Number p n) e ts rest
Behind p (k.Str s) e ts rest = Nothing (x.Str p s) e ts rest
Behind p (k.Name s) e ts rest = Named p s e ts rest
Behind p (k.System s) e ts rest = Then (System p s) (λ c. Nothing (x.System c)) e ts rest
Behind p (k.Mark m) e ts rest = ((m ≡ codes "(") × Parenthesized p e ts rest) ⊎ ((m ≡ codes "{") × Braced p e ts rest)
Behind p (k.Keyword s) e ts rest = ⊥

-- ---- the relation from what stands there

choice_from : (c : Option Choice) (ts rest : List Token) → Either (mark (codes "?")) (λ _ _. Then Branches (λ c. Nothing (Some c))) (Nothing None) c ts rest → ReadsChoice c ts rest
choice_from c ts rest (inl (u, us, p, i, h, (b, vs, (a, ws, d, (v, xs, q, j, f, (e, ys, g, (l, m)))), (o, n)))) =
    rw (i, o, l) (ReadsChoice.choice (mark_some (codes "?") u p h).0 (rw j at d) (mark_some (codes ":") v q f).0 (rw (m, n) at g))
choice_from c ts rest (inr (i, j)) = rw (i, j) ReadsChoice.no_choice

bound_from : (c : Option Bound) (ts rest : List Token) → Either select_mark (λ _ m. Then ReadsExpression (λ e. Nothing (Some (bound_of m e)))) (Nothing None) c ts rest → ReadsBound c ts rest
bound_from c ts rest (inl (u, us, m, i, h, (e, vs, d, (j, l)))) = rw (i, j) (ReadsBound.bound h (rw l at d))
bound_from c ts rest (inr (i, j)) = rw (i, j) ReadsBound.no_bound

select_from : (u : Token) (p : Place) (e : Select) (es : List Select) (ts us rest : List Token) → mark (codes "[") u ≡ Some p → Selects p e ts us → ReadsSelects es us rest → ReadsSelects (e ∷ es) (u ∷ ts) rest
select_from u p e es ts us rest h (a, vs, d, (b, ws, f, (v, xs, q, i, g, (j, l)))) r =
    let m = mark_some (codes "[") u p h in rw (j, m.1) (ReadsSelects.select m.0 d (rw i at f) (mark_some (codes "]") v q g).0 (rw (← l) at r))

named_from : (t : Token) (s : List ℕ) (e : Primary) (ts rest : List Token) → t.kind ≡ k.Name s → Named t.place s e ts rest → ReadsPrimary e (t ∷ ts) rest
named_from t s e ts rest h (inl (u, us, p, i, g, (es, vs, d, (v, ws, q, j, f, (l, m))))) =
    rw (i, l) (ReadsPrimary.call h (mark_some (codes "(") u p g).0 (rw (j, m) at d) (mark_some (codes ")") v q f).0)
named_from t s e ts rest h (inr (ss, us, d, (i, j))) = rw i (ReadsPrimary.named (ReadsName.name h (rw j at d)))

system_from : (t : Token) (s : List ℕ) (c : SystemCall) (ts rest : List Token) → t.kind ≡ k.System s → System t.place s c ts rest → ReadsSystemCall c (t ∷ ts) rest
system_from t s c ts rest h (inl (u, us, p, i, g, (given, vs, (a, ws, d, (others, xs, f, (v, ys, q, j, b, (l, m)))), (o, n)))) =
    rw (i, o, l) (ReadsSystemCall.system_call h (mark_some (codes "(") u p g).0 d (rw (j, m, n) at f) (mark_some (codes ")") v q b).0)
system_from t s c ts rest h (inr (i, j)) = rw (i, j) (ReadsSystemCall.system_alone h)

braced_from : (t : Token) (e : Primary) (ts rest : List Token) → IsMark (codes "{") t → Braced t.place e ts rest → ReadsPrimary e (t ∷ ts) rest
braced_from t e ts rest h (a, us, d, inl (u, vs, p, i, g, (es, ws, f, (v, xs, q, j, b, (w, ys, r, l, c, (m, n)))))) =
    rw m (ReadsPrimary.replication h (rw i at d) (mark_some (codes "{") u p g).0 (rw (j, l, n) at f) (mark_some (codes "}") v q b).0 (mark_some (codes "}") w r c).0)
braced_from t e ts rest h (a, us, d, inr (es, vs, f, (v, ws, q, j, b, (m, n)))) =
    rw m (ReadsPrimary.concatenation h (ReadsExpressions.expressions d (rw (j, n) at f)) (mark_some (codes "}") v q b).0)

primary_from : (t : Token) (kind : TokenKind) → t.kind ≡ kind → (e : Primary) (ts rest : List Token) → Behind t.place kind e ts rest → ReadsPrimary e (t ∷ ts) rest
primary_from t (k.Number n) h e ts rest (i, j) = rw (i, j) (ReadsPrimary.number h)
primary_from t (k.Str s) h e ts rest (i, j) = rw (i, j) (ReadsPrimary.string h)
primary_from t (k.Name s) h e ts rest d = named_from t s e ts rest h d
primary_from t (k.System s) h e ts rest (c, us, d, (i, j)) = rw i (ReadsPrimary.system (system_from t s c ts rest h (rw j at d)))
primary_from t (k.Mark m) h e ts rest (inl (i, (a, us, d, (u, vs, p, j, f, (l, o))))) = rw l (ReadsPrimary.parenthesized (h ∙ ap k.Mark i) (rw (j, o) at d) (mark_some (codes ")") u p f).0)
primary_from t (k.Mark m) h e ts rest (inr (i, d)) = braced_from t e ts rest (h ∙ ap k.Mark i) d
primary_from t (k.Keyword s) h e ts rest d = elim d [ ]

-- ---- the productions

pub follows_operators : (n : ℕ) → Follows ReadsOperators (operators n)
unfolding operators
follows_operators n = follows_many unary_operator (λ _ o. Nothing o) ReadsOperators (λ o. pure o) (λ u o h. follows_pure o) (λ ts. ReadsOperators.no_operator)
    (λ u o e es ts us rest h (i, j) q. rw (i, j) (ReadsOperators.operator h q)) n

module _ (inner : Parser Expression) (l : Follows ReadsExpression inner) (n : ℕ) where
  follows_branches : Follows Branches (branches inner n)
  unfolding branches
  follows_branches = follows_bind _ _ inner _ l (λ a. follows_mark (codes ":") _ _ refl (follows_bind _ _ inner _ l (λ b. follows_pure (choice_of a b))))

  follows_choice : Follows ReadsChoice (choice inner n)
  unfolding choice
  follows_choice = follows_weaker choice_from (follows_if (mark (codes "?")) _ _ _ _ (λ u p h. follows_bind _ _ (branches inner n) _ follows_branches (λ c. follows_pure (Some c))) (follows_pure None))

  follows_more : Follows ReadsMore (more inner n)
  unfolding more
  follows_more = follows_many (mark (codes ",")) (λ _ _. ReadsExpression) ReadsMore (λ _. inner) (λ u p h. l) (λ ts. ReadsMore.no_more) (λ u p e es ts us rest h d f. ReadsMore.more (mark_some (codes ",") u p h).0 d f) n

  follows_expressions : Follows ReadsExpressions (expressions inner n)
  unfolding expressions
  follows_expressions = follows_weaker (λ es ts rest (e, us, d, (others, vs, f, (i, j))). rw i (ReadsExpressions.expressions d (rw j at f)))
      (follows_bind _ _ inner _ l (λ e. follows_bind _ _ (more inner n) _ follows_more (λ es. follows_pure (e ∷ es))))

  pub follows_bound : Follows ReadsBound (bound inner n)
  unfolding bound
  follows_bound = follows_weaker bound_from (follows_if select_mark _ _ _ _ (λ u m h. follows_bind _ _ inner _ l (λ e. follows_pure (Some (bound_of m e)))) (follows_pure None))

  pub follows_select : (p : Place) → Follows (Selects p) (select inner n p)
  unfolding select
  follows_select p = follows_bind _ _ inner _ l (λ e. follows_bind _ _ (bound inner n) _ follows_bound (λ b. follows_mark (codes "]") _ _ refl (follows_pure (select_of p e b))))

  follows_selects : Follows ReadsSelects (selects inner n)
  unfolding selects
  follows_selects = follows_many (mark (codes "[")) (λ _ p. Selects p) ReadsSelects (select inner n) (λ u p h. follows_select p) (λ ts. ReadsSelects.no_select) (λ u p e es ts us rest h d r. select_from u p e es ts us rest h d r) n

  follows_named : (p : Place) (s : List ℕ) → Follows (Named p s) (named inner n p s)
  unfolding named
  follows_named p s = follows_if (mark (codes "(")) _ _ _ _
      (λ u q h. follows_bind _ _ (expressions inner n) _ follows_expressions (λ es. follows_mark (codes ")") _ _ refl (follows_pure (call_of p s es))))
      (follows_bind _ _ (selects inner n) _ follows_selects (λ ss. follows_pure (x.Name (name_of p s ss))))

  -- an argument that isn't empty has a token
  solid_at : (o : Outcome Expression) → inner [] ≡ o → (a : SystemArgument) → and_then o (λ e. pure (argument_of (Some e))) ≡ Ok (a, []) → ⊥
  solid_at (Ok x) e a h = let k = l.took [] x.0 x.1 e in let none : 0 ≡ length (k.front ++ x.1) = ap length k.split in omega (arith, shorter_expression (k.reads x.1 (inl refl)))
  solid_at (Err r) e a h = let z : ⊥ = cc in z

  pub follows_argument : Follows ReadsArgument (argument inner n)
  unfolding argument
  follows_argument = follows_ahead ReadsArgument ends_argument _ _
      (follows_weaker (λ a ts rest (i, j). rw (i, j) ReadsArgument.no_argument) (follows_pure (argument_of None)))
      (follows_weaker (λ a ts rest (e, us, d, (i, j)). rw i (ReadsArgument.argument (rw j at d))) (follows_bind _ _ inner _ l (λ e. follows_pure (argument_of (Some e)))))
      (solid_at (inner []) refl)

  follows_arguments : Follows Arguments (arguments inner n)
  unfolding arguments
  follows_arguments = follows_bind _ _ (argument inner n) _ follows_argument (λ a. follows_bind _ _ (many (mark (codes ",")) (λ _. argument inner n) n) _
      (follows_many (mark (codes ",")) (λ _ _. ReadsArgument) ReadsArguments (λ _. argument inner n) (λ u p h. follows_argument) (λ ts. ReadsArguments.no_more_arguments) (λ u p e es ts us rest h d f. ReadsArguments.more_arguments (mark_some (codes ",") u p h).0 d f) n)
      (λ others. follows_mark (codes ")") _ _ refl (follows_pure (a ∷ others))))

  follows_system : (p : Place) (s : List ℕ) → Follows (System p s) (system inner n p s)
  unfolding system
  follows_system p s = follows_if (mark (codes "(")) _ _ _ _ (λ u q h. follows_bind _ _ (arguments inner n) _ follows_arguments (λ given. follows_pure (system_of p s (Some given)))) (follows_pure (system_of p s None))

  follows_system_primary : (p : Place) (s : List ℕ) → Follows (Then (System p s) (λ c. Nothing (x.System c))) (system_primary inner n p s)
  unfolding system_primary
  follows_system_primary p s = follows_bind _ _ (system inner n p s) _ (follows_system p s) (λ c. follows_pure (x.System c))

  follows_parenthesized : (p : Place) → Follows (Parenthesized p) (parenthesized inner n p)
  unfolding parenthesized
  follows_parenthesized p = follows_bind _ _ inner _ l (λ e. follows_mark (codes ")") _ _ refl (follows_pure (x.Parenthesized p e)))

  follows_replication : (p : Place) (e : Expression) → Follows (Replication p e) (replication inner n p e)
  unfolding replication
  follows_replication p e = follows_bind _ _ (expressions inner n) _ follows_expressions (λ es. follows_mark (codes "}") _ _ refl (follows_mark (codes "}") _ _ refl (follows_pure (x.Replication p e es))))

  follows_concatenation : (p : Place) (e : Expression) → Follows (Concatenation p e) (concatenation inner n p e)
  unfolding concatenation
  follows_concatenation p e = follows_bind _ _ (more inner n) _ follows_more (λ es. follows_mark (codes "}") _ _ refl (follows_pure (x.Concatenation p (e ∷ es))))

  follows_braced : (p : Place) → Follows (Braced p) (braced inner n p)
  unfolding braced
  follows_braced p = follows_bind _ _ inner _ l (λ e. follows_if (mark (codes "{")) _ _ _ _ (λ u q h. follows_replication p e) (follows_concatenation p e))

  -- the parser behind a mark
  behind_mark : (p : Place) (m : List ℕ) (q : Parser Primary) (a b : Bool) → bytes_eq m (codes "(") ≡ a → bytes_eq m (codes "{") ≡ b
      → cond a (Some (parenthesized inner n p)) (cond b (Some (braced inner n p)) None) ≡ Some q → Follows (Behind p (k.Mark m)) q
  behind_mark p m q true b i j h = let e : parenthesized inner n p ≡ q = cc in
      subst (λ z. Follows (Behind p (k.Mark m)) z) e (follows_weaker (λ a ts rest d. inl ((bytes_eq-Decides m (codes "(")).0 i, d)) (follows_parenthesized p))
  behind_mark p m q false true i j h = let e : braced inner n p ≡ q = cc in
      subst (λ z. Follows (Behind p (k.Mark m)) z) e (follows_weaker (λ a ts rest d. inr ((bytes_eq-Decides m (codes "{")).0 j, d)) (follows_braced p))
  behind_mark p m q false false i j h = let z : ⊥ = cc in absurd z

  behind_kind : (p : Place) (kind : TokenKind) (q : Parser Primary) → primary_kind inner n p kind ≡ Some q → Follows (Behind p kind) q
  behind_kind p (k.Number m) q h = let e : pure (x.Number p m) ≡ q = cc in subst (λ z. Follows (Behind p (k.Number m)) z) e (follows_pure (x.Number p m))
  behind_kind p (k.Str s) q h = let e : pure (x.Str p s) ≡ q = cc in subst (λ z. Follows (Behind p (k.Str s)) z) e (follows_pure (x.Str p s))
  behind_kind p (k.Name s) q h = let e : named inner n p s ≡ q = cc in subst (λ z. Follows (Behind p (k.Name s)) z) e (follows_named p s)
  behind_kind p (k.System s) q h = let e : system_primary inner n p s ≡ q = cc in subst (λ z. Follows (Behind p (k.System s)) z) e (follows_system_primary p s)
  behind_kind p (k.Mark m) q h = behind_mark p m q (bytes_eq m (codes "(")) (bytes_eq m (codes "{")) refl refl h
  behind_kind p (k.Keyword s) q h = let z : ⊥ = cc in absurd z

  abbrev digit : Token
  digit = record { place = record { line = 0; column = 0 }; kind = k.Number (record { value = 0; care = 0; width = 1; sized = false; signed = false }) }

  follows_primary : Follows ReadsPrimary (primary inner n)
  unfolding primary primary_by
  follows_primary = follows_weaker (λ e ts rest (u, us, q, i, h, d). rw i (primary_from u u.kind refl e us rest d))
      (follows_must (primary_by inner n) (λ u q. Behind u.place u.kind) (λ q. q) (λ u q h. behind_kind u.place u.kind q h) digit (pure (x.Number digit.place (record { value = 0; care = 0; width = 1; sized = false; signed = false }))) refl (λ h. cc))

  pub follows_unary : Follows ReadsUnary (unary inner n)
  unfolding unary
  follows_unary = follows_weaker (λ e ts rest (os, a, us, d, f, i). rw i (ReadsUnary.unary d f))
      (follows_placed unary_of ReadsOperators ReadsPrimary (operators n) (primary inner n) (follows_operators n) follows_primary (λ os a ts us rest d f. omega (arith, no_longer_operators d, shorter_primary f)))

  follows_links : Follows ReadsLinks (links inner n)
  unfolding links
  follows_links = follows_many binary_operator (λ _ o. Then ReadsUnary (λ f. Nothing (link_of o f))) ReadsLinks (λ o. unary inner n >>= λ f. pure (link_of o f)) (λ u o h. follows_bind _ _ (unary inner n) _ follows_unary (λ f. follows_pure (link_of o f)))
      (λ ts. ReadsLinks.no_link) (λ u o e es ts us rest h (f, vs, d, (i, j)) r. rw i (ReadsLinks.link h (rw j at d) r)) n

  pub follows_binary : Follows ReadsBinary (binary inner n)
  unfolding binary
  follows_binary = follows_weaker (λ e ts rest (f, ls, us, d, g, i). rw i (ReadsBinary.binary d g))
      (follows_placed binary_of ReadsUnary ReadsLinks (unary inner n) (links inner n) follows_unary follows_links (λ f ls ts us rest d g. omega (arith, shorter_unary d, no_longer_links g)))

  follows_level : Follows ReadsExpression (level inner n)
  unfolding level
  follows_level = follows_weaker (λ e ts rest (b, c, us, d, g, i). rw i (ReadsExpression.expression d g))
      (follows_placed expression_of ReadsBinary ReadsChoice (binary inner n) (choice inner n) follows_binary follows_choice (λ b c ts us rest d g. omega (arith, shorter_binary d, no_longer_choice g)))

digit_alone : (p : Place) (m : Number) (other : List Token) → ReadsExpression (expression_of p (binary_of p (unary_of p [] (x.Number p m)) []) None) (record { place = p; kind = k.Number m } ∷ other) other
digit_alone p m other = ReadsExpression.expression (ReadsBinary.binary (ReadsUnary.unary ReadsOperators.no_operator (ReadsPrimary.number refl)) ReadsLinks.no_link) ReadsChoice.no_choice

abbrev zero_number : Number
zero_number = record { value = 0; care = 0; width = 1; sized = false; signed = false }

abbrev zero_place : Place
zero_place = record { line = 0; column = 0 }

pub follows_expr : (n : ℕ) → Follows ReadsExpression (expr n)
unfolding expr
follows_expr zero = follows_fault ReadsExpression (record { place = zero_place; kind = k.Number zero_number } ∷ []) (expression_of zero_place (binary_of zero_place (unary_of zero_place [] (x.Number zero_place zero_number)) []) None) (λ o y. digit_alone zero_place zero_number o) (λ o y h. cc)
follows_expr (suc n) = follows_level (expr n) (follows_expr n) n
