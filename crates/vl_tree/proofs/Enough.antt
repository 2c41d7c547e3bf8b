-- The number of a parser doesn't matter once it is more than there are tokens.
use Rattle.std.proofs.Common.{◌≡◌, ℕ, zero, suc, ◌+◌, ◌<◌, ◌≤◌, inl, length, List, [], ◌∷◌, Ok, Err, Option, Some, None, Bool, true, false, cond, refl, sym, ap, arith, ◌∙◌}
use Rattle.std.specs.Prelude.{codes}
use Rattle.std.specs.Str.{bytes_eq}
use Rattle.vl_base.specs.declared.place.Place.{Place}
use Rattle.vl_tree.specs.declared.token.Token.{Token}
use Rattle.vl_tree.specs.declared.token.TokenKind.{TokenKind}
use Rattle.vl_tree.specs.declared.token.TokenKind.TheVariants as k
use Rattle.vl_tree.specs.declared.tree.Expression.{Expression}
use Rattle.vl_tree.specs.declared.tree.Primary.{Primary}
use Rattle.vl_tree.specs.MarksOfGrammar.{binary_operator, unary_operator, select_mark}
use Rattle.vl_tree.specs.Grammar.{ReadsExpression, link_of}
use Rattle.vl_tree.specs.Reading.{Outcome, Parser, and_then, ◌>>=◌, pure, next_or, next_by, many, mark, behind}
use Rattle.vl_tree.specs.Expressions.{expr, level, choice, branches, binary, links, unary, operators, primary, primary_by, primary_kind, parenthesized, braced, concatenation, replication, expressions, more, named, selects, select, bound, system, system_primary, arguments, argument}
use Rattle.vl_tree.proofs.Follows.{Follows, no_longer, left, next_by_some}
use Rattle.vl_tree.proofs.Complete.{shorter_expression}
use Rattle.vl_tree.proofs.Sound.{follows_operators, follows_select, follows_argument, follows_unary, follows_binary, follows_expr}

-- ---- steps

abbrev stuck_at : List Token → Outcome Primary
stuck_at ys = Err ys

bind_agrees : {A B : Type 0} (o : Outcome A) (f g : A → Parser B) → ((a : A) (us : List Token) → o ≡ Ok (a, us) → f a us ≡ g a us) → and_then o f ≡ and_then o g
bind_agrees (Ok y) f g h = h y.0 y.1 refl
bind_agrees (Err e) f g h = refl

next_agrees : {X A : Type 0} (f : Token → Option X) (p q : X → Parser A) (ts : List Token) (y z : Outcome A) (o : Option (X × List Token)) → next_by f ts ≡ o → ((u : Token) (us : List Token) (a : X) → ts ≡ u ∷ us → p a us ≡ q a us) → y ≡ z → next_or o p y ≡ next_or o q z
next_agrees f p q ts y z (Some a) e h i = let s = next_by_some f ts a.1 a.0 e in h s.0 a.1 a.0 s.1
next_agrees f p q ts y z None e h i = i

if_agrees : {X A : Type 0} (f : Token → Option X) (p q : X → Parser A) (y z : Outcome A) (ts : List Token) → ((u : Token) (us : List Token) (a : X) → ts ≡ u ∷ us → p a us ≡ q a us) → y ≡ z → next_or (next_by f ts) p y ≡ next_or (next_by f ts) q z
if_agrees f p q y z ts h i = next_agrees f p q ts y z (next_by f ts) refl h i

many_agrees : {X A : Type 0} (f : Token → Option X) (p q : X → Parser A) (b : ℕ) → ((a : X) (us : List Token) → length us < b → p a us ≡ q a us) → ((a : X) (us : List Token) → left (p a us) ≤ length us)
    → (n m : ℕ) (ts : List Token) → length ts ≤ b → length ts < n → length ts < m → many f p n ts ≡ many f q m ts
unfolding many
many_agrees f p q b h s zero m ts i j l = absurd (omega arith)
many_agrees f p q b h s (suc n) zero ts i j l = absurd (omega arith)
many_agrees f p q b h s (suc n) (suc m) ts i j l =
    if_agrees f _ _ _ _ ts (λ u us a e. let step : length us + 1 ≡ length ts = sym (ap length e ∙ omega arith) in rw (← h a us (omega arith))
    (bind_agrees (p a us) _ _ (λ d vs g. let less : length vs ≤ length us = omega (arith, s a us, ap left g) in
    ap (λ o. and_then o (λ others. pure (d ∷ others))) (many_agrees f p q b h s n m vs (omega arith) (omega arith) (omega arith))))) refl

took_shorter : {A : Type 0} {R : A → List Token → List Token → Type 0} (p : Parser A) → Follows R p → ((a : A) (ts rest : List Token) → R a ts rest → length rest < length ts) → (ts us : List Token) (a : A) → p ts ≡ Ok (a, us) → length us < length ts
took_shorter p l s ts us a e = let t = l.took ts a us e in omega (arith, s a _ us (t.reads us (inl refl)), ap length t.split)

took_no_longer : {A : Type 0} {R : A → List Token → List Token → Type 0} (p : Parser A) → Follows R p → (ts us : List Token) (a : A) → p ts ≡ Ok (a, us) → length us ≤ length ts
took_no_longer p l ts us a e = omega (arith, no_longer p l ts, ap left e)

-- ---- the productions, where what is inside agrees on fewer tokens

module _ (i j : Parser Expression) (n m b : ℕ) (nb : b < n) (mb : b < m) (same : (ts : List Token) → length ts < b → i ts ≡ j ts) (l : Follows ReadsExpression i) where
  inside : (ts us : List Token) (e : Expression) → i ts ≡ Ok (e, us) → length us < length ts
  inside = took_shorter i l (λ e ts rest d. shorter_expression d)

  branches_agree : (ts : List Token) → length ts < b → branches i n ts ≡ branches j m ts
  unfolding branches
  branches_agree ts h = rw (← same ts h) (bind_agrees (i ts) _ _ (λ a us e. let less = inside ts us a e in
      if_agrees (mark (codes ":")) _ _ _ _ us (λ u vs p f. let step : length vs + 1 ≡ length us = sym (ap length f ∙ omega arith) in rw (← same vs (omega arith)) refl) refl))

  choice_agrees : (ts : List Token) → length ts ≤ b → choice i n ts ≡ choice j m ts
  unfolding choice
  choice_agrees ts h = if_agrees (mark (codes "?")) _ _ _ _ ts (λ u us p e. let step : length us + 1 ≡ length ts = sym (ap length e ∙ omega arith) in rw (← branches_agree us (omega arith)) refl) refl

  more_agrees : (ts : List Token) → length ts ≤ b → more i n ts ≡ more j m ts
  unfolding more
  more_agrees ts h = many_agrees (mark (codes ",")) (λ _. i) (λ _. j) b (λ a us. same us) (λ a us. no_longer i l us) n m ts h (omega arith) (omega arith)

  expressions_agree : (ts : List Token) → length ts < b → expressions i n ts ≡ expressions j m ts
  unfolding expressions
  expressions_agree ts h = rw (← same ts h) (bind_agrees (i ts) _ _ (λ a us e. let less = inside ts us a e in rw (← more_agrees us (omega arith)) refl))

  bound_agrees : (ts : List Token) → length ts ≤ b → bound i n ts ≡ bound j m ts
  unfolding bound
  bound_agrees ts h = if_agrees select_mark _ _ _ _ ts (λ u us p e. let step : length us + 1 ≡ length ts = sym (ap length e ∙ omega arith) in rw (← same us (omega arith)) refl) refl

  select_agrees : (p : Place) (ts : List Token) → length ts < b → select i n p ts ≡ select j m p ts
  unfolding select
  select_agrees p ts h = rw (← same ts h) (bind_agrees (i ts) _ _ (λ a us e. let less = inside ts us a e in rw (← bound_agrees us (omega arith)) refl))

  selects_agree : (ts : List Token) → length ts ≤ b → selects i n ts ≡ selects j m ts
  unfolding selects
  selects_agree ts h = many_agrees (mark (codes "[")) (select i n) (select j m) b (λ p us. select_agrees p us) (λ p us. no_longer (select i n p) (follows_select i l n p) us) n m ts h (omega arith) (omega arith)

  named_agrees : (p : Place) (s : List ℕ) (ts : List Token) → length ts ≤ b → named i n p s ts ≡ named j m p s ts
  unfolding named
  named_agrees p s ts h = if_agrees (mark (codes "(")) _ _ _ _ ts (λ u us q e. let step : length us + 1 ≡ length ts = sym (ap length e ∙ omega arith) in rw (← expressions_agree us (omega arith)) refl)
      (rw (← selects_agree ts h) refl)

  argument_agrees : (ts : List Token) → length ts < b → argument i n ts ≡ argument j m ts
  unfolding argument
  argument_agrees ts h = rw (← same ts h) refl

  arguments_agree : (ts : List Token) → length ts < b → arguments i n ts ≡ arguments j m ts
  unfolding arguments
  arguments_agree ts h = rw (← argument_agrees ts h) (bind_agrees (argument i n ts) _ _ (λ a us e. let less = took_no_longer (argument i n) (follows_argument i l n) ts us a e in
      rw (← many_agrees (mark (codes ",")) (λ _. argument i n) (λ _. argument j m) b (λ p vs. argument_agrees vs) (λ p vs. no_longer (argument i n) (follows_argument i l n) vs) n m us (omega arith) (omega arith) (omega arith)) refl))

  system_agrees : (p : Place) (s : List ℕ) (ts : List Token) → length ts ≤ b → system i n p s ts ≡ system j m p s ts
  unfolding system
  system_agrees p s ts h = if_agrees (mark (codes "(")) _ _ _ _ ts (λ u us q e. let step : length us + 1 ≡ length ts = sym (ap length e ∙ omega arith) in rw (← arguments_agree us (omega arith)) refl) refl

  system_primary_agrees : (p : Place) (s : List ℕ) (ts : List Token) → length ts ≤ b → system_primary i n p s ts ≡ system_primary j m p s ts
  unfolding system_primary
  system_primary_agrees p s ts h = rw (← system_agrees p s ts h) refl

  parenthesized_agrees : (p : Place) (ts : List Token) → length ts < b → parenthesized i n p ts ≡ parenthesized j m p ts
  unfolding parenthesized
  parenthesized_agrees p ts h = rw (← same ts h) refl

  replication_agrees : (p : Place) (e : Expression) (ts : List Token) → length ts < b → replication i n p e ts ≡ replication j m p e ts
  unfolding replication
  replication_agrees p e ts h = rw (← expressions_agree ts h) refl

  concatenation_agrees : (p : Place) (e : Expression) (ts : List Token) → length ts ≤ b → concatenation i n p e ts ≡ concatenation j m p e ts
  unfolding concatenation
  concatenation_agrees p e ts h = rw (← more_agrees ts h) refl

  braced_agrees : (p : Place) (ts : List Token) → length ts < b → braced i n p ts ≡ braced j m p ts
  unfolding braced
  braced_agrees p ts h = rw (← same ts h) (bind_agrees (i ts) _ _ (λ a us e. let less = inside ts us a e in
      if_agrees (mark (codes "{")) _ _ _ _ us (λ u vs q f. let step : length vs + 1 ≡ length us = sym (ap length f ∙ omega arith) in replication_agrees p a vs (omega arith)) (concatenation_agrees p a us (omega arith))))

  mark_agrees : (p : Place) (ys : List Token) (us : List Token) → length us < b → (c d : Bool) → next_or (behind us (cond c (Some (parenthesized i n p)) (cond d (Some (braced i n p)) None))) (λ q. q) (stuck_at ys) ≡ next_or (behind us (cond c (Some (parenthesized j m p)) (cond d (Some (braced j m p)) None))) (λ q. q) (stuck_at ys)
  mark_agrees p ys us h true d = parenthesized_agrees p us h
  mark_agrees p ys us h false true = braced_agrees p us h
  mark_agrees p ys us h false false = refl

  kind_agrees : (p : Place) (ys us : List Token) → length us < b → (kind : TokenKind) → next_or (behind us (primary_kind i n p kind)) (λ q. q) (stuck_at ys) ≡ next_or (behind us (primary_kind j m p kind)) (λ q. q) (stuck_at ys)
  kind_agrees p ys us h (k.Number y) = refl
  kind_agrees p ys us h (k.Str s) = refl
  kind_agrees p ys us h (k.Name s) = named_agrees p s us (omega arith)
  kind_agrees p ys us h (k.System s) = system_primary_agrees p s us (omega arith)
  kind_agrees p ys us h (k.Mark s) = mark_agrees p ys us h (bytes_eq s (codes "(")) (bytes_eq s (codes "{"))
  kind_agrees p ys us h (k.Keyword s) = refl

  primary_agrees : (ts : List Token) → length ts ≤ b → primary i n ts ≡ primary j m ts
  unfolding primary primary_by next_by
  primary_agrees [] h = refl
  primary_agrees (u ∷ us) h = kind_agrees u.place (u ∷ us) us (omega arith) u.kind

  operators_agree : (ts : List Token) → length ts ≤ b → operators n ts ≡ operators m ts
  unfolding operators
  operators_agree ts h = many_agrees unary_operator (λ o. pure o) (λ o. pure o) b (λ o us g. refl) (λ o us. omega arith) n m ts h (omega arith) (omega arith)

  unary_agrees : (ts : List Token) → length ts ≤ b → unary i n ts ≡ unary j m ts
  unfolding unary
  unary_agrees ts h = rw (← operators_agree ts h) (bind_agrees (operators n ts) _ _ (λ os us e. let less = took_no_longer (operators n) (follows_operators n) ts us os e in rw (← primary_agrees us (omega arith)) refl))

  links_agree : (ts : List Token) → length ts ≤ b → links i n ts ≡ links j m ts
  unfolding links
  links_agree ts h = many_agrees binary_operator (λ o. unary i n >>= λ f. pure (link_of o f)) (λ o. unary j m >>= λ f. pure (link_of o f)) b (λ o us g. rw (← unary_agrees us (omega arith)) refl) (λ o us. link_left o us (unary i n us) refl) n m ts h (omega arith) (omega arith)
    where
      link_left : (o : _) (us : List Token) (y : Outcome _) → unary i n us ≡ y → left (and_then y (λ f. pure (link_of o f))) ≤ length us
      link_left o us (Ok y) e = took_no_longer (unary i n) (follows_unary i l n) us y.1 y.0 e
      link_left o us (Err y) e = omega (arith, no_longer (unary i n) (follows_unary i l n) us, ap left e)

  binary_agrees : (ts : List Token) → length ts ≤ b → binary i n ts ≡ binary j m ts
  unfolding binary
  binary_agrees ts h = rw (← unary_agrees ts h) (bind_agrees (unary i n ts) _ _ (λ f us e. let less = took_no_longer (unary i n) (follows_unary i l n) ts us f e in rw (← links_agree us (omega arith)) refl))

  level_agrees : (ts : List Token) → length ts ≤ b → level i n ts ≡ level j m ts
  unfolding level
  level_agrees ts h = rw (← binary_agrees ts h) (bind_agrees (binary i n ts) _ _ (λ f us e. let less = took_no_longer (binary i n) (follows_binary i l n) ts us f e in rw (← choice_agrees us (omega arith)) refl))

pub expr_agrees : (n m : ℕ) (ts : List Token) → length ts + 1 < n → length ts + 1 < m → expr n ts ≡ expr m ts
unfolding expr
expr_agrees zero m ts h g = absurd (omega arith)
expr_agrees (suc n) zero ts h g = absurd (omega arith)
expr_agrees (suc n) (suc m) ts h g = level_agrees (expr n) (expr m) n m (length ts) (omega arith) (omega arith) (λ us less. expr_agrees n m us (omega arith) (omega arith)) (follows_expr n) ts (omega arith)
