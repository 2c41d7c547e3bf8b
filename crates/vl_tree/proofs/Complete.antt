-- Expressions: what the grammar derives is read.
use Rattle.std.proofs.Common.{◌≡◌, ℕ, zero, suc, ◌+◌, ◌<◌, ◌≤◌, length, List, [], ◌∷◌, Ok, Option, Some, None, true, false, refl, ap, arith, ◌∙◌}
use Rattle.std.specs.Prelude.{codes}
use Rattle.std.specs.Str.{bytes_eq}
use Rattle.vl_tree.specs.declared.token.Token.{Token}
use Rattle.vl_tree.specs.declared.token.TokenKind.{TokenKind}
use Rattle.vl_tree.specs.declared.token.TokenKind.TheVariants as k
use Rattle.vl_tree.specs.declared.tree.Expression.{Expression}
use Rattle.vl_tree.specs.declared.tree.Choice.{Choice}
use Rattle.vl_tree.specs.declared.tree.Binary.{Binary}
use Rattle.vl_tree.specs.declared.tree.BinaryOperator.{BinaryOperator}
use Rattle.vl_tree.specs.declared.tree.SelectMark.{SelectMark}
use Rattle.vl_tree.specs.declared.tree.Link.{Link}
use Rattle.vl_tree.specs.declared.tree.Unary.{Unary}
use Rattle.vl_tree.specs.declared.tree.UnaryMark.{UnaryMark}
use Rattle.vl_tree.specs.declared.tree.UnaryOperator.{UnaryOperator}
use Rattle.vl_tree.specs.declared.tree.Primary.{Primary}
use Rattle.vl_tree.specs.declared.tree.Name.{Name}
use Rattle.vl_tree.specs.declared.tree.Select.{Select}
use Rattle.vl_tree.specs.declared.tree.Bound.{Bound}
use Rattle.vl_tree.specs.declared.tree.SystemCall.{SystemCall}
use Rattle.vl_tree.specs.declared.tree.SystemArgument.{SystemArgument}
use Rattle.vl_tree.specs.MarksOfGrammar.{IsMark, binary_operator, unary_operator, select_mark, binary_operators, unary_operators, select_marks, found_in, mark_in, unary_at}
use Rattle.vl_tree.specs.Grammar.{ReadsOperators, ReadsExpression, ReadsChoice, ReadsBinary, ReadsLinks, ReadsUnary, ReadsPrimary, ReadsExpressions, ReadsMore, ReadsName, ReadsSelects, ReadsBound, ReadsSystemCall, ReadsArgument, ReadsArguments, link_of}
use Rattle.vl_tree.specs.Reading.{Parser, ◌>>=◌, pure, next_by, mark, many, is_next, mark_by}
use Rattle.vl_tree.specs.Expressions.{expr, level, choice, branches, binary, links, unary, operators, primary, primary_by, primary_kind, parenthesized, braced, concatenation, replication, expressions, more, named, selects, select, bound, system, system_primary, arguments, argument, ends_argument, ends_kind}
use Rattle.vl_tree.proofs.Follows.{next_by_here}
use Rattle.vl_tree.proofs.MarkLemmas.{mark_here, mark_other, table_has, table_row, unary_other}
pub use Rattle.vl_tree.proofs.Words.{by_kind as kind_first}

-- ---- what is left is shorter

pub no_longer_operators : {os : List UnaryMark} {ts rest : List Token} → ReadsOperators os ts rest → length rest ≤ length ts
no_longer_operators ReadsOperators.no_operator = omega arith
no_longer_operators (ReadsOperators.operator h d) = omega (arith, no_longer_operators d)

mutual
  pub shorter_expression : {e : Expression} {ts rest : List Token} → ReadsExpression e ts rest → length rest < length ts
  shorter_expression (ReadsExpression.expression d f) = omega (arith, shorter_binary d, no_longer_choice f)

  pub no_longer_choice : {c : Option Choice} {ts rest : List Token} → ReadsChoice c ts rest → length rest ≤ length ts
  no_longer_choice ReadsChoice.no_choice = omega arith
  no_longer_choice (ReadsChoice.choice q d c f) = omega (arith, shorter_expression d, shorter_expression f)

  pub shorter_binary : {e : Binary} {ts rest : List Token} → ReadsBinary e ts rest → length rest < length ts
  shorter_binary (ReadsBinary.binary d f) = omega (arith, shorter_unary d, no_longer_links f)

  pub no_longer_links : {ls : List Link} {ts rest : List Token} → ReadsLinks ls ts rest → length rest ≤ length ts
  no_longer_links ReadsLinks.no_link = omega arith
  no_longer_links (ReadsLinks.link h d f) = omega (arith, shorter_unary d, no_longer_links f)

  pub shorter_unary : {e : Unary} {ts rest : List Token} → ReadsUnary e ts rest → length rest < length ts
  shorter_unary (ReadsUnary.unary d f) = omega (arith, no_longer_operators d, shorter_primary f)

  pub shorter_primary : {e : Primary} {ts rest : List Token} → ReadsPrimary e ts rest → length rest < length ts
  shorter_primary (ReadsPrimary.number h) = omega arith
  shorter_primary (ReadsPrimary.string h) = omega arith
  shorter_primary (ReadsPrimary.named d) = shorter_name d
  shorter_primary (ReadsPrimary.parenthesized p d q) = omega (arith, shorter_expression d)
  shorter_primary (ReadsPrimary.concatenation p d q) = omega (arith, shorter_expressions d)
  shorter_primary (ReadsPrimary.replication p d i f q r) = omega (arith, shorter_expression d, shorter_expressions f)
  shorter_primary (ReadsPrimary.call h p d q) = omega (arith, shorter_expressions d)
  shorter_primary (ReadsPrimary.system d) = shorter_system d

  pub shorter_expressions : {es : List Expression} {ts rest : List Token} → ReadsExpressions es ts rest → length rest < length ts
  shorter_expressions (ReadsExpressions.expressions d f) = omega (arith, shorter_expression d, no_longer_more f)

  pub no_longer_more : {es : List Expression} {ts rest : List Token} → ReadsMore es ts rest → length rest ≤ length ts
  no_longer_more ReadsMore.no_more = omega arith
  no_longer_more (ReadsMore.more c d f) = omega (arith, shorter_expression d, no_longer_more f)

  pub shorter_name : {e : Name} {ts rest : List Token} → ReadsName e ts rest → length rest < length ts
  shorter_name (ReadsName.name h d) = omega (arith, no_longer_selects d)

  pub no_longer_selects : {ss : List Select} {ts rest : List Token} → ReadsSelects ss ts rest → length rest ≤ length ts
  no_longer_selects ReadsSelects.no_select = omega arith
  no_longer_selects (ReadsSelects.select p d f q r) = omega (arith, shorter_expression d, no_longer_bound f, no_longer_selects r)

  pub no_longer_bound : {b : Option Bound} {ts rest : List Token} → ReadsBound b ts rest → length rest ≤ length ts
  no_longer_bound ReadsBound.no_bound = omega arith
  no_longer_bound (ReadsBound.bound h d) = omega (arith, shorter_expression d)

  pub shorter_system : {e : SystemCall} {ts rest : List Token} → ReadsSystemCall e ts rest → length rest < length ts
  shorter_system (ReadsSystemCall.system_alone h) = omega arith
  shorter_system (ReadsSystemCall.system_call h p d f q) = omega (arith, no_longer_argument d, no_longer_arguments f)

  pub no_longer_argument : {e : SystemArgument} {ts rest : List Token} → ReadsArgument e ts rest → length rest ≤ length ts
  no_longer_argument ReadsArgument.no_argument = omega arith
  no_longer_argument (ReadsArgument.argument d) = omega (arith, shorter_expression d)

  pub no_longer_arguments : {es : List SystemArgument} {ts rest : List Token} → ReadsArguments es ts rest → length rest ≤ length ts
  no_longer_arguments ReadsArguments.no_more_arguments = omega arith
  no_longer_arguments (ReadsArguments.more_arguments c d f) = omega (arith, no_longer_argument d, no_longer_arguments f)

-- ---- what comes behind

-- no token comes with which a primary could go on
pub record EndsPrimary (rest : List Token) : Type 0 where
  pub select : next_by (mark (codes "[")) rest ≡ None
  pub call : next_by (mark (codes "(")) rest ≡ None

-- no token comes with which a binary could go on
pub record EndsBinary (rest : List Token) : Type 0 where
  pub primary : EndsPrimary rest
  pub operator : next_by binary_operator rest ≡ None

-- no token comes with which an expression could go on
pub record Ends (rest : List Token) : Type 0 where
  pub binary : EndsBinary rest
  pub question : next_by (mark (codes "?")) rest ≡ None

pub none_here : {X : Type 0} (f : Token → Option X) (u : Token) (us : List Token) → f u ≡ None → next_by f (u ∷ us) ≡ None
unfolding next_by
none_here f u us h = rw h refl

pub ends_nothing : Ends []
unfolding next_by
ends_nothing = record { binary = record { primary = record { select = refl; call = refl }; operator = refl }; question = refl }

module _ (m : List ℕ) (u : Token) (us : List Token) (h : IsMark m u) where
  pub ends_primary : bytes_eq m (codes "[") ≡ false → bytes_eq m (codes "(") ≡ false → EndsPrimary (u ∷ us)
  ends_primary a b = record { select = none_here _ u us (mark_other (codes "[") m u h a); call = none_here _ u us (mark_other (codes "(") m u h b) }

  pub ends_binary : bytes_eq m (codes "[") ≡ false → bytes_eq m (codes "(") ≡ false → found_in binary_operators m ≡ None → EndsBinary (u ∷ us)
  unfolding binary_operator
  ends_binary a b c = record { primary = ends_primary a b; operator = none_here _ u us (table_row binary_operators u m None h c) }

  pub ends_before : bytes_eq m (codes "[") ≡ false → bytes_eq m (codes "(") ≡ false → found_in binary_operators m ≡ None → bytes_eq m (codes "?") ≡ false → Ends (u ∷ us)
  ends_before a b c d = record { binary = ends_binary a b c; question = none_here _ u us (mark_other (codes "?") m u h d) }

-- an operator is no mark that goes on
operator_ends : (u : Token) (us : List Token) (o : BinaryOperator) → binary_operator u ≡ Some o → EndsPrimary (u ∷ us)
unfolding binary_operator mark
operator_ends u us o h = record {
  select = none_here _ u us (table_has binary_operators (mark_by (codes "[") u.place) None (refl, (refl, (refl, (refl, (refl, (refl, (refl, (refl, (refl, (refl, (refl, (refl, (refl, (refl, (refl, (refl, (refl, (refl, (refl, (refl, (refl, (refl, (refl, (refl, tt)))))))))))))))))))))))) u o h);
  call = none_here _ u us (table_has binary_operators (mark_by (codes "(") u.place) None (refl, (refl, (refl, (refl, (refl, (refl, (refl, (refl, (refl, (refl, (refl, (refl, (refl, (refl, (refl, (refl, (refl, (refl, (refl, (refl, (refl, (refl, (refl, (refl, tt)))))))))))))))))))))))) u o h);
}

-- a unary is followed by what follows the list, or by an operator
behind_links : {ls : List Link} {ts rest : List Token} → ReadsLinks ls ts rest → EndsPrimary rest → EndsPrimary ts
behind_links ReadsLinks.no_link h = h
behind_links (ReadsLinks.link {o} {f} {ls} {t} {ts} e d f') h = operator_ends t ts o e

behind_choice : {c : Option Choice} {ts rest : List Token} → ReadsChoice c ts rest → EndsBinary rest → EndsBinary ts
behind_choice ReadsChoice.no_choice h = h
behind_choice (ReadsChoice.choice q d c f) h = ends_binary (codes "?") _ _ q refl refl refl

behind_more : {es : List Expression} {ts rest : List Token} → ReadsMore es ts rest → Ends rest → Ends ts
behind_more ReadsMore.no_more h = h
behind_more (ReadsMore.more c d f) h = ends_before (codes ",") _ _ c refl refl refl refl

pub select_ends : (u : Token) (us : List Token) (m : SelectMark) → select_mark u ≡ Some m → Ends (u ∷ us)
unfolding select_mark binary_operator mark
select_ends u us m h = record {
  binary = record {
    primary = record {
      select = none_here _ u us (table_has select_marks (mark_by (codes "[") u.place) None (refl, (refl, (refl, tt))) u m h);
      call = none_here _ u us (table_has select_marks (mark_by (codes "(") u.place) None (refl, (refl, (refl, tt))) u m h);
    };
    operator = none_here _ u us (table_has select_marks (mark_in binary_operators) None (refl, (refl, (refl, tt))) u m h);
  };
  question = none_here _ u us (table_has select_marks (mark_by (codes "?") u.place) None (refl, (refl, (refl, tt))) u m h);
}

behind_bound : {b : Option Bound} {ts rest : List Token} → ReadsBound b ts rest → Ends rest → Ends ts
behind_bound ReadsBound.no_bound h = h
behind_bound (ReadsBound.bound {m} {e} {t} {ts} s d) h = select_ends t ts m s

behind_arguments : {es : List SystemArgument} {ts rest : List Token} → ReadsArguments es ts rest → Ends rest → Ends ts
behind_arguments ReadsArguments.no_more_arguments h = h
behind_arguments (ReadsArguments.more_arguments c d f) h = ends_before (codes ",") _ _ c refl refl refl refl

-- an argument is followed by what ends it
ends_here : (m : List ℕ) (u : Token) → IsMark m u → ends_kind (k.Mark m) ≡ true → ends_argument u ≡ true
unfolding ends_argument
ends_here m u h e = ap ends_kind h ∙ e

arguments_end : {es : List SystemArgument} {ts rest : List Token} → ReadsArguments es ts rest → is_next ends_argument rest ≡ true → is_next ends_argument ts ≡ true
arguments_end ReadsArguments.no_more_arguments h = h
arguments_end (ReadsArguments.more_arguments {a} {others} {comma} c d f) h = ends_here (codes ",") comma c refl

-- ---- what comes first

-- a primary begins with no unary operator
first_primary : {e : Primary} {ts rest : List Token} → ReadsPrimary e ts rest → next_by unary_operator ts ≡ None
first_primary (ReadsPrimary.number {t} h) = none_here _ t _ (unary_other t (kind_first (mark_in unary_operators) None t _ h refl))
first_primary (ReadsPrimary.string {t} h) = none_here _ t _ (unary_other t (kind_first (mark_in unary_operators) None t _ h refl))
first_primary (ReadsPrimary.named (ReadsName.name {n} {ss} {t} h d)) = none_here _ t _ (unary_other t (kind_first (mark_in unary_operators) None t _ h refl))
first_primary (ReadsPrimary.parenthesized {e} {opening} p d q) = none_here _ opening _ (unary_other opening (kind_first (mark_in unary_operators) None opening _ p refl))
first_primary (ReadsPrimary.concatenation {es} {opening} p d q) = none_here _ opening _ (unary_other opening (kind_first (mark_in unary_operators) None opening _ p refl))
first_primary (ReadsPrimary.replication {n} {es} {opening} p d i f q r) = none_here _ opening _ (unary_other opening (kind_first (mark_in unary_operators) None opening _ p refl))
first_primary (ReadsPrimary.call {n} {es} {t} h p d q) = none_here _ t _ (unary_other t (kind_first (mark_in unary_operators) None t _ h refl))
first_primary (ReadsPrimary.system (ReadsSystemCall.system_alone {n} {t} h)) = none_here _ t _ (unary_other t (kind_first (mark_in unary_operators) None t _ h refl))
first_primary (ReadsPrimary.system (ReadsSystemCall.system_call {n} {a} {others} {t} h p d f q)) = none_here _ t _ (unary_other t (kind_first (mark_in unary_operators) None t _ h refl))

-- an expression begins with nothing that ends an argument
unary_starts : (u : Token) (o : UnaryMark) → unary_operator u ≡ Some o → ends_argument u ≡ false
unfolding unary_operator ends_argument
unary_starts u o h = go (mark_in unary_operators u.kind) refl h
  where
    go : (x : Option UnaryOperator) → mark_in unary_operators u.kind ≡ x → unary_at u.place x ≡ Some o → ends_kind u.kind ≡ false
    go None e w = let z : ⊥ = cc in absurd z
    go (Some y) e w = table_has unary_operators ends_kind false (refl, (refl, (refl, (refl, (refl, (refl, (refl, (refl, (refl, (refl, (refl, tt))))))))))) u y e

primary_starts : {e : Primary} {ts rest : List Token} → ReadsPrimary e ts rest → is_next ends_argument ts ≡ false
unfolding ends_argument
primary_starts (ReadsPrimary.number {t} h) = kind_first ends_kind false t _ h refl
primary_starts (ReadsPrimary.string {t} h) = kind_first ends_kind false t _ h refl
primary_starts (ReadsPrimary.named (ReadsName.name {n} {ss} {t} h d)) = kind_first ends_kind false t _ h refl
primary_starts (ReadsPrimary.parenthesized {e} {opening} p d q) = kind_first ends_kind false opening _ p refl
primary_starts (ReadsPrimary.concatenation {es} {opening} p d q) = kind_first ends_kind false opening _ p refl
primary_starts (ReadsPrimary.replication {n} {es} {opening} p d i f q r) = kind_first ends_kind false opening _ p refl
primary_starts (ReadsPrimary.call {n} {es} {t} h p d q) = kind_first ends_kind false t _ h refl
primary_starts (ReadsPrimary.system (ReadsSystemCall.system_alone {n} {t} h)) = kind_first ends_kind false t _ h refl
primary_starts (ReadsPrimary.system (ReadsSystemCall.system_call {n} {a} {others} {t} h p d f q)) = kind_first ends_kind false t _ h refl

operators_start : {os : List UnaryMark} {ts rest : List Token} → ReadsOperators os ts rest → is_next ends_argument rest ≡ false → is_next ends_argument ts ≡ false
operators_start ReadsOperators.no_operator h = h
operators_start (ReadsOperators.operator {o} {os} {t} e d) h = unary_starts t o e

pub expression_starts : {e : Expression} {ts rest : List Token} → ReadsExpression e ts rest → is_next ends_argument ts ≡ false
expression_starts (ReadsExpression.expression (ReadsBinary.binary (ReadsUnary.unary d p) ls) c) = operators_start d (primary_starts p)

-- the mark that closes a select is no mark between bounds
pub closing_apart : (u : Token) (us : List Token) → IsMark (codes "]") u → next_by select_mark (u ∷ us) ≡ None
unfolding select_mark
closing_apart u us h = none_here select_mark u us (table_row select_marks u (codes "]") None h refl)

-- ---- what the grammar derives is read, where no token follows with which it could go on

pub mark_next : (m : List ℕ) (u : Token) (us : List Token) → IsMark m u → bytes_eq m m ≡ true → next_by (mark m) (u ∷ us) ≡ Some (u.place, us)
mark_next m u us h e = next_by_here (mark m) u us u.place (mark_here m m u h e)

pub mark_apart : (m n : List ℕ) (u : Token) (us : List Token) → IsMark n u → bytes_eq n m ≡ false → next_by (mark m) (u ∷ us) ≡ None
mark_apart m n u us h e = none_here (mark m) u us (mark_other m n u h e)

primary_at : (inner : Parser Expression) (n : ℕ) (t : Token) (kind : TokenKind) (rest : List Token) (p : Parser Primary) → t.kind ≡ kind → primary_kind inner n t.place kind ≡ Some p → primary inner n (t ∷ rest) ≡ p rest
unfolding primary primary_by
primary_at inner n t kind rest p h e = rw (next_by_here (primary_by inner n) t rest p (ap (primary_kind inner n t.place) h ∙ e)) refl

selects_apart : {ss : List Select} {ts rest : List Token} → ReadsSelects ss ts rest → EndsPrimary rest → next_by (mark (codes "(")) ts ≡ None
selects_apart ReadsSelects.no_select h = h.call
selects_apart (ReadsSelects.select {e} {b} {ss} {opening} p d f q r) h = mark_apart (codes "(") (codes "[") opening _ p refl

more_apart : {es : List Expression} {ts rest : List Token} → ReadsMore es ts rest → next_by (mark (codes "{")) rest ≡ None → next_by (mark (codes "{")) ts ≡ None
more_apart ReadsMore.no_more h = h
more_apart (ReadsMore.more {e} {es} {comma} c d f) h = mark_apart (codes "{") (codes ",") comma _ c refl

reads_operators : {os : List UnaryMark} {ts rest : List Token} → ReadsOperators os ts rest → (n : ℕ) → length ts < n → next_by unary_operator rest ≡ None → operators n ts ≡ Ok (os, rest)
unfolding operators many
reads_operators d zero h e = absurd (omega arith)
reads_operators ReadsOperators.no_operator (suc n) h e = rw e refl
reads_operators (ReadsOperators.operator {o} {os} {t} {ts} i d) (suc n) h e = rw (next_by_here unary_operator t ts o i, reads_operators d n (omega arith) e) refl

mutual
  unfolding expr level choice branches binary links unary parenthesized braced concatenation replication expressions more named selects select bound system system_primary arguments argument many

  pub reads_expression : {e : Expression} {ts rest : List Token} → ReadsExpression e ts rest → (n : ℕ) → length ts + 1 < n → Ends rest → expr n ts ≡ Ok (e, rest)
  reads_expression d zero h w = absurd (omega arith)
  reads_expression (ReadsExpression.expression d f) (suc n) h w =
      rw (reads_binary d n (omega arith) (behind_choice f w.binary), reads_choice f n (omega (arith, shorter_binary d)) w) refl

  pub reads_choice : {c : Option Choice} {ts rest : List Token} → ReadsChoice c ts rest → (n : ℕ) → length ts < n → Ends rest → choice (expr n) n ts ≡ Ok (c, rest)
  reads_choice ReadsChoice.no_choice n h w = rw w.question refl
  reads_choice (ReadsChoice.choice {a} {b} {question} {colon} {ts} {us} q d c f) n h w =
      rw (mark_next (codes "?") question ts q refl, reads_expression d n (omega arith) (ends_before (codes ":") colon us c refl refl refl refl), mark_next (codes ":") colon us c refl, reads_expression f n (omega (arith, shorter_expression d)) w) refl

  pub reads_binary : {e : Binary} {ts rest : List Token} → ReadsBinary e ts rest → (n : ℕ) → length ts < n → EndsBinary rest → binary (expr n) n ts ≡ Ok (e, rest)
  reads_binary (ReadsBinary.binary d f) n h w = rw (reads_unary d n h (behind_links f w.primary), reads_links f n n (omega (arith, shorter_unary d)) (omega (arith, shorter_unary d)) w) refl

  pub reads_links : {ls : List Link} {ts rest : List Token} → ReadsLinks ls ts rest → (n m : ℕ) → length ts < n → length ts < m → EndsBinary rest → many binary_operator (λ o. unary (expr n) n >>= λ f. pure (link_of o f)) m ts ≡ Ok (ls, rest)
  reads_links d n zero h l w = absurd (omega arith)
  reads_links ReadsLinks.no_link n (suc m) h l w = rw w.operator refl
  reads_links (ReadsLinks.link {o} {f} {ls} {t} {ts} i d f') n (suc m) h l w =
      rw (next_by_here binary_operator t ts o i, reads_unary d n (omega arith) (behind_links f' w.primary), reads_links f' n m (omega (arith, shorter_unary d)) (omega (arith, shorter_unary d)) w) refl

  pub reads_unary : {e : Unary} {ts rest : List Token} → ReadsUnary e ts rest → (n : ℕ) → length ts < n → EndsPrimary rest → unary (expr n) n ts ≡ Ok (e, rest)
  reads_unary (ReadsUnary.unary d f) n h w = rw (reads_operators d n h (first_primary f), reads_primary f n (omega (arith, no_longer_operators d)) w) refl

  pub reads_primary : {e : Primary} {ts rest : List Token} → ReadsPrimary e ts rest → (n : ℕ) → length ts < n → EndsPrimary rest → primary (expr n) n ts ≡ Ok (e, rest)
  reads_primary (ReadsPrimary.number {t} h) n l w = primary_at (expr n) n t _ _ _ h refl
  reads_primary (ReadsPrimary.string {t} h) n l w = primary_at (expr n) n t _ _ _ h refl
  reads_primary (ReadsPrimary.named (ReadsName.name {n = m} {ss} {t} {ts} h d)) n l w =
      primary_at (expr n) n t (k.Name m) ts (named (expr n) n t.place m) h refl ∙ rw (selects_apart d w, reads_selects d n n (omega arith) (omega arith) w) refl
  reads_primary (ReadsPrimary.parenthesized {e} {opening} {closing} {ts} {rest} p d q) n l w =
      primary_at (expr n) n opening (k.Mark (codes "(")) ts (parenthesized (expr n) n opening.place) p refl
      ∙ rw (reads_expression d n (omega arith) (ends_before (codes ")") closing rest q refl refl refl refl), mark_next (codes ")") closing rest q refl) refl
  reads_primary (ReadsPrimary.concatenation {es} {opening} {closing} {ts} {rest} p (ReadsExpressions.expressions d f) q) n l w =
      primary_at (expr n) n opening (k.Mark (codes "{")) ts (braced (expr n) n opening.place) p refl
      ∙ rw (
        reads_expression d n (omega arith) (behind_more f (ends_before (codes "}") closing rest q refl refl refl refl)),
        more_apart f (mark_apart (codes "{") (codes "}") closing rest q refl),
        reads_more f n n (omega (arith, shorter_expression d)) (omega (arith, shorter_expression d)) (ends_before (codes "}") closing rest q refl refl refl refl) (mark_apart (codes ",") (codes "}") closing rest q refl),
        mark_next (codes "}") closing rest q refl,
      ) refl
  reads_primary (ReadsPrimary.replication {n = m} {es} {opening} {inner} {closing} {last} {ts} {us} {rest} p d i f q r) n l w =
      primary_at (expr n) n opening (k.Mark (codes "{")) ts (braced (expr n) n opening.place) p refl
      ∙ rw (
        reads_expression d n (omega arith) (ends_before (codes "{") inner us i refl refl refl refl),
        mark_next (codes "{") inner us i refl,
        reads_expressions f n (omega (arith, shorter_expression d)) (ends_before (codes "}") closing (last ∷ rest) q refl refl refl refl) (mark_apart (codes ",") (codes "}") closing (last ∷ rest) q refl),
        mark_next (codes "}") closing (last ∷ rest) q refl,
        mark_next (codes "}") last rest r refl,
      ) refl
  reads_primary (ReadsPrimary.call {n = m} {es} {t} {opening} {closing} {ts} {rest} h p d q) n l w =
      primary_at (expr n) n t (k.Name m) (opening ∷ ts) (named (expr n) n t.place m) h refl
      ∙ rw (mark_next (codes "(") opening ts p refl, reads_expressions d n (omega arith) (ends_before (codes ")") closing rest q refl refl refl refl) (mark_apart (codes ",") (codes ")") closing rest q refl), mark_next (codes ")") closing rest q refl) refl
  reads_primary (ReadsPrimary.system (ReadsSystemCall.system_alone {n = m} {t} {rest} h)) n l w =
      primary_at (expr n) n t (k.System m) rest (system_primary (expr n) n t.place m) h refl ∙ rw w.call refl
  reads_primary (ReadsPrimary.system (ReadsSystemCall.system_call {n = m} {a} {others} {t} {opening} {closing} {ts} {us} {rest} h p d f q)) n l w =
      primary_at (expr n) n t (k.System m) (opening ∷ ts) (system_primary (expr n) n t.place m) h refl
      ∙ rw (
        mark_next (codes "(") opening ts p refl,
        reads_argument d n (omega arith) (behind_arguments f (ends_before (codes ")") closing rest q refl refl refl refl)) (arguments_end f (ends_here (codes ")") closing q refl)),
        reads_arguments f n n (omega (arith, no_longer_argument d)) (omega (arith, no_longer_argument d)) (ends_before (codes ")") closing rest q refl refl refl refl) (mark_apart (codes ",") (codes ")") closing rest q refl) (ends_here (codes ")") closing q refl),
        mark_next (codes ")") closing rest q refl,
      ) refl

  pub reads_expressions : {es : List Expression} {ts rest : List Token} → ReadsExpressions es ts rest → (n : ℕ) → length ts + 1 < n → Ends rest → next_by (mark (codes ",")) rest ≡ None → expressions (expr n) n ts ≡ Ok (es, rest)
  reads_expressions (ReadsExpressions.expressions d f) n h w c = rw (reads_expression d n h (behind_more f w), reads_more f n n (omega (arith, shorter_expression d)) (omega (arith, shorter_expression d)) w c) refl

  pub reads_more : {es : List Expression} {ts rest : List Token} → ReadsMore es ts rest → (n m : ℕ) → length ts < n → length ts < m → Ends rest → next_by (mark (codes ",")) rest ≡ None → many (mark (codes ",")) (λ _. expr n) m ts ≡ Ok (es, rest)
  reads_more d n zero h l w c = absurd (omega arith)
  reads_more ReadsMore.no_more n (suc m) h l w c = rw c refl
  reads_more (ReadsMore.more {e} {es} {comma} {ts} i d f) n (suc m) h l w c =
      rw (mark_next (codes ",") comma ts i refl, reads_expression d n (omega arith) (behind_more f w), reads_more f n m (omega (arith, shorter_expression d)) (omega (arith, shorter_expression d)) w c) refl

  pub reads_selects : {ss : List Select} {ts rest : List Token} → ReadsSelects ss ts rest → (n m : ℕ) → length ts < n → length ts < m → EndsPrimary rest → many (mark (codes "[")) (select (expr n) n) m ts ≡ Ok (ss, rest)
  reads_selects d n zero h l w = absurd (omega arith)
  reads_selects ReadsSelects.no_select n (suc m) h l w = rw w.select refl
  reads_selects (ReadsSelects.select {e} {b} {ss} {opening} {closing} {ts} {us} {vs} p d f q r) n (suc m) h l w =
      rw (
        mark_next (codes "[") opening ts p refl,
        reads_expression d n (omega arith) (behind_bound f (ends_before (codes "]") closing vs q refl refl refl refl)),
        reads_bound f n (omega (arith, shorter_expression d)) (ends_before (codes "]") closing vs q refl refl refl refl) (closing_apart closing vs q),
        mark_next (codes "]") closing vs q refl,
        reads_selects r n m (omega (arith, shorter_expression d, no_longer_bound f)) (omega (arith, shorter_expression d, no_longer_bound f)) w,
      ) refl

  pub reads_bound : {b : Option Bound} {ts rest : List Token} → ReadsBound b ts rest → (n : ℕ) → length ts < n → Ends rest → next_by select_mark rest ≡ None → bound (expr n) n ts ≡ Ok (b, rest)
  reads_bound ReadsBound.no_bound n h w c = rw c refl
  reads_bound (ReadsBound.bound {m} {e} {t} {ts} i d) n h w c = rw (next_by_here select_mark t ts m i, reads_expression d n (omega arith) w) refl

  pub reads_argument : {a : SystemArgument} {ts rest : List Token} → ReadsArgument a ts rest → (n : ℕ) → length ts + 1 < n → Ends rest → is_next ends_argument rest ≡ true → argument (expr n) n ts ≡ Ok (a, rest)
  reads_argument ReadsArgument.no_argument n h w c = rw c refl
  reads_argument (ReadsArgument.argument d) n h w c = rw (expression_starts d, reads_expression d n h w) refl

  pub reads_arguments : {es : List SystemArgument} {ts rest : List Token} → ReadsArguments es ts rest → (n m : ℕ) → length ts < n → length ts < m → Ends rest → next_by (mark (codes ",")) rest ≡ None → is_next ends_argument rest ≡ true → many (mark (codes ",")) (λ _. argument (expr n) n) m ts ≡ Ok (es, rest)
  reads_arguments d n zero h l w c e = absurd (omega arith)
  reads_arguments ReadsArguments.no_more_arguments n (suc m) h l w c e = rw c refl
  reads_arguments (ReadsArguments.more_arguments {a} {others} {comma} {ts} i d f) n (suc m) h l w c e =
      rw (mark_next (codes ",") comma ts i refl, reads_argument d n (omega arith) (behind_arguments f w) (arguments_end f e), reads_arguments f n m (omega (arith, no_longer_argument d)) (omega (arith, no_longer_argument d)) w c e) refl
