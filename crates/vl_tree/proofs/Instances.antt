-- Instances: what is read follows the grammar, and what the grammar derives within bounds is read.
use Rattle.std.proofs.Common.{◌≡◌, ℕ, ◌+◌, ◌<◌, ◌≤◌, inl, inr, length, List, [], ◌∷◌, Option, Some, None, Bool, true, false, refl, ap, arith}
use Rattle.std.specs.Prelude.{codes}
use Rattle.std.specs.Str.{bytes_eq}
use Rattle.vl_base.specs.declared.place.Place.{Place}
use Rattle.vl_tree.specs.declared.token.Token.{Token}
use Rattle.vl_tree.specs.declared.token.TokenKind.TheVariants as k
use Rattle.vl_tree.specs.declared.tree.Expression.{Expression}
use Rattle.vl_tree.specs.declared.tree.Primary.{Primary}
use Rattle.vl_tree.specs.declared.tree.UnaryMark.{UnaryMark}
use Rattle.vl_tree.specs.declared.tree.UnaryOperator.{UnaryOperator}
use Rattle.vl_tree.specs.MarksOfGrammar.{IsMark, unary_operator, unary_operators, unary_at, mark_in}
use Rattle.vl_tree.specs.Grammar.{ReadsExpression, ReadsBinary, ReadsUnary, ReadsPrimary, ReadsOperators, ReadsName, ReadsSystemCall}
use Rattle.vl_tree.specs.Reading.{next_by, is_next, mark, mark_by, behind}
use Rattle.vl_tree.specs.Expressions.{ends_argument}
use Rattle.vl_tree.proofs.MarkLemmas.{EachHas, mark_here, mark_some, mark_other, table_has}
use Rattle.vl_tree.proofs.Complete.{Ends, ends_before, none_here, expression_starts}
use Rattle.vl_tree.specs.declared.source_tree.Lvalue.{Lvalue}
use Rattle.vl_tree.specs.declared.source_tree.Instance.{Instance}
use Rattle.vl_tree.specs.declared.source_tree.NamedInstance.{NamedInstance}
use Rattle.vl_tree.specs.declared.source_tree.Connection.{Connection}
use Rattle.vl_tree.specs.declared.source_tree.Connection.TheVariants as c
use Rattle.vl_tree.specs.Bounds.{Bounds}
use Rattle.vl_tree.specs.Lists.{ReadsOptional, ReadsList, ReadsParenthesized, ReadsIdentifier}
use Rattle.vl_tree.specs.Statements.{ReadsWhole}
use Rattle.vl_tree.specs.GrammarOfSource.{ReadsConnection, ReadsConnections, ReadsNamedInstance, ReadsOverrides, ReadsInstance}
use Rattle.vl_tree.specs.Parsers.{Parser, ◌>>=◌, pure, if_ahead, is_some, is_mark, identifier, optional, list}
use Rattle.vl_tree.specs.Parsing.{whole, target, named_connection, ordered_of, connection, connections, named_instance_of, named_instance, instance_of, instance}
use Rattle.vl_tree.proofs.Words.{no_mark}
use Rattle.vl_tree.proofs.FollowsOfSource.{Relation, Follows, Then, Either, Nothing, bounds, follows_weaker, follows_pure, follows_bind, follows_if, follows_mark, follows_ahead, follows_placed}
use Rattle.vl_tree.proofs.FollowsLists.{follows_identifier, follows_optional, follows_parenthesized, follows_list}
use Rattle.vl_tree.proofs.Completing.{Reads, Opens, reads_bind, read_now, reads_optional, reads_parenthesized, reads_list, identifier_reads, mark_next, mark_apart}
use Rattle.vl_tree.proofs.Wholes.{shorter_whole}
use Rattle.vl_tree.proofs.WholesComplete.{reads_whole, ends_mark}
use Rattle.vl_tree.proofs.PartsOfSource.{Named, shorter_identifier, no_longer_optional, shorter_list, no_longer_list, shorter_parenthesized, named_identifier, named_list, named_no_mark}

-- ---- what comes first

-- a mark with which no expression begins
module _ (m : List ℕ) (parenthesis : bytes_eq (codes "(") m ≡ false) (brace : bytes_eq (codes "{") m ≡ false) (unary : (p : Place) → EachHas unary_operators (λ x. mark_by m p (k.Mark x)) None) where
  unary_no_mark : (v : Token) (o : UnaryMark) → unary_operator v ≡ Some o → mark m v ≡ None
  unfolding unary_operator mark
  unary_no_mark v o h = go (mark_in unary_operators v.kind) refl h
    where
      go : (x : Option UnaryOperator) → mark_in unary_operators v.kind ≡ x → unary_at v.place x ≡ Some o → mark_by m v.place v.kind ≡ None
      go None e i = let z : ⊥ = cc in absurd z
      go (Some y) e i = table_has unary_operators (mark_by m v.place) None (unary v.place) v y e

  primary_no_mark : {e : Primary} {ts rest : List Token} → ReadsPrimary e ts rest → next_by (mark m) ts ≡ None
  primary_no_mark (ReadsPrimary.number {t} h) = none_here _ t _ (no_mark m t _ h refl)
  primary_no_mark (ReadsPrimary.string {t} h) = none_here _ t _ (no_mark m t _ h refl)
  primary_no_mark (ReadsPrimary.named (ReadsName.name {n} {ss} {t} h d)) = none_here _ t _ (no_mark m t _ h refl)
  primary_no_mark (ReadsPrimary.parenthesized {e} {opening} p d q) = none_here _ opening _ (mark_other m (codes "(") opening p parenthesis)
  primary_no_mark (ReadsPrimary.concatenation {es} {opening} p d q) = none_here _ opening _ (mark_other m (codes "{") opening p brace)
  primary_no_mark (ReadsPrimary.replication {n} {es} {opening} p d i f q r) = none_here _ opening _ (mark_other m (codes "{") opening p brace)
  primary_no_mark (ReadsPrimary.call {n} {es} {t} h p d q) = none_here _ t _ (no_mark m t _ h refl)
  primary_no_mark (ReadsPrimary.system (ReadsSystemCall.system_alone {n} {t} h)) = none_here _ t _ (no_mark m t _ h refl)
  primary_no_mark (ReadsPrimary.system (ReadsSystemCall.system_call {n} {a} {others} {t} h p d f q)) = none_here _ t _ (no_mark m t _ h refl)

  operators_no_mark : {os : List UnaryMark} {ts rest : List Token} → ReadsOperators os ts rest → next_by (mark m) rest ≡ None → next_by (mark m) ts ≡ None
  operators_no_mark ReadsOperators.no_operator h = h
  operators_no_mark (ReadsOperators.operator {o} {os} {t} e d) h = none_here _ t _ (unary_no_mark t o e)

  pub expression_no_mark : {e : Expression} {ts rest : List Token} → ReadsExpression e ts rest → next_by (mark m) ts ≡ None
  expression_no_mark (ReadsExpression.expression (ReadsBinary.binary (ReadsUnary.unary d p) ls) c) = operators_no_mark d (primary_no_mark p)

pub expression_no_dot : {e : Expression} {ts rest : List Token} → ReadsExpression e ts rest → next_by (mark (codes ".")) ts ≡ None
expression_no_dot d = expression_no_mark (codes ".") refl refl (λ p. (refl, (refl, (refl, (refl, (refl, (refl, (refl, (refl, (refl, (refl, (refl, tt)))))))))))) d

pub expression_no_closing : {e : Expression} {ts rest : List Token} → ReadsExpression e ts rest → next_by (mark (codes ")")) ts ≡ None
expression_no_closing d = expression_no_mark (codes ")") refl refl (λ p. (refl, (refl, (refl, (refl, (refl, (refl, (refl, (refl, (refl, (refl, (refl, tt)))))))))))) d

some_mark : (m : List ℕ) (v : Token) (us : List Token) (o : Option Place) → mark m v ≡ o → behind us o ≡ None → is_some o ≡ false
some_mark m v us None e h = refl
some_mark m v us (Some p) e h = let z : ⊥ = cc in absurd z

pub no_next_mark : (m : List ℕ) (ts : List Token) → next_by (mark m) ts ≡ None → is_next (is_mark m) ts ≡ false
unfolding next_by
no_next_mark m [] h = refl
no_next_mark m (v ∷ us) h = some_mark m v us (mark m v) refl h

pub next_mark : (m : List ℕ) (v : Token) (us : List Token) → IsMark m v → bytes_eq m m ≡ true → is_next (is_mark m) (v ∷ us) ≡ true
next_mark m v us h e = rw (mark_here m m v h e) refl

-- ---- how many tokens are left

pub no_longer_connection : {b : Bounds} {p : Place} {a : Connection} {ts rest : List Token} → ReadsConnection b p a ts rest → length rest ≤ length ts
no_longer_connection ReadsConnection.empty = omega arith
no_longer_connection (ReadsConnection.ordered d) = omega (arith, shorter_whole d)
no_longer_connection {b} (ReadsConnection.named h d f) = omega (arith, shorter_identifier d, shorter_parenthesized (ReadsOptional (ReadsWhole b)) (λ a ts rest q. no_longer_optional (ReadsWhole b) (λ a ts rest q. shorter_whole q) q) f)

pub shorter_connections : {b : Bounds} {p : Place} {es : List Connection} {ts rest : List Token} → ReadsConnections b p es ts rest → length rest < length ts
shorter_connections {b} {p} d = shorter_parenthesized (ReadsList (ReadsConnection b p)) (λ a ts rest f. no_longer_list (ReadsConnection b p) (λ a ts rest q. no_longer_connection q) f) d

pub shorter_named_instance : {b : Bounds} {a : NamedInstance} {ts rest : List Token} → ReadsNamedInstance b a ts rest → length rest < length ts
shorter_named_instance (ReadsNamedInstance.instance_of d f) = omega (arith, shorter_identifier d, shorter_connections f)

pub shorter_overrides : {b : Bounds} {p : Place} {es : List Connection} {ts rest : List Token} → ReadsOverrides b p es ts rest → length rest < length ts
shorter_overrides (ReadsOverrides.overrides h d) = omega (arith, shorter_connections d)

pub shorter_instance : {b : Bounds} {a : Instance} {ts rest : List Token} → ReadsInstance b a ts rest → length rest < length ts
shorter_instance {b} (ReadsInstance.instances {n} d f g h) = omega (arith, shorter_identifier d, no_longer_optional (ReadsOverrides b n.place) (λ a ts rest q. shorter_overrides q) f, shorter_list (ReadsNamedInstance b) (λ a ts rest q. shorter_named_instance q) g)

-- ---- what is read follows the grammar

module _ (whole : Parser Expression) (target : Parser Lvalue) (n : ℕ) (lw : Follows ReadsWhole whole) where
  follows_value_or_nothing : Follows (λ b. ReadsOptional (ReadsWhole b)) (if_ahead (is_mark (codes ")")) (pure None) (whole >>= λ a. pure (Some a)))
  follows_value_or_nothing = follows_ahead (λ b. ReadsOptional (ReadsWhole b)) (is_mark (codes ")")) _ _
      (follows_weaker (λ b a ts rest (i, j). rw (i, j) ReadsOptional.nothing) (follows_pure None))
      (follows_weaker (λ b a ts rest (e, us, d, (i, j)). rw i (ReadsOptional.something (rw j at d))) (follows_bind ReadsWhole _ whole _ lw (λ e. follows_pure (Some e))))

  abbrev NamedConnection : Place → Relation Connection
  NamedConnection p = Then (λ _. ReadsIdentifier) (λ i. Then (λ b. ReadsParenthesized (ReadsOptional (ReadsWhole b))) (λ a. Nothing (c.Named p i a)))

  follows_named_connection : (p : Place) → Follows (NamedConnection p) (named_connection whole target n p)
  unfolding named_connection
  follows_named_connection p = follows_bind (λ _. ReadsIdentifier) _ identifier _ follows_identifier (λ i. follows_bind (λ b. ReadsParenthesized (ReadsOptional (ReadsWhole b))) _ _ _
      (follows_parenthesized (λ b. ReadsOptional (ReadsWhole b)) _ follows_value_or_nothing) (λ a. follows_pure (c.Named p i a)))

  connection_from : (p : Place) (b : Bounds) (a : Connection) (ts rest : List Token) → Either (mark (codes ".")) (λ _ q. NamedConnection q) (λ b a ts rest. ReadsConnection b p a ts rest) b a ts rest → ReadsConnection b p a ts rest
  connection_from p b a ts rest (inl (v, us, q, x, h, (i, vs, d, (e, ws, f, (j, o))))) = let w = mark_some (codes ".") v q h in rw (x, j, w.1) (ReadsConnection.named w.0 d (rw o at f))
  connection_from p b a ts rest (inr d) = d

  pub follows_connection : (p : Place) → Follows (λ b. ReadsConnection b p) (connection whole target n p)
  unfolding connection
  follows_connection p = follows_weaker (connection_from p)
      (follows_if (mark (codes ".")) (λ _ q. NamedConnection q) (λ b. ReadsConnection b p) (named_connection whole target n) _ (λ v q h. follows_named_connection q)
      (follows_ahead (λ b. ReadsConnection b p) ends_argument _ _
      (follows_weaker (λ b a ts rest (i, j). rw (i, j) ReadsConnection.empty) (follows_pure (c.Ordered p None)))
      (follows_weaker (λ b a ts rest (e, x, us, d, (i, j), q). rw q (ReadsConnection.ordered (rw j at d)))
      (follows_placed (ordered_of whole target n) ReadsWhole (Nothing tt) whole (pure tt) lw (follows_pure tt) (λ b e x ts us rest d (i, j). omega (arith, shorter_whole d, ap length j))))))

  pub follows_connections : (p : Place) → Follows (λ b. ReadsConnections b p) (connections whole target n p)
  unfolding connections
  follows_connections p = follows_parenthesized (λ b. ReadsList (ReadsConnection b p)) _ (follows_list (λ b. ReadsConnection b p) (connection whole target n p) (follows_connection p) n)

  pub follows_named_instance : Follows ReadsNamedInstance (named_instance whole target n)
  unfolding named_instance
  follows_named_instance = follows_weaker (λ b a ts rest (i, us, d, (cs, vs, f, (j, o))). rw j (ReadsNamedInstance.instance_of d (rw o at f)))
      (follows_bind (λ _. ReadsIdentifier) _ identifier _ follows_identifier (λ i. follows_bind (λ b. ReadsConnections b i.place) _ (connections whole target n i.place) _ (follows_connections i.place) (λ cs. follows_pure (named_instance_of whole target n i cs))))

  follows_overrides : (p : Place) → Follows (λ b. ReadsOptional (ReadsOverrides b p)) (optional (mark (codes "#")) (λ _. connections whole target n p))
  follows_overrides p = follows_optional (mark (codes "#")) (λ _ _ b. ReadsConnections b p) (λ b. ReadsOverrides b p) (λ _. connections whole target n p) (λ v x h. follows_connections p) (λ b v x a ts rest h d. ReadsOverrides.overrides (mark_some (codes "#") v x h).0 d)

  -- behind the name of the module
  pub follows_instance : (v : Token) (name : List ℕ) → v.kind ≡ k.Name name → Follows (λ b a ts rest. ReadsInstance b a (v ∷ ts) rest) (instance whole target n (record { place = v.place; name = name }))
  unfolding instance
  follows_instance v name h = follows_weaker (λ b a ts rest (os, us, d, (is, vs, f, (w, ws, x, e, i, (j, o)))). rw j (ReadsInstance.instances (ReadsIdentifier.identifier h) d (rw (e, o) at f) (mark_some (codes ";") w x i).0))
      (follows_bind (λ b. ReadsOptional (ReadsOverrides b v.place)) _ _ _ (follows_overrides v.place) (λ os. follows_bind (λ b. ReadsList (ReadsNamedInstance b)) _ (list (named_instance whole target n) n) _ (follows_list ReadsNamedInstance (named_instance whole target n) follows_named_instance n)
      (λ is. follows_mark (codes ";") _ _ refl (follows_pure (instance_of whole target n (record { place = v.place; name = name }) os is)))))

-- ---- what the grammar derives is read

-- what may follow a connection
pub record BehindConnection (rest : List Token) : Type 0 where
  pub ends : Ends rest
  pub argument : is_next ends_argument rest ≡ true
  pub dot : next_by (mark (codes ".")) rest ≡ None

behind_comma : (v : Token) (us : List Token) → IsMark (codes ",") v → BehindConnection (v ∷ us)
behind_comma v us h = record { ends = ends_before (codes ",") v us h refl refl refl refl; argument = ends_mark (codes ",") v h refl; dot = mark_apart (codes ".") (codes ",") v us h refl }

behind_closing : (v : Token) (us : List Token) → IsMark (codes ")") v → BehindConnection (v ∷ us)
behind_closing v us h = record { ends = ends_before (codes ")") v us h refl refl refl refl; argument = ends_mark (codes ")") v h refl; dot = mark_apart (codes ".") (codes ")") v us h refl }

module _ (n : ℕ) {s t : Bool} {u : ℕ} where
  value_or_nothing : {a : Option Expression} {ts : List Token} (closing : Token) (rest : List Token) → ReadsOptional (ReadsWhole (bounds s t u)) a ts (closing ∷ rest) → IsMark (codes ")") closing → length ts + 1 < n → Reads s t u a (closing ∷ rest) (if_ahead (is_mark (codes ")")) (pure None) (whole n >>= λ a. pure (Some a)) ts)
  value_or_nothing closing rest ReadsOptional.nothing i l = rw (next_mark (codes ")") closing rest i refl) read_now
  value_or_nothing closing rest (ReadsOptional.something {a} {ts} d) i l = rw (no_next_mark (codes ")") ts (expression_no_closing d.reads)) (reads_bind _ (reads_whole d n l (ends_before (codes ")") closing rest i refl refl refl refl)) read_now)

  reads_connection : {p : Place} {a : Connection} {ts rest : List Token} → ReadsConnection (bounds s t u) p a ts rest → length ts + 1 < n → BehindConnection rest → Reads s t u a rest (connection (whole n) (target n) n p ts)
  unfolding connection named_connection
  reads_connection (ReadsConnection.empty {rest}) l w = rw (w.dot, w.argument) read_now
  reads_connection (ReadsConnection.ordered d) l w = rw (expression_no_dot d.reads, expression_starts d.reads) (reads_bind _ (reads_whole d n l w.ends) read_now)
  reads_connection (ReadsConnection.named {n = i} {a} {dot} {ts} {us} {rest} h d f) l w =
      rw (mark_next (codes ".") dot ts h refl, identifier_reads d)
      (reads_bind _ (reads_parenthesized _ (ReadsOptional (ReadsWhole (bounds s t u))) f (λ vs closing less q j. value_or_nothing closing rest q j (omega (arith, less, l, shorter_identifier d)))) read_now)

  pub reads_connections : {p : Place} {es : List Connection} {ts rest : List Token} → ReadsConnections (bounds s t u) p es ts rest → length ts + 1 < n → Reads s t u es rest (connections (whole n) (target n) n p ts)
  unfolding connections
  reads_connections {p} {es} {ts} {rest} d l = reads_parenthesized (list (connection (whole n) (target n) n p) n) (ReadsList (ReadsConnection (bounds s t u) p)) d (λ us closing less f i.
      reads_list (connection (whole n) (target n) n p) (ReadsConnection (bounds s t u) p) BehindConnection behind_comma (length us) (λ a vs others q g w. reads_connection g (omega (arith, q, less, l)) w) (λ a vs others q. no_longer_connection q)
      f n (omega arith) (omega (arith, less, l)) (behind_closing closing rest i) (mark_apart (codes ",") (codes ")") closing rest i refl))

  reads_named_instance : {a : NamedInstance} {ts rest : List Token} → ReadsNamedInstance (bounds s t u) a ts rest → length ts + 1 < n → Reads s t u a rest (named_instance (whole n) (target n) n ts)
  unfolding named_instance
  reads_named_instance (ReadsNamedInstance.instance_of {n = i} {cs} {ts} {us} {rest} d f) l = rw (identifier_reads d) (reads_bind _ (reads_connections f (omega (arith, l, shorter_identifier d))) read_now)

  overrides_open : {p : Place} {es : List Connection} {ts rest : List Token} → ReadsOverrides (bounds s t u) p es ts rest → length ts + 1 < n → Opens (mark (codes "#")) (λ _. connections (whole n) (target n) n p) s t u es ts rest
  overrides_open (ReadsOverrides.overrides {cs} {hash} {ts} {rest} h d) l = (hash, ts, hash.place, refl, mark_here (codes "#") (codes "#") hash h refl, reads_connections d (omega (arith, l)))

  -- an instance begins with a name, behind which it is read
  pub reads_instance : {a : Instance} {ts rest : List Token} → ReadsInstance (bounds s t u) a ts rest → length ts + 1 < n → (v : Token) × (us : List Token) × (name : List ℕ) × (ts ≡ v ∷ us) × (v.kind ≡ k.Name name) × Reads s t u a rest (instance (whole n) (target n) n (record { place = v.place; name = name }) us)
  unfolding instance
  reads_instance (ReadsInstance.instances {n = _} {os} {is} {closing} {ts = _} {us = ts} {vs} {rest} (ReadsIdentifier.identifier {n = name} {t = v} {rest = _} h) d f i) l =
      let less : length vs ≤ length ts = no_longer_optional (ReadsOverrides (bounds s t u) v.place) (λ a ts rest q. shorter_overrides q) d in (
        v,
        ts,
        name,
        refl,
        h,
        reads_bind _ (reads_optional (mark (codes "#")) (λ _. connections (whole n) (target n) n v.place) (ReadsOverrides (bounds s t u) v.place) d (named_no_mark (codes "#") (named_list (ReadsNamedInstance (bounds s t u)) (λ a ts rest q. named_first q) f)) (λ e q. overrides_open q (omega (arith, l))))
            (reads_bind _ (reads_list (named_instance (whole n) (target n) n) (ReadsNamedInstance (bounds s t u)) (λ _. Unit {0}) (λ _ _ _. tt) (length vs) (λ a ts rest q g w. reads_named_instance g (omega (arith, q, less, l))) (λ a ts rest q. omega (arith, shorter_named_instance q)) f n (omega arith) (omega (arith, less, l)) tt (mark_apart (codes ",") (codes ";") closing rest i refl))
            (rw (mark_next (codes ";") closing rest i refl) read_now)),
      )
    where
      named_first : {a : NamedInstance} {ts rest : List Token} → ReadsNamedInstance (bounds s t u) a ts rest → Named ts
      named_first (ReadsNamedInstance.instance_of d f) = named_identifier d
