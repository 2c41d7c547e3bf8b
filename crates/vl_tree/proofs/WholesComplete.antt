-- Expressions and left sides that stand in no other: what the grammar derives within bounds is read.
use Rattle.std.proofs.Common.{◌≡◌, ℕ, zero, suc, ◌+◌, ◌<◌, length, List, [], ◌∷◌, Err, Option, Some, None, Bool, true, false, cond, refl, arith}
use Rattle.std.specs.Prelude.{codes}
use Rattle.std.specs.Str.{bytes_eq}
use Rattle.std.proofs.Math.Dec.{ltb}
use Rattle.vl_base.specs.declared.place.Place.{Place}
use Rattle.vl_tree.specs.declared.token.Token.{Token}
use Rattle.vl_tree.specs.declared.token.TokenKind.{TokenKind}
use Rattle.vl_tree.specs.declared.token.TokenKind.TheVariants as k
use Rattle.vl_tree.specs.declared.tree.Expression.{Expression}
use Rattle.vl_tree.specs.declared.tree.Primary.{Primary}
use Rattle.vl_tree.specs.declared.tree.Select.{Select}
use Rattle.vl_tree.specs.declared.tree.Bound.{Bound}
use Rattle.vl_tree.specs.declared.tree.UnaryMark.{UnaryMark}
use Rattle.vl_tree.specs.declared.tree.UnaryOperator.{UnaryOperator}
use Rattle.vl_tree.specs.MarksOfGrammar.{IsMark, select_mark, unary_operator, unary_operators, unary_at, mark_in}
use Rattle.vl_tree.specs.Grammar.{ReadsExpression, ReadsBinary, ReadsUnary, ReadsPrimary, ReadsOperators, ReadsName, ReadsSystemCall}
use Rattle.vl_tree.specs.Reading as plain
use Rattle.vl_tree.specs.Reading.{next_by, is_next, mark, keyword, keyword_by}
use Rattle.vl_tree.specs.Expressions.{expr, ends_argument, ends_kind}
use Rattle.vl_tree.proofs.MarkLemmas.{mark_here, table_has}
use Rattle.vl_tree.proofs.Complete.{EndsPrimary, Ends, ends_primary, ends_before, select_ends, closing_apart, none_here, reads_expression}
use Rattle.vl_tree.specs.declared.source_tree.Assignment.{Assignment}
use Rattle.vl_tree.specs.declared.source_tree.Lvalue.{Lvalue}
use Rattle.vl_tree.specs.declared.source_fault.Cause.TheVariants.{Tokens}
use Rattle.vl_tree.specs.Bounds.{Bounds, MayCount, most_tokens}
use Rattle.vl_tree.specs.Statements.{ReadsWhole, ReadsIndexBound, ReadsIndices, ReadsLvalue, ReadsMoreLvalues, ReadsTarget, ReadsAssignment}
use Rattle.vl_tree.specs.Parsers.{Outcome, Parser, next_or, many_counted, identifier_token, is_some, is_word}
use Rattle.vl_tree.specs.Parsing.{index_bound, index, indices, lvalue, target_level, target_name, targets, more_targets, whole, target, assignment}
use Rattle.vl_tree.proofs.Words.{name_here, no_mark, by_kind}
use Rattle.vl_tree.proofs.FollowsOfSource.{bounds}
use Rattle.vl_tree.proofs.Completing.{Reads, reads_bind, reads_next, reads_other, reads_limited, read_now, mark_apart}
use Rattle.vl_tree.proofs.Counting.{reads_counted}
use Rattle.vl_tree.proofs.Wholes.{shorter_whole, no_longer_index_bound, shorter_lvalue, shorter_target}

-- ---- what comes first

keyword_kind : (w : List ℕ) (v : Token) (kind : TokenKind) → v.kind ≡ kind → keyword_by w v.place kind ≡ None → keyword w v ≡ None
unfolding keyword
keyword_kind w v kind h e = by_kind (keyword_by w v.place) None v kind h e

unary_no_keyword : (w : List ℕ) (v : Token) (o : UnaryMark) → unary_operator v ≡ Some o → keyword w v ≡ None
unfolding unary_operator keyword
unary_no_keyword w v o h = go (mark_in unary_operators v.kind) refl h
  where
    go : (x : Option UnaryOperator) → mark_in unary_operators v.kind ≡ x → unary_at v.place x ≡ Some o → keyword_by w v.place v.kind ≡ None
    go None e i = let z : ⊥ = cc in absurd z
    go (Some y) e i = table_has unary_operators (keyword_by w v.place) None (refl, (refl, (refl, (refl, (refl, (refl, (refl, (refl, (refl, (refl, (refl, tt))))))))))) v y e

primary_no_keyword : (w : List ℕ) {e : Primary} {ts rest : List Token} → ReadsPrimary e ts rest → next_by (keyword w) ts ≡ None
primary_no_keyword w (ReadsPrimary.number {t} h) = none_here _ t _ (keyword_kind w t _ h refl)
primary_no_keyword w (ReadsPrimary.string {t} h) = none_here _ t _ (keyword_kind w t _ h refl)
primary_no_keyword w (ReadsPrimary.named (ReadsName.name {n} {ss} {t} h d)) = none_here _ t _ (keyword_kind w t _ h refl)
primary_no_keyword w (ReadsPrimary.parenthesized {e} {opening} p d q) = none_here _ opening _ (keyword_kind w opening _ p refl)
primary_no_keyword w (ReadsPrimary.concatenation {es} {opening} p d q) = none_here _ opening _ (keyword_kind w opening _ p refl)
primary_no_keyword w (ReadsPrimary.replication {n} {es} {opening} p d i f q r) = none_here _ opening _ (keyword_kind w opening _ p refl)
primary_no_keyword w (ReadsPrimary.call {n} {es} {t} h p d q) = none_here _ t _ (keyword_kind w t _ h refl)
primary_no_keyword w (ReadsPrimary.system (ReadsSystemCall.system_alone {n} {t} h)) = none_here _ t _ (keyword_kind w t _ h refl)
primary_no_keyword w (ReadsPrimary.system (ReadsSystemCall.system_call {n} {a} {others} {t} h p d f q)) = none_here _ t _ (keyword_kind w t _ h refl)

operators_no_keyword : (w : List ℕ) {os : List UnaryMark} {ts rest : List Token} → ReadsOperators os ts rest → next_by (keyword w) rest ≡ None → next_by (keyword w) ts ≡ None
operators_no_keyword w ReadsOperators.no_operator h = h
operators_no_keyword w (ReadsOperators.operator {o} {os} {t} e d) h = none_here _ t _ (unary_no_keyword w t o e)

-- an expression begins with no reserved word
pub expression_no_keyword : (w : List ℕ) {e : Expression} {ts rest : List Token} → ReadsExpression e ts rest → next_by (keyword w) ts ≡ None
expression_no_keyword w (ReadsExpression.expression (ReadsBinary.binary (ReadsUnary.unary d p) ls) c) = operators_no_keyword w d (primary_no_keyword w p)

some_word : (w : List ℕ) (v : Token) (us : List Token) (o : Option Place) → keyword w v ≡ o → plain.behind us o ≡ None → is_some o ≡ false
some_word w v us None e h = refl
some_word w v us (Some p) e h = let z : ⊥ = cc in absurd z

pub not_word : (w : List ℕ) (ts : List Token) → next_by (keyword w) ts ≡ None → is_next (is_word w) ts ≡ false
unfolding next_by
not_word w [] h = refl
not_word w (v ∷ us) h = some_word w v us (keyword w v) refl h

-- an argument that may be empty ends before this mark
pub ends_mark : (m : List ℕ) (v : Token) → IsMark m v → ends_kind (k.Mark m) ≡ true → ends_argument v ≡ true
unfolding ends_argument
ends_mark m v h e = by_kind ends_kind true v (k.Mark m) h e

-- ---- left sides

behind_index_bound : {b : Bounds} {n m : ℕ} {e : Option Bound} {ts rest : List Token} → ReadsIndexBound b n m e ts rest → Ends rest → Ends ts
behind_index_bound ReadsIndexBound.no_bound h = h
behind_index_bound (ReadsIndexBound.bound {m} {t} {ts} w s d) h = select_ends t ts m s

behind_lvalues : {b : Bounds} {n m : ℕ} {vs : List Lvalue} {ts rest : List Token} → ReadsMoreLvalues b n m vs ts rest → EndsPrimary rest → EndsPrimary ts
behind_lvalues ReadsMoreLvalues.no_more w = w
behind_lvalues (ReadsMoreLvalues.more {comma} {ts} z h d f) w = ends_primary (codes ",") comma ts h refl refl

module _ {s t : Bool} {u : ℕ} where
  pub reads_whole : {e : Expression} {ts rest : List Token} → ReadsWhole (bounds s t u) e ts rest → (n : ℕ) → length ts + 1 < n → Ends rest → Reads s t u e rest (whole n ts)
  reads_whole d n h w = reads_limited (expr n) (reads_expression d.reads n h w) d.within

  -- a mark comes next, and counts
  reads_mark : {A : Type 0} {a : A} {rest : List Token} (k : ℕ) (m : List ℕ) (p : Place → Parser A) (q : Outcome A) (v : Token) (us : List Token) → IsMark m v → bytes_eq m m ≡ true → MayCount (bounds s t u) (k + 1) (v ∷ us) → Reads s t u a rest (p v.place us)
      → Reads s t u a rest (next_or (next_by (mark m) (v ∷ us)) (λ y ws. cond (ltb k most_tokens) (p y ws) (Err (Tokens, v ∷ us))) q)
  reads_mark k m p q v us h e w g = reads_counted k (mark m) p q v us v.place (mark_here m m v h e) w g

  reads_index_bound : {k j : ℕ} {e : Option Bound} {ts rest : List Token} → ReadsIndexBound (bounds s t u) k j e ts rest → (n : ℕ) → length ts < n → Ends rest → next_by select_mark rest ≡ None → Reads s t u (e, j) rest (index_bound n k ts)
  unfolding index_bound
  reads_index_bound ReadsIndexBound.no_bound n h w c = rw c read_now
  reads_index_bound (ReadsIndexBound.bound {n = k} {m} {e} {t = v} {ts} z i d) n h w c = reads_counted k select_mark _ _ v ts m i z (reads_bind _ (reads_whole d n (omega (arith, h)) w) read_now)

  pub reads_indices : {k j : ℕ} {ss : List Select} {ts rest : List Token} → ReadsIndices (bounds s t u) k j ss ts rest → (n m : ℕ) → length ts < n → length ts < m → EndsPrimary rest → Reads s t u (ss, j) rest (many_counted (mark (codes "[")) (index n) m k ts)
  unfolding index many_counted
  reads_indices d n zero h l w = absurd (omega (arith, l))
  reads_indices ReadsIndices.no_index n (suc m) h l w = rw w.select read_now
  reads_indices (ReadsIndices.index {n = k} {m = i} {o = j} {e} {to} {ss} {opening} {closing} {ts} {us} {vs} {rest} z p d f y q r) n (suc m) h l w =
      let closes : Ends (closing ∷ vs) = ends_before (codes "]") closing vs q refl refl refl refl in
      let less = shorter_whole d in
      let other = no_longer_index_bound f in
      reads_mark k (codes "[") _ _ opening ts p refl z
      (reads_bind _ (reads_bind _ (reads_whole d n (omega (arith, h)) (behind_index_bound f closes)) (reads_bind _ (reads_index_bound f n (omega (arith, h, less)) closes (closing_apart closing vs q)) (reads_mark i (codes "]") _ _ closing vs q refl y read_now)))
      (reads_bind _ (reads_indices {k = i + 1} {j = j} r n m (omega (arith, h, less, other)) (omega (arith, l, less, other)) w) read_now))

  mutual
    unfolding lvalue target_level target_name targets more_targets indices many_counted

    pub reads_lvalue : {k j : ℕ} {v : Lvalue} {ts rest : List Token} → ReadsLvalue (bounds s t u) k j v ts rest → (n : ℕ) → length ts + 1 < n → EndsPrimary rest → Reads s t u (v, j) rest (lvalue n k ts)
    reads_lvalue d zero h w = absurd (omega (arith, h))
    reads_lvalue (ReadsLvalue.name {n = c} {m = j} {i} {ss} {t = v} {ts} z h d) (suc n) l w =
        reads_other (mark (codes "{")) _ _ (v ∷ ts) (none_here (mark (codes "{")) v ts (no_mark (codes "{") v (k.Name i) h refl))
        (reads_counted c identifier_token _ _ v ts _ (name_here i v h) z (reads_bind _ (reads_indices d n n (omega (arith, l)) (omega (arith, l)) w) read_now))
    reads_lvalue (ReadsLvalue.concatenation {n = k} {m = i} {o = j} {v} {vs} {opening} {closing} {ts} {us} {rest} z h d f y q) (suc n) l w =
        let e : EndsPrimary (closing ∷ rest) = ends_primary (codes "}") closing rest q refl refl in
        let less = shorter_lvalue d in
        reads_mark k (codes "{") _ _ opening ts h refl z
        (reads_bind _ (reads_lvalue d n (omega (arith, l)) (behind_lvalues f e))
        (reads_bind _ (reads_lvalues f n n (omega (arith, l, less)) (omega (arith, l, less)) e (mark_apart (codes ",") (codes "}") closing rest q refl))
        (reads_mark j (codes "}") _ _ closing rest q refl y read_now)))

    pub reads_lvalues : {k j : ℕ} {vs : List Lvalue} {ts rest : List Token} → ReadsMoreLvalues (bounds s t u) k j vs ts rest → (n m : ℕ) → length ts < n → length ts < m → EndsPrimary rest → next_by (mark (codes ",")) rest ≡ None
        → Reads s t u (vs, j) rest (many_counted (mark (codes ",")) (λ i _. lvalue n i) m k ts)
    reads_lvalues d n zero h l w c = absurd (omega (arith, l))
    reads_lvalues ReadsMoreLvalues.no_more n (suc m) h l w c = rw c read_now
    reads_lvalues (ReadsMoreLvalues.more {n = k} {m = i} {o = j} {v} {vs} {comma} {ts} {us} {rest} z q d f) n (suc m) h l w c =
        let less = shorter_lvalue d in
        reads_mark k (codes ",") _ _ comma ts q refl z
        (reads_bind _ (reads_lvalue d n (omega (arith, h)) (behind_lvalues f w)) (reads_bind _ (reads_lvalues f n m (omega (arith, h, less)) (omega (arith, l, less)) w c) read_now))

  -- ---- within the limits

  pub reads_target : {v : Lvalue} {ts rest : List Token} → ReadsTarget (bounds s t u) v ts rest → (n : ℕ) → length ts + 1 < n → EndsPrimary rest → Reads s t u v rest (target n ts)
  unfolding target
  reads_target d n h w = reads_bind _ (reads_lvalue d.reads n h w) read_now

  pub reads_assignment : {a : Assignment} {ts rest : List Token} → ReadsAssignment (bounds s t u) a ts rest → (n : ℕ) → length ts + 1 < n → Ends rest → Reads s t u a rest (assignment (whole n) (target n) n ts)
  unfolding assignment
  reads_assignment (ReadsAssignment.assignment {v} {e} {equal} {ts} {us} {rest} d i f) n h w =
      reads_bind _ (reads_target d n h (ends_primary (codes "=") equal us i refl refl))
      (reads_bind _ (reads_next (mark (codes "=")) _ _ equal us equal.place (mark_here (codes "=") (codes "=") equal i refl) (reads_whole f n (omega (arith, shorter_target d)) w)) read_now)
