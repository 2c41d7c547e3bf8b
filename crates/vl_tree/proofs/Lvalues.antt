-- Left sides: what is read follows the grammar, within limit 4.
use Rattle.std.proofs.Common.{◌≡◌, ℕ, zero, suc, ◌+◌, inl, inr, true, List, [], ◌∷◌, Option, Some, None, refl, ap}
use Rattle.std.specs.Prelude.{codes}
use Rattle.std.specs.Str.{bytes_eq}
use Rattle.vl_base.specs.declared.place.Place.{Place}
use Rattle.vl_tree.specs.declared.token.Token.{Token}
use Rattle.vl_tree.specs.declared.token.TokenKind.TheVariants as k
use Rattle.vl_tree.specs.declared.tree.Identifier.{Identifier}
use Rattle.vl_tree.specs.declared.tree.Select.{Select}
use Rattle.vl_tree.specs.declared.tree.Bound.{Bound}
use Rattle.vl_tree.specs.MarksOfGrammar.{select_mark}
use Rattle.vl_tree.specs.Grammar.{name_of, select_of, bound_of}
use Rattle.vl_tree.specs.Reading.{mark}
use Rattle.vl_tree.proofs.Follows.{Free}
use Rattle.vl_tree.proofs.MarkLemmas.{mark_some, mark_here}
use Rattle.vl_tree.proofs.Sound.{follows_expr}
use Rattle.vl_tree.specs.Grammar.{ReadsExpression}
use Rattle.vl_tree.specs.Expressions.{expr}
use Rattle.vl_tree.specs.declared.source_tree.Lvalue.{Lvalue}
use Rattle.vl_tree.specs.declared.source_tree.Lvalue.TheVariants as l
use Rattle.vl_tree.specs.Bounds.{Bounds, MayCount}
use Rattle.vl_tree.specs.Statements.{ReadsWhole, ReadsIndexBound, ReadsIndices, ReadsLvalue, ReadsMoreLvalues, ReadsTarget}
use Rattle.vl_tree.specs.Parsers.{Parser, must_counted, identifier_token}
use Rattle.vl_tree.specs.Parsing.{whole, target, index_bound, index, indices, lvalue, target_level, target_name, targets, more_targets}
use Rattle.vl_tree.proofs.Words.{name_here, name_some}
use Rattle.vl_tree.proofs.FollowsOfSource.{Relation, Follows, Then, Nothing, token_of, token_free, follows_weaker, follows_pure, follows_fault, follows_bind}
use Rattle.vl_tree.proofs.Limited.{follows_limited}
use Rattle.vl_tree.proofs.Counting.{AfterCounted, EitherCounted, count_spare, follows_counted, follows_must_counted, follows_many_counted}

pub follows_whole : (n : ℕ) → Follows ReadsWhole (whole n)
follows_whole n = follows_weaker (λ b a ts rest (d, w). record { reads = d; within = w }) (follows_limited ReadsExpression (expr n) (follows_expr n))

-- a name
abbrev name_token : Token
name_token = record { place = record { line = 0; column = 0 }; kind = k.Name [] }

name_free : Free (Some name_token)
name_free h = cc

-- a mark has to come, and counts
follows_mark : {A : Type 0} (k : ℕ) (m : List ℕ) (R : Relation A) (p : Parser A) → bytes_eq m m ≡ true → Follows R p → Follows (AfterCounted k (mark m) (λ _ _. R)) (must_counted k (mark m) (λ _. p))
follows_mark k m R p e f = follows_must_counted k (mark m) (λ _ _. R) (λ _. p) (λ v x h. f) (token_of m) (token_of m).place (mark_here m m (token_of m) refl e) (token_free m)

-- ---- the relations of the parsers: each gives a part, and how many tokens count up to its end

abbrev pub IndexBound : ℕ → Relation (Option Bound × ℕ)
IndexBound k b x = ReadsIndexBound b k x.1 x.0

abbrev pub Indices : ℕ → Relation (List Select × ℕ)
Indices k b x = ReadsIndices b k x.1 x.0

abbrev pub Left : ℕ → Relation (Lvalue × ℕ)
Left k b x = ReadsLvalue b k x.1 x.0

abbrev pub MoreLeft : ℕ → Relation (List Lvalue × ℕ)
MoreLeft k b x = ReadsMoreLvalues b k x.1 x.0

-- ---- indices

bound_from : (k : ℕ) (b : Bounds) (x : Option Bound × ℕ) (ts rest : List Token) → EitherCounted k select_mark (λ _ m. Then ReadsWhole (λ e. Nothing (Some (bound_of m e), k + 1))) (Nothing (None, k)) b x ts rest → IndexBound k b x ts rest
bound_from k b x ts rest (inl (v, us, m, i, h, w, (e, vs, d, (j, g)))) = rw (i, j) (ReadsIndexBound.bound w h (rw g at d))
bound_from k b x ts rest (inr (j, g)) = rw (j, g) ReadsIndexBound.no_bound

-- behind "["
abbrev Index : ℕ → Place → Relation (Select × ℕ)
Index k p = Then ReadsWhole (λ e. Then (IndexBound k) (λ b. AfterCounted b.1 (mark (codes "]")) (λ _ _. Nothing (select_of p e b.0, b.1 + 1))))

indices_from : (b : Bounds) (k : ℕ) (v : Token) (p : Place) (x : Select × ℕ) (xs : List Select × ℕ) (ts us rest : List Token) → mark (codes "[") v ≡ Some p → MayCount b (k + 1) (v ∷ ts) → Index (k + 1) p b x ts us → Indices x.1 b xs us rest → Indices k b (x.0 ∷ xs.0, xs.1) (v ∷ ts) rest
indices_from b k v p x xs ts us rest h w (e, vs, d, (to, ws, f, (y, zs, q, i, g, z, (j, o)))) r =
    let m = mark_some (codes "[") v p h in rw (ap (λ c. c.0) j, m.1) (ReadsIndices.index w m.0 d (rw i at f) z (mark_some (codes "]") y q g).0 (rw (j, ← o) at r))

module _ (n : ℕ) where
  follows_bound : (k : ℕ) → Follows (IndexBound k) (index_bound n k)
  unfolding index_bound
  follows_bound k = follows_weaker (bound_from k) (follows_counted k select_mark _ _ _ _ (λ v m h. follows_bind ReadsWhole _ (whole n) _ (follows_whole n) (λ e. follows_pure (Some (bound_of m e), k + 1))) (follows_pure (None, k)))

  pub follows_index : (k : ℕ) (p : Place) → Follows (Index k p) (index n k p)
  unfolding index
  follows_index k p = follows_bind ReadsWhole _ (whole n) _ (follows_whole n) (λ e. follows_bind (IndexBound k) _ (index_bound n k) _ (follows_bound k) (λ b. follows_mark b.1 (codes "]") _ _ refl (follows_pure (select_of p e b.0, b.1 + 1))))

  follows_indices : (k : ℕ) → Follows (Indices k) (indices n k)
  unfolding indices
  follows_indices k = follows_many_counted (mark (codes "[")) (λ k _ p. Index k p) Indices (index n) (λ k v p h. follows_index k p) (λ b k ts. ReadsIndices.no_index) indices_from n k

-- ---- left sides

abbrev TargetName : ℕ → Identifier → Relation (Lvalue × ℕ)
TargetName k i = Then (Indices k) (λ ss. Nothing (l.Name (name_of i.place i.name ss.0), ss.1))

abbrev Targets : ℕ → Place → Relation (Lvalue × ℕ)
Targets k p = Then (Left k) (λ v. Then (MoreLeft v.1) (λ vs. AfterCounted vs.1 (mark (codes "}")) (λ _ _. Nothing (l.Concatenation p (v.0 ∷ vs.0), vs.1 + 1))))

level_from : (k : ℕ) (b : Bounds) (x : Lvalue × ℕ) (ts rest : List Token) → EitherCounted k (mark (codes "{")) (λ _ p. Targets (k + 1) p) (AfterCounted k identifier_token (λ _ i. TargetName (k + 1) i)) b x ts rest → Left k b x ts rest
level_from k b x ts rest (inl (v, us, p, i, h, w, (a, vs, d, (bs, ws, f, (y, zs, q, j, g, z, (m, o)))))) =
    let t = mark_some (codes "{") v p h in rw (i, m, t.1) (ReadsLvalue.concatenation w t.0 d (rw (j, o) at f) (rw o at z) (mark_some (codes "}") y q g).0)
level_from k b x ts rest (inr (v, us, a, i, h, w, (ss, vs, d, (m, o)))) =
    let t = name_some v a h in rw (i, m, t.2) (ReadsLvalue.name w t.1 (rw o at d))

module _ (inner : ℕ → Parser (Lvalue × ℕ)) (f : (k : ℕ) → Follows (Left k) (inner k)) (n : ℕ) where
  follows_name : (k : ℕ) (i : Identifier) → Follows (TargetName k i) (target_name inner n k i)
  unfolding target_name
  follows_name k i = follows_bind (Indices k) _ (indices n k) _ (follows_indices n k) (λ ss. follows_pure (l.Name (name_of i.place i.name ss.0), ss.1))

  follows_more : (k : ℕ) → Follows (MoreLeft k) (more_targets inner n k)
  unfolding more_targets
  follows_more k = follows_many_counted (mark (codes ",")) (λ k _ _. Left k) MoreLeft (λ k _. inner k) (λ k v p h. f k) (λ b k ts. ReadsMoreLvalues.no_more) (λ b k v p e es ts us rest h w d r. ReadsMoreLvalues.more w (mark_some (codes ",") v p h).0 d r) n k

  follows_targets : (k : ℕ) (p : Place) → Follows (Targets k p) (targets inner n k p)
  unfolding targets
  follows_targets k p = follows_bind (Left k) _ (inner k) _ (f k) (λ v. follows_bind (MoreLeft v.1) _ (more_targets inner n v.1) _ (follows_more v.1) (λ vs. follows_mark vs.1 (codes "}") _ _ refl (follows_pure (l.Concatenation p (v.0 ∷ vs.0), vs.1 + 1))))

  follows_level : (k : ℕ) → Follows (Left k) (target_level inner n k)
  unfolding target_level
  follows_level k = follows_weaker (level_from k) (follows_counted k (mark (codes "{")) (λ _ p. Targets (k + 1) p) (AfterCounted k identifier_token (λ _ i. TargetName (k + 1) i)) (targets inner n (k + 1)) _ (λ v p h. follows_targets (k + 1) p)
      (follows_must_counted k identifier_token (λ _ i. TargetName (k + 1) i) (target_name inner n (k + 1)) (λ v i h. follows_name (k + 1) i) name_token _ (name_here [] name_token refl) name_free))

pub follows_lvalue : (n k : ℕ) → Follows (Left k) (lvalue n k)
unfolding lvalue
follows_lvalue zero k = follows_fault (Left k) (name_token ∷ []) (l.Name (name_of name_token.place [] []), k + 1) (λ s t u o z y. ReadsLvalue.name (count_spare s t u (k + 1) (name_token ∷ o) z) refl ReadsIndices.no_index) (λ o y h. cc)
follows_lvalue (suc n) k = follows_level (lvalue n) (follows_lvalue n) n k

pub follows_target : (n : ℕ) → Follows ReadsTarget (target n)
unfolding target
follows_target n = follows_weaker (λ b v ts rest (a, us, d, (i, j)). record { counted = a.1; reads = rw (i, ← j) d }) (follows_bind (Left 0) _ (lvalue n 0) _ (follows_lvalue n 0) (λ v. follows_pure v.0))
