-- Declarations: what is read follows the grammar, and what the grammar derives is read.
use Rattle.std.proofs.Common.{◌≡◌, ℕ, ◌+◌, ◌<◌, ◌≤◌, inl, inr, Bool, length, List, ◌∷◌, Option, Some, None, refl, arith}
use Rattle.std.specs.Prelude.{codes}
use Rattle.vl_base.specs.declared.place.Place.{Place}
use Rattle.vl_tree.specs.declared.token.Token.{Token}
use Rattle.vl_tree.specs.declared.tree.Expression.{Expression}
use Rattle.vl_tree.specs.Reading.{next_by, mark, keyword}
use Rattle.vl_tree.proofs.MarkLemmas.{mark_here, mark_some}
use Rattle.vl_tree.proofs.Complete.{Ends, ends_before}
use Rattle.vl_tree.specs.declared.source_tree.ParameterType.{ParameterType}
use Rattle.vl_tree.specs.declared.source_tree.ParameterType.TheVariants as pt
use Rattle.vl_tree.specs.declared.source_tree.ParameterAssignment.{ParameterAssignment}
use Rattle.vl_tree.specs.declared.source_tree.DeclarationAssignment.{DeclarationAssignment}
use Rattle.vl_tree.specs.declared.source_tree.Range.{Range}
use Rattle.vl_tree.specs.declared.source_tree.VariableType.{VariableType}
use Rattle.vl_tree.specs.declared.source_tree.VariableMore.{VariableMore}
use Rattle.vl_tree.specs.declared.source_tree.VariableMore.TheVariants as vm
use Rattle.vl_tree.specs.Bounds.{Bounds}
use Rattle.vl_tree.specs.Lists.{ReadsOptional, ReadsWord, ReadsIdentifier}
use Rattle.vl_tree.specs.Statements.{ReadsWhole}
use Rattle.vl_tree.specs.GrammarOfSource.{ReadsRange, ReadsParameterType, ReadsParameterAssignment, ReadsValue, ReadsDeclarationAssignment, ReadsVariableMore, ReadsVariableType}
use Rattle.vl_tree.specs.Parsers.{identifier}
use Rattle.vl_tree.specs.Parsing.{whole, target, range_of, range, optional_range, parameter_type, parameter_of, parameter_assignment, value, declaration_of, declaration_assignment, variable_of, variable_more, variable_type}
use Rattle.vl_tree.proofs.Words.{keyword_some}
use Rattle.vl_tree.proofs.FollowsOfSource.{Follows, Then, After, Nothing, bounds, follows_weaker, follows_pure, follows_bind, follows_if, follows_mark}
use Rattle.vl_tree.proofs.FollowsLists.{follows_identifier, follows_word, follows_optional}
use Rattle.vl_tree.proofs.Completing.{Reads, Opens, read_now, reads_bind, reads_opens, reads_optional, identifier_reads, word_reads, mark_next, mark_apart, keyword_next}
use Rattle.vl_tree.proofs.Lvalues.{follows_whole}
use Rattle.vl_tree.proofs.Wholes.{shorter_whole}
use Rattle.vl_tree.proofs.PartsOfSource.{shorter_identifier, no_longer_word, no_longer_optional, Named, named_identifier, named_no_word, named_no_mark, word_no_word, mark_no_word, Closes, reads_whole}

-- ---- what is read follows the grammar

module _ (n : ℕ) where
  pub follows_range : (v : Token) (p : Place) → mark (codes "[") v ≡ Some p → Follows (λ b r ts rest. ReadsRange b r (v ∷ ts) rest) (range (whole n) (target n) n p)
  unfolding range
  follows_range v p h = follows_weaker (λ b r ts rest (a, us, d, (w, vs, q, i, g, (e, ws, f, (x, xs, y, j, o, (z, m))))).
      let k = mark_some (codes "[") v p h in rw (z, k.1) (ReadsRange.range k.0 (rw i at d) (mark_some (codes ":") w q g).0 (rw (j, m) at f) (mark_some (codes "]") x y o).0))
      (follows_bind ReadsWhole _ (whole n) _ (follows_whole n) (λ a. follows_mark (codes ":") (Then ReadsWhole (λ e. After (mark (codes "]")) (λ _ _. Nothing (range_of (whole n) (target n) n p a e)))) _ refl
      (follows_bind ReadsWhole _ (whole n) _ (follows_whole n) (λ e. follows_mark (codes "]") (Nothing (range_of (whole n) (target n) n p a e)) _ refl (follows_pure (range_of (whole n) (target n) n p a e))))))

  pub follows_optional_range : Follows (λ b. ReadsOptional (ReadsRange b)) (optional_range (whole n) (target n) n)
  unfolding optional_range
  follows_optional_range = follows_optional (mark (codes "[")) (λ v _ b r ts rest. ReadsRange b r (v ∷ ts) rest) ReadsRange (range (whole n) (target n) n) (λ v p h. follows_range v p h) (λ b v x a ts rest h d. d)

  pub follows_parameter_type : Follows ReadsParameterType (parameter_type (whole n) (target n) n)
  unfolding parameter_type
  follows_parameter_type = follows_weaker (λ b a ts rest h. elim h [
    | inl (v, us, p, e, i, (j, g)) ↦ rw (e, j, g) (ReadsParameterType.integer (keyword_some (codes "integer") v p i).0)
    | inr (signed, us, d, (r, vs, f, (j, g))) ↦ rw j (ReadsParameterType.vector d (rw g at f))
  ])
      (follows_if (keyword (codes "integer")) (λ _ _. Nothing pt.Integer) _ _ _ (λ v x h. follows_pure pt.Integer) (follows_bind (λ _. ReadsWord (codes "signed")) _ _ _ (follows_word (codes "signed"))
      (λ signed. follows_bind (λ b. ReadsOptional (ReadsRange b)) _ (optional_range (whole n) (target n) n) _ follows_optional_range (λ r. follows_pure (pt.Vector signed r)))))

  pub follows_parameter_assignment : Follows ReadsParameterAssignment (parameter_assignment (whole n) (target n) n)
  unfolding parameter_assignment
  follows_parameter_assignment = follows_weaker (λ b y ts rest (i, us, d, (v, vs, p, e, h, (a, ws, f, (j, g)))). rw j (ReadsParameterAssignment.parameter (rw e at d) (mark_some (codes "=") v p h).0 (rw g at f)))
      (follows_bind (λ _. ReadsIdentifier) _ identifier _ follows_identifier (λ i. follows_mark (codes "=") (Then ReadsWhole (λ a. Nothing (parameter_of (whole n) (target n) n i a))) _ refl
      (follows_bind ReadsWhole _ (whole n) _ (follows_whole n) (λ a. follows_pure (parameter_of (whole n) (target n) n i a)))))

  pub follows_value : Follows (λ b. ReadsOptional (ReadsValue b)) (value (whole n) (target n) n)
  unfolding value
  follows_value = follows_optional (mark (codes "=")) (λ _ _. ReadsWhole) ReadsValue (λ _. whole n) (λ v x h. follows_whole n) (λ b v x a ts rest h d. ReadsValue.value (mark_some (codes "=") v x h).0 d)

  pub follows_declaration_assignment : Follows ReadsDeclarationAssignment (declaration_assignment (whole n) (target n) n)
  unfolding declaration_assignment
  follows_declaration_assignment = follows_weaker (λ b y ts rest (i, us, d, (a, vs, f, (j, g))). rw j (ReadsDeclarationAssignment.declaration d (rw g at f)))
      (follows_bind (λ _. ReadsIdentifier) _ identifier _ follows_identifier (λ i. follows_bind (λ b. ReadsOptional (ReadsValue b)) _ (value (whole n) (target n) n) _ follows_value (λ a. follows_pure (declaration_of (whole n) (target n) n i a))))

  pub follows_variable_more : Follows (λ b. ReadsOptional (ReadsVariableMore b)) (variable_more (whole n) (target n) n)
  unfolding variable_more
  follows_variable_more = follows_weaker (λ b y ts rest h. elim h [
    | inl (v, us, p, e, i, (r, vs, d, (j, g))) ↦ rw (e, j) (ReadsOptional.something (ReadsVariableMore.words (rw g at d)))
    | inr (inl (v, us, p, e, i, (a, vs, d, (j, g)))) ↦ rw (e, j) (ReadsOptional.something (ReadsVariableMore.first_value (ReadsValue.value (mark_some (codes "=") v p i).0 (rw g at d))))
    | inr (inr (j, g)) ↦ rw (j, g) ReadsOptional.nothing
  ])
      (follows_if (mark (codes "[")) (λ v _. Then (λ b r ts rest. ReadsRange b r (v ∷ ts) rest) (λ r. Nothing (Some (vm.Words r)))) _ _ _ (λ v p h. follows_bind (λ b r ts rest. ReadsRange b r (v ∷ ts) rest) _ (range (whole n) (target n) n p) _ (follows_range v p h) (λ r. follows_pure (Some (vm.Words r))))
      (follows_if (mark (codes "=")) (λ _ _. Then ReadsWhole (λ a. Nothing (Some (vm.Value a)))) _ _ _ (λ v p h. follows_bind ReadsWhole _ (whole n) _ (follows_whole n) (λ a. follows_pure (Some (vm.Value a)))) (follows_pure None)))

  pub follows_variable_type : Follows ReadsVariableType (variable_type (whole n) (target n) n)
  unfolding variable_type
  follows_variable_type = follows_weaker (λ b y ts rest (i, us, d, (a, vs, f, (j, g))). rw j (ReadsVariableType.variable d (rw g at f)))
      (follows_bind (λ _. ReadsIdentifier) _ identifier _ follows_identifier (λ i. follows_bind (λ b. ReadsOptional (ReadsVariableMore b)) _ (variable_more (whole n) (target n) n) _ follows_variable_more (λ a. follows_pure (variable_of (whole n) (target n) n i a))))

-- ---- how many tokens are left

module _ {b : Bounds} where
  pub shorter_range : {a : Range} {ts rest : List Token} → ReadsRange b a ts rest → length rest < length ts
  shorter_range (ReadsRange.range h d i e j) = omega (arith, shorter_whole d, shorter_whole e)

  pub no_longer_optional_range : {a : Option Range} {ts rest : List Token} → ReadsOptional (ReadsRange b) a ts rest → length rest ≤ length ts
  no_longer_optional_range d = no_longer_optional (ReadsRange b) (λ a ts rest d. shorter_range d) d

  pub no_longer_type : {a : ParameterType} {ts rest : List Token} → ReadsParameterType b a ts rest → length rest ≤ length ts
  no_longer_type (ReadsParameterType.integer h) = omega arith
  no_longer_type (ReadsParameterType.vector d f) = omega (arith, no_longer_word d, no_longer_optional_range f)

  pub shorter_parameter : {a : ParameterAssignment} {ts rest : List Token} → ReadsParameterAssignment b a ts rest → length rest < length ts
  shorter_parameter (ReadsParameterAssignment.parameter d i f) = omega (arith, shorter_identifier d, shorter_whole f)

  pub shorter_value : {a : Expression} {ts rest : List Token} → ReadsValue b a ts rest → length rest < length ts
  shorter_value (ReadsValue.value i f) = omega (arith, shorter_whole f)

  pub shorter_declaration : {a : DeclarationAssignment} {ts rest : List Token} → ReadsDeclarationAssignment b a ts rest → length rest < length ts
  shorter_declaration (ReadsDeclarationAssignment.declaration d f) = omega (arith, shorter_identifier d, no_longer_optional (ReadsValue b) (λ a ts rest d. shorter_value d) f)

  pub shorter_more : {a : VariableMore} {ts rest : List Token} → ReadsVariableMore b a ts rest → length rest < length ts
  shorter_more (ReadsVariableMore.words d) = shorter_range d
  shorter_more (ReadsVariableMore.first_value d) = shorter_value d

  pub shorter_variable : {a : VariableType} {ts rest : List Token} → ReadsVariableType b a ts rest → length rest < length ts
  shorter_variable (ReadsVariableType.variable d f) = omega (arith, shorter_identifier d, no_longer_optional (ReadsVariableMore b) (λ a ts rest d. shorter_more d) f)

  -- ---- what comes first

  pub named_parameter : {a : ParameterAssignment} {ts rest : List Token} → ReadsParameterAssignment b a ts rest → Named ts
  named_parameter (ReadsParameterAssignment.parameter d i f) = named_identifier d

  pub named_declaration : {a : DeclarationAssignment} {ts rest : List Token} → ReadsDeclarationAssignment b a ts rest → Named ts
  named_declaration (ReadsDeclarationAssignment.declaration d f) = named_identifier d

  pub named_variable : {a : VariableType} {ts rest : List Token} → ReadsVariableType b a ts rest → Named ts
  named_variable (ReadsVariableType.variable d f) = named_identifier d

  -- a range is no word
  pub range_no_word : (w : List ℕ) {a : Option Range} {ts rest : List Token} → ReadsOptional (ReadsRange b) a ts rest → next_by (keyword w) rest ≡ None → next_by (keyword w) ts ≡ None
  range_no_word w ReadsOptional.nothing h = h
  range_no_word w (ReadsOptional.something (ReadsRange.range {opening} {ts} i d j e k)) h = mark_no_word w (codes "[") opening ts i

-- ---- what the grammar derives is read

module _ (n most : ℕ) (room : most + 1 < n) (s t : Bool) (u : ℕ) where
  pub range_opens : {a : Range} {ts rest : List Token} → ReadsRange (bounds s t u) a ts rest → length ts ≤ most → Opens (mark (codes "[")) (range (whole n) (target n) n) s t u a ts rest
  unfolding range
  range_opens (ReadsRange.range {opening} {colon} {closing} {ts} {us} {rest} h d i e j) l = (
    opening,
    ts,
    opening.place,
    refl,
    mark_here (codes "[") (codes "[") opening h refl,
    reads_bind _ (reads_whole n (omega arith) d (ends_before (codes ":") colon us i refl refl refl refl)) (rw (mark_next (codes ":") colon us i refl)
        (reads_bind _ (reads_whole n (omega (arith, shorter_whole d)) e (ends_before (codes "]") closing rest j refl refl refl refl)) (rw (mark_next (codes "]") closing rest j refl) read_now))),
  )

  pub reads_optional_range : {a : Option Range} {ts rest : List Token} → ReadsOptional (ReadsRange (bounds s t u)) a ts rest → length ts ≤ most → next_by (mark (codes "[")) rest ≡ None → Reads s t u a rest (optional_range (whole n) (target n) n ts)
  unfolding optional_range
  reads_optional_range d l h = reads_optional (mark (codes "[")) (range (whole n) (target n) n) (ReadsRange (bounds s t u)) d h (λ e f. range_opens f l)

  pub reads_parameter_type : {a : ParameterType} {ts rest : List Token} → ReadsParameterType (bounds s t u) a ts rest → length ts ≤ most → Named rest → Reads s t u a rest (parameter_type (whole n) (target n) n ts)
  unfolding parameter_type
  reads_parameter_type (ReadsParameterType.integer {word} {rest} h) l w = rw (keyword_next (codes "integer") word rest h refl) read_now
  reads_parameter_type (ReadsParameterType.vector d f) l w =
      rw (word_no_word (codes "integer") (codes "signed") d refl (range_no_word (codes "integer") f (named_no_word (codes "integer") w)), word_reads d refl (range_no_word (codes "signed") f (named_no_word (codes "signed") w)))
      (reads_bind _ (reads_optional_range f (omega (arith, no_longer_word d)) (named_no_mark (codes "[") w)) read_now)

  pub reads_parameter_assignment : {a : ParameterAssignment} {ts rest : List Token} → ReadsParameterAssignment (bounds s t u) a ts rest → length ts ≤ most → Ends rest → Reads s t u a rest (parameter_assignment (whole n) (target n) n ts)
  unfolding parameter_assignment
  reads_parameter_assignment (ReadsParameterAssignment.parameter {equal} {ts} {us} d i f) l w =
      rw (identifier_reads d, mark_next (codes "=") equal us i refl) (reads_bind _ (reads_whole n (omega (arith, shorter_identifier d)) f w) read_now)

  pub value_opens : {a : Expression} {ts rest : List Token} → ReadsValue (bounds s t u) a ts rest → length ts ≤ most → Ends rest → Opens (mark (codes "=")) (λ _. whole n) s t u a ts rest
  value_opens (ReadsValue.value {equal} {ts} i f) l w = (equal, ts, equal.place, refl, mark_here (codes "=") (codes "=") equal i refl, reads_whole n (omega arith) f w)

  pub reads_value : {a : Option Expression} {ts rest : List Token} → ReadsOptional (ReadsValue (bounds s t u)) a ts rest → length ts ≤ most → Closes rest → Reads s t u a rest (value (whole n) (target n) n ts)
  unfolding value
  reads_value d l w = reads_optional (mark (codes "=")) (λ _. whole n) (ReadsValue (bounds s t u)) d w.equal (λ e f. value_opens f l w.ends)

  pub reads_declaration_assignment : {a : DeclarationAssignment} {ts rest : List Token} → ReadsDeclarationAssignment (bounds s t u) a ts rest → length ts ≤ most → Closes rest → Reads s t u a rest (declaration_assignment (whole n) (target n) n ts)
  unfolding declaration_assignment
  reads_declaration_assignment (ReadsDeclarationAssignment.declaration d f) l w = rw (identifier_reads d) (reads_bind _ (reads_value f (omega (arith, shorter_identifier d)) w) read_now)

  pub reads_variable_more : {a : Option VariableMore} {ts rest : List Token} → ReadsOptional (ReadsVariableMore (bounds s t u)) a ts rest → length ts ≤ most → Closes rest → Reads s t u a rest (variable_more (whole n) (target n) n ts)
  unfolding variable_more
  reads_variable_more ReadsOptional.nothing l w = rw (w.ends.binary.primary.select, w.equal) read_now
  reads_variable_more (ReadsOptional.something (ReadsVariableMore.words d)) l w = reads_opens (mark (codes "[")) _ _ (let g = range_opens d l in (g.0, g.1, g.2, g.3, g.4, reads_bind _ g.5 read_now))
  reads_variable_more (ReadsOptional.something (ReadsVariableMore.first_value (ReadsValue.value {equal} {ts} i f))) l w =
      let g = value_opens (ReadsValue.value i f) l w.ends in
      rw (mark_apart (codes "[") (codes "=") equal ts i refl) (reads_opens (mark (codes "=")) _ _ (g.0, g.1, g.2, g.3, g.4, reads_bind _ g.5 read_now))

  pub reads_variable_type : {a : VariableType} {ts rest : List Token} → ReadsVariableType (bounds s t u) a ts rest → length ts ≤ most → Closes rest → Reads s t u a rest (variable_type (whole n) (target n) n ts)
  unfolding variable_type
  reads_variable_type (ReadsVariableType.variable d f) l w = rw (identifier_reads d) (reads_bind _ (reads_variable_more f (omega (arith, shorter_identifier d)) w) read_now)
