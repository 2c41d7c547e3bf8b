-- Statements: what is read follows the grammar.
use Rattle.std.proofs.Common.{◌≡◌, ℕ, zero, suc, ◌+◌, ◌≤◌, ◌⊎◌, inl, inr, Bool, true, false, cond, length, List, [], ◌∷◌, ◌++◌, Err, Option, Some, None, refl, sym, ap, subst, arith, append_assoc, ◌∙◌, if◌then◌else◌}
use Rattle.std.specs.Prelude.{codes, ◌||◌}
use Rattle.std.specs.Str.{bytes_eq}
use Rattle.std.proofs.lemmas.Slice.Eq.{bytes_eq-Decides}
use Rattle.vl_base.specs.declared.place.Place.{Place}
use Rattle.vl_tree.specs.declared.token.Token.{Token}
use Rattle.vl_tree.specs.declared.token.TokenKind.{TokenKind}
use Rattle.vl_tree.specs.declared.token.TokenKind.TheVariants as k
use Rattle.vl_tree.specs.declared.tree.Expression.{Expression}
use Rattle.vl_tree.specs.declared.tree.Identifier.{Identifier}
use Rattle.vl_tree.specs.declared.tree.SystemArgument.{SystemArgument}
use Rattle.vl_tree.specs.MarksOfGrammar.{IsMark, IsKeyword}
use Rattle.vl_tree.specs.Grammar.{name_of, system_of, argument_of}
use Rattle.vl_tree.specs.Reading.{is_next, mark, keyword}
use Rattle.vl_tree.specs.Expressions.{ends_argument}
use Rattle.vl_tree.proofs.Follows.{next, Free, is_next_same}
use Rattle.vl_tree.proofs.MarkLemmas.{mark_some}
use Rattle.vl_tree.specs.declared.source_tree.Statement.{Statement}
use Rattle.vl_tree.specs.declared.source_tree.Statement.TheVariants as st
use Rattle.vl_tree.specs.declared.source_tree.CaseItem.{CaseItem}
use Rattle.vl_tree.specs.declared.source_tree.CaseItem.TheVariants as ci
use Rattle.vl_tree.specs.declared.source_tree.CaseKeyword.{CaseKeyword}
use Rattle.vl_tree.specs.declared.source_tree.CaseKeyword.TheVariants as ck
use Rattle.vl_tree.specs.declared.source_tree.AssignMark.{AssignMark}
use Rattle.vl_tree.specs.declared.source_tree.AssignMark.TheVariants as m
use Rattle.vl_tree.specs.declared.source_tree.Lvalue.{Lvalue}
use Rattle.vl_tree.specs.declared.source_tree.Lvalue.TheVariants as l
use Rattle.vl_tree.specs.declared.source_fault.Cause.{Cause}
use Rattle.vl_tree.specs.declared.source_fault.Cause.TheVariants as c
use Rattle.vl_tree.specs.Bounds.{Bounds, MayBegin, most_statements}
use Rattle.vl_tree.specs.Lists.{Next, ReadsOptional, ReadsMany, ReadsList, ReadsParenthesized, ReadsMarkOrNothing, ReadsIdentifier}
use Rattle.vl_tree.specs.Statements.{ReadsIndices, ReadsLvalue, ReadsMoreLvalues, ReadsWhole, ReadsTarget, IsCaseKeyword, IsAssignMark, ReadsLabel, ReadsAssignment, ReadsWholeArgument, ReadsSystemTask, ReadsStatement, ReadsInside, ReadsStatements, ReadsCaseItem, ReadsMoreCaseItems}
use Rattle.vl_tree.specs.Parsers.{Parser, ◌>>=◌, pure, fails, is_some, is_word, identifier, parenthesized, list, before}
use Rattle.vl_tree.specs.Parsing.{begins_word, begins_kind, begins_statement, too_deep, assignment_of, assignment, argument, system_argument, task, assign_mark_by, assign_mark, assign_of, assign, label, block, when, labels_of, labels, default_item, case_item, case_items, cases, loop, repeat, by_keyword, by_kind, statement_by, statement_level, statement}
use Rattle.vl_tree.proofs.Words.{keyword_some}
use Rattle.vl_tree.proofs.FollowsOfSource.{Relation, Follows, Beyond, IsLimit, Then, After, Either, Nothing, Both, bounds, Spare, err_parts, spare_behind, spare_tail, follows_within, follows_weaker, follows_pure, follows_fault, follows_bind, follows_if, follows_must, follows_mark, follows_keyword, follows_ahead, follows_placed, token_of, token_free}
use Rattle.vl_tree.proofs.FollowsLists.{IfElse, follows_identifier, follows_parenthesized, follows_list, follows_before, follows_else}
use Rattle.vl_tree.proofs.Counting.{count_within, count_spare}
use Rattle.vl_tree.proofs.Wholes.{shorter_whole, shorter_target}
use Rattle.vl_tree.proofs.StatementsShorter.{shorter_wholes, shorter_statement}

-- ---- tokens

not_else : (rest : List Token) → Free (next rest) → Next (IsKeyword (codes "else")) rest → ⊥
not_else [] f h = h
not_else (v ∷ us) f h = f h

chosen : {P : Type 0} (b : Bool) (x : P) (y : Option P) (q : P) → cond b (Some x) y ≡ Some q → ((b ≡ true) × (x ≡ q)) ⊎ (y ≡ Some q)
chosen true x y q h = inl (refl, cc)
chosen false x y q h = inr h

none_chosen : {P : Type 0} (b : Bool) (x : P) (y : Option P) → cond b (Some x) y ≡ None → (b ≡ false) × (y ≡ None)
none_chosen true x y h = let z : ⊥ = cc in absurd z
none_chosen false x y h = (refl, h)

-- a statement may begin within limit 3
pub may_begin : (s t : Bool) (u d : ℕ) (ts : List Token) → d ≤ most_statements → MayBegin (bounds s t u) d ts
may_begin true t u d ts h = inr h
may_begin false t u d ts h = inr tt

begin_spare : (s t : Bool) (u d : ℕ) (ts : List Token) → Spare s t u ts → MayBegin (bounds s t u) d ts
begin_spare s t u d ts (inl h) = inl h
begin_spare true t u d ts (inr h) = let z : ⊥ = cc h.0 in absurd z
begin_spare false t u d ts (inr h) = inr tt

begin_lacking : (s t : Bool) (u d : ℕ) (ts : List Token) → s ≡ false → MayBegin (bounds s t u) d ts
begin_lacking true t u d ts h = let z : ⊥ = cc in absurd z
begin_lacking false t u d ts h = inr tt

semicolon_alone : (s t : Bool) (u d : ℕ) (other : List Token) → MayBegin (bounds s t u) (suc d) (token_of (codes ";") ∷ other) → ReadsStatement (bounds s t u) d (st.Null (token_of (codes ";")).place) (token_of (codes ";") ∷ other) other
semicolon_alone s t u d other h = ReadsStatement.statement h (ReadsInside.null refl)

-- a parser that always faults, where a statement can stand
pub follows_no_statement : (d : ℕ) → Follows (λ b. ReadsStatement b d) fails
follows_no_statement d = follows_fault (λ b. ReadsStatement b d) (token_of (codes ";") ∷ []) (st.Null (token_of (codes ";")).place) (λ s t u o z y. semicolon_alone s t u d o (begin_spare s t u (suc d) (token_of (codes ";") ∷ o) z)) (λ o y. token_free (codes ";"))

module _ (whole : Parser Expression) (target : Parser Lvalue) (n : ℕ) (lw : Follows ReadsWhole whole) (lt : Follows ReadsTarget target) where
  pub follows_assignment : Follows ReadsAssignment (assignment whole target n)
  unfolding assignment
  follows_assignment = follows_weaker (λ b a ts rest (v, e, us, d, (w, vs, p, i, h, f), g). rw g (ReadsAssignment.assignment (rw i at d) (mark_some (codes "=") w p h).0 f))
      (follows_placed (assignment_of whole target n) ReadsTarget (After (mark (codes "=")) (λ _ _. ReadsWhole)) target _ lt (follows_mark (codes "=") ReadsWhole whole refl lw)
      (λ b v e ts us rest d (w, vs, p, i, h, f). omega (arith, shorter_target d, ap length i, shorter_whole f)))

  follows_argument : Follows (λ b. ReadsOptional (ReadsWhole b)) (argument whole target n)
  unfolding argument
  follows_argument = follows_ahead (λ b. ReadsOptional (ReadsWhole b)) ends_argument _ _
      (follows_weaker (λ b a ts rest (i, j). rw (i, j) ReadsOptional.nothing) (follows_pure None))
      (follows_weaker (λ b a ts rest (e, us, d, (i, j)). rw i (ReadsOptional.something (rw j at d))) (follows_bind ReadsWhole _ whole _ lw (λ e. follows_pure (Some e))))

  follows_system_argument : Follows ReadsWholeArgument (system_argument whole target n)
  unfolding system_argument
  follows_system_argument = follows_weaker (λ b a ts rest (e, us, d, (i, j)). rw i (ReadsWholeArgument.argument (rw j at d)))
      (follows_bind (λ b. ReadsOptional (ReadsWhole b)) _ (argument whole target n) _ follows_argument (λ a. follows_pure (argument_of a)))

  abbrev Given : Relation (Option (List SystemArgument))
  Given b = ReadsOptional (ReadsParenthesized (ReadsList (ReadsWholeArgument b)))

  -- what stands behind the first token of a statement
  abbrev Inside : ℕ → Token → Relation Statement
  Inside d v b a ts rest = ReadsInside b d a (v ∷ ts) rest

  follows_task : (d : ℕ) (v : Token) (name : List ℕ) → v.kind ≡ k.System name → Follows (Inside d v) (task whole target n v.place name)
  unfolding task
  follows_task d v name h = follows_weaker (λ b a ts rest (given, us, f, (w, vs, p, i, g, (j, e))). rw j (ReadsInside.task (ReadsSystemTask.system h (rw (i, e) at f)) (mark_some (codes ";") w p g).0))
      (follows_bind Given _ _ _
      (follows_weaker (λ b y ts rest g. elim g [
        | inl (w, us, p, i, h, (es, vs, f, (x, ws, q, j, g, (o, e)))) ↦ rw (i, o) (ReadsOptional.something (ReadsParenthesized.parenthesized (mark_some (codes "(") w p h).0 (rw (j, e) at f) (mark_some (codes ")") x q g).0))
        | inr (j, e) ↦ rw (j, e) ReadsOptional.nothing
      ])
      (follows_if (mark (codes "(")) (λ _ _. Then (λ b. ReadsList (ReadsWholeArgument b)) (λ es. After (mark (codes ")")) (λ _ _. Nothing (Some es)))) (Nothing None) _ _
      (λ w p g. follows_bind (λ b. ReadsList (ReadsWholeArgument b)) _ (list (system_argument whole target n) n) _ (follows_list ReadsWholeArgument (system_argument whole target n) follows_system_argument n) (λ es. follows_mark (codes ")") (Nothing (Some es)) _ refl (follows_pure (Some es))))
      (follows_pure None)))
      (λ given. follows_mark (codes ";") (Nothing (st.System v.place (system_of v.place name given))) _ refl (follows_pure (st.System v.place (system_of v.place name given)))))

  abbrev Assigned : AssignMark → Relation (AssignMark × Expression)
  Assigned kind = Then ReadsWhole (λ e. After (mark (codes ";")) (λ _ _. Nothing (kind, e)))

  equal_sign : Token
  equal_sign = token_of (codes "=")

  assign_mark_here : assign_mark whole target n (token_of (codes "=")) ≡ Some m.Blocking
  unfolding assign_mark mark
  assign_mark_here = refl

  assign_kind : (v : Token) (a b : Option Place) (kind : AssignMark) → mark (codes "=") v ≡ a → mark (codes "<=") v ≡ b → assign_mark_by whole target n v (is_some a) (is_some b) ≡ Some kind → IsAssignMark kind v
  assign_kind v (Some p) b kind i j h = let e : m.Blocking ≡ kind = cc in subst (λ z. IsAssignMark z v) e (IsAssignMark.blocking (mark_some (codes "=") v p i).0)
  assign_kind v None (Some p) kind i j h = let e : m.Nonblocking ≡ kind = cc in subst (λ z. IsAssignMark z v) e (IsAssignMark.nonblocking (mark_some (codes "<=") v p j).0)
  assign_kind v None None kind i j h = let z : ⊥ = cc in absurd z

  assign_mark_some : (v : Token) (kind : AssignMark) → assign_mark whole target n v ≡ Some kind → IsAssignMark kind v
  unfolding assign_mark
  assign_mark_some v kind h = assign_kind v (mark (codes "=") v) (mark (codes "<=") v) kind refl refl h

  follows_assign : (d : ℕ) → Follows (λ b. ReadsInside b d) (assign whole target n)
  unfolding assign
  follows_assign d = follows_weaker (λ b a ts rest (v, x, us, f, (w, vs, kind, i, h, (e, ws, g, (y, xs, q, j, r, (o, r2)))), z).
      rw (z, o) (ReadsInside.assign (rw i at f) (assign_mark_some w kind h) (rw (j, r2) at g) (mark_some (codes ";") y q r).0))
      (follows_placed (assign_of whole target n) ReadsTarget (After (assign_mark whole target n) (λ _ kind. Assigned kind)) target _ lt
      (follows_must (assign_mark whole target n) (λ _ kind. Assigned kind) _ (λ v kind h. follows_bind ReadsWhole _ whole _ lw (λ e. follows_mark (codes ";") (Nothing (kind, e)) _ refl (follows_pure (kind, e)))) (token_of (codes "=")) m.Blocking assign_mark_here (token_free (codes "=")))
      (λ b v x ts us rest f (w, vs, kind, i, h, (e, ws, g, (y, xs, q, j, r, (o, r2)))). omega (arith, shorter_target f, ap length i, shorter_whole g, ap length j, ap length r2)))

  follows_label : Follows (λ _ _. ReadsLabel) (label whole target n)
  unfolding label
  follows_label = follows_weaker (λ b a ts rest h. elim h [
    | inl (v, us, p, i, h, (e, vs, d, (j, g))) ↦ rw i (labelled v us rest (mark_some (codes ":") v p h).0 e (rw g at d))
    | inr (j, g) ↦ rw g ReadsLabel.no_label
  ])
      (follows_if (mark (codes ":")) (λ _ _. Then (λ _. ReadsIdentifier) (λ e. Nothing (Some e))) (Nothing None) _ _ (λ v p h. follows_bind (λ _. ReadsIdentifier) _ identifier _ follows_identifier (λ e. follows_pure (Some e))) (follows_pure None))
    where
      labelled : (v : Token) (us rest : List Token) → IsMark (codes ":") v → (e : Identifier) → ReadsIdentifier e us rest → ReadsLabel (v ∷ us) rest
      labelled v us rest h e (ReadsIdentifier.identifier i) = ReadsLabel.label h i

  -- ---- statements in which others stand; d stand around those

  module _ (inner : Parser Statement) (d : ℕ) (li : Follows (λ b. ReadsStatement b d) inner) where
    statements_of : (b : Bounds) {es : List Statement} {ts rest : List Token} → ReadsMany (ReadsStatement b d) es ts rest → ReadsStatements b d es ts rest
    statements_of b ReadsMany.none = ReadsStatements.no_statement
    statements_of b (ReadsMany.another f g) = ReadsStatements.a_statement f (statements_of b g)

    follows_block : (v : Token) → IsKeyword (codes "begin") v → Follows (Inside d v) (block whole target n inner v.place)
    unfolding block
    follows_block v h = follows_weaker (λ b a ts rest (x, us, f, (es, vs, g, (w, ws, p, i, r, (j, e)))). rw j (ReadsInside.block h f (statements_of b (rw (i, e) at g)) (keyword_some (codes "end") w p r).0))
        (follows_bind (λ _ _. ReadsLabel) _ (label whole target n) _ follows_label (λ x. follows_bind (λ b. ReadsMany (ReadsStatement b d)) _ (before (is_word (codes "end")) inner n) _ (follows_before (is_word (codes "end")) (λ b. ReadsStatement b d) inner li n)
        (λ es. follows_keyword (codes "end") (λ _. Nothing (st.Block v.place es)) _ refl refl (λ p. follows_pure (st.Block v.place es)))))

    follows_condition : Follows (λ b. ReadsParenthesized (ReadsWhole b)) (parenthesized whole)
    follows_condition = follows_parenthesized ReadsWhole whole lw

    when_of : (b : Bounds) (v : Token) (e : Expression) (x a : Statement) (ts us vs rest : List Token) → IsKeyword (codes "if") v → ReadsParenthesized (ReadsWhole b) e ts us → ReadsStatement b d x us vs
        → IfElse (Then (λ b. ReadsStatement b d) (λ o. Nothing (st.If v.place e x (Some o)))) (st.If v.place e x None) b a vs rest → ReadsInside b d a (v ∷ ts) rest
    when_of b v e x a ts us vs rest h f g (inl (w, ws, p, i, r, (o, xs, q, (j, z)))) = rw j (ReadsInside.when_else h f (rw i at g) (keyword_some (codes "else") w p r).0 (rw z at q))
    when_of b v e x a ts us vs rest h f g (inr (j, z, free)) = rw j (ReadsInside.when h f (rw z at g) (not_else rest free))

    follows_when : (v : Token) → IsKeyword (codes "if") v → Follows (Inside d v) (when whole target n inner v.place)
    unfolding when
    follows_when v h = follows_weaker (λ b a ts rest (e, us, f, (x, vs, g, r)). when_of b v e x a ts us vs rest h f g r)
        (follows_bind (λ b. ReadsParenthesized (ReadsWhole b)) _ (parenthesized whole) _ follows_condition (λ e. follows_bind (λ b. ReadsStatement b d) _ inner _ li
        (λ x. follows_else (Then (λ b. ReadsStatement b d) (λ o. Nothing (st.If v.place e x (Some o)))) _ (follows_bind (λ b. ReadsStatement b d) _ inner _ li (λ o. follows_pure (st.If v.place e x (Some o)))) (st.If v.place e x None))))

    -- ---- case items

    abbrev Labelled : Relation CaseItem
    Labelled = Both (labels_of whole target n inner) (λ b. ReadsList (ReadsWhole b)) (After (mark (codes ":")) (λ _ _ b. ReadsStatement b d))

    follows_labels : Follows Labelled (labels whole target n inner)
    unfolding labels
    follows_labels = follows_placed (labels_of whole target n inner) (λ b. ReadsList (ReadsWhole b)) (After (mark (codes ":")) (λ _ _ b. ReadsStatement b d)) (list whole n) _ (follows_list ReadsWhole whole lw n) (follows_mark (codes ":") (λ b. ReadsStatement b d) inner refl li)
        (λ b es a ts us rest f (w, vs, p, i, h, g). omega (arith, shorter_wholes f, ap length i, shorter_statement g))

    labels_item : (b : Bounds) (may : Bool) (a : CaseItem) (ts rest : List Token) → Labelled b a ts rest → ReadsCaseItem b d may may a ts rest
    labels_item b may a ts rest (es, x, us, f, (w, vs, p, i, h, g), z) = rw z (ReadsCaseItem.labels (rw i at f) (mark_some (codes ":") w p h).0 g)

    default_rest : (b : Bounds) (x : Statement) (ts rest : List Token) → Either (mark (codes ":")) (λ _ _ b. ReadsStatement b d) (λ b. ReadsStatement b d) b x ts rest → (us : List Token) × ReadsMarkOrNothing (codes ":") ts us × ReadsStatement b d x us rest
    default_rest b x ts rest (inl (w, us, p, i, h, f)) = (us, rw i (ReadsMarkOrNothing.a_mark (mark_some (codes ":") w p h).0), f)
    default_rest b x ts rest (inr f) = (ts, ReadsMarkOrNothing.no_mark, f)

    default_of : (b : Bounds) (v : Token) (a : CaseItem) (ts rest : List Token) → IsKeyword (codes "default") v → Then (Either (mark (codes ":")) (λ _ _ b. ReadsStatement b d) (λ b. ReadsStatement b d)) (λ x. Nothing (ci.Default v.place x)) b a ts rest → ReadsCaseItem b d true false a (v ∷ ts) rest
    default_of b v a ts rest h (x, us, f, (i, j)) = let g = default_rest b x ts us f in rw i (ReadsCaseItem.default h g.1 (subst (λ z. ReadsStatement b d x g.0 z) j g.2))

    follows_default : (v : Token) → IsKeyword (codes "default") v → Follows (λ b a ts rest. ReadsCaseItem b d true false a (v ∷ ts) rest) (default_item whole target n inner v.place)
    unfolding default_item
    follows_default v h = follows_weaker (λ b a ts rest f. default_of b v a ts rest h f)
        (follows_bind (Either (mark (codes ":")) (λ _ _ b. ReadsStatement b d) (λ b. ReadsStatement b d)) _ _ _ (follows_if (mark (codes ":")) (λ _ _ b. ReadsStatement b d) (λ b. ReadsStatement b d) (λ _. inner) inner (λ w p g. li) li) (λ x. follows_pure (ci.Default v.place x)))

    -- an item, and whether a default may come behind it
    abbrev Item : Bool → Relation (CaseItem × Bool)
    Item may b x ts rest = ReadsCaseItem b d may x.1 x.0 ts rest

    follows_labels_item : (may : Bool) → Follows (Item may) (labels whole target n inner >>= λ a. pure (a, may))
    follows_labels_item may = follows_weaker (λ b x ts rest (a, us, f, (i, j)). rw (i, ← j) (labels_item b may a ts us f)) (follows_bind Labelled _ (labels whole target n inner) _ follows_labels (λ a. follows_pure {A = CaseItem × Bool} (a, may)))

    default_pair : (v : Token) → IsKeyword (codes "default") v → Follows (λ b x ts rest. Item true b x (v ∷ ts) rest) (default_item whole target n inner v.place >>= λ a. pure (a, false))
    default_pair v h = follows_weaker (λ b x ts rest (a, us, f, (i, j)). rw (i, ← j) f) (follows_bind (λ b a ts rest. ReadsCaseItem b d true false a (v ∷ ts) rest) _ (default_item whole target n inner v.place) _ (follows_default v h) (λ a. follows_pure {A = CaseItem × Bool} (a, false)))

    default_at : (v : Token) (p : Place) → keyword (codes "default") v ≡ Some p → Follows (λ b x ts rest. Item true b x (v ∷ ts) rest) (default_item whole target n inner p >>= λ a. pure (a, false))
    default_at v p h = let g = keyword_some (codes "default") v p h in subst (λ z. Follows (λ b x ts rest. Item true b x (v ∷ ts) rest) (default_item whole target n inner z >>= λ a. pure (a, false))) (sym g.1) (default_pair v g.0)

    follows_case_item : (may : Bool) → Follows (Item may) (case_item whole target n inner may)
    unfolding case_item
    follows_case_item true = follows_weaker (λ b x ts rest h. elim h [
      | inl (v, us, p, i, g, f) ↦ rw i f
      | inr f ↦ f
    ])
        (follows_if (keyword (codes "default")) (λ v _ b x ts rest. Item true b x (v ∷ ts) rest) (Item true) _ _ (λ v p h. default_at v p h) (follows_labels_item true))
    follows_case_item false = follows_labels_item false

    follows_case_items : (j : ℕ) (may : Bool) → Follows (λ b. ReadsMoreCaseItems b d may) (case_items whole target n inner j may)
    unfolding case_items
    follows_case_items zero may = follows_fault (λ b. ReadsMoreCaseItems b d may) [] [] (λ s t u o z y. ReadsMoreCaseItems.no_item) (λ o y. y)
    follows_case_items (suc j) may = follows_ahead (λ b. ReadsMoreCaseItems b d may) (is_word (codes "endcase")) _ _
        (follows_weaker (λ b es ts rest (i, e). rw (i, e) ReadsMoreCaseItems.no_item) (follows_pure []))
        (follows_weaker (λ b es ts rest (x, us, f, (others, vs, g, (i, e))). rw i (ReadsMoreCaseItems.an_item f (rw e at g)))
        (follows_bind (Item may) _ (case_item whole target n inner may) _ (follows_case_item may) (λ x. follows_bind (λ b. ReadsMoreCaseItems b d x.1) _ (case_items whole target n inner j x.1) _ (follows_case_items j x.1) (λ others. follows_pure (x.0 ∷ others)))))

    follows_cases : (kind : CaseKeyword) (v : Token) → IsCaseKeyword kind v → Follows (Inside d v) (cases whole target n inner kind v.place)
    unfolding cases
    follows_cases kind v h = follows_weaker (λ b a ts rest (e, us, f, (x, vs, g, (others, ws, r, (w, xs, p, i, q, (j, z))))). rw j (ReadsInside.cases h f g (rw (i, z) at r) (keyword_some (codes "endcase") w p q).0))
        (follows_bind (λ b. ReadsParenthesized (ReadsWhole b)) _ (parenthesized whole) _ follows_condition (λ e. follows_bind (Item true) _ (case_item whole target n inner true) _ (follows_case_item true)
        (λ x. follows_bind (λ b. ReadsMoreCaseItems b d x.1) _ (case_items whole target n inner n x.1) _ (follows_case_items n x.1) (λ others. follows_keyword (codes "endcase") (λ _. Nothing (st.Case v.place kind e (x.0 ∷ others))) _ refl refl (λ p. follows_pure (st.Case v.place kind e (x.0 ∷ others)))))))

    -- ---- loops

    loop_of : (b : Bounds) (v : Token) (a : Statement) (ts rest : List Token) → IsKeyword (codes "for") v
        → After (mark (codes "(")) (λ _ _. Then ReadsAssignment (λ start. After (mark (codes ";")) (λ _ _. Then ReadsWhole (λ e. After (mark (codes ";")) (λ _ _. Then ReadsAssignment (λ step. After (mark (codes ")")) (λ _ _. Then (λ b. ReadsStatement b d) (λ body. Nothing (st.For v.place start e step body))))))))) b a ts rest
        → ReadsInside b d a (v ∷ ts) rest
    loop_of b v a ts rest h (v1, us1, p1, i1, h1, (start, us2, f2, (v3, us3, p3, i3, h3, (e, us4, f4, (v5, us5, p5, i5, h5, (step, us6, f6, (v7, us7, p7, i7, h7, (body, us8, f8, (j, z))))))))) =
        rw (i1, j) (ReadsInside.loop h (mark_some (codes "(") v1 p1 h1).0 (rw i3 at f2) (mark_some (codes ";") v3 p3 h3).0 (rw i5 at f4) (mark_some (codes ";") v5 p5 h5).0 (rw i7 at f6) (mark_some (codes ")") v7 p7 h7).0 (rw z at f8))

    follows_loop : (v : Token) → IsKeyword (codes "for") v → Follows (Inside d v) (loop whole target n inner v.place)
    unfolding loop
    follows_loop v h = follows_weaker (λ b a ts rest f. loop_of b v a ts rest h f)
        (follows_mark (codes "(") _ _ refl (follows_bind ReadsAssignment _ (assignment whole target n) _ follows_assignment (λ start. follows_mark (codes ";") _ _ refl (follows_bind ReadsWhole _ whole _ lw (λ e. follows_mark (codes ";") _ _ refl
        (follows_bind ReadsAssignment _ (assignment whole target n) _ follows_assignment (λ step. follows_mark (codes ")") _ _ refl (follows_bind (λ b. ReadsStatement b d) _ inner _ li (λ body. follows_pure (st.For v.place start e step body))))))))))

    follows_repeat : (v : Token) → IsKeyword (codes "repeat") v → Follows (Inside d v) (repeat whole target n inner v.place)
    unfolding repeat
    follows_repeat v h = follows_weaker (λ b a ts rest (e, us, f, (x, vs, g, (j, z))). rw j (ReadsInside.repeat h f (rw z at g)))
        (follows_bind (λ b. ReadsParenthesized (ReadsWhole b)) _ (parenthesized whole) _ follows_condition (λ e. follows_bind (λ b. ReadsStatement b d) _ inner _ li (λ x. follows_pure (st.Repeat v.place e x))))

    -- ---- by the first token

    by_word : (v : Token) (name : List ℕ) → IsKeyword name v → (q : Parser Statement) → by_keyword whole target n inner v.place name ≡ Some q → Follows (Inside d v) q
    by_word v name h q e0 = elim (chosen (bytes_eq name (codes "begin")) (block whole target n inner v.place) _ q e0) [
      | inl (i, j) ↦ subst (λ z. Follows (Inside d v) z) j (follows_block v (h ∙ ap k.Keyword ((bytes_eq-Decides name (codes "begin")).0 i)))
      | inr e1 ↦ elim (chosen (bytes_eq name (codes "if")) (when whole target n inner v.place) _ q e1) [
        | inl (i, j) ↦ subst (λ z. Follows (Inside d v) z) j (follows_when v (h ∙ ap k.Keyword ((bytes_eq-Decides name (codes "if")).0 i)))
        | inr e2 ↦ elim (chosen (bytes_eq name (codes "case")) (cases whole target n inner ck.Case v.place) _ q e2) [
          | inl (i, j) ↦ subst (λ z. Follows (Inside d v) z) j (follows_cases ck.Case v (IsCaseKeyword.case (h ∙ ap k.Keyword ((bytes_eq-Decides name (codes "case")).0 i))))
          | inr e3 ↦ elim (chosen (bytes_eq name (codes "casez")) (cases whole target n inner ck.Casez v.place) _ q e3) [
            | inl (i, j) ↦ subst (λ z. Follows (Inside d v) z) j (follows_cases ck.Casez v (IsCaseKeyword.casez (h ∙ ap k.Keyword ((bytes_eq-Decides name (codes "casez")).0 i))))
            | inr e4 ↦ elim (chosen (bytes_eq name (codes "for")) (loop whole target n inner v.place) _ q e4) [
              | inl (i, j) ↦ subst (λ z. Follows (Inside d v) z) j (follows_loop v (h ∙ ap k.Keyword ((bytes_eq-Decides name (codes "for")).0 i)))
              | inr e5 ↦ elim (chosen (bytes_eq name (codes "repeat")) (repeat whole target n inner v.place) _ q e5) [
                | inl (i, j) ↦ subst (λ z. Follows (Inside d v) z) j (follows_repeat v (h ∙ ap k.Keyword ((bytes_eq-Decides name (codes "repeat")).0 i)))
                | inr e6 ↦ (let z : ⊥ = cc in absurd z)
              ]
            ]
          ]
        ]
      ]
    ]

    follows_null : (v : Token) → IsMark (codes ";") v → Follows (Inside d v) (pure (st.Null v.place))
    follows_null v h = follows_weaker (λ b a ts rest (i, j). rw (i, j) (ReadsInside.null h)) (follows_pure (st.Null v.place))

    by_kind_follows : (v : Token) (kind : TokenKind) → v.kind ≡ kind → (q : Parser Statement) → by_kind whole target n inner v.place kind ≡ Some q → Follows (Inside d v) q
    by_kind_follows v (k.System name) h q e = let i : task whole target n v.place name ≡ q = cc in subst (λ z. Follows (Inside d v) z) i (follows_task d v name h)
    by_kind_follows v (k.Keyword name) h q e = by_word v name h q e
    by_kind_follows v (k.Mark name) h q e = elim (chosen (bytes_eq name (codes ";")) (pure (st.Null v.place)) None q e) [
      | inl (i, j) ↦ subst (λ z. Follows (Inside d v) z) j (follows_null v (h ∙ ap k.Mark ((bytes_eq-Decides name (codes ";")).0 i)))
      | inr z ↦ (let z : ⊥ = cc in absurd z)
    ]
    by_kind_follows v (k.Number name) h q e = let z : ⊥ = cc in absurd z
    by_kind_follows v (k.Str name) h q e = let z : ⊥ = cc in absurd z
    by_kind_follows v (k.Name name) h q e = let z : ⊥ = cc in absurd z

    pub follows_statement_by : (v : Token) (q : Parser Statement) → statement_by whole target n inner v ≡ Some q → Follows (Inside d v) q
    unfolding statement_by
    follows_statement_by v q e = by_kind_follows v v.kind refl q e

    pub follows_statement_level : Follows (λ b. ReadsInside b d) (statement_level whole target n inner)
    unfolding statement_level
    follows_statement_level = follows_weaker (λ b a ts rest h. elim h [
      | inl (v, us, q, i, g, f) ↦ rw i f
      | inr f ↦ f
    ])
        (follows_if (statement_by whole target n inner) (λ v _. Inside d v) (λ b. ReadsInside b d) (λ q. q) (assign whole target n) (λ v q h. follows_statement_by v q h) (follows_assign d))

  -- ---- where no further statement may nest

  -- a token with which a statement goes on past limit 3, and the tokens that may stand behind it
  abbrev GoesOn : ℕ → Token → Type 0
  GoesOn d v = (more : List Token) × (found : Statement) × ((s t : Bool) (u : ℕ) → s ≡ false → (other : List Token) → Spare s t u (more ++ other) → Free (next other) → ReadsStatement (bounds s t u) d found (v ∷ (more ++ other)) other)

  by_parser : (d : ℕ) (v : Token) (q : Parser Statement) → statement_by whole target n fails v ≡ Some q → GoesOn d v
  by_parser d v q e = let f = follows_statement_by fails (suc d) (follows_no_statement (suc d)) v q e in
      (f.word, f.value, λ s t u h o z y. ReadsStatement.statement (begin_lacking s t u (suc d) (v ∷ (f.word ++ o)) h) (f.some s t u o z y))

  -- an assignment, by its left side
  assigned : (d : ℕ) (v : Token) (ws : List Token) (left : Lvalue) → ((s t : Bool) (u : ℕ) (other : List Token) → Spare s t u (ws ++ other) → ReadsTarget (bounds s t u) left (v ∷ (ws ++ other)) other) → GoesOn d v
  assigned d v ws left reads = (
    ws ++ token_of (codes "=") ∷ (lw.word ++ token_of (codes ";") ∷ []),
    st.Assign v.place left m.Blocking lw.value,
    λ s t u h o z y. let tail : List Token = token_of (codes ";") ∷ o in let right : List Token = token_of (codes "=") ∷ (lw.word ++ tail) in
        let i : (ws ++ token_of (codes "=") ∷ (lw.word ++ token_of (codes ";") ∷ [])) ++ o ≡ ws ++ right = rw (append_assoc, append_assoc) refl in
        let w : Spare s t u (ws ++ right) = subst (λ x. Spare s t u x) i z in
        subst (λ x. ReadsStatement (bounds s t u) d (st.Assign v.place left m.Blocking lw.value) (v ∷ x) o) (sym i)
        (ReadsStatement.statement (begin_lacking s t u (suc d) (v ∷ (ws ++ right)) h)
        (ReadsInside.assign (reads s t u right w) (IsAssignMark.blocking refl)
        (lw.some s t u tail (spare_tail s t u (token_of (codes "=")) (lw.word ++ tail) (spare_behind s t u ws right w)) (token_free (codes ";"))) refl)),
  )

  name_token : Token
  name_token = record { place = record { line = 0; column = 0 }; kind = k.Name [] }

  by_name : (d : ℕ) (v : Token) (name : List ℕ) → v.kind ≡ k.Name name → GoesOn d v
  by_name d v name h = assigned d v [] (l.Name (name_of v.place name [])) (λ s t u o z. record { counted = 1; reads = ReadsLvalue.name (count_within s t u 0 (v ∷ o) (omega arith)) h ReadsIndices.no_index })

  by_brace : (d : ℕ) (v : Token) → IsMark (codes "{") v → GoesOn d v
  unfolding name_token
  by_brace d v h = assigned d v (name_token ∷ token_of (codes "}") ∷ []) (l.Concatenation v.place (l.Name (name_of name_token.place [] []) ∷ [])) (λ s t u o z. record {
    counted = 3;
    reads = ReadsLvalue.concatenation (count_within s t u 0 (v ∷ name_token ∷ token_of (codes "}") ∷ o) (omega arith)) h
        (ReadsLvalue.name (count_spare s t u 2 (name_token ∷ token_of (codes "}") ∷ o) z) refl ReadsIndices.no_index) ReadsMoreLvalues.no_more (count_spare s t u 3 (token_of (codes "}") ∷ o) (spare_tail s t u name_token (token_of (codes "}") ∷ o) z)) refl;
  })

  not_any : (a b c d e f : Bool) → a ≡ false → b ≡ false → c ≡ false → d ≡ false → e ≡ false → f ≡ false → (a || b || c || d || e || f) ≡ true → ⊥
  not_any a b c d e f i j k l m n h = cc

  by_no_word : (p : Place) (name : List ℕ) → by_keyword whole target n fails p name ≡ None → begins_word name ≡ true → ⊥
  by_no_word p name e h =
      let a = none_chosen (bytes_eq name (codes "begin")) _ _ e in
      let b = none_chosen (bytes_eq name (codes "if")) _ _ a.1 in
      let c = none_chosen (bytes_eq name (codes "case")) _ _ b.1 in
      let d = none_chosen (bytes_eq name (codes "casez")) _ _ c.1 in
      let f = none_chosen (bytes_eq name (codes "for")) _ _ d.1 in
      let g = none_chosen (bytes_eq name (codes "repeat")) _ _ f.1 in
      not_any _ _ _ _ _ _ a.0 b.0 c.0 d.0 f.0 g.0 h

  by_option : (d : ℕ) (v : Token) (o : Option (Parser Statement)) → statement_by whole target n fails v ≡ o → (o ≡ None → GoesOn d v) → GoesOn d v
  by_option d v (Some q) e h = by_parser d v q e
  by_option d v None e h = h refl

  mark_on : (d : ℕ) (v : Token) (name : List ℕ) → IsMark name v → (a b : Bool) → bytes_eq name (codes ";") ≡ a → bytes_eq name (codes "{") ≡ b → (a || b) ≡ true → GoesOn d v
  mark_on d v name i true b e f h = ([], st.Null v.place, λ s t u g o z y. ReadsStatement.statement (begin_lacking s t u (suc d) (v ∷ o) g) (ReadsInside.null (i ∙ ap k.Mark ((bytes_eq-Decides name (codes ";")).0 e))))
  mark_on d v name i false true e f h = by_brace d v (i ∙ ap k.Mark ((bytes_eq-Decides name (codes "{")).0 f))
  mark_on d v name i false false e f h = let z : ⊥ = cc in absurd z

  goes_on_by : (d : ℕ) (v : Token) (kind : TokenKind) → v.kind ≡ kind → begins_kind kind ≡ true → GoesOn d v
  unfolding statement_by
  goes_on_by d v (k.Name name) i h = by_name d v name i
  goes_on_by d v (k.System name) i h = by_parser d v (task whole target n v.place name) (ap (by_kind whole target n fails v.place) i)
  goes_on_by d v (k.Keyword name) i h = by_option d v (statement_by whole target n fails v) refl (λ e. absurd (by_no_word v.place name (sym (ap (by_kind whole target n fails v.place) i) ∙ e) h))
  goes_on_by d v (k.Mark name) i h = mark_on d v name i (bytes_eq name (codes ";")) (bytes_eq name (codes "{")) refl refl h
  goes_on_by d v (k.Number name) i h = let z : ⊥ = cc in absurd z
  goes_on_by d v (k.Str name) i h = let z : ⊥ = cc in absurd z

  goes_on : (d : ℕ) (v : Token) → begins_statement v ≡ true → GoesOn d v
  unfolding begins_statement
  goes_on d v h = goes_on_by d v v.kind refl h

  deep_beyond : (d : ℕ) (ts rest : List Token) (cause : Cause) (b : Bool) → is_next begins_statement ts ≡ b → (if b then c.Statements else c.Syntax) ≡ cause → ts ≡ rest → IsLimit cause → Beyond (λ b. ReadsStatement b d) cause [] rest
  deep_beyond d ts rest cause false h e i w = let z : IsLimit c.Syntax = subst (λ x. IsLimit x) (sym e) w in absurd z
  deep_beyond d [] rest cause true h e i w = let z : ⊥ = cc in absurd z
  deep_beyond d (v ∷ us) rest cause true h e i w = let g = goes_on d v h in subst (λ x. Beyond (λ b. ReadsStatement b d) x [] rest) e
      (record { token = v; after = us; here = sym i; more = g.0; found = g.1; begins = g.2 })

  follows_too_deep : (d : ℕ) → Follows (λ b. ReadsStatement b d) (too_deep)
  unfolding too_deep
  follows_too_deep d = record {
    took = λ ts a rest h. let z : ⊥ = cc in absurd z;
    stuck = λ ts cause rest h. let e = ap (λ x. x.0) (err_parts h) in let i = ap (λ x. x.1) (err_parts h) in record {
      front = [];
      split = i;
      more = token_of (codes ";") ∷ [];
      found = st.Null (token_of (codes ";")).place;
      begins = λ s t u o z y. semicolon_alone s t u d o (begin_spare s t u (suc d) (token_of (codes ";") ∷ o) z);
      fits = λ o y. inr (token_free (codes ";"));
      same = λ o w. ap (λ x. Err (x, o)) (ap (λ b. if b then c.Statements else c.Syntax) (is_next_same begins_statement o ts (sym w ∙ ap next (sym i))) ∙ e);
      beyond = λ w. deep_beyond d ts rest cause (is_next begins_statement ts) refl e i w;
    };
    word = token_of (codes ";") ∷ [];
    value = st.Null (token_of (codes ";")).place;
    some = λ s t u o z y. semicolon_alone s t u d o (begin_spare s t u (suc d) (token_of (codes ";") ∷ o) z);
    word_free = λ o y. token_free (codes ";");
  }

  pub follows_statement : (room d : ℕ) → room + d ≡ most_statements → Follows (λ b. ReadsStatement b d) (statement whole target n room)
  unfolding statement
  follows_statement zero d h = follows_too_deep d
  follows_statement (suc room) d h = follows_within (λ s t u a ts rest f. ReadsStatement.statement (may_begin s t u (suc d) ts (omega (arith, h))) f)
      (follows_statement_level (statement whole target n room) (suc d) (follows_statement room (suc d) (omega (arith, h))))
