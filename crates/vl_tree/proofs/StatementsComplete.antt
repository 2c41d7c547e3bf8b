-- Statements: what the grammar derives within bounds is read.
use Rattle.std.proofs.Common.{◌≡◌, ℕ, zero, suc, ◌+◌, ◌<◌, inl, inr, Bool, true, false, length, List, [], ◌∷◌, Ok, Err, Option, Some, None, refl, ap, arith, ◌∙◌}
use Rattle.std.specs.Prelude.{codes, ◌||◌}
use Rattle.std.specs.Str.{bytes_eq}
use Rattle.std.proofs.lemmas.Slice.Eq.{bytes_eq-Decides}
use Rattle.vl_base.specs.declared.place.Place.{Place}
use Rattle.vl_tree.specs.declared.token.Token.{Token}
use Rattle.vl_tree.specs.declared.token.TokenKind.{TokenKind}
use Rattle.vl_tree.specs.declared.token.TokenKind.TheVariants as k
use Rattle.vl_tree.specs.declared.tree.Expression.{Expression}
use Rattle.vl_tree.specs.declared.tree.SystemArgument.{SystemArgument}
use Rattle.vl_tree.specs.MarksOfGrammar.{IsMark, IsKeyword}
use Rattle.vl_tree.specs.Grammar.{first_place, system_of}
use Rattle.vl_tree.specs.Reading.{next_by, is_next, mark, mark_by, keyword, keyword_by}
use Rattle.vl_tree.specs.Expressions.{ends_argument}
use Rattle.vl_tree.proofs.MarkLemmas.{mark_here, mark_other}
use Rattle.vl_tree.proofs.Complete.{EndsPrimary, Ends, ends_primary, ends_before, none_here, expression_starts}
use Rattle.vl_tree.specs.declared.source_tree.Statement.{Statement}
use Rattle.vl_tree.specs.declared.source_tree.Statement.TheVariants as st
use Rattle.vl_tree.specs.declared.source_tree.CaseItem.{CaseItem}
use Rattle.vl_tree.specs.declared.source_tree.CaseItem.TheVariants as ci
use Rattle.vl_tree.specs.declared.source_tree.CaseKeyword.{CaseKeyword}
use Rattle.vl_tree.specs.declared.source_tree.CaseKeyword.TheVariants as ck
use Rattle.vl_tree.specs.declared.source_tree.AssignMark.{AssignMark}
use Rattle.vl_tree.specs.declared.source_fault.Cause.TheVariants as c
use Rattle.vl_tree.specs.Bounds.{Bounds, MayBegin, most_statements}
use Rattle.vl_tree.specs.Lists.{Next, ReadsOptional, ReadsList, ReadsParenthesized, ReadsMarkOrNothing, ReadsIdentifier}
use Rattle.vl_tree.specs.Statements.{ReadsLvalue, ReadsWhole, IsCaseKeyword, IsAssignMark, ReadsLabel, ReadsWholeArgument, ReadsSystemTask, ReadsStatement, ReadsInside, ReadsStatements, ReadsCaseItem, ReadsMoreCaseItems}
use Rattle.vl_tree.specs.Parsers.{Parser, is_word, parenthesized, list, before}
use Rattle.vl_tree.specs.Parsing.{whole, target, begins_kind, begins_statement, too_deep, argument, system_argument, task, assign_mark, assign, label, block, when, labels, default_item, case_item, case_items, cases, loop, repeat, by_kind, statement_by, statement_level, statement}
use Rattle.vl_tree.proofs.Words.{keyword_some, keyword_here, no_mark, by_kind as kind_first}
use Rattle.vl_tree.proofs.FollowsOfSource.{bounds}
use Rattle.vl_tree.proofs.Completing.{Reads, reads_bind, reads_next, reads_other, read_now, reads_parenthesized, reads_list, identifier_reads, mark_next, mark_apart, keyword_next, keyword_apart}
use Rattle.vl_tree.proofs.Wholes.{shorter_whole, shorter_target}
use Rattle.vl_tree.proofs.StatementsShorter.{shorter_wholes, shorter_condition, shorter_assignment, no_longer_argument, no_longer_label, shorter_statement, shorter_case}
use Rattle.vl_tree.proofs.WholesComplete.{reads_whole, reads_target, reads_assignment, expression_no_keyword, not_word, ends_mark}

-- ---- what comes first

-- what holds of the kind of each token with which a statement begins
module _ {Y : Type 0} (f : TokenKind → Y) (y : Y) (on_name : (n : List ℕ) → f (k.Name n) ≡ y) (on_system : (n : List ℕ) → f (k.System n) ≡ y)
    (on_begin : f (k.Keyword (codes "begin")) ≡ y) (on_if : f (k.Keyword (codes "if")) ≡ y) (on_case : f (k.Keyword (codes "case")) ≡ y) (on_casez : f (k.Keyword (codes "casez")) ≡ y) (on_for : f (k.Keyword (codes "for")) ≡ y) (on_repeat : f (k.Keyword (codes "repeat")) ≡ y)
    (on_null : f (k.Mark (codes ";")) ≡ y) (on_brace : f (k.Mark (codes "{")) ≡ y) where
  first_mark : (n : List ℕ) (a b : Bool) → bytes_eq n (codes ";") ≡ a → bytes_eq n (codes "{") ≡ b → (a || b) ≡ true → f (k.Mark n) ≡ y
  first_mark n true b i j h = ap (λ z. f (k.Mark z)) ((bytes_eq-Decides n (codes ";")).0 i) ∙ on_null
  first_mark n false true i j h = ap (λ z. f (k.Mark z)) ((bytes_eq-Decides n (codes "{")).0 j) ∙ on_brace
  first_mark n false false i j h = let z : ⊥ = cc in absurd z

  first_word : (n : List ℕ) (a b d e g h : Bool) → bytes_eq n (codes "begin") ≡ a → bytes_eq n (codes "if") ≡ b → bytes_eq n (codes "case") ≡ d → bytes_eq n (codes "casez") ≡ e → bytes_eq n (codes "for") ≡ g → bytes_eq n (codes "repeat") ≡ h
      → (a || b || d || e || g || h) ≡ true → f (k.Keyword n) ≡ y
  first_word n true b d e g h i1 i2 i3 i4 i5 i6 q = ap (λ z. f (k.Keyword z)) ((bytes_eq-Decides n (codes "begin")).0 i1) ∙ on_begin
  first_word n false true d e g h i1 i2 i3 i4 i5 i6 q = ap (λ z. f (k.Keyword z)) ((bytes_eq-Decides n (codes "if")).0 i2) ∙ on_if
  first_word n false false true e g h i1 i2 i3 i4 i5 i6 q = ap (λ z. f (k.Keyword z)) ((bytes_eq-Decides n (codes "case")).0 i3) ∙ on_case
  first_word n false false false true g h i1 i2 i3 i4 i5 i6 q = ap (λ z. f (k.Keyword z)) ((bytes_eq-Decides n (codes "casez")).0 i4) ∙ on_casez
  first_word n false false false false true h i1 i2 i3 i4 i5 i6 q = ap (λ z. f (k.Keyword z)) ((bytes_eq-Decides n (codes "for")).0 i5) ∙ on_for
  first_word n false false false false false true i1 i2 i3 i4 i5 i6 q = ap (λ z. f (k.Keyword z)) ((bytes_eq-Decides n (codes "repeat")).0 i6) ∙ on_repeat
  first_word n false false false false false false i1 i2 i3 i4 i5 i6 q = let z : ⊥ = cc in absurd z

  first_kind : (kind : TokenKind) → begins_kind kind ≡ true → f kind ≡ y
  first_kind (k.Name n) h = on_name n
  first_kind (k.System n) h = on_system n
  first_kind (k.Keyword n) h = first_word n _ _ _ _ _ _ refl refl refl refl refl refl h
  first_kind (k.Mark n) h = first_mark n _ _ refl refl h
  first_kind (k.Number n) h = let z : ⊥ = cc in absurd z
  first_kind (k.Str n) h = let z : ⊥ = cc in absurd z

  pub first_token : (v : Token) → begins_statement v ≡ true → f v.kind ≡ y
  unfolding begins_statement
  first_token v h = first_kind v.kind h

-- a word or a mark with which no statement begins
module _ (w : List ℕ) (v : Token) (us : List Token) (h : begins_statement v ≡ true) where
  pub begins_no_word : bytes_eq (codes "begin") w ≡ false → bytes_eq (codes "if") w ≡ false → bytes_eq (codes "case") w ≡ false → bytes_eq (codes "casez") w ≡ false → bytes_eq (codes "for") w ≡ false → bytes_eq (codes "repeat") w ≡ false → next_by (keyword w) (v ∷ us) ≡ None
  unfolding keyword
  begins_no_word a b d e f g = none_here (keyword w) v us (first_token (keyword_by w v.place) None (λ n. refl) (λ n. refl) (rw a refl) (rw b refl) (rw d refl) (rw e refl) (rw f refl) (rw g refl) refl refl v h)

  pub begins_no_mark : bytes_eq (codes ";") w ≡ false → bytes_eq (codes "{") w ≡ false → next_by (mark w) (v ∷ us) ≡ None
  unfolding mark
  begins_no_mark a b = none_here (mark w) v us (first_token (mark_by w v.place) None (λ n. refl) (λ n. refl) refl refl refl refl refl refl (rw a refl) (rw b refl) v h)

-- a token that begins a statement comes first
abbrev pub Starts : List Token → Type 0
Starts ts = (v : Token) × (us : List Token) × (ts ≡ v ∷ us) × (begins_statement v ≡ true)

starts_by : (v : Token) (us : List Token) (kind : TokenKind) → v.kind ≡ kind → begins_kind kind ≡ true → Starts (v ∷ us)
unfolding begins_statement
starts_by v us kind h e = (v, us, refl, kind_first begins_kind true v kind h e)

lvalue_starts : {b : Bounds} {n m : ℕ} {v : _} {ts rest : List Token} → ReadsLvalue b n m v ts rest → Starts ts
lvalue_starts (ReadsLvalue.name {i = n} {t} {ts} w h d) = starts_by t ts (k.Name n) h refl
lvalue_starts (ReadsLvalue.concatenation {opening} {ts} w h d f z i) = starts_by opening ts (k.Mark (codes "{")) h refl

case_starts : {word : CaseKeyword} (v : Token) (us : List Token) → IsCaseKeyword word v → Starts (v ∷ us)
case_starts v us (IsCaseKeyword.case h) = starts_by v us (k.Keyword (codes "case")) h refl
case_starts v us (IsCaseKeyword.casez h) = starts_by v us (k.Keyword (codes "casez")) h refl

task_starts : {b : Bounds} {a : _} {ts rest : List Token} → ReadsSystemTask b a ts rest → Starts ts
task_starts (ReadsSystemTask.system {n} {given} {t} {ts} h d) = starts_by t ts (k.System n) h refl

inside_starts : {b : Bounds} {d : ℕ} {a : Statement} {ts rest : List Token} → ReadsInside b d a ts rest → Starts ts
inside_starts (ReadsInside.null {d} {t} {rest} h) = starts_by t rest (k.Mark (codes ";")) h refl
inside_starts (ReadsInside.block {d} {inner} {opening} {closing} {ts} h l f i) = starts_by opening ts (k.Keyword (codes "begin")) h refl
inside_starts (ReadsInside.when {d} {e} {a} {word} {ts} h g f free) = starts_by word ts (k.Keyword (codes "if")) h refl
inside_starts (ReadsInside.when_else {d} {e} {a} {o} {word} {other} {ts} h g f i j) = starts_by word ts (k.Keyword (codes "if")) h refl
inside_starts (ReadsInside.cases {d} {word} {e} {after} {i} {others} {t} {closing} {ts} h g f r q) = case_starts t ts h
inside_starts (ReadsInside.loop {d} {start} {step} {e} {a} {word} {opening} {first} {second} {closing} {ts} h i f j g p q r o) = starts_by word (opening ∷ ts) (k.Keyword (codes "for")) h refl
inside_starts (ReadsInside.repeat {d} {e} {a} {word} {ts} h g f) = starts_by word ts (k.Keyword (codes "repeat")) h refl
inside_starts (ReadsInside.assign f h g i) = lvalue_starts f.reads
inside_starts (ReadsInside.task f h) = task_starts f

pub statement_starts : {b : Bounds} {d : ℕ} {a : Statement} {ts rest : List Token} → ReadsStatement b d a ts rest → Starts ts
statement_starts (ReadsStatement.statement h f) = inside_starts f

starts_no_word : (w : List ℕ) {ts : List Token} → Starts ts → bytes_eq (codes "begin") w ≡ false → bytes_eq (codes "if") w ≡ false → bytes_eq (codes "case") w ≡ false → bytes_eq (codes "casez") w ≡ false → bytes_eq (codes "for") w ≡ false → bytes_eq (codes "repeat") w ≡ false → next_by (keyword w) ts ≡ None
starts_no_word w (v, us, i, h) a b d e f g = ap (next_by (keyword w)) i ∙ begins_no_word w v us h a b d e f g

starts_no_mark : (w : List ℕ) {ts : List Token} → Starts ts → bytes_eq (codes ";") w ≡ false → bytes_eq (codes "{") w ≡ false → next_by (mark w) ts ≡ None
starts_no_mark w (v, us, i, h) a b = ap (next_by (mark w)) i ∙ begins_no_mark w v us h a b

-- no `else` comes
no_else_at : (v : Token) (us : List Token) → (IsKeyword (codes "else") v → ⊥) → (o : Option Place) → keyword (codes "else") v ≡ o → next_by (keyword (codes "else")) (v ∷ us) ≡ None
no_else_at v us h None e = none_here (keyword (codes "else")) v us e
no_else_at v us h (Some p) e = absurd (h (keyword_some (codes "else") v p e).0)

no_else : (rest : List Token) → (Next (IsKeyword (codes "else")) rest → ⊥) → next_by (keyword (codes "else")) rest ≡ None
unfolding next_by
no_else [] h = refl
no_else (v ∷ us) h = no_else_at v us h (keyword (codes "else") v) refl

-- ---- limit 3

deep_excused : {s t : Bool} {u : ℕ} (d : ℕ) (a : Statement) (ts rest : List Token) → Starts ts → MayBegin (bounds s t u) (suc d) ts → d ≡ most_statements → Reads s t u a rest (too_deep ts)
unfolding too_deep
deep_excused {s} {t} {u} d a ts rest (v, us, i, h) may e = rw (i, h) (go s (rw i at may))
  where
    go : (s : Bool) → MayBegin (bounds s t u) (suc d) (v ∷ us) → Reads s t u a rest (Err (c.Statements, v ∷ us))
    go true (inl q) = Reads.excused (inr (omega arith, q))
    go true (inr q) = absurd (omega (arith, q, e))
    go false q = Reads.excused (inl refl)

labels_start : {b : Bounds} {es : List Expression} {ts rest : List Token} (w : List ℕ) → ReadsList (ReadsWhole b) es ts rest → next_by (keyword w) ts ≡ None
labels_start w (ReadsList.last d) = expression_no_keyword w d.reads
labels_start w (ReadsList.further d h f) = expression_no_keyword w d.reads

case_item_starts : {b : Bounds} {d : ℕ} {may after : Bool} {i : CaseItem} {ts rest : List Token} → ReadsCaseItem b d may after i ts rest → is_next (is_word (codes "endcase")) ts ≡ false
case_item_starts (ReadsCaseItem.labels {d} {may} {es} {a} {colon} {ts} f h g) = not_word (codes "endcase") ts (labels_start (codes "endcase") f)
case_item_starts (ReadsCaseItem.default {d} {a} {word} {ts} h j g) = not_word (codes "endcase") (word ∷ ts) (keyword_apart (codes "endcase") (codes "default") word ts h refl)

statements_apart : {b : Bounds} {d : ℕ} {es : List Statement} {ts : List Token} (closing : Token) (rest : List Token) → ReadsStatements b d es ts (closing ∷ rest) → IsKeyword (codes "end") closing → next_by (mark (codes ":")) ts ≡ None
statements_apart closing rest ReadsStatements.no_statement h = none_here _ closing rest (no_mark (codes ":") closing (k.Keyword (codes "end")) h refl)
statements_apart closing rest (ReadsStatements.a_statement f g) h = starts_no_mark (codes ":") (statement_starts f) refl refl

module _ (n : ℕ) where
  assign_mark_reads : {kind : AssignMark} {v : Token} → IsAssignMark kind v → assign_mark (whole n) (target n) n v ≡ Some kind
  unfolding assign_mark
  assign_mark_reads (IsAssignMark.blocking {t} h) = rw (mark_here (codes "=") (codes "=") t h refl) refl
  assign_mark_reads (IsAssignMark.nonblocking {t} h) = rw (mark_other (codes "=") (codes "<=") t h refl, mark_here (codes "<=") (codes "<=") t h refl) refl

  assign_mark_ends : {kind : AssignMark} (v : Token) (us : List Token) → IsAssignMark kind v → EndsPrimary (v ∷ us)
  assign_mark_ends v us (IsAssignMark.blocking h) = ends_primary (codes "=") v us h refl refl
  assign_mark_ends v us (IsAssignMark.nonblocking h) = ends_primary (codes "<=") v us h refl refl

  label_reads : {ts rest : List Token} → ReadsLabel ts rest → next_by (mark (codes ":")) rest ≡ None → (x : Option _) × (label (whole n) (target n) n ts ≡ Ok (x, rest))
  unfolding label
  label_reads ReadsLabel.no_label h = (None, rw h refl)
  label_reads (ReadsLabel.label {n = m} {colon} {t} {rest} i j) h = (Some (record { place = t.place; name = m }), rw (mark_next (codes ":") colon (t ∷ rest) i refl, identifier_reads (ReadsIdentifier.identifier {t = t} {rest = rest} j)) refl)

  -- the left side's first token begins no other statement
  lvalue_no_other : (inner : Parser Statement) {b : Bounds} {k j : ℕ} {v : _} {ts rest : List Token} → ReadsLvalue b k j v ts rest → next_by (statement_by (whole n) (target n) n inner) ts ≡ None
  unfolding statement_by
  lvalue_no_other inner (ReadsLvalue.name {t} {ts} w h d) = none_here _ t ts (ap (by_kind (whole n) (target n) n inner t.place) h)
  lvalue_no_other inner (ReadsLvalue.concatenation {opening} {ts} w h d f z i) = none_here _ opening ts (ap (by_kind (whole n) (target n) n inner opening.place) h)

  ending_word : (w : List ℕ) (v : Token) (us : List Token) → IsKeyword w v → bytes_eq w w ≡ true → is_next (is_word w) (v ∷ us) ≡ true
  ending_word w v us h e = rw (keyword_here w w v h e) refl

  module _ {s t : Bool} {u : ℕ} where
    statement_at : {a : Statement} {rest : List Token} (inner : Parser Statement) (v : Token) (kind : TokenKind) (us : List Token) (p : Parser Statement) → v.kind ≡ kind → by_kind (whole n) (target n) n inner v.place kind ≡ Some p → Reads s t u a rest (p us) → Reads s t u a rest (statement_level (whole n) (target n) n inner (v ∷ us))
    unfolding statement_level statement_by
    statement_at inner v kind us p h e g = reads_next (statement_by (whole n) (target n) n inner) _ _ v us p (ap (by_kind (whole n) (target n) n inner v.place) h ∙ e) g

    assign_at : {a : Statement} {rest : List Token} (ts : List Token) (inner : Parser Statement) → next_by (statement_by (whole n) (target n) n inner) ts ≡ None → Reads s t u a rest (assign (whole n) (target n) n ts) → Reads s t u a rest (statement_level (whole n) (target n) n inner ts)
    unfolding statement_level
    assign_at ts inner h g = rw h g

    cases_at : {word : CaseKeyword} {a : Statement} {rest : List Token} (inner : Parser Statement) (v : Token) (us : List Token) → IsCaseKeyword word v → Reads s t u a rest (cases (whole n) (target n) n inner word v.place us) → Reads s t u a rest (statement_level (whole n) (target n) n inner (v ∷ us))
    cases_at inner v us (IsCaseKeyword.case h) g = statement_at inner v (k.Keyword (codes "case")) us (cases (whole n) (target n) n inner ck.Case v.place) h refl g
    cases_at inner v us (IsCaseKeyword.casez h) g = statement_at inner v (k.Keyword (codes "casez")) us (cases (whole n) (target n) n inner ck.Casez v.place) h refl g

    pub reads_condition : {e : Expression} {ts rest : List Token} → ReadsParenthesized (ReadsWhole (bounds s t u)) e ts rest → length ts + 1 < n → Reads s t u e rest (parenthesized (whole n) ts)
    reads_condition {e} {ts} {rest} d l = reads_parenthesized (whole n) (ReadsWhole (bounds s t u)) d (λ us closing less f i. reads_whole f n (omega (arith, less, l)) (ends_before (codes ")") closing rest i refl refl refl refl))

    reads_argument : {a : SystemArgument} {ts rest : List Token} → ReadsWholeArgument (bounds s t u) a ts rest → length ts + 1 < n → Ends rest → is_next ends_argument rest ≡ true → Reads s t u a rest (system_argument (whole n) (target n) n ts)
    unfolding system_argument argument
    reads_argument (ReadsWholeArgument.argument ReadsOptional.nothing) l w e = rw e read_now
    reads_argument (ReadsWholeArgument.argument (ReadsOptional.something d)) l w e = rw (expression_starts d.reads) (reads_bind _ (reads_bind _ (reads_whole d n l w) read_now) read_now)

    reads_arguments : {es : List SystemArgument} {ts : List Token} (closing : Token) (rest : List Token) → ReadsList (ReadsWholeArgument (bounds s t u)) es ts (closing ∷ rest) → IsMark (codes ")") closing → length ts + 1 < n → Reads s t u es (closing ∷ rest) (list (system_argument (whole n) (target n) n) n ts)
    reads_arguments {es} {ts} closing rest d i l = reads_list (system_argument (whole n) (target n) n) (ReadsWholeArgument (bounds s t u)) (λ rest. Ends rest × (is_next ends_argument rest ≡ true))
        (λ v us h. (ends_before (codes ",") v us h refl refl refl refl, ends_mark (codes ",") v h refl)) (length ts)
        (λ a ts rest less d w. reads_argument d (omega (arith, less, l)) w.0 w.1) (λ a ts rest d. no_longer_argument d) d n (omega arith) (omega (arith, l)) (ends_before (codes ")") closing rest i refl refl refl refl, ends_mark (codes ")") closing i refl) (mark_apart (codes ",") (codes ")") closing rest i refl)

    reads_task : (v : Token) (name : List ℕ) {given : Option (List SystemArgument)} {ts : List Token} (closing : Token) (rest : List Token) → ReadsOptional (ReadsParenthesized (ReadsList (ReadsWholeArgument (bounds s t u)))) given ts (closing ∷ rest) → IsMark (codes ";") closing → length ts + 1 < n
        → Reads s t u (st.System v.place (system_of v.place name given)) rest (task (whole n) (target n) n v.place name ts)
    unfolding task
    reads_task v name closing rest ReadsOptional.nothing i l = rw (mark_apart (codes "(") (codes ";") closing rest i refl, mark_next (codes ";") closing rest i refl) read_now
    reads_task v name closing rest (ReadsOptional.something (ReadsParenthesized.parenthesized {a} {opening} {closing = last} {ts} h d j)) i l =
        rw (mark_next (codes "(") opening ts h refl) (reads_bind {a = Some a} {us = closing ∷ rest} _ (reads_bind _ (reads_arguments last (closing ∷ rest) d j (omega (arith, l))) (rw (mark_next (codes ")") last (closing ∷ rest) j refl) read_now)) (rw (mark_next (codes ";") closing rest i refl) read_now))

    reads_labels : {es : List Expression} {ts : List Token} (colon : Token) (rest : List Token) → ReadsList (ReadsWhole (bounds s t u)) es ts (colon ∷ rest) → IsMark (codes ":") colon → length ts + 1 < n → Reads s t u es (colon ∷ rest) (list (whole n) n ts)
    reads_labels {es} {ts} colon rest d i l = reads_list (whole n) (ReadsWhole (bounds s t u)) Ends (λ v us h. ends_before (codes ",") v us h refl refl refl refl) (length ts)
        (λ a ts rest less d w. reads_whole d n (omega (arith, less, l)) w) (λ a ts rest d. omega (arith, shorter_whole d)) d n (omega arith) (omega (arith, l)) (ends_before (codes ":") colon rest i refl refl refl refl) (mark_apart (codes ",") (codes ":") colon rest i refl)

    mutual
      unfolding statement block when labels default_item case_item case_items cases loop repeat assign before

      pub reads_statement : {d : ℕ} {a : Statement} {ts rest : List Token} → ReadsStatement (bounds s t u) d a ts rest → (room : ℕ) → room + d ≡ most_statements → length ts + 1 < n → Reads s t u a rest (statement (whole n) (target n) n room ts)
      reads_statement (ReadsStatement.statement {d} {a} {ts} {rest} may f) zero e l = deep_excused d a ts rest (inside_starts f) may (omega (arith, e))
      reads_statement (ReadsStatement.statement may f) (suc room) e l = reads_inside f room (omega (arith, e)) l

      pub reads_inside : {d : ℕ} {a : Statement} {ts rest : List Token} → ReadsInside (bounds s t u) d a ts rest → (room : ℕ) → room + d ≡ most_statements → length ts + 1 < n → Reads s t u a rest (statement_level (whole n) (target n) n (statement (whole n) (target n) n room) ts)
      reads_inside (ReadsInside.null {d} {t = v} {rest} h) room e l = statement_at (statement (whole n) (target n) n room) v (k.Mark (codes ";")) rest _ h refl read_now
      reads_inside (ReadsInside.block {d} {inner} {opening} {closing} {ts} {us} {rest} h f g i) room e l =
          let x = label_reads f (statements_apart closing rest g i) in
          statement_at (statement (whole n) (target n) n room) opening (k.Keyword (codes "begin")) ts (block (whole n) (target n) n (statement (whole n) (target n) n room) opening.place) h refl
          (rw x.1 (reads_bind _ (reads_statements g room e n (omega (arith, no_longer_label f)) (omega (arith, no_longer_label f)) (ending_word (codes "end") closing rest i refl)) (rw (keyword_next (codes "end") closing rest i refl) read_now)))
      reads_inside (ReadsInside.when {d} {e = x} {a} {word} {ts} {us} {rest} h f g free) room e l =
          statement_at (statement (whole n) (target n) n room) word (k.Keyword (codes "if")) ts (when (whole n) (target n) n (statement (whole n) (target n) n room) word.place) h refl
          (reads_bind _ (reads_condition f (omega (arith, l))) (reads_bind _ (reads_statement g room e (omega (arith, l, shorter_condition f))) (rw (no_else rest free) read_now)))
      reads_inside (ReadsInside.when_else {d} {e = x} {a} {o} {word} {other} {ts} {us} {vs} {rest} h f g i j) room e l =
          statement_at (statement (whole n) (target n) n room) word (k.Keyword (codes "if")) ts (when (whole n) (target n) n (statement (whole n) (target n) n room) word.place) h refl
          (reads_bind _ (reads_condition f (omega (arith, l))) (reads_bind _ (reads_statement g room e (omega (arith, l, shorter_condition f)))
          (rw (keyword_next (codes "else") other vs i refl) (reads_bind _ (reads_statement j room e (omega (arith, l, shorter_condition f, shorter_statement g))) read_now))))
      reads_inside (ReadsInside.cases {d} {word} {e = x} {after} {i} {others} {t = v} {closing} {ts} {us} {vs} {rest} h f g j q) room e l = cases_at (statement (whole n) (target n) n room) v ts h
          (reads_bind _ (reads_condition f (omega (arith, l))) (reads_bind _ (reads_case g room e (omega (arith, l, shorter_condition f)))
          (reads_bind _ (reads_case_items j room e n (omega (arith, l, shorter_condition f, shorter_case g)) (omega (arith, l, shorter_condition f, shorter_case g)) (ending_word (codes "endcase") closing rest q refl)) (rw (keyword_next (codes "endcase") closing rest q refl) read_now))))
      reads_inside (ReadsInside.loop {d} {start} {step} {e = x} {a} {word} {opening} {first} {second} {closing} {ts} {us} {vs} {ws} {rest} h i f j g p q r o) room e l =
          statement_at (statement (whole n) (target n) n room) word (k.Keyword (codes "for")) (opening ∷ ts) (loop (whole n) (target n) n (statement (whole n) (target n) n room) word.place) h refl
          (rw (mark_next (codes "(") opening ts i refl) (reads_bind _ (reads_assignment f n (omega (arith, l)) (ends_before (codes ";") first us j refl refl refl refl))
          (rw (mark_next (codes ";") first us j refl) (reads_bind _ (reads_whole g n (omega (arith, l, shorter_assignment f)) (ends_before (codes ";") second vs p refl refl refl refl))
          (rw (mark_next (codes ";") second vs p refl) (reads_bind _ (reads_assignment q n (omega (arith, l, shorter_assignment f, shorter_whole g)) (ends_before (codes ")") closing ws r refl refl refl refl))
          (rw (mark_next (codes ")") closing ws r refl) (reads_bind _ (reads_statement o room e (omega (arith, l, shorter_assignment f, shorter_whole g, shorter_assignment q))) read_now))))))))
      reads_inside (ReadsInside.repeat {d} {e = x} {a} {word} {ts} {us} {rest} h f g) room e l =
          statement_at (statement (whole n) (target n) n room) word (k.Keyword (codes "repeat")) ts (repeat (whole n) (target n) n (statement (whole n) (target n) n room) word.place) h refl
          (reads_bind _ (reads_condition f (omega (arith, l))) (reads_bind _ (reads_statement g room e (omega (arith, l, shorter_condition f))) read_now))
      reads_inside (ReadsInside.assign {d} {v} {kind} {e = x} {t = w} {closing} {ts} {us} {rest} f h g i) room e l =
          assign_at ts (statement (whole n) (target n) n room) (lvalue_no_other (statement (whole n) (target n) n room) f.reads)
          (reads_bind _ (reads_target f n l (assign_mark_ends w us h)) (reads_bind _ (reads_next (assign_mark (whole n) (target n) n) _ _ w us kind (assign_mark_reads h)
          (reads_bind _ (reads_whole g n (omega (arith, l, shorter_target f)) (ends_before (codes ";") closing rest i refl refl refl refl)) (rw (mark_next (codes ";") closing rest i refl) read_now))) read_now))
      reads_inside (ReadsInside.task {d} {call} {closing} {ts = _} {rest} (ReadsSystemTask.system {n = name} {given} {t = v} {ts} h f) i) room e l =
          statement_at (statement (whole n) (target n) n room) v (k.System name) ts (task (whole n) (target n) n v.place name) h refl (reads_task v name closing rest f i (omega (arith, l)))

      reads_statements : {d : ℕ} {es : List Statement} {ts rest : List Token} → ReadsStatements (bounds s t u) d es ts rest → (room : ℕ) → room + d ≡ most_statements → (j : ℕ) → length ts < j → length ts + 1 < n → is_next (is_word (codes "end")) rest ≡ true → Reads s t u es rest (before (is_word (codes "end")) (statement (whole n) (target n) n room) j ts)
      reads_statements f room e zero m l w = absurd (omega arith)
      reads_statements ReadsStatements.no_statement room e (suc j) m l w = rw w read_now
      reads_statements (ReadsStatements.a_statement {d} {a} {others} {ts} {us} {rest} f g) room e (suc j) m l w =
          rw (not_word (codes "end") ts (starts_no_word (codes "end") (statement_starts f) refl refl refl refl refl refl))
          (reads_bind _ (reads_statement f room e l) (reads_bind _ (reads_statements g room e j (omega (arith, shorter_statement f)) (omega (arith, shorter_statement f)) w) read_now))

      reads_case : {d : ℕ} {may after : Bool} {i : CaseItem} {ts rest : List Token} → ReadsCaseItem (bounds s t u) d may after i ts rest → (room : ℕ) → room + d ≡ most_statements → length ts + 1 < n → Reads s t u (i, after) rest (case_item (whole n) (target n) n (statement (whole n) (target n) n room) may ts)
      reads_case (ReadsCaseItem.labels {d} {may = true} {es} {a} {colon} {ts} {us} {rest} f h g) room e l =
          rw (labels_start (codes "default") f) (reads_bind {a = ci.Labels (first_place ts) es a} {us = rest} _ (reads_bind _ (reads_labels colon us f h l)
          (reads_bind _ (reads_next (mark (codes ":")) _ _ colon us colon.place (mark_here (codes ":") (codes ":") colon h refl) (reads_statement g room e (omega (arith, l, shorter_wholes f)))) read_now)) read_now)
      reads_case (ReadsCaseItem.labels {d} {may = false} {es} {a} {colon} {ts} {us} {rest} f h g) room e l =
          reads_bind {a = ci.Labels (first_place ts) es a} {us = rest} _ (reads_bind _ (reads_labels colon us f h l)
          (reads_bind _ (reads_next (mark (codes ":")) _ _ colon us colon.place (mark_here (codes ":") (codes ":") colon h refl) (reads_statement g room e (omega (arith, l, shorter_wholes f)))) read_now)) read_now
      reads_case (ReadsCaseItem.default {d} {a} {word} {ts} {us} {rest} h ReadsMarkOrNothing.no_mark g) room e l =
          rw (keyword_next (codes "default") word ts h refl) (reads_bind {a = ci.Default word.place a} {us = rest} _ (reads_bind _ (reads_other (mark (codes ":")) _ _ ts (starts_no_mark (codes ":") (statement_starts g) refl refl) (reads_statement g room e (omega (arith, l)))) read_now) read_now)
      reads_case (ReadsCaseItem.default {d} {a} {word} {ts = _} {us = _} {rest} h (ReadsMarkOrNothing.a_mark {t = colon} {rest = ts} i) g) room e l =
          rw (keyword_next (codes "default") word (colon ∷ ts) h refl) (reads_bind {a = ci.Default word.place a} {us = rest} _ (reads_bind _ (reads_next (mark (codes ":")) _ _ colon ts colon.place (mark_here (codes ":") (codes ":") colon i refl) (reads_statement g room e (omega (arith, l)))) read_now) read_now)

      reads_case_items : {d : ℕ} {may : Bool} {es : List CaseItem} {ts rest : List Token} → ReadsMoreCaseItems (bounds s t u) d may es ts rest → (room : ℕ) → room + d ≡ most_statements → (j : ℕ) → length ts < j → length ts + 1 < n → is_next (is_word (codes "endcase")) rest ≡ true → Reads s t u es rest (case_items (whole n) (target n) n (statement (whole n) (target n) n room) j may ts)
      reads_case_items f room e zero m l w = absurd (omega arith)
      reads_case_items ReadsMoreCaseItems.no_item room e (suc j) m l w = rw w read_now
      reads_case_items (ReadsMoreCaseItems.an_item {d} {may} {after} {i} {others} {ts} {us} {rest} f g) room e (suc j) m l w =
          rw (case_item_starts f) (reads_bind _ (reads_case f room e l) (reads_bind _ (reads_case_items g room e j (omega (arith, shorter_case f)) (omega (arith, shorter_case f)) w) read_now))
