-- Statements: the number of each parser doesn't matter once it is more than there are tokens.
use Rattle.std.proofs.Common.{◌≡◌, ℕ, zero, suc, ◌+◌, ◌<◌, ◌≤◌, Bool, true, false, length, List, ◌∷◌, refl, ap, arith}
use Rattle.std.specs.Prelude.{codes}
use Rattle.std.specs.Str.{bytes_eq}
use Rattle.vl_base.specs.declared.place.Place.{Place}
use Rattle.vl_tree.specs.declared.token.Token.{Token}
use Rattle.vl_tree.specs.declared.token.TokenKind.{TokenKind}
use Rattle.vl_tree.specs.declared.token.TokenKind.TheVariants as k
use Rattle.vl_tree.specs.Reading.{is_next, keyword, mark}
use Rattle.vl_tree.specs.declared.source_tree.Statement.{Statement}
use Rattle.vl_tree.specs.declared.source_tree.CaseItem.{CaseItem}
use Rattle.vl_tree.specs.declared.source_tree.CaseKeyword.{CaseKeyword}
use Rattle.vl_tree.specs.declared.source_tree.CaseKeyword.TheVariants as ck
use Rattle.vl_tree.specs.Bounds.{most_statements}
use Rattle.vl_tree.specs.Statements.{ReadsWhole, ReadsStatement}
use Rattle.vl_tree.specs.Parsers.{Parser, and_then, ◌>>=◌, pure, must, is_word, parenthesized, many, list}
use Rattle.vl_tree.specs.Parsing.{whole, target, outer, too_deep, assignment_of, assignment, argument, system_argument, task, assign_mark, assign_of, assign, label, block, when, labels_of, labels, default_item, case_item, case_items, cases, loop, repeat, by_keyword, by_kind, statement_by, statement_level, statement}
use Rattle.vl_tree.proofs.Wholes.{shorter_whole}
use Rattle.vl_tree.proofs.Lvalues.{follows_whole, follows_target}
use Rattle.vl_tree.proofs.StatementsShorter.{shorter_statement}
use Rattle.vl_tree.proofs.StatementsFollow.{follows_statement}
use Rattle.vl_tree.proofs.Agreeing.{Agree, AgreeMaybe, Keeps, Takes, agree_pure, agree_bind, agree_placed, agree_if, agree_must, agree_ahead, agree_by, maybe_cond, keeps_bind, keeps_pure, takes_bind, takes_if, takes_placed, takes_follows, step_bind, agree_many, agree_list, agree_parenthesized, agree_optional, agree_identifier, agree_before, cond_same, cond_less}
use Rattle.vl_tree.proofs.AgreeingTargets.{agree_whole, agree_target}

module _ (n m b : ℕ) (nb : b + 1 < n) (mb : b + 1 < m) where
  n_more : b < n
  n_more = omega (arith, nb)

  m_more : b < m
  m_more = omega (arith, mb)

  wholes : Agree b (whole n) (whole m)
  wholes = agree_whole n m b nb mb

  pub agree_assignment : Agree b (assignment (whole n) (target n) n) (assignment (whole m) (target m) m)
  unfolding assignment
  agree_assignment = agree_placed (assignment_of (whole n) (target n) n) (agree_target n m b nb mb) (agree_must _ (λ x. wholes))

  argument_agrees : Agree b (system_argument (whole n) (target n) n) (system_argument (whole m) (target m) m)
  unfolding system_argument argument
  argument_agrees = agree_bind (agree_ahead _ agree_pure (agree_bind wholes (λ a. agree_pure))) (λ a. agree_pure)

  task_agrees : (p : Place) (name : List ℕ) → Agree b (task (whole n) (target n) n p name) (task (whole m) (target m) m p name)
  unfolding task
  task_agrees p name = agree_bind (agree_if _ (λ x. agree_bind (agree_list n m n_more m_more argument_agrees) (λ given. agree_must _ (λ x. agree_pure))) agree_pure) (λ given. agree_must _ (λ x. agree_pure))

  assign_agrees : Agree b (assign (whole n) (target n) n) (assign (whole m) (target m) m)
  unfolding assign assign_mark
  assign_agrees = agree_placed (assign_of (whole n) (target n) n) (agree_target n m b nb mb) (agree_must _ (λ kind. agree_bind wholes (λ a. agree_must _ (λ x. agree_pure))))

  label_agrees : Agree b (label (whole n) (target n) n) (label (whole m) (target m) m)
  unfolding label
  label_agrees = agree_optional _ (λ x. agree_identifier)

  condition_agrees : Agree b (parenthesized (whole n)) (parenthesized (whole m))
  condition_agrees = agree_parenthesized wholes

  takes_whole : Takes (whole n)
  takes_whole = takes_follows ReadsWhole (whole n) (follows_whole n) (λ a ts rest d. shorter_whole d)

  module _ (i j : Parser Statement) (l : Agree b i j) (takes : Takes i) where
    block_agrees : (p : Place) → Agree b (block (whole n) (target n) n i p) (block (whole m) (target m) m j p)
    unfolding block
    block_agrees p = agree_bind label_agrees (λ x. agree_bind (agree_before (is_word (codes "end")) i j l takes n m n_more m_more) (λ ss. agree_must _ (λ x. agree_pure)))

    when_agrees : (p : Place) → Agree b (when (whole n) (target n) n i p) (when (whole m) (target m) m j p)
    unfolding when
    when_agrees p = agree_bind condition_agrees (λ a. agree_bind l (λ first. agree_if _ (λ x. agree_bind l (λ other. agree_pure)) agree_pure))

    labels_agree : Agree b (labels (whole n) (target n) n i) (labels (whole m) (target m) m j)
    unfolding labels
    labels_agree = agree_placed (labels_of (whole n) (target n) n i) (agree_list n m n_more m_more wholes) (agree_must _ (λ x. l))

    default_agrees : (p : Place) → Agree b (default_item (whole n) (target n) n i p) (default_item (whole m) (target m) m j p)
    unfolding default_item
    default_agrees p = agree_bind (agree_if _ (λ x. l) l) (λ a. agree_pure)

    case_agrees : (may : Bool) → Agree b (case_item (whole n) (target n) n i may) (case_item (whole m) (target m) m j may)
    unfolding case_item
    case_agrees true = agree_if _ (λ p. agree_bind (default_agrees p) (λ a. agree_pure)) (agree_bind labels_agree (λ a. agree_pure))
    case_agrees false = agree_bind labels_agree (λ a. agree_pure)

    takes_labels : Takes (labels (whole n) (target n) n i)
    unfolding labels list
    takes_labels = takes_placed (labels_of (whole n) (target n) n i) (list (whole n) n) (must (mark (codes ":")) (λ _. i))
        (takes_bind (whole n) _ takes_whole (λ a. keeps_bind (many (mark (codes ",")) (λ _. whole n) n) _ (agree_many (mark (codes ",")) (λ _. whole n) (λ _. whole m) (λ x. wholes) n m n_more m_more).less (λ others. keeps_pure (a ∷ others))))
        (let h : Agree b (must (mark (codes ":")) (λ _. i)) (must (mark (codes ":")) (λ _. j)) = agree_must (mark (codes ":")) (λ x. l) in h.less)

    takes_case : (may : Bool) → Takes (case_item (whole n) (target n) n i may)
    unfolding case_item
    takes_case true = takes_if (keyword (codes "default")) _ (labels (whole n) (target n) n i >>= λ a. pure (a, true)) (λ p. keeps_bind (default_item (whole n) (target n) n i p) _ (default_agrees p).less (λ a. keeps_pure {A = CaseItem × Bool} (a, false)))
        (takes_bind (labels (whole n) (target n) n i) _ takes_labels (λ a. keeps_pure {A = CaseItem × Bool} (a, true)))
    takes_case false = takes_bind (labels (whole n) (target n) n i) _ takes_labels (λ a. keeps_pure {A = CaseItem × Bool} (a, false))

    cases_keep : (c : ℕ) (may : Bool) → Keeps (case_items (whole n) (target n) n i c may)
    unfolding case_items
    cases_keep zero may ts = omega arith
    cases_keep (suc c) may ts = cond_less (length ts) (is_next (is_word (codes "endcase")) ts) _ _ (omega arith)
        (keeps_bind (case_item (whole n) (target n) n i may) (λ x. case_items (whole n) (target n) n i c x.1 >>= λ others. pure (x.0 ∷ others)) (case_agrees may).less (λ x. keeps_bind (case_items (whole n) (target n) n i c x.1) _ (cases_keep c x.1) (λ others. keeps_pure (x.0 ∷ others))) ts)

    cases_same : (c d : ℕ) (may : Bool) (ts : List Token) → length ts ≤ b → length ts < c → length ts < d → case_items (whole n) (target n) n i c may ts ≡ case_items (whole m) (target m) m j d may ts
    unfolding case_items
    cases_same zero d may ts h e g = absurd (omega (arith, e))
    cases_same (suc c) zero may ts h e g = absurd (omega (arith, g))
    cases_same (suc c) (suc d) may ts h e g = cond_same (is_next (is_word (codes "endcase")) ts) _ _ _ _ refl (rw (← (case_agrees may).same ts h) (step_bind (case_item (whole n) (target n) n i may ts) _ _ (λ x us w. let less = takes_case may ts us x w in
        ap (λ o. and_then o (λ others. pure (x.0 ∷ others))) (cases_same c d x.1 us (omega (arith, less, h)) (omega (arith, less, e)) (omega (arith, less, g))))))

    case_items_agree : (may : Bool) → Agree b (case_items (whole n) (target n) n i n may) (case_items (whole m) (target m) m j m may)
    case_items_agree may = record { same = λ ts h. cases_same n m may ts h (omega (arith, h, nb)) (omega (arith, h, mb)); less = cases_keep n may }

    cases_agree : (kind : CaseKeyword) (p : Place) → Agree b (cases (whole n) (target n) n i kind p) (cases (whole m) (target m) m j kind p)
    unfolding cases
    cases_agree kind p = agree_bind condition_agrees (λ a. agree_bind (case_agrees true) (λ x. agree_bind (case_items_agree x.1) (λ others. agree_must _ (λ x. agree_pure))))

    loop_agrees : (p : Place) → Agree b (loop (whole n) (target n) n i p) (loop (whole m) (target m) m j p)
    unfolding loop
    loop_agrees p = agree_must _ (λ x. agree_bind agree_assignment (λ start. agree_must _ (λ x. agree_bind wholes (λ a. agree_must _ (λ x. agree_bind agree_assignment (λ step. agree_must _ (λ x. agree_bind l (λ body. agree_pure))))))))

    repeat_agrees : (p : Place) → Agree b (repeat (whole n) (target n) n i p) (repeat (whole m) (target m) m j p)
    unfolding repeat
    repeat_agrees p = agree_bind condition_agrees (λ a. agree_bind l (λ body. agree_pure))

    word_agrees : (p : Place) (name : List ℕ) → AgreeMaybe b (by_keyword (whole n) (target n) n i p name) (by_keyword (whole m) (target m) m j p name)
    word_agrees p name = maybe_cond (bytes_eq name (codes "begin")) (AgreeMaybe.each (block_agrees p)) (maybe_cond (bytes_eq name (codes "if")) (AgreeMaybe.each (when_agrees p))
        (maybe_cond (bytes_eq name (codes "case")) (AgreeMaybe.each (cases_agree ck.Case p)) (maybe_cond (bytes_eq name (codes "casez")) (AgreeMaybe.each (cases_agree ck.Casez p))
        (maybe_cond (bytes_eq name (codes "for")) (AgreeMaybe.each (loop_agrees p)) (maybe_cond (bytes_eq name (codes "repeat")) (AgreeMaybe.each (repeat_agrees p)) AgreeMaybe.neither)))))

    kind_agrees : (p : Place) (kind : TokenKind) → AgreeMaybe b (by_kind (whole n) (target n) n i p kind) (by_kind (whole m) (target m) m j p kind)
    kind_agrees p (k.System name) = AgreeMaybe.each (task_agrees p name)
    kind_agrees p (k.Keyword name) = word_agrees p name
    kind_agrees p (k.Mark name) = maybe_cond (bytes_eq name (codes ";")) (AgreeMaybe.each agree_pure) AgreeMaybe.neither
    kind_agrees p (k.Number name) = AgreeMaybe.neither
    kind_agrees p (k.Str name) = AgreeMaybe.neither
    kind_agrees p (k.Name name) = AgreeMaybe.neither

    statement_by_agrees : (v : Token) → AgreeMaybe b (statement_by (whole n) (target n) n i v) (statement_by (whole m) (target m) m j v)
    unfolding statement_by
    statement_by_agrees v = kind_agrees v.place v.kind

    level_agrees : Agree b (statement_level (whole n) (target n) n i) (statement_level (whole m) (target m) m j)
    unfolding statement_level
    level_agrees = agree_by b (statement_by (whole n) (target n) n i) (statement_by (whole m) (target m) m j) statement_by_agrees assign_agrees

  deep_agrees : Agree b too_deep too_deep
  unfolding too_deep
  deep_agrees = record { same = λ ts h. refl; less = λ ts. omega arith }

  statement_agrees : (room d : ℕ) → room + d ≡ most_statements → Agree b (statement (whole n) (target n) n room) (statement (whole m) (target m) m room)
  unfolding statement
  statement_agrees zero d h = deep_agrees
  statement_agrees (suc room) d h = level_agrees (statement (whole n) (target n) n room) (statement (whole m) (target m) m room) (statement_agrees room (suc d) (omega (arith, h)))
      (takes_follows (λ b. ReadsStatement b (suc d)) (statement (whole n) (target n) n room) (follows_statement (whole n) (target n) n (follows_whole n) (follows_target n) room (suc d) (omega (arith, h))) (λ a ts rest q. shorter_statement q))

  pub agree_outer : Agree b (outer n) (outer m)
  agree_outer = statement_agrees most_statements 0 (omega arith)
