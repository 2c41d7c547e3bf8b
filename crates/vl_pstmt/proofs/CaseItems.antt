-- The items of a case, of which at most one is a default.
use Rattle.std.proofs.Common.{◌≡◌, ℕ, zero, suc, ◌<◌, length, List, [], ◌∷◌, ◌++◌, Ok, Bool, true, false, codes, sym, arith, append-nil, ◌∙◌}
use Rattle.vl_tree.specs.declared.token.Token.{Token}
use Rattle.vl_tree.specs.declared.tree.Expression.{Expression}
use Rattle.vl_tree.specs.Reading.{is_next}
use Rattle.vl_tree.specs.declared.source_fault.Fault.{Fault}
use Rattle.vl_tree.specs.declared.source_tree.CaseItem.{CaseItem}
use Rattle.vl_tree.specs.declared.source_tree.Lvalue.{Lvalue}
use Rattle.vl_tree.specs.declared.source_tree.Statement.{Statement}
use Rattle.vl_tree.specs.Parsers.{Outcome, Parser, with_front, is_word, Fails}
use Rattle.vl_tree.specs.Parsing.{case_item, case_items}
use Rattle.vl_pstmt.proofs.Passing.{fails_on, with_front_more}

module _ (whole : Parser Expression) (target : Parser Lvalue) (n : ℕ) (inner : Parser Statement) where
  -- what the items are from here on, with these in front, is all of them
  abbrev pub GoesOn : List CaseItem → Bool → List Token → Outcome (List CaseItem) → Type 0
  GoesOn front may ts total = (k : ℕ) × (length ts < k) × (with_front front (case_items whole target n inner k may ts) ≡ total)

  -- what is left of the items after a turn
  pub items_turn : (front : List CaseItem) (may after : Bool) (ts vs : List Token) (i : CaseItem) (total : Outcome (List CaseItem)) → false ≡ is_next (is_word (codes "endcase")) ts → case_item whole target n inner may ts ≡ Ok ((i, after), vs) → length vs < length ts
      → GoesOn front may ts total → GoesOn (front ++ i ∷ []) after vs total
  unfolding case_items
  items_turn front may after ts vs i total a b l (zero, h, q) = absurd (omega arith)
  items_turn front may after ts vs i total a b l (suc k, h, q) = (k, omega arith, with_front_more front i (case_items whole target n inner k after vs) ∙ (rw (← a, b) at q))

  -- they end before `endcase`
  pub items_end : (front : List CaseItem) (may : Bool) (ts : List Token) (total : Outcome (List CaseItem)) → true ≡ is_next (is_word (codes "endcase")) ts → GoesOn front may ts total → total ≡ Ok (front, ts)
  unfolding case_items
  items_end front may ts total a (zero, h, q) = absurd (omega arith)
  items_end front may ts total a (suc k, h, q) = sym (rw (← a, append-nil) at q)

  -- a fault in an item is one of all of them
  pub items_fail : (front : List CaseItem) (may : Bool) (ts : List Token) (e : Fault) (total : Outcome (List CaseItem)) → false ≡ is_next (is_word (codes "endcase")) ts → Fails e (case_item whole target n inner may ts) → GoesOn front may ts total → Fails e total
  unfolding case_items
  items_fail front may ts e total a b (zero, h, q) = absurd (omega arith)
  items_fail front may ts e total a b (suc k, h, q) =
      let g : Fails e (with_front front (case_items whole target n inner (suc k) may ts)) = rw (← a) (fails_on e _ _ (fails_on e _ _ b)) in
      rw q at g
