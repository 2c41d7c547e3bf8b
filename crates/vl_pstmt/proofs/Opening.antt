-- A left side or a statement is a level, with others that nest less inside.
use Rattle.std.proofs.Common.{◌≡◌, ℕ, zero, suc, ◌-◌, ◌<◌, List, Err, if◌then◌else◌, codes, arith, refl, sub-one}
use Rattle.vl_tree.specs.vl_base.specs.declared.place.Place.{Place}
use Rattle.vl_tree.specs.declared.token.Token.{Token}
use Rattle.vl_tree.specs.declared.tree.Expression.{Expression}
use Rattle.vl_tree.specs.Reading.{mark, is_next}
use Rattle.vl_tree.specs.declared.source_fault.Cause.TheVariants.{Syntax, Statements}
use Rattle.vl_tree.specs.declared.source_tree.Lvalue.{Lvalue}
use Rattle.vl_tree.specs.declared.source_tree.Statement.{Statement}
use Rattle.vl_tree.specs.declared.source_tree.Statement.TheVariants as s
use Rattle.vl_tree.specs.Parsers.{Parser, ◌>>=◌, pure, must}
use Rattle.vl_tree.specs.Parsing.{assignment, begins_statement, loop, too_deep, lvalue, target_level, statement, statement_level}

pub lvalue_opens : (n k : ℕ) → 0 < n → lvalue n k ≡ target_level (lvalue (n - 1)) (n - 1) k
unfolding lvalue
lvalue_opens zero k h = absurd (omega (arith, h))
lvalue_opens (suc n) k h = rw sub-one refl

module _ (whole : Parser Expression) (target : Parser Lvalue) (n : ℕ) where
  pub statement_opens : (room : ℕ) → 0 < room → statement whole target n room ≡ statement_level whole target n (statement whole target n (room - 1))
  unfolding statement
  statement_opens zero h = absurd (omega arith)
  statement_opens (suc room) h = rw sub-one refl

  pub statement_ends : (room : ℕ) (ts : List Token) → room ≡ 0 → statement whole target n room ts ≡ Err (if is_next begins_statement ts then Statements else Syntax, ts)
  unfolding statement too_deep
  statement_ends zero ts h = refl
  statement_ends (suc room) ts h = absurd (omega arith)

  -- `for`, word by word
  pub loop_opens : (inner : Parser Statement) (p : Place) (ts : List Token) → loop whole target n inner p ts ≡ must (mark (codes "(")) (λ _. assignment whole target n >>= λ start. must (mark (codes ";")) (λ _. whole >>= λ a. must (mark (codes ";")) (λ _. assignment whole target n >>= λ step. must (mark (codes ")")) (λ _. inner >>= λ body. pure (s.For p start a step body))))) ts
  unfolding loop
  loop_opens inner p ts = refl
