-- How large a statement is (own).
use Rattle.std.specs.Prelude.{ℕ, ◌+◌}
use Rattle.vl_design.specs.Syntax.{Stm, Then, If, Case, Items, NoItems, Labelled, Default}

abbrev mutual
  -- how many statements stand in it, with itself; a loop is one
  pub nodes : Stm → ℕ
  nodes (Then a b) = nodes a + nodes b + 1
  nodes (If t a b) = nodes a + nodes b + 1
  nodes (Case e items) = item_nodes items + 1
  nodes a = 1

  pub item_nodes : Items → ℕ
  item_nodes NoItems = 0
  item_nodes (Labelled es a others) = nodes a + item_nodes others
  item_nodes (Default a others) = nodes a + item_nodes others
