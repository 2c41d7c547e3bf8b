-- Cases by the program's items, and calls that come before a statement (IEEE 1364-2005, clauses 9.5 and 17).
use Rattle.std.specs.Prelude.{ℕ, Bool, true, false, List, [], ◌∷◌, Option, Some, None, slice_get}
use Rattle.vl_design.specs.vl_base.specs.declared.bits.UnOp.{UnOp}
use Rattle.vl_design.specs.vl_base.specs.declared.bits.UnOp.TheVariants.{LogNot}
use Rattle.vl_design.specs.declared.design.CaseItem.{CaseItem}
use Rattle.vl_design.specs.declared.design.Expr.{Expr}
use Rattle.vl_design.specs.declared.design.SysCall.{SysCall}
use Rattle.vl_design.specs.Plainly as plain
use Rattle.vl_design.specs.Syntax.{Stm, Nop, Then, Sys, Items}
use Rattle.vl_design.specs.Trees.{stm_of}
use Rattle.vl_sites.specs.Lists as lists
use Rattle.sub_split.specs.Views.{call_view}

abbrev pub items_of : List ℕ → List CaseItem → Items
items_of path xs = plain.items path (lists.items_of xs)

-- an item is the default: it has no labels
abbrev pub no_labels : List Expr → Bool
no_labels [] = true
no_labels (x ∷ xs) = false

abbrev pub is_default : CaseItem → Bool
is_default x = no_labels x.labels.items

-- the body of an item; of none nothing
abbrev pub body_of : List ℕ → Option CaseItem → Stm
body_of path None = Nop
body_of path (Some x) = stm_of path x.body

-- of the item at a place
abbrev pub body_at : List ℕ → List CaseItem → Option ℕ → Stm
body_at path items None = Nop
body_at path items (Some i) = body_of path (slice_get items i)

-- an operator is `!`
abbrev pub is_not : UnOp → Bool
is_not LogNot = true
is_not op = false

-- behind a call, if there is one
abbrev pub behind_call : List ℕ → Option SysCall → Stm → Stm
behind_call path None a = a
behind_call path (Some call) a = Then (Sys (call_view path call)) a
