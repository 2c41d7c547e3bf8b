-- What has been made of statements, from the last one on (own).
use Rattle.std.specs.Prelude.{◌≡◌, ℕ, Bool, List, ◌++◌, map, reverse}
use Rattle.vl_design.specs.declared.design.Expr.{Expr}
use Rattle.vl_design.specs.Syntax.{Exp, Items}
use Rattle.sub_nodes.specs.Nodes.{Node}
use Rattle.sub_nodes.specs.Code as c
use Rattle.sub_nodes.specs.Code.{Made, ItemsMade, switching, number, placed, split, split_items, split_default}
use Rattle.sub_split.specs.declared.table.Way.{Way}
use Rattle.sub_split.specs.declared.making.Next.{Next}
use Rattle.sub_split.specs.declared.making.Next.TheVariants as x
use Rattle.sub_split.specs.declared.making.Head.{Head}
use Rattle.sub_split.specs.declared.making.Nodes.{Nodes}
use Rattle.sub_split.specs.Views.{call_view, piece_view, way_view, way_on_view, node_view}

abbrev pub next_view : Next → c.Next
next_view (x.Calls path call to) = c.Calls (call_view path.now call.now) to
next_view (x.Leads on) = c.Leads (way_on_view on)

abbrev pub head_view : Head → c.Head
head_view h = record { statements = map piece_view (reverse h.statements.items); next = next_view h.next }

abbrev pub nodes_view : Nodes → List Node
nodes_view n = map node_view n.all.items

abbrev pub made_view : Nodes → Head → Made
made_view n h = record { nodes = nodes_view n; head = head_view h }

-- nodes are numbered as before, and with this head they are what is made
pub record Makes (old new : Nodes) (h : Head) (m : Made) : Type 0 where
  pub from : new.from ≡ old.from
  pub made : made_view new h ≡ m

-- likewise, where before says which choices hold calls: of these and more; and after of those that are left
abbrev pub Splits : (before after marks : List Bool) (old new : Nodes) (h : Head) → Made → Type 0
Splits before after marks old new h m = (rest : List Bool) → before ≡ marks ++ rest → (after ≡ rest) × Makes old new h m

-- nodes are numbered as before, and with these ways they are what is made of items
pub record MakesItems (old new : Nodes) (made : List Way) (m : ItemsMade) : Type 0 where
  pub from : new.from ≡ old.from
  pub nodes : nodes_view new ≡ m.nodes
  pub ways : map way_view made ≡ m.ways

-- likewise a way: its item has these labels, and its body was made before what is behind the case
pub record MakesItem (old new : Nodes) (w : Way) (labels : List Expr) (m : Made) : Type 0 where
  pub from : new.from ≡ old.from
  pub nodes : nodes_view new ≡ placed old.from m.nodes m.head
  pub labels_are : w.labels.now ≡ labels
  pub to : w.to ≡ number old.from m.nodes

abbrev pub SplitsItem : (before after marks : List Bool) (old new : Nodes) (w : Way) (labels : List Expr) → Made → Type 0
SplitsItem before after marks old new w labels m = (rest : List Bool) → before ≡ marks ++ rest → (after ≡ rest) × MakesItem old new w labels m

abbrev pub SplitsItems : (before after marks : List Bool) (old new : Nodes) (ways : List Way) → ItemsMade → Type 0
SplitsItems before after marks old new ways m = (rest : List Bool) → before ≡ marks ++ rest → (after ≡ rest) × MakesItems old new ways m

-- a case that holds a call, before what has been made
abbrev pub switch : ℕ → Exp → Items → Made → Made
switch from e items m = switching from e (split_items from items m).ways (split_default from items (record m { nodes = (split_items from items m).nodes }))
