-- Modules as plain data, their expressions bound: items in text order, those of the header first (IEEE 1364-2005, clause 12).
use Rattle.std.specs.Prelude.{ℕ, Bool, List, Option}
use Rattle.vl_design.specs.vl_base.specs.declared.place.Place.{Place}
use Rattle.vl_tree.specs.declared.tree.Identifier.{Identifier}
use Rattle.vl_tree.specs.declared.source_tree.Direction.{Direction}
use Rattle.vl_tree.specs.declared.source_tree.Trigger.{Trigger}
use Rattle.vl_flat.specs.Surface.{Ex, Left, Statement}

-- [left:right]
pub record Bounds : Type 0 where
  pub left : Ex
  pub right : Ex

-- the type of a declaration
pub data DataType : Type 0 where
  Integer : DataType
  Vector : (signed : Bool) (range : Option Bounds) → DataType

-- a declaration of a signal: its direction, if it gives one; whether it is of a variable; its type; the addresses of a
-- memory; and its value
pub record Declared : Type 0 where
  pub name : Identifier
  pub direction : Option Direction
  pub variable : Bool
  pub type : DataType
  pub words : Option Bounds
  pub value : Option Ex

-- a parameter with its default
pub record Parameter : Type 0 where
  pub name : Identifier
  pub value : Ex

-- a left side with its right side
pub record Setting : Type 0 where
  pub target : Left
  pub value : Ex

-- a variable of a function; a free one may be a loop variable, and is neither an input nor the result
pub record Local : Type 0 where
  pub name : Identifier
  pub type : DataType
  pub is_input : Bool
  pub is_free : Bool

-- a function: its variables in text order, the result first, and its body
pub record Function : Type 0 where
  pub name : Identifier
  pub type : DataType
  pub locals : List Local
  pub body : Statement

-- a connection, or an override, with its name if it has one
pub record Connection : Type 0 where
  pub place : Place
  pub name : Option (List ℕ)
  pub value : Option Ex

-- one instance of a list
pub record NamedUnit : Type 0 where
  pub name : Identifier
  pub connections : List Connection

-- instances of one module with the same overrides
pub record Instances : Type 0 where
  pub place : Place
  pub definition : List ℕ
  pub overrides : List Connection
  pub units : List NamedUnit

pub data Item : Type 0 where
  Parameters : (type : DataType) (ps : List Parameter) → Item
  Signals : (ds : List Declared) → Item
  Assigns : (as' : List Setting) → Item
  Initial : (at : Place) (body : Statement) → Item
  Always : (at : Place) (trigger : Trigger) (body : Statement) → Item
  Functions : (f : Function) → Item
  Instantiates : (us : Instances) → Item

-- a module: its ports in order, and the parameters that an instance may override, in order
pub record Module : Type 0 where
  pub name : Identifier
  pub ports : List Identifier
  pub parameters : List Identifier
  pub items : List Item
