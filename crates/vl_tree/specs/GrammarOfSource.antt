-- The grammar of sources, with one rule for each alternative (IEEE 1364-2005, annexes A.1, A.2 and A.4), within bounds.
-- ReadsX b x ts rest: at the front of ts stands an X, whose tree is x, and rest follows it.
use Rattle.std.specs.Prelude.{◌⊎◌, List, [], ◌∷◌, Option, Some, None, Bool, codes}
use Rattle.vl_base.specs.declared.place.Place.{Place}
use Rattle.vl_tree.specs.declared.token.Token.{Token}
use Rattle.vl_tree.specs.declared.tree.Expression.{Expression}
use Rattle.vl_tree.specs.declared.tree.Identifier.{Identifier}
use Rattle.vl_tree.specs.MarksOfGrammar.{IsMark, IsKeyword}
use Rattle.vl_tree.specs.Grammar.{first_place}
use Rattle.vl_tree.specs.declared.source_tree.Source.{Source}
use Rattle.vl_tree.specs.declared.source_tree.Module.{Module}
use Rattle.vl_tree.specs.declared.source_tree.ParameterGroup.{ParameterGroup}
use Rattle.vl_tree.specs.declared.source_tree.ParameterType.{ParameterType}
use Rattle.vl_tree.specs.declared.source_tree.ParameterType.TheVariants as t
use Rattle.vl_tree.specs.declared.source_tree.ParameterAssignment.{ParameterAssignment}
use Rattle.vl_tree.specs.declared.source_tree.ParameterKeyword.{ParameterKeyword}
use Rattle.vl_tree.specs.declared.source_tree.ParameterKeyword.TheVariants as w
use Rattle.vl_tree.specs.declared.source_tree.Ports.{Ports}
use Rattle.vl_tree.specs.declared.source_tree.Ports.TheVariants as ps
use Rattle.vl_tree.specs.declared.source_tree.PortDeclaration.{PortDeclaration}
use Rattle.vl_tree.specs.declared.source_tree.PortDeclaration.TheVariants as p
use Rattle.vl_tree.specs.declared.source_tree.Direction.{Direction}
use Rattle.vl_tree.specs.declared.source_tree.Direction.TheVariants as d
use Rattle.vl_tree.specs.declared.source_tree.DeclarationAssignment.{DeclarationAssignment}
use Rattle.vl_tree.specs.declared.source_tree.Range.{Range}
use Rattle.vl_tree.specs.declared.source_tree.Item.{Item}
use Rattle.vl_tree.specs.declared.source_tree.Item.TheVariants as i
use Rattle.vl_tree.specs.declared.source_tree.VariableType.{VariableType}
use Rattle.vl_tree.specs.declared.source_tree.VariableMore.{VariableMore}
use Rattle.vl_tree.specs.declared.source_tree.VariableMore.TheVariants as v
use Rattle.vl_tree.specs.declared.source_tree.Assignment.{Assignment}
use Rattle.vl_tree.specs.declared.source_tree.Trigger.{Trigger}
use Rattle.vl_tree.specs.declared.source_tree.Trigger.TheVariants as g
use Rattle.vl_tree.specs.declared.source_tree.Event.{Event}
use Rattle.vl_tree.specs.declared.source_tree.Edge.TheVariants as e
use Rattle.vl_tree.specs.declared.source_tree.Function.{Function}
use Rattle.vl_tree.specs.declared.source_tree.FunctionPort.{FunctionPort}
use Rattle.vl_tree.specs.declared.source_tree.FunctionDeclaration.{FunctionDeclaration}
use Rattle.vl_tree.specs.declared.source_tree.FunctionDeclaration.TheVariants as f
use Rattle.vl_tree.specs.declared.source_tree.Instance.{Instance}
use Rattle.vl_tree.specs.declared.source_tree.NamedInstance.{NamedInstance}
use Rattle.vl_tree.specs.declared.source_tree.Connection.{Connection}
use Rattle.vl_tree.specs.declared.source_tree.Connection.TheVariants as c
use Rattle.vl_tree.specs.declared.source_tree.Statement.{Statement}
use Rattle.vl_tree.specs.Bounds.{Bounds}
use Rattle.vl_tree.specs.Lists.{ReadsOptional, ReadsMany, ReadsList, ReadsParenthesized, ReadsWord, ReadsIdentifier}
use Rattle.vl_tree.specs.Statements.{ReadsWhole, ReadsAssignment, ReadsStatement}

-- ---- declarations

-- range = "[" expr ":" expr "]"
pub data ReadsRange (b : Bounds) : Range → List Token → List Token → Type 0 where
  range : {l r : Expression} {opening colon closing : Token} {ts us rest : List Token} → IsMark (codes "[") opening → ReadsWhole b l ts (colon ∷ us) → IsMark (codes ":") colon → ReadsWhole b r us (closing ∷ rest) → IsMark (codes "]") closing
      → ReadsRange b (record { place = opening.place; left = l; right = r }) (opening ∷ ts) rest

-- ptype = "integer" | [ "signed" ] [ range ]
pub data ReadsParameterType (b : Bounds) : ParameterType → List Token → List Token → Type 0 where
  integer : {word : Token} {rest : List Token} → IsKeyword (codes "integer") word → ReadsParameterType b t.Integer (word ∷ rest) rest
  vector : {signed : Bool} {r : Option Range} {ts us rest : List Token} → ReadsWord (codes "signed") signed ts us → ReadsOptional (ReadsRange b) r us rest → ReadsParameterType b (t.Vector signed r) ts rest

-- pset = id "=" expr
pub data ReadsParameterAssignment (b : Bounds) : ParameterAssignment → List Token → List Token → Type 0 where
  parameter : {n : Identifier} {a : Expression} {equal : Token} {ts us rest : List Token} → ReadsIdentifier n ts (equal ∷ us) → IsMark (codes "=") equal → ReadsWhole b a us rest
      → ReadsParameterAssignment b (record { place = n.place; name = n; value = a }) ts rest

-- "=" expr
pub data ReadsValue (b : Bounds) : Expression → List Token → List Token → Type 0 where
  value : {a : Expression} {equal : Token} {ts rest : List Token} → IsMark (codes "=") equal → ReadsWhole b a ts rest → ReadsValue b a (equal ∷ ts) rest

-- aset = id [ "=" expr ]
pub data ReadsDeclarationAssignment (b : Bounds) : DeclarationAssignment → List Token → List Token → Type 0 where
  declaration : {n : Identifier} {a : Option Expression} {ts us rest : List Token} → ReadsIdentifier n ts us → ReadsOptional (ReadsValue b) a us rest
      → ReadsDeclarationAssignment b (record { place = n.place; name = n; value = a }) ts rest

-- range | "=" expr
pub data ReadsVariableMore (b : Bounds) : VariableMore → List Token → List Token → Type 0 where
  words : {r : Range} {ts rest : List Token} → ReadsRange b r ts rest → ReadsVariableMore b (v.Words r) ts rest
  first_value : {a : Expression} {ts rest : List Token} → ReadsValue b a ts rest → ReadsVariableMore b (v.Value a) ts rest

-- vset = id [ range | "=" expr ]
pub data ReadsVariableType (b : Bounds) : VariableType → List Token → List Token → Type 0 where
  variable : {n : Identifier} {a : Option VariableMore} {ts us rest : List Token} → ReadsIdentifier n ts us → ReadsOptional (ReadsVariableMore b) a us rest
      → ReadsVariableType b (record { place = n.place; name = n; more = a }) ts rest

-- "input" | "output"
pub data IsDirection : Direction → Token → Type 0 where
  input : {word : Token} → IsKeyword (codes "input") word → IsDirection d.Input word
  output : {word : Token} → IsKeyword (codes "output") word → IsDirection d.Output word

-- aport
pub data ReadsPort (b : Bounds) : PortDeclaration → List Token → List Token → Type 0 where
  -- ("input" | "output") [ "wire" ] [ "signed" ] [ range ] id { "," id }
  net : {direction : Direction} {wire signed : Bool} {r : Option Range} {ns : List Identifier} {word : Token} {ts us vs ws rest : List Token} → IsDirection direction word → ReadsWord (codes "wire") wire ts us → ReadsWord (codes "signed") signed us vs → ReadsOptional (ReadsRange b) r vs ws → ReadsList ReadsIdentifier ns ws rest
      → ReadsPort b (p.Net word.place direction wire signed r ns) (word ∷ ts) rest
  -- "output" "reg" [ "signed" ] [ range ] aset { "," aset }
  reg : {signed : Bool} {r : Option Range} {ns : List DeclarationAssignment} {word kind : Token} {ts us vs rest : List Token} → IsKeyword (codes "output") word → IsKeyword (codes "reg") kind → ReadsWord (codes "signed") signed ts us → ReadsOptional (ReadsRange b) r us vs → ReadsList (ReadsDeclarationAssignment b) ns vs rest
      → ReadsPort b (p.Reg word.place signed r ns) (word ∷ kind ∷ ts) rest
  -- "output" "integer" aset { "," aset }
  integer_port : {ns : List DeclarationAssignment} {word kind : Token} {ts rest : List Token} → IsKeyword (codes "output") word → IsKeyword (codes "integer") kind → ReadsList (ReadsDeclarationAssignment b) ns ts rest
      → ReadsPort b (p.Integer word.place ns) (word ∷ kind ∷ ts) rest

-- ---- functions

-- fport = "input" ptype id { "," id }
pub data ReadsFunctionPort (b : Bounds) : FunctionPort → List Token → List Token → Type 0 where
  port : {kind : ParameterType} {ns : List Identifier} {word : Token} {ts us rest : List Token} → IsKeyword (codes "input") word → ReadsParameterType b kind ts us → ReadsList ReadsIdentifier ns us rest
      → ReadsFunctionPort b (record { place = word.place; kind = kind; names = ns }) (word ∷ ts) rest

-- fdecl
pub data ReadsFunctionDeclaration (b : Bounds) : FunctionDeclaration → List Token → List Token → Type 0 where
  -- fport ";"
  input_declaration : {a : FunctionPort} {closing : Token} {ts rest : List Token} → ReadsFunctionPort b a ts (closing ∷ rest) → IsMark (codes ";") closing → ReadsFunctionDeclaration b (f.Input a) ts rest
  -- "reg" [ "signed" ] [ range ] id { "," id } ";"
  reg_declaration : {signed : Bool} {r : Option Range} {ns : List Identifier} {word closing : Token} {ts us vs rest : List Token} → IsKeyword (codes "reg") word → ReadsWord (codes "signed") signed ts us → ReadsOptional (ReadsRange b) r us vs → ReadsList ReadsIdentifier ns vs (closing ∷ rest) → IsMark (codes ";") closing
      → ReadsFunctionDeclaration b (f.Reg word.place signed r ns) (word ∷ ts) rest
  -- "integer" id { "," id } ";"
  integer_declaration : {ns : List Identifier} {word closing : Token} {ts rest : List Token} → IsKeyword (codes "integer") word → ReadsList ReadsIdentifier ns ts (closing ∷ rest) → IsMark (codes ";") closing
      → ReadsFunctionDeclaration b (f.Integer word.place ns) (word ∷ ts) rest

-- function
pub data ReadsFunction (b : Bounds) : Function → List Token → List Token → Type 0 where
  function_of : {automatic : Bool} {kind : ParameterType} {n : Identifier} {ports : Option (List FunctionPort)} {ds : List FunctionDeclaration} {a : Statement} {word closing last : Token} {ts us vs ws xs ys rest : List Token}
      → IsKeyword (codes "function") word → ReadsWord (codes "automatic") automatic ts us → ReadsParameterType b kind us vs → ReadsIdentifier n vs ws → ReadsOptional (ReadsParenthesized (ReadsList (ReadsFunctionPort b))) ports ws (closing ∷ xs) → IsMark (codes ";") closing
      → ReadsMany (ReadsFunctionDeclaration b) ds xs ys → ReadsStatement b 0 a ys (last ∷ rest) → IsKeyword (codes "endfunction") last
      → ReadsFunction b (record { place = word.place; automatic = automatic; kind = kind; name = n; ports = ports; declarations = ds; statement = a }) (word ∷ ts) rest

-- ---- instances

-- conn; an empty one has the place p
pub data ReadsConnection (b : Bounds) (p : Place) : Connection → List Token → List Token → Type 0 where
  -- [ expr ]
  empty : {rest : List Token} → ReadsConnection b p (c.Ordered p None) rest rest
  ordered : {a : Expression} {ts rest : List Token} → ReadsWhole b a ts rest → ReadsConnection b p (c.Ordered (first_place ts) (Some a)) ts rest
  -- "." id "(" [ expr ] ")"
  named : {n : Identifier} {a : Option Expression} {dot : Token} {ts us rest : List Token} → IsMark (codes ".") dot → ReadsIdentifier n ts us → ReadsParenthesized (ReadsOptional (ReadsWhole b)) a us rest
      → ReadsConnection b p (c.Named dot.place n a) (dot ∷ ts) rest

-- "(" conn { "," conn } ")"
abbrev pub ReadsConnections : Bounds → Place → List Connection → List Token → List Token → Type 0
ReadsConnections b p = ReadsParenthesized (ReadsList (ReadsConnection b p))

-- inst = id "(" conns ")"
pub data ReadsNamedInstance (b : Bounds) : NamedInstance → List Token → List Token → Type 0 where
  instance_of : {n : Identifier} {cs : List Connection} {ts us rest : List Token} → ReadsIdentifier n ts us → ReadsConnections b n.place cs us rest
      → ReadsNamedInstance b (record { place = n.place; name = n; connections = cs }) ts rest

-- "#" "(" conns ")"
pub data ReadsOverrides (b : Bounds) (p : Place) : List Connection → List Token → List Token → Type 0 where
  overrides : {cs : List Connection} {hash : Token} {ts rest : List Token} → IsMark (codes "#") hash → ReadsConnections b p cs ts rest → ReadsOverrides b p cs (hash ∷ ts) rest

-- instance = id [ "#" "(" conns ")" ] inst { "," inst } ";"
pub data ReadsInstance (b : Bounds) : Instance → List Token → List Token → Type 0 where
  instances : {n : Identifier} {os : Option (List Connection)} {is : List NamedInstance} {closing : Token} {ts us vs rest : List Token} → ReadsIdentifier n ts us → ReadsOptional (ReadsOverrides b n.place) os us vs → ReadsList (ReadsNamedInstance b) is vs (closing ∷ rest) → IsMark (codes ";") closing
      → ReadsInstance b (record { place = n.place; definition = n; overrides = os; instances = is }) ts rest

-- ---- processes

-- event = [ "posedge" | "negedge" ] id
pub data ReadsEvent : Event → List Token → List Token → Type 0 where
  either_way : {n : Identifier} {ts rest : List Token} → ReadsIdentifier n ts rest → ReadsEvent (record { place = n.place; edge = None; name = n }) ts rest
  rising : {n : Identifier} {word : Token} {ts rest : List Token} → IsKeyword (codes "posedge") word → ReadsIdentifier n ts rest → ReadsEvent (record { place = word.place; edge = Some e.Rising; name = n }) (word ∷ ts) rest
  falling : {n : Identifier} {word : Token} {ts rest : List Token} → IsKeyword (codes "negedge") word → ReadsIdentifier n ts rest → ReadsEvent (record { place = word.place; edge = Some e.Falling; name = n }) (word ∷ ts) rest

-- "or" | ","
abbrev pub IsBetweenEvents : Token → Type 0
IsBetweenEvents u = IsKeyword (codes "or") u ⊎ IsMark (codes ",") u

-- event { ("or" | ",") event }
pub data ReadsEvents : List Event → List Token → List Token → Type 0 where
  last_event : {a : Event} {ts rest : List Token} → ReadsEvent a ts rest → ReadsEvents (a ∷ []) ts rest
  further_event : {a : Event} {others : List Event} {between : Token} {ts us rest : List Token} → ReadsEvent a ts (between ∷ us) → IsBetweenEvents between → ReadsEvents others us rest → ReadsEvents (a ∷ others) ts rest

-- trigger
pub data ReadsTrigger : Trigger → List Token → List Token → Type 0 where
  star : {t : Token} {rest : List Token} → IsMark (codes "*") t → ReadsTrigger g.Star (t ∷ rest) rest
  star_inside : {opening t closing : Token} {rest : List Token} → IsMark (codes "(") opening → IsMark (codes "*") t → IsMark (codes ")") closing → ReadsTrigger g.Parenthesized (opening ∷ t ∷ closing ∷ rest) rest
  events : {es : List Event} {ts rest : List Token} → ReadsParenthesized ReadsEvents es ts rest → ReadsTrigger (g.Events es) ts rest

-- ---- modules

-- "parameter" | "localparam"
pub data IsParameterKeyword : ParameterKeyword → Token → Type 0 where
  parameter_word : {word : Token} → IsKeyword (codes "parameter") word → IsParameterKeyword w.Parameter word
  local_word : {word : Token} → IsKeyword (codes "localparam") word → IsParameterKeyword w.Local word

-- item
pub data ReadsItem (b : Bounds) : Item → List Token → List Token → Type 0 where
  port_item : {a : PortDeclaration} {closing : Token} {ts rest : List Token} → ReadsPort b a ts (closing ∷ rest) → IsMark (codes ";") closing → ReadsItem b (i.Port a) ts rest
  parameter_item : {kind : ParameterKeyword} {type : ParameterType} {ns : List ParameterAssignment} {word closing : Token} {ts us rest : List Token} → IsParameterKeyword kind word → ReadsParameterType b type ts us → ReadsList (ReadsParameterAssignment b) ns us (closing ∷ rest) → IsMark (codes ";") closing
      → ReadsItem b (i.Parameter word.place kind type ns) (word ∷ ts) rest
  wire_item : {signed : Bool} {r : Option Range} {ns : List DeclarationAssignment} {word closing : Token} {ts us vs rest : List Token} → IsKeyword (codes "wire") word → ReadsWord (codes "signed") signed ts us → ReadsOptional (ReadsRange b) r us vs → ReadsList (ReadsDeclarationAssignment b) ns vs (closing ∷ rest) → IsMark (codes ";") closing
      → ReadsItem b (i.Wire word.place signed r ns) (word ∷ ts) rest
  reg_item : {signed : Bool} {r : Option Range} {ns : List VariableType} {word closing : Token} {ts us vs rest : List Token} → IsKeyword (codes "reg") word → ReadsWord (codes "signed") signed ts us → ReadsOptional (ReadsRange b) r us vs → ReadsList (ReadsVariableType b) ns vs (closing ∷ rest) → IsMark (codes ";") closing
      → ReadsItem b (i.Reg word.place signed r ns) (word ∷ ts) rest
  integer_item : {ns : List VariableType} {word closing : Token} {ts rest : List Token} → IsKeyword (codes "integer") word → ReadsList (ReadsVariableType b) ns ts (closing ∷ rest) → IsMark (codes ";") closing
      → ReadsItem b (i.Integer word.place ns) (word ∷ ts) rest
  assign_item : {ns : List Assignment} {word closing : Token} {ts rest : List Token} → IsKeyword (codes "assign") word → ReadsList (ReadsAssignment b) ns ts (closing ∷ rest) → IsMark (codes ";") closing
      → ReadsItem b (i.Assign word.place ns) (word ∷ ts) rest
  initial_item : {a : Statement} {word : Token} {ts rest : List Token} → IsKeyword (codes "initial") word → ReadsStatement b 0 a ts rest → ReadsItem b (i.Initial word.place a) (word ∷ ts) rest
  always_item : {a : Statement} {trigger : Trigger} {word at : Token} {ts us rest : List Token} → IsKeyword (codes "always") word → IsMark (codes "@") at → ReadsTrigger trigger ts us → ReadsStatement b 0 a us rest
      → ReadsItem b (i.Always word.place trigger a) (word ∷ at ∷ ts) rest
  function_item : {a : Function} {ts rest : List Token} → ReadsFunction b a ts rest → ReadsItem b (i.Function a) ts rest
  instance_item : {a : Instance} {ts rest : List Token} → ReadsInstance b a ts rest → ReadsItem b (i.Instance a) ts rest

-- pgroup = "parameter" ptype pset { "," pset }
pub data ReadsParameterGroup (b : Bounds) : ParameterGroup → List Token → List Token → Type 0 where
  group : {kind : ParameterType} {ns : List ParameterAssignment} {word : Token} {ts us rest : List Token} → IsKeyword (codes "parameter") word → ReadsParameterType b kind ts us → ReadsList (ReadsParameterAssignment b) ns us rest
      → ReadsParameterGroup b (record { place = word.place; kind = kind; assignments = ns }) (word ∷ ts) rest

-- "#" "(" pgroup { "," pgroup } ")"
pub data ReadsParameters (b : Bounds) : List ParameterGroup → List Token → List Token → Type 0 where
  parameters : {gs : List ParameterGroup} {hash : Token} {ts rest : List Token} → IsMark (codes "#") hash → ReadsParenthesized (ReadsList (ReadsParameterGroup b)) gs ts rest → ReadsParameters b gs (hash ∷ ts) rest

-- [ plist | alist ]
pub data ReadsPorts (b : Bounds) : Ports → List Token → List Token → Type 0 where
  no_port : {rest : List Token} → ReadsPorts b ps.Empty rest rest
  names : {ns : List Identifier} {ts rest : List Token} → ReadsList ReadsIdentifier ns ts rest → ReadsPorts b (ps.Names ns) ts rest
  declarations : {ds : List PortDeclaration} {ts rest : List Token} → ReadsList (ReadsPort b) ds ts rest → ReadsPorts b (ps.Declarations ds) ts rest

-- module
pub data ReadsModule (b : Bounds) : Module → List Token → List Token → Type 0 where
  module_of : {n : Identifier} {gs : Option (List ParameterGroup)} {ports : Option Ports} {is : List Item} {word closing last : Token} {ts us vs ws rest : List Token}
      → IsKeyword (codes "module") word → ReadsIdentifier n ts us → ReadsOptional (ReadsParameters b) gs us vs → ReadsOptional (ReadsParenthesized (ReadsPorts b)) ports vs (closing ∷ ws) → IsMark (codes ";") closing
      → ReadsMany (ReadsItem b) is ws (last ∷ rest) → IsKeyword (codes "endmodule") last
      → ReadsModule b (record { place = word.place; name = n; parameters = gs; ports = ports; items = is }) (word ∷ ts) rest

-- source = module { module }
pub data ReadsSource (b : Bounds) : Source → List Token → List Token → Type 0 where
  source : {m : Module} {others : List Module} {ts us rest : List Token} → ReadsModule b m ts us → ReadsMany (ReadsModule b) others us rest
      → ReadsSource b (record { place = m.place; modules = m ∷ others }) ts rest
