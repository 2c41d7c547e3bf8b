-- The reading of sources, as functions. The number n of each is more than there are tokens.
-- Expressions and left sides that stand in no other are read by `whole` and `target`; so many statements may nest.
use Rattle.std.specs.Prelude.{ℕ, zero, suc, ◌+◌, List, [], ◌∷◌, ◌++◌, Ok, Err, Option, Some, None, Bool, true, false, ◌||◌, if◌then◌else◌, codes}
use Rattle.std.specs.Str.{bytes_eq}
use Rattle.vl_base.specs.declared.place.Place.{Place}
use Rattle.vl_tree.specs.declared.token.Token.{Token}
use Rattle.vl_tree.specs.declared.token.TokenKind.{TokenKind}
use Rattle.vl_tree.specs.declared.token.TokenKind.TheVariants as k
use Rattle.vl_tree.specs.declared.tree.Expression.{Expression}
use Rattle.vl_tree.specs.declared.tree.Identifier.{Identifier}
use Rattle.vl_tree.specs.declared.tree.Select.{Select}
use Rattle.vl_tree.specs.declared.tree.Bound.{Bound}
use Rattle.vl_tree.specs.declared.tree.SystemArgument.{SystemArgument}
use Rattle.vl_tree.specs.MarksOfGrammar.{select_mark}
use Rattle.vl_tree.specs.Grammar.{name_of, select_of, bound_of, system_of, argument_of}
use Rattle.vl_tree.specs.Reading.{mark, keyword, is_next}
use Rattle.vl_tree.specs.Expressions.{expr, ends_argument}
use Rattle.vl_tree.specs.declared.source_tree.Source.{Source}
use Rattle.vl_tree.specs.declared.source_tree.Module.{Module}
use Rattle.vl_tree.specs.declared.source_tree.ParameterGroup.{ParameterGroup}
use Rattle.vl_tree.specs.declared.source_tree.ParameterType.{ParameterType}
use Rattle.vl_tree.specs.declared.source_tree.ParameterType.TheVariants as t
use Rattle.vl_tree.specs.declared.source_tree.ParameterAssignment.{ParameterAssignment}
use Rattle.vl_tree.specs.declared.source_tree.ParameterKeyword.{ParameterKeyword}
use Rattle.vl_tree.specs.declared.source_tree.ParameterKeyword.TheVariants as w
use Rattle.vl_tree.specs.declared.source_tree.Ports.{Ports}
use Rattle.vl_tree.specs.declared.source_tree.Ports.TheVariants as ps
use Rattle.vl_tree.specs.declared.source_tree.PortDeclaration.{PortDeclaration}
use Rattle.vl_tree.specs.declared.source_tree.PortDeclaration.TheVariants as pd
use Rattle.vl_tree.specs.declared.source_tree.Direction.{Direction}
use Rattle.vl_tree.specs.declared.source_tree.Direction.TheVariants as d
use Rattle.vl_tree.specs.declared.source_tree.DeclarationAssignment.{DeclarationAssignment}
use Rattle.vl_tree.specs.declared.source_tree.Range.{Range}
use Rattle.vl_tree.specs.declared.source_tree.Item.{Item}
use Rattle.vl_tree.specs.declared.source_tree.Item.TheVariants as i
use Rattle.vl_tree.specs.declared.source_tree.VariableType.{VariableType}
use Rattle.vl_tree.specs.declared.source_tree.VariableMore.{VariableMore}
use Rattle.vl_tree.specs.declared.source_tree.VariableMore.TheVariants as v
use Rattle.vl_tree.specs.declared.source_tree.Assignment.{Assignment}
use Rattle.vl_tree.specs.declared.source_tree.AssignMark.{AssignMark}
use Rattle.vl_tree.specs.declared.source_tree.AssignMark.TheVariants as m
use Rattle.vl_tree.specs.declared.source_tree.Trigger.{Trigger}
use Rattle.vl_tree.specs.declared.source_tree.Trigger.TheVariants as g
use Rattle.vl_tree.specs.declared.source_tree.Event.{Event}
use Rattle.vl_tree.specs.declared.source_tree.Edge.{Edge}
use Rattle.vl_tree.specs.declared.source_tree.Edge.TheVariants as e
use Rattle.vl_tree.specs.declared.source_tree.Function.{Function}
use Rattle.vl_tree.specs.declared.source_tree.FunctionPort.{FunctionPort}
use Rattle.vl_tree.specs.declared.source_tree.FunctionDeclaration.{FunctionDeclaration}
use Rattle.vl_tree.specs.declared.source_tree.FunctionDeclaration.TheVariants as f
use Rattle.vl_tree.specs.declared.source_tree.Instance.{Instance}
use Rattle.vl_tree.specs.declared.source_tree.NamedInstance.{NamedInstance}
use Rattle.vl_tree.specs.declared.source_tree.Connection.{Connection}
use Rattle.vl_tree.specs.declared.source_tree.Connection.TheVariants as c
use Rattle.vl_tree.specs.declared.source_tree.Statement.{Statement}
use Rattle.vl_tree.specs.declared.source_tree.Statement.TheVariants as s
use Rattle.vl_tree.specs.declared.source_tree.CaseItem.{CaseItem}
use Rattle.vl_tree.specs.declared.source_tree.CaseItem.TheVariants as ci
use Rattle.vl_tree.specs.declared.source_tree.CaseKeyword.{CaseKeyword}
use Rattle.vl_tree.specs.declared.source_tree.CaseKeyword.TheVariants as ck
use Rattle.vl_tree.specs.declared.source_tree.Lvalue.{Lvalue}
use Rattle.vl_tree.specs.declared.source_tree.Lvalue.TheVariants as l
use Rattle.vl_tree.specs.declared.source_fault.Cause.TheVariants.{Syntax, Statements}
use Rattle.vl_tree.specs.Bounds.{most_statements, most_tokens}
use Rattle.vl_tree.specs.Parsers.{Outcome, Parser, ◌>>=◌, pure, fails, if_next, must, if_ahead, placed, is_word, is_mark, identifier_token, identifier, word, optional, parenthesized, many, list, before, groups, if_counted, must_counted, many_counted, limited}

-- an expression that stands in no other, within its limit
abbrev pub whole : ℕ → Parser Expression
whole n = limited most_tokens (expr n)

-- ---- left sides: each parser is given how many tokens that count stand before, and gives how many stand up to the end

module _ (n : ℕ) where
  unfoldable pub index_bound : ℕ → Parser (Option Bound × ℕ)
  index_bound k = if_counted k select_mark (λ m. whole n >>= λ e. pure (Some (bound_of m e), k + 1)) (pure (None, k))

  -- behind "["
  unfoldable pub index : ℕ → Place → Parser (Select × ℕ)
  index k p = whole n >>= λ e. index_bound k >>= λ b. must_counted b.1 (mark (codes "]")) (λ _. pure (select_of p e b.0, b.1 + 1))

  unfoldable pub indices : ℕ → Parser (List Select × ℕ)
  indices k = many_counted (mark (codes "[")) index n k

module _ (inner : ℕ → Parser (Lvalue × ℕ)) (n : ℕ) where
  -- a name with its indices, from behind the name
  unfoldable pub target_name : ℕ → Identifier → Parser (Lvalue × ℕ)
  target_name k i = indices n k >>= λ ss. pure (l.Name (name_of i.place i.name ss.0), ss.1)

  -- behind commas
  unfoldable pub more_targets : ℕ → Parser (List Lvalue × ℕ)
  more_targets k = many_counted (mark (codes ",")) (λ j _. inner j) n k

  -- from behind "{"
  unfoldable pub targets : ℕ → Place → Parser (Lvalue × ℕ)
  targets k p = inner k >>= λ v. more_targets v.1 >>= λ vs. must_counted vs.1 (mark (codes "}")) (λ _. pure (l.Concatenation p (v.0 ∷ vs.0), vs.1 + 1))

  unfoldable pub target_level : ℕ → Parser (Lvalue × ℕ)
  target_level k = if_counted k (mark (codes "{")) (targets (k + 1)) (must_counted k identifier_token (target_name (k + 1)))

unfoldable pub lvalue : ℕ → ℕ → Parser (Lvalue × ℕ)
lvalue zero k = fails
lvalue (suc n) k = target_level (lvalue n) n k

-- a left side that stands in no other
unfoldable pub target : ℕ → Parser Lvalue
target n = lvalue n 0 >>= λ v. pure v.0

-- ---- where no further statement may nest

abbrev pub begins_word : List ℕ → Bool
begins_word name = bytes_eq name (codes "begin") || bytes_eq name (codes "if") || bytes_eq name (codes "case") || bytes_eq name (codes "casez") || bytes_eq name (codes "for") || bytes_eq name (codes "repeat")

abbrev pub begins_kind : TokenKind → Bool
begins_kind (k.Name name) = true
begins_kind (k.System name) = true
begins_kind (k.Keyword name) = begins_word name
begins_kind (k.Mark name) = bytes_eq name (codes ";") || bytes_eq name (codes "{")
begins_kind _ = false

-- a statement begins with such a token
unfoldable pub begins_statement : Token → Bool
begins_statement u = begins_kind u.kind

-- what is read there: nothing, and the limit is passed where a statement begins
unfoldable pub too_deep : Parser Statement
too_deep ts = Err (if is_next begins_statement ts then Statements else Syntax, ts)

module _ (whole : Parser Expression) (target : Parser Lvalue) (n : ℕ) where
  abbrev pub assignment_of : Place → Lvalue → Expression → Assignment
  assignment_of p v a = record { place = p; target = v; value = a }

  -- lset = lvalue "=" expr
  unfoldable pub assignment : Parser Assignment
  assignment = placed assignment_of target (must (mark (codes "=")) (λ _. whole))

  -- ---- statements

  -- [ expr ] before "," or ")"
  unfoldable pub argument : Parser (Option Expression)
  argument = if_ahead ends_argument (pure None) (whole >>= λ a. pure (Some a))

  unfoldable pub system_argument : Parser SystemArgument
  system_argument = argument >>= λ a. pure (argument_of a)

  -- behind a system name
  unfoldable pub task : Place → List ℕ → Parser Statement
  task p name = if_next (mark (codes "(")) (λ _. list system_argument n >>= λ given. must (mark (codes ")")) (λ _. pure (Some given))) (pure None)
      >>= λ given. must (mark (codes ";")) (λ _. pure (s.System p (system_of p name given)))

  abbrev pub assign_mark_by : Token → Bool → Bool → Option AssignMark
  assign_mark_by u true _ = Some m.Blocking
  assign_mark_by u false true = Some m.Nonblocking
  assign_mark_by u false false = None

  -- "=" | "<="
  unfoldable pub assign_mark : Token → Option AssignMark
  assign_mark u = assign_mark_by u (is_mark (codes "=") u) (is_mark (codes "<=") u)

  abbrev pub assign_of : Place → Lvalue → AssignMark × Expression → Statement
  assign_of p v x = s.Assign p v x.0 x.1

  unfoldable pub assign : Parser Statement
  assign = placed assign_of target (must assign_mark (λ kind. whole >>= λ a. must (mark (codes ";")) (λ _. pure (kind, a))))

  -- [ ":" id ]
  unfoldable pub label : Parser (Option Identifier)
  label = optional (mark (codes ":")) (λ _. identifier)

  module _ (inner : Parser Statement) where
    -- behind "begin"
    unfoldable pub block : Place → Parser Statement
    block p = label >>= λ _. before (is_word (codes "end")) inner n >>= λ ss. must (keyword (codes "end")) (λ _. pure (s.Block p ss))

    -- behind "if"
    unfoldable pub when : Place → Parser Statement
    when p = parenthesized whole >>= λ a. inner >>= λ first. if_next (keyword (codes "else")) (λ _. inner >>= λ other. pure (s.If p a first (Some other))) (pure (s.If p a first None))

    abbrev pub labels_of : Place → List Expression → Statement → CaseItem
    labels_of p ls a = ci.Labels p ls a

    unfoldable pub labels : Parser CaseItem
    labels = placed labels_of (list whole n) (must (mark (codes ":")) (λ _. inner))

    -- behind "default"
    unfoldable pub default_item : Place → Parser CaseItem
    default_item p = if_next (mark (codes ":")) (λ _. inner) inner >>= λ a. pure (ci.Default p a)

    -- whether it may be a default, and whether a later one may
    unfoldable pub case_item : Bool → Parser (CaseItem × Bool)
    case_item true = if_next (keyword (codes "default")) (λ p. default_item p >>= λ a. pure (a, false)) (labels >>= λ a. pure (a, true))
    case_item false = labels >>= λ a. pure (a, false)

    unfoldable pub case_items : ℕ → Bool → Parser (List CaseItem)
    case_items zero may = fails
    case_items (suc k) may = if_ahead (is_word (codes "endcase")) (pure []) (case_item may >>= λ x. case_items k x.1 >>= λ others. pure (x.0 ∷ others))

    -- behind "case" or "casez"
    unfoldable pub cases : CaseKeyword → Place → Parser Statement
    cases kind p = parenthesized whole >>= λ a. case_item true >>= λ x. case_items n x.1 >>= λ others. must (keyword (codes "endcase")) (λ _. pure (s.Case p kind a (x.0 ∷ others)))

    -- behind "for"
    unfoldable pub loop : Place → Parser Statement
    loop p = must (mark (codes "(")) (λ _. assignment >>= λ start. must (mark (codes ";")) (λ _. whole >>= λ a. must (mark (codes ";")) (λ _. assignment >>= λ step. must (mark (codes ")")) (λ _. inner >>= λ body. pure (s.For p start a step body)))))

    -- behind "repeat"
    unfoldable pub repeat : Place → Parser Statement
    repeat p = parenthesized whole >>= λ a. inner >>= λ body. pure (s.Repeat p a body)

    abbrev pub by_keyword : Place → List ℕ → Option (Parser Statement)
    by_keyword p name =
        if bytes_eq name (codes "begin") then Some (block p)
        else if bytes_eq name (codes "if") then Some (when p)
        else if bytes_eq name (codes "case") then Some (cases ck.Case p)
        else if bytes_eq name (codes "casez") then Some (cases ck.Casez p)
        else if bytes_eq name (codes "for") then Some (loop p)
        else if bytes_eq name (codes "repeat") then Some (repeat p)
        else None

    -- what stands behind the first token of a statement that isn't an assignment, by that token
    abbrev pub by_kind : Place → TokenKind → Option (Parser Statement)
    by_kind p (k.System name) = Some (task p name)
    by_kind p (k.Keyword name) = by_keyword p name
    by_kind p (k.Mark name) = if bytes_eq name (codes ";") then Some (pure (s.Null p)) else None
    by_kind p _ = None

    unfoldable pub statement_by : Token → Option (Parser Statement)
    statement_by u = by_kind u.place u.kind

    unfoldable pub statement_level : Parser Statement
    statement_level = if_next statement_by (λ p. p) assign

  -- a statement in which so many may nest, itself included
  unfoldable pub statement : ℕ → Parser Statement
  statement zero = too_deep
  statement (suc room) = statement_level (statement room)

  -- ---- declarations

  abbrev pub range_of : Place → Expression → Expression → Range
  range_of p a b = record { place = p; left = a; right = b }

  -- behind "["
  unfoldable pub range : Place → Parser Range
  range p = whole >>= λ a. must (mark (codes ":")) (λ _. whole >>= λ b. must (mark (codes "]")) (λ _. pure (range_of p a b)))

  unfoldable pub optional_range : Parser (Option Range)
  optional_range = optional (mark (codes "[")) range

  unfoldable pub parameter_type : Parser ParameterType
  parameter_type = if_next (keyword (codes "integer")) (λ _. pure t.Integer) (word (codes "signed") >>= λ signed. optional_range >>= λ r. pure (t.Vector signed r))

  abbrev pub parameter_of : Identifier → Expression → ParameterAssignment
  parameter_of i a = record { place = i.place; name = i; value = a }

  unfoldable pub parameter_assignment : Parser ParameterAssignment
  parameter_assignment = identifier >>= λ i. must (mark (codes "=")) (λ _. whole >>= λ a. pure (parameter_of i a))

  abbrev pub group_of : Place → ParameterType → List ParameterAssignment → ParameterGroup
  group_of p kind xs = record { place = p; kind = kind; assignments = xs }

  -- a group's first member
  unfoldable pub group_head : Parser ParameterGroup
  group_head = must (keyword (codes "parameter")) (λ p. parameter_type >>= λ kind. parameter_assignment >>= λ a. pure (group_of p kind (a ∷ [])))

  -- a further member
  unfoldable pub group_grow : ParameterGroup → Parser ParameterGroup
  group_grow h = parameter_assignment >>= λ a. pure (group_of h.place h.kind (h.assignments ++ a ∷ []))

  unfoldable pub parameter_groups : Parser (List ParameterGroup)
  parameter_groups = group_head >>= λ h. groups (is_word (codes "parameter")) group_head group_grow n h

  abbrev pub declaration_of : Identifier → Option Expression → DeclarationAssignment
  declaration_of i a = record { place = i.place; name = i; value = a }

  unfoldable pub value : Parser (Option Expression)
  value = optional (mark (codes "=")) (λ _. whole)

  unfoldable pub declaration_assignment : Parser DeclarationAssignment
  declaration_assignment = identifier >>= λ i. value >>= λ a. pure (declaration_of i a)

  abbrev pub variable_of : Identifier → Option VariableMore → VariableType
  variable_of i a = record { place = i.place; name = i; more = a }

  unfoldable pub variable_more : Parser (Option VariableMore)
  variable_more = if_next (mark (codes "[")) (λ p. range p >>= λ r. pure (Some (v.Words r))) (if_next (mark (codes "=")) (λ _. whole >>= λ a. pure (Some (v.Value a))) (pure None))

  unfoldable pub variable_type : Parser VariableType
  variable_type = identifier >>= λ i. variable_more >>= λ a. pure (variable_of i a)

  -- ---- ports: each with its first name

  unfoldable pub net_head : Place → Direction → Parser PortDeclaration
  net_head p direction = word (codes "wire") >>= λ wire. word (codes "signed") >>= λ signed. optional_range >>= λ r. identifier >>= λ i. pure (pd.Net p direction wire signed r (i ∷ []))

  unfoldable pub reg_head : Place → Parser PortDeclaration
  reg_head p = word (codes "signed") >>= λ signed. optional_range >>= λ r. declaration_assignment >>= λ a. pure (pd.Reg p signed r (a ∷ []))

  unfoldable pub integer_head : Place → Parser PortDeclaration
  integer_head p = declaration_assignment >>= λ a. pure (pd.Integer p (a ∷ []))

  unfoldable pub output_head : Place → Parser PortDeclaration
  output_head p = if_next (keyword (codes "reg")) (λ _. reg_head p) (if_next (keyword (codes "integer")) (λ _. integer_head p) (net_head p d.Output))

  unfoldable pub port_head : Parser PortDeclaration
  port_head = if_next (keyword (codes "input")) (λ p. net_head p d.Input) (must (keyword (codes "output")) output_head)

  -- a further name
  unfoldable pub port_grow : PortDeclaration → Parser PortDeclaration
  port_grow (pd.Net p direction wire signed r ns) = identifier >>= λ i. pure (pd.Net p direction wire signed r (ns ++ i ∷ []))
  port_grow (pd.Reg p signed r xs) = declaration_assignment >>= λ a. pure (pd.Reg p signed r (xs ++ a ∷ []))
  port_grow (pd.Integer p xs) = declaration_assignment >>= λ a. pure (pd.Integer p (xs ++ a ∷ []))

  unfoldable pub is_direction : Token → Bool
  is_direction u = is_word (codes "input") u || is_word (codes "output") u

  unfoldable pub ports : Parser (List PortDeclaration)
  ports = port_head >>= λ h. groups is_direction port_head port_grow n h

  unfoldable pub never : Token → Bool
  never u = false

  -- one declaration of ports, behind which no other stands
  unfoldable pub port_names : ℕ → PortDeclaration → Parser PortDeclaration
  port_names zero h = fails
  port_names (suc k) h = if_next (mark (codes ",")) (λ _. port_grow h >>= λ g. port_names k g) (pure h)

  unfoldable pub port : Parser PortDeclaration
  port = port_head >>= λ h. port_names n h

  -- [ plist | alist ], before ")"
  unfoldable pub module_ports : Parser Ports
  module_ports = if_ahead (is_mark (codes ")")) (pure ps.Empty) (if_ahead is_direction (ports >>= λ xs. pure (ps.Declarations xs)) (list identifier n >>= λ xs. pure (ps.Names xs)))

  -- ---- functions

  abbrev pub function_port_of : Place → ParameterType → List Identifier → FunctionPort
  function_port_of p kind is = record { place = p; kind = kind; names = is }

  unfoldable pub function_port_head : Parser FunctionPort
  function_port_head = must (keyword (codes "input")) (λ p. parameter_type >>= λ kind. identifier >>= λ i. pure (function_port_of p kind (i ∷ [])))

  unfoldable pub function_port_grow : FunctionPort → Parser FunctionPort
  function_port_grow h = identifier >>= λ i. pure (function_port_of h.place h.kind (h.names ++ i ∷ []))

  unfoldable pub function_ports : Parser (List FunctionPort)
  function_ports = function_port_head >>= λ h. groups (is_word (codes "input")) function_port_head function_port_grow n h

  unfoldable pub input_declaration : Place → Parser FunctionDeclaration
  input_declaration p = parameter_type >>= λ kind. list identifier n >>= λ is. must (mark (codes ";")) (λ _. pure (f.Input (function_port_of p kind is)))

  unfoldable pub reg_declaration : Place → Parser FunctionDeclaration
  reg_declaration p = word (codes "signed") >>= λ signed. optional_range >>= λ r. list identifier n >>= λ is. must (mark (codes ";")) (λ _. pure (f.Reg p signed r is))

  unfoldable pub integer_declaration : Place → Parser FunctionDeclaration
  integer_declaration p = list identifier n >>= λ is. must (mark (codes ";")) (λ _. pure (f.Integer p is))

  abbrev pub declaration_by_keyword : Place → List ℕ → Option (Parser FunctionDeclaration)
  declaration_by_keyword p name =
      if bytes_eq name (codes "input") then Some (input_declaration p)
      else if bytes_eq name (codes "reg") then Some (reg_declaration p)
      else if bytes_eq name (codes "integer") then Some (integer_declaration p)
      else None

  abbrev pub declaration_by_kind : Place → TokenKind → Option (Parser FunctionDeclaration)
  declaration_by_kind p (k.Keyword name) = declaration_by_keyword p name
  declaration_by_kind p _ = None

  unfoldable pub declaration_by : Token → Option (Parser FunctionDeclaration)
  declaration_by u = declaration_by_kind u.place u.kind

  abbrev pub function_of : Place → Bool → ParameterType → Identifier → Option (List FunctionPort) → List FunctionDeclaration → Statement → Function
  function_of p automatic kind i ports ds a = record { place = p; automatic = automatic; kind = kind; name = i; ports = ports; declarations = ds; statement = a }

  -- ( "(" fport { "," fport } ")" ";" | ";" )
  unfoldable pub function_header : Parser (Option (List FunctionPort))
  function_header = optional (mark (codes "(")) (λ _. function_ports >>= λ xs. must (mark (codes ")")) (λ _. pure xs)) >>= λ xs. must (mark (codes ";")) (λ _. pure xs)

  module _ (body : Parser Statement) where
    -- behind "function"
    unfoldable pub function : Place → Parser Function
    function p = word (codes "automatic") >>= λ automatic. parameter_type >>= λ kind. identifier >>= λ i. function_header >>= λ xs.
        many declaration_by (λ q. q) n >>= λ ds. body >>= λ a. must (keyword (codes "endfunction")) (λ _. pure (function_of p automatic kind i xs ds a))

  -- ---- instances

  -- behind "."
  unfoldable pub named_connection : Place → Parser Connection
  named_connection p = identifier >>= λ i. parenthesized (if_ahead (is_mark (codes ")")) (pure None) (whole >>= λ a. pure (Some a))) >>= λ a. pure (c.Named p i a)

  abbrev pub ordered_of : Place → Expression → Unit {0} → Connection
  ordered_of p a _ = c.Ordered p (Some a)

  -- an empty connection has the place p
  unfoldable pub connection : Place → Parser Connection
  connection p = if_next (mark (codes ".")) named_connection (if_ahead ends_argument (pure (c.Ordered p None)) (placed ordered_of whole (pure tt)))

  unfoldable pub connections : Place → Parser (List Connection)
  connections p = parenthesized (list (connection p) n)

  abbrev pub named_instance_of : Identifier → List Connection → NamedInstance
  named_instance_of i cs = record { place = i.place; name = i; connections = cs }

  unfoldable pub named_instance : Parser NamedInstance
  named_instance = identifier >>= λ i. connections i.place >>= λ cs. pure (named_instance_of i cs)

  abbrev pub instance_of : Identifier → Option (List Connection) → List NamedInstance → Instance
  instance_of i os is = record { place = i.place; definition = i; overrides = os; instances = is }

  -- behind the name of the module
  unfoldable pub instance : Identifier → Parser Instance
  instance i = optional (mark (codes "#")) (λ _. connections i.place) >>= λ os. list named_instance n >>= λ is. must (mark (codes ";")) (λ _. pure (instance_of i os is))

  -- ---- processes

  abbrev pub event_of : Place → Option Edge → Identifier → Event
  event_of p a i = record { place = p; edge = a; name = i }

  unfoldable pub event : Parser Event
  event = if_next (keyword (codes "posedge")) (λ p. identifier >>= λ i. pure (event_of p (Some e.Rising) i))
      (if_next (keyword (codes "negedge")) (λ p. identifier >>= λ i. pure (event_of p (Some e.Falling) i)) (identifier >>= λ i. pure (event_of i.place None i)))

  abbrev pub either_place : Option Place → Option Place → Option Place
  either_place (Some p) _ = Some p
  either_place None q = q

  -- "or" | ","
  unfoldable pub between_events : Token → Option Place
  between_events u = either_place (keyword (codes "or") u) (mark (codes ",") u)

  unfoldable pub events : Parser (List Event)
  events = event >>= λ a. many between_events (λ _. event) n >>= λ others. pure (a ∷ others)

  unfoldable pub inner_trigger : Parser Trigger
  inner_trigger = if_next (mark (codes "*")) (λ _. pure g.Parenthesized) (events >>= λ es. pure (g.Events es))

  unfoldable pub trigger : Parser Trigger
  trigger = if_next (mark (codes "*")) (λ _. pure g.Star) (parenthesized inner_trigger)

  -- ---- items

  module _ (body : Parser Statement) where
    unfoldable pub port_item : Place → Parser PortDeclaration → Parser Item
    port_item p head = head >>= λ h. port_names n h >>= λ a. must (mark (codes ";")) (λ _. pure (i.Port a))

    unfoldable pub parameter_item : ParameterKeyword → Place → Parser Item
    parameter_item kind p = parameter_type >>= λ type. list parameter_assignment n >>= λ xs. must (mark (codes ";")) (λ _. pure (i.Parameter p kind type xs))

    unfoldable pub wire_item : Place → Parser Item
    wire_item p = word (codes "signed") >>= λ signed. optional_range >>= λ r. list declaration_assignment n >>= λ xs. must (mark (codes ";")) (λ _. pure (i.Wire p signed r xs))

    unfoldable pub reg_item : Place → Parser Item
    reg_item p = word (codes "signed") >>= λ signed. optional_range >>= λ r. list variable_type n >>= λ xs. must (mark (codes ";")) (λ _. pure (i.Reg p signed r xs))

    unfoldable pub integer_item : Place → Parser Item
    integer_item p = list variable_type n >>= λ xs. must (mark (codes ";")) (λ _. pure (i.Integer p xs))

    unfoldable pub assign_item : Place → Parser Item
    assign_item p = list assignment n >>= λ xs. must (mark (codes ";")) (λ _. pure (i.Assign p xs))

    unfoldable pub initial_item : Place → Parser Item
    initial_item p = body >>= λ a. pure (i.Initial p a)

    unfoldable pub always_item : Place → Parser Item
    always_item p = must (mark (codes "@")) (λ _. trigger >>= λ on. body >>= λ a. pure (i.Always p on a))

    unfoldable pub function_item : Place → Parser Item
    function_item p = function body p >>= λ a. pure (i.Function a)

    abbrev pub item_by_keyword : Place → List ℕ → Option (Parser Item)
    item_by_keyword p name =
        if bytes_eq name (codes "input") then Some (port_item p (net_head p d.Input))
        else if bytes_eq name (codes "output") then Some (port_item p (output_head p))
        else if bytes_eq name (codes "parameter") then Some (parameter_item w.Parameter p)
        else if bytes_eq name (codes "localparam") then Some (parameter_item w.Local p)
        else if bytes_eq name (codes "wire") then Some (wire_item p)
        else if bytes_eq name (codes "reg") then Some (reg_item p)
        else if bytes_eq name (codes "integer") then Some (integer_item p)
        else if bytes_eq name (codes "assign") then Some (assign_item p)
        else if bytes_eq name (codes "initial") then Some (initial_item p)
        else if bytes_eq name (codes "always") then Some (always_item p)
        else if bytes_eq name (codes "function") then Some (function_item p)
        else None

    unfoldable pub instance_item : Place → List ℕ → Parser Item
    instance_item p name = instance (record { place = p; name = name }) >>= λ a. pure (i.Instance a)

    -- what stands behind the first token of an item, by that token
    abbrev pub item_by_kind : Place → TokenKind → Option (Parser Item)
    item_by_kind p (k.Name name) = Some (instance_item p name)
    item_by_kind p (k.Keyword name) = item_by_keyword p name
    item_by_kind p _ = None

    unfoldable pub item_by : Token → Option (Parser Item)
    item_by u = item_by_kind u.place u.kind

    -- ---- modules

    abbrev pub module_of : Place → Identifier → Option (List ParameterGroup) → Option Ports → List Item → Module
    module_of p i gs xs is = record { place = p; name = i; parameters = gs; ports = xs; items = is }

    unfoldable pub parameters : Parser (Option (List ParameterGroup))
    parameters = optional (mark (codes "#")) (λ _. parenthesized parameter_groups)

    unfoldable pub optional_ports : Parser (Option Ports)
    optional_ports = optional (mark (codes "(")) (λ _. module_ports >>= λ xs. must (mark (codes ")")) (λ _. pure xs))

    -- behind "module"
    unfoldable pub definition : Place → Parser Module
    definition p = identifier >>= λ i. parameters >>= λ gs. optional_ports >>= λ xs. must (mark (codes ";")) (λ _. many item_by (λ q. q) n >>= λ is. must (keyword (codes "endmodule")) (λ _. pure (module_of p i gs xs is)))

    abbrev pub source_of : Place → Module → List Module → Source
    source_of p a others = record { place = p; modules = a ∷ others }

    -- modules, as long as one comes
    unfoldable pub modules : Parser Source
    modules = must (keyword (codes "module")) (λ p. definition p >>= λ a. many (keyword (codes "module")) definition n >>= λ others. pure (source_of p a others))

-- ---- the whole

-- all tokens have to be read
abbrev pub all_of : {A : Type 0} → Outcome A → Outcome A
all_of (Ok (a, [])) = Ok (a, [])
all_of (Ok (a, u ∷ us)) = Err (Syntax, u ∷ us)
all_of (Err e) = Err e

-- a statement that stands in no other
abbrev pub outer : ℕ → Parser Statement
outer n = statement (whole n) (target n) n most_statements

-- all tokens, within the limits
unfoldable pub source : ℕ → Parser Source
source n = λ ts. all_of (modules (whole n) (target n) n (outer n) ts)
