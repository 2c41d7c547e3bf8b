-- Declarations, items, modules and sources: the number of each parser doesn't matter once it is more than there are tokens.
-- So the law of faults holds at each such number.
use Rattle.std.proofs.Common.{◌≡◌, ℕ, zero, suc, ◌+◌, ◌<◌, ◌≤◌, length, List, refl, ap, arith}
use Rattle.std.specs.Prelude.{codes}
use Rattle.std.specs.Str.{bytes_eq}
use Rattle.vl_base.specs.declared.place.Place.{Place}
use Rattle.vl_tree.specs.declared.token.Token.{Token}
use Rattle.vl_tree.specs.declared.token.TokenKind.{TokenKind}
use Rattle.vl_tree.specs.declared.token.TokenKind.TheVariants as k
use Rattle.vl_tree.specs.declared.tree.Identifier.{Identifier}
use Rattle.vl_tree.specs.Reading.{keyword, mark}
use Rattle.vl_tree.specs.declared.source_tree.PortDeclaration.{PortDeclaration}
use Rattle.vl_tree.specs.declared.source_tree.PortDeclaration.TheVariants as pd
use Rattle.vl_tree.specs.declared.source_tree.Direction.{Direction}
use Rattle.vl_tree.specs.declared.source_tree.Direction.TheVariants as d
use Rattle.vl_tree.specs.declared.source_tree.ParameterKeyword.{ParameterKeyword}
use Rattle.vl_tree.specs.declared.source_tree.ParameterKeyword.TheVariants as w
use Rattle.vl_tree.specs.declared.source_tree.ParameterGroup.{ParameterGroup}
use Rattle.vl_tree.specs.declared.source_tree.FunctionPort.{FunctionPort}
use Rattle.vl_tree.specs.Parsers.{Parser, pure, is_word, identifier, list}
use Rattle.vl_tree.specs.Parsing.{whole, target, outer, range, optional_range, parameter_type, parameter_assignment, group_head, group_grow, parameter_groups, value, declaration_assignment, variable_more, variable_type, net_head, reg_head, integer_head, output_head, port_head, port_grow, is_direction, ports, port_names, module_ports, function_port_head, function_port_grow, function_ports, input_declaration, reg_declaration, integer_declaration, declaration_by_kind, declaration_by, function_header, function, named_connection, ordered_of, connection, connections, named_instance, instance, event, between_events, events, inner_trigger, trigger, port_item, parameter_item, wire_item, reg_item, integer_item, assign_item, initial_item, always_item, function_item, item_by_keyword, instance_item, item_by_kind, item_by, parameters, optional_ports, definition, modules, all_of, source}
use Rattle.vl_tree.proofs.FollowsOfSource.{left}
use Rattle.vl_tree.proofs.Agreeing.{Agree, AgreeMaybe, Keeps, agree_pure, agree_bind, agree_placed, agree_if, agree_must, agree_ahead, maybe_cond, keeps_bind, keeps_if, keeps_pure, step_if, step_bind, agree_many, agree_list, agree_parenthesized, agree_optional, agree_identifier, agree_word, agree_groups, agree_each}
use Rattle.vl_tree.proofs.AgreeingTargets.{agree_whole}
use Rattle.vl_tree.proofs.AgreeingStatements.{agree_assignment, agree_outer}

module _ (n m b : ℕ) (nb : b + 1 < n) (mb : b + 1 < m) where
  n_more : b < n
  n_more = omega (arith, nb)

  m_more : b < m
  m_more = omega (arith, mb)

  wholes : Agree b (whole n) (whole m)
  wholes = agree_whole n m b nb mb

  -- ---- declarations

  range_agrees : (p : Place) → Agree b (range (whole n) (target n) n p) (range (whole m) (target m) m p)
  unfolding range
  range_agrees p = agree_bind wholes (λ a. agree_must _ (λ x. agree_bind wholes (λ e. agree_must _ (λ x. agree_pure))))

  ranges_agree : Agree b (optional_range (whole n) (target n) n) (optional_range (whole m) (target m) m)
  unfolding optional_range
  ranges_agree = agree_optional _ range_agrees

  type_agrees : Agree b (parameter_type (whole n) (target n) n) (parameter_type (whole m) (target m) m)
  unfolding parameter_type
  type_agrees = agree_if _ (λ x. agree_pure) (agree_bind (agree_word _) (λ signed. agree_bind ranges_agree (λ r. agree_pure)))

  parameter_agrees : Agree b (parameter_assignment (whole n) (target n) n) (parameter_assignment (whole m) (target m) m)
  unfolding parameter_assignment
  parameter_agrees = agree_bind agree_identifier (λ i. agree_must _ (λ x. agree_bind wholes (λ a. agree_pure)))

  group_head_agrees : Agree b (group_head (whole n) (target n) n) (group_head (whole m) (target m) m)
  unfolding group_head
  group_head_agrees = agree_must _ (λ p. agree_bind type_agrees (λ kind. agree_bind parameter_agrees (λ a. agree_pure)))

  group_grow_agrees : (g : ParameterGroup) → Agree b (group_grow (whole n) (target n) n g) (group_grow (whole m) (target m) m g)
  unfolding group_grow
  group_grow_agrees g = agree_bind parameter_agrees (λ a. agree_pure)

  groups_agree : Agree b (parameter_groups (whole n) (target n) n) (parameter_groups (whole m) (target m) m)
  unfolding parameter_groups
  groups_agree = agree_bind group_head_agrees (λ h. agree_groups (is_word (codes "parameter")) _ _ (group_grow (whole n) (target n) n) (group_grow (whole m) (target m) m) group_head_agrees group_grow_agrees n m n_more m_more h)

  declaration_agrees : Agree b (declaration_assignment (whole n) (target n) n) (declaration_assignment (whole m) (target m) m)
  unfolding declaration_assignment value
  declaration_agrees = agree_bind agree_identifier (λ i. agree_bind (agree_optional _ (λ x. wholes)) (λ a. agree_pure))

  variable_agrees : Agree b (variable_type (whole n) (target n) n) (variable_type (whole m) (target m) m)
  unfolding variable_type variable_more
  variable_agrees = agree_bind agree_identifier (λ i. agree_bind (agree_if _ (λ p. agree_bind (range_agrees p) (λ r. agree_pure)) (agree_if _ (λ x. agree_bind wholes (λ a. agree_pure)) agree_pure)) (λ a. agree_pure))

  -- ---- ports

  net_agrees : (p : Place) (direction : Direction) → Agree b (net_head (whole n) (target n) n p direction) (net_head (whole m) (target m) m p direction)
  unfolding net_head
  net_agrees p direction = agree_bind (agree_word _) (λ wire. agree_bind (agree_word _) (λ signed. agree_bind ranges_agree (λ r. agree_bind agree_identifier (λ i. agree_pure))))

  output_agrees : (p : Place) → Agree b (output_head (whole n) (target n) n p) (output_head (whole m) (target m) m p)
  unfolding output_head reg_head integer_head
  output_agrees p = agree_if _ (λ x. agree_bind (agree_word _) (λ signed. agree_bind ranges_agree (λ r. agree_bind declaration_agrees (λ a. agree_pure)))) (agree_if _ (λ x. agree_bind declaration_agrees (λ a. agree_pure)) (net_agrees p d.Output))

  port_head_agrees : Agree b (port_head (whole n) (target n) n) (port_head (whole m) (target m) m)
  unfolding port_head
  port_head_agrees = agree_if _ (λ p. net_agrees p d.Input) (agree_must _ output_agrees)

  port_grow_agrees : (g : PortDeclaration) → Agree b (port_grow (whole n) (target n) n g) (port_grow (whole m) (target m) m g)
  unfolding port_grow
  port_grow_agrees (pd.Net p direction wire signed r ns) = agree_bind agree_identifier (λ i. agree_pure)
  port_grow_agrees (pd.Reg p signed r ns) = agree_bind declaration_agrees (λ a. agree_pure)
  port_grow_agrees (pd.Integer p ns) = agree_bind declaration_agrees (λ a. agree_pure)

  ports_agree : Agree b (ports (whole n) (target n) n) (ports (whole m) (target m) m)
  unfolding ports is_direction
  ports_agree = agree_bind port_head_agrees (λ h. agree_groups (is_direction (whole n) (target n) n) _ _ (port_grow (whole n) (target n) n) (port_grow (whole m) (target m) m) port_head_agrees port_grow_agrees n m n_more m_more h)

  names_keep : (c : ℕ) (g : PortDeclaration) → Keeps (port_names (whole n) (target n) n c g)
  unfolding port_names
  names_keep zero g ts = omega arith
  names_keep (suc c) g ts = keeps_if (mark (codes ",")) _ (pure g) (λ x. keeps_bind (port_grow (whole n) (target n) n g) (λ h. port_names (whole n) (target n) n c h) (port_grow_agrees g).less (λ h. names_keep c h)) (keeps_pure g) ts

  names_same : (c e : ℕ) (g : PortDeclaration) (ts : List Token) → length ts ≤ b → length ts < c → length ts < e → port_names (whole n) (target n) n c g ts ≡ port_names (whole m) (target m) m e g ts
  unfolding port_names
  names_same zero e g ts h i j = absurd (omega (arith, i))
  names_same (suc c) zero g ts h i j = absurd (omega (arith, j))
  names_same (suc c) (suc e) g ts h i j = step_if (mark (codes ",")) _ _ _ _ ts (λ v us x y. let size = ap length y in rw (← (port_grow_agrees g).same us (omega (arith, size, h)))
      (step_bind (port_grow (whole n) (target n) n g us) _ _ (λ a vs z. let less : length vs ≤ length us = omega (arith, (port_grow_agrees g).less us, ap left z) in names_same c e a vs (omega (arith, size, h)) (omega (arith, size, i)) (omega (arith, size, j))))) refl

  names_agree : (g : PortDeclaration) → Agree b (port_names (whole n) (target n) n n g) (port_names (whole m) (target m) m m g)
  names_agree g = record { same = λ ts h. names_same n m g ts h (omega (arith, h, nb)) (omega (arith, h, mb)); less = names_keep n g }

  identifiers_agree : Agree b (list identifier n) (list identifier m)
  identifiers_agree = agree_list n m n_more m_more agree_identifier

  module_ports_agree : Agree b (module_ports (whole n) (target n) n) (module_ports (whole m) (target m) m)
  unfolding module_ports is_direction
  module_ports_agree = agree_ahead _ agree_pure (agree_ahead _ (agree_bind ports_agree (λ xs. agree_pure)) (agree_bind identifiers_agree (λ xs. agree_pure)))

  -- ---- functions

  function_port_agrees : Agree b (function_port_head (whole n) (target n) n) (function_port_head (whole m) (target m) m)
  unfolding function_port_head
  function_port_agrees = agree_must _ (λ p. agree_bind type_agrees (λ kind. agree_bind agree_identifier (λ i. agree_pure)))

  function_grow_agrees : (g : FunctionPort) → Agree b (function_port_grow (whole n) (target n) n g) (function_port_grow (whole m) (target m) m g)
  unfolding function_port_grow
  function_grow_agrees g = agree_bind agree_identifier (λ i. agree_pure)

  function_ports_agree : Agree b (function_ports (whole n) (target n) n) (function_ports (whole m) (target m) m)
  unfolding function_ports
  function_ports_agree = agree_bind function_port_agrees (λ h. agree_groups (is_word (codes "input")) _ _ (function_port_grow (whole n) (target n) n) (function_port_grow (whole m) (target m) m) function_port_agrees function_grow_agrees n m n_more m_more h)

  input_agrees : (p : Place) → Agree b (input_declaration (whole n) (target n) n p) (input_declaration (whole m) (target m) m p)
  unfolding input_declaration
  input_agrees p = agree_bind type_agrees (λ kind. agree_bind identifiers_agree (λ is. agree_must _ (λ x. agree_pure)))

  reg_agrees : (p : Place) → Agree b (reg_declaration (whole n) (target n) n p) (reg_declaration (whole m) (target m) m p)
  unfolding reg_declaration
  reg_agrees p = agree_bind (agree_word _) (λ signed. agree_bind ranges_agree (λ r. agree_bind identifiers_agree (λ is. agree_must _ (λ x. agree_pure))))

  integer_agrees : (p : Place) → Agree b (integer_declaration (whole n) (target n) n p) (integer_declaration (whole m) (target m) m p)
  unfolding integer_declaration
  integer_agrees p = agree_bind identifiers_agree (λ is. agree_must _ (λ x. agree_pure))

  declaration_kind : (p : Place) (kind : TokenKind) → AgreeMaybe b (declaration_by_kind (whole n) (target n) n p kind) (declaration_by_kind (whole m) (target m) m p kind)
  declaration_kind p (k.Keyword name) = maybe_cond (bytes_eq name (codes "input")) (AgreeMaybe.each (input_agrees p)) (maybe_cond (bytes_eq name (codes "reg")) (AgreeMaybe.each (reg_agrees p)) (maybe_cond (bytes_eq name (codes "integer")) (AgreeMaybe.each (integer_agrees p)) AgreeMaybe.neither))
  declaration_kind p (k.System name) = AgreeMaybe.neither
  declaration_kind p (k.Mark name) = AgreeMaybe.neither
  declaration_kind p (k.Number name) = AgreeMaybe.neither
  declaration_kind p (k.Str name) = AgreeMaybe.neither
  declaration_kind p (k.Name name) = AgreeMaybe.neither

  declaration_by_agrees : (v : Token) → AgreeMaybe b (declaration_by (whole n) (target n) n v) (declaration_by (whole m) (target m) m v)
  unfolding declaration_by
  declaration_by_agrees v = declaration_kind v.place v.kind

  header_agrees : Agree b (function_header (whole n) (target n) n) (function_header (whole m) (target m) m)
  unfolding function_header
  header_agrees = agree_bind (agree_optional _ (λ x. agree_bind function_ports_agree (λ xs. agree_must _ (λ x. agree_pure)))) (λ xs. agree_must _ (λ x. agree_pure))

  function_agrees : (p : Place) → Agree b (function (whole n) (target n) n (outer n) p) (function (whole m) (target m) m (outer m) p)
  unfolding function
  function_agrees p = agree_bind (agree_word _) (λ automatic. agree_bind type_agrees (λ kind. agree_bind agree_identifier (λ i. agree_bind header_agrees (λ xs. agree_bind (agree_each _ _ declaration_by_agrees n m n_more m_more)
      (λ ds. agree_bind (agree_outer n m b nb mb) (λ a. agree_must _ (λ x. agree_pure)))))))

  -- ---- instances and processes

  connection_agrees : (p : Place) → Agree b (connection (whole n) (target n) n p) (connection (whole m) (target m) m p)
  unfolding connection named_connection
  connection_agrees p = agree_if _ (λ q. agree_bind agree_identifier (λ i. agree_bind (agree_parenthesized (agree_ahead _ agree_pure (agree_bind wholes (λ a. agree_pure)))) (λ a. agree_pure)))
      (agree_ahead _ agree_pure (agree_placed (ordered_of (whole n) (target n) n) wholes agree_pure))

  connections_agree : (p : Place) → Agree b (connections (whole n) (target n) n p) (connections (whole m) (target m) m p)
  unfolding connections
  connections_agree p = agree_parenthesized (agree_list n m n_more m_more (connection_agrees p))

  named_instance_agrees : Agree b (named_instance (whole n) (target n) n) (named_instance (whole m) (target m) m)
  unfolding named_instance
  named_instance_agrees = agree_bind agree_identifier (λ i. agree_bind (connections_agree i.place) (λ cs. agree_pure))

  instance_agrees : (i : Identifier) → Agree b (instance (whole n) (target n) n i) (instance (whole m) (target m) m i)
  unfolding instance
  instance_agrees i = agree_bind (agree_optional _ (λ x. connections_agree i.place)) (λ os. agree_bind (agree_list n m n_more m_more named_instance_agrees) (λ is. agree_must _ (λ x. agree_pure)))

  event_agrees : Agree b (event (whole n) (target n) n) (event (whole m) (target m) m)
  unfolding event
  event_agrees = agree_if _ (λ p. agree_bind agree_identifier (λ i. agree_pure)) (agree_if _ (λ p. agree_bind agree_identifier (λ i. agree_pure)) (agree_bind agree_identifier (λ i. agree_pure)))

  events_agree : Agree b (events (whole n) (target n) n) (events (whole m) (target m) m)
  unfolding events between_events
  events_agree = agree_bind event_agrees (λ a. agree_bind (agree_many (between_events (whole n) (target n) n) (λ _. event (whole n) (target n) n) (λ _. event (whole m) (target m) m) (λ x. event_agrees) n m n_more m_more) (λ others. agree_pure))

  trigger_agrees : Agree b (trigger (whole n) (target n) n) (trigger (whole m) (target m) m)
  unfolding trigger inner_trigger
  trigger_agrees = agree_if _ (λ x. agree_pure) (agree_parenthesized (agree_if _ (λ x. agree_pure) (agree_bind events_agree (λ es. agree_pure))))

  -- ---- items

  port_item_agrees : (p : Place) (head other : Parser PortDeclaration) → Agree b head other → Agree b (port_item (whole n) (target n) n (outer n) p head) (port_item (whole m) (target m) m (outer m) p other)
  unfolding port_item
  port_item_agrees p head other l = agree_bind l (λ h. agree_bind (names_agree h) (λ a. agree_must _ (λ x. agree_pure)))

  parameter_item_agrees : (kind : ParameterKeyword) (p : Place) → Agree b (parameter_item (whole n) (target n) n (outer n) kind p) (parameter_item (whole m) (target m) m (outer m) kind p)
  unfolding parameter_item
  parameter_item_agrees kind p = agree_bind type_agrees (λ type. agree_bind (agree_list n m n_more m_more parameter_agrees) (λ xs. agree_must _ (λ x. agree_pure)))

  wire_item_agrees : (p : Place) → Agree b (wire_item (whole n) (target n) n (outer n) p) (wire_item (whole m) (target m) m (outer m) p)
  unfolding wire_item
  wire_item_agrees p = agree_bind (agree_word _) (λ signed. agree_bind ranges_agree (λ r. agree_bind (agree_list n m n_more m_more declaration_agrees) (λ xs. agree_must _ (λ x. agree_pure))))

  reg_item_agrees : (p : Place) → Agree b (reg_item (whole n) (target n) n (outer n) p) (reg_item (whole m) (target m) m (outer m) p)
  unfolding reg_item
  reg_item_agrees p = agree_bind (agree_word _) (λ signed. agree_bind ranges_agree (λ r. agree_bind (agree_list n m n_more m_more variable_agrees) (λ xs. agree_must _ (λ x. agree_pure))))

  integer_item_agrees : (p : Place) → Agree b (integer_item (whole n) (target n) n (outer n) p) (integer_item (whole m) (target m) m (outer m) p)
  unfolding integer_item
  integer_item_agrees p = agree_bind (agree_list n m n_more m_more variable_agrees) (λ xs. agree_must _ (λ x. agree_pure))

  assign_item_agrees : (p : Place) → Agree b (assign_item (whole n) (target n) n (outer n) p) (assign_item (whole m) (target m) m (outer m) p)
  unfolding assign_item
  assign_item_agrees p = agree_bind (agree_list n m n_more m_more (agree_assignment n m b nb mb)) (λ xs. agree_must _ (λ x. agree_pure))

  initial_item_agrees : (p : Place) → Agree b (initial_item (whole n) (target n) n (outer n) p) (initial_item (whole m) (target m) m (outer m) p)
  unfolding initial_item
  initial_item_agrees p = agree_bind (agree_outer n m b nb mb) (λ a. agree_pure)

  always_item_agrees : (p : Place) → Agree b (always_item (whole n) (target n) n (outer n) p) (always_item (whole m) (target m) m (outer m) p)
  unfolding always_item
  always_item_agrees p = agree_must _ (λ x. agree_bind trigger_agrees (λ on. agree_bind (agree_outer n m b nb mb) (λ a. agree_pure)))

  function_item_agrees : (p : Place) → Agree b (function_item (whole n) (target n) n (outer n) p) (function_item (whole m) (target m) m (outer m) p)
  unfolding function_item
  function_item_agrees p = agree_bind (function_agrees p) (λ a. agree_pure)

  instance_item_agrees : (p : Place) (name : List ℕ) → Agree b (instance_item (whole n) (target n) n (outer n) p name) (instance_item (whole m) (target m) m (outer m) p name)
  unfolding instance_item
  instance_item_agrees p name = agree_bind (instance_agrees (record { place = p; name = name })) (λ a. agree_pure)

  item_word : (p : Place) (name : List ℕ) → AgreeMaybe b (item_by_keyword (whole n) (target n) n (outer n) p name) (item_by_keyword (whole m) (target m) m (outer m) p name)
  item_word p name = maybe_cond (bytes_eq name (codes "input")) (AgreeMaybe.each (port_item_agrees p _ _ (net_agrees p d.Input))) (maybe_cond (bytes_eq name (codes "output")) (AgreeMaybe.each (port_item_agrees p _ _ (output_agrees p)))
      (maybe_cond (bytes_eq name (codes "parameter")) (AgreeMaybe.each (parameter_item_agrees w.Parameter p)) (maybe_cond (bytes_eq name (codes "localparam")) (AgreeMaybe.each (parameter_item_agrees w.Local p))
      (maybe_cond (bytes_eq name (codes "wire")) (AgreeMaybe.each (wire_item_agrees p)) (maybe_cond (bytes_eq name (codes "reg")) (AgreeMaybe.each (reg_item_agrees p))
      (maybe_cond (bytes_eq name (codes "integer")) (AgreeMaybe.each (integer_item_agrees p)) (maybe_cond (bytes_eq name (codes "assign")) (AgreeMaybe.each (assign_item_agrees p))
      (maybe_cond (bytes_eq name (codes "initial")) (AgreeMaybe.each (initial_item_agrees p)) (maybe_cond (bytes_eq name (codes "always")) (AgreeMaybe.each (always_item_agrees p))
      (maybe_cond (bytes_eq name (codes "function")) (AgreeMaybe.each (function_item_agrees p)) AgreeMaybe.neither))))))))))

  item_kind : (p : Place) (kind : TokenKind) → AgreeMaybe b (item_by_kind (whole n) (target n) n (outer n) p kind) (item_by_kind (whole m) (target m) m (outer m) p kind)
  item_kind p (k.Name name) = AgreeMaybe.each (instance_item_agrees p name)
  item_kind p (k.Keyword name) = item_word p name
  item_kind p (k.System name) = AgreeMaybe.neither
  item_kind p (k.Mark name) = AgreeMaybe.neither
  item_kind p (k.Number name) = AgreeMaybe.neither
  item_kind p (k.Str name) = AgreeMaybe.neither

  item_by_agrees : (v : Token) → AgreeMaybe b (item_by (whole n) (target n) n (outer n) v) (item_by (whole m) (target m) m (outer m) v)
  unfolding item_by
  item_by_agrees v = item_kind v.place v.kind

  -- ---- modules

  definition_agrees : (p : Place) → Agree b (definition (whole n) (target n) n (outer n) p) (definition (whole m) (target m) m (outer m) p)
  unfolding definition parameters optional_ports
  definition_agrees p = agree_bind agree_identifier (λ i. agree_bind (agree_optional _ (λ x. agree_parenthesized groups_agree)) (λ gs. agree_bind (agree_optional _ (λ x. agree_bind module_ports_agree (λ xs. agree_must _ (λ x. agree_pure))))
      (λ xs. agree_must _ (λ x. agree_bind (agree_each _ _ item_by_agrees n m n_more m_more) (λ is. agree_must _ (λ x. agree_pure))))))

  modules_agree : Agree b (modules (whole n) (target n) n (outer n)) (modules (whole m) (target m) m (outer m))
  unfolding modules
  modules_agree = agree_must _ (λ p. agree_bind (definition_agrees p) (λ a. agree_bind (agree_many (keyword (codes "module")) (definition (whole n) (target n) n (outer n)) (definition (whole m) (target m) m (outer m)) definition_agrees n m n_more m_more) (λ others. agree_pure)))

-- what is read doesn't depend on the number
pub source_agrees : (n m : ℕ) (ts : List Token) → length ts + 1 < n → length ts + 1 < m → source n ts ≡ source m ts
unfolding source
source_agrees n m ts h g = ap all_of ((modules_agree n m (length ts) h g).same ts (omega arith))
